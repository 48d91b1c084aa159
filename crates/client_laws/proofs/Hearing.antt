-- A reply is heard.
use Rattle.std.proofs.Common.{◌≡◌, ◌⊎◌, inl, inr, ℕ, Bool, true, false, is_some, Option, Some, None, List, ◌∷◌, refl, sym, ap, ◌∙◌, subst, true≢false, if◌then◌else◌}
use Rattle.pad_message.specs.declared.message.Message.{Message}
use Rattle.pad_message.specs.Content.{Reads, SpellsOne}
use Rattle.netflux_codec.specs.declared.reply.Reply.{Reply}
use Rattle.netflux_codec.specs.declared.reply.Reply.TheVariants as reply
use Rattle.netflux_codec.specs.declared.who.Who.TheVariants as who
use Rattle.client_copy.specs.Pad.{Pad, begun}
use Rattle.client_copy.specs.State.{Copy}
use Rattle.client_copy.specs.Repair.{EndsRepair, goes_on, starts_anew, IsRepaired}
use Rattle.client_outbox.specs.Outbox.{Unacknowledged}
use Rattle.client_requests.specs.declared.asked.Asked.{Asked}
use Rattle.client_requests.specs.declared.asked.Asked.TheVariants.{Nothing, History, Repair}
use Rattle.client_requests.specs.State as requested
use Rattle.client_requests.specs.State.{repairs, used}
use Rattle.client_requests.specs.Hear.{Either}
use Rattle.pad_client.specs.declared.heard.Heard.{Heard}
use Rattle.pad_client.specs.declared.heard.Heard.TheVariants as heard
use Rattle.pad_client.specs.State.{ClientState}
use Rattle.pad_client.specs.Repair.{while_asked, with_answered}
use Rattle.pad_client.specs.Content.{HearsContent, is_counted, is_message, HearsMessage, becomes_base, is_received, is_noted, after_content, after_message}
use Rattle.pad_client.specs.Hear.{HearsReply, is_content, is_repaired, is_about, HearsAddressed, HearsAbout, HearsEnd, HearsUnknown, IsRepairsEnd, Addressed, content_of}
use Rattle.client_laws.specs.Past.{Past, took, repair_ends}
use Rattle.client_laws.specs.Befalls.{is_end, Takes, brings, brings_none, Lefts, no_more, stays, leaves, repair_told, Adds}
use Rattle.client_laws.proofs.Holding.{Holds, holds_left, holds_all, holds_counted, holds_noted, holds_received, holds_adopted, holds_ends, holds_given_up, holds_none, not_running, is_running}

abbrev pub HoldsOf : List Past → ClientState → Type 0
HoldsOf past client = Holds past (repairs client.requests.asked) client.copy.pad client.repair

-- ---- messages leave the outbox

pub holds_lefts : (runs : Bool) (pad : Pad) (repair : Option (List Message)) (old new : List Unacknowledged) (past now : List Past) → Lefts old new past now
    → Holds past runs pad repair → Holds now runs pad repair
holds_lefts runs pad repair old new past now (no_more at) holds = holds
holds_lefts runs pad repair old new past now (stays number own older newer before after more) holds = holds_lefts runs pad repair older newer before after more holds
holds_lefts runs pad repair old new past now (leaves own older newer before after more) holds = holds_left after runs pad repair own.message (holds_lefts runs pad repair older newer before after more holds)

-- ---- a content

repairs_used : (asked : Asked) → repairs (used asked) ≡ repairs asked
repairs_used Nothing = refl
repairs_used (History number fresh) = refl
repairs_used (Repair number) = refl

repairs_content : (entry : Bool) (requests : requested.State) → repairs (after_content entry requests).asked ≡ repairs requests.asked
repairs_content true requests = repairs_used requests.asked
repairs_content false requests = refl

repairs_message : (entry : Bool) (message : Message) (requests : requested.State) → repairs (after_message entry message requests).asked ≡ repairs requests.asked
repairs_message true message requests = repairs_used requests.asked
repairs_message false message requests = refl

-- a content that the client took: what holds of it with that, and whether a repair runs stays
pub record Took (past : List Past) (content : List ℕ) (before after : ClientState) : Type 0 where
  pub holds : HoldsOf (took content ∷ past) after
  pub runs_on : repairs after.requests.asked ≡ repairs before.requests.asked

took_message : SpellsOne → (past : List Past) (before : ClientState) (entry : Bool) (content : List ℕ) (message : Message) (answer : Heard) (after : ClientState) → Reads content message
    → HearsMessage before entry message answer after → HoldsOf past before → Took past content before after
took_message one past before entry content message answer after reads (becomes_base copy none adopted adopts) holds =
    let pad = before.copy.pad in
    let runs_on = repairs_message entry message before.requests in
    let not = not_running past (repairs before.requests.asked) pad before.repair holds none in
    let T : Copy → Type 0 = λ c. Holds (took content ∷ past) (repairs (after_message entry message before.requests).asked) c.pad before.repair in
    record {
      runs_on = runs_on;
      holds = subst T (sym adopts.state) (subst (λ (b : Bool). Holds (took content ∷ past) b (begun (message ∷ pad.all) adopts.base) before.repair) (sym (runs_on ∙ not))
          (holds_adopted past pad before.repair content (message ∷ pad.all) adopts.base adopted.may.may.not_repaired (subst (λ (b : Bool). Holds past b pad before.repair) not holds)));
    }
took_message one past before entry content message answer after reads (is_received moved copy none adopted room follows) holds =
    let pad = before.copy.pad in
    let runs_on = repairs_message entry message before.requests in
    let not = not_running past (repairs before.requests.asked) pad before.repair holds none in
    let T : Copy → Type 0 = λ c. Holds (took content ∷ past) (repairs (after_message entry message before.requests).asked) c.pad before.repair in
    record {
      runs_on = runs_on;
      holds = subst T (sym follows.state) (subst (λ (b : Bool). Holds (took content ∷ past) b follows.pad before.repair) (sym (runs_on ∙ not))
          (holds_received one past pad follows.pad before.repair content message moved reads follows.received (subst (λ (b : Bool). Holds past b pad before.repair) not holds)));
    }
took_message one past before entry content message answer after reads (is_noted received some room) holds =
    let pad = before.copy.pad in
    let runs_on = repairs_message entry message before.requests in
    let is = is_running past (repairs before.requests.asked) pad before.repair received holds some in
    record {
      runs_on = runs_on;
      holds = subst (λ (b : Bool). Holds (took content ∷ past) b (record pad { all = message ∷ pad.all }) (Some (message ∷ received))) (sym (runs_on ∙ is))
          (holds_all (took content ∷ past) true pad (Some (message ∷ received)) (message ∷ pad.all)
          (holds_noted one past pad received content message reads (subst (λ (r : Option (List Message)). Holds past true pad r) some (subst (λ (b : Bool). Holds past b pad before.repair) is holds))));
    }

took_content : SpellsOne → (past : List Past) (before : ClientState) (entry : Bool) (content : List ℕ) (answer : Heard) (after : ClientState)
    → HearsContent before entry content answer after → HoldsOf past before → Took past content before after
took_content one past before entry content answer after (is_counted none) holds =
    let runs_on = repairs_content entry before.requests in
    record {
      runs_on = runs_on;
      holds = subst (λ (b : Bool). Holds (took content ∷ past) b before.copy.pad before.repair) (sym runs_on)
          (holds_counted past (repairs before.requests.asked) before.copy.pad before.repair content none holds);
    }
took_content one past before entry content answer after (is_message message told became reads hears) holds = took_message one past before entry content message told became reads hears holds

-- ---- all replies

abbrev addressed_or : Addressed → Option Addressed → Addressed
addressed_or one None = one
addressed_or one (Some other) = other

same_addressed : (one other : Addressed) → Some one ≡ Some other → one ≡ other
same_addressed one other e = ap (addressed_or one) e

no_addressed : (said : Option Addressed) (addressed : Addressed) → said ≡ None → said ≡ Some addressed → ⊥
no_addressed said addressed e k = true≢false (sym (ap (λ (o : Option Addressed). is_some o) k) ∙ ap (λ (o : Option Addressed). is_some o) e)

-- where a reply brings no content, nothing was taken
takes_none : (client : ClientState) (said : Reply) (past now : List Past) → content_of said ≡ None → Takes client said past now → now ≡ past
takes_none client said past now none (brings addressed has its) = absurd (no_addressed (content_of said) addressed none has)
takes_none client said past now none (brings_none nothing) = refl

-- the end of a repair brings no content; the repair runs
end_brings_none : (client : ClientState) (said : Reply) (received : List Message) → IsRepairsEnd client said received → content_of said ≡ None
end_brings_none client (reply.HistoryEnd keeper channel total) received is = refl
end_brings_none client (reply.Ident id) received is = refl
end_brings_none client (reply.Error number word about) received is = refl
end_brings_none client (reply.Member who channel) received is = refl
end_brings_none client (reply.Ack number) received is = refl
end_brings_none client (reply.HistoryUnknown keeper channel key) received is = refl
end_brings_none client (reply.Joined number channel) received is = refl
end_brings_none client (reply.Gone id channel reason) received is = refl
end_brings_none client (reply.Entry keeper channel index moment sender content) received is = refl
end_brings_none client (reply.Msg id target content) received is = absurd is
end_brings_none client (reply.History keeper channel index sender content) received is = absurd is

end_runs : (client : ClientState) (said : Reply) (received : List Message) → IsRepairsEnd client said received → client.repair ≡ Some received
end_runs client (reply.HistoryEnd keeper channel total) received is = is.1
end_runs client (reply.Ident id) received is = absurd is
end_runs client (reply.Error number word about) received is = absurd is
end_runs client (reply.Member who channel) received is = absurd is
end_runs client (reply.Ack number) received is = absurd is
end_runs client (reply.HistoryUnknown keeper channel key) received is = absurd is
end_runs client (reply.Joined number channel) received is = absurd is
end_runs client (reply.Gone id channel reason) received is = absurd is
end_runs client (reply.Entry keeper channel index moment sender content) received is = absurd is
end_runs client (reply.Msg id target content) received is = absurd is
end_runs client (reply.History keeper channel index sender content) received is = absurd is

fold_either : {P A B C : Type 0} → Either P A B → (A → C) → (B → C) → C
fold_either (inl h) one other = one h.1
fold_either (inr h) one other = other h.1

-- what a reply without a content does to what is asked: it stays, or nothing is asked any more; and no repair ends
pub record AboutIs (before : requested.State) (said : Reply) (answer : Heard) (after : requested.State) : Type 0 where
  pub no_content : content_of said ≡ None
  pub asked : (after.asked ≡ before.asked) ⊎ (after.asked ≡ Nothing)
  pub no_end : is_end answer ≡ false

ignored : (before after : requested.State) (answer : Heard) → answer ≡ heard.Ignored → after ≡ before → ((after.asked ≡ before.asked) ⊎ (after.asked ≡ Nothing)) × (is_end answer ≡ false)
ignored before after answer told same = (inl (ap (λ (s : requested.State). s.asked) same), ap is_end told)

about_end : (asked : Asked) (before : requested.State) (total : ℕ) (answer : Heard) (after : requested.State) → HearsEnd asked before total answer after
    → ((after.asked ≡ before.asked) ⊎ (after.asked ≡ Nothing)) × (is_end answer ≡ false)
about_end Nothing before total answer after is = ignored before after answer is.told is.state
about_end (History number fresh) before total answer after is = (inr (ap (λ (s : requested.State). s.asked) is.1), ap is_end is.0)
about_end (Repair number) before total answer after is = ignored before after answer is.told is.state

about_unknown : (asked : Asked) (before : requested.State) (answer : Heard) (after : requested.State) → HearsUnknown asked before answer after
    → ((after.asked ≡ before.asked) ⊎ (after.asked ≡ Nothing)) × (is_end answer ≡ false)
about_unknown Nothing before answer after is = ignored before after answer is.told is.state
about_unknown (History number fresh) before answer after is = (inr (ap (λ (s : requested.State). s.asked) is.1), ap is_end is.0)
about_unknown (Repair number) before answer after is = ignored before after answer is.told is.state

either_end : (joins : Bool) → is_end (if joins then heard.Joined else heard.Ignored) ≡ false
either_end true = refl
either_end false = refl

acked_end : (number : ℕ) (acknowledges : Bool) → is_end (if acknowledges then heard.Acked number else heard.Ignored) ≡ false
acked_end number true = refl
acked_end number false = refl

about_is : (before : requested.State) (said : Reply) (answer : Heard) (after : requested.State) → HearsAbout before said answer after → AboutIs before said answer after
about_is before (reply.Ident id) answer after is = record { no_content = refl; asked = inl (ap (λ (s : requested.State). s.asked) is.1); no_end = ap is_end is.0 }
about_is before (reply.Error number word about) answer after is =
    let state = ap (λ (s : requested.State). s.asked) is.1.state in
    record { no_content = refl; asked = fold_either is.1.not_asked (λ h. inr (state ∙ h)) (λ h. inl (state ∙ h)); no_end = ap is_end is.0 }
about_is before (reply.Member (who.Member id) channel) answer after is = record {
  no_content = refl;
  asked = fold_either is.1 (λ h. inl (ap (λ (s : requested.State). s.asked) h.1)) (λ h. inl (ap (λ (s : requested.State). s.asked) h.1));
  no_end = ap is_end is.2 ∙ either_end is.0;
}
about_is before (reply.Member (who.Keeper id) channel) answer after is = record {
  no_content = refl;
  asked = fold_either is.1 (λ h. inl (ap (λ (s : requested.State). s.asked) h)) (λ h. inl (ap (λ (s : requested.State). s.asked) h));
  no_end = ap is_end is.0;
}
about_is before (reply.Ack number) answer after is = record {
  no_content = refl;
  asked = fold_either is.1 (λ h. inl (ap (λ (s : requested.State). s.asked) h.1))
      (λ h. fold_either h (λ k. inl (ap (λ (s : requested.State). s.asked) k.1)) (λ k. inl (ap (λ (s : requested.State). s.asked) k.1)));
  no_end = ap is_end is.2 ∙ acked_end number is.0;
}
about_is before (reply.HistoryEnd keeper channel total) answer after is =
    let h = fold_either {C = ((after.asked ≡ before.asked) ⊎ (after.asked ≡ Nothing)) × (is_end answer ≡ false)} is (λ k. about_end before.asked before total answer after k) (λ k. ignored before after answer k.told k.state) in
    record { no_content = refl; asked = h.0; no_end = h.1 }
about_is before (reply.HistoryUnknown keeper channel key) answer after is =
    let h = fold_either {C = ((after.asked ≡ before.asked) ⊎ (after.asked ≡ Nothing)) × (is_end answer ≡ false)} is (λ k. about_unknown before.asked before answer after k) (λ k. ignored before after answer k.told k.state) in
    record { no_content = refl; asked = h.0; no_end = h.1 }
about_is before (reply.Joined number channel) answer after is = record { no_content = refl; asked = inl (ap (λ (s : requested.State). s.asked) is.state); no_end = ap is_end is.told }
about_is before (reply.Gone id channel reason) answer after is = record { no_content = refl; asked = inl (ap (λ (s : requested.State). s.asked) is.state); no_end = ap is_end is.told }
about_is before (reply.Entry keeper channel index moment sender content) answer after is = record { no_content = refl; asked = inl (ap (λ (s : requested.State). s.asked) is.state); no_end = ap is_end is.told }
about_is before (reply.Msg id target content) answer after is = absurd is
about_is before (reply.History keeper channel index sender content) answer after is = absurd is

-- what is asked stays, and what a repair received is kept with it
holds_while : (past : List Past) (asked : Asked) (pad : Pad) (repair : Option (List Message)) → Holds past (repairs asked) pad repair → Holds past (repairs asked) pad (while_asked asked repair)
holds_while past Nothing pad repair holds = holds_none past pad repair holds
holds_while past (History number fresh) pad repair holds = holds_none past pad repair holds
holds_while past (Repair number) pad repair holds = holds

-- nothing is asked any more, which gives up a repair that ran
pub holds_stopped : (past : List Past) (ran : Bool) (pad : Pad) (repair : Option (List Message)) → Holds past ran pad repair → Holds (repair_told ran false false past) false pad None
holds_stopped past true pad repair holds = holds_given_up past pad repair holds
holds_stopped past false pad repair holds = holds_none past pad repair holds

told_same : (runs ends : Bool) (past : List Past) → repair_told runs runs ends past ≡ past
told_same true ends past = refl
told_same false ends past = refl

about_holds : (past : List Past) (before : ClientState) (said : Reply) (answer : Heard) (requests : requested.State) → AboutIs before.requests said answer requests → HoldsOf past before
    → Holds (repair_told (repairs before.requests.asked) (repairs requests.asked) (is_end answer) past) (repairs requests.asked) before.copy.pad (while_asked requests.asked before.repair)
about_holds past before said answer requests is holds = go is.asked
  where
    go : (requests.asked ≡ before.requests.asked) ⊎ (requests.asked ≡ Nothing) → Holds (repair_told (repairs before.requests.asked) (repairs requests.asked) (is_end answer) past) (repairs requests.asked) before.copy.pad (while_asked requests.asked before.repair)
    go (inl e) = subst (λ (asked : Asked). Holds (repair_told (repairs before.requests.asked) (repairs asked) (is_end answer) past) (repairs asked) before.copy.pad (while_asked asked before.repair)) (sym e)
        (subst (λ (p : List Past). Holds p (repairs before.requests.asked) before.copy.pad (while_asked before.requests.asked before.repair)) (sym (told_same (repairs before.requests.asked) (is_end answer) past))
        (holds_while past before.requests.asked before.copy.pad before.repair holds))
    go (inr e) = subst (λ (asked : Asked). Holds (repair_told (repairs before.requests.asked) (repairs asked) (is_end answer) past) (repairs asked) before.copy.pad (while_asked asked before.repair)) (sym e)
        (subst (λ (ends : Bool). Holds (repair_told (repairs before.requests.asked) false ends past) false before.copy.pad None) (sym is.no_end)
        (holds_stopped past (repairs before.requests.asked) before.copy.pad before.repair holds))

-- the pad of the new chain
ended_pad : (before : Copy) (received : List Message) (found : Bool) (after : Copy) → EndsRepair before received found after → IsRepaired before.pad received after.pad
ended_pad before received found after (goes_on pad path moved is leads moves) = is
ended_pad before received found after (starts_anew pad is none) = is

-- a content that the client took, or another reply that did nothing
addressed_holds : SpellsOne → (past now : List Past) (before : ClientState) (said : Reply) (addressed : Addressed) (answer : Heard) (after : ClientState) → content_of said ≡ Some addressed
    → HearsAddressed before addressed answer after → Takes before said past now → HoldsOf past before → HoldsOf now after × (repairs after.requests.asked ≡ repairs before.requests.asked)
addressed_holds one past now before said addressed answer after has (inl its) (brings other other_has other_its) holds =
    let same = same_addressed addressed other (sym has ∙ other_has) in
    let took = took_content one past before addressed.entry addressed.content answer after its.1 holds in
    (subst (λ (a : Addressed). HoldsOf (Past.took a.content ∷ past) after) same took.holds, took.runs_on)
addressed_holds one past now before said addressed answer after has (inl its) (brings_none nothing) holds = absurd (nothing addressed has its.0)
addressed_holds one past now before said addressed answer after has (inr its) (brings other other_has other_its) holds =
    absurd (its.0 (subst (λ (a : Addressed). before.requests.channel ≡ Some a.target) (sym (same_addressed addressed other (sym has ∙ other_has))) other_its))
addressed_holds one past now before said addressed answer after has (inr its) (brings_none nothing) holds =
    (subst (λ (c : ClientState). HoldsOf past c) (sym its.1.1) holds, ap (λ (c : ClientState). repairs c.requests.asked) its.1.1)

pub reply_holds : SpellsOne → (past now : List Past) (before : ClientState) (said : Reply) (answer : Heard) (after : ClientState) → HearsReply before said answer after
    → Adds before said answer after past now → HoldsOf past before → HoldsOf now after
reply_holds one past now before said answer after (is_content addressed told became has hears) adds holds =
    let taken = addressed_holds one past adds.with_content before said addressed told became has hears adds.takes holds in
    let runs = repairs became.requests.asked in
    let left_holds = holds_lefts runs became.copy.pad became.repair before.requests.outbox became.requests.outbox adds.with_content adds.with_lefts adds.lefts taken.0 in
    subst (λ (p : List Past). HoldsOf p became) (sym (adds.is_now ∙ ap (λ (b : Bool). repair_told b runs (is_end told) adds.with_lefts) (sym taken.1) ∙ told_same runs (is_end told) adds.with_lefts)) left_holds
reply_holds one past now before said answer after (is_repaired received found became is hears) adds holds =
    let runs = end_runs before said received is in
    let ran = is_running past (repairs before.requests.asked) before.copy.pad before.repair received holds runs in
    let taken = takes_none before said past adds.with_content (end_brings_none before said received is) adds.takes in
    let start : Holds adds.with_content true before.copy.pad (Some received) = subst (λ (p : List Past). Holds p true before.copy.pad (Some received)) (sym taken)
    (subst (λ (r : Option (List Message)). Holds past true before.copy.pad r) runs (subst (λ (b : Bool). Holds past b before.copy.pad before.repair) ran holds)) in
    let left_holds = holds_lefts true before.copy.pad (Some received) before.requests.outbox became.requests.outbox adds.with_content adds.with_lefts adds.lefts start in
    let ended = holds_ends adds.with_lefts before.copy.pad hears.copy.pad received (ended_pad before.copy received found hears.copy hears.ends) left_holds in
    let told : now ≡ repair_ends ∷ adds.with_lefts = adds.is_now ∙ ap (λ (b : Bool). repair_told b (repairs became.requests.asked) true adds.with_lefts) ran
    ∙ ap (λ (c : ClientState). repair_told true (repairs c.requests.asked) true adds.with_lefts) hears.state in
    subst (λ (p : List Past). HoldsOf p became) (sym told) (subst (λ (c : ClientState). HoldsOf (repair_ends ∷ adds.with_lefts) c) (sym hears.state) ended)
reply_holds one past now before said answer after (is_about told requests none about) adds holds =
    let is = about_is before.requests said told requests about in
    let taken = takes_none before said past adds.with_content is.no_content adds.takes in
    let start : HoldsOf adds.with_content before = subst (λ (p : List Past). HoldsOf p before) (sym taken) holds in
    let left_holds = holds_lefts (repairs before.requests.asked) before.copy.pad before.repair before.requests.outbox requests.outbox adds.with_content adds.with_lefts adds.lefts start in
    subst (λ (p : List Past). HoldsOf p (with_answered requests before)) (sym adds.is_now) (about_holds adds.with_lefts before said told requests is left_holds)
