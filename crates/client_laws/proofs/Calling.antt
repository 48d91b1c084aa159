-- A call is made, or the connection is lost.
use Rattle.std.proofs.Common.{◌≡◌, ℕ, ◌+◌, Bool, true, false, Option, Some, None, List, [], ◌∷◌, ◌++◌, map, reverse, drop, length, refl, sym, ap, ◌∙◌, subst, append_assoc}
use lib.Seq.{drop-append_seam, drop-length}
use Rattle.pad_message.specs.declared.message.Message.{Message}
use Rattle.client_copy.specs.Pad.{Pad}
use Rattle.client_copy.specs.State.{Copy}
use Rattle.client_outbox.specs.Outbox.{Unacknowledged}
use Rattle.client_requests.specs.declared.asked.Asked.{Asked}
use Rattle.client_requests.specs.declared.asked.Asked.TheVariants.{Nothing, History, Repair}
use Rattle.client_requests.specs.State as requested
use Rattle.client_requests.specs.State.{repairs, asks}
use Rattle.client_requests.specs.Calls.{without_connection}
use Rattle.pad_client.specs.State.{ClientState, with_requests}
use Rattle.pad_client.specs.Repair.{BeginsRepair, with_answered}
use Rattle.pad_client.specs.Sync.{Makes, Syncs, idle, sends_work, sends_both, own_messages}
use Rattle.client_laws.specs.Past.{Past, made, repair_begins}
use Rattle.client_laws.specs.Befalls.{made_since, past_lost}
use Rattle.client_laws.proofs.Holding.{Holds, holds_all, holds_made, holds_begins, holds_given_up, holds_none}
use Rattle.client_laws.proofs.Hearing.{HoldsOf}

-- ---- a sync

-- what is made of one outbox and the next
pub none_made : (outbox : List Unacknowledged) (past : List Past) → made_since outbox outbox past ≡ past
none_made outbox past = ap (λ (own : List Unacknowledged). reverse (map (λ (one : Unacknowledged). made one.message) own) ++ past) (drop-length outbox)

pub one_made : (outbox : List Unacknowledged) (own : Unacknowledged) (past : List Past) → made_since outbox (outbox ++ own ∷ []) past ≡ made own.message ∷ past
one_made outbox own past = ap (λ (owns : List Unacknowledged). reverse (map (λ (one : Unacknowledged). made one.message) owns) ++ past) (drop-append_seam outbox (own ∷ []))

pub two_made : (outbox : List Unacknowledged) (own other : Unacknowledged) (past : List Past)
    → made_since outbox ((outbox ++ own ∷ []) ++ other ∷ []) past ≡ made other.message ∷ made own.message ∷ past
two_made outbox own other past = ap (λ (owns : List Unacknowledged). reverse (map (λ (one : Unacknowledged). made one.message) owns) ++ past)
    (ap (drop (length outbox)) (append_assoc outbox (own ∷ []) (other ∷ [])) ∙ drop-append_seam outbox (own ∷ other ∷ []))

-- the message that is made goes last in the outbox
pub record MadeOf (before : ClientState) (message : Message) (after : ClientState) : Type 0 where
  pub own : Unacknowledged
  pub is_own : own.message ≡ message
  pub outbox : after.requests.outbox ≡ before.requests.outbox ++ own ∷ []

pub made_of : (before : ClientState) (message : Message) (wire : List ℕ) (after : ClientState) → Makes before message wire after → MadeOf before message after
made_of before message wire after is = record {
  own = record { message = message; number = Some (before.requests.last + 1) };
  is_own = refl;
  outbox = ap (λ (c : ClientState). c.requests.outbox) is.state ∙ ap (λ (s : requested.State). s.outbox) is.sends.state;
}

-- an own message is made while no repair runs
pub record MadeOne (past : List Past) (before : ClientState) (message : Message) (after : ClientState) : Type 0 where
  pub holds : Holds (made message ∷ past) false after.copy.pad after.repair
  pub quiet : repairs after.requests.asked ≡ false
  pub own : Unacknowledged
  pub is_own : own.message ≡ message
  pub outbox : after.requests.outbox ≡ before.requests.outbox ++ own ∷ []

makes_one : (past : List Past) (before : ClientState) (message : Message) (wire : List ℕ) (after : ClientState) → Makes before message wire after → repairs before.requests.asked ≡ false
    → Holds past false before.copy.pad before.repair → MadeOne past before message after
makes_one past before message wire after is quiet holds =
    let requests = is.sends.state in
    record {
      holds = subst (λ (c : ClientState). Holds (made message ∷ past) false c.copy.pad c.repair) (sym is.state)
          (subst (λ (c : Copy). Holds (made message ∷ past) false c.pad before.repair) (sym is.makes.state)
          (holds_made past before.copy.pad is.makes.pad before.repair message is.moved is.makes.received holds));
      quiet = ap (λ (c : ClientState). repairs c.requests.asked) is.state ∙ ap (λ (s : requested.State). repairs s.asked) requests ∙ quiet;
      own = record { message = message; number = Some (before.requests.last + 1) };
      is_own = refl;
      outbox = ap (λ (c : ClientState). c.requests.outbox) is.state ∙ ap (λ (s : requested.State). s.outbox) requests;
    }

-- a client in which no repair runs
quietly : (past : List Past) (client : ClientState) → repairs client.requests.asked ≡ false → HoldsOf past client → Holds past false client.copy.pad client.repair
quietly past client quiet holds = subst (λ (b : Bool). Holds past b client.copy.pad client.repair) quiet holds

loudly : (past : List Past) (client : ClientState) → repairs client.requests.asked ≡ false → Holds past false client.copy.pad client.repair → HoldsOf past client
loudly past client quiet holds = subst (λ (b : Bool). Holds past b client.copy.pad client.repair) (sym quiet) holds

pub syncs_hold : (past : List Past) (before : ClientState) (texts : List (List ℕ)) (after : ClientState) → Syncs before texts after → HoldsOf past before
    → HoldsOf (made_since before.requests.outbox after.requests.outbox past) after
syncs_hold past before texts after (idle may empty) holds = subst (λ (p : List Past). HoldsOf p before) (sym (none_made before.requests.outbox past)) holds
syncs_hold past before texts after (sends_work wires became may some due work) holds =
    let quiet = may.is_open.quiet in
    let one = makes_one past (record before { synced = [] }) work.message work.wire became work.makes quiet (quietly past before quiet holds) in
    subst (λ (p : List Past). HoldsOf p became)
    (sym (ap (λ (o : List Unacknowledged). made_since before.requests.outbox o past) one.outbox ∙ one_made before.requests.outbox one.own past ∙ ap (λ (m : Message). made m ∷ past) one.is_own))
    (loudly (made work.message ∷ past) became one.quiet one.holds)
syncs_hold past before texts after (sends_both wires became may some due both) holds =
    let quiet = may.is_open.quiet in
    let one = makes_one past (record before { synced = [] }) both.message both.wire both.middle both.makes quiet (quietly past before quiet holds) in
    let two = makes_one (made both.message ∷ past) (record both.middle { wanted = None }) both.work.message both.work.wire became both.work.makes one.quiet one.holds in
    subst (λ (p : List Past). HoldsOf p became)
    (sym (ap (λ (o : List Unacknowledged). made_since before.requests.outbox o past) (two.outbox ∙ ap (λ (o : List Unacknowledged). o ++ two.own ∷ []) one.outbox)
    ∙ two_made before.requests.outbox one.own two.own past ∙ ap (λ (m : Message). made m ∷ made one.own.message ∷ past) two.is_own ∙ ap (λ (m : Message). made both.work.message ∷ made m ∷ past) one.is_own))
    (loudly (made both.work.message ∷ made both.message ∷ past) became two.quiet two.holds)

-- ---- a repair

silent : (asked : Asked) → asks asked ≡ false → repairs asked ≡ false
silent Nothing e = refl
silent (History number fresh) e = refl
silent (Repair number) e = e

pub begins_hold : (past : List Past) (before : ClientState) (text : List ℕ) (after : ClientState) → BeginsRepair before text after → HoldsOf past before
    → HoldsOf (repair_begins (own_messages before.requests.outbox) ∷ past) after
begins_hold past before text after is holds =
    let own = own_messages before.requests.outbox in
    let pad = before.copy.pad in
    let quiet = is.question.may.open_now.quiet in
    subst (λ (c : ClientState). HoldsOf (repair_begins own ∷ past) c) (sym is.state)
    (holds_all (repair_begins own ∷ past) true pad (Some (reverse own)) (reverse own ++ pad.all) (holds_begins past pad before.repair own (quietly past before quiet holds)))

-- ---- the connection is lost

lost_holds : (past : List Past) (ran : Bool) (pad : Pad) (repair : Option (List Message)) → Holds past ran pad repair → Holds (past_lost ran past) false pad None
lost_holds past true pad repair holds = holds_given_up past pad repair holds
lost_holds past false pad repair holds = holds_none past pad repair holds

pub loses_hold : (past : List Past) (before : ClientState) → HoldsOf past before → HoldsOf (past_lost (repairs before.requests.asked) past) (with_answered (without_connection before.requests) before)
loses_hold past before holds = lost_holds past (repairs before.requests.asked) before.copy.pad before.repair holds

-- ---- a request

-- a call that leaves whether a repair runs
pub requests_hold : (past : List Past) (before : ClientState) (next : requested.State) → repairs next.asked ≡ repairs before.requests.asked → HoldsOf past before → HoldsOf past (with_requests next before)
requests_hold past before next same holds = subst (λ (b : Bool). Holds past b before.copy.pad before.repair) (sym same) holds

pub asks_quietly : (asked : Asked) → asks asked ≡ false → false ≡ repairs asked
asks_quietly asked e = sym (silent asked e)
