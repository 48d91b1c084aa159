-- A client stands for the state after a content.
use Rattle.std.proofs.Common.{◌≡◌, ℕ, ◌+◌, ◌-◌, ◌^◌, min, Bool, true, Option, None, List, ◌∷◌, sym, ◌∙◌, ap, subst, arith}
use Rattle.pad_message.specs.declared.message.Message.{Message}
use Rattle.pad_message.specs.Content.{Reads}
use Rattle.pad_model.specs.declared.base.Base.{Base}
use Rattle.pad_model.specs.Base.{Gives}
use Rattle.pad_chain.specs.declared.moved.Moved.{Moved}
use Rattle.client_copy.specs.State.{Copy}
use Rattle.client_copy.specs.Receive.{Follows}
use Rattle.client_copy.specs.Adopt.{Adopts}
use Rattle.client_copy.specs.View as copies
use Rattle.pad_client.specs.declared.heard.Heard.{Heard}
use Rattle.pad_client.specs.declared.heard.Heard.TheVariants as heard
use Rattle.pad_client.specs.State.{ClientState}
use Rattle.pad_client.specs.Content.{IsUnreadable, IsAdopted, MayBeAdopted, MeetsFull, after_content, after_message, HearsMessage, HearsContent, is_counted, is_message, becomes_base, is_received}
use Rattle.pad_client.specs.View.{View, StandsAs, StandsAsRepairs}
use Rattle.pad_client.proofs.Standing.{HasRest}
use Rattle.pad_client.proofs.Noting.{one_came, more_came}
use Rattle.pad_chain.specs.State as chains

capped : (held count : ℕ) → held ≡ min count (2 ^ 64 - 1) → min (held + 1) (2 ^ 64 - 1) ≡ min (count + 1) (2 ^ 64 - 1)
capped held count is = omega (arith, is)

-- a content that spells no message was counted
pub counted : (held new : View) (client : ClientState) (entry : Bool) (content : List ℕ) → StandsAs held client → IsUnreadable content
    → new ≡ record held { unreadable = min (held.unreadable + 1) (2 ^ 64 - 1); requests = after_content entry held.requests }
    → (after : ClientState) × HearsContent client entry content heard.Unreadable after × StandsAs new after
counted held new client entry content stands none is = (
  record client { unreadable = client.unreadable + 1; requests = after_content entry client.requests },
  is_counted none,
  record {
    copy = subst (λ (v : copies.View). copies.StandsAs v client.copy) (sym (ap (λ (v : View). v.copy) is)) stands.copy;
    unreadable = ap (λ (v : View). v.unreadable) is ∙ capped held.unreadable client.unreadable stands.unreadable;
    wanted = ap (λ (v : View). v.wanted) is ∙ stands.wanted;
    requests = ap (λ (v : View). v.requests) is ∙ ap (after_content entry) stands.requests;
    repair = subst (λ (r : Option chains.View). StandsAsRepairs client.copy.pad.all r client.repair) (sym (ap (λ (v : View). v.repair) is)) stands.repair;
    synced = ap (λ (v : View). v.synced) is ∙ stands.synced;
  },
)

-- the working copy received or adopted a message
pub taken : (held new : View) (client : ClientState) (copy : Copy) (entry : Bool) (message : Message) → StandsAs held client → copies.StandsAs new.copy copy
    → copy.pad.all ≡ message ∷ client.copy.pad.all → HasRest held new → new.requests ≡ after_message entry message held.requests
    → StandsAs new (record client { copy = copy; requests = after_message entry message client.requests })
taken held new client copy entry message stands copy_stands all rest requests = record {
  copy = copy_stands;
  unreadable = rest.unreadable ∙ stands.unreadable;
  wanted = rest.wanted ∙ stands.wanted;
  requests = requests ∙ ap (after_message entry message) stands.requests;
  repair = subst (λ (r : Option chains.View). StandsAsRepairs copy.pad.all r client.repair) (sym rest.repair)
      (more_came client.copy.pad.all copy.pad.all held.repair client.repair (one_came client.copy.pad.all copy.pad.all message all) stands.repair);
  synced = rest.synced ∙ stands.synced;
}

-- a content that spells a message was heard as the message
pub spelled : (new : View) (client : ClientState) (entry : Bool) (content : List ℕ) (message : Message) (answer : Heard) → Reads content message
    → ((after : ClientState) × HearsMessage client entry message answer after × StandsAs new after)
    → (after : ClientState) × HearsContent client entry content answer after × StandsAs new after
spelled new client entry content message answer reads hears = (hears.0, is_message message answer hears.0 reads hears.1, hears.2)

-- a message that was adopted
pub adopted : (new : View) (client : ClientState) (entry : Bool) (message : Message) → client.repair ≡ None
    → ((copy : Copy) × IsAdopted client entry message × Adopts client.copy message copy × StandsAs new (record client { copy = copy; requests = after_message entry message client.requests }))
    → (after : ClientState) × HearsMessage client entry message heard.Adopted after × StandsAs new after
adopted new client entry message quiet given = (
  record client { copy = given.0; requests = after_message entry message client.requests },
  becomes_base given.0 quiet given.1 given.2,
  given.3,
)

-- a message that was received
pub received : (new : View) (client : ClientState) (entry : Bool) (message : Message) (moved : Moved) → client.repair ≡ None → ¬ (IsAdopted client entry message) → ¬ (MeetsFull client message)
    → ((copy : Copy) × Follows client.copy message moved copy × StandsAs new (record client { copy = copy; requests = after_message entry message client.requests }))
    → (after : ClientState) × HearsMessage client entry message (heard.Content moved) after × StandsAs new after
received new client entry message moved quiet not room given = (
  record client { copy = given.0; requests = after_message entry message client.requests },
  is_received moved given.0 quiet not room given.1,
  given.2,
)

-- a message that can be no base is not adopted
pub gives_none : (client : ClientState) (entry : Bool) (message : Message) → ((base : Base) → ¬ (Gives message base)) → ¬ (IsAdopted client entry message)
gives_none client entry message none adopted = none adopted.base adopted.gives

-- a client whose working copy stands for what it stood for
pub still : (held new : View) → copies.StandsStill held.copy new.copy → HasRest held new → new.requests ≡ held.requests → (client : ClientState) → StandsAs held client → StandsAs new client
still held new copy_still rest requests client stands = record {
  copy = copy_still client.copy stands.copy;
  unreadable = rest.unreadable ∙ stands.unreadable;
  wanted = rest.wanted ∙ stands.wanted;
  requests = requests ∙ stands.requests;
  repair = subst (λ (r : Option chains.View). StandsAsRepairs client.copy.pad.all r client.repair) (sym rest.repair) stands.repair;
  synced = rest.synced ∙ stands.synced;
}

-- an entry that may be adopted, and was
pub may_and_was : (new : View) (client : ClientState) (entry : Bool) (message : Message) → MayBeAdopted client entry
    → ((copy : Copy) × Adopts client.copy message copy × StandsAs new (record client { copy = copy; requests = after_message true message client.requests }))
    → (copy : Copy) × IsAdopted client entry message × Adopts client.copy message copy × StandsAs new (record client { copy = copy; requests = after_message entry message client.requests })
may_and_was new client entry message may given = (
  given.0,
  record { may = may; base = given.1.base; gives = given.1.gives },
  given.1,
  subst (λ (e : Bool). StandsAs new (record client { copy = given.0; requests = after_message e message client.requests })) (sym may.of_history) given.2,
)
