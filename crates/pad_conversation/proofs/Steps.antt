-- One text, and one command.
use Rattle.std.proofs.Common.{◌≡◌, ◌≢◌, ◌∙◌, ◌⊎◌, ℕ, List, [], ◌∷◌, ◌++◌, Result, Ok, Err, OnErr, IfErr, inl, inr, refl, sym, ap, subst}
use Rattle.std.proofs.lemmas.List.{append-nil}
use Rattle.std.specs.Io.KnownBytes.{Appends}
use Rattle.pad_output.specs.Output.{AppendsPart}
use Rattle.pad_conversation.specs.Machine.{Machine}
use Rattle.pad_conversation.specs.Told.{Told, told}
use Rattle.pad_conversation.specs.Inside.Progress.{HasHeard, HasHeardInPart, none_came, refused_one, unwritten}
use Rattle.pad_conversation.specs.Refused.{refusal_of}
use Rattle.pad_conversation.specs.declared.refused.ConversationRefused.{ConversationRefused}
use Rattle.pad_conversation.specs.declared.refused.ConversationRefused.TheVariants as refused
use Rattle.pad_conversation.specs.declared.refused.SpeakerRefused.{SpeakerRefused}
use Rattle.pad_conversation.specs.declared.refused.SpeakerRefused.TheVariants as speaker

-- what holds of an error holds of a result that is it
pub if_err : {T : Type 0} (P : ConversationRefused → Type 0) (result : Result T ConversationRefused) (why : ConversationRefused) → result ≡ Err why → P why → IfErr result P
if_err P result why is holds = subst (λ (r : Result _ ConversationRefused). IfErr r P) (sym is) holds

-- no text was given
pub came_none : {S C : Type 0} (machine : Machine S C) (Old : S → Type 0) (link_tells : Type 0) (heard heard_now sent sent_now : List (List ℕ)) (written : _) (why : ConversationRefused) → why ≢ refused.Full
    → (link_tells → heard_now ≡ heard ++ []) → (link_tells → sent_now ≡ sent)
    → HasHeardInPart machine Old link_tells (told heard sent written) (told heard_now sent_now written) why
came_none machine Old link_tells heard heard_now sent sent_now written why other heard_is sent_is =
    none_came why other (λ t. heard_is t ∙ append-nil heard) sent_is refl

-- the speaker refused, and that is no end of the link
pub not_ended : (cause : SpeakerRefused) → refusal_of cause ≢ refused.Ended
not_ended speaker.Full = λ is. (cc)
not_ended speaker.NoMemory = λ is. (cc)

-- it refused for want of room only if the conversation ends for that
pub full_of : (cause : SpeakerRefused) → refusal_of cause ≡ refused.Full → cause ≡ speaker.Full
full_of speaker.Full is = refl
full_of speaker.NoMemory is = (cc)

-- neither cause is an end, nor want of room
pub not_ended_of : (why : ConversationRefused) → (why ≡ refused.Link) ⊎ (why ≡ refused.NoMemory) → why ≢ refused.Ended
not_ended_of why (inl is) = λ ended. (cc)
not_ended_of why (inr is) = λ ended. (cc)

pub not_full_of : (why : ConversationRefused) → (why ≡ refused.Link) ⊎ (why ≡ refused.NoMemory) → why ≢ refused.Full
not_full_of why (inl is) = λ full. (cc)
not_full_of why (inr is) = λ full. (cc)

-- what follows from a failed write holds of its result
pub wrote_part : {T : Type 0} (P : ConversationRefused → Type 0) (A : Type 0) (result : Result T ConversationRefused) → OnErr result A → IfErr result (λ why. why ≡ refused.Write) → (A → P refused.Write) → IfErr result P
wrote_part P A (Ok value) part is gives = tt
wrote_part P A (Err why) part is gives = subst P (sym is) (gives part)
