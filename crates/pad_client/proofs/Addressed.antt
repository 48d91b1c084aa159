-- What is said of a content is said of the reply and the text that bring it.
use Rattle.std.proofs.Common.{◌≡◌, ◌∷◌, Bool, List, ℕ, Some, Result, IfOk, IfErr, inl, inr, refl, sym, ◌∙◌, ap}
use Rattle.std.proofs.lemmas.Result.{IfOk-weaker, IfErr-weaker}
use Rattle.pad_message.specs.declared.message.Message.{Message}
use Rattle.pad_message.specs.Content.{Reads}
use Rattle.netflux_codec.specs.declared.reply.Reply.{Reply}
use Rattle.netflux_codec.specs.Reply.{Replies}
use Rattle.client_copy.specs.View.{NoClash}
use Rattle.client_requests.specs.State as requested
use Rattle.pad_client.specs.declared.heard.Heard.{Heard}
use Rattle.pad_client.specs.declared.heard.Heard.TheVariants as heard
use Rattle.pad_client.specs.declared.hear_refused.HearRefused.{HearRefused}
use Rattle.pad_client.specs.declared.hear_refused.HearRefused.TheVariants.{Full}
use Rattle.pad_client.specs.State.{ClientState}
use Rattle.pad_client.specs.Content.{MeetsFull, HearsMessage, HearsContent}
use Rattle.pad_client.specs.Hear.{Addressed, content_of, HearsAddressed, HearsReply, is_content, Hears, is_strange, is_reply, IsBrought, IsBroughtBy, IsRefused}
use Rattle.pad_client.specs.View.{View, StandsAs, DiffersAfter, DiffersAfterContent, DiffersAfterReply, DiffersAfterAddressed}
use Rattle.pad_client.proofs.Taking.{spelled}

-- ---- what is heard

abbrev pub HearsIt : View → View → List ℕ → Bool → Heard → Type 0
HearsIt old new content entry answer = (client : ClientState) → StandsAs old client → DiffersAfterContent client content → (after : ClientState) × HearsContent client entry content answer after × StandsAs new after

abbrev pub HearsMessageOf : View → View → Bool → Message → Heard → Type 0
HearsMessageOf old new entry message answer =
    (client : ClientState) → StandsAs old client → NoClash client.copy.pad.all → NoClash (message ∷ client.copy.pad.all) → (after : ClientState) × HearsMessage client entry message answer after × StandsAs new after

abbrev pub HearsAddressedTo : View → View → Addressed → Heard → Type 0
HearsAddressedTo old new addressed answer =
    (client : ClientState) → StandsAs old client → DiffersAfterAddressed client addressed → (after : ClientState) × HearsAddressed client addressed answer after × StandsAs new after

abbrev pub HearsReplyOf : View → View → Reply → Heard → Type 0
HearsReplyOf old new said answer = (client : ClientState) → StandsAs old client → DiffersAfterReply client said → (after : ClientState) × HearsReply client said answer after × StandsAs new after

abbrev pub HearsText : View → View → List ℕ → Heard → Type 0
HearsText old new text answer = (client : ClientState) → StandsAs old client → DiffersAfter client text → (after : ClientState) × Hears client text answer after × StandsAs new after

-- a content that spells a message
pub by_message : (old new : View) (content : List ℕ) (entry : Bool) (message : Message) (r : Result Heard HearRefused) → Reads content message
    → IfOk r (HearsMessageOf old new entry message) → IfOk r (HearsIt old new content entry)
by_message old new content entry message r reads hears =
    IfOk-weaker r _ _ (λ answer heard client stands differs. spelled new client entry content message answer reads (heard client stands differs.0 (differs.1 message reads))) hears

channel_of : (old : View) (client : ClientState) (channel : List ℕ) → StandsAs old client → old.requests.channel ≡ Some channel → client.requests.channel ≡ Some channel
channel_of old client channel stands its = sym (ap (λ (r : requested.State). r.channel) stands.requests) ∙ its

-- a content for the client's channel
pub by_content : (old new : View) (addressed : Addressed) (r : Result Heard HearRefused) → old.requests.channel ≡ Some addressed.target
    → IfOk r (HearsIt old new addressed.content addressed.entry) → IfOk r (HearsAddressedTo old new addressed)
by_content old new addressed r its hears =
    IfOk-weaker r _ _ (λ answer heard client stands differs.
    let channel = channel_of old client addressed.target stands its in
    let given = heard client stands (differs.0, λ message reads. differs.1 message (record { its = channel; reads = reads })) in
    (given.0, inl (channel, given.1), given.2)) hears

-- one for another target
pub by_other : (old new : View) (addressed : Addressed) → new ≡ old → ¬ (old.requests.channel ≡ Some addressed.target) → HearsAddressedTo old new addressed heard.Ignored
by_other old new addressed same other client stands differs = (
  client,
  inr ((λ its. other (ap (λ (r : requested.State). r.channel) stands.requests ∙ its)), (refl, refl)),
  rw same stands,
)

-- a reply that brings a content
pub by_addressed : (old new : View) (said : Reply) (addressed : Addressed) (r : Result Heard HearRefused) → content_of said ≡ Some addressed
    → IfOk r (HearsAddressedTo old new addressed) → IfOk r (HearsReplyOf old new said)
by_addressed old new said addressed r has hears =
    IfOk-weaker r _ _ (λ answer heard client stands differs.
    let given = heard client stands (differs.0, λ message brought. differs.1 message (record { addressed = addressed; has = has; brought = brought })) in
    (given.0, is_content addressed answer given.0 has given.1, given.2)) hears

-- a text that spells a reply
pub by_reply : (old new : View) (text : List ℕ) (said : Reply) (r : Result Heard HearRefused) → Replies text said → IfOk r (HearsReplyOf old new said) → IfOk r (HearsText old new text)
by_reply old new text said r replies hears =
    IfOk-weaker r _ _ (λ answer heard client stands differs.
    let given = heard client stands (differs.0, λ message brought. differs.1 message (record { said = said; replies = replies; brought = brought })) in
    (given.0, is_reply said answer given.0 replies given.1, given.2)) hears

-- a text that spells none
pub strange : (old : View) (text : List ℕ) → ((said : Reply) → ¬ (Replies text said)) → HearsText old old text heard.Strange
strange old text none client stands differs = (client, is_strange none, stands)

-- ---- what is refused

abbrev pub FullOf : View → (ClientState → Message → Type 0) → HearRefused → Type 0
FullOf old brings refused = refused ≡ Full → (client : ClientState) → StandsAs old client → (message : Message) × brings client message × MeetsFull client message

pub full_content : (old : View) (addressed : Addressed) (r : Result Heard HearRefused) → old.requests.channel ≡ Some addressed.target
    → IfErr r (FullOf old (λ client message. Reads addressed.content message)) → IfErr r (FullOf old (λ client message. IsBrought client addressed message))
full_content old addressed r its full =
    IfErr-weaker r _ _ (λ refused why is client stands.
    let given = why is client stands in
    (given.0, record { its = channel_of old client addressed.target stands its; reads = given.1 }, given.2)) full

pub full_reply : (old : View) (said : Reply) (addressed : Addressed) (r : Result Heard HearRefused) → content_of said ≡ Some addressed
    → IfErr r (FullOf old (λ client message. IsBrought client addressed message)) → IfErr r (FullOf old (λ client message. IsBroughtBy client said message))
full_reply old said addressed r has full =
    IfErr-weaker r _ _ (λ refused why is client stands.
    let given = why is client stands in
    (given.0, record { addressed = addressed; has = has; brought = given.1 }, given.2)) full

pub full_text : (old : View) (text : List ℕ) (said : Reply) (r : Result Heard HearRefused) → Replies text said
    → IfErr r (FullOf old (λ client message. IsBroughtBy client said message)) → IfErr r (λ refused. refused ≡ Full → (client : ClientState) → StandsAs old client → IsRefused client text)
full_text old text said r replies full =
    IfErr-weaker r _ _ (λ refused why is client stands.
    let given = why is client stands in
    record { message = given.0; brings = record { said = said; replies = replies; brought = given.1 }; full = given.2 }) full
