-- A path leads to each item.
use Rattle.std.proofs.Common.{◌≡◌, ℕ, suc, zero, ◌+◌, ◌%◌, ◌<◌, ◌≤◌, true, false, List, [], ◌∷◌, length, sym, ◌∙◌, ap, subst, refl, arith}
use Rattle.std.specs.Prelude.{◌≢◌, Contains, ◌==◌, if◌then◌else◌}
use Rattle.std.proofs.lemmas.Bool.Decides.{nat_tests}
use Rattle.std.proofs.lemmas.List.Elements.{Contains-append_left, Contains-append_right}
use Rattle.pad_patch.specs.Misfit.{longest_text}
use Rattle.pad_patch.specs.Piece.{text_after}
use Rattle.pad_message.specs.declared.kind.TheConstants.{USUAL_INTERVAL}
use Rattle.pad_message.specs.declared.message.Message.{Message}
use Rattle.pad_message.specs.Kind.{is_checkpoint}
use Rattle.pad_message.specs.Message.{name_of}
use Rattle.pad_model.specs.Base.{first_base}
use Rattle.pad_model.specs.Path.{IsPath, Extends, IsSoundOn, text, interval, since_checkpoint}
use Rattle.pad_model.specs.Sound.{IsSound, interval_of}
use Rattle.pad_generator.specs.declared.generator.TheConstants.{MOST_MESSAGES}
use Rattle.pad_generator.specs.Words.{word}
use Rattle.pad_generator.specs.Item.{Item, item_after, item_before, whole_text, message_on, back_of, next_message, made}
use Rattle.pad_generator.specs.Contents.{messages}
use Rattle.pad_generator.specs.Laws.{LeadsTo, EachIsSound}
use Rattle.pad_generator.proofs.OneOperation.{one_fits}
use Rattle.pad_generator.proofs.Drafts.{whole_small, on_each, IsLettered, lettered_after, each_lettered}

-- what a message has to be on top of a path that leads to an item
record Tops (message : Message) (parent : Item) (since : ℕ) : Type 0 where
  names : message.parent ≡ parent.name
  sound : IsSound message (since + 1) USUAL_INTERVAL parent.text
  usual : interval_of message.kind USUAL_INTERVAL ≡ USUAL_INTERVAL
  counts : (if is_checkpoint message.kind then 0 else since + 1) ≡ (parent.height + 1) % USUAL_INTERVAL

-- so many messages above the last checkpoint the next one is due
due_zero : (height since : ℕ) → since ≡ height % 50 → ((height + 1) % 50 == 0) ≡ true → ((since + 1) % 50 ≡ 0) × ((height + 1) % 50 ≡ 0)
due_zero height since is due =
    let zero_left : (height + 1) % 50 ≡ 0 = grind (arith, nat_tests) in
    (omega arith, zero_left)

not_due : (height since : ℕ) → since ≡ height % 50 → ((height + 1) % 50 == 0) ≡ false → since + 1 ≡ (height + 1) % 50
not_due height since is early =
    let some_left : ¬ ((height + 1) % 50 ≡ 0) = grind (arith, nat_tests) in
    omega arith

tops : (count number place : ℕ) (parent : Item) (since : ℕ) → since ≡ parent.height % 50 → count < MOST_MESSAGES → IsLettered count parent → Tops (message_on number place parent) parent since
tops count number place parent since is few lettered =
    let after = lettered_after count number place parent lettered in
    let short : length (text_after (message_on number place parent).patch parent.text) ≤ longest_text = omega (arith, after.short, after.low) in
    on_each (λ (message : Message). length (text_after message.patch parent.text) ≤ longest_text → Tops message parent since) number place parent
    (λ due short. record {
      names = refl;
      sound = record {
        fits = one_fits (whole_text parent.text) parent.text (whole_small parent.text lettered.letters).inside lettered.letters short;
        checkpoint = λ _. ((due_zero parent.height since is due).0, refl);
      };
      usual = refl;
      counts = sym (due_zero parent.height since is due).1;
    })
    (λ early operation small short. record {
      names = refl;
      sound = record {
        fits = one_fits operation parent.text small.inside lettered.letters short;
        checkpoint = λ no. absurd (cc);
      };
      usual = refl;
      counts = not_due parent.height since is early;
    })
    short

-- a path of messages leads to an item, in the intervals that the generator has
record Reaches (received : List Message) (path : List Message) (item : Item) : Type 0 where
  is_path : IsPath first_base received path
  leads : LeadsTo path item
  usual : interval first_base path ≡ USUAL_INTERVAL
  counts : since_checkpoint path ≡ item.height % 50

reaches_more : (received path : List Message) (parent : Item) (message : Message) → Reaches received path parent → Tops message parent (since_checkpoint path)
    → Contains received message → name_of message ≢ first_base.name → Reaches received (message ∷ path) (item_after parent message)
reaches_more received path parent message reached top member fresh =
    let leads = reached.leads in
    let extends : Extends first_base received message path = record { member = member; not_base = fresh; parent = top.names ∙ sym leads.name } in
    let sound : IsSoundOn first_base path message =
    subst (λ n. IsSound message (since_checkpoint path + 1) n (text first_base path)) (sym reached.usual)
    (subst (λ t. IsSound message (since_checkpoint path + 1) USUAL_INTERVAL t) (sym leads.text) top.sound) in
    record {
      is_path = ((extends, reached.is_path.0), (sound, reached.is_path.1));
      leads = record { name = refl; text = ap (text_after message.patch) leads.text; height = omega (arith, leads.height) };
      usual = ap (interval_of message.kind) reached.usual ∙ top.usual;
      counts = top.counts;
    }

module _ (number : ℕ) (received : List Message) (fresh : (message : Message) → Contains received message → name_of message ≢ first_base.name) where
  reached : (count back : ℕ) → count ≤ MOST_MESSAGES → ((message : Message) → Contains (messages number count) message → Contains received message)
      → (path : List Message) × Reaches received path (item_before back (made number count).items)
  reached zero zero few all = ([], record { is_path = (tt, tt); leads = record { name = refl; text = refl; height = refl }; usual = refl; counts = refl })
  reached zero (suc back) few all = ([], record { is_path = (tt, tt); leads = record { name = refl; text = refl; height = refl }; usual = refl; counts = refl })
  reached (suc count) zero few all =
      let so_far = made number count in
      let back = back_of (word number so_far.place) in
      let parent = item_before back so_far.items in
      let message = next_message number so_far in
      let below = reached count back (omega arith) (λ other is. all other (Contains-append_left (messages number count) (message ∷ []) other is)) in
      let member : Contains received message = all message (Contains-append_right (messages number count) (message ∷ []) message (0, omega arith, refl)) in
      let top = tops count number (so_far.place + 1) parent (since_checkpoint below.0) below.1.counts (omega arith) (each_lettered number count back) in
      (message ∷ below.0, reaches_more received below.0 parent message below.1 top member (fresh message member))
  reached (suc count) (suc back) few all =
      let message = next_message number (made number count) in
      reached count back (omega arith) (λ other is. all other (Contains-append_left (messages number count) (message ∷ []) other is))

pub each_is_sound : EachIsSound
each_is_sound number count back few fresh =
    let found = reached number (messages number count) fresh count back few (λ message is. is) in
    (found.0, found.1.is_path, found.1.leads)
