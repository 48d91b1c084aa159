-- Contents that all are read are received one by one.
use Rattle.std.proofs.Common.{◌≡◌, ℕ, ◌+◌, ◌≤◌, ◌<◌, List, [], ◌∷◌, ◌++◌, length, map, take, Contains, Option, None, Some, refl, sym, ap, subst, ◌∙◌, arith}
use Rattle.std.proofs.lemmas.List.{length-map}
use Rattle.std.specs.List.{AllZip}
use Rattle.std.specs.Str.{IsUtf8}
use Rattle.pad_text.specs.declared.name.Name.{Name}
use Rattle.pad_message.specs.declared.message.Message.{Message}
use Rattle.pad_message.specs.Message.{name_of}
use Rattle.pad_message.specs.Content.{Reads}
use Rattle.pad_list.specs.Number.{IsNumberOf}
use Rattle.pad_list.proofs.CallerLemmas.{contains_map, distinct_short}
use Rattle.pad_model.specs.Base.{first_base}
use Rattle.pad_model.specs.Count.{IsKnown}
use Rattle.pad_received.specs.Contents.{ReadsAs, IsOneTooMany, most_names}
use Rattle.pad_received.specs.Progress.{Progress, IsAt, progress_after}
use Rattle.pad_received.specs.declared.received.Received.{Received}
use Rattle.pad_generate.specs.Inside.Receiving.{IsReceivedOf}

push : {A B : Type 0} (R : A → B → Type 0) (xs : List A) (ys : List B) (x : A) (y : B) → AllZip R xs ys → R x y → AllZip R (xs ++ x ∷ []) (ys ++ y ∷ [])
push R [] [] x y each here = (here, tt)
push R [] (b ∷ ys) x y each here = absurd each
push R (a ∷ xs) [] x y each here = absurd each
push R (a ∷ xs) (b ∷ ys) x y each here = (each.0, push R xs ys x y each.1 here)

as_many : {A B : Type 0} (R : A → B → Type 0) (xs : List A) (ys : List B) → AllZip R xs ys → length xs ≡ length ys
as_many R [] [] each = refl
as_many R [] (b ∷ ys) each = absurd each
as_many R (a ∷ xs) [] each = absurd each
as_many R (a ∷ xs) (b ∷ ys) each = let rest = as_many R xs ys each.1 in omega (arith, rest)

-- nothing is received of no contents
pub received_first : (received : Received) → IsAt received (record { messages = []; unreadable = 0 }) → IsReceivedOf [] received
received_first received at = record { progress = record { messages = []; unreadable = 0 }; read = tt; none = refl; at = at }

-- one more content is received
pub received_more : (contents : List (List ℕ)) (content : List ℕ) (message : Message) (old new : Received) → IsUtf8 content → Reads content message → IsReceivedOf contents old
    → ((outcome : Option Message) × ReadsAs content outcome × ((progress : Progress) → IsAt old progress → IsAt new (progress_after outcome progress))) → IsReceivedOf (contents ++ content ∷ []) new
received_more contents content message old new utf8 reads so_far (None, none, goes_on) = absurd (none message (utf8, reads))
received_more contents content message old new utf8 reads so_far (Some other, spelled, goes_on) = record {
  progress = progress_after (Some other) so_far.progress;
  read = push Reads contents so_far.progress.messages content other so_far.read spelled.1;
  none = so_far.none;
  at = goes_on so_far.progress so_far.at;
}

-- so few messages do not bring one name too many
pub not_full : (contents : List (List ℕ)) (received : Received) (message : Message) (so_far : IsReceivedOf contents received) → length contents < most_names
    → IsOneTooMany so_far.progress.messages message → ⊥
not_full contents received message so_far few many =
    let messages = so_far.progress.messages in
    let named = map name_of messages in
    let short : length many.full.all ≤ length named = distinct_short many.full.all named many.full.once (λ name has.
    let known = (many.full.these name).0 has in subst (Contains named) known.2 (contains_map name_of messages known.0 known.1)) in
    omega (arith, short, length-map messages name_of, as_many Reads contents messages so_far.read, few, many.full.many)
