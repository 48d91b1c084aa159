-- One entry more in a list.
use Rattle.std.proofs.Common.{◌≡◌, ◌∙◌, ℕ, suc, ◌+◌, ◌≤◌, Bool, true, false, List, [], ◌∷◌, ◌++◌, length, Option, Some, None, bytes_eq, if◌then◌else◌, refl, sym, ap, subst, arith, length-append, length-drop}
use Rattle.std.proofs.lemmas.List.{append-nil}
use Rattle.std.proofs.lemmas.List.Sums.{sum_by-append, sum_by-cons}
use Rattle.std.specs.BTreeMap.{get}
use Rattle.std.specs.Option.{option_or, unwrap_or}
use Rattle.log_format.specs.Frames.{size_of}
use Rattle.pad_text.specs.declared.name.Name.{Name}
use Rattle.keeper_entry.specs.declared.index.Index.{Index}
use Rattle.keeper_entry.specs.Entry.{IsEntry, content_in}
use Rattle.keeper_entry.specs.History.{key_of, has_key, is_checkpoint, first_from, checkpoints_from, last_in, last_but_one, default_start}
use Rattle.keeper_entry.specs.Index.{IsIndex, key_cmp}

first_push : (key : Name) (index : ℕ) (payloads : List (List ℕ)) (payload : List ℕ)
    → first_from key index (payloads ++ payload ∷ []) ≡ option_or (first_from key index payloads) (if has_key key payload then Some (index + length payloads) else None)
first_push key index [] payload = let same : index ≡ index + 0 = omega arith in ap (λ n. if has_key key payload then Some n else None) same
first_push key index (first ∷ payloads) payload = choose (has_key key first) (first_push key (suc index) payloads payload)
  where
    choose : (is : Bool)
        → first_from key (suc index) (payloads ++ payload ∷ []) ≡ option_or (first_from key (suc index) payloads) (if has_key key payload then Some (suc index + length payloads) else None)
        → (if is then Some index else first_from key (suc index) (payloads ++ payload ∷ []))
        ≡ option_or (if is then Some index else first_from key (suc index) payloads) (if has_key key payload then Some (index + length (first ∷ payloads)) else None)
    choose true more = refl
    choose false more =
        let same : suc index + length payloads ≡ index + length (first ∷ payloads) = omega arith in
        more ∙ ap (λ n. option_or (first_from key (suc index) payloads) (if has_key key payload then Some n else None)) same

checkpoints_push : (index : ℕ) (payloads : List (List ℕ)) (payload : List ℕ)
    → checkpoints_from index (payloads ++ payload ∷ []) ≡ checkpoints_from index payloads ++ (if is_checkpoint (content_in payload) then (index + length payloads) ∷ [] else [])
checkpoints_push index [] payload = let same : index ≡ index + 0 = omega arith in ap (λ n. if is_checkpoint (content_in payload) then n ∷ [] else []) same
checkpoints_push index (first ∷ payloads) payload =
    let same : suc index + length payloads ≡ index + length (first ∷ payloads) = omega arith in
    choose (is_checkpoint (content_in first))
    (checkpoints_push (suc index) payloads payload ∙ ap (λ n. checkpoints_from (suc index) payloads ++ (if is_checkpoint (content_in payload) then n ∷ [] else [])) same)
  where
    choose : (is : Bool)
        → checkpoints_from (suc index) (payloads ++ payload ∷ []) ≡ checkpoints_from (suc index) payloads ++ (if is_checkpoint (content_in payload) then (index + length (first ∷ payloads)) ∷ [] else [])
        → (if is then index ∷ checkpoints_from (suc index) (payloads ++ payload ∷ []) else checkpoints_from (suc index) (payloads ++ payload ∷ []))
        ≡ (if is then index ∷ checkpoints_from (suc index) payloads else checkpoints_from (suc index) payloads) ++ (if is_checkpoint (content_in payload) then (index + length (first ∷ payloads)) ∷ [] else [])
    choose true more = ap (λ (l : List ℕ). index ∷ l) more
    choose false more = more

last_push : (indexes : List ℕ) (index : ℕ) → last_in (indexes ++ index ∷ []) ≡ Some index
last_push [] index = refl
last_push (first ∷ []) index = refl
last_push (first ∷ next ∷ indexes) index = last_push (next ∷ indexes) index

last_but_push : (indexes : List ℕ) (index : ℕ) → last_but_one (indexes ++ index ∷ []) ≡ unwrap_or (last_in indexes) 0
last_but_push [] index = refl
last_but_push (first ∷ []) index = refl
last_but_push (first ∷ next ∷ []) index = refl
last_but_push (first ∷ next ∷ third ∷ indexes) index = last_but_push (next ∷ third ∷ indexes) index

start_push : (marks : List ℕ) (index : ℕ) (is : Bool) (last : Option ℕ) → last ≡ last_in marks
    → (if is then unwrap_or last 0 else last_but_one marks) ≡ last_but_one (marks ++ (if is then index ∷ [] else []))
start_push marks index true last same = ap (λ (l : Option ℕ). unwrap_or l 0) same ∙ sym (last_but_push marks index)
start_push marks index false last same = ap last_but_one (sym (append-nil marks))

marks_push : (marks : List ℕ) (index : ℕ) (is : Bool) → (if is then Some index else last_in marks) ≡ last_in (marks ++ (if is then index ∷ [] else []))
marks_push marks index true = sym (last_push marks index)
marks_push marks index false = ap last_in (sym (append-nil marks))

-- an index that takes in one more content knows the list with one more entry
pub index_more : (old new : Index) (payloads : List (List ℕ)) (payload : List ℕ) → IsIndex old payloads → IsEntry payload
    → ((other : Name) → get key_cmp new.first other ≡ option_or (get key_cmp old.first other) (if bytes_eq (key_of (content_in payload)).0 other.0 then Some old.count else None))
    → new.start ≡ (if is_checkpoint (content_in payload) then unwrap_or old.last 0 else old.start)
    → new.last ≡ (if is_checkpoint (content_in payload) then Some old.count else old.last)
    → new.count ≡ old.count + 1 → new.bytes ≡ old.bytes + (40 + length (content_in payload))
    → IsIndex new (payloads ++ payload ∷ [])
index_more old new payloads payload is entry first start last count bytes =
    let marks = checkpoints_from 0 payloads in
    let cp = is_checkpoint (content_in payload) in
    let pushed = checkpoints_push 0 payloads payload in
    let zero_more : old.count ≡ 0 + length payloads = omega (arith, is.counted) in
    record {
      first = λ key. first key ∙ ap (λ (o : Option ℕ). option_or o (if has_key key payload then Some old.count else None)) (is.first key)
          ∙ ap (λ n. option_or (first_from key 0 payloads) (if has_key key payload then Some n else None)) zero_more ∙ sym (first_push key 0 payloads payload);
      start = start ∙ ap (λ n. if cp then unwrap_or old.last 0 else n) is.start ∙ start_push marks (0 + length payloads) cp old.last is.last ∙ ap last_but_one (sym pushed);
      last = last ∙ ap (λ (o : Option ℕ). if cp then Some old.count else o) is.last ∙ ap (λ n. if cp then Some n else last_in marks) zero_more
          ∙ marks_push marks (0 + length payloads) cp ∙ ap last_in (sym pushed);
      counted = omega (arith, count, is.counted, length-append payloads (payload ∷ []));
      sized = omega (arith, bytes, is.sized, entry.long, length-drop 40 payload, sum_by-append (λ (p : List ℕ). length p) payloads (payload ∷ []), sum_by-cons (λ (p : List ℕ). length p) payload []);
    }

-- by the content itself
pub index_at : (old new : Index) (payloads : List (List ℕ)) (payload content : List ℕ) → IsIndex old payloads → IsEntry payload → content_in payload ≡ content
    → ((other : Name) → get key_cmp new.first other ≡ option_or (get key_cmp old.first other) (if bytes_eq (key_of content).0 other.0 then Some old.count else None))
    → new.start ≡ (if is_checkpoint content then unwrap_or old.last 0 else old.start)
    → new.last ≡ (if is_checkpoint content then Some old.count else old.last)
    → new.count ≡ old.count + 1 → new.bytes ≡ old.bytes + (40 + length content)
    → IsIndex new (payloads ++ payload ∷ [])
index_at old new payloads payload content is entry same first start last count bytes =
    let P : List ℕ → Type 0 = λ c. (other : Name) → get key_cmp new.first other ≡ option_or (get key_cmp old.first other) (if bytes_eq (key_of c).0 other.0 then Some old.count else None) in
    let Q : List ℕ → Type 0 = λ c. new.start ≡ (if is_checkpoint c then unwrap_or old.last 0 else old.start) in
    let R : List ℕ → Type 0 = λ c. new.last ≡ (if is_checkpoint c then Some old.count else old.last) in
    index_more old new payloads payload is entry (subst P (sym same) first) (subst Q (sym same) start) (subst R (sym same) last) count (bytes ∙ ap (λ (c : List ℕ). old.bytes + (40 + length c)) (sym same))
