-- Bytes behind one another.
use Rattle.std.proofs.Common.{◌≡◌, ℕ, ◌+◌, ◌≤◌, ◌<◌, List, [], ◌∷◌, ◌++◌, length, drop, refl, sym, ap, ◌∙◌, subst, arith, append_assoc, append-nil, length-append}
use Rattle.std.proofs.lemmas.List.{drop-append-le, drop-drop, drop_all}
use Rattle.ws_outbox.specs.Inside.Frames.{NoneEmpty}
use Rattle.ws_outbox.specs.Outbox.{bytes_in}

-- what is added behind the others comes last
bytes_pushed : (frames : List (List ℕ)) (frame : List ℕ) → bytes_in (frames ++ frame ∷ []) ≡ bytes_in frames ++ frame
bytes_pushed [] frame = append-nil frame
bytes_pushed (other ∷ frames) frame = ap (λ rest. other ++ rest) (bytes_pushed frames frame) ∙ sym (append_assoc other (bytes_in frames) frame)

-- what is added behind the others comes last, also behind what goes out next
pub pushed_behind : (front : List ℕ) (frames : List (List ℕ)) (frame : List ℕ) → front ++ bytes_in (frames ++ frame ∷ []) ≡ front ++ bytes_in frames ++ frame
pushed_behind front frames frame = ap (λ rest. front ++ rest) (bytes_pushed frames frame) ∙ sym (append_assoc front (bytes_in frames) frame)

-- it adds as many bytes as it has
pub length_pushed : (frames : List (List ℕ)) (frame : List ℕ) → length (bytes_in (frames ++ frame ∷ [])) ≡ length (bytes_in frames) + length frame
length_pushed frames frame = ap length (bytes_pushed frames frame) ∙ length-append (bytes_in frames) frame

-- none is empty, also if one that has some bytes is added
pub none_empty_pushed : (frames : List (List ℕ)) (frame : List ℕ) → NoneEmpty frames → 0 < length frame → NoneEmpty (frames ++ frame ∷ [])
none_empty_pushed [] frame full some = (some, tt)
none_empty_pushed (other ∷ frames) frame full some = (full.0, none_empty_pushed frames frame full.1 some)

-- a list of no bytes is empty
nothing : (bytes : List ℕ) → length bytes ≡ 0 → bytes ≡ []
nothing [] none = refl
nothing (byte ∷ bytes) none = absurd (omega (arith, none))

-- where nothing waits, what is added is all that waits
pub pushed_first : (gone : ℕ) (front frame : List ℕ) (frames : List (List ℕ)) → length front ≤ gone → length (bytes_in frames) ≡ 0 → drop gone front ++ bytes_in frames ++ frame ≡ frame ++ bytes_in frames
pushed_first gone front frame frames out none =
    let R : List ℕ → Type 0 = λ behind. drop gone front ++ behind ++ frame ≡ frame ++ behind in
    subst R (sym (nothing (bytes_in frames) none)) (ap (λ rest. rest ++ [] ++ frame) (drop_all gone front out) ∙ sym (append-nil frame))

-- what goes out is taken from the front
pub sent_within : (gone count : ℕ) (front behind : List ℕ) → count ≤ length (drop gone front) → drop count (drop gone front ++ behind) ≡ drop (gone + count) front ++ behind
sent_within gone count front behind within =
    drop-append-le count (drop gone front) behind within ∙ ap (λ rest. rest ++ behind) (drop-drop count gone front)

-- once all that goes out next is gone, what is behind it is left
pub sent_all : (gone count : ℕ) (front behind : List ℕ) → count ≤ length (drop gone front) → length front ≤ gone + count → drop count (drop gone front ++ behind) ≡ behind
sent_all gone count front behind within out =
    sent_within gone count front behind within ∙ ap (λ rest. rest ++ behind) (drop_all (gone + count) front out)
