-- Laws of the room behind a channel's list.
use Rattle.std.proofs.Common.{◌≡◌, ◌∙◌, ℕ, ◌+◌, ◌*◌, ◌≤◌, ◌&&◌, nat_le, arith, true, false, List, [], ◌∷◌, ◌++◌, length, take, drop, sym, ap, length-append, zero-add}
use Rattle.std.proofs.lemmas.Bool.Decides.{leb_tells}
use Rattle.std.proofs.lemmas.List.{take-append-drop}
use Rattle.std.proofs.lemmas.List.Sums.{sum_by-append, sum_by-cons}
use Rattle.log_format.specs.Frames.{size_of}
use Rattle.log_format.specs.Form.{most_entries_of, most_bytes_of}
use Rattle.log_format.specs.declared.layout.TheConstants.{ENTRY_HEAD, EMPTY_LOG}
use Rattle.log_format.specs.declared.form.Form.TheVariants.{Two}
use Rattle.gated_log.specs.Ledger.{has_room}
use Rattle.keeper_channel.specs.Chan.{has_marker, unmarked, moved, channel_room}
use Rattle.keeper_channel.proofs.Chans.{length-unmarked, moved_append, moved_group}

pub size-cons : (payload : List ℕ) (payloads : List (List ℕ)) → size_of (payload ∷ payloads) ≡ length payload + size_of payloads
size-cons payload payloads = sum_by-cons (λ (p : List ℕ). length p) payload payloads

pub size-append : (front back : List (List ℕ)) → size_of (front ++ back) ≡ size_of front + size_of back
size-append front back = sum_by-append (λ (p : List ℕ). length p) front back

-- a marker has no bytes
pub size-unmarked : (two : List (List ℕ)) → has_marker two ≡ true → size_of two ≡ size_of (unmarked two)
size-unmarked [] some = cc
size-unmarked ([] ∷ two) some = size-cons [] two ∙ zero-add (size_of two)
size-unmarked ((byte ∷ bytes) ∷ two) some =
    size-cons (byte ∷ bytes) two ∙ ap (λ n. length (byte ∷ bytes) + n) (size-unmarked two some) ∙ sym (size-cons (byte ∷ bytes) (unmarked two))

-- the room of a log with a marker is that of the channel's list
pub room_marked : (two : List (List ℕ)) (entries bytes : ℕ) → has_marker two ≡ true → has_room Two two entries bytes ≡ channel_room (unmarked two) entries bytes
room_marked two entries bytes some =
    let list = unmarked two in
    let same : length two + entries ≡ length list + (1 + entries) = omega (arith, length-unmarked two some) in
    ap (λ n. nat_le n (most_entries_of Two) && nat_le (EMPTY_LOG + ENTRY_HEAD * n + size_of two + bytes) (most_bytes_of Two)) same
    ∙ ap (λ s. nat_le (length list + (1 + entries)) (most_entries_of Two) && nat_le (EMPTY_LOG + ENTRY_HEAD * (length list + (1 + entries)) + s + bytes) (most_bytes_of Two)) (size-unmarked two some)

-- more does not fit where less does not
less : (a b c d most most_bytes : ℕ) → a ≤ b → c ≤ d → (nat_le a most && nat_le c most_bytes) ≡ false → (nat_le b most && nat_le d most_bytes) ≡ false
less a b c d most most_bytes more more_bytes none =
    grind (arith, more, more_bytes, none, leb_tells a most, leb_tells b most, leb_tells c most_bytes, leb_tells d most_bytes)

pub no_room : (front list : List (List ℕ)) (some bytes entries more : ℕ) → length front + some ≤ length list + entries → size_of front + bytes ≤ size_of list + more
    → has_room Two front some bytes ≡ false → has_room Two list entries more ≡ false
no_room front list some bytes entries more as_many as_long none =
    less (length front + some) (length list + entries) (EMPTY_LOG + ENTRY_HEAD * (length front + some) + size_of front + bytes) (EMPTY_LOG + ENTRY_HEAD * (length list + entries) + size_of list + more)
    (most_entries_of Two) (most_bytes_of Two) as_many (omega (arith, as_many, as_long)) none

-- where a group of entries of a list finds no room while they are moved, the list has none
pub no_room_moving : (old : List (List ℕ)) (first many : ℕ)
    → has_room Two (moved (take first old)) (length (moved (take many (drop first old)))) (size_of (moved (take many (drop first old)))) ≡ false → channel_room (moved old) 0 0 ≡ false
no_room_moving old first many none =
    let front = moved (take first old) in let group = moved (take many (drop first old)) in let back = moved (drop (first + many) old) in
    let split : moved old ≡ (front ++ group) ++ back =
    sym (ap moved (take-append-drop (first + many) old)) ∙ moved_append (take (first + many) old) (drop (first + many) old) ∙ ap (λ (l : List (List ℕ)). l ++ back) (sym (moved_group old first many)) in
    let long : length (moved old) ≡ (length front + length group) + length back = ap (λ (l : List (List ℕ)). length l) split ∙ length-append (front ++ group) back ∙ ap (λ n. n + length back) (length-append front group) in
    let sized : size_of (moved old) ≡ (size_of front + size_of group) + size_of back = ap size_of split ∙ size-append (front ++ group) back ∙ ap (λ n. n + size_of back) (size-append front group) in
    no_room front (moved old) (length group) (size_of group) 1 0 (omega (arith, long)) (omega (arith, sized)) none

-- nor for anything behind it
pub no_room_more : (list : List (List ℕ)) (entries bytes : ℕ) → channel_room list 0 0 ≡ false → channel_room list entries bytes ≡ false
no_room_more list entries bytes none = no_room list list 1 0 (1 + entries) bytes (omega arith) (omega arith) none
