-- The channels of a connection and the members of a channel, after a join, a leave and a closing.
use Rattle.std.proofs.Common.{◌≡◌, ℕ, Bool, true, false, not, ◌&&◌, List, [], ◌∷◌, ◌++◌, map, filter, refl, sym, ap, subst, ◌∙◌, nat_eq, bytes_eq, append-nil}
use Rattle.std.proofs.lemmas.Bool.{eqb-true, eqb-false, eq-eqb, ne_eqb, true≢false}
use Rattle.std.proofs.lemmas.Slice.Eq.{bytes_eq-Decides}
use Rattle.std.proofs.lemmas.List.{map-append}
use Rattle.std.proofs.lemmas.List.Elements.{filter-append}
use Rattle.std.specs.List.{list_any}
use Rattle.netflux_rooms.specs.Rooms.{but}

abbrev pub channels_in : List (ℕ × List ℕ) → ℕ → List (List ℕ)
channels_in joins number = map (λ (join : ℕ × List ℕ). join.1) (filter (λ (join : ℕ × List ℕ). nat_eq number join.0) joins)

abbrev pub members_in : List (ℕ × List ℕ) → List ℕ → List ℕ
members_in joins channel = map (λ (join : ℕ × List ℕ). join.0) (filter (λ (join : ℕ × List ℕ). bytes_eq channel join.1) joins)

abbrev pub left_in : ℕ → List ℕ → List (ℕ × List ℕ) → List (ℕ × List ℕ)
left_in number channel joins = filter (λ (join : ℕ × List ℕ). not (nat_eq number join.0 && bytes_eq channel join.1)) joins

abbrev pub closed_in : ℕ → List (ℕ × List ℕ) → List (ℕ × List ℕ)
closed_in number joins = filter (λ (join : ℕ × List ℕ). not (nat_eq number join.0)) joins

abbrev pub apart_from : List ℕ → List (List ℕ) → List (List ℕ)
apart_from channel channels = filter (λ (other : List ℕ). not (bytes_eq channel other)) channels

pub same_number : (n : ℕ) → nat_eq n n ≡ true
same_number n = eq-eqb n n refl

pub same_bytes : (c : List ℕ) → bytes_eq c c ≡ true
same_bytes c = (bytes_eq-Decides c c).1 refl

pub bytes_one : (c d : List ℕ) → bytes_eq c d ≡ true → c ≡ d
bytes_one c d e = (bytes_eq-Decides c d).0 e

pub other_number : (n m : ℕ) → nat_eq n m ≡ false → nat_eq m n ≡ false
other_number n m e = ne_eqb m n (λ p. eqb-false n m e (sym p))

pub other_bytes : (c d : List ℕ) → bytes_eq c d ≡ false → bytes_eq d c ≡ false
other_bytes c d e = by (bytes_eq d c) refl
  where
    by : (b : Bool) → bytes_eq d c ≡ b → bytes_eq d c ≡ false
    by false f = f
    by true f = absurd (true≢false (sym (subst (λ x. bytes_eq c x ≡ true) (sym (bytes_one d c f)) (same_bytes c)) ∙ e))

-- a join
pub join_channels : (joins : List (ℕ × List ℕ)) (n : ℕ) (c : List ℕ) → channels_in (joins ++ (n, c) ∷ []) n ≡ channels_in joins n ++ c ∷ []
join_channels joins n c = simp (filter-append, map-append, same_number n)

pub join_others : (joins : List (ℕ × List ℕ)) (n : ℕ) (c : List ℕ) (m : ℕ) → nat_eq n m ≡ false → channels_in (joins ++ (n, c) ∷ []) m ≡ channels_in joins m
join_others joins n c m e = simp (filter-append, map-append, other_number n m e, append-nil)

pub join_members : (joins : List (ℕ × List ℕ)) (n : ℕ) (c : List ℕ) → members_in (joins ++ (n, c) ∷ []) c ≡ members_in joins c ++ n ∷ []
join_members joins n c = simp (filter-append, map-append, same_bytes c)

pub join_rooms : (joins : List (ℕ × List ℕ)) (n : ℕ) (c d : List ℕ) → bytes_eq c d ≡ false → members_in (joins ++ (n, c) ∷ []) d ≡ members_in joins d
join_rooms joins n c d e = simp (filter-append, map-append, other_bytes c d e, append-nil)

-- a leave
pub leave_channels : (n : ℕ) (c : List ℕ) (joins : List (ℕ × List ℕ)) → channels_in (left_in n c joins) n ≡ apart_from c (channels_in joins n)
leave_channels n c [] = refl
leave_channels n c (j ∷ joins) = by (nat_eq n j.0) (bytes_eq c j.1) refl refl (leave_channels n c joins)
  where
    by : (a d : Bool) → nat_eq n j.0 ≡ a → bytes_eq c j.1 ≡ d → (channels_in (left_in n c joins) n ≡ apart_from c (channels_in joins n)) → channels_in (left_in n c (j ∷ joins)) n ≡ apart_from c (channels_in (j ∷ joins) n)
    by true true e f again = simp (e, f) again
    by true false e f again = simp (e, f) (ap (λ l. j.1 ∷ l) again)
    by false d e f again = simp e again

pub leave_members : (n : ℕ) (c : List ℕ) (joins : List (ℕ × List ℕ)) → members_in (left_in n c joins) c ≡ but n (members_in joins c)
leave_members n c [] = refl
leave_members n c (j ∷ joins) = by (nat_eq n j.0) (bytes_eq c j.1) refl refl (leave_members n c joins)
  where
    by : (a d : Bool) → nat_eq n j.0 ≡ a → bytes_eq c j.1 ≡ d → (members_in (left_in n c joins) c ≡ but n (members_in joins c)) → members_in (left_in n c (j ∷ joins)) c ≡ but n (members_in (j ∷ joins) c)
    by true true e f again = simp (e, f) again
    by false true e f again = simp (e, f) (ap (λ l. j.0 ∷ l) again)
    by true false e f again = simp (e, f) again
    by false false e f again = simp (e, f) again

pub leave_others : (n : ℕ) (c : List ℕ) (m : ℕ) → nat_eq n m ≡ false → (joins : List (ℕ × List ℕ)) → channels_in (left_in n c joins) m ≡ channels_in joins m
leave_others n c m apart [] = refl
leave_others n c m apart (j ∷ joins) = by (nat_eq n j.0) (bytes_eq c j.1) (nat_eq m j.0) refl refl refl (leave_others n c m apart joins)
  where
    by : (a d b : Bool) → nat_eq n j.0 ≡ a → bytes_eq c j.1 ≡ d → nat_eq m j.0 ≡ b → (channels_in (left_in n c joins) m ≡ channels_in joins m) → channels_in (left_in n c (j ∷ joins)) m ≡ channels_in (j ∷ joins) m
    by true true true e f g again = absurd (true≢false (sym (eq-eqb n m (eqb-true n j.0 e ∙ sym (eqb-true m j.0 g))) ∙ apart))
    by true true false e f g again = simp (e, f, g) again
    by true false true e f g again = simp (e, f, g) (ap (λ l. j.1 ∷ l) again)
    by true false false e f g again = simp (e, f, g) again
    by false d true e f g again = simp (e, g) (ap (λ l. j.1 ∷ l) again)
    by false d false e f g again = simp (e, g) again

pub leave_rooms : (n : ℕ) (c d : List ℕ) → bytes_eq c d ≡ false → (joins : List (ℕ × List ℕ)) → members_in (left_in n c joins) d ≡ members_in joins d
leave_rooms n c d apart [] = refl
leave_rooms n c d apart (j ∷ joins) = by (nat_eq n j.0) (bytes_eq c j.1) (bytes_eq d j.1) refl refl refl (leave_rooms n c d apart joins)
  where
    by : (a x b : Bool) → nat_eq n j.0 ≡ a → bytes_eq c j.1 ≡ x → bytes_eq d j.1 ≡ b → (members_in (left_in n c joins) d ≡ members_in joins d) → members_in (left_in n c (j ∷ joins)) d ≡ members_in (j ∷ joins) d
    by a true true e f g again = absurd (true≢false (sym ((bytes_eq-Decides c d).1 (bytes_one c j.1 f ∙ sym (bytes_one d j.1 g))) ∙ apart))
    by true true false e f g again = simp (e, f, g) again
    by false true false e f g again = simp (e, f, g) again
    by true false true e f g again = simp (e, f, g) (ap (λ l. j.0 ∷ l) again)
    by false false true e f g again = simp (e, f, g) (ap (λ l. j.0 ∷ l) again)
    by true false false e f g again = simp (e, f, g) again
    by false false false e f g again = simp (e, f, g) again

-- a closing
pub close_channels : (n : ℕ) (joins : List (ℕ × List ℕ)) → channels_in (closed_in n joins) n ≡ []
close_channels n [] = refl
close_channels n (j ∷ joins) = by (nat_eq n j.0) refl (close_channels n joins)
  where
    by : (a : Bool) → nat_eq n j.0 ≡ a → (channels_in (closed_in n joins) n ≡ []) → channels_in (closed_in n (j ∷ joins)) n ≡ []
    by true e again = simp e again
    by false e again = simp e again

pub close_others : (n m : ℕ) → nat_eq n m ≡ false → (joins : List (ℕ × List ℕ)) → channels_in (closed_in n joins) m ≡ channels_in joins m
close_others n m apart [] = refl
close_others n m apart (j ∷ joins) = by (nat_eq n j.0) (nat_eq m j.0) refl refl (close_others n m apart joins)
  where
    by : (a b : Bool) → nat_eq n j.0 ≡ a → nat_eq m j.0 ≡ b → (channels_in (closed_in n joins) m ≡ channels_in joins m) → channels_in (closed_in n (j ∷ joins)) m ≡ channels_in (j ∷ joins) m
    by true true e g again = absurd (true≢false (sym (eq-eqb n m (eqb-true n j.0 e ∙ sym (eqb-true m j.0 g))) ∙ apart))
    by true false e g again = simp (e, g) again
    by false true e g again = simp (e, g) (ap (λ l. j.1 ∷ l) again)
    by false false e g again = simp (e, g) again

pub close_members : (n : ℕ) (d : List ℕ) (joins : List (ℕ × List ℕ)) → members_in (closed_in n joins) d ≡ but n (members_in joins d)
close_members n d [] = refl
close_members n d (j ∷ joins) = by (nat_eq n j.0) (bytes_eq d j.1) refl refl (close_members n d joins)
  where
    by : (a b : Bool) → nat_eq n j.0 ≡ a → bytes_eq d j.1 ≡ b → (members_in (closed_in n joins) d ≡ but n (members_in joins d)) → members_in (closed_in n (j ∷ joins)) d ≡ but n (members_in (j ∷ joins) d)
    by true true e g again = simp (e, g) again
    by true false e g again = simp (e, g) again
    by false true e g again = simp (e, g) (ap (λ l. j.0 ∷ l) again)
    by false false e g again = simp (e, g) again

-- a closing leaves the channels alone that the connection has not joined
pub close_rooms : (n : ℕ) (d : List ℕ) (joins : List (ℕ × List ℕ)) → list_any (bytes_eq d) (channels_in joins n) ≡ false → but n (members_in joins d) ≡ members_in joins d
close_rooms n d [] h = refl
close_rooms n d (j ∷ joins) h = by (nat_eq n j.0) (bytes_eq d j.1) refl refl (close_rooms n d joins)
  where
    by : (a b : Bool) → nat_eq n j.0 ≡ a → bytes_eq d j.1 ≡ b → ((list_any (bytes_eq d) (channels_in joins n) ≡ false → but n (members_in joins d) ≡ members_in joins d)) → but n (members_in (j ∷ joins) d) ≡ members_in (j ∷ joins) d
    by true true e g again = absurd (true≢false (simp (e, g) at h))
    by true false e g again = simp (e, g) (again (simp (e, g) at h))
    by false true e g again = simp (e, g) (ap (λ l. j.0 ∷ l) (again (simp (e, g) at h)))
    by false false e g again = simp (e, g) (again (simp (e, g) at h))

-- whether a connection has joined a channel is whether it is a member
pub joined_member : (n : ℕ) (c : List ℕ) (joins : List (ℕ × List ℕ)) → list_any (λ (join : ℕ × List ℕ). nat_eq n join.0 && bytes_eq c join.1) joins ≡ list_any (nat_eq n) (members_in joins c)
joined_member n c [] = refl
joined_member n c (j ∷ joins) = by (nat_eq n j.0) (bytes_eq c j.1) refl refl (joined_member n c joins)
  where
    by : (a b : Bool) → nat_eq n j.0 ≡ a → bytes_eq c j.1 ≡ b → (list_any (λ (join : ℕ × List ℕ). nat_eq n join.0 && bytes_eq c join.1) joins ≡ list_any (nat_eq n) (members_in joins c)) → list_any (λ (join : ℕ × List ℕ). nat_eq n join.0 && bytes_eq c join.1) (j ∷ joins) ≡ list_any (nat_eq n) (members_in (j ∷ joins) c)
    by true true e g again = simp (e, g)
    by true false e g again = simp (e, g) again
    by false true e g again = simp (e, g) again
    by false false e g again = simp (e, g) again
