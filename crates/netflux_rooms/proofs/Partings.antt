-- A closed connection is taken out of its channels in turn.
use Rattle.std.proofs.Common.{◌≡◌, ℕ, Bool, true, false, ◌||◌, List, [], ◌∷◌, ◌++◌, refl, sym, ap, subst, ◌∙◌, nat_eq, bytes_eq, codes}
use Rattle.std.specs.List.{list_any}
use Rattle.std.proofs.lemmas.Bool.{true≢false}
use Rattle.std.proofs.lemmas.List.{flat_map_more}
use Rattle.netflux_codec.specs.declared.reply.Reply.TheVariants as reply
use Rattle.serve_loop.specs.declared.out.Out.{Out}
use Rattle.netflux_rooms.specs.Rooms.{but, goodbyes, tell_each}
use Rattle.netflux_rooms.specs.Tables.{members_at}
use Rattle.netflux_rooms.proofs.Joins.{bytes_one, other_bytes}

pub but_but : (n : ℕ) (l : List ℕ) → but n (but n l) ≡ but n l
but_but n [] = refl
but_but n (m ∷ l) = by (nat_eq n m) refl (but_but n l)
  where
    by : (b : Bool) → nat_eq n m ≡ b → but n (but n l) ≡ but n l → but n (but n (m ∷ l)) ≡ but n (m ∷ l)
    by true e again = simp e again
    by false e again = simp e (ap (λ k. m ∷ k) again)

any_append : (p : List ℕ → Bool) (xs : List (List ℕ)) (c : List ℕ) → list_any p (xs ++ c ∷ []) ≡ (list_any p xs || p c)
any_append p [] c = by (p c)
  where
    by : (b : Bool) → (b || false) ≡ b
    by true = refl
    by false = refl
any_append p (x ∷ xs) c = by (p x) (any_append p xs c)
  where
    by : (b : Bool) → list_any p (xs ++ c ∷ []) ≡ (list_any p xs || p c) → (b || list_any p (xs ++ c ∷ [])) ≡ ((b || list_any p xs) || p c)
    by true h = refl
    by false h = h

left_or : (a b : Bool) → b ≡ false → (a || b) ≡ true → a ≡ true
left_or true b f e = refl
left_or false b f e = absurd (true≢false (sym e ∙ f))

right_or : (a b : Bool) → b ≡ true → (a || b) ≡ true
right_or true b f = refl
right_or false b f = f

left_none : (a b : Bool) → (a || b) ≡ false → a ≡ false
left_none true b e = absurd (true≢false e)
left_none false b e = refl

-- these channels were parted from, with these outputs
pub record IsParted (first now : List (List ℕ × List ℕ)) (id : List ℕ) (n : ℕ) (done : List (List ℕ)) (outs : List Out) : Type 0 where
  pub outs_are : outs ≡ goodbyes (members_at first) id n done
  pub parted : (d : List ℕ) → list_any (bytes_eq d) done ≡ true → members_at now d ≡ but n (members_at first d)
  pub others : (d : List ℕ) → list_any (bytes_eq d) done ≡ false → members_at now d ≡ members_at first d

pub parted_same : (first now : List (List ℕ × List ℕ)) (id : List ℕ) (n : ℕ) (done : List (List ℕ)) (outs : List Out) → IsParted first now id n done outs
    → (d : List ℕ) → but n (members_at now d) ≡ but n (members_at first d)
parted_same first now id n done outs h d = by (list_any (bytes_eq d) done) refl
  where
    by : (b : Bool) → list_any (bytes_eq d) done ≡ b → but n (members_at now d) ≡ but n (members_at first d)
    by true e = ap (λ l. but n l) (h.parted d e) ∙ but_but n (members_at first d)
    by false e = ap (λ l. but n l) (h.others d e)

pub parted_more : (first now next : List (List ℕ × List ℕ)) (id : List ℕ) (n : ℕ) (done : List (List ℕ)) (outs more : List Out) (c : List ℕ) → IsParted first now id n done outs
    → more ≡ outs ++ tell_each (but n (members_at now c)) (reply.Gone id c (codes "Quit"))
    → members_at next c ≡ but n (members_at now c)
    → ((other : List ℕ) → bytes_eq c other ≡ false → members_at next other ≡ members_at now other)
    → IsParted first next id n (done ++ c ∷ []) more
parted_more first now next id n done outs more c h told here apart = record {
  outs_are = told ∙ (λ i. h.outs_are i ++ tell_each (parted_same first now id n done outs h c i) (reply.Gone id c (codes "Quit")))
      ∙ flat_map_more (λ channel. tell_each (but n (members_at first channel)) (reply.Gone id channel (codes "Quit"))) [] done c;
  parted = λ d e. gone d (bytes_eq d c) refl (sym (any_append (bytes_eq d) done c) ∙ e);
  others = λ d e. stays d (bytes_eq d c) refl (sym (any_append (bytes_eq d) done c) ∙ e);
}
  where
    gone : (d : List ℕ) (b : Bool) → bytes_eq d c ≡ b → (list_any (bytes_eq d) done || bytes_eq d c) ≡ true → members_at next d ≡ but n (members_at first d)
    gone d true f e = subst (λ x. members_at next x ≡ but n (members_at first x)) (sym (bytes_one d c f)) (here ∙ parted_same first now id n done outs h c)
    gone d false f e = apart d (other_bytes d c f) ∙ h.parted d (left_or (list_any (bytes_eq d) done) (bytes_eq d c) f e)

    stays : (d : List ℕ) (b : Bool) → bytes_eq d c ≡ b → (list_any (bytes_eq d) done || bytes_eq d c) ≡ false → members_at next d ≡ members_at first d
    stays d true f e = absurd (true≢false (sym (right_or (list_any (bytes_eq d) done) (bytes_eq d c) f) ∙ e))
    stays d false f e = apart d (other_bytes d c f) ∙ h.others d (left_none (list_any (bytes_eq d) done) (bytes_eq d c) e)
