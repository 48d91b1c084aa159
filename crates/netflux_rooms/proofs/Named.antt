-- A table of identities gives the same as the first connection of an identity.
use Rattle.std.proofs.Common.{◌≡◌, ℕ, ◌+◌, ◌*◌, ◌^◌, ◌<◌, ◌≤◌, Bool, true, false, List, [], ◌∷◌, ◌++◌, take, refl, sym, ap, subst, ◌∙◌, nat_eq, bytes_eq, Some, None, arith}
use Rattle.std.specs.Int.{w64, to_be_bytes, from_be_bytes}
use Rattle.std.specs.List.{list_any}
use Rattle.std.proofs.lemmas.Bool.{true≢false, eqb-true}
use Rattle.std.proofs.lemmas.Nat.{from_be_bytes-to_be_bytes_8}
use Rattle.pad_text.specs.Digits.{IsDigits}
use Rattle.pad_text.proofs.CallerLemmas.{digits-same}
use Rattle.netflux_rooms.specs.Rooms.{Identities, Connection, named, serial_in}
use Rattle.netflux_rooms.specs.Identity.{identity, two_words}
use Rattle.netflux_rooms.specs.Tables.{AreBelow, AreApart, names_at}
use Rattle.netflux_rooms.proofs.Joins.{bytes_one, same_bytes, other_bytes, other_number}
use Rattle.netflux_rooms.proofs.Keyed.{by_channel}
use Rattle.netflux_rooms.proofs.Connections.{apart}

-- two serial numbers have two identities
pub identity_same : (key : List ℕ) (stream s t : ℕ) → s < 2 ^ 64 → t < 2 ^ 64 → IsDigits 32 (identity key stream s) → identity key stream s ≡ identity key stream t → s ≡ t
unfolding identity
identity_same key stream s t fits other is e =
    let bytes = digits-same (to_be_bytes w64 s ++ two_words key stream (2 * s)) (to_be_bytes w64 t ++ two_words key stream (2 * t)) is.each e in
    let front : to_be_bytes w64 s ≡ to_be_bytes w64 t = ap (λ (l : List ℕ). take 8 l) bytes in
    sym (from_be_bytes-to_be_bytes_8 s fits) ∙ ap (λ l. from_be_bytes w64 l) front ∙ from_be_bytes-to_be_bytes_8 t other

module _ (identities : Identities) where
  pub named_fresh : (id : List ℕ) (most : ℕ) → ((s : ℕ) → s ≤ most → bytes_eq (identities.connection s) id ≡ false) → (connected : List Connection) → AreBelow identities connected most → named identities connected id ≡ None
  named_fresh id most new [] h = refl
  named_fresh id most new (c ∷ connected) h = rw (new c.serial h.0) (named_fresh id most new connected h.2)

  pub named_push_other : (id : List ℕ) (connected : List Connection) (c : Connection) → bytes_eq (identities.connection c.serial) id ≡ false → named identities (connected ++ c ∷ []) id ≡ named identities connected id
  named_push_other id [] c e = rw e refl
  named_push_other id (d ∷ connected) c e = by (bytes_eq (identities.connection d.serial) id) refl (named_push_other id connected c e)
    where
      by : (b : Bool) → bytes_eq (identities.connection d.serial) id ≡ b → named identities (connected ++ c ∷ []) id ≡ named identities connected id → named identities (d ∷ (connected ++ c ∷ [])) id ≡ named identities (d ∷ connected) id
      by true f again = rw f refl
      by false f again = rw f again

  pub named_push_here : (connected : List Connection) (c : Connection) → named identities connected (identities.connection c.serial) ≡ None → named identities (connected ++ c ∷ []) (identities.connection c.serial) ≡ Some c.number
  named_push_here [] c h = rw (same_bytes (identities.connection c.serial)) refl
  named_push_here (d ∷ connected) c h = by (bytes_eq (identities.connection d.serial) (identities.connection c.serial)) refl (λ k. named_push_here connected c k)
    where
      by : (b : Bool) → bytes_eq (identities.connection d.serial) (identities.connection c.serial) ≡ b → (named identities connected (identities.connection c.serial) ≡ None → named identities (connected ++ c ∷ []) (identities.connection c.serial) ≡ Some c.number)
          → named identities (d ∷ (connected ++ c ∷ [])) (identities.connection c.serial) ≡ Some c.number
      by true f again = let absent : Some d.number ≡ None = rw f at h in cc
      by false f again = rw f (again (rw f at h))

  none_out : (n : ℕ) (connected : List Connection) → list_any (λ (d : Connection). nat_eq n d.number) connected ≡ false → apart n connected ≡ connected
  none_out n [] h = refl
  none_out n (d ∷ connected) h = by (nat_eq n d.number) refl (λ k. none_out n connected k)
    where
      by : (b : Bool) → nat_eq n d.number ≡ b → (list_any (λ (d : Connection). nat_eq n d.number) connected ≡ false → apart n connected ≡ connected) → apart n (d ∷ connected) ≡ d ∷ connected
      by true e again = absurd (true≢false (rw e at h))
      by false e again = rw e (ap (λ l. d ∷ l) (again (rw e at h)))

  -- an open connection is named
  pub open_named : (n : ℕ) (connected : List Connection) → list_any (λ (d : Connection). nat_eq n d.number) connected ≡ true
      → named identities connected (identities.connection (serial_in connected n)) ≡ None → ⊥
  open_named n [] is none = true≢false (sym is)
  open_named n (d ∷ connected) is none = by (nat_eq n d.number) refl (λ k m. open_named n connected k m)
    where
      by : (b : Bool) → nat_eq n d.number ≡ b
          → (list_any (λ (d : Connection). nat_eq n d.number) connected ≡ true → named identities connected (identities.connection (serial_in connected n)) ≡ None → ⊥) → ⊥
      by true e again = let absent : Some d.number ≡ None = rw (e, same_bytes (identities.connection d.serial)) at none in cc
      by false e again = inner (bytes_eq (identities.connection d.serial) (identities.connection (serial_in connected n))) refl (rw e at none) (again (rw e at is))
        where
          inner : (b : Bool) → bytes_eq (identities.connection d.serial) (identities.connection (serial_in connected n)) ≡ b
              → named identities (d ∷ connected) (identities.connection (serial_in connected n)) ≡ None
              → (named identities connected (identities.connection (serial_in connected n)) ≡ None → ⊥) → ⊥
          inner true f m go = let absent : Some d.number ≡ None = rw f at m in cc
          inner false f m go = go (rw f at m)

  -- a closing takes its identity out of the names
  pub close_named_here : (n : ℕ) (connected : List Connection) → AreApart identities connected → list_any (λ (d : Connection). nat_eq n d.number) connected ≡ true
      → named identities (apart n connected) (identities.connection (serial_in connected n)) ≡ None
  close_named_here n [] h is = absurd (true≢false (sym is))
  close_named_here n (d ∷ connected) h is = by (nat_eq n d.number) refl (λ k. close_named_here n connected h.2 k)
    where
      by : (b : Bool) → nat_eq n d.number ≡ b → (list_any (λ (d : Connection). nat_eq n d.number) connected ≡ true → named identities (apart n connected) (identities.connection (serial_in connected n)) ≡ None)
          → named identities (apart n (d ∷ connected)) (identities.connection (serial_in (d ∷ connected) n)) ≡ None
      by true e again = rw e (ap (λ l. named identities l (identities.connection d.serial))
          (none_out n connected (ap (λ m. list_any (λ (x : Connection). nat_eq m x.number) connected) (eqb-true n d.number e) ∙ h.0)) ∙ h.1)
      by false e again = rw e (inner (bytes_eq (identities.connection d.serial) (identities.connection (serial_in connected n))) refl (rw e at is) (again (rw e at is)))
        where
          inner : (b : Bool) → bytes_eq (identities.connection d.serial) (identities.connection (serial_in connected n)) ≡ b → list_any (λ (d : Connection). nat_eq n d.number) connected ≡ true
              → named identities (apart n connected) (identities.connection (serial_in connected n)) ≡ None
              → named identities (d ∷ apart n connected) (identities.connection (serial_in connected n)) ≡ None
          inner true f there again = absurd (open_named n connected there (subst (λ id. named identities connected id ≡ None) (bytes_one (identities.connection d.serial) (identities.connection (serial_in connected n)) f) h.1))
          inner false f there again = rw f again

  -- and leaves the other names
  pub close_named_other : (n : ℕ) (id : List ℕ) (connected : List Connection) → AreApart identities connected → bytes_eq (identities.connection (serial_in connected n)) id ≡ false
      → named identities (apart n connected) id ≡ named identities connected id
  close_named_other n id [] h e = refl
  close_named_other n id (d ∷ connected) h e = by (nat_eq n d.number) (bytes_eq (identities.connection d.serial) id) refl refl (λ k. close_named_other n id connected h.2 k)
    where
      by : (a b : Bool) → nat_eq n d.number ≡ a → bytes_eq (identities.connection d.serial) id ≡ b
          → (bytes_eq (identities.connection (serial_in connected n)) id ≡ false → named identities (apart n connected) id ≡ named identities connected id)
          → named identities (apart n (d ∷ connected)) id ≡ named identities (d ∷ connected) id
      by true true f g again = absurd (true≢false (sym g ∙ (rw f at e)))
      by true false f g again = rw (f, g) (ap (λ l. named identities l id) (none_out n connected (ap (λ m. list_any (λ (x : Connection). nat_eq m x.number) connected) (eqb-true n d.number f) ∙ h.0)))
      by false true f g again = rw (f, g) refl
      by false false f g again = rw (f, g) (again (rw f at e))

  -- a text that is not 32 digits names nobody
  pub named_digits : (most : ℕ) (id : List ℕ) → (IsDigits 32 id → ⊥) → (connected : List Connection) → AreBelow identities connected most → named identities connected id ≡ None
  named_digits most id none [] h = refl
  named_digits most id none (c ∷ connected) h = by (bytes_eq (identities.connection c.serial) id) refl (named_digits most id none connected h.2)
    where
      by : (b : Bool) → bytes_eq (identities.connection c.serial) id ≡ b → named identities connected id ≡ None → named identities (c ∷ connected) id ≡ None
      by true e again = absurd (none (subst (λ x. IsDigits 32 x) (bytes_one (identities.connection c.serial) id e) h.1))
      by false e again = rw e again

  pub below_push : (most : ℕ) (c : Connection) → c.serial ≡ most + 1 → IsDigits 32 (identities.connection c.serial) → (connected : List Connection) → AreBelow identities connected most → AreBelow identities (connected ++ c ∷ []) (most + 1)
  below_push most c e is [] h = (omega arith, is, tt)
  below_push most c e is (d ∷ connected) h = (let le = h.0 in omega arith, h.1, below_push most c e is connected h.2)

  pub below_apart : (n most : ℕ) (connected : List Connection) → AreBelow identities connected most → AreBelow identities (apart n connected) most
  below_apart n most [] h = tt
  below_apart n most (d ∷ connected) h = by (nat_eq n d.number) refl (below_apart n most connected h.2)
    where
      by : (b : Bool) → nat_eq n d.number ≡ b → AreBelow identities (apart n connected) most → AreBelow identities (apart n (d ∷ connected)) most
      by true e again = rw e again
      by false e again = rw e (h.0, h.1, again)

  any_push : (n : ℕ) (c : Connection) → nat_eq n c.number ≡ false → (connected : List Connection) → list_any (λ (d : Connection). nat_eq n d.number) connected ≡ false → list_any (λ (d : Connection). nat_eq n d.number) (connected ++ c ∷ []) ≡ false
  any_push n c e [] h = rw e refl
  any_push n c e (d ∷ connected) h = by (nat_eq n d.number) refl (λ k. any_push n c e connected k)
    where
      by : (b : Bool) → nat_eq n d.number ≡ b → (list_any (λ (d : Connection). nat_eq n d.number) connected ≡ false → list_any (λ (d : Connection). nat_eq n d.number) (connected ++ c ∷ []) ≡ false)
          → list_any (λ (d : Connection). nat_eq n d.number) (d ∷ (connected ++ c ∷ [])) ≡ false
      by true f again = absurd (true≢false (rw f at h))
      by false f again = rw f (again (rw f at h))

  pub apart_push : (c : Connection) (connected : List Connection) → AreApart identities connected → list_any (λ (d : Connection). nat_eq c.number d.number) connected ≡ false
      → named identities connected (identities.connection c.serial) ≡ None → AreApart identities (connected ++ c ∷ [])
  apart_push c [] h free fresh = (refl, refl, tt)
  apart_push c (d ∷ connected) h free fresh = by (nat_eq c.number d.number) (bytes_eq (identities.connection d.serial) (identities.connection c.serial)) refl refl (λ k m. apart_push c connected h.2 k m)
    where
      by : (a b : Bool) → nat_eq c.number d.number ≡ a → bytes_eq (identities.connection d.serial) (identities.connection c.serial) ≡ b
          → (list_any (λ (d : Connection). nat_eq c.number d.number) connected ≡ false → named identities connected (identities.connection c.serial) ≡ None → AreApart identities (connected ++ c ∷ []))
          → AreApart identities (d ∷ (connected ++ c ∷ []))
      by true b e f again = absurd (true≢false (rw e at free))
      by false true e f again = let absent : Some d.number ≡ None = rw f at fresh in cc
      by false false e f again = (
        any_push d.number c (other_number c.number d.number e) connected h.0,
        named_push_other (identities.connection d.serial) connected c (other_bytes (identities.connection d.serial) (identities.connection c.serial) f) ∙ h.1,
        again (rw e at free) (rw f at fresh),
      )

  any_apart : (n m : ℕ) (connected : List Connection) → list_any (λ (d : Connection). nat_eq m d.number) connected ≡ false → list_any (λ (d : Connection). nat_eq m d.number) (apart n connected) ≡ false
  any_apart n m [] h = refl
  any_apart n m (d ∷ connected) h = by (nat_eq n d.number) (nat_eq m d.number) refl refl (λ k. any_apart n m connected k)
    where
      by : (a b : Bool) → nat_eq n d.number ≡ a → nat_eq m d.number ≡ b → (list_any (λ (d : Connection). nat_eq m d.number) connected ≡ false → list_any (λ (d : Connection). nat_eq m d.number) (apart n connected) ≡ false)
          → list_any (λ (d : Connection). nat_eq m d.number) (apart n (d ∷ connected)) ≡ false
      by a true e f again = absurd (true≢false (rw f at h))
      by true false e f again = rw e (again (rw f at h))
      by false false e f again = rw (e, f) (again (rw f at h))

  named_apart : (n : ℕ) (id : List ℕ) (connected : List Connection) → named identities connected id ≡ None → named identities (apart n connected) id ≡ None
  named_apart n id [] h = refl
  named_apart n id (d ∷ connected) h = by (nat_eq n d.number) (bytes_eq (identities.connection d.serial) id) refl refl (λ k. named_apart n id connected k)
    where
      by : (a b : Bool) → nat_eq n d.number ≡ a → bytes_eq (identities.connection d.serial) id ≡ b → (named identities connected id ≡ None → named identities (apart n connected) id ≡ None)
          → named identities (apart n (d ∷ connected)) id ≡ None
      by a true e f again = let absent : Some d.number ≡ None = rw f at h in cc
      by true false e f again = rw e (again (rw f at h))
      by false false e f again = rw (e, f) (again (rw f at h))

  pub apart_apart : (n : ℕ) (connected : List Connection) → AreApart identities connected → AreApart identities (apart n connected)
  apart_apart n [] h = tt
  apart_apart n (d ∷ connected) h = by (nat_eq n d.number) refl (apart_apart n connected h.2)
    where
      by : (b : Bool) → nat_eq n d.number ≡ b → AreApart identities (apart n connected) → AreApart identities (apart n (d ∷ connected))
      by true e again = rw e again
      by false e again = rw e (any_apart n d.number connected h.0, named_apart n (identities.connection d.serial) connected h.1, again)

  -- no serial number so far has the identity of the next
  pub new_identity : (taken : ℕ) → ((s t : ℕ) → s < 2 ^ 64 → t < 2 ^ 64 → IsDigits 32 (identities.connection s) → identities.connection s ≡ identities.connection t → s ≡ t)
      → taken + 1 < 2 ^ 64 → IsDigits 32 (identities.connection (taken + 1)) → (s : ℕ) → s ≤ taken → bytes_eq (identities.connection s) (identities.connection (taken + 1)) ≡ false
  new_identity taken single fits is s le = by (bytes_eq (identities.connection s) (identities.connection (taken + 1))) refl
    where
      by : (b : Bool) → bytes_eq (identities.connection s) (identities.connection (taken + 1)) ≡ b → bytes_eq (identities.connection s) (identities.connection (taken + 1)) ≡ false
      by false e = e
      by true e = let same : taken + 1 ≡ s = single (taken + 1) s fits (omega arith) is (sym (bytes_one (identities.connection s) (identities.connection (taken + 1)) e)) in absurd (omega arith)

  -- the names after an opening and a closing
  pub names_opened : (connected : List Connection) (c : Connection) (old new : List (List ℕ × ℕ)) → named identities connected (identities.connection c.serial) ≡ None
      → ((q : List ℕ) → names_at old q ≡ named identities connected q) → names_at new (identities.connection c.serial) ≡ Some c.number
      → ((q : List ℕ) → bytes_eq (identities.connection c.serial) q ≡ false → names_at new q ≡ names_at old q)
      → (q : List ℕ) → names_at new q ≡ named identities (connected ++ c ∷ []) q
  names_opened connected c old new fresh are here others q = by_channel (λ q. names_at new q ≡ named identities (connected ++ c ∷ []) q) (identities.connection c.serial) q
      (here ∙ sym (named_push_here connected c fresh)) (λ e. others q e ∙ are q ∙ sym (named_push_other q connected c e))

  pub names_closed : (connected : List Connection) (n : ℕ) (old new : List (List ℕ × ℕ)) → AreApart identities connected → list_any (λ (d : Connection). nat_eq n d.number) connected ≡ true
      → ((q : List ℕ) → names_at old q ≡ named identities connected q) → names_at new (identities.connection (serial_in connected n)) ≡ None
      → ((q : List ℕ) → bytes_eq (identities.connection (serial_in connected n)) q ≡ false → names_at new q ≡ names_at old q)
      → (q : List ℕ) → names_at new q ≡ named identities (apart n connected) q
  names_closed connected n old new h is are here others q = by_channel (λ q. names_at new q ≡ named identities (apart n connected) q) (identities.connection (serial_in connected n)) q
      (here ∙ sym (close_named_here n connected h is)) (λ e. others q e ∙ are q ∙ sym (close_named_other n q connected h e))
