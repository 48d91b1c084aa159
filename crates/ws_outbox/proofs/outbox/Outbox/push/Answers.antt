-- The invariant, once bytes wait behind others.
use Rattle.std.proofs.Common.{◌≡◌, ℕ, ◌+◌, ◌<◌, ◌≤◌, List, [], ◌∷◌, ◌++◌, length, arith, drop, length-drop, ◌-◌, vec_len, subst, sym}
use Rattle.ws_outbox.specs.Outbox.{bytes_in}
use Rattle.ws_outbox.specs.Inside.Frames.{NoneEmpty}
use Rattle.ws_outbox.specs.declared.limits.TheConstants.{ALL_UNSENT_BYTES}
use Rattle.ws_outbox.proofs.Bytes.{length_pushed, none_empty_pushed}
use Rattle.ws_outbox.proofs.outbox.Outbox.push.Goals as goal

pub invariant_of-self-in-Ok : goal.invariant_of-self-in-Ok
invariant_of-self-in-Ok c =
    let behind : List (List ℕ) = c.self.inside.behind.items in
    let frame : List ℕ = c.args.frame.items in
    let pushed : c.push_back.new.self.items ≡ behind ++ frame ∷ [] = grind (arith, c.in-Ok.ensures.items, c.new.ensures) in
    let long : length (bytes_in (behind ++ frame ∷ [])) ≡ length (bytes_in behind) + length frame = length_pushed behind frame in
    let some : 0 < length frame = omega (arith, c.requires.some, c.args.frame.ok) in
    let full : NoneEmpty (behind ++ frame ∷ []) = none_empty_pushed behind frame c.self.invariant.3 some in
    let fits = rw (← c.self.view_is) at c.requires.fits in
    let front : length (drop c.self.inside.gone c.self.inside.front.items) ≡ length c.self.inside.front.items - c.self.inside.gone = length-drop c.self.inside.gone c.self.inside.front.items in
    let bound : c.self.inside.unsent + c.len-bytes.result ≤ ALL_UNSENT_BYTES = omega (arith, fits, front, c.self.inside.front.ok) in
    let I : List (List ℕ) → Type 0 = λ frames. (c.self.inside.gone ≤ vec_len c.self.inside.front)
    × (c.self.inside.unsent + c.len-bytes.result + c.self.inside.gone ≡ vec_len c.self.inside.front + length (bytes_in frames))
    × (c.self.inside.unsent + c.len-bytes.result ≤ ALL_UNSENT_BYTES)
    × NoneEmpty frames
    × (vec_len c.self.inside.front ≤ c.self.inside.gone → c.self.inside.unsent + c.len-bytes.result ≡ 0) in
    subst I (sym pushed) (omega arith, omega arith, bound, full, λ out. omega arith)
