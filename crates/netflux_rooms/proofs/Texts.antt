-- Outputs that are texts alone.
use Rattle.std.proofs.Common.{ℕ, List, [], ◌∷◌, ◌++◌, map}
use Rattle.netflux_codec.specs.declared.reply.Reply.{Reply}
use Rattle.serve_loop.specs.Hangs.{HangsAfter}
use Rattle.serve_loop.specs.declared.out.Out.{Out}
use Rattle.serve_loop.specs.declared.out.Out.TheVariants.{Send, HangUp}
use Rattle.netflux_rooms.specs.Rooms.{tell}

abbrev pub AreTexts : List Out → Type 0
AreTexts [] = Unit {0}
AreTexts (Send connection text ∷ outs) = AreTexts outs
AreTexts (HangUp connection ∷ outs) = ⊥

pub texts_hang : (last : List ℕ) (outs : List Out) → AreTexts outs → HangsAfter last outs
texts_hang last [] h = tt
texts_hang last (Send connection text ∷ outs) h = texts_hang (connection ∷ []) outs h
texts_hang last (HangUp connection ∷ outs) h = absurd h

pub texts_append : (first later : List Out) → AreTexts first → AreTexts later → AreTexts (first ++ later)
texts_append [] later h k = k
texts_append (Send connection text ∷ first) later h k = texts_append first later h k
texts_append (HangUp connection ∷ first) later h k = absurd h

pub texts_map : (to : ℕ → ℕ) (said : ℕ → Reply) (numbers : List ℕ) → AreTexts (map (λ number. tell (to number) (said number)) numbers)
texts_map to said [] = tt
texts_map to said (number ∷ numbers) = texts_map to said numbers
