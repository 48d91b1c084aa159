-- A patch that fits was made for the text.
use Rattle.std.proofs.Common.{◌≡◌, ◌≢◌, ℕ, ◌⊎◌, inl, inr, List, ◌∷◌, sym, ◌∙◌}
use Rattle.pad_text.specs.Hash.{document_hash}
use Rattle.pad_patch.specs.declared.patch.Patch.{Patch}
use Rattle.pad_patch.specs.declared.misfit.Misfit.TheVariants.{BeforeHash}
use Rattle.pad_patch.specs.Misfit.{Fits}
use Rattle.pad_model.specs.Path.{text, EachSound}
use Rattle.pad_model.proofs.CallerLemmas.{sound_below}
use Rattle.pad_chain.specs.Laws.{NamedTextsAreMet}
use Rattle.pad_chain.proofs.Names.{name_dec}

made_for : (patch : Patch) (units : List ℕ) → Fits patch units → patch.before ≡ document_hash units
unfolding Fits
made_for patch units fits = go (name_dec patch.before (document_hash units))
  where
    go : (patch.before ≡ document_hash units) ⊎ (patch.before ≢ document_hash units) → patch.before ≡ document_hash units
    go (inl e) = e
    go (inr n) = absurd (fits BeforeHash n)

pub named_met : NamedTextsAreMet
named_met b R above below m texts units path differ along among named =
    let sound : EachSound b (m ∷ below) = sound_below b above (m ∷ below) path.1 in
    differ units (text b below) among along (sym named ∙ made_for m.patch (text b below) sound.0.fits)
