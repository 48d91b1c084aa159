-- Linked paths by what decides between two.
use Rattle.std.specs.Prelude.{◌≡◌, ◌<◌, ◌⊎◌, List, map}
use Rattle.pad_text.specs.declared.name.Name.{Name}
use Rattle.pad_text.specs.Name.{NameLess}
use Rattle.pad_plain.specs.declared.candidate.Candidate.{Candidate}
use Rattle.pad_plain.specs.declared.path.Tip.{Tip}

-- the candidate is longer than the path with this end, or equally long with a lesser name
abbrev pub IsBetterThanTip : Candidate → Tip → Type 0
IsBetterThanTip candidate tip = (tip.height < candidate.height.0) ⊎ ((candidate.height.0 ≡ tip.height) × NameLess candidate.name tip.name)

-- the last names of the candidates
abbrev pub names_of : List Candidate → List Name
names_of candidates = map (λ candidate. candidate.name) candidates
