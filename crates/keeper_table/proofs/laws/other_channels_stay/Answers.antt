-- A file of another channel is none of a channel's.
use Rattle.std.proofs.Common.{◌≡◌, ◌≢◌, ◌∙◌, ◌⊎◌, inl, inr, ℕ, List, length, take, sym, subst}
use Rattle.disk_volume.specs.Disk.{Disk, file_at}
use Rattle.disk_volume.specs.Moments.{Grew}
use Rattle.disk_volume.specs.Lemmas.Since.{elsewhere}
use Rattle.keeper_table.specs.Files.{file_one, file_two, OfChannel}
use Rattle.keeper_table.proofs.Begins.{of_channel}
use Rattle.keeper_table.proofs.laws.other_channels_stay.Goals as goal

untouched : (owns_one owns_two : (name file : List ℕ) → Type 0) (channel other : List ℕ) (old new : Disk) → length channel ≡ 32 → length other ≡ 32 → channel ≢ other
    → ((name file : List ℕ) → owns_one name file → take (length name) file ≡ name)
    → ((name file : List ℕ) → owns_two name file → take (length name) file ≡ name)
    → Grew (OfChannel owns_one owns_two channel) old new
    → (file : List ℕ) → OfChannel owns_one owns_two other file → file_at new file ≡ file_at old file
untouched owns_one owns_two channel other old new long others differ named_one named_two grew file theirs =
    elsewhere new file grew (λ mine. differ (sym (of_channel owns_one owns_two channel file long named_one named_two mine) ∙ of_channel owns_one owns_two other file others named_one named_two theirs))

pub returns-clause-old_logs : goal.returns-clause-old_logs
returns-clause-old_logs g c channel other log payloads old new digits others differ grew named holds =
    g.met.O.Ledger.holds_on log payloads old new holds (λ file owned. untouched g.O.Ledger.owns g.G.Ledger.owns channel other old new digits.as_many others.as_many differ
    g.met.O.Ledger.owned_named g.met.G.Ledger.owned_named grew file (inl (subst (λ (name : List ℕ). g.O.Ledger.owns name file) named owned)))

pub returns-clause-logs : goal.returns-clause-logs
returns-clause-logs g c channel other log payloads old new digits others differ grew named holds =
    g.met.G.Ledger.holds_on log payloads old new holds (λ file owned. untouched g.O.Ledger.owns g.G.Ledger.owns channel other old new digits.as_many others.as_many differ
    g.met.O.Ledger.owned_named g.met.G.Ledger.owned_named grew file (inr (subst (λ (name : List ℕ). g.G.Ledger.owns name file) named owned)))

pub returns-clause-unloaded : goal.returns-clause-unloaded
returns-clause-unloaded g c channel other one two old new digits others differ grew rests_one rests_two =
    let same = untouched g.O.Ledger.owns g.G.Ledger.owns channel other old new digits.as_many others.as_many differ g.met.O.Ledger.owned_named g.met.G.Ledger.owned_named grew in
    (g.met.O.Ledger.rests_on one (file_one other) old new rests_one (λ file owned. same file (inl owned)), g.met.G.Ledger.rests_on two (file_two other) old new rests_two (λ file owned. same file (inr owned)))
