-- A file of a channel begins with the channel's digits.
use Rattle.std.proofs.Common.{◌≡◌, ◌∙◌, ◌⊎◌, inl, inr, ℕ, ◌+◌, List, ◌++◌, length, take, drop, codes, sym, ap, subst, arith, append_assoc, length-append}
use Rattle.std.proofs.lemmas.List.{take-append-drop, length-take}
use Rattle.std.proofs.Math.Seq.{take-append_seam}
use Rattle.keeper_table.specs.Files.{file_one, file_two, OfChannel}

begins : (channel suffix file : List ℕ) → length channel ≡ 32 → take (length (channel ++ suffix)) file ≡ channel ++ suffix → take 32 file ≡ channel
begins channel suffix file long owned =
    let rest : List ℕ = drop (length (channel ++ suffix)) file in
    let whole : (channel ++ suffix) ++ rest ≡ file = ap (λ (front : List ℕ). front ++ rest) (sym owned) ∙ take-append-drop (length (channel ++ suffix)) file in
    let parts : file ≡ channel ++ (suffix ++ rest) = sym whole ∙ append_assoc channel suffix rest in
    ap (take 32) parts ∙ subst (λ n. take n (channel ++ (suffix ++ rest)) ≡ channel) long (take-append_seam channel (suffix ++ rest))

pub of_channel : (owns_one owns_two : (name file : List ℕ) → Type 0) (channel file : List ℕ) → length channel ≡ 32
    → ((name file : List ℕ) → owns_one name file → take (length name) file ≡ name)
    → ((name file : List ℕ) → owns_two name file → take (length name) file ≡ name)
    → OfChannel owns_one owns_two channel file → take 32 file ≡ channel
of_channel owns_one owns_two channel file long named_one named_two (inl is) = begins channel (codes ".padlog") file long (named_one (file_one channel) file is)
of_channel owns_one owns_two channel file long named_one named_two (inr is) = begins channel (codes ".padlog2") file long (named_two (file_two channel) file is)

-- and one of form Two is longer than that of form One
pub no_shorter : (channel file : List ℕ) → take (length (file_two channel)) file ≡ file_two channel → file ≡ file_one channel → ⊥
no_shorter channel file owned same =
    let taken = length-take (length (file_two channel)) file in
    let short : length file ≡ length channel + 7 = ap length same ∙ length-append channel (codes ".padlog") in
    let long : length (file_two channel) ≡ length channel + 8 = length-append channel (codes ".padlog2") in
    omega (arith, taken, ap length owned, short, long)
