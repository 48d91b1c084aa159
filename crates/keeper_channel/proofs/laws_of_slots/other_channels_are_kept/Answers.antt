use Rattle.std.proofs.Common.{◌≡◌, inl, inr, List, ℕ, IsTrue, sym, ap, subst}
use Rattle.disk_volume.specs.Disk.{File, file_at, reads}
use Rattle.disk_volume.specs.Lemmas.Since.{elsewhere}
use Rattle.log_format.specs.declared.form.Form.TheVariants.{One, Two}
use Rattle.keeper_channel.specs.Disks.{Either}
use Rattle.keeper_channel.proofs.Others.{keeps_now, keeps_on}
use Rattle.keeper_channel.proofs.Slots.{by_name}
use Rattle.keeper_channel.proofs.Stays.{tie_since}
use Rattle.keeper_channel.proofs.laws_of_slots.other_channels_are_kept.Goals as goal

pub returns : goal.returns
returns g c = λ one two other_one other_two slot old new held suspense apart read grew made kept.
    let O = g.O.Ledger in let G = g.G.Ledger in
    let opens_one = O.opens_as One one in let opens_two = G.opens_as Two two in let doubt = G.doubt Two two in
    let mine : List ℕ → Type 0 = Either (O.owns one) (G.owns two) in
    let same : (file : List ℕ) → mine file → file_at new file ≡ file_at old file = λ file is. elsewhere new file grew (λ theirs. apart file theirs is) in
    let now = keeps_now opens_one opens_two doubt O.holds G.holds
    (λ log. (O.name log ≡ one) × (O.form_of log ≡ One) × IsTrue (O.live log)) (λ log. (G.name log ≡ two) × (G.form_of log ≡ Two) × IsTrue (G.live log)) O.count G.count slot held suspense old
    (λ log payloads is holds. by_name O.opens_as O.name O.form_of O.live One one old log payloads is (g.met.O.Ledger.holds_now log payloads old holds))
    (λ log payloads is holds. by_name G.opens_as G.name G.form_of G.live Two two old log payloads is (g.met.G.Ledger.holds_now log payloads old holds)) made kept in
    let each = tie_since opens_one opens_two mine old new held suspense read grew apart
    (λ a b list alike. g.met.O.Ledger.opened_by One one a b list (λ file is. alike file (inl is)))
    (λ a b list alike. g.met.G.Ledger.opened_by Two two a b list (λ file is. alike file (inr is))) now in (
      keeps_on opens_one opens_two doubt O.holds G.holds
          (λ log. (O.name log ≡ one) × (O.form_of log ≡ One) × IsTrue (O.live log)) (λ log. (G.name log ≡ two) × (G.form_of log ≡ Two) × IsTrue (G.live log)) O.count G.count slot held suspense old new
          (λ log payloads is holds. g.met.O.Ledger.holds_on log payloads old new holds (λ file owned. same file (inl (subst (λ (n : List ℕ). O.owns n file) is.0 owned))))
          (λ log payloads is holds. g.met.G.Ledger.holds_on log payloads old new holds (λ file owned. same file (inr (subst (λ (n : List ℕ). G.owns n file) is.0 owned))))
          (g.met.G.Ledger.doubted_by Two two (reads old) (reads new) (λ file owned. ap (λ (f : File). f.now) (sym (same file (inr owned)))))
          made each kept,
      each,
    )
