use Rattle.std.proofs.Common.{◌⊎◌, inl, inr, List, ℕ, Result, Ok, Err, IsErrOf, OnErr, refl, sym, ap, subst}
use Rattle.std.proofs.lemmas.Result.{err_from_is_err_and}
use Rattle.disk_volume.specs.Disk.{Disk, reads}
use Rattle.disk_volume.specs.Moments.{moment, EachSince, Grew}
use Rattle.disk_volume.specs.Lemmas.Since.{each_then, grew_then, since_now}
use Rattle.log_format.specs.declared.form.Form.{Form}
use Rattle.keeper_channel.specs.Inside.Adding.{IsAdding}
use Rattle.gated_log.specs.Ledger.{Within}
use Rattle.gated_log.specs.declared.refused.AppendRefused.{AppendRefused}
use Rattle.gated_log.specs.declared.refused.AppendRefused.TheVariants.{Full, Store}
use Rattle.keeper_channel.proofs.adding.add_group.Goals as goal

pub returns-clause-any_moment : goal.returns-clause-any_moment
returns-clause-any_moment g c = λ told payloads holds.
    let form = g.G.Ledger.form_of c.args.log.now in
    let name = g.G.Ledger.name c.args.log.now in
    let old = g.V.Volume.disk c.args.volume.now in
    let mid = g.V.Volume.disk c.prime.new.volume in
    let new = g.V.Volume.disk c.append_group.new.volume in
    let doubt = g.G.Ledger.doubt form name (reads old) in
    let P : (List ℕ → List ℕ) → Type 0 = λ image. IsAdding (g.G.Ledger.opens_as form name image) payloads doubt c.args.group.now in
    let Q : (List ℕ → List ℕ) → Form → List ℕ → Type 0 = λ image f n. Within (g.G.Ledger.opens_as f n image) payloads c.args.group.now in
    let grew : Grew (g.G.Ledger.owns name) mid new = subst (λ (n : List ℕ). Grew (g.G.Ledger.owns n) mid new) c.in_ok-prime.ensures.name (c.append_group.ensures.files told) in
    each_then old mid new P grew
    (λ image left. inl (c.in_ok-prime.ensures.any_moment told payloads holds image left))
    (λ image left. inr (subst (λ (n : List ℕ). Q image form n) c.in_ok-prime.ensures.name
    (subst (λ (f : Form). Q image f (g.G.Ledger.name c.prime.new.self)) c.in_ok-prime.ensures.form
    (c.append_group.ensures.any_moment told payloads (c.in_ok-prime.ensures.ok told payloads holds) image left))))

pub returns-clause-files : goal.returns-clause-files
returns-clause-files g c = λ told.
    let mid = g.V.Volume.disk c.prime.new.volume in
    let new = g.V.Volume.disk c.append_group.new.volume in
    grew_then new (c.in_ok-prime.ensures.files told) (subst (λ (n : List ℕ). Grew (g.G.Ledger.owns n) mid new) c.in_ok-prime.ensures.name (c.append_group.ensures.files told))

left_by : {A B : Type 0} (r : Result ℕ AppendRefused) → (IsErrOf r Full → A) → B → OnErr r (A ⊎ (IsErrOf r Store × B))
left_by (Ok index) a b = tt
left_by (Err Full) a b = inl (a refl)
left_by (Err Store) a b = inr (refl, b)

pub returns-clause-left : goal.returns-clause-left
returns-clause-left g c = λ told payloads holds.
    let form = g.G.Ledger.form_of c.args.log.now in
    let name = g.G.Ledger.name c.args.log.now in
    let old = g.V.Volume.disk c.args.volume.now in
    let mid = g.V.Volume.disk c.prime.new.volume in
    let new = g.V.Volume.disk c.append_group.new.volume in
    let doubt = g.G.Ledger.doubt form name (reads old) in
    let Q : (List ℕ → List ℕ) → Form → List ℕ → Type 0 = λ image f n. Within (g.G.Ledger.opens_as f n image) payloads c.args.group.now in
    let P : Disk → Type 0 = λ disk. EachSince old disk (λ image. Within (g.G.Ledger.opens_as form name image) payloads doubt) in
    left_by c.append_group.result
    (λ full. subst P (sym (ap g.V.Volume.disk (c.append_group.ensures.unchanged full).1)) (c.in_ok-prime.ensures.any_moment told payloads holds))
    (λ image now. subst (λ (n : List ℕ). Q image form n) c.in_ok-prime.ensures.name
    (subst (λ (f : Form). Q image f (g.G.Ledger.name c.prime.new.self)) c.in_ok-prime.ensures.form
    (c.append_group.ensures.any_moment told payloads (c.in_ok-prime.ensures.ok told payloads holds) image (since_now (moment mid) new image now))))

pub returns-in_err-prime-clause-left : goal.returns-in_err-prime-clause-left
returns-in_err-prime-clause-left g c = let p = err_from_is_err_and c.from_residual.result c.from_residual.ensures.1 in rw (p.1, p.2) (λ told payloads holds.
    inl (c.in_err-prime.ensures.any_moment told payloads holds))
