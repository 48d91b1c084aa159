use Rattle.std.proofs.Common.{◌≡◌, inl, inr, ℕ, List, IsTrue, sym, subst}
use Rattle.std.proofs.lemmas.Result.{err_from_is_err_and}
use Rattle.disk_volume.specs.Disk.{Disk, reads}
use Rattle.log_format.specs.declared.damage.Damage.{Damage}
use Rattle.log_format.specs.declared.damage.Damage.TheVariants.{Entry}
use Rattle.log_format.specs.declared.form.Form.TheVariants.{One, Two}
use Rattle.keeper_channel.specs.Entries.{IsFirstOther}
use Rattle.keeper_channel.specs.Logs.{IsLive}
use Rattle.keeper_channel.specs.Slot.{HasDamage}
use Rattle.keeper_channel.proofs.Chans.{list_once, found_list}
use Rattle.keeper_channel.proofs.CallerLemmas.{logs_weaker}
use Rattle.keeper_channel.proofs.Damages.{names_weaker, all_entries}
use Rattle.keeper_channel.proofs.Slots.{few_made}
use Rattle.keeper_channel.proofs.opening.load_slot.Goals as goal

pub index_entries-requires-clause-holds : goal.index_entries-requires-clause-holds
index_entries-requires-clause-holds g c = λ told. let found = c.in_ok-logs.ensures.found told in (g.G.Ledger.doubt Two c.args.two.now, found.0, found.1, found.3)

pub returns-in_err-logs-clause-damaged : goal.returns-in_err-logs-clause-damaged
returns-in_err-logs-clause-damaged g c = let p = err_from_is_err_and c.from_residual.result c.from_residual.ensures.1 in rw (p.1, p.2) (λ told. names_weaker _ _ _ (λ damage is. inl is) (c.in_err-logs.ensures.damaged told))

pub returns-in_err-index-clause-damaged : goal.returns-in_err-index-clause-damaged
returns-in_err-index-clause-damaged g c = let p = err_from_is_err_and c.from_residual-in_err-index.result c.from_residual-in_err-index.ensures.1 in rw (p.1, p.2) (λ told.
    let O = g.O.Ledger in let G = g.G.Ledger in
    let files = reads (g.V.Volume.disk c.args.volume.now) in
    let found = c.in_ok-logs.ensures.found told in
    let list = found_list (O.opens_as One c.args.one.now) (G.opens_as Two c.args.two.now) (G.doubt Two c.args.two.now) files found.0 found.1 found.2 in
    let P : Damage → Type 0 = λ damage. (place : ℕ) × (damage ≡ Entry place) × IsFirstOther found.0 place in
    let Q : Damage → Type 0 = HasDamage (O.opens_as One c.args.one.now) (G.opens_as Two c.args.two.now) (O.damage One c.args.one.now) (G.damage Two c.args.two.now) files in
    names_weaker P Q _ (λ damage is. inr (c.in_ok-logs.ensures.undamaged told, found.0, is.0, list, is.1, is.2))
    (c.in_err-index.ensures.index told (G.doubt Two c.args.two.now) found.0 found.1 found.3))

pub returns-clause-found : goal.returns-clause-found
returns-clause-found g c = λ told.
    let G = g.G.Ledger in let O = g.O.Ledger in
    let found = c.in_ok-logs.ensures.found told in
    let doubt = G.doubt Two c.args.two.now in
    let index = c.in_ok-index.ensures.index told doubt found.0 found.1 found.3 in (
      found.0,
      found.1,
      found.2,
      record {
        live = subst (λ (d : Disk). IsLive O.holds G.holds doubt c.in_ok-logs.logs found.0 found.1 d) (sym (c.index_entries.ensures.disk told)) found.3;
        indexed = index.0;
        entries = index.1;
      },
    )

pub returns-clause-undamaged : goal.returns-clause-undamaged
returns-clause-undamaged g c = λ told damage is.
    let G = g.G.Ledger in let O = g.O.Ledger in
    let files = reads (g.V.Volume.disk c.args.volume.now) in
    let opens_one = O.opens_as One c.args.one.now in let opens_two = G.opens_as Two c.args.two.now in let doubt = G.doubt Two c.args.two.now in
    let found = c.in_ok-logs.ensures.found told in
    let list = found_list opens_one opens_two doubt files found.0 found.1 found.2 in
    let all = (c.in_ok-index.ensures.index told doubt found.0 found.1 found.3).1 in
    elim is [
      | inl damaged ↦ c.in_ok-logs.ensures.undamaged told damage damaged
      | inr other ↦
          let same = list_once opens_one opens_two files other.1 found.0 (λ a b. g.met.O.Ledger.opens_once One c.args.one.now files a b) (λ a b. g.met.G.Ledger.opens_once Two c.args.two.now files a b) other.3 list in
          all_entries found.0 other.2 all (subst (λ (l : List (List ℕ)). IsFirstOther l other.2) same other.5)
    ]

pub index_entries-requires-clause-live : goal.index_entries-requires-clause-live
index_entries-requires-clause-live g c =
    let O = g.O.Ledger in let G = g.G.Ledger in
    logs_weaker (λ log. (O.name log ≡ c.args.one.now) × (O.form_of log ≡ One) × IsTrue (O.live log)) (λ log. IsTrue (O.live log))
    (λ log. (G.name log ≡ c.args.two.now) × (G.form_of log ≡ Two) × IsTrue (G.live log)) (λ log. IsTrue (G.live log)) c.in_ok-logs.logs
    (λ log is. is.2) (λ log is. is.2) c.in_ok-logs.ensures.made

pub index_entries-requires-clause-counted : goal.index_entries-requires-clause-counted
index_entries-requires-clause-counted g c = c.in_ok-logs.ensures.counted

pub returns-clause-made : goal.returns-clause-made
returns-clause-made g c = let O = g.O.Ledger in let G = g.G.Ledger in record {
  made = c.in_ok-logs.ensures.made;
  counted = c.in_ok-index.ensures.counted;
  indexed = c.in_ok-index.ensures.indexed;
  few = few_made O.name O.form_of O.live O.count G.name G.form_of G.live G.count c.args.one.now c.args.two.now c.in_ok-logs.logs c.in_ok-index.index.count
      g.met.O.Ledger.count_few g.met.G.Ledger.count_few c.in_ok-logs.ensures.made c.in_ok-index.ensures.counted;
}
