use Rattle.std.proofs.Common.{◌≡◌, ℕ, List, inl, inr, sym, ap}
use Rattle.disk_volume.specs.Disk.{File, Disk, file_at, reads}
use Rattle.disk_volume.specs.Lemmas.Since.{elsewhere}
use Rattle.log_format.specs.declared.form.Form.TheVariants.{One, Two}
use Rattle.keeper_table.specs.Files.{file_one, file_two, OfChannel}
use Rattle.keeper_state.proofs.Finding.{Alike, finds_on, syncs_read}
use Rattle.keeper_state.proofs.laws.loads_find_the_same.Goals as goal

pub returns-clause-others : goal.returns-clause-others
returns-clause-others g c = λ channel other old new found digits others differ grew finds.
    let O = g.O.Ledger in let G = g.G.Ledger in
    let same : (file : List ℕ) → OfChannel O.owns G.owns other file → reads old file ≡ reads new file =
    (λ file theirs. ap (λ (f : File). f.now) (sym (elsewhere new file grew (λ mine. differ (c.channels_share_no_file.ensures channel other file digits others mine theirs))))) in
    finds_on O.opens_as G.opens_as G.doubt O.damage G.damage other (reads old) (reads new) found
    (record {
      one_on = λ list. g.met.O.Ledger.opened_by One (file_one other) (reads old) (reads new) list (λ file is. same file (inl is));
      one_back = λ list. g.met.O.Ledger.opened_by One (file_one other) (reads new) (reads old) list (λ file is. sym (same file (inl is)));
      two_on = λ list. g.met.G.Ledger.opened_by Two (file_two other) (reads old) (reads new) list (λ file is. same file (inr is));
      two_back = λ list. g.met.G.Ledger.opened_by Two (file_two other) (reads new) (reads old) list (λ file is. sym (same file (inr is)));
      doubts = g.met.G.Ledger.doubted_by Two (file_two other) (reads old) (reads new) (λ file is. same file (inr is));
      damages_one = g.met.O.Ledger.damaged_by One (file_one other) (reads old) (reads new) (λ file is. same file (inl is));
      damages_two = g.met.G.Ledger.damaged_by Two (file_two other) (reads old) (reads new) (λ file is. same file (inr is));
    }) finds

pub returns-clause-synced : goal.returns-clause-synced
returns-clause-synced g c = λ channel old new found syncs finds.
    let O = g.O.Ledger in let G = g.G.Ledger in
    let same : (file : List ℕ) → reads old file ≡ reads new file = (λ file. syncs_read new file syncs) in
    finds_on O.opens_as G.opens_as G.doubt O.damage G.damage channel (reads old) (reads new) found
    (record {
      one_on = λ list. g.met.O.Ledger.opened_by One (file_one channel) (reads old) (reads new) list (λ file is. same file);
      one_back = λ list. g.met.O.Ledger.opened_by One (file_one channel) (reads new) (reads old) list (λ file is. sym (same file));
      two_on = λ list. g.met.G.Ledger.opened_by Two (file_two channel) (reads old) (reads new) list (λ file is. same file);
      two_back = λ list. g.met.G.Ledger.opened_by Two (file_two channel) (reads new) (reads old) list (λ file is. sym (same file));
      doubts = g.met.G.Ledger.doubted_by Two (file_two channel) (reads old) (reads new) (λ file is. same file);
      damages_one = g.met.O.Ledger.damaged_by One (file_one channel) (reads old) (reads new) (λ file is. same file);
      damages_two = g.met.G.Ledger.damaged_by Two (file_two channel) (reads old) (reads new) (λ file is. same file);
    }) finds
