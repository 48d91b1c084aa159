-- What a ledger says of its own files.
use Rattle.std.proofs.Common.{◌≡◌, inl, inr, List, ℕ, sym}
use Rattle.log_format.specs.declared.form.Form.TheVariants.{One, Two}
use Rattle.keeper_table.specs.Files.{file_one, file_two}
use Rattle.hub_keeper.proofs.Loads.{finds_follow}
use Rattle.hub_keeper.proofs.laws.logs_are_of_files.Goals as goal

pub returns-clause-by_files : goal.returns-clause-by_files
returns-clause-by_files g c = λ channel one other found same is.
    let O = g.O.Ledger in let G = g.G.Ledger in let old = g.met.O.Ledger in let new = g.met.G.Ledger in
    finds_follow O.opens_as G.opens_as G.doubt O.damage G.damage channel one other found
    (record {
      one_opens = λ list. old.opened_by One (file_one channel) one other list (λ file owned. sym (same file (inl owned)));
      two_opens = λ list. new.opened_by Two (file_two channel) one other list (λ file owned. sym (same file (inr owned)));
      doubts = new.doubted_by Two (file_two channel) one other (λ file owned. sym (same file (inr owned)));
      one_damaged = old.damaged_by One (file_one channel) one other (λ file owned. sym (same file (inl owned)));
      two_damaged = new.damaged_by Two (file_two channel) one other (λ file owned. sym (same file (inr owned)));
    })
    (record {
      one_opens = λ list. old.opened_by One (file_one channel) other one list (λ file owned. same file (inl owned));
      two_opens = λ list. new.opened_by Two (file_two channel) other one list (λ file owned. same file (inr owned));
      doubts = new.doubted_by Two (file_two channel) other one (λ file owned. same file (inr owned));
      one_damaged = old.damaged_by One (file_one channel) other one (λ file owned. same file (inl owned));
      two_damaged = new.damaged_by Two (file_two channel) other one (λ file owned. same file (inr owned));
    }) is

pub returns-clause-either : goal.returns-clause-either
returns-clause-either g c = λ channel files damage held suspense damaged listed. listed.1 damage damaged

pub returns-clause-apart : goal.returns-clause-apart
returns-clause-apart g c = λ channel other file digits theirs owned owned_too. c.channels_share_no_file.ensures other channel file theirs digits owned_too owned
