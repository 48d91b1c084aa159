-- What the proofs of other crates cite.
pub use Rattle.pad_checkpoint.proofs.CutLemmas.{higher_is}
pub use Rattle.pad_checkpoint.proofs.LinkLemmas.{top_names, links_more, links_same, chain_of, path_of, through_names, through_paths}
pub use Rattle.pad_checkpoint.proofs.Settling.{ends_cut}
