-- What the proofs of other crates may cite of this one's.
pub use Rattle.pad_merge.proofs.Reading.{IsSpaced, normal_spaced}
pub use Rattle.pad_merge.proofs.Readback.{spaced_normal}
pub use Rattle.pad_merge.proofs.Named.{named_at, named_all, length-origins}
pub use Rattle.pad_merge.proofs.Places.{stands_of_second}
pub use Rattle.pad_merge.proofs.Labels.{patched-merged, old_places-merged}
pub use Rattle.pad_merge.proofs.Removals.{removes_merged, merged_removes, first_stands}
pub use Rattle.pad_merge.proofs.Whole.{texts-merged}
pub use Rattle.pad_merge.proofs.Applied.{CanMerge-CanApply}
pub use Rattle.pad_merge.proofs.Pairs.{CanApply-merged}
pub use Rattle.pad_merge.proofs.Both.{first_text, length-sources_of}
pub use Rattle.pad_merge.proofs.Sources.{map-sources_after, map-kept_all}
