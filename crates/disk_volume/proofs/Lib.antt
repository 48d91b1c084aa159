pub mod FolderLemmas
pub mod PickLemmas
pub mod RecordLemmas
pub mod WriteLemmas
