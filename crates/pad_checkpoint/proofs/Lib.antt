mod MarkLemmas
mod CutLemmas
mod LinkLemmas
mod Overtaken
mod Settling
pub mod CallerLemmas
