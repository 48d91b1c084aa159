pub mod Sound
pub mod Base
pub mod Path
pub mod Best
pub mod Choice
pub mod Count
pub mod Report
pub mod Laws
