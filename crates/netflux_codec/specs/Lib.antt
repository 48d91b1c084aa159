pub mod Word
pub mod Who
pub mod Request
pub mod Reply
pub mod Ask
