pub mod Inside
pub mod Outbox
