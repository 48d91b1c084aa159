pub mod Chan
pub mod Checked
pub mod Disks
pub mod Entries
pub mod Inside
pub mod Logs
pub mod Slot
