pub mod Looks
pub mod Hashes
pub mod Slots
pub mod Marks
