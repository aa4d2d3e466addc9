pub mod Rooms
pub mod LineLaws
pub mod EveryLine
pub mod Sections
pub mod WalkLaws
pub mod TurnsLaws
