pub mod SectionStarts
pub mod Steps
pub mod Tables
pub mod Examples
pub mod Roles
