pub mod Marks
pub mod Stages
pub mod Places
pub mod Automaton
