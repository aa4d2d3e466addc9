pub mod HashLaws
pub mod SlotLaws
pub mod MarkLaws
