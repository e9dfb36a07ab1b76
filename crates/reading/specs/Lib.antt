pub mod TestLaws
pub mod Loops
pub mod Gone
pub mod SlotsByKind
pub mod Eights
pub mod Holders
pub mod Holds
pub mod Finding
