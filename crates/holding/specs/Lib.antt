pub mod SweepRows
pub mod Passing
pub mod Letting
pub mod SoundHolds
pub mod GrantedSlots
