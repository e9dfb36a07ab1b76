pub mod Entries
pub mod Totals
pub mod OnePass
pub mod After
