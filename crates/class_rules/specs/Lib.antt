pub mod Report
pub mod Entries
pub mod OnePass
pub mod Totals
pub mod Edges
