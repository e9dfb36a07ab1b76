pub mod Played
pub mod Calls
