pub mod Called
pub mod LibraryCalls
pub mod Sheets
