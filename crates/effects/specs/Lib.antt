pub mod OpenLinks
pub mod FirstValues
pub mod Satisfying
pub mod Linking
pub mod Delivering
pub mod Ready
pub mod Made
pub mod MadeFirst
