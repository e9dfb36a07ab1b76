pub mod Above
pub mod Live
