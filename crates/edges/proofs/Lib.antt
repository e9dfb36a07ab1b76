pub mod Filled
pub mod Edges
