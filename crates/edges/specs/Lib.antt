pub mod Single
pub mod Filled
pub mod Empty
pub mod Edges
