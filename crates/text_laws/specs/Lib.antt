pub mod Reads
pub mod RoundTrip
pub mod Edges
