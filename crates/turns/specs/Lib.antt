pub mod MemoryPlaces
