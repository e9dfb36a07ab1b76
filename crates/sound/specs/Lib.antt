pub mod Row
pub mod LinkOf
pub mod Sources
pub mod Held
pub mod Marks
pub mod HolderTable
pub mod RulesInOrder
