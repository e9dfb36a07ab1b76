pub mod ProgramStepped
