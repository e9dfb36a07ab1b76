pub mod Ahead
pub mod Window
pub mod WindowLaws
