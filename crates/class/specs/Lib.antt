pub mod Steps
pub mod StillPrinted
pub mod Begun
pub mod StepLaws
pub mod Stepped
pub mod LineLengths
pub mod Chains
pub mod Halves
