pub mod Cutting
pub mod TidyUnderWay
pub mod Finish
pub mod RetiringParts
pub mod Climb
pub mod Children
pub mod Steps
