pub mod RefusalLaws
pub mod CheckParts
pub mod SoundParts
pub mod HolderList
pub mod GrantChecks
pub mod Scan
pub mod UserEvents
