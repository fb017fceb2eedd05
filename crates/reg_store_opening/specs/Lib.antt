pub mod Versions
pub mod Blank
pub mod VersionAndOffice
pub mod Examined
pub mod AfterStoppedOpening
pub mod Opens
