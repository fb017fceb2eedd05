pub mod Examples
pub mod Extends
pub mod Headline
pub mod History
pub mod Import
pub mod Reached
pub mod Revocations
pub mod Run
