pub mod Octets
pub mod ValueLemmas
pub mod Integers
pub mod Names
pub mod KeyIdentifiers
pub mod PublicLaws
