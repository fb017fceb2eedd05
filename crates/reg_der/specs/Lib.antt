pub mod Der
pub mod WrittenValues
pub mod ValueReading
pub mod TaggedValues
pub mod Authority
pub mod Issuers
