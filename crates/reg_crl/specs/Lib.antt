pub mod Crl
pub mod Faults
pub mod Signatures
pub mod Signing
pub mod Reading
