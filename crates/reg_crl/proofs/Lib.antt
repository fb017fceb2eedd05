mod Algorithms
pub mod PublicLaws
mod CrlNumber
mod Written
mod OneReading
