pub mod Fill
pub mod Delimiter
pub mod Put
pub mod RunsOfAnswers
