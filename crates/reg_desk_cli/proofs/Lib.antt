pub mod DeskLemmas
pub mod StepTexts
pub mod TableLemmas
pub mod PublicLaws
