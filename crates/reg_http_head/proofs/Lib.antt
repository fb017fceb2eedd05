pub mod CollectLemmas
pub mod FieldLemmas
pub mod FrameLemmas
pub mod HeadLemmas
pub mod LawLemmas
pub mod PublicLaws
pub mod ResponseLemmas
pub mod Written
