pub mod AfterStoppedChange
pub mod ChangeEffects
pub mod ChangeSteps
pub mod DerivedEffects
pub mod MadeChanges
pub mod WithinTransactions
