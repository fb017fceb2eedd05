pub mod UndecidedRows
pub mod KeptRows
pub mod CachedCalls
