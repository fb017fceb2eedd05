pub mod RecordReading
pub mod NumberedRows
pub mod Older
pub mod Makes
pub mod Refilled
pub mod Rebuilds
