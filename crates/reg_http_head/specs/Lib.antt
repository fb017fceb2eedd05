pub mod Allow
pub mod Bytes
pub mod Collected
pub mod Frame
pub mod Head
pub mod Response
pub mod ResponseStart
pub mod Laws
