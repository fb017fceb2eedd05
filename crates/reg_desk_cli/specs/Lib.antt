pub mod Desk
pub mod Jobs
pub mod Statuses
pub mod Table
pub mod WordValues
pub mod Checks
pub mod ExitStatus
