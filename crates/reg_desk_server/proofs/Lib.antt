pub mod Exchanges
pub mod Gatherings
pub mod Holdings
pub mod WholeConnections
pub mod FeedLemmas
