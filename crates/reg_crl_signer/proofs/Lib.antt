mod Carried
mod Identifiers
mod Pairs
mod PersistentConnections
mod Receipts
mod Signings
mod Sizes
