pub mod OpenedAgain
pub mod StopsOfOpenStores
pub mod PublicLaws
