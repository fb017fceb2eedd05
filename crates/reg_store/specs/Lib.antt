pub mod OpenedAgain
