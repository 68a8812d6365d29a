pub mod Lists
pub mod Search
