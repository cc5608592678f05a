pub mod Lists
pub mod Strings
