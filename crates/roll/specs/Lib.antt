pub mod Lists
pub mod Numbers
pub mod Predicates
pub mod Reading
pub mod Refusals
pub mod Rows
pub mod Stored
pub mod Tokens
