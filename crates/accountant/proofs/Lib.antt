pub mod Balances
pub mod Entries
pub mod Queries
pub mod Remaining
pub mod Runs
pub mod Texts
