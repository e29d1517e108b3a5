pub mod Commands
pub mod Openings
pub mod Places
pub mod Runs
