pub mod Machine
pub mod Lines
pub mod Curator
pub mod Served
pub mod Scripts
pub mod Statements
