pub mod Accountant
pub mod Reckoned
pub mod Lines
pub mod Statements
