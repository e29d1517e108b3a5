pub mod Counting
pub mod Ring
pub mod Table
pub mod Statements
