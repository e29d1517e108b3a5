pub mod Released
pub mod Printed
pub mod Lines
pub mod Distance
pub mod Shares
pub mod Statements
