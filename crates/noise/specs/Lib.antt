pub mod Words
pub mod Dial
pub mod Release
pub mod Released
pub mod Statements
