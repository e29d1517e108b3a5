pub mod Cells
pub mod Encoding
pub mod Lines
pub mod Rising
pub mod Rows
