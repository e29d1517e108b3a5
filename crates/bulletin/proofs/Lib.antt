pub mod Moves
pub mod Writing
