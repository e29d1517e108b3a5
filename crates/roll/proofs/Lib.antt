pub mod Chunks
pub mod Edits
pub mod Laws
pub mod Lists
pub mod Misfits
pub mod Scans
pub mod Sized
pub mod Totals
