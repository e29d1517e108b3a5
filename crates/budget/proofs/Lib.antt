pub mod Openings
pub mod Payments
pub mod Totals
