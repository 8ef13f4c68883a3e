pub mod Limits
pub mod Text
pub mod Reports
pub mod Playing
