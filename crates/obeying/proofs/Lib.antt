pub mod SameMemory
pub mod Twins
