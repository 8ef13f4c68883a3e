pub mod FileLimits
pub mod Orders
pub mod Faults
pub mod Numbers
pub mod Memory
pub mod Reading
pub mod Writing
pub mod Laws
