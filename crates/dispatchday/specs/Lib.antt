pub mod Plant
pub mod WaitTimes
pub mod Day
