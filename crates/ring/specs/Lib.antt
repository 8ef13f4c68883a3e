pub mod Spans
pub mod Rings
pub mod Refusals
