-- a play of the file has the report of the gate
pub mod SameReport
