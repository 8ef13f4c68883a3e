mod SameTest
mod Table
mod Examples
