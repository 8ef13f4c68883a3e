-- how often an arm gets past another, from the rules alone; and over a history of the gate
pub mod Overtaking
pub mod Entries
-- what its row and notes tell of that
pub mod Rows
-- put together
pub mod Bound
-- what an arm takes at most once a visit
pub mod Takes
-- how often the bit turns
pub mod Turns
-- the law
pub mod Fairness
