-- Laws of containers
pub mod Halves
-- What every step and every record does, whatever the state
pub mod Tending
pub mod Turned
pub mod OneRecord
pub mod Owners
-- The invariant of crate answers at every reachable state
pub mod Kept
-- With all threads idle, and one job alone
pub mod Calm
pub mod Solo
pub mod Alone
-- Lists of jobs, and the theorem
pub mod Orders
pub mod Reorder
