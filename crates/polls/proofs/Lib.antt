-- A lookup's walk over routes whose marks rise, along lists and files
pub mod SameKinds
pub mod Rulers
pub mod Walks
-- Request i: routes are three numbers apart
pub mod Numbers
-- Beyond it: a run makes at most 63 routes
pub mod Counts
pub mod Worth
pub mod Routes
-- and that bound is reached
pub mod Chain
pub mod Reached
