-- Laws of the code's loops (Loops), and what the functions of specs/ mean for a trace: the invariant of judging, its
-- steps and its ends, which the judge cites, are in Matched.
pub mod Loops
pub mod Counts
pub mod Says
pub mod Walking
pub mod Segments
pub mod Stepping
pub mod Breaking
pub mod Finding
pub mod Closing
pub mod Noting
pub mod EachLoad
pub mod HeldLoads
pub mod Matched
