-- Functions on lists that the code of this crate is equal to (Marks, Marking, Testing, Judged, Ending), and what the
-- marks mean for a trace (Matching). The private contracts of the judge cite them.
pub mod Marks
pub mod Marking
pub mod Testing
pub mod Judged
pub mod Ending
pub mod Matching
