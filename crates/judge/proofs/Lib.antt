-- What the functions' proofs cite: the marks over an event (Judging), a run's records one by one (Records), its end,
-- and the order query and the verdict after it (Endings).
pub mod Judging
pub mod Records
pub mod Endings
