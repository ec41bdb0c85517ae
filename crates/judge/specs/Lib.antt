-- What is known where an event is judged, and the evidence (Judging), what the run has reached (Runs), and what is
-- answered after it: how two stores stand (Standings), or the verdict (Verdicts). The private contracts cite these; the
-- public ones cite crate model's definitions only.
pub mod Judging
pub mod Runs
pub mod Standings
pub mod Verdicts
