-- The loop over the records (Looking), what the records show (Shown), that what is noted of them is that (Noting), and
-- that the windows are the definitions' (Answered).
pub mod Looking
pub mod Shown
pub mod Noting
pub mod Answered
