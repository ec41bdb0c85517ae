-- What a reader has to believe of this crate: which numbers stand for an answer (Answers) and for a record (Records).
pub mod Answers
pub mod Records
