-- What a reader has to believe of this crate: Decimal and Lines (what the program `verdict` prints) and Extent (how
-- many threads and finished stretches a trace has). Page serves the private functions' contracts only.
pub mod Decimal
pub mod Lines
pub mod Extent
pub mod Page
