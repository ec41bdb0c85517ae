-- What a reader has to believe of this crate: what the round trips answer and leave in the output (RoundTrips).
pub mod RoundTrips
