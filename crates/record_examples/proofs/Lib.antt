-- Laws that the functions' proofs cite: what the types of parameters say (Typed), and the round trips (RoundTrips).
pub mod Typed
pub mod RoundTrips
