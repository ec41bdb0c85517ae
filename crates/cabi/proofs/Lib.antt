-- The mathematics that the functions' proofs cite.
pub mod Naming
pub mod WindowNumbers
