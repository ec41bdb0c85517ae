-- The mathematics that the functions' proofs cite, and the theorems about the definitions: RoundTrips, Starts, Fronts
-- and Scans.
pub mod Computed
pub mod Rows
pub mod Frames
pub mod Shapes
pub mod RoundTrips
pub mod Starts
pub mod NewKinds
pub mod Fronts
pub mod Scans
pub mod Sources
