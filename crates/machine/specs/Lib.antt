-- The code's steps as total functions, which its contracts cite (Tables, Threads, Regions, Twin, Arms, Turning,
-- Effects, Outcomes, Orders), and what ties them to the definitions (Sim).
pub mod Forbidden
pub mod Tables
pub mod Threads
pub mod Regions
pub mod Twin
pub mod Arms
pub mod Turning
pub mod Effects
pub mod Outcomes
pub mod Orders
pub mod Sim
