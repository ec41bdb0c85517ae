-- What the functions' proofs cite: one rule after the other (RuleLaws), flags as numbers (Flags), a part of a list
-- written at once (Parts). Then that the machine's state follows the definitions: what is read after a step (Storing,
-- TableLaws, RowLaws), what an event leaves (Keep; of regions Holding), the load rule (Searches); by role, what loads,
-- commits and issues change, and at each file's end the step of its kinds (Quiet, Crashes, Meeting, Loads, Commits,
-- Issues, Locked, HandOver). The theorems that others cite: `refusals`, `begin_refusals` (Refusals), `step_next`,
-- `counts_is` (Simulation), `refusal_told`, `counted_told`, `after_told` (Taken), `sim_start` (Start), `sim_fits`
-- (Fits), `store_is`, `order_is` (Standings), `last_is`, `committed_is` (Closing), `number_not_0` (RuleLaws). Which arm
-- a range of kinds takes: ArmLaws.
pub mod ArmLaws
pub mod RuleLaws
pub mod Flags
pub mod Parts
pub mod Storing
pub mod TableLaws
pub mod RowLaws
pub mod Keep
pub mod Holding
pub mod Searches
pub mod Refusals
pub mod Quiet
pub mod Crashes
pub mod Meeting
pub mod Loads
pub mod Commits
pub mod Issues
pub mod Locked
pub mod HandOver
pub mod Simulation
pub mod Taken
pub mod Start
pub mod Fits
pub mod Standings
pub mod Closing
