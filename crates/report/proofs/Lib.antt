-- The mathematics that the functions' proofs cite, and the theorems about the definitions: `extent_of_accepted`
-- (Extents), `case_1_prints`, `case_2_prints` and `case_8_prints` (Printed).
pub mod Decimals
pub mod Pages
pub mod LineParts
pub mod Extents
pub mod Printed
