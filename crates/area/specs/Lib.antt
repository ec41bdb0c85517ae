-- The work area as rows, which the private contracts of the judge's layers cite. No public contract of the judge names
-- anything of this crate.
pub mod Cells
pub mod Rows
