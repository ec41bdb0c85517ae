-- How the windows are found (Finding). The contracts of this crate and private ones of the judge cite it; the calls
-- that README.md lists cite crate model's definitions.
pub mod Finding
