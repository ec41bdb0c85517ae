-- What is read after a store (ReadBack) and after a clock is joined (Joins), the links of a chain (Chains), the order
-- of two stores (Covering), and whether they are on one cache line (SameLine).
pub mod ReadBack
pub mod Joins
pub mod Chains
pub mod Covering
pub mod SameLine
