-- What the functions' proofs cite: the text of an input that is judged (Texts).
pub mod Texts
