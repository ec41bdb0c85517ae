-- What the contracts of this program's functions cite: what reading its input answers (Input).
pub mod Input
