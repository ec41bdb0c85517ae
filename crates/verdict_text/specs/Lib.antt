-- What a reader has to believe of this crate: what the program `verdict` prints (Text).
pub mod Text
