-- What a reader has to believe of this crate, in document 01's order: Bytes, Table, Events, Fields, Answers, Reading,
-- Writing, Parts and Versions. Of these `put_word`, `RowFits`, `put_field`, `put_each` and `put_fields` serve the
-- private functions' contracts only.
pub mod Tests
pub mod Bytes
pub mod Table
pub mod Events
pub mod Fields
pub mod Answers
pub mod Reading
pub mod Writing
pub mod Parts
pub mod Versions
