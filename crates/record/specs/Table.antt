-- Document 01, "The trace": "Kinds and their lengths are one fixed table". The code's table is this one.
use Rattle.std.specs.Prelude.{List, [], ◌∷◌, ℕ, get_or}

-- a row for each kind, at its number: kind, length, and the offsets in the record of its thread, location and source,
-- then of a begin's version, threads and locations, then of a close's outcome; last the first version of the format
-- that knows the kind; offset 0: no such field; length 0: no such kind
abbrev pub kinds : List (List ℕ)
kinds =
    (0 ∷ 0 ∷ 0 ∷ 0 ∷ 0 ∷ 0 ∷ 0 ∷ 0 ∷ 0 ∷ 0 ∷ [])
    ∷ (1 ∷ 8 ∷ 0 ∷ 0 ∷ 0 ∷ 4 ∷ 6 ∷ 8 ∷ 0 ∷ 1 ∷ [])
    ∷ (2 ∷ 6 ∷ 4 ∷ 6 ∷ 0 ∷ 0 ∷ 0 ∷ 0 ∷ 0 ∷ 1 ∷ [])
    ∷ (3 ∷ 4 ∷ 4 ∷ 0 ∷ 0 ∷ 0 ∷ 0 ∷ 0 ∷ 0 ∷ 1 ∷ [])
    ∷ (4 ∷ 8 ∷ 4 ∷ 6 ∷ 8 ∷ 0 ∷ 0 ∷ 0 ∷ 0 ∷ 1 ∷ [])
    ∷ (5 ∷ 6 ∷ 4 ∷ 6 ∷ 0 ∷ 0 ∷ 0 ∷ 0 ∷ 0 ∷ 1 ∷ [])
    ∷ (6 ∷ 6 ∷ 4 ∷ 6 ∷ 0 ∷ 0 ∷ 0 ∷ 0 ∷ 0 ∷ 1 ∷ [])
    ∷ (7 ∷ 4 ∷ 4 ∷ 0 ∷ 0 ∷ 0 ∷ 0 ∷ 0 ∷ 0 ∷ 1 ∷ [])
    ∷ (8 ∷ 4 ∷ 4 ∷ 0 ∷ 0 ∷ 0 ∷ 0 ∷ 0 ∷ 0 ∷ 1 ∷ [])
    ∷ (9 ∷ 2 ∷ 0 ∷ 0 ∷ 0 ∷ 0 ∷ 0 ∷ 0 ∷ 0 ∷ 1 ∷ [])
    ∷ (10 ∷ 4 ∷ 4 ∷ 0 ∷ 0 ∷ 0 ∷ 0 ∷ 0 ∷ 0 ∷ 1 ∷ [])
    ∷ (11 ∷ 4 ∷ 4 ∷ 0 ∷ 0 ∷ 0 ∷ 0 ∷ 0 ∷ 0 ∷ 1 ∷ [])
    ∷ (12 ∷ 8 ∷ 4 ∷ 6 ∷ 8 ∷ 0 ∷ 0 ∷ 0 ∷ 0 ∷ 1 ∷ [])
    ∷ (13 ∷ 4 ∷ 4 ∷ 0 ∷ 0 ∷ 0 ∷ 0 ∷ 0 ∷ 0 ∷ 1 ∷ [])
    ∷ (14 ∷ 6 ∷ 4 ∷ 0 ∷ 6 ∷ 0 ∷ 0 ∷ 0 ∷ 0 ∷ 1 ∷ [])
    ∷ (15 ∷ 4 ∷ 4 ∷ 0 ∷ 0 ∷ 0 ∷ 0 ∷ 0 ∷ 0 ∷ 2 ∷ [])
    ∷ (16 ∷ 6 ∷ 4 ∷ 0 ∷ 0 ∷ 0 ∷ 0 ∷ 0 ∷ 6 ∷ 2 ∷ [])
    ∷ []

-- the row of a kind; the zeros of row 0 where there is no such kind
unfoldable pub row_of : ℕ → List ℕ
row_of k = get_or kinds k (get_or kinds 0 [])

-- the length of a kind's record, "of all that follows" its length bytes; 0 where there is no such kind
abbrev pub length_of : ℕ → ℕ
length_of k = get_or (row_of k) 1 0

-- the first version of the format that knows the kind: document 02, job 7, "Version 2 of the begin record admits kind
-- 15 (open: thread, length 4) and kind 16 (close: thread, outcome, length 6)"; 0 where there is no such kind
abbrev pub since_of : ℕ → ℕ
since_of k = get_or (row_of k) 9 0
