-- The table of kinds: its rows by number, and that each field of a kind ends within the kind's record.
-- A rule of the table is one test, computed over all rows, and one lemma that turns it into the rule at each row.
use mathlib.Core.Path.{◌≡◌, refl, sym}
use mathlib.Core.Bool.{Bool, false, ◌||◌}
use mathlib.Core.List.{List, [], ◌∷◌}
use Prim.Native.Nat.{ℕ, ◌+◌, ◌≤◌}
use native.Mathlib.Omega.{arith}
use lib.ListN.{length, get_or}
use lib.Dec.{leb, ltb}
use borrow.Author.Tests.{leb-true, le-ltb}
use Rattle.record.specs.Table.{kinds, row_of, length_of}
use Rattle.record.specs.Fields.{columns, offsets_in, RowFits}
use Rattle.record.proofs.Computed.{every, every_at, every_each, else_at, NoneOf, among, none_among}

-- each offset is at most the length, so that the field ends within the record
abbrev fields_inside : List ℕ → Bool
fields_inside row = every (λ (at : ℕ). leb at (get_or row 1 0)) (columns (offsets_in row))

pub row_fits : (k n : ℕ) → length_of k + 2 ≤ n → RowFits (row_of k) n
unfolding row_of
row_fits k n room =
    record {
      ends =
          every_each (λ (at : ℕ). leb at (length_of k)) (λ (at : ℕ). at + 2 ≤ n)
          (λ at inside. omega (arith, leb-true at (length_of k) inside))
          (columns (offsets_in (row_of k)))
          (every_at fields_inside kinds _ refl refl k);
    }

-- the same of a row and its length, as the code has them
pub row_within : (row : List ℕ) (k n : ℕ) → row ≡ row_of k → get_or row 1 0 + 2 ≤ n → RowFits row n
row_within row k n row_is room = rw row_is (row_fits k n (rw row_is at room))

-- the longest record has ten bytes, its length bytes included
abbrev short : List ℕ → Bool
short row = leb (get_or row 1 0) 8

pub at_most_eight : (k : ℕ) → length_of k ≤ 8
unfolding row_of
at_most_eight k = leb-true (length_of k) 8 (every_at short kinds _ refl refl k)

-- the kinds that `row_of`'s match on the numbers from 6 on has an arm for, the last one first
abbrev arms : List ℕ
arms = 16 ∷ 15 ∷ 14 ∷ 13 ∷ 12 ∷ 11 ∷ 10 ∷ 9 ∷ 8 ∷ 7 ∷ 6 ∷ []

-- any other number from 6 on is past the table
pub zeros_else : (k : ℕ) → 6 ≤ k → NoneOf arms k → get_or kinds 0 [] ≡ row_of k
unfolding row_of
zeros_else k from_six none =
    let stays : (among arms k || ltb k 6) ≡ false = rw (none_among arms k none) (le-ltb k 6 from_six) in
    sym (else_at (length kinds) (λ i. among arms i || ltb i 6) row_of (get_or kinds 0 []) refl (λ i. refl) k stays)
