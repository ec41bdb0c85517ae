-- Rows read back: a store leaves its value in its own cell and every other cell as it was, and keeps the length. Rows 1
-- to 2,048 begin at the multiples of 16, one after the other; 0 shares the last one with 2,048, so that an earlier
-- store's row, which is none of the two, is apart from it.
-- In order: where rows begin; stores by row and column; stores by position, in the row that begins there.
use mathlib.Core.Path.{◌≡◌, refl, ap}
use mathlib.Core.Logic.{◌⊎◌, inl, inr, ◌≢◌}
use mathlib.Core.List.{List}
use Prim.Native.Nat.{ℕ, zero, suc, ◌+◌, ◌*◌, ◌≤◌, ◌<◌, ◌%◌}
use native.Mathlib.Omega.{arith}
use borrow.Author.Tests.{lt-ltb}
use lib.ListN.{length, set, get_or, replicate, length-set}
use lib.Seq.{get_or-set_same, get_or-set_other}
use Rattle.model.proofs.Searching.{same?}
use Rattle.area.specs.Cells.{row_start, get_row, put_row, up}

-- ---- where rows begin

pub start_is : (e : ℕ) → 1 ≤ e → e ≤ 2048 → row_start e + 16 ≡ 16 * e
unfolding row_start
start_is e from_one to_last = omega arith

pub start_inside : (e : ℕ) → row_start e + 16 ≤ 32768
unfolding row_start
start_inside e = omega arith

start_of_0 : row_start 0 ≡ 32752
unfolding row_start
start_of_0 = refl

-- a cell of one row is no cell of another that begins elsewhere, nor in another column
cells_apart :
    (a b k k' : ℕ) → k < 16 → k' < 16 → (row_start a ≡ row_start b → k ≡ k' → ⊥) → row_start a + k ≢ row_start b + k'
unfolding row_start
cells_apart a b k k' low low' differ same = differ (omega arith) (omega arith)

-- the row of an earlier store is apart from that of any other number
pub rows_apart : (e p : ℕ) → e ≤ 2048 → 1 ≤ p → p ≤ 2047 → e ≢ p → row_start e ≢ row_start p
rows_apart e p to_last from_one early differ same = by_number (same? e 0)
  where
    its_start : row_start p + 16 ≡ 16 * p
    its_start = start_is p from_one (omega arith)

    by_number : (e ≡ 0) ⊎ (e ≢ 0) → ⊥
    by_number (inl none) = omega (arith, its_start, start_of_0, ap row_start none)
    by_number (inr some) = differ (omega (arith, its_start, start_is e (omega arith) to_last))

-- ---- stores by row and column

pub length_put : (l : List ℕ) (e k v : ℕ) → length (put_row l e k v) ≡ length l
unfolding put_row
length_put l e k v = length-set l _ v

pub put_same : (l : List ℕ) (e k v : ℕ) → 32768 ≤ length l → get_row (put_row l e k v) e k ≡ v
unfolding get_row put_row
put_same l e k v room = get_or-set_same l (row_start e + k % 16) v 0 (omega (arith, start_inside e))

put_other :
    (l : List ℕ) (e k v e' k' : ℕ) → k < 16 → k' < 16 → (row_start e ≡ row_start e' → k ≡ k' → ⊥)
    → get_row (put_row l e k v) e' k' ≡ get_row l e' k'
unfolding get_row put_row
put_other l e k v e' k' low low' differ =
    get_or-set_other l (row_start e + k % 16) (row_start e' + k' % 16) v 0
    (λ same. cells_apart e e' k k' low low' differ (omega arith))

-- another column
pub put_column :
    (l : List ℕ) (e k v e' k' : ℕ) → k < 16 → k' < 16 → k ≢ k' → get_row (put_row l e k v) e' k' ≡ get_row l e' k'
put_column l e k v e' k' low low' differ = put_other l e k v e' k' low low' (λ _ same. differ same)

-- another row
pub put_row_lem :
    (l : List ℕ) (e k v e' k' : ℕ) → k < 16 → k' < 16 → row_start e ≢ row_start e'
    → get_row (put_row l e k v) e' k' ≡ get_row l e' k'
put_row_lem l e k v e' k' low low' differ = put_other l e k v e' k' low low' (λ same _. differ same)

-- ---- stores by position, in the row of event n, which begins at `row`

module _ (l : List ℕ) (row n : ℕ) (begins : row + 16 ≡ 16 * n) (to_last : n ≤ 2048) where
  start_here : row_start n ≡ row
  start_here = omega (arith, start_is n (omega arith) to_last)

  pub set_here : (k v : ℕ) → 32768 ≤ length l → k < 16 → get_row (set l (row + k) v) n k ≡ v
  unfolding get_row
  set_here k v room low =
      let there : row + k ≡ row_start n + k % 16 = omega (arith, start_here) in
      rw there (get_or-set_same l (row_start n + k % 16) v 0 (omega (arith, start_inside n)))

  -- another column, of whichever row
  pub set_column : (u v p k : ℕ) → u < 16 → k < 16 → u ≢ k → get_row (set l (row + u) v) p k ≡ get_row l p k
  unfolding get_row
  set_column u v p k low low' differ =
      get_or-set_other l (row + u) (row_start p + k % 16) v 0
      (λ same. cells_apart n p u k low low' (λ _ same_column. differ same_column) (omega (arith, start_here)))

  -- the row of another event
  pub set_elsewhere :
      (u v p k : ℕ) → u < 16 → k < 16 → 1 ≤ p → p ≤ 2048 → n ≢ p → get_row (set l (row + u) v) p k ≡ get_row l p k
  unfolding get_row
  set_elsewhere u v p k low low' from_one p_to_last differ =
      get_or-set_other l (row + u) (row_start p + k % 16) v 0
      (λ same. differ (omega (arith, start_is p from_one p_to_last)))

-- ---- cleared numbers

pub cleared_at : (n i : ℕ) → ◌≡◌ {A = ℕ} (get_or (replicate n 0) i 0) 0
cleared_at zero i = refl
cleared_at (suc n) zero = refl
cleared_at (suc n) (suc i) = cleared_at n i

-- one more, of a number that no trace exceeds
pub up_is : (x : ℕ) → x ≤ 2049 → up x ≡ suc x
unfolding up
up_is x small = rw (lt-ltb x 65535 (omega arith)) (omega arith)
