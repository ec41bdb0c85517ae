-- What is read after stores into a list: at each position what was stored there last, and elsewhere what stood there.
-- In order: ranges of positions; one store; a run of stores.
use mathlib.Core.Path.{◌≡◌, refl, sym, ◌∙◌}
use mathlib.Core.Bool.{true, cond}
use mathlib.Core.List.{List}
use mathlib.Core.Logic.{◌⊎◌, inl, inr, ◌≢◌}
use Prim.Native.Nat.{ℕ, zero, suc, ◌+◌, ◌≤◌, ◌<◌}
use native.Mathlib.Omega.{arith}
use borrow.Author.Tests.{eq-eqb, ne_eqb, ltb-true, leb-true}
use lib.Dec.{eqb, ltb, leb}
use lib.ListN.{length, get_or, set, length-set}
use lib.Seq.{get_or-set_same, get_or-set_other}
use Rattle.model.proofs.Searching.{same?}

-- from `low` on and below `high`, the list is as it was
abbrev pub Same : ℕ → ℕ → List ℕ → List ℕ → Type 0
Same low high l l' = (i : ℕ) → low ≤ i → i < high → get_or l' i 0 ≡ get_or l i 0

-- elsewhere it is
abbrev pub Elsewhere : ℕ → ℕ → List ℕ → List ℕ → Type 0
Elsewhere low high l l' = (i : ℕ) → (low ≤ i → i < high → ⊥) → get_or l' i 0 ≡ get_or l i 0

-- ---- one store

pub set_leaves : (l : List ℕ) (at v i : ℕ) → at ≢ i → get_or (set l at v) i 0 ≡ get_or l i 0
set_leaves l at v i differ = get_or-set_other l at i v 0 (λ same. differ (sym same))

-- into column k of a row of 16: column i of the row. `simp` reads a chain of such stores by it
pub column_after :
    (l : List ℕ) (row k v i : ℕ) → leb (row + 16) (length l) ≡ true → ltb k 16 ≡ true
    → get_or (set l (row + k) v) (row + i) 0 ≡ cond (eqb k i) v (get_or l (row + i) 0)
column_after l row k v i room low = by_column (same? k i)
  where
    by_column : (k ≡ i) ⊎ (k ≢ i) → get_or (set l (row + k) v) (row + i) 0 ≡ cond (eqb k i) v (get_or l (row + i) 0)
    by_column (inl is) =
        rw (← is, eq-eqb k k refl)
        (get_or-set_same l (row + k) v 0 (omega (arith, ltb-true k 16 low, leb-true (row + 16) (length l) room)))
    by_column (inr differs) =
        rw (ne_eqb k i differs) (set_leaves l (row + k) v (row + i) (λ same. differs (omega arith)))

-- ---- a run of stores

-- the numbers g 0 to g (k - 1) from a position on
unfoldable pub run : ℕ → ℕ → (ℕ → ℕ) → List ℕ → List ℕ
run at zero g l = l
run at (suc u) g l = set (run at u g l) (at + u) (g u)

module _ (at : ℕ) (g : ℕ → ℕ) (l : List ℕ) where
  pub run_size : (k : ℕ) → length (run at k g l) ≡ length l
  unfolding run
  run_size zero = refl
  run_size (suc u) = length-set (run at u g l) _ _ ∙ run_size u

  pub run_leaves : (k : ℕ) → Elsewhere at (at + k) l (run at k g l)
  unfolding run
  run_leaves zero i outside = refl
  run_leaves (suc u) i outside =
      set_leaves (run at u g l) (at + u) (g u) i (λ same. outside (omega arith) (omega arith))
      ∙ run_leaves u i (λ low high. outside low (omega arith))

  pub run_in : (k u : ℕ) → at + k ≤ length l → u < k → get_or (run at k g l) (at + u) 0 ≡ g u
  unfolding run
  run_in zero u room below = absurd (omega arith)
  run_in (suc i) u room below = last_or_earlier (same? u i) (run_in i u (omega arith))
    where
      last_or_earlier :
          (u ≡ i) ⊎ (u ≢ i) → (u < i → get_or (run at i g l) (at + u) 0 ≡ g u)
          → get_or (set (run at i g l) (at + i) (g i)) (at + u) 0 ≡ g u
      last_or_earlier (inl is) earlier =
          rw is (get_or-set_same (run at i g l) (at + i) (g i) 0 (omega (arith, run_size i)))
      last_or_earlier (inr differs) earlier =
          set_leaves (run at i g l) (at + i) (g i) (at + u) (λ same. differs (omega arith)) ∙ earlier (omega arith)
