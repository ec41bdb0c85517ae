-- Numbers joined with a store's clock: each is stored before the next is read, and no two are in one place, so each is
-- the larger of what it was and of the clock's; all others are as they were.
use mathlib.Core.Path.{◌≡◌, refl, ◌∙◌}
use mathlib.Core.Logic.{◌⊎◌, inl, inr, ◌≢◌}
use mathlib.Core.List.{List}
use Prim.Native.Nat.{ℕ, zero, suc, ◌+◌, ◌≤◌, ◌<◌, max}
use native.Mathlib.Omega.{arith}
use lib.ListN.{length, get_or, length-set}
use lib.Seq.{get_or-set_same, get_or-set_other}
use Rattle.model.proofs.Searching.{same?}
use Rattle.area.specs.Cells.{row_start, joined}

module _ (l : List ℕ) (s to : ℕ) (numbers : List ℕ) where
  pub joined_size : (n : ℕ) → length (joined n l s to numbers) ≡ length numbers
  unfolding joined
  joined_size zero = refl
  joined_size (suc u) = length-set (joined u l s to numbers) _ _ ∙ joined_size u

  pub joined_leaves :
      (n i : ℕ) → (to ≤ i → i < to + n → ⊥) → get_or (joined n l s to numbers) i 0 ≡ get_or numbers i 0
  unfolding joined
  joined_leaves zero i outside = refl
  joined_leaves (suc u) i outside =
      get_or-set_other (joined u l s to numbers) (to + u) i _ 0 (λ same. outside (omega arith) (omega arith))
      ∙ joined_leaves u i (λ low high. outside low (omega arith))

  -- what number u becomes
  abbrev larger : ℕ → ℕ
  larger u = max (get_or numbers (to + u) 0) (get_or l (row_start s + u) 0)

  pub joined_there :
      (n u : ℕ) → to + n ≤ length numbers → u < n
      → get_or (joined n l s to numbers) (to + u) 0 ≡ larger u
  unfolding joined
  joined_there zero u within below = absurd (omega arith)
  joined_there (suc v) u within below = last_or_earlier (same? u v) (joined_there v u (omega arith))
    where
      last_or_earlier :
          (u ≡ v) ⊎ (u ≢ v) → (u < v → get_or (joined v l s to numbers) (to + u) 0 ≡ larger u)
          → get_or (joined (suc v) l s to numbers) (to + u) 0 ≡ larger u
      last_or_earlier (inl last) earlier =
          rw last
          (get_or-set_same (joined v l s to numbers) (to + v) _ 0 (omega (arith, joined_size v))
          ∙ rw (joined_leaves v (to + v) (λ low high. omega arith)) refl)
      last_or_earlier (inr differs) earlier =
          get_or-set_other (joined v l s to numbers) (to + v) (to + u) _ 0 (λ same. differs (omega arith))
          ∙ earlier (omega arith)
