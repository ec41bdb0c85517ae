-- Induction on a number whose step may use all smaller numbers: by the order of numbers, which is well-founded.
use Prim.Native.Nat.{ℕ, zero, suc, ◌≤◌, ◌<◌}
use native.Mathlib.Omega.{arith}
use mathlib.Core.WellFounded.{fix}
use lib.WfN.{lt-wf_rel}

pub from_all_smaller : (P : ℕ → Type 0) → P 0 → ((n : ℕ) → ((m : ℕ) → m ≤ n → P m) → P (suc n)) → (n : ℕ) → P n
from_all_smaller P at_zero next n = fix {C = P} lt-wf_rel.wf by_number n
  where
    by_number : (n : ℕ) → ((m : ℕ) → m < n → P m) → P n
    by_number zero smaller = at_zero
    by_number (suc n) smaller = next n (λ m below. smaller m (omega arith))
