-- Which arm of the match on the kind is taken, by the range in which the kind is. The single kinds compute.
use mathlib.Core.Path.{◌≡◌}
use mathlib.Core.Logic.{◌⊎◌, inl, inr, ◌≢◌}
use Prim.Native.Nat.{ℕ, ◌≤◌, ◌<◌}
use native.Mathlib.Omega.{arith}
use borrow.Author.Tests.{ne_eqb, le-leb, lt-leb}
use Rattle.model.proofs.Searching.{less?}
use Rattle.machine.specs.Arms.{by_kind}

-- the ranges behind the single kinds 2 to 4, and behind 9
pub behind_load : (k : ℕ) → 2 ≤ k → k ≢ 2 → k ≢ 3 → k ≢ 4 → 5 ≤ k
behind_load k low not_2 not_3 not_4 = omega arith

pub behind_crash : (k : ℕ) → 9 ≤ k → k ≢ 9 → 10 ≤ k
behind_crash k low not_9 = omega arith

module _
    {A : Type 0} (k : ℕ) (issue commit load flush fence crash skip locked signal wait opening closing other : A) where
  pub flush_arm :
      5 ≤ k → k ≤ 6
      → flush ≡ by_kind k issue commit load flush fence crash skip locked signal wait opening closing other
  unfolding by_kind
  flush_arm low high =
      rw (
        ne_eqb k 2 (λ is. omega arith),
        ne_eqb k 3 (λ is. omega arith),
        ne_eqb k 4 (λ is. omega arith),
        le-leb 5 k low,
        le-leb k 6 high,
      )

  pub fence_arm :
      7 ≤ k → k ≤ 8
      → fence ≡ by_kind k issue commit load flush fence crash skip locked signal wait opening closing other
  unfolding by_kind
  fence_arm low high =
      rw (
        ne_eqb k 2 (λ is. omega arith),
        ne_eqb k 3 (λ is. omega arith),
        ne_eqb k 4 (λ is. omega arith),
        le-leb 5 k (omega arith),
        lt-leb k 6 (omega arith),
        le-leb 7 k low,
        le-leb k 8 high,
      )

  pub skip_arm :
      10 ≤ k → k ≤ 11
      → skip ≡ by_kind k issue commit load flush fence crash skip locked signal wait opening closing other
  unfolding by_kind
  skip_arm low high =
      rw (
        ne_eqb k 2 (λ is. omega arith),
        ne_eqb k 3 (λ is. omega arith),
        ne_eqb k 4 (λ is. omega arith),
        le-leb 5 k (omega arith),
        lt-leb k 6 (omega arith),
        le-leb 7 k (omega arith),
        lt-leb k 8 (omega arith),
        ne_eqb k 9 (λ is. omega arith),
        le-leb 10 k low,
        le-leb k 11 high,
      )

  pub other_arm :
      (2 ≤ k → k ≤ 16 → ⊥)
      → other ≡ by_kind k issue commit load flush fence crash skip locked signal wait opening closing other
  unfolding by_kind
  other_arm outside = by_order (less? k 2)
    where
      by_order :
          (k < 2) ⊎ (2 ≤ k)
          → other ≡ by_kind k issue commit load flush fence crash skip locked signal wait opening closing other
      by_order (inl low) =
          rw (
            ne_eqb k 2 (λ is. omega arith),
            ne_eqb k 3 (λ is. omega arith),
            ne_eqb k 4 (λ is. omega arith),
            lt-leb 5 k (omega arith),
            lt-leb 7 k (omega arith),
            ne_eqb k 9 (λ is. omega arith),
            lt-leb 10 k (omega arith),
            ne_eqb k 12 (λ is. omega arith),
            ne_eqb k 13 (λ is. omega arith),
            ne_eqb k 14 (λ is. omega arith),
            ne_eqb k 15 (λ is. omega arith),
            ne_eqb k 16 (λ is. omega arith),
          )
      by_order (inr some) = by_top (less? 16 k)
        where
          by_top :
              (16 < k) ⊎ (k ≤ 16)
              → other ≡ by_kind k issue commit load flush fence crash skip locked signal wait opening closing other
          by_top (inr within_range) = absurd (outside some within_range)
          by_top (inl high) =
              rw (
                ne_eqb k 2 (λ is. omega arith),
                ne_eqb k 3 (λ is. omega arith),
                ne_eqb k 4 (λ is. omega arith),
                le-leb 5 k (omega arith),
                lt-leb k 6 (omega arith),
                le-leb 7 k (omega arith),
                lt-leb k 8 (omega arith),
                ne_eqb k 9 (λ is. omega arith),
                le-leb 10 k (omega arith),
                lt-leb k 11 (omega arith),
                ne_eqb k 12 (λ is. omega arith),
                ne_eqb k 13 (λ is. omega arith),
                ne_eqb k 14 (λ is. omega arith),
                ne_eqb k 15 (λ is. omega arith),
                ne_eqb k 16 (λ is. omega arith),
              )
