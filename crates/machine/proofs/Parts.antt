-- Writing a part of a list at once is a run of stores.
use mathlib.Core.Path.{◌≡◌, refl, sym, ◌∙◌}
use mathlib.Core.List.{List}
use mathlib.Core.Logic.{◌⊎◌, inl, inr}
use Prim.Native.Nat.{ℕ, ◌+◌, ◌-◌, ◌*◌, ◌≤◌, ◌<◌}
use native.Mathlib.Omega.{arith}
use lib.ListN.{length, get_or, take, drop, replicate}
use borrow.Rule.Slice.PartMut.{put_mid}
use Rattle.std.proofs.lemmas.Grind.{same_number_lists, common_steps}
use Rattle.std.proofs.lemmas.List.{places, get_or-replicate}
use Rattle.std.proofs.Common.{rules}
use Rattle.model.proofs.Searching.{less?}
use Rattle.machine.specs.Threads.{unseen}
use Rattle.machine.proofs.Storing.{run, run_size, run_leaves, run_in}

module _ (at k : ℕ) (l ys : List ℕ) (room : at + k ≤ length l) (size : length ys ≡ k) where
  part_size : length (put_mid at k l ys) ≡ length l
  part_size = grind (arith, common_steps)

  part_before : (i : ℕ) → i < at → get_or (put_mid at k l ys) i 0 ≡ get_or l i 0
  part_before i before = search (rules, places)

  part_in : (u : ℕ) → u < k → get_or (put_mid at k l ys) (at + u) 0 ≡ get_or ys u 0
  part_in u inside = search (rules, places)

  part_behind : (i : ℕ) → at + k ≤ i → get_or (put_mid at k l ys) i 0 ≡ get_or l i 0
  part_behind i behind = search (rules, places)

  pub put_run : (g : ℕ → ℕ) → ((u : ℕ) → u < k → get_or ys u 0 ≡ g u) → put_mid at k l ys ≡ run at k g l
  put_run g is =
      same_number_lists _ _ (part_size ∙ sym (run_size at g l k)) (λ i _. by_place i (less? i at) (less? i (at + k)))
    where
      by_place :
          (i : ℕ) → (i < at) ⊎ (at ≤ i) → (i < at + k) ⊎ (at + k ≤ i)
          → get_or (put_mid at k l ys) i 0 ≡ get_or (run at k g l) i 0
      by_place i (inl before) _ =
          part_before i before ∙ sym (run_leaves at g l k i (λ low high. omega arith))
      by_place i (inr low) (inr behind) =
          part_behind i behind ∙ sym (run_leaves at g l k i (λ low high. omega arith))
      by_place i (inr low) (inl high) =
          let there : i ≡ at + (i - at) = omega arith in
          let inside : i - at < k = omega arith in
          rw there (part_in (i - at) inside ∙ (is (i - at) inside ∙ sym (run_in at g l k (i - at) room inside)))

-- a part of eight numbers
pub eight : (l : List ℕ) (at n : ℕ) → n ≡ 8 → at + 8 ≤ length l → length (take n (drop at l)) ≡ 8
eight l at n n_is room = grind (arith, common_steps, n_is, room)

-- eight zeros in a row of the tables
pub unseen_is :
    (tables : List ℕ) (t at n m : ℕ) (ys : List ℕ) → t < 8 → length tables ≡ 3008 → at ≡ 16 * t → n ≡ 8 → m ≡ 8
    → ys ≡ replicate m 0 → put_mid at n tables ys ≡ unseen 8 tables t
unfolding unseen run
unseen_is tables t at n m ys few size at_is n_is m_is ys_are =
    rw (at_is, n_is, ys_are, m_is)
    (put_run (16 * t) 8 tables (replicate 8 0) (omega (arith, size)) refl (λ _. 0)
    (λ u inside. get_or-replicate 8 u 0 0 inside))
