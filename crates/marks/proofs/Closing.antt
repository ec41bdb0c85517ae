-- The end of a robust trace: the marks' counts of the least choice are the closure's 56 counts, copied and summed, and
-- no more of them than were committed, so that the share is the definitions' one.
use Rattle.std.proofs.lemmas.Grind.{same_number_lists}
use Rattle.std.proofs.lemmas.List.{get_or-take, get_or-drop}
use Rattle.std.proofs.Common.{length-drop}
use Prim.Native.Nat.{ℕ, zero, suc, ◌+◌, ◌/◌, ◌%◌, ◌≤◌, ◌<◌, min}
use native.Mathlib.Omega.{arith}
use native.Mathlib.Nat.{div-le_of_le-mul}
use mathlib.Core.Path.{◌≡◌, refl, sym, ◌∙◌, ap}
use mathlib.Core.List.{List, ◌++◌, append-nil}
use lib.ListN.{length, get_or, take, drop}
use lib.Seq.{length-take-le, drop-cons, set_at, append_snoc, drop-length}
use Rattle.record.specs.declared.events.Event.{Event}
use Rattle.model.specs.Rules.{Accepted}
use Rattle.model.specs.Choice.{finished}
use Rattle.model.specs.Verdict.{closure}
use Rattle.model.specs.Answers.{tabulate, sum, percent, cut_of, share_of}
use Rattle.model.proofs.Tabulating.{sum_mono, tabulate_same, tabulate_length, tabulate_at}
use Rattle.model.proofs.Closure.{closure_fits}
use Rattle.marks.specs.declared.cells.Marks.{Marks}
use Rattle.marks.specs.Marks.{thread_cell, count_in}
use Rattle.marks.specs.Ending.{least_at, copied, stores_in}
use Rattle.marks.specs.Matching.{Judging}

-- ---- the buffer

module _ (counts : List ℕ) where
  -- the first n counts are copied, and the rest of the buffer is as it was
  copied_front :
      (n : ℕ) (out : List ℕ) → n ≤ length out
      → copied n counts out ≡ tabulate n (least_at counts) ++ drop n out
  unfolding copied tabulate
  copied_front zero out within = refl
  copied_front (suc n) out within =
      rw (copied_front n out (omega arith), drop-cons out n 0 within)
      (set_at (tabulate n (least_at counts)) _ _ (least_at counts n) n (tabulate_length n (least_at counts))
      ∙ sym (append_snoc (tabulate n (least_at counts)) (least_at counts n) (drop (suc n) out)))

  copied_all : (n : ℕ) (out : List ℕ) → length out ≡ n → copied n counts out ≡ tabulate n (least_at counts)
  copied_all n out size = copied_front n out (omega arith) ∙ rw (← size, drop-length out) (append-nil _)

  -- as many counts as the buffer has numbers, from those of the least choice on
  pub copied_part :
      (n k : ℕ) (out : List ℕ) → ((i : ℕ) → least_at counts i ≡ count_in counts (k + i)) → length out ≡ n
      → k + n ≤ length counts → take n (drop k counts) ≡ copied n counts out
  copied_part n k out from_k size within =
      same_number_lists (take n (drop k counts)) (tabulate n (least_at counts))
      (omega (arith, tabulate_length n (least_at counts), taken_length)) same_numbers
      ∙ sym (copied_all n out size)
    where
      taken_length : length (take n (drop k counts)) ≡ n
      taken_length = length-take-le n (drop k counts) (omega (arith, length-drop k counts))

      same_numbers :
          (i : ℕ) → i < length (take n (drop k counts))
          → get_or (take n (drop k counts)) i 0 ≡ get_or (tabulate n (least_at counts)) i 0
      same_numbers i below =
          let there : i < n = omega (arith, taken_length) in
          rw (tabulate_at n (least_at counts) i 0 there, from_k i)
          (get_or-take n (drop k counts) i 0 there ∙ get_or-drop k counts i 0)

module _ (ev : ℕ → Event) (N : ℕ) where
  module _ (m : Marks) (judging : Judging ev N m) where
    least_table : tabulate 56 (least_at m.cut) ≡ cut_of (closure ev N)
    unfolding cut_of
    least_table = tabulate_same 56 _ _ least_is
      where
        least_is : (i : ℕ) → i < 56 → least_at m.cut i ≡ closure ev N (i / 8 + 1) (i % 8)
        least_is i there =
            let at : 8 + i ≡ thread_cell (i / 8 + 1) (i % 8) = omega arith in
            ap (λ (cell : ℕ). count_in m.cut cell) at
            ∙ judging.cuts (i / 8 + 1) (i % 8) (omega arith) (omega arith) (omega arith)

    -- THE CUT BUFFER
    pub cut_is : (out : List ℕ) → length out ≡ 56 → copied 56 m.cut out ≡ cut_of (closure ev N)
    cut_is out size = copied_all m.cut 56 out size ∙ least_table

    pub stores_in_is : stores_in m.cut ≡ sum (cut_of (closure ev N))
    stores_in_is = ap sum least_table

  -- ---- the share

  -- a part of no more than the whole
  percent_bound : (k n : ℕ) → k ≤ n → percent k n ≤ 100
  percent_bound k zero within = omega arith
  percent_bound k (suc n) within = div-le_of_le-mul (suc n) (omega arith)

  module _ (accepted : Accepted ev N) where
    in_all : sum (cut_of (closure ev N)) ≤ sum (cut_of (finished ev N))
    unfolding cut_of
    in_all = sum_mono 56 _ _ (λ i there. closure_fits ev N accepted (i / 8 + 1) (i % 8))

    -- THE SHARE
    pub share_is :
        min (percent (sum (cut_of (closure ev N))) (sum (cut_of (finished ev N)))) 65535
        ≡ share_of (closure ev N) (finished ev N)
    unfolding share_of
    share_is = capped _ (percent_bound _ _ in_all)
      where
        capped : (r : ℕ) → r ≤ 100 → min r 65535 ≡ r
        capped r small = omega arith
