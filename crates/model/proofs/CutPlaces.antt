-- The cut buffer, place by place. "stretch j, thread t stands at 8 × (j − 1) + t, the rest 0": a choice that explains
-- has a count only where a thread of the begin has committed in a finished stretch, of which there are at most seven;
-- so the 56 numbers hold all of it, and everything else there is 0.
use Prim.Native.Nat.{ℕ, ◌+◌, ◌-◌, ◌*◌, ◌/◌, ◌%◌, ◌≤◌, ◌<◌}
use native.Mathlib.Omega.{arith}
use mathlib.Core.Path.{◌≡◌, ◌∙◌, ap₂}
use mathlib.Core.Bool.{true, false}
use mathlib.Core.Logic.{◌⊎◌, inl, inr, ◌≢◌}
use lib.ListN.{get_or}
use lib.Dec.{ltb}
use borrow.Author.Tests.{ltb-true}
use Rattle.record.specs.declared.events.Event.{Event}
use Rattle.model.specs.Trace.{commit?, threads, stretch, commits}
use Rattle.model.specs.Rules.{Accepted}
use Rattle.model.specs.Choice.{Choice, finished, Explains}
use Rattle.model.specs.Answers.{cut_of}
use Rattle.model.proofs.Searching.{test}
use Rattle.model.proofs.Counting.{at_place_lem}
use Rattle.model.proofs.StorePlaces.{stretch_some}
use Rattle.model.proofs.Limits.{few_threads, few_crashes, thread_below}
use Rattle.model.proofs.Ranges.{commit_has_thread}
use Rattle.model.proofs.Tabulating.{tabulate_at}

-- ---- where a choice has counts

-- a finished stretch, and a thread of the begin; both have a place in the buffer
pub record CutPlace (ev : ℕ → Event) (N j t : ℕ) : Type 0 where
  pub some_stretch : 1 ≤ j
  pub is_finished : j < stretch ev N
  pub at_most_7 : j ≤ 7
  pub of_begin : t < threads ev
  pub at_most_8 : threads ev ≤ 8

module _ (ev : ℕ → Event) (N : ℕ) (accepted : Accepted ev N) where
  finished_place : (j t : ℕ) → finished ev N j t ≢ 0 → CutPlace ev N j t
  unfolding finished
  finished_place j t some = by_stretch (test (ltb j (stretch ev N)))
    where
      by_stretch : (ltb j (stretch ev N) ≡ true) ⊎ (ltb j (stretch ev N) ≡ false) → CutPlace ev N j t
      by_stretch (inr unfinished) = absurd (some (rw unfinished))
      by_stretch (inl done) =
          let there : commits ev N j t ≢ 0 = rw done at some in
          let it = at_place_lem ev (commit? ev) N j t 0 (omega arith) in
          let has = commit_has_thread ev (record { test = it.passes }) in
          let earlier = ltb-true j (stretch ev N) done in
          record {
            some_stretch = omega (arith, it.in_j, stretch_some ev it.p);
            is_finished = earlier;
            at_most_7 = omega (arith, few_crashes ev N accepted N (omega arith));
            of_begin = omega (arith, it.by_t, thread_below ev N accepted it.p it.early has);
            at_most_8 = few_threads ev N accepted (omega (arith, it.early));
          }

  -- THE REST IS 0: where there is no such place, a choice that explains has no count
  pub cut_rest : (c : Choice) → Explains ev N c → (j t : ℕ) → c j t ≢ 0 → CutPlace ev N j t
  cut_rest c explains j t some =
      finished_place j t (λ none. some (omega (arith, explains.fits j t)))

-- ---- where its counts stand

pub cut_at : (c : Choice) (j t : ℕ) → 1 ≤ j → j ≤ 7 → t < 8 → get_or (cut_of c) (8 * (j - 1) + t) 0 ≡ c j t
unfolding cut_of
cut_at c j t from_1 to_7 there =
    tabulate_at 56 (λ i. c (i / 8 + 1) (i % 8)) (8 * (j - 1) + t) 0 (omega arith)
    ∙ ap₂ c (omega arith) (omega arith)
