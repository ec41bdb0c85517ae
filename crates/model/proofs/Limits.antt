-- The limits that hold in an accepted trace: if it has a begin, at most eight threads and 256 locations; at most seven
-- crashes; and every thread and location below what the begin said. These are refusals that its events have passed
-- (proofs/Acceptance.antt).
use Prim.Native.Nat.{ℕ, zero, suc, ◌≤◌, ◌<◌}
use native.Mathlib.Omega.{arith}
use mathlib.Core.Path.{◌≡◌, refl}
use mathlib.Core.Bool.{true, false, ◌&&◌}
use mathlib.Core.Logic.{◌⊎◌, inl, inr, ◌≢◌}
use lib.Dec.{eqb, ltb, leb}
use borrow.Author.Tests.{eqb-true, eqb-false, leb-true, leb-false}
use Rattle.record.specs.declared.events.Event.{Event}
use Rattle.model.specs.Trace.{thread, location, is, crash?, has_thread?, has_location?, version, threads, locations}
use Rattle.model.specs.Trace.{stretch}
use Rattle.model.specs.Rules.{within, begin_fits, refusal, Accepted}
use Rattle.model.proofs.Searching.{test, parts, or_fails, not_without, fails_after}
use Rattle.model.proofs.Counting.{stretch_crash, stretch_else}
use Rattle.model.proofs.Acceptance.{passed, begins}

first_stretch : (ev : ℕ → Event) → stretch ev 0 ≡ 1
unfolding stretch
first_stretch ev = refl

module _ (ev : ℕ → Event) where
  -- one more event that passes
  pub accepted_next : (n : ℕ) → Accepted ev n → refusal ev n ≡ 0 → Accepted ev (suc n)
  accepted_next n accepted passes_too = record { passes = last_or_earlier }
    where
      last_or_earlier : (e : ℕ) → e < suc n → refusal ev e ≡ 0
      last_or_earlier e inside = by_equality (test (eqb e n))
        where
          by_equality : (eqb e n ≡ true) ⊎ (eqb e n ≡ false) → refusal ev e ≡ 0
          by_equality (inl same) = rw (eqb-true e n same) passes_too
          by_equality (inr differs) =
              let other : e ≢ n = eqb-false e n differs in
              accepted.passes e (omega arith)

  module _ (N : ℕ) (accepted : Accepted ev N) where
    -- ---- the begin's fields, if there is any event

    module _ (some_event : 0 < N) where
      begin_still_fits : begin_fits ev 0 ≡ true
      begin_still_fits =
          let past = passed ev N accepted 0 some_event in
          not_without (is ev 1 0) (begin_fits ev 0) past.no_6 (begins ev N accepted some_event)

      threads_fit : within 1 8 (threads ev) ≡ true
      threads_fit =
          let both_ranges = parts (within 1 2 (version ev) && within 1 8 (threads ev)) _ begin_still_fits in
          (parts (within 1 2 (version ev)) _ both_ranges.0).1

      pub some_version : 1 ≤ version ev
      some_version =
          let both_ranges = parts (within 1 2 (version ev) && within 1 8 (threads ev)) _ begin_still_fits in
          leb-true 1 (version ev)
          (parts (leb 1 (version ev)) _ (parts (within 1 2 (version ev)) _ both_ranges.0).0).0

      pub some_thread : 1 ≤ threads ev
      some_thread = leb-true 1 (threads ev) (parts (leb 1 (threads ev)) _ threads_fit).0

      pub few_threads : threads ev ≤ 8
      few_threads = leb-true (threads ev) 8 (parts (leb 1 (threads ev)) _ threads_fit).1

      pub few_locations : locations ev ≤ 256
      few_locations =
          let both_ranges = parts (within 1 2 (version ev) && within 1 8 (threads ev)) _ begin_still_fits in
          leb-true (locations ev) 256 (parts (leb 1 (locations ev)) _ both_ranges.1).1

    -- ---- an event's thread and location

    pub thread_below : (n : ℕ) → n < N → has_thread? ev n ≡ true → thread ev n < threads ev
    thread_below n inside has =
        let past = passed ev N accepted n inside in
        leb-false (threads ev) (thread ev n) (fails_after (has_thread? ev n) _ past.no_7 has)

    pub location_below : (n : ℕ) → n < N → has_location? ev n ≡ true → location ev n < locations ev
    location_below n inside has =
        let past = passed ev N accepted n inside in
        leb-false (locations ev) (location ev n) (fails_after (has_location? ev n) _ past.no_8 has)

    -- ---- stretches

    crash_bound : (n : ℕ) → n < N → crash? ev n ≡ true → stretch ev n ≢ 8
    crash_bound n inside crash =
        let eighth = (or_fails (ltb 2048 n) _ (passed ev N accepted n inside).no_13).1 in
        eqb-false (stretch ev n) 8 (fails_after (crash? ev n) _ eighth crash)

    pub few_crashes : (n : ℕ) → n ≤ N → stretch ev n ≤ 8
    few_crashes zero within_n = rw (first_stretch ev) (omega arith)
    few_crashes (suc n) within_n = by_crash (test (crash? ev n)) (few_crashes n (omega arith))
      where
        by_crash : (crash? ev n ≡ true) ⊎ (crash? ev n ≡ false) → stretch ev n ≤ 8 → stretch ev (suc n) ≤ 8
        by_crash (inl crash) earlier = omega (arith, stretch_crash ev n crash, crash_bound n within_n crash)
        by_crash (inr no_crash) earlier = omega (arith, stretch_else ev n no_crash)
