-- The limits of an accepted trace as numbers, which the tables of a program's work area go by: threads below 8,
-- locations below 256; and which events have a thread, a location.
use Prim.Native.Nat.{ℕ, ◌<◌}
use native.Mathlib.Omega.{arith}
use mathlib.Core.Path.{◌≡◌, refl}
use mathlib.Core.Bool.{Bool, true, ◌||◌, not}
use mathlib.Core.Logic.{◌⊎◌, inl, inr}
use lib.Dec.{eqb}
use borrow.Author.Tests.{eqb-true}
use Rattle.record.specs.declared.events.Event.{Event}
use Rattle.record.specs.Fields.{thread_in, location_in}
use Rattle.record.specs.Table.{row_of}
use Rattle.model.specs.Trace.{kind, thread, location, has_thread?, has_location?, Issue, Commit, Load}
use Rattle.model.specs.Trace.{Signal, Wait, is, drained?, signal?, skip_on?, skip_off?, open?, close?}
use Rattle.model.specs.Rules.{Accepted}
use Rattle.model.proofs.Searching.{or_cases}
use Rattle.model.proofs.Limits.{few_threads, few_locations, thread_below, location_below}

module _ (ev : ℕ → Event) where
  -- a test of kinds that two kinds pass is passed by an event of either
  of_two :
      (passes? : ℕ → Bool) (a b : ℕ) → passes? a ≡ true → passes? b ≡ true
      → (e : ℕ) → (is ev a e || is ev b e) ≡ true → passes? (kind ev e) ≡ true
  of_two passes? a b by_a by_b e either = by_kind (or_cases (is ev a e) (is ev b e) either)
    where
      by_kind : (is ev a e ≡ true) ⊎ (is ev b e ≡ true) → passes? (kind ev e) ≡ true
      by_kind (inl is_a) = rw (eqb-true (kind ev e) a is_a) by_a
      by_kind (inr is_b) = rw (eqb-true (kind ev e) b is_b) by_b

  abbrev thread_of? : ℕ → Bool
  thread_of? k = not (eqb (thread_in (row_of k)) 0)

  abbrev location_of? : ℕ → Bool
  location_of? k = not (eqb (location_in (row_of k)) 0)

  pub issue_has_thread : {p : ℕ} → Issue ev p → has_thread? ev p ≡ true
  unfolding row_of
  issue_has_thread {p} store = of_two thread_of? 2 12 refl refl p store.test

  pub issue_has_location : {p : ℕ} → Issue ev p → has_location? ev p ≡ true
  unfolding row_of
  issue_has_location {p} store = of_two location_of? 2 12 refl refl p store.test

  pub commit_has_thread : {c : ℕ} → Commit ev c → has_thread? ev c ≡ true
  unfolding row_of
  commit_has_thread {c} commits = of_two thread_of? 3 12 refl refl c commits.test

  pub load_has_thread : {l : ℕ} → Load ev l → has_thread? ev l ≡ true
  unfolding row_of
  load_has_thread {l} loads = of_two thread_of? 4 12 refl refl l loads.test

  pub signal_has_thread : {e : ℕ} → Signal ev e → has_thread? ev e ≡ true
  unfolding row_of
  signal_has_thread {e} signals = rw (eqb-true (kind ev e) 13 signals.test) refl

  pub drained_has_thread : (e : ℕ) → drained? ev e ≡ true → has_thread? ev e ≡ true
  unfolding row_of
  drained_has_thread e it = by_kind (or_cases (is ev 8 e || is ev 12 e) (signal? ev e) it)
    where
      by_kind : ((is ev 8 e || is ev 12 e) ≡ true) ⊎ (signal? ev e ≡ true) → has_thread? ev e ≡ true
      by_kind (inl either) = of_two thread_of? 8 12 refl refl e either
      by_kind (inr signals) = signal_has_thread (record { test = signals })

  pub wait_has_thread : {e : ℕ} → Wait ev e → has_thread? ev e ≡ true
  unfolding row_of
  wait_has_thread {e} waits = rw (eqb-true (kind ev e) 14 waits.test) refl

  pub skip_on_has_thread : (e : ℕ) → skip_on? ev e ≡ true → has_thread? ev e ≡ true
  unfolding row_of
  skip_on_has_thread e it = rw (eqb-true (kind ev e) 10 it) refl

  pub open_has_thread : (e : ℕ) → open? ev e ≡ true → has_thread? ev e ≡ true
  unfolding row_of
  open_has_thread e it = rw (eqb-true (kind ev e) 15 it) refl

  pub close_has_thread : (e : ℕ) → close? ev e ≡ true → has_thread? ev e ≡ true
  unfolding row_of
  close_has_thread e it = rw (eqb-true (kind ev e) 16 it) refl

  pub skip_off_has_thread : (e : ℕ) → skip_off? ev e ≡ true → has_thread? ev e ≡ true
  unfolding row_of
  skip_off_has_thread e it = rw (eqb-true (kind ev e) 11 it) refl

  pub load_has_location : {l : ℕ} → Load ev l → has_location? ev l ≡ true
  unfolding row_of
  load_has_location {l} loads = of_two location_of? 4 12 refl refl l loads.test

  module _ (N : ℕ) (accepted : Accepted ev N) where
    pub thread_bound : (n : ℕ) → n < N → has_thread? ev n ≡ true → thread ev n < 8
    thread_bound n inside has =
        omega (arith, thread_below ev N accepted n inside has, few_threads ev N accepted (omega arith))

    pub location_bound : (n : ℕ) → n < N → has_location? ev n ≡ true → location ev n < 256
    location_bound n inside has =
        omega (arith, location_below ev N accepted n inside has, few_locations ev N accepted (omega arith))
