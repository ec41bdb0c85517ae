-- Loads that count: a load that counts as of an event is a crossing load in no skip of its thread, and not later; it is
-- the event itself, or held at a close.
-- In order: what counts as of an event; what counts among the first events.
use Prim.Native.Nat.{ℕ, suc, ◌≤◌, ◌<◌}
use native.Mathlib.Omega.{arith}
use mathlib.Core.Path.{◌≡◌, refl}
use mathlib.Core.Bool.{Bool, true, false, cond, ◌&&◌, not}
use mathlib.Core.Logic.{◌⊎◌, inl, inr, ◌≢◌}
use mathlib.Core.List.{[], ◌∷◌}
use lib.ListN.{length}
use lib.Dec.{eqb}
use borrow.Author.Tests.{eqb-true}
use Rattle.record.specs.declared.events.Event.{Event}
use Rattle.model.specs.Search.{any, member}
use Rattle.model.specs.Trace.{thread, load?, close?}
use Rattle.model.specs.Machine.{countable, opened, held, confirms?, counting, counts}
use Rattle.model.specs.Choice.{Counted}
use Rattle.model.proofs.Searching.{false_true, same?, parts, or_cases}
use Rattle.model.proofs.Holding.{Held, held_is, held_length}
use Rattle.model.proofs.Acceptance.{countable_crosses}

module _ (ev : ℕ → Event) where
  -- ---- what counts as of an event

  -- a load that counts as of an event is one of its thread, and not later
  pub record Counts (e l : ℕ) : Type 0 where
    pub not_later : l ≤ e
    pub is_countable : countable ev l ≡ true
    pub of_thread_lem : thread ev l ≡ thread ev e

  -- and is the event itself, or held at a close
  pub data CountsBy (e l : ℕ) : Type 0 where
    itself : l ≡ e → countable ev e ≡ true → CountsBy e l
    at_close : close? ev e ≡ true → Held ev e (thread ev e) l → CountsBy e l

  pub counts_by : (e l : ℕ) → counts ev e l ≡ true → CountsBy e l
  unfolding counting any
  counts_by e l here = by_close (confirms? ev e) at_once refl refl here
    where
      at_once : Bool
      at_once = countable ev e && not (opened ev e (thread ev e))

      by_close :
          (confirms once : Bool) → confirms? ev e ≡ confirms → at_once ≡ once
          → member l (cond confirms (held ev e (thread ev e)) (cond once (e ∷ []) [])) ≡ true → CountsBy e l
      by_close true once close is there =
          at_close (parts (close? ev e) _ close).0 (held_is ev e (thread ev e) l there)
      by_close false false other none there = false_true there
      by_close false true other is there = by_only (or_cases (eqb l e) false there)
        where
          by_only : (eqb l e ≡ true) ⊎ (false ≡ true) → CountsBy e l
          by_only (inl same) = itself (eqb-true l e same) (parts (countable ev e) _ is).0
          by_only (inr none) = false_true none

  pub counts_as_of : (e l : ℕ) → counts ev e l ≡ true → Counts e l
  counts_as_of e l here = by_case (counts_by e l here)
    where
      by_case : CountsBy e l → Counts e l
      by_case (itself is_e it) =
          record { not_later = omega arith; is_countable = rw is_e it; of_thread_lem = rw is_e }
      by_case (at_close close it) =
          record { not_later = omega (arith, it.early); is_countable = it.is_countable; of_thread_lem = it.by_t }

  -- at most one load for each event, and the event itself
  pub counting_length : (n : ℕ) → n ≤ 2048 → length (counting ev n) ≤ 2048
  unfolding counting
  counting_length n few = by_tests (confirms? ev n) (countable ev n && not (opened ev n (thread ev n)))
    where
      by_tests : (c o : Bool) → length (cond c (held ev n (thread ev n)) (cond o (n ∷ []) [])) ≤ 2048
      by_tests true o = omega (arith, held_length ev n (thread ev n))
      by_tests false true = omega arith
      by_tests false false = omega arith

  -- ---- what counts among the first events

  pub counted_early : (N l : ℕ) → Counted ev N l → l < N
  counted_early N l it = omega (arith, it.inside, (counts_as_of it.as_of l it.here).not_later)

  pub countable_load : (N l : ℕ) → Counted ev N l → countable ev l ≡ true
  countable_load N l it = (counts_as_of it.as_of l it.here).is_countable

  pub counted_is_load : {N l : ℕ} → Counted ev N l → load? ev l ≡ true
  counted_is_load {N} {l} it = (countable_crosses ev l (countable_load N l it)).loads.test

  -- what counts stays counted
  pub counted_later : (N M l : ℕ) → N ≤ M → Counted ev N l → Counted ev M l
  counted_later N M l within it =
      record { as_of = it.as_of; inside = omega (arith, it.inside); here = it.here }

  -- with one event more, what counts as of it counts too
  pub counted_now : (n l : ℕ) → counts ev n l ≡ true → Counted ev (suc n) l
  counted_now n l here = record { as_of = n; inside = omega arith; here = here }

  pub counted_step : (n l : ℕ) → Counted ev (suc n) l → (counts ev n l ≡ true) ⊎ Counted ev n l
  counted_step n l it = by_last (same? it.as_of n)
    where
      by_last : (it.as_of ≡ n) ⊎ (it.as_of ≢ n) → (counts ev n l ≡ true) ⊎ Counted ev n l
      by_last (inl is_n) = inl (rw is_n at it.here)
      by_last (inr differs) =
          inr (record { as_of = it.as_of; inside = omega (arith, it.inside); here = it.here })
