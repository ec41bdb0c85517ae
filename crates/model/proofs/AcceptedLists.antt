-- A list of events that is an accepted trace: what its rules say of the events in the list holds of all numbers, since
-- past its end there are crashes, which neither commit nor load nor wait.
-- In order: what commits, loads and waits find; sources are two-byte numbers.
use Prim.Native.Nat.{ℕ, ◌≤◌, ◌<◌}
use native.Mathlib.Omega.{arith}
use mathlib.Core.Path.{◌≡◌}
use mathlib.Core.Bool.{true, false}
use mathlib.Core.List.{List}
use mathlib.Core.Logic.{◌⊎◌, inl, inr, ◌≢◌}
use lib.ListN.{length, get_or-eq_default}
use Rattle.record.specs.declared.events.Event.{Event}
use Rattle.record.specs.declared.events.Event.TheVariants.{Crash}
use Rattle.model.specs.Trace.{trace_of, source, issue?, commit?, load?, signal?, wait?}
use Rattle.model.specs.Machine.{committed}
use Rattle.model.specs.Rules.{Accepted}
use Rattle.model.specs.Embedding.{Finds}
use Rattle.model.proofs.Searching.{less?, test, false_true}
use Rattle.model.proofs.Acceptance.{event_bound, from_store, source_from, source_early, wait_signalled}
use Rattle.model.proofs.StorePlaces.{committed_store}
use Rattle.model.proofs.Moving.{no_source_lem}

module _ (es : List Event) (accepted : Accepted (trace_of es) (length es)) where
  abbrev ev : ℕ → Event
  ev = trace_of es

  pub accepted_finds : Finds ev
  accepted_finds = record {
    commit_finds = λ e commits. commit_finds e commits (less? e (length es));
    source_store = λ e loads some. source_store e loads some (less? e (length es));
    wait_signal = λ e waits. wait_signal e waits (less? e (length es));
  }
    where
      commit_finds :
          (e : ℕ) → commit? ev e ≡ true → (e < length es) ⊎ (length es ≤ e) → issue? ev (committed ev e) ≡ true
      commit_finds e commits (inl inside) =
          (committed_store ev (length es) e accepted inside (record { test = commits })).store.test
      commit_finds e commits (inr past) = false_true (rw (get_or-eq_default es Crash past) at commits)

      source_store :
          (e : ℕ) → load? ev e ≡ true → source ev e ≢ 0 → (e < length es) ⊎ (length es ≤ e)
          → issue? ev (source ev e) ≡ true
      source_store e loads some (inl inside) =
          (from_store ev (source_from ev (length es) accepted e inside (record { test = loads }) some)).test
      source_store e loads some (inr past) = false_true (rw (get_or-eq_default es Crash past) at loads)

      wait_signal :
          (e : ℕ) → wait? ev e ≡ true → (e < length es) ⊎ (length es ≤ e) → signal? ev (source ev e) ≡ true
      wait_signal e waits (inl inside) =
          (wait_signalled ev (length es) accepted e inside (record { test = waits })).signal.test
      wait_signal e waits (inr past) = false_true (rw (get_or-eq_default es Crash past) at waits)

  -- a source is below its load's or wait's number
  pub source_two_byte : (e : ℕ) → e < length es → source ev e < 65536
  source_two_byte e inside = by_role (test (load? ev e)) (test (wait? ev e))
    where
      below : source ev e < e → source ev e < 65536
      below early = omega (arith, event_bound ev (length es) accepted e inside)

      by_role :
          (load? ev e ≡ true) ⊎ (load? ev e ≡ false) → (wait? ev e ≡ true) ⊎ (wait? ev e ≡ false)
          → source ev e < 65536
      by_role (inl loads) waits = below (source_early ev (length es) accepted e inside (record { test = loads }))
      by_role (inr other) (inl waits) =
          below (wait_signalled ev (length es) accepted e inside (record { test = waits })).early
      by_role (inr other) (inr no_wait) = rw (no_source_lem (ev e) (rw (other, no_wait))) (omega arith)
