-- The state after an accepted begin, over cleared tables and any work area: a begin changes nothing that the tables
-- hold, before it there is nothing, and nothing is said of the rows of events to come.
use mathlib.Core.Path.{◌≡◌, refl, sym, ◌∙◌}
use mathlib.Core.Bool.{Bool, false}
use mathlib.Core.List.{List, []}
use Prim.Native.Nat.{ℕ, ◌+◌, ◌-◌, ◌*◌, ◌≤◌, ◌<◌}
use native.Mathlib.Omega.{arith}
use borrow.Author.Tests.{eqb-true, le-ltb}
use lib.ListN.{length, get_or, replicate, length-replicate}
use Rattle.record.specs.declared.events.Event.{Event}
use Rattle.model.specs.Search.{last}
use Rattle.model.specs.Trace.{kind, issue?, commit?, crash?, skip_on?, skip_off?, open?, close?, Issue}
use Rattle.model.specs.Trace.{version, threads, locations, stretch, count}
use Rattle.model.specs.Machine.{switched, skipping, opened}
use Rattle.model.specs.Rules.{refusal, Accepted}
use Rattle.model.specs.Choice.{finished}
use Rattle.model.specs.Stores.{newest_at, landed}
use Rattle.model.proofs.Searching.{false_true}
use Rattle.model.proofs.Counting.{stretch_else}
use Rattle.model.proofs.ClockSteps.{meets_none, seen_zero}
use Rattle.model.proofs.Acceptance.{begins, store_not_0, signal_not_0}
use Rattle.model.proofs.Limits.{few_threads, few_locations}
use Rattle.model.proofs.StorePlaces.{store_at_none}
use Rattle.model.proofs.Unchanged.{live, live_away, skipping_away, opened_away, newest_away}
use Rattle.model.proofs.Unchanged.{seen_away, landed_away}
use Rattle.area.proofs.ReadBack.{cleared_at}
use Rattle.machine.specs.Tables.{last_cell, source_cell, commits_cell, newest_cell, stretch_cell}
use Rattle.machine.specs.Threads.{fresh}
use Rattle.machine.specs.Twin.{world, started}
use Rattle.machine.specs.Sim.{issued, done, Queue, Seen, Newest, Commits, Chains, Sim}
use Rattle.machine.proofs.TableLaws.{thread_fresh, region_closed}
use Rattle.machine.proofs.Keep.{spares}

module _ (ev : ℕ → Event) (passes : refusal ev 0 ≡ 0) where
  accepted : Accepted ev 1
  accepted = record { passes = only_first }
    where
      only_first : (e : ℕ) → e < 1 → refusal ev e ≡ 0
      only_first e inside = let is_0 : e ≡ 0 = omega arith in rw is_0 passes

  kind_is : kind ev 0 ≡ 1
  kind_is = eqb-true (kind ev 0) 1 (begins ev 1 accepted (omega arith))

  no_crash : crash? ev 0 ≡ false
  no_crash = rw kind_is refl

  no_commit : commit? ev 0 ≡ false
  no_commit = rw kind_is refl

  -- ---- nothing yet

  -- the clauses of the definitions before the first event
  stretch_0 : stretch ev 0 ≡ 1
  unfolding stretch
  stretch_0 = refl

  count_0 : (f : ℕ → Bool) (j t : ℕ) → count ev f 0 j t ≡ 0
  unfolding count
  count_0 f j t = refl

  skipping_0 : (t : ℕ) → skipping ev 0 t ≡ false
  unfolding switched
  skipping_0 t = refl

  newest_0 : (x t : ℕ) → newest_at ev 0 x t ≡ 0
  unfolding newest_at last
  newest_0 x t = refl

  landed_0 : (x : ℕ) → landed ev 0 x ≡ []
  unfolding landed
  landed_0 x = refl

  stretch_1 : stretch ev 1 ≡ 1
  stretch_1 = stretch_else ev 0 no_crash ∙ stretch_0

  -- and after it
  live_1 : (role : ℕ → Bool) (t : ℕ) → role 0 ≡ false → live ev role 1 t ≡ 0
  live_1 role t never =
      live_away ev role 0 t no_crash (spares ev 0 role never t) ∙ count_0 role (stretch ev 0) t

  skipping_1 : (t : ℕ) → skipping ev 1 t ≡ false
  skipping_1 t =
      skipping_away ev 0 t no_crash (spares ev 0 (skip_on? ev) (rw kind_is refl) t)
      (spares ev 0 (skip_off? ev) (rw kind_is refl) t)
      ∙ skipping_0 t

  opened_0 : (t : ℕ) → opened ev 0 t ≡ false
  unfolding switched
  opened_0 t = refl

  opened_1 : (t : ℕ) → opened ev 1 t ≡ false
  opened_1 t =
      opened_away ev 0 t no_crash (spares ev 0 (open? ev) (rw kind_is refl) t)
      (spares ev 0 (close? ev) (rw kind_is refl) t)
      ∙ opened_0 t

  fresh_queue : (t : ℕ) → Queue ev 1 t fresh
  fresh_queue t =
      let none = live_1 (issue? ev) t (rw kind_is refl) in
      record {
        issued_is = sym none;
        committed_is = sym (live_1 (commit? ev) t no_commit);
        skip_is = sym (skipping_1 t);
        oldest_is = sym (store_at_none ev 1 (stretch ev 1) t (done ev 1 t) (omega arith));
        newest_is = sym (store_at_none ev 1 (stretch ev 1) t (issued ev 1 t - 1) (omega arith));
      }

  is_no_store : (p : ℕ) → p < 1 → Issue ev p → ⊥
  is_no_store p early store = store_not_0 ev 1 accepted (omega arith) store (omega arith)

  -- ---- over cleared tables

  module _ (tables l : List ℕ) (clear : (i : ℕ) → get_or tables i 0 ≡ 0) where
    seen_start : Seen ev 1 tables
    seen_start t u _ _ =
        clear (16 * t + u)
        ∙ sym
        (seen_away ev 0 t u no_crash (λ meets _. meets_none ev (rw kind_is refl) (rw kind_is refl) meets)
        ∙ seen_zero ev t u)

    newest_start : Newest ev 1 tables
    newest_start x t _ _ =
        clear (newest_cell x t)
        ∙ sym (newest_away ev 0 x t (λ store _ _. is_no_store 0 (omega arith) store) ∙ newest_0 x t)

    commits_start : Commits ev 1 tables
    unfolding finished
    commits_start j t from_one _ _ =
        clear (commits_cell j t) ∙ rw (le-ltb j (stretch ev 1) (omega (arith, stretch_1))) refl

    chains_start : Chains ev 1 tables l
    chains_start x _ = record {
      links =
          rw (
            landed_away ev 0 x (λ commits _. false_true (sym no_commit ∙ commits.test)),
            landed_0 x,
          )
          (clear (last_cell x));
      falls =
          rw (landed_away ev 0 x (λ commits _. false_true (sym no_commit ∙ commits.test)), landed_0 x) (omega arith);
      stretch_is = rw (clear (last_cell x)) (clear (stretch_cell x));
    }

    start_with :
        length tables ≡ 3008 → 32768 ≤ length l → Sim ev 1
        (world (started (version ev) (threads ev) (locations ev)) tables l)
    start_with size room = record {
      numbers = record {
        row_is = omega arith;
        stretch_is = sym stretch_1;
        version_is = refl;
        threads_is = refl;
        locations_is = refl;
      };
      limits = record {
        accepted = accepted;
        begun = omega arith;
        few_threads = few_threads ev 1 accepted (omega arith);
        few_locations = few_locations ev 1 accepted (omega arith);
        few_events = omega arith;
        few_crashes = omega (arith, stretch_1);
      };
      size = size;
      queues = λ t _. rw (thread_fresh tables t (λ k _. clear (16 * t + k))) (fresh_queue t);
      seen_are = seen_start;
      newest_are = newest_start;
      commits_are = commits_start;
      sources = λ x _ some. absurd (some (clear (source_cell x)));
      chains = chains_start;
      rows = record {
        room = room;
        stores = λ p early store. absurd (is_no_store p early store);
        others = λ p from_one early _. absurd (omega arith);
        signals = λ s early signal. absurd (signal_not_0 ev 1 accepted (omega arith) signal (omega arith));
        no_signals = λ p from_one early _. absurd (omega arith);
      };
      links = λ p early store. absurd (is_no_store p early store);
      regions = λ t _.
          rw (region_closed tables t (clear (16 * t + 12)) (clear (16 * t + 13)))
          (record { opened_is = sym (opened_1 t); held_are = λ is_open. false_true (sym (opened_1 t) ∙ is_open) });
    }

  -- THE STATE AFTER AN ACCEPTED BEGIN
  pub sim_start :
      (l : List ℕ) → 32768 ≤ length l
      → Sim ev 1 (world (started (version ev) (threads ev) (locations ev)) (replicate 3008 0) l)
  sim_start l room = start_with (replicate 3008 0) l (cleared_at 3008) (length-replicate {A = ℕ} 3008 0) room
