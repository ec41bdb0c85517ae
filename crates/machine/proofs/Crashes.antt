-- Crashes keep `Sim`: the commits of the stretch are noted, every thread starts afresh, and the rows of stores and the
-- chains of commits stay.
use mathlib.Core.Path.{◌≡◌, refl, sym, ap, ◌∙◌}
use mathlib.Core.Bool.{true, false}
use mathlib.Core.List.{List}
use mathlib.Core.Logic.{◌⊎◌, inl, inr, ◌≢◌}
use Prim.Native.Nat.{ℕ, suc, ◌-◌, ◌≤◌, ◌<◌}
use native.Mathlib.Omega.{arith}
use borrow.Author.Tests.{eqb-true, lt-ltb, le-ltb}
use lib.Dec.{ltb}
use lib.ListN.{get_or}
use Rattle.record.specs.declared.events.Event.{Event}
use Rattle.model.specs.Trace.{kind, issue?, signal?, commit?, crash?, stretch}
use Rattle.model.specs.Rules.{refusal}
use Rattle.model.specs.Choice as choice
use Rattle.model.proofs.Searching.{same?, less?}
use Rattle.model.proofs.Counting.{stretch_crash, count_skip}
use Rattle.model.proofs.ClockSteps.{seen_crash}
use Rattle.model.proofs.StorePlaces.{stretch_some}
use Rattle.model.proofs.Unchanged.{live_crash, store_at_crash, skipping_crash}
use Rattle.area.proofs.ReadBack.{up_is}
use Rattle.machine.specs.Tables.{commits_cell}
use Rattle.machine.specs.Threads.{fresh, thread_of, of_thread}
use Rattle.machine.specs.Twin.{State, World, crashed}
use Rattle.machine.specs.Effects.{finished, crash_w}
use Rattle.machine.specs.Sim.{issued, done, Numbers, Limits, Queue, Queues, Seen, Commits, Sim}
use Rattle.machine.proofs.TableLaws.{Finished, finished_is, thread_fresh, region_closed}
use Rattle.machine.proofs.RowLaws.{no_store_is, no_store_behind}
use Rattle.machine.proofs.Keep.{limits_next, in_time, newest_keep, sources_keep, chains_keep, rows_keep}
use Rattle.machine.proofs.Keep.{links_keep}
use Rattle.machine.proofs.Holding.{region_crash}

module _ (ev : ℕ → Event) (n : ℕ) (crash : crash? ev n ≡ true) where
  crash_kind : kind ev n ≡ 9
  crash_kind = eqb-true (kind ev n) 9 crash

  no_issue : issue? ev n ≡ false
  no_issue = rw crash_kind refl

  no_signal : signal? ev n ≡ false
  no_signal = rw crash_kind refl

  no_commit : commit? ev n ≡ false
  no_commit = rw crash_kind refl

  -- ---- the commits of the stretch, which is finished now, and of any other

  finished_here : (t : ℕ) → choice.finished ev (suc n) (stretch ev n) t ≡ done ev n t
  unfolding choice.finished
  finished_here t =
      rw (stretch_crash ev n crash, lt-ltb (stretch ev n) (suc (stretch ev n)) (omega arith))
      (count_skip ev (commit? ev) n (stretch ev n) t no_commit)

  finished_else : (j t : ℕ) → j ≢ stretch ev n → choice.finished ev (suc n) j t ≡ choice.finished ev n j t
  unfolding choice.finished
  finished_else j t other =
      rw (stretch_crash ev n crash, count_skip ev (commit? ev) n j t no_commit, same_past (less? j (stretch ev n))) refl
    where
      same_past :
          (j < stretch ev n) ⊎ (stretch ev n ≤ j) → ltb j (suc (stretch ev n)) ≡ ltb j (stretch ev n)
      same_past (inl past) = lt-ltb j (suc (stretch ev n)) (omega arith) ∙ sym (lt-ltb j (stretch ev n) past)
      same_past (inr not_past) =
          le-ltb j (suc (stretch ev n)) (omega arith) ∙ sym (le-ltb j (stretch ev n) not_past)

  -- ---- the state

  numbers_next : (st : State) → Limits ev n → Numbers ev n st → Numbers ev (suc n) (crashed st)
  unfolding crashed
  numbers_next st limits numbers = record {
    row_is = omega (arith, numbers.row_is);
    stretch_is =
        up_is st.stretch (omega (arith, numbers.stretch_is, limits.few_crashes))
        ∙ ap suc numbers.stretch_is ∙ sym (stretch_crash ev n crash);
    version_is = numbers.version_is;
    threads_is = numbers.threads_is;
    locations_is = numbers.locations_is;
  }

  fresh_queue : (t : ℕ) → Queue ev (suc n) t fresh
  fresh_queue t = record {
    issued_is = sym (live_crash ev (issue? ev) n t crash);
    committed_is = sym (live_crash ev (commit? ev) n t crash);
    skip_is = sym (skipping_crash ev n t crash);
    oldest_is = sym (store_at_crash ev n t (done ev (suc n) t) crash);
    newest_is = sym (store_at_crash ev n t (issued ev (suc n) t - 1) crash);
  }

  -- ---- the tables

  module _ (tables tables' : List ℕ) (j : ℕ) (j_is : j ≡ stretch ev n) (it : Finished 8 tables tables' j) where
    queues_next : Queues ev (suc n) tables'
    queues_next t few = rw (thread_fresh tables' t (λ k low. it.restarts t few k (omega arith))) (fresh_queue t)

    seen_next : Seen ev (suc n) tables'
    seen_next t u few_t few_u = it.restarts t few_t u (omega arith) ∙ sym (seen_crash ev n t u crash)

    commits_next : stretch ev n ≤ 7 → Queues ev n tables → Commits ev n tables → Commits ev (suc n) tables'
    unfolding thread_of
    commits_next in_range queues commits_are i t from_one to_seven few = by_stretch (same? i (stretch ev n))
      where
        by_stretch :
            (i ≡ stretch ev n) ⊎ (i ≢ stretch ev n)
            → get_or tables' (commits_cell i t) 0 ≡ choice.finished ev (suc n) i t
        by_stretch (inl is) =
            let noted : get_or tables' (commits_cell (stretch ev n) t) 0 ≡ of_thread tables t 11 =
            rw (← j_is) (it.notes t few)
            in
            rw is (noted ∙ (queues t few).committed_is ∙ sym (finished_here t))
        by_stretch (inr other) =
            it.leaves (commits_cell i t) (omega arith) (λ u few_u same. other (omega (arith, stretch_some ev n)))
            ∙ commits_are i t from_one to_seven few ∙ sym (finished_else i t other)

module _ (ev : ℕ → Event) (n : ℕ) (w : World) (sim : Sim ev n w) (passes : refusal ev n ≡ 0)
    (crash : crash? ev n ≡ true) where
  -- the stretch is not the eighth
  in_range : stretch ev n ≤ 7
  in_range = omega (arith, (limits_next ev n sim.limits passes).few_crashes, stretch_crash ev n crash)

  pub crash_next : Sim ev (suc n) (crash_w w)
  unfolding crash_w
  crash_next =
      let tables = finished 8 w.tables w.state.stretch in
      let j_is = sim.numbers.stretch_is in
      let it = finished_is w.tables w.state.stretch sim.size (omega (arith, stretch_some ev n, j_is))
      (omega (arith, in_range, j_is)) 8 (omega arith)
      in
      let beyond : (i : ℕ) → 128 ≤ i → (640 ≤ i → i < 704 → ⊥) → get_or tables i 0 ≡ get_or w.tables i 0 =
      λ i high apart. it.leaves i high (λ t few same. apart (omega arith) (omega arith))
      in
      let small = in_time ev n sim.limits passes in
      let is_no_store = no_store_is w.state.row n sim.numbers.row_is small w.work sim.rows.room in
      record {
        numbers = numbers_next ev n crash w.state sim.limits sim.numbers;
        limits = limits_next ev n sim.limits passes;
        size = it.size ∙ sim.size;
        queues = queues_next ev n crash w.tables tables w.state.stretch j_is it;
        seen_are = seen_next ev n crash w.tables tables w.state.stretch j_is it;
        newest_are =
            newest_keep ev n w.tables tables (no_issue ev n crash)
            (λ i low high. beyond i (omega arith) (λ from below. omega arith)) sim.newest_are;
        commits_are =
            commits_next ev n crash w.tables tables w.state.stretch j_is it in_range sim.queues
            sim.commits_are;
        sources =
            sources_keep ev n w.tables tables
            (λ i low high. beyond i (omega arith) (λ from below. omega arith)) sim.sources;
        chains =
            chains_keep ev n w.tables tables w.work _ sim.limits (no_commit ev n crash)
            (λ q k _ _. no_store_behind w.state.row n sim.numbers.row_is small w.work q k)
            (λ i low high. beyond i low (λ from below. omega arith))
            (λ i low high. beyond i (omega arith) (λ from below. omega arith)) sim.chains;
        rows =
            rows_keep ev n w.work _ sim.limits (no_issue ev n crash) (no_signal ev n crash) is_no_store
            sim.rows;
        links =
            links_keep ev n w.work _ sim.limits (no_issue ev n crash) (no_signal ev n crash) is_no_store
            sim.links;
        regions = λ t few.
            rw (region_closed tables t (it.restarts t few 12 (omega arith)) (it.restarts t few 13 (omega arith)))
            (region_crash ev n t _ crash);
      }
