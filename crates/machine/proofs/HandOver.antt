-- The steps of signals and waits. A signal's row holds the clock that a store issued in its place would have, that
-- store itself not counted: what its thread has seen, and of its own thread the stores issued so far. A wait meets the
-- signal that it names (Meeting), and the machine finds such a signal where the definitions do (`signalled_found`).
-- In order: the rule of waits; the step of a wait; the row of a signal; the step of a signal.
use mathlib.Core.Path.{◌≡◌, refl, sym, ◌∙◌}
use mathlib.Core.Bool.{true, false, cond, and-false}
use mathlib.Core.List.{List}
use mathlib.Core.Logic.{◌⊎◌, inl, inr, ◌≢◌}
use Prim.Native.Nat.{ℕ, suc, ◌*◌, ◌≤◌, ◌<◌}
use native.Mathlib.Omega.{arith}
use borrow.Author.Tests.{eq-eqb, ne_eqb, lt-ltb, le-ltb}
use lib.Dec.{eqb}
use Rattle.record.specs.declared.events.Event.{Event}
use Rattle.model.specs.Trace.{kind, thread, source, signal?, crash?, issue?, Signal, Wait, stretch}
use Rattle.model.specs.Machine.{signalled}
use Rattle.model.specs.Rules.{refusal}
use Rattle.model.specs.Clocks.{vc}
use Rattle.model.proofs.Searching.{test, same?, less?, false_true}
use Rattle.model.proofs.Counting.{count_skip}
use Rattle.model.proofs.Roles.{one_kind, signal_no_issue, signal_no_crash, wait_no_crash}
use Rattle.model.proofs.ClockSteps.{waits_signal, vc_here, vc_other}
use Rattle.model.proofs.Acceptance.{begins, wait_signalled, Signalled}
use Rattle.model.proofs.Ranges.{signal_has_thread, wait_has_thread}
use Rattle.model.proofs.StorePlaces.{stretch_some}
use Rattle.area.specs.Cells.{get_row, joined}
use Rattle.area.specs.Rows.{SignalRow}
use Rattle.machine.specs.Tables.{thread_cell}
use Rattle.machine.specs.Threads.{thread_of, of_thread}
use Rattle.machine.specs.Twin.{World, signalled_in, signalled_w}
use Rattle.machine.specs.Effects.{signalled_work, signal_w, meet_w}
use Rattle.machine.specs.Sim.{Seen, Sim}
use Rattle.machine.proofs.RowLaws.{signalled_is}
use Rattle.machine.proofs.RowLaws as rows
use Rattle.machine.proofs.Keep.{limits_next, in_time, few_own, numbers_next, queues_keep, seen_keep, newest_keep}
use Rattle.machine.proofs.Keep.{commits_keep, sources_keep, chains_keep, rows_with, links_with}
use Rattle.machine.proofs.Holding.{regions_keep}
use Rattle.machine.proofs.Quiet.{Still, still_next, rows_stay}
use Rattle.machine.proofs.Meeting.{Brought, met, met_regions}

-- ---- the rule of waits

module _ (ev : ℕ → Event) (n : ℕ) (w : World) (sim : Sim ev n w) where
  abbrev s : ℕ
  s = source ev n

  -- of an earlier event: its row has its stretch if it is a signal, else 0, which is no stretch
  earlier_signal :
      1 ≤ s → s < n → (signal? ev s ≡ true) ⊎ (signal? ev s ≡ false)
      → eqb (get_row w.work s 11) w.state.stretch ≡ signalled ev n
  earlier_signal from_one early (inl signals) =
      rw (
        (sim.rows.signals s early (record { test = signals })).stretch_is,
        sim.numbers.stretch_is,
        signals,
        lt-ltb s n early,
      )
      refl
  earlier_signal from_one early (inr none) =
      rw (
        sim.rows.no_signals s from_one early none,
        sim.numbers.stretch_is,
        none,
        ne_eqb 0 (stretch ev n) (λ is. omega (arith, stretch_some ev n)),
      )
      refl

  pub signalled_found : signalled_w w s ≡ signalled ev n
  unfolding signalled_in
  signalled_found = by_source (same? s 0) (less? s n)
    where
      by_source : (s ≡ 0) ⊎ (s ≢ 0) → (s < n) ⊎ (n ≤ s) → signalled_w w s ≡ signalled ev n
      by_source (inl none) either =
          let no_signal : signal? ev s ≡ false =
          rw none (one_kind ev 0 1 13 (omega arith) (begins ev n sim.limits.accepted sim.limits.begun))
          in
          rw (no_signal, eq-eqb s 0 none) refl
      by_source (inr some) (inl early) =
          rw (ne_eqb s 0 some, le-ltb w.state.row (16 * s) (omega (arith, sim.numbers.row_is)))
          (earlier_signal (omega arith) early (test (signal? ev s)))
      by_source (inr some) (inr late) =
          rw (
            ne_eqb s 0 some,
            lt-ltb w.state.row (16 * s) (omega (arith, sim.numbers.row_is)),
            le-ltb s n late,
            and-false (signal? ev s),
          )
          refl

module _ (ev : ℕ → Event) (n : ℕ) (w : World) (sim : Sim ev n w) (passes : refusal ev n ≡ 0) where
  abbrev t : ℕ
  t = thread ev n

  abbrev tables : List ℕ
  tables = w.tables

  -- ---- the step of kind 14

  pub wait_next : kind ev n ≡ 14 → Sim ev (suc n) (meet_w w t (source ev n))
  unfolding meet_w
  wait_next kind_is =
      still_next ev n w sim passes still _ its.size
      (queues_keep ev n tables _ still.no_crash still.no_issue still.no_commit (rw kind_is refl)
      (rw kind_is refl) its.threads_same sim.queues)
      its.seen_are its.sources its.heads_same its.rest_same
      (regions_keep ev n tables _ w.work _ sim.limits still.no_crash (rw kind_is refl) (rw kind_is refl)
      (rw kind_is refl)
      (met_regions ev n w sim (waits_signal waits from.signal) from.early from.in_stretch few_t)
      (rows_stay ev n w sim passes) sim.regions)
    where
      waits : Wait ev n
      waits = record { test = rw kind_is refl }

      few_t : t < 8
      few_t = few_own ev n sim.limits passes (wait_has_thread ev waits)

      still : Still ev n
      still = record {
        no_issue = rw kind_is refl;
        no_commit = rw kind_is refl;
        no_crash = wait_no_crash ev waits;
        no_signal = rw kind_is refl;
      }

      from : Signalled ev n
      from = wait_signalled ev (suc n) (limits_next ev n sim.limits passes).accepted n (omega arith) waits

      its : Brought ev n w (joined 8 w.work (source ev n) (thread_cell t 0) tables)
      its =
          met ev n w sim (waits_signal waits from.signal) from.early from.in_stretch few_t

  -- ---- the row of a signal

  module _ (kind_is : kind ev n ≡ 13) where
    signal : Signal ev n
    signal = record { test = rw kind_is refl }

    few : t < 8
    few = few_own ev n sim.limits passes (signal_has_thread ev signal)

    no_issue : issue? ev n ≡ false
    no_issue = signal_no_issue ev signal

    no_crash : crash? ev n ≡ false
    no_crash = signal_no_crash ev signal

    abbrev after : List ℕ
    after = signalled_work tables w.work w.state.row t w.state.stretch

    small : n ≤ 2048
    small = in_time ev n sim.limits passes

    it :
        rows.Signalled n t (thread_of tables t).issued w.state.stretch (λ u. of_thread tables t u) w.work after
    unfolding signalled_work
    it =
        signalled_is w.state.row n sim.numbers.row_is small tables t (thread_of tables t).issued few
        w.state.stretch w.work sim.rows.room

    -- nothing comes to a thread at n
    seen_next : Seen ev (suc n) tables
    seen_next =
        seen_keep ev n tables tables no_crash (rw kind_is refl) (rw kind_is refl) (λ _ _ _ _ _. refl) sim.seen_are

    -- so the thread's numbers are the clock of a signal, which issues no store
    new_row : SignalRow ev after n
    new_row = record {
      clock_is = λ u few_u. it.clock_is u few_u ∙ clock_entry u few_u (same? t u);
      stretch_is = it.stretch_is ∙ sim.numbers.stretch_is;
    }
      where
        clock_entry :
            (u : ℕ) → u < 8 → (t ≡ u) ⊎ (t ≢ u)
            → cond (eqb t u) (thread_of tables t).issued (of_thread tables t u) ≡ vc ev n u
        clock_entry u few_u (inl own) =
            rw (eq-eqb t u own)
            ((sim.queues t few).issued_is
            ∙ sym (vc_here ev n u (sym own) ∙ count_skip ev (issue? ev) n (stretch ev n) t no_issue))
        clock_entry u few_u (inr other) =
            rw (ne_eqb t u other, vc_other ev n u no_crash (λ same. other (sym same))) (seen_next t u few few_u)

    -- ---- the step of kind 13

    pub signal_next : Sim ev (suc n) (signal_w w t)
    unfolding signal_w
    signal_next = record {
      numbers = numbers_next ev n w.state sim.numbers no_crash;
      limits = limits_next ev n sim.limits passes;
      size = sim.size;
      queues =
          queues_keep ev n tables tables no_crash no_issue (rw kind_is refl) (rw kind_is refl) (rw kind_is refl)
          (λ _ _ _ _ _. refl) sim.queues;
      seen_are = seen_next;
      newest_are = newest_keep ev n tables tables no_issue (λ _ _ _. refl) sim.newest_are;
      commits_are = commits_keep ev n tables tables no_crash (λ _ _ _. refl) sim.commits_are;
      sources = sources_keep ev n tables tables (λ _ _ _. refl) sim.sources;
      chains =
          chains_keep ev n tables tables w.work after sim.limits (rw kind_is refl)
          (λ q k from_one early _ _. it.earlier q k from_one early)
          (λ _ _ _. refl) (λ _ _ _. refl) sim.chains;
      rows =
          rows_with ev n w.work after sim.limits it.size
          (λ p k from_one early _. it.earlier p k from_one early)
          (λ store. false_true (sym no_issue ∙ store.test)) (λ _. it.is_no_store) (λ _. new_row)
          (λ none. false_true (sym none ∙ signal.test)) sim.rows;
      links =
          links_with ev n w.work after sim.limits no_issue (λ p from_one early. it.earlier p 12 from_one early)
          sim.links;
      regions =
          regions_keep ev n tables tables w.work after sim.limits no_crash (rw kind_is refl) (rw kind_is refl)
          (rw kind_is refl) (λ _ _. refl) (λ e k from_one early _ _ _. it.earlier e k from_one early)
          sim.regions;
    }
