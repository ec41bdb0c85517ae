-- Events of which the work area holds only that they are no stores and no signals, and which end no stretch, keep
-- `Sim`: then flushes, fences, skips, opens and closes, which change nothing else but whether a thread is in a skip or
-- open.
use mathlib.Core.Path.{◌≡◌, refl, sym, ◌∙◌}
use mathlib.Core.Bool.{Bool, false}
use mathlib.Core.List.{List, []}
use Prim.Native.Nat.{ℕ, suc, ◌≤◌, ◌<◌}
use native.Mathlib.Omega.{arith}
use lib.ListN.{length}
use Rattle.record.specs.declared.events.Event.{Event}
use Rattle.model.specs.Trace.{kind, thread, issue?, commit?, load?, crash?, signal?, wait?, skip_on?, skip_off?}
use Rattle.model.specs.Trace.{open?, close?}
use Rattle.model.specs.Machine.{skipping, opened, countable, held}
use Rattle.model.specs.Rules.{refusal}
use Rattle.model.proofs.Searching.{false_true, or_fails, fails_after}
use Rattle.model.proofs.Roles.{Quiet}
use Rattle.model.proofs.Acceptance.{passed}
use Rattle.model.proofs.Unchanged.{opened_on, opened_off}
use Rattle.model.proofs.Holding.{held_else, held_closed}
use Rattle.record.specs.Table.{row_of}
use Rattle.area.specs.Cells.{no_store}
use Rattle.machine.specs.declared.regions.Region.{Region}
use Rattle.machine.specs.Regions.{began_r, ended_r, put_region}
use Rattle.machine.specs.Threads.{skipped_t, put_skip}
use Rattle.machine.specs.Twin.{World, world, ticked, thread_at, region_at}
use Rattle.machine.specs.Effects.{pass_with, pass_w, skip_w, open_w, close_w}
use Rattle.machine.specs.Sim.{Queues, Seen, Sources, InRegion, Regions, Sim}
use Rattle.machine.proofs.Storing.{Same}
use Rattle.machine.proofs.TableLaws.{skip_replaced, skip_beyond, reopened, region_same}
use Rattle.machine.proofs.RowLaws.{NoStore, no_store_is, no_store_earlier, no_store_behind}
use Rattle.machine.proofs.Keep.{limits_next, in_time, few_own, numbers_next, spares, queue_skip, queues_keep}
use Rattle.machine.proofs.Keep.{seen_keep, newest_keep, commits_keep, sources_keep, chains_keep, rows_keep}
use Rattle.machine.proofs.Keep.{BehindStays, links_keep, queue_keep, queues_with}
use Rattle.machine.proofs.Holding.{RowsStay, regions_keep, regions_with}

module _ (ev : ℕ → Event) (n : ℕ) where
  -- the event is none of those that make, commit or drop stores, and no signal
  pub record Still : Type 0 where
    pub no_issue : issue? ev n ≡ false
    pub no_commit : commit? ev n ≡ false
    pub no_crash : crash? ev n ≡ false
    pub no_signal : signal? ev n ≡ false

module _ (ev : ℕ → Event) (n : ℕ) (w : World) (sim : Sim ev n w) (passes : refusal ev n ≡ 0) where
  -- the threads' rows and the sources are right afterwards, the other tables are as they were, and in the work area the
  -- event is no store and no signal
  pub still_with :
      Still ev n → (tables l' : List ℕ) → length tables ≡ 3008 → Queues ev (suc n) tables → Seen ev (suc n) tables
      → Sources ev (suc n) tables → Same 128 384 w.tables tables → Same 640 3008 w.tables tables
      → NoStore n w.work l' → BehindStays n w.work l'
      → Regions ev (suc n) tables l' → Sim ev (suc n) (world (ticked w.state) tables l')
  still_with still tables l' size queues seen_are sources last_same rest_same is_no_store behind regions = record {
    numbers = numbers_next ev n w.state sim.numbers still.no_crash;
    limits = limits_next ev n sim.limits passes;
    size = size;
    queues = queues;
    seen_are = seen_are;
    newest_are =
        newest_keep ev n w.tables tables still.no_issue
        (λ i low high. rest_same i (omega arith) (omega arith)) sim.newest_are;
    commits_are =
        commits_keep ev n w.tables tables still.no_crash
        (λ i low high. rest_same i low (omega arith)) sim.commits_are;
    sources = sources;
    chains =
        chains_keep ev n w.tables tables w.work l' sim.limits still.no_commit behind last_same
        (λ i low high. rest_same i (omega arith) high) sim.chains;
    rows =
        rows_keep ev n w.work l' sim.limits still.no_issue still.no_signal is_no_store sim.rows;
    links =
        links_keep ev n w.work l' sim.limits still.no_issue still.no_signal is_no_store sim.links;
    regions = regions;
  }

  small : n ≤ 2048
  small = in_time ev n sim.limits passes

  -- nothing of the work area changes but what says so
  pub still_next :
      Still ev n → (tables : List ℕ) → length tables ≡ 3008 → Queues ev (suc n) tables → Seen ev (suc n) tables
      → Sources ev (suc n) tables → Same 128 384 w.tables tables → Same 640 3008 w.tables tables
      → Regions ev (suc n) tables (no_store w.work w.state.row) → Sim ev (suc n) (pass_with w tables)
  still_next still tables size queues seen_are sources last_same rest_same =
      still_with still tables _ size queues seen_are sources last_same rest_same
      (no_store_is w.state.row n sim.numbers.row_is small w.work sim.rows.room)
      (λ q k _ _. no_store_behind w.state.row n sim.numbers.row_is small w.work q k)

  -- so the rows of held loads stay
  pub rows_stay : RowsStay ev n sim.limits w.work (no_store w.work w.state.row)
  rows_stay e k from_one early loads low other =
      no_store_earlier w.state.row n sim.numbers.row_is small w.work e k from_one early low

  -- ---- flushes and fences

  pub pass_next : Quiet ev n → Sim ev (suc n) (pass_w w)
  unfolding pass_w
  pass_next quiet =
      let still : Still ev n =
      record {
        no_issue = quiet.no_issue;
        no_commit = quiet.no_commit;
        no_crash = quiet.no_crash;
        no_signal = quiet.no_signal;
      }
      in
      let tables = w.tables in
      still_next still tables sim.size
      (queues_keep ev n tables tables quiet.no_crash quiet.no_issue quiet.no_commit quiet.no_skip_on
      quiet.no_skip_off (λ t _ i _ _. refl) sim.queues)
      (seen_keep ev n tables tables quiet.no_crash quiet.no_load quiet.no_wait (λ t _ i _ _. refl)
      sim.seen_are)
      (sources_keep ev n tables tables (λ i _ _. refl) sim.sources) (λ i _ _. refl) (λ i _ _. refl)
      (regions_keep ev n tables tables w.work _ sim.limits quiet.no_crash quiet.no_load quiet.no_open
      quiet.no_close (λ t _. refl) rows_stay sim.regions)

  -- ---- skips

  pub skip_next :
      (on : Bool) → Still ev n → load? ev n ≡ false → wait? ev n ≡ false → open? ev n ≡ false → close? ev n ≡ false
      → thread ev n < 8 → skipping ev (suc n) (thread ev n) ≡ on → Sim ev (suc n) (skip_w w (thread ev n) on)
  unfolding skip_w
  skip_next on still no_load no_wait no_open no_close few is_on =
      let t = thread ev n in
      let old = thread_at w t in
      let tables = put_skip w.tables t (skipped_t old on) in
      let replaced = skip_replaced w.tables t few sim.size on in
      let beyond = skip_beyond w.tables t few sim.size on in
      let new_queue =
      queue_skip ev n still.no_crash t old (sim.queues t few) on (spares ev n (issue? ev) still.no_issue t)
      (spares ev n (commit? ev) still.no_commit t) (sym is_on)
      in
      still_next still tables (replaced.size ∙ sim.size)
      (queues_with ev n w.tables tables still.no_crash replaced.others (rw replaced.own new_queue)
      sim.queues)
      (seen_keep ev n w.tables tables still.no_crash no_load no_wait replaced.seen_same sim.seen_are)
      (sources_keep ev n w.tables tables (λ i from _. beyond i (omega arith)) sim.sources)
      (λ i from _. beyond i from) (λ i from _. beyond i (omega arith))
      (regions_keep ev n w.tables tables w.work _ sim.limits still.no_crash no_load no_open no_close
      replaced.regions_same rows_stay sim.regions)

  -- ---- regions

  -- the region of the event's thread becomes r
  pub region_next :
      (r : Region) → Still ev n → load? ev n ≡ false → wait? ev n ≡ false → skip_on? ev n ≡ false
      → skip_off? ev n ≡ false → thread ev n < 8
      → InRegion ev (suc n) (thread ev n) r (no_store w.work w.state.row)
      → Sim ev (suc n) (pass_with w (put_region w.tables (thread ev n) r))
  region_next r still no_load no_wait no_on no_off few region =
      let t = thread ev n in
      let tables = put_region w.tables t r in
      let it = reopened w.tables t few sim.size r in
      still_next still tables (it.size ∙ sim.size)
      (queues_with ev n w.tables tables still.no_crash
      (λ u _ other i from below. it.leaves i (λ from' below'. other (omega arith)))
      (rw it.state_same
      (queue_keep ev n still.no_crash t (thread_at w t) (sim.queues t few)
      (spares ev n (issue? ev) still.no_issue t) (spares ev n (commit? ev) still.no_commit t)
      (spares ev n (skip_on? ev) no_on t) (spares ev n (skip_off? ev) no_off t)))
      sim.queues)
      (seen_keep ev n w.tables tables still.no_crash no_load no_wait
      (λ u _ i from below. it.leaves i (λ from' below'. omega arith)) sim.seen_are)
      (sources_keep ev n w.tables tables (λ i from _. it.leaves i (λ from' below'. omega (arith, few)))
      sim.sources)
      (λ i from _. it.leaves i (λ from' below'. omega (arith, few)))
      (λ i from _. it.leaves i (λ from' below'. omega (arith, few)))
      (regions_with ev n w.tables tables w.work _ sim.limits still.no_crash no_load
      (λ u few_u other.
      region_same w.tables tables u (λ i from below. it.leaves i (λ from' below'. other (omega arith))))
      rows_stay (rw it.own region) sim.regions)

  -- an open: nothing is held, whatever is in the thread's region by then
  pub open_next : kind ev n ≡ 15 → Sim ev (suc n) (open_w w (thread ev n))
  unfolding open_w began_r row_of countable
  open_next kind_is =
      region_next (began_r (region_at w (thread ev n))) (quiet_of kind_is) (rw kind_is refl) (rw kind_is refl)
      (rw kind_is refl) (rw kind_is refl) (few_own ev n sim.limits passes (rw kind_is refl))
      (record {
        opened_is = sym (opened_on ev n (rw kind_is refl));
        held_are = λ is_open. rw nothing_held refl;
      })
    where
      quiet_of : kind ev n ≡ 15 → Still ev n
      quiet_of is = record {
        no_issue = rw is refl;
        no_commit = rw is refl;
        no_crash = rw is refl;
        no_signal = rw is refl;
      }

      not_open : opened ev n (thread ev n) ≡ false
      not_open =
          let past = (passed ev (suc n) (limits_next ev n sim.limits passes).accepted n (omega arith)).no_12_open in
          fails_after (open? ev n) (opened ev n (thread ev n)) (or_fails _ _ past).0 (rw kind_is refl)

      nothing_held : held ev (suc n) (thread ev n) ≡ []
      nothing_held =
          held_else ev n (thread ev n) (opened_on ev n (rw kind_is refl)) (rw kind_is refl)
          ∙ held_closed ev n (thread ev n) not_open

  -- a close
  pub close_next : kind ev n ≡ 16 → Sim ev (suc n) (close_w w (thread ev n))
  unfolding close_w ended_r row_of
  close_next kind_is =
      let ends = opened_off ev n (rw kind_is refl) in
      region_next (ended_r (region_at w (thread ev n))) (quiet_of kind_is) (rw kind_is refl) (rw kind_is refl)
      (rw kind_is refl) (rw kind_is refl) (few_own ev n sim.limits passes (rw kind_is refl))
      (record { opened_is = sym ends; held_are = λ is_open. false_true (sym ends ∙ is_open) })
    where
      quiet_of : kind ev n ≡ 16 → Still ev n
      quiet_of is = record {
        no_issue = rw is refl;
        no_commit = rw is refl;
        no_crash = rw is refl;
        no_signal = rw is refl;
      }
