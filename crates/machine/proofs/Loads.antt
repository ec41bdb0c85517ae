-- What a load does to the components of `Sim` that loads concern, whatever else the event may be: a crossing load
-- brings no clock, for by the load rule its source is none or of an earlier stretch, and is noted; any other load has a
-- store of the stretch for its source, and meets it (Meeting). And the step of kind 4, which is a load and nothing
-- else. A crossing load in no skip of an open thread is held: its row links to what its thread held.
-- In order: the source; what threads have seen; the sources noted; the tables, the rows and the regions; the step.
use mathlib.Core.Path.{◌≡◌, refl, sym, ap, ◌∙◌, subst}
use mathlib.Core.Bool.{Bool, true, false, ◌&&◌, not, and-false}
use mathlib.Core.List.{List}
use mathlib.Core.Logic.{◌⊎◌, inl, inr, ◌≢◌}
use Prim.Native.Nat.{ℕ, suc, ◌+◌, ◌*◌, ◌≤◌, ◌<◌}
use native.Mathlib.Omega.{arith}
use borrow.Author.Tests.{eqb-true, eq-eqb, ne_eqb}
use lib.Dec.{eqb}
use lib.ListN.{length, get_or, set, length-set}
use lib.Seq.{get_or-set_same}
use Rattle.record.specs.declared.events.Event.{Event}
use Rattle.record.specs.Tests.{◌gives◌else◌}
use Rattle.model.specs.Trace.{kind, thread, location, source, crash?, open?, close?, Issue, Load, stretch}
use Rattle.model.specs.Machine.{waiting, current, source_fits, crossing, skipping, opened, countable, held}
use Rattle.model.specs.Rules.{refusal}
use Rattle.model.specs.Stores.{head_of, landed}
use Rattle.model.proofs.Searching.{false_true, test, same?, parts}
use Rattle.model.proofs.Roles.{load_no_crash, load_no_open, load_no_close}
use Rattle.model.proofs.Holding.{held_next}
use Rattle.model.proofs.Acceptance.{store_not_0, fitting, own_source, commit_source, crossing_source}
use Rattle.model.proofs.Ranges.{load_has_thread, load_has_location}
use Rattle.model.proofs.ClockSteps.{loads_store}
use Rattle.model.proofs.Unchanged.{seen_crossing, opened_away}
use Rattle.area.specs.Cells.{event_at, no_store, joined}
use Rattle.area.specs.Rows.{HeldRow, HeldLinked}
use Rattle.area.proofs.Chains.{linked_head}
use Rattle.machine.specs.declared.regions.Region.{Region}
use Rattle.machine.specs.Tables.{thread_cell, last_cell, source_cell}
use Rattle.machine.specs.Regions.{held_r, region_of}
use Rattle.machine.specs.Twin.{State, World, world, ticked}
use Rattle.machine.specs.Turning.{holds_w}
use Rattle.machine.specs.Effects.{pass_with, meet_w, held_tables, held_work, cross_w, load_w}
use Rattle.machine.specs.Sim.{PastAt, Seen, Sources, InRegion, Regions, Sim}
use Rattle.machine.proofs.Storing.{Same, set_leaves}
use Rattle.machine.proofs.TableLaws.{region_same, held_size, held_own, held_leaves}
use Rattle.machine.proofs.RowLaws.{NoStore, no_store_is, no_store_behind, HeldHere, held_here, event_is}
use Rattle.machine.proofs.RuleLaws.{load_ticks}
use Rattle.machine.proofs.Keep.{BehindStays, limits_next, in_time, few_own, small_own, spares, queues_keep}
use Rattle.machine.proofs.Keep.{past_keep}
use Rattle.machine.proofs.Holding.{RowsStay, held_there, region_keep}
use Rattle.machine.proofs.Quiet.{Still, still_with, rows_stay}
use Rattle.machine.proofs.Meeting.{Brought, met, met_regions}
use Rattle.machine.proofs.Searches.{→past, crossing_is}

module _ (ev : ℕ → Event) (n : ℕ) (w : World) (sim : Sim ev n w) (passes : refusal ev n ≡ 0)
    (loads : Load ev n) where
  abbrev t : ℕ
  t = thread ev n

  abbrev s : ℕ
  s = source ev n

  abbrev x : ℕ
  x = location ev n

  abbrev tables : List ℕ
  tables = w.tables

  few : t < 8
  few = few_own ev n sim.limits passes (load_has_thread ev loads)

  small : x < 256
  small = small_own ev n sim.limits passes (load_has_location ev loads)

  no_crash : crash? ev n ≡ false
  no_crash = load_no_crash ev loads

  -- ---- the source

  -- the source is a store of the stretch
  record FromHere : Type 0 where
    early : s < n
    store : Issue ev s
    in_stretch : stretch ev s ≡ stretch ev n

  fits : source_fits ev n ≡ true
  fits = fitting ev (suc n) (limits_next ev n sim.limits passes).accepted n (omega arith) loads

  -- it is, if the load does not cross
  waiting_here : waiting ev n ≢ 0 → FromHere
  waiting_here waits =
      let from = own_source ev n fits waits in
      record { early = from.earlier; store = from.own.store; in_stretch = from.own.in_stretch }

  current_here : waiting ev n ≡ 0 → current ev n ≢ 0 → FromHere
  current_here none_waits commits =
      let from = commit_source ev n fits none_waits commits in
      record {
        early = omega (arith, from.earlier, from.before_load);
        store = from.of_thread_lem.store;
        in_stretch = from.of_thread_lem.in_stretch ∙ from.in_stretch;
      }

  -- and is not, if the load crosses
  elsewhere :
      waiting ev n ≡ 0 → current ev n ≡ 0 → Issue ev s → s < n → stretch ev s ≡ stretch ev n → ⊥
  elsewhere none_waits none_current store early in_stretch =
      let some = store_not_0 ev n sim.limits.accepted sim.limits.begun store in
      omega (arith, (crossing_source ev n fits none_waits none_current some).earlier)

  -- ---- what threads have seen, after a load that crosses

  module _ (none_waits : waiting ev n ≡ 0) (none_current : current ev n ≡ 0) (tables' : List ℕ) where
    -- the source is no store of the stretch, so that nothing joins
    seen_crossed :
        ((v : ℕ) → v < 8 → Same (16 * v) (16 * v + 8) tables tables') → Seen ev (suc n) tables'
    seen_crossed leaves v u few_v few_u =
        leaves v few_v (16 * v + u) (omega arith) (omega arith) ∙ sim.seen_are v u few_v few_u
        ∙ sym (seen_crossing ev n v u loads (elsewhere none_waits none_current))

    -- ---- the sources noted, of which the crossing load's is one

    sources_noted :
        get_or tables' (source_cell x) 0 ≡ s
        → ((i : ℕ) → 384 ≤ i → i < 640 → source_cell x ≢ i → get_or tables' i 0 ≡ get_or tables i 0)
        → Sources ev (suc n) tables'
    sources_noted noted leaves y few_y = own_or_other (same? x y)
      where
        own_or_other :
            (x ≡ y) ⊎ (x ≢ y)
            → get_or tables' (source_cell y) 0 ≢ 0 → PastAt ev (suc n) y (get_or tables' (source_cell y) 0)
        own_or_other (inl own) =
            rw (← own, noted)
            (λ some. record {
              load = n;
              early = omega arith;
              at_x = refl;
              is_past = →past ev n s (crossing_source ev n fits none_waits none_current some);
            })
        own_or_other (inr other) =
            rw (leaves (source_cell y) (omega arith) (omega arith) (λ same. other (omega arith)))
            (λ some. past_keep ev n y _ (sim.sources y few_y some))

  -- ---- how a load changes the tables and the rows

  abbrev row : ℕ
  row = w.state.row

  abbrev noted_tables : List ℕ
  noted_tables = set tables (source_cell x) s

  abbrev plain_work : List ℕ
  plain_work = no_store w.work row

  n_small : n ≤ 2048
  n_small = in_time ev n sim.limits passes

  -- it brings what its source has seen, or notes its source; it is no store and no signal; and the regions are those
  -- behind it
  pub record Loaded (tables' l' : List ℕ) : Type 0 where
    pub brought : Brought ev n w tables'
    pub is_no_store : NoStore n w.work l'
    pub rows_stay : RowsStay ev n sim.limits w.work l'
    pub behind_stays : BehindStays n w.work l'
    pub regions : Regions ev (suc n) tables' l'

  -- where the load is not held, the work area says no more than that it is no store
  plainly :
      (tables' : List ℕ) → Brought ev n w tables'
      → ((t : ℕ) → t < 8 → region_of tables' t ≡ region_of tables t)
      → ((countable ev n ≡ true) → opened ev n t ≡ false) → Loaded tables' plain_work
  plainly tables' brought same not_held = record {
    brought = brought;
    is_no_store = no_store_is row n sim.numbers.row_is n_small w.work sim.rows.room;
    rows_stay = rows_stay ev n w sim passes;
    behind_stays = λ q k _ _. no_store_behind row n sim.numbers.row_is n_small w.work q k;
    regions = λ u few_u.
        rw (same u few_u) (by_test u few_u (test (countable ev n && eqb t u)));
  }
    where
      -- if the load is to be held by an open thread, its own is not open
      by_test :
          (u : ℕ) → u < 8 → ((countable ev n && eqb t u) ≡ true) ⊎ ((countable ev n && eqb t u) ≡ false)
          → InRegion ev (suc n) u (region_of tables u) plain_work
      by_test u few_u (inr other) =
          region_keep ev n sim.limits w.work plain_work (rows_stay ev n w sim passes) u
          (region_of tables u) no_crash
          (spares ev n (open? ev) (load_no_open ev loads) u) (spares ev n (close? ev) (load_no_close ev loads) u) other
          (sim.regions u few_u)
      by_test u few_u (inl own) =
          let both_hold = parts (countable ev n) _ own in
          let is_u : t ≡ u = eqb-true t u both_hold.1 in
          let stays =
          opened_away ev n u no_crash (spares ev n (open? ev) (load_no_open ev loads) u)
          (spares ev n (close? ev) (load_no_close ev loads) u)
          in
          let closed_there : opened ev (suc n) u ≡ false = stays ∙ rw is_u at (not_held both_hold.0) in
          record {
            opened_is = (sim.regions u few_u).opened_is ∙ sym stays;
            held_are = λ is_open. false_true (sym closed_there ∙ is_open);
          }

  from_here : FromHere → Brought ev n w (joined 8 w.work s (thread_cell t 0) tables)
  from_here from = met ev n w sim (loads_store loads from.store) from.early from.in_stretch few

  -- a load that does not cross
  meets_here :
      FromHere → countable ev n ≡ false → Loaded (joined 8 w.work s (thread_cell t 0) tables) plain_work
  meets_here from not_countable =
      plainly _ (from_here from)
      (met_regions ev n w sim (loads_store loads from.store) from.early from.in_stretch few)
      (λ counts. false_true (sym not_countable ∙ counts))

  noted_leaves : (i : ℕ) → source_cell x ≢ i → get_or noted_tables i 0 ≡ get_or tables i 0
  noted_leaves = set_leaves tables (source_cell x) s

  -- what a crossing load notes, with whatever it changes of its thread's region
  module _ (none_waits : waiting ev n ≡ 0) (none_current : current ev n ≡ 0) where
    crossed :
        (tables' : List ℕ) → length tables' ≡ length noted_tables
        → ((i : ℕ) → 16 * t + 13 ≢ i → get_or tables' i 0 ≡ get_or noted_tables i 0) → Brought ev n w tables'
    crossed tables' size leaves = record {
      size = size ∙ length-set tables _ _ ∙ sim.size;
      threads_same = λ u few_u i low high.
          leaves i (λ same. omega arith) ∙ noted_leaves i (λ same. omega arith);
      seen_are =
          seen_crossed none_waits none_current tables'
          (λ v few_v i low high. leaves i (λ same. omega arith) ∙ noted_leaves i (λ same. omega arith));
      sources =
          sources_noted none_waits none_current tables'
          (leaves (source_cell x) (λ same. omega (arith, few))
          ∙ get_or-set_same tables (source_cell x) s 0 (omega (arith, small, sim.size)))
          (λ i low high other. leaves i (λ same. omega (arith, few)) ∙ noted_leaves i other);
      heads_same = λ i low high.
          leaves i (λ same. omega (arith, few)) ∙ noted_leaves i (λ same. omega arith);
      rest_same = λ i low high.
          leaves i (λ same. omega (arith, few)) ∙ noted_leaves i (λ same. omega (arith, small));
    }

    noted_regions : (u : ℕ) → u < 8 → region_of noted_tables u ≡ region_of tables u
    noted_regions u few_u = region_same tables noted_tables u (λ i low high. noted_leaves i (λ same. omega arith))

    -- it is not held
    passes_by : (countable ev n ≡ true → opened ev n t ≡ false) → Loaded noted_tables plain_work
    passes_by =
        plainly noted_tables (crossed noted_tables refl (λ i apart. refl)) noted_regions

    -- it is held, in front of what its thread held
    held_by :
        countable ev n ≡ true → opened ev n t ≡ true
        → Loaded (held_tables noted_tables row t) (held_work noted_tables plain_work row t x s)
    unfolding held_tables held_r
    held_by counts is_open = record {
      brought =
          crossed (held_tables noted_tables row t) (held_size noted_tables t few noted_size new)
          (held_leaves noted_tables t few noted_size new);
      is_no_store = here.is_no_store;
      rows_stay = λ e k from_one early _ low _. here.earlier e k from_one early low;
      behind_stays = λ q k from_one early _. here.earlier q k from_one early;
      regions = λ u few_u. own_or_other u few_u (same? t u);
    }
      where
        new : Region
        new = held_r (region_of noted_tables t) (event_at row)

        noted_size : length noted_tables ≡ 3008
        noted_size = length-set tables _ _ ∙ sim.size

        here :
            HeldHere row n sim.numbers.row_is n_small x s (get_or noted_tables (last_cell x) 0)
            (region_of noted_tables t).newest w.work (held_work noted_tables plain_work row t x s)
        here = held_here row n sim.numbers.row_is n_small noted_tables t x s w.work sim.rows.room

        at_n : event_at row ≡ n
        at_n = event_is row n sim.numbers.row_is n_small

        after : List ℕ
        after = held_work noted_tables plain_work row t x s

        stays : RowsStay ev n sim.limits w.work after
        stays e k from_one early _ low _ = here.earlier e k from_one early low

        still_open : opened ev (suc n) t ≡ true
        still_open =
            opened_away ev n t no_crash (spares ev n (open? ev) (load_no_open ev loads) t)
            (spares ev n (close? ev) (load_no_close ev loads) t)
            ∙ is_open

        same_region : region_of noted_tables t ≡ region_of tables t
        same_region = noted_regions t few

        -- the head of its chain is the last store committed there
        head : get_or noted_tables (last_cell x) 0 ≡ head_of (landed ev n x)
        head =
            noted_leaves (last_cell x) (λ same. omega (arith, small))
            ∙ linked_head w.work _ (landed ev n x) (sim.chains x small).links

        own_row : HeldRow ev after n
        own_row = record {
          some_load = λ is_0. omega (arith, sim.limits.begun);
          location_is = here.location_is;
          source_is = here.source_is;
          head_is = here.head_is ∙ head;
        }

        before :
            HeldLinked ev after (region_of noted_tables t).newest (held ev n t)
        before =
            rw same_region (held_there ev n sim.limits w.work after stays t _
            ((sim.regions t few).held_are is_open))

        own : InRegion ev (suc n) t (held_r (region_of noted_tables t) (event_at row)) after
        own = record {
          opened_is =
              ap (λ (r : Region). r.opened) same_region ∙ (sim.regions t few).opened_is ∙ is_open ∙ sym still_open;
          held_are = λ _.
              rw (held_next ev n t still_open counts refl) (at_n, own_row, rw here.before_is before);
        }

        other_thread : (u : ℕ) → t ≢ u → (countable ev n && eqb t u) ≡ false
        other_thread u other = rw (ne_eqb t u other) (and-false (countable ev n))

        own_or_other :
            (u : ℕ) → u < 8 → (t ≡ u) ⊎ (t ≢ u)
            → InRegion ev (suc n) u (region_of (held_tables noted_tables row t) u) after
        own_or_other u few_u (inl is_own) = rw (← is_own, held_own noted_tables t few noted_size (event_at row)) own
        own_or_other u few_u (inr other) =
            let same : region_of (held_tables noted_tables row t) u ≡ region_of tables u =
            region_same noted_tables _ u
            (λ i from below. held_leaves noted_tables t few noted_size new i (λ same. other (omega arith)))
            ∙ noted_regions u few_u
            in
            rw same
            (region_keep ev n sim.limits w.work after stays u (region_of tables u) no_crash (λ _. other)
            (λ _. other)
            (other_thread u other) (sim.regions u few_u))

  -- whether it is held, by the thread's state
  holds_is : holds_w w t ≡ (not (skipping ev n t) && opened ev n t)
  holds_is = rw ((sim.queues t few).skip_is, (sim.regions t few).opened_is)

  abbrev After : World → Type 0
  After v = Loaded v.tables v.work

  pub loaded : Loaded (load_w w t x s).tables (load_w w t x s).work
  unfolding load_w meet_w cross_w countable
  loaded =
      rw (crossing_is ev n w sim few small, holds_is)
      (by_case (same? (waiting ev n) 0) (same? (current ev n) 0) (skipping ev n t) (opened ev n t) refl refl)
    where
      held_world : World
      held_world = world (ticked w.state) (held_tables noted_tables row t) (held_work noted_tables plain_work row t x s)

      passed_world : World
      passed_world = world (ticked w.state) noted_tables plain_work

      met_world : World
      met_world = pass_with w (joined 8 w.work s (thread_cell t 0) tables)

      by_case :
          (waiting ev n ≡ 0) ⊎ (waiting ev n ≢ 0) → (current ev n ≡ 0) ⊎ (current ev n ≢ 0)
          → (skips opens : Bool) → skipping ev n t ≡ skips → opened ev n t ≡ opens
          → After
          ((eqb (waiting ev n) 0 && eqb (current ev n) 0) gives
          ((not skips && opens) gives held_world else passed_world) else met_world)
      by_case (inr waits) either_way skips opens skips_is opens_is =
          rw (ne_eqb (waiting ev n) 0 waits)
          (meets_here (waiting_here waits) (rw (loads.test, ne_eqb (waiting ev n) 0 waits)))
      by_case (inl none_waits) (inr commits) skips opens skips_is opens_is =
          rw (eq-eqb (waiting ev n) 0 none_waits, ne_eqb (current ev n) 0 commits)
          (meets_here (current_here none_waits commits)
          (rw (loads.test, eq-eqb (waiting ev n) 0 none_waits, ne_eqb (current ev n) 0 commits)))
      by_case (inl none_waits) (inl none_current) true opens skips_is opens_is =
          rw (eq-eqb (waiting ev n) 0 none_waits, eq-eqb (current ev n) 0 none_current)
          (passes_by none_waits none_current
          (λ counts. false_true (sym (rw (skips_is, and-false (crossing ev n))) ∙ counts)))
      by_case (inl none_waits) (inl none_current) false false skips_is opens_is =
          rw (eq-eqb (waiting ev n) 0 none_waits, eq-eqb (current ev n) 0 none_current)
          (passes_by none_waits none_current (λ counts. opens_is))
      by_case (inl none_waits) (inl none_current) false true skips_is opens_is =
          rw (eq-eqb (waiting ev n) 0 none_waits, eq-eqb (current ev n) 0 none_current)
          (held_by none_waits none_current
          (rw (
            loads.test,
            eq-eqb (waiting ev n) 0 none_waits,
            eq-eqb
                (current ev n) 0 none_current,
            skips_is,
          )) opens_is)

  -- ---- the step of kind 4, which is no issue, no commit and no skip

  pub load_next : kind ev n ≡ 4 → Sim ev (suc n) (load_w w t x s)
  load_next kind_is =
      let it = loaded.brought in
      subst (λ (st : State). Sim ev (suc n) (world st (load_w w t x s).tables (load_w w t x s).work))
      (sym (load_ticks w t x s))
      (still_with ev n w sim passes still _ _ it.size
      (queues_keep ev n tables _ no_crash still.no_issue still.no_commit (rw kind_is refl) (rw kind_is refl)
      it.threads_same sim.queues)
      it.seen_are it.sources it.heads_same it.rest_same loaded.is_no_store loaded.behind_stays
      loaded.regions)
    where
      still : Still ev n
      still = record {
        no_issue = rw kind_is refl;
        no_commit = rw kind_is refl;
        no_crash = no_crash;
        no_signal = rw kind_is refl;
      }
