-- The step of kind 12, a locked operation: one event that loads, issues and commits. Each component of `Sim` goes by
-- the law of the role that changes it: what threads have seen and the sources noted by the load (Loads), the rows, the
-- links and the newest stores by the issue (Issues), the chains by the commit (Commits); the queue by all, for it is
-- empty before and after.
-- In order: the roles; the tables; the thread; the row; the chain; the step.
use mathlib.Core.Path.{◌≡◌, refl, sym, ◌∙◌}
use mathlib.Core.Bool.{true, false}
use mathlib.Core.List.{List}
use mathlib.Core.Logic.{◌⊎◌, inl, inr, ◌≢◌}
use Prim.Native.Nat.{ℕ, suc, ◌+◌, ◌*◌, ◌≤◌, ◌<◌}
use native.Mathlib.Omega.{arith}
use borrow.Author.Tests.{eqb-true, not-false}
use lib.ListN.{length, get_or, set, length-set}
use Rattle.record.specs.declared.events.Event.{Event}
use Rattle.model.specs.Trace.{kind, thread, location, source, issue?, commit?, crash?, skip_on?, skip_off?}
use Rattle.model.specs.Trace.{Issue, Commit, Load, stretch}
use Rattle.model.specs.Search.{member}
use Rattle.model.specs.Machine.{committed, held}
use Rattle.model.specs.Rules.{refusal, Accepted}
use Rattle.model.specs.Stores.{landed}
use Rattle.model.proofs.Searching.{same?}
use Rattle.model.proofs.Roles.{issue_no_crash}
use Rattle.model.proofs.Acceptance.{drained_empty, source_early}
use Rattle.model.proofs.Ranges.{issue_has_thread, issue_has_location}
use Rattle.model.proofs.StorePlaces.{committed_itself, store_at_none}
use Rattle.model.proofs.Unchanged.{live_here}
use Rattle.area.specs.Cells.{get_row, event_at}
use Rattle.area.proofs.ReadBack.{start_is, set_here, set_column, set_elsewhere}
use Rattle.area.proofs.Chains.{linked_head}
use Rattle.machine.specs.declared.threads.Thread.{Thread}
use Rattle.machine.specs.Tables.{last_cell, source_cell, newest_cell, stretch_cell}
use Rattle.machine.specs.Threads.{issued_t, committed_t, thread_of, of_thread}
use Rattle.machine.specs.Twin.{World}
use Rattle.machine.specs.Effects.{issued_tables, issued_work, load_w, exchanged_tables, exchanged_work, locked_w}
use Rattle.machine.specs.Sim.{issued, done, Queue, Seen, Sources, Regions, Sim}
use Rattle.machine.proofs.Storing.{Same}
use Rattle.machine.specs.Regions.{region_of}
use Rattle.machine.proofs.TableLaws.{thread_same, Replaced, issued_replaced, issued_beyond, issued_newest}
use Rattle.machine.proofs.TableLaws.{committed_replaced, committed_beyond, committed_last, committed_stretch}
use Rattle.machine.proofs.RowLaws.{NoStore, Stored, stored_behind, link_stored}
use Rattle.machine.proofs.RowLaws.{written_rows, written_beside, event_is}
use Rattle.machine.proofs.Keep.{limits_next, in_time, few_own, small_own, numbers_next, spares, counted_up}
use Rattle.machine.proofs.Keep.{skip_stays, queues_with, commits_keep}
use Rattle.machine.proofs.Holding.{StillHeld, still_held, held_same, held_early}
use Rattle.machine.proofs.Meeting.{Brought}
use Rattle.machine.proofs.Loads.{Loaded, loaded}
use Rattle.machine.proofs.Commits.{Headed, chains_next}
use Rattle.machine.proofs.Issues.{newest, newest_now, rows_next, links_next, newest_next, issue_counted, stored}

module _ (ev : ℕ → Event) (n : ℕ) (w : World) (sim : Sim ev n w) (passes : refusal ev n ≡ 0) (kind_is : kind ev n ≡ 12)
  where
    -- ---- the roles

    loads : Load ev n
    loads = record { test = rw kind_is refl }

    store : Issue ev n
    store = record { test = rw kind_is refl }

    commits_it_lem : Commit ev n
    commits_it_lem = record { test = rw kind_is refl }

    abbrev t : ℕ
    t = thread ev n

    abbrev x : ℕ
    x = location ev n

    abbrev j : ℕ
    j = stretch ev n

    abbrev row : ℕ
    row = w.state.row

    abbrev tables : List ℕ
    tables = w.tables

    abbrev l : List ℕ
    l = w.work

    few : t < 8
    few = few_own ev n sim.limits passes (issue_has_thread ev store)

    small : x < 256
    small = small_own ev n sim.limits passes (issue_has_location ev store)

    no_crash : crash? ev n ≡ false
    no_crash = issue_no_crash ev store

    accepted : Accepted ev (suc n)
    accepted = (limits_next ev n sim.limits passes).accepted

    begins : row + 16 ≡ 16 * n
    begins = sim.numbers.row_is

    n_small : n ≤ 2048
    n_small = in_time ev n sim.limits passes

    at_n : event_at row ≡ n
    at_n = event_is row n begins n_small

    -- the queue is empty, so the event commits its own store
    all_committed : issued ev n t ≡ done ev n t
    all_committed = eqb-true _ _ (not-false _ (drained_empty ev (suc n) accepted n (omega arith) (rw kind_is refl)))

    takes_itself : committed ev n ≡ n
    takes_itself = committed_itself ev (suc n) n accepted (omega arith) (rw kind_is refl) store

    -- ---- the tables: after its load, its issue and its commit

    abbrev loaded_tables : List ℕ
    loaded_tables = (load_w w t x (source ev n)).tables

    abbrev loaded_work : List ℕ
    loaded_work = (load_w w t x (source ev n)).work

    abbrev with_store : List ℕ
    with_store = issued_tables loaded_tables row t x

    abbrev tables' : List ℕ
    tables' = exchanged_tables loaded_tables row t x w.state.stretch

    after_load : Loaded ev n w sim passes loads loaded_tables loaded_work
    after_load = loaded ev n w sim passes loads

    its_load : Brought ev n w loaded_tables
    its_load = after_load.brought

    abbrev old : Thread
    old = thread_of tables t

    same_thread : thread_of loaded_tables t ≡ old
    same_thread = thread_same tables loaded_tables t (its_load.threads_same t few)

    its_issue : Replaced loaded_tables with_store t (issued_t (thread_of loaded_tables t) (event_at row))
    its_issue = issued_replaced loaded_tables t few its_load.size row x small

    store_size : length with_store ≡ 3008
    store_size = its_issue.size ∙ its_load.size

    its_commit : Replaced with_store tables' t (committed_t (thread_of with_store t) 0)
    unfolding exchanged_tables
    its_commit = committed_replaced with_store t few store_size (event_at row) x w.state.stretch 0 small

    -- where neither the store nor its commit is noted, the tables are as its load left them
    beyond :
        (i : ℕ) → 128 ≤ i → newest_cell x t ≢ i → last_cell x ≢ i → stretch_cell x ≢ i
        → get_or tables' i 0 ≡ get_or loaded_tables i 0
    unfolding exchanged_tables
    beyond i high not_newest not_last not_stretch =
        committed_beyond with_store t few store_size (event_at row) x w.state.stretch 0 small i high not_last
        not_stretch
        ∙ issued_beyond loaded_tables t few its_load.size row x small i high not_newest

    others : (u : ℕ) → u < 8 → t ≢ u → Same (16 * u + 8) (16 * u + 13) tables tables'
    others u few_u other i low high =
        its_commit.others u few_u other i low high ∙ its_issue.others u few_u other i low high
        ∙ its_load.threads_same u few_u i low high

    seen_next : Seen ev (suc n) tables'
    seen_next v u few_v few_u =
        its_commit.seen_same v few_v (16 * v + u) (omega arith) (omega arith)
        ∙ its_issue.seen_same v few_v (16 * v + u) (omega arith) (omega arith)
        ∙ its_load.seen_are v u few_v few_u

    sources_next : Sources ev (suc n) tables'
    sources_next y few_y =
        let stays =
        beyond (source_cell y) (omega arith) (λ same. omega arith) (λ same. omega (arith, small)) (λ same. omega arith)
        in
        rw stays (its_load.sources y few_y)

    -- ---- the thread: one issue and one commit more, and no store waits

    own : thread_of tables' t ≡ committed_t (issued_t old n) 0
    own = its_commit.own ∙ rw (its_issue.own, same_thread, at_n)

    queue_next : Queue ev (suc n) t (committed_t (issued_t old n) 0)
    unfolding committed_t issued_t
    queue_next =
        let queue = sim.queues t few in
        record {
          issued_is = issue_counted ev n w sim passes store;
          committed_is =
              counted_up ev n no_crash (commit? ev) old.committed sim.limits commits_it_lem.test
              queue.committed_is;
          skip_is =
              skip_stays ev n no_crash t old queue (spares ev n (skip_on? ev) (rw kind_is refl) t)
              (spares ev n (skip_off? ev) (rw kind_is refl) t);
          oldest_is = sym (store_at_none ev (suc n) (stretch ev (suc n)) t (done ev (suc n) t) none_left);
          newest_is = newest_now ev n w sim passes store;
        }
      where
        none_left : issued ev (suc n) t ≤ done ev (suc n) t
        none_left =
            omega (
              arith,
              all_committed,
              live_here ev (issue? ev) n no_crash store.test,
              live_here ev (commit? ev) n no_crash commits_it_lem.test,
            )

    -- ---- the row: what the issue writes, behind what the load wrote

    abbrev l' : List ℕ
    l' = exchanged_work loaded_tables loaded_work row t x (source ev n) w.state.stretch

    is_no_store : NoStore n l loaded_work
    is_no_store = after_load.is_no_store

    abbrev seen_by : ℕ → ℕ
    seen_by u = of_thread loaded_tables t u

    -- as the issue alone leaves the work area
    abbrev written : List ℕ
    written = issued_work loaded_tables loaded_work row t x w.state.stretch

    -- and with its source
    abbrev sourced : List ℕ
    sourced = set written (row + 13) (source ev n)

    written_is :
        Stored n (newest ev n w sim passes store) t (suc (issued ev n t)) x j seen_by loaded_work written
    written_is = stored ev n w sim passes store loaded_tables loaded_work same_thread is_no_store.size

    its_row : Stored n (newest ev n w sim passes store) t (suc (issued ev n t)) x j seen_by l l'
    unfolding exchanged_work
    its_row =
        link_stored row n begins n_small 14 _ l sourced (omega arith) (omega arith)
        (link_stored row n begins n_small 13 (source ev n) l written (omega arith) (omega arith)
        (stored_behind l loaded_work written is_no_store written_is))

    -- ---- the chain: the store heads that of its location

    written_room : 32768 ≤ length written
    written_room = rw (written_is.size, is_no_store.size) sim.rows.room

    sourced_room : 32768 ≤ length sourced
    sourced_room = rw (length-set written (row + 13) (source ev n)) written_room

    source_is : get_row l' n 13 ≡ source ev n
    unfolding exchanged_work
    source_is =
        set_column sourced row n begins n_small 14 _ n 13 (omega arith) (omega arith) (λ same. omega arith)
        ∙ set_here written row n begins n_small 13 (source ev n) written_room (omega arith)

    -- its source and its link are in its own row
    own_set : (p k : ℕ) → 1 ≤ p → p < n → k < 16 → get_row l' p k ≡ get_row written p k
    unfolding exchanged_work
    own_set p k from_one early low =
        set_elsewhere sourced row n begins n_small 14 (get_or with_store (last_cell x) 0) p k (omega arith) low from_one
        (omega arith) (λ same. omega arith)
        ∙ set_elsewhere written row n begins n_small 13 (source ev n) p k (omega arith) low from_one
        (omega arith) (λ same. omega arith)

    headed : Headed n n x j tables tables' l l'
    unfolding exchanged_tables exchanged_work issued_work
    headed = record {
      head_is = committed_last with_store t few store_size (event_at row) x w.state.stretch 0 small ∙ at_n;
      stretch_is =
          committed_stretch with_store t few store_size (event_at row) x w.state.stretch 0 small
          ∙ sim.numbers.stretch_is;
      link_is =
          set_here sourced row n begins n_small 14 (get_or with_store (last_cell x) 0) sourced_room (omega arith)
          ∙ (issued_beyond loaded_tables t few its_load.size row x small (last_cell x) (omega arith)
          (λ same. omega (arith, small))
          ∙ its_load.heads_same (last_cell x) (omega arith) (omega (arith, small)));
      commit_is =
          rw source_is
          (omega (
            arith,
            source_early ev (suc n) accepted n (omega arith) loads,
            start_is n (omega (arith, sim.limits.begun)) n_small,
            sim.limits.begun,
          ));
      other_heads = λ y few_y other.
          beyond (last_cell y) (omega arith) (λ same. omega arith) (λ same. other (omega arith)) (λ same. omega arith)
          ∙ its_load.heads_same (last_cell y) (omega arith) (omega arith);
      other_stretches = λ y few_y other.
          beyond (stretch_cell y) (omega arith) (λ same. omega (arith, small, few)) (λ same. omega (arith, small))
          (λ same. other (omega arith))
          ∙ its_load.rest_same (stretch_cell y) (omega arith) (omega arith);
      other_rows = λ q k from_one early other from below.
          own_set q k from_one early below
          ∙ (written_beside row n begins n_small loaded_tables t _ few x _ _ loaded_work q k from below
          ∙ after_load.behind_stays q k from_one early from below);
    }

    -- ---- the regions, which are as its load left them

    regions_same : (u : ℕ) → u < 8 → region_of tables' u ≡ region_of loaded_tables u
    regions_same u few_u = its_commit.regions_same u few_u ∙ its_issue.regions_same u few_u

    -- what the store and its link write into rows other than column 12: of the event's own, its location and the head
    -- that its load found
    row_stays : (p k : ℕ) → 1 ≤ p → p < n → k < 16 → k ≢ 12 → get_row l' p k ≡ get_row loaded_work p k
    unfolding exchanged_work issued_work
    row_stays p k from_one early low other =
        own_set p k from_one early low
        ∙ written_rows row n begins n_small loaded_tables t _ few x _ _ loaded_work p k from_one early low other

    held_before : get_row l' n 15 ≡ get_row loaded_work n 15
    unfolding exchanged_work issued_work
    held_before =
        set_column sourced row n begins n_small 14 (get_or with_store (last_cell x) 0) n 15 (omega arith) (omega arith)
        (λ same. omega arith)
        ∙ set_column written row n begins n_small 13 (source ev n) n 15 (omega arith) (omega arith)
        (λ same. omega arith)
        ∙ written_beside row n begins n_small loaded_tables t _ few x _ _ loaded_work n 15 (omega arith) (omega arith)

    own_stays : StillHeld ev loaded_work l' n
    own_stays = (
      λ row. record {
        some_load = row.some_load;
        location_is = its_row.location_is;
        source_is = source_is;
        head_is = headed.link_is ∙ linked_head l _ (landed ev n x) (sim.chains x small).links;
      },
      held_before,
    )

    regions_next : Regions ev (suc n) tables' l'
    regions_next u few_u =
        let region = after_load.regions u few_u in
        rw (regions_same u few_u)
        (record {
          opened_is = region.opened_is;
          held_are = λ is_open. held_same ev loaded_work l' _ (held ev (suc n) u) (stays u) (region.held_are is_open);
        })
      where
        stays : (u e : ℕ) → member e (held ev (suc n) u) ≡ true → StillHeld ev loaded_work l' e
        stays u e there = by_place (same? e n)
          where
            by_place : (e ≡ n) ⊎ (e ≢ n) → StillHeld ev loaded_work l' e
            by_place (inl is_n) = rw is_n own_stays
            by_place (inr differs) =
                let (from_one, early, _) = held_early ev (suc n) (limits_next ev n sim.limits passes) u e there in
                still_held ev loaded_work l' e (λ k. row_stays e k from_one (omega arith))

    -- ---- the step

    pub locked_next : Sim ev (suc n) (locked_w w t x (source ev n))
    unfolding locked_w exchanged_tables
    locked_next = record {
      numbers = numbers_next ev n w.state sim.numbers no_crash;
      limits = limits_next ev n sim.limits passes;
      size = its_commit.size ∙ store_size;
      queues = queues_with ev n tables tables' no_crash others (rw own queue_next) sim.queues;
      seen_are = seen_next;
      newest_are =
          newest_next ev n w sim passes store tables' noted
          (λ i low high differ.
          beyond i (omega arith) differ (λ same. omega (arith, small)) (λ same. omega arith)
          ∙ its_load.rest_same i (omega arith) (omega arith));
      commits_are =
          commits_keep ev n tables tables' no_crash
          (λ i low high.
          beyond i (omega arith) (λ same. omega arith) (λ same. omega (arith, small)) (λ same. omega arith)
          ∙ its_load.rest_same i low (omega arith))
          sim.commits_are;
      sources = sources_next;
      chains = chains_next ev n w sim passes commits_it_lem tables' l' (rw takes_itself headed);
      rows =
          rows_next ev n w sim passes store seen_by (λ u. its_load.seen_are t u few) l' its_row;
      links =
          links_next ev n w sim passes store seen_by (λ u. its_load.seen_are t u few) l' its_row;
      regions = regions_next;
    }
      where
        noted : get_or tables' (newest_cell x t) 0 ≡ n
        noted =
            committed_beyond with_store t few store_size (event_at row) x w.state.stretch 0 small (newest_cell x t)
            (omega arith) (λ same. omega (arith, small)) (λ same. omega (arith, few, small))
            ∙ issued_newest loaded_tables t few its_load.size row x small ∙ at_n
