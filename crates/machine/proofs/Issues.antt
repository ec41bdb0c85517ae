-- What an issue does to the components of `Sim` that issues concern, whatever else the event may be: the store n joins
-- its thread's queue behind the thread's newest store of the stretch, and its row holds its clock, which is what its
-- thread has seen, the event included, and of its own thread one more than its place. And the step of kind 2, which is
-- an issue and nothing else.
-- In order: the newest store so far; the thread; the row; the links; the table of newest stores; the row as it is
-- written; the step.
use mathlib.Core.Path.{◌≡◌, refl, sym, ap, ◌∙◌}
use mathlib.Core.Bool.{false, cond}
use mathlib.Core.List.{List}
use mathlib.Core.Logic.{◌⊎◌, inl, inr, ◌≢◌}
use Prim.Native.Nat.{ℕ, suc, ◌+◌, ◌-◌, ◌*◌, ◌≤◌, ◌<◌}
use native.Mathlib.Omega.{arith}
use borrow.Author.Tests.{eq-eqb, ne_eqb}
use lib.Dec.{eqb}
use lib.ListN.{length, get_or}
use Rattle.record.specs.declared.events.Event.{Event}
use Rattle.record.specs.Tests.{◌gives◌else◌}
use Rattle.model.specs.Trace.{kind, thread, location, issue?, commit?, load?, wait?, crash?, skip_on?, skip_off?}
use Rattle.model.specs.Trace.{Issue, stretch, issues, place}
use Rattle.model.specs.Rules.{refusal}
use Rattle.model.specs.Clocks.{seen, vc}
use Rattle.model.specs.Stores.{store_at, newest_at}
use Rattle.model.proofs.Searching.{false_true, same?}
use Rattle.model.proofs.Counting.{stretch_else, count_it}
use Rattle.model.proofs.Roles.{issue_no_crash, signal_no_issue}
use Rattle.model.proofs.ClockSteps.{vc_own, vc_other}
use Rattle.model.proofs.Acceptance.{store_not_0}
use Rattle.model.proofs.Committed.{commits_below_issues}
use Rattle.model.proofs.Ranges.{issue_has_thread, issue_has_location}
use Rattle.model.proofs.StorePlaces.{Store, its_place, store_at_of, store_at_is, store_at_none, store_at_here}
use Rattle.model.proofs.StorePlaces.{store_at_else}
use Rattle.model.proofs.Unchanged.{live_away, live_here, newest_away, newest_here}
use Rattle.area.specs.Cells.{get_row, up}
use Rattle.area.specs.Rows.{StoreRow, Rows}
use Rattle.machine.specs.declared.threads.Thread.{Thread}
use Rattle.machine.specs.Tables.{newest_cell}
use Rattle.machine.specs.Threads.{first_of, issued_t, thread_of, of_thread}
use Rattle.machine.specs.Twin.{World}
use Rattle.machine.specs.Effects.{issued_tables, issued_work, issue_w}
use Rattle.machine.specs.Sim.{issued, done, Queue, Links, Newest, Sim}
use Rattle.machine.proofs.TableLaws.{issued_replaced, issued_beyond, issued_newest}
use Rattle.machine.proofs.RowLaws.{Stored, stored_is, written_beside, written_rows, event_is}
use Rattle.machine.proofs.Keep.{limits_next, in_time, few_own, small_own, numbers_next, spares, counted_up}
use Rattle.machine.proofs.Keep.{committed_stays, skip_stays, queues_with, seen_keep, commits_keep, sources_keep}
use Rattle.machine.proofs.Keep.{chains_keep, rows_with}
use Rattle.machine.proofs.Holding.{regions_keep}

module _ (ev : ℕ → Event) (n : ℕ) (w : World) (sim : Sim ev n w) (passes : refusal ev n ≡ 0)
    (store : Issue ev n) where
  abbrev t : ℕ
  t = thread ev n

  abbrev x : ℕ
  x = location ev n

  abbrev j : ℕ
  j = stretch ev n

  abbrev tables : List ℕ
  tables = w.tables

  abbrev l : List ℕ
  l = w.work

  few : t < 8
  few = few_own ev n sim.limits passes (issue_has_thread ev store)

  small : x < 256
  small = small_own ev n sim.limits passes (issue_has_location ev store)

  no_crash : crash? ev n ≡ false
  no_crash = issue_no_crash ev store

  -- ---- the thread's newest store so far, 0 if there is none

  abbrev pub newest : ℕ
  newest = store_at ev n j t (issued ev n t - 1)

  newest_early : newest < n
  newest_early = by_count (same? (issued ev n t) 0)
    where
      by_count : (issued ev n t ≡ 0) ⊎ (issued ev n t ≢ 0) → newest < n
      by_count (inl none) =
          rw (store_at_none ev n j t (issued ev n t - 1) (omega arith)) sim.limits.begun
      by_count (inr some) = (store_at_is ev n j t (issued ev n t - 1) (omega arith)).early

  -- a store that is the newest is of the thread and stretch, just before n
  record IsNewest (p : ℕ) : Type 0 where
    at_place_lem : Store ev n j t (issued ev n t - 1) p
    some : issued ev n t ≢ 0

  newest_found : (p : ℕ) → Issue ev p → p ≡ newest → IsNewest p
  newest_found p is_IsStore is_newest = by_count (same? (issued ev n t) 0)
    where
      by_count : (issued ev n t ≡ 0) ⊎ (issued ev n t ≢ 0) → IsNewest p
      by_count (inl none) =
          absurd
          (store_not_0 ev n sim.limits.accepted sim.limits.begun is_IsStore
          (is_newest ∙ store_at_none ev n j t (issued ev n t - 1) (omega arith)))
      by_count (inr some) =
          record { at_place_lem = rw is_newest (store_at_is ev n j t (issued ev n t - 1) (omega arith)); some = some }

  -- ---- the thread: the store is its newest, and stands at the first place that was free

  pub newest_now : n ≡ store_at ev (suc n) (stretch ev (suc n)) t (issued ev (suc n) t - 1)
  newest_now =
      rw (live_here ev (issue? ev) n no_crash store.test, stretch_else ev n no_crash)
      (sym (store_at_here ev n j t (suc (issued ev n t) - 1) store refl refl (omega arith)))

  place_now :
      (i : ℕ) → i ≤ issued ev n t → store_at ev (suc n) (stretch ev (suc n)) t i ≡ first_of (store_at ev n j t i) n
  unfolding first_of
  place_now i within = rw (stretch_else ev n no_crash) (by_place (same? i (issued ev n t)))
    where
      found : ℕ
      found = store_at ev n j t i

      by_place :
          (i ≡ issued ev n t) ⊎ (i ≢ issued ev n t) → store_at ev (suc n) j t i ≡ (eqb found 0 gives n else found)
      by_place (inl free) =
          rw (store_at_none ev n j t i (omega arith)) (store_at_here ev n j t i store refl refl (sym free))
      by_place (inr taken) =
          let is_IsStore = (store_at_is ev n j t i (omega arith)).store in
          rw (ne_eqb found 0 (store_not_0 ev n sim.limits.accepted sim.limits.begun is_IsStore))
          (store_at_else ev n j t i (λ is_it. taken (sym is_it.at_i)))

  -- ---- the rows, where the store's is written with what its thread has seen, the event included

  store_some : (p : ℕ) → Issue ev p → 1 ≤ p
  store_some p is_IsStore =
      let some : p ≢ 0 = store_not_0 ev n sim.limits.accepted sim.limits.begun is_IsStore in
      omega arith

  module _ (seen_by : ℕ → ℕ) (seen_is : (u : ℕ) → u < 8 → seen_by u ≡ seen ev (suc n) t u) (l' : List ℕ)
      (it : Stored n newest t (suc (issued ev n t)) x j seen_by l l') where
    new_row : StoreRow ev l' n
    new_row = record {
      clock_is = λ u few_u. it.clock_is u few_u ∙ clock_entry u few_u (same? t u);
      thread_is = it.thread_is;
      location_is = it.location_is;
      stretch_is = it.stretch_is;
    }
      where
        clock_entry :
            (u : ℕ) → u < 8 → (t ≡ u) ⊎ (t ≢ u) → cond (eqb t u) (suc (issued ev n t)) (seen_by u) ≡ vc ev n u
        clock_entry u few_u (inl own) = rw (eq-eqb t u own) (sym (vc_own ev n u store (sym own)))
        clock_entry u few_u (inr other) =
            rw (ne_eqb t u other, vc_other ev n u no_crash (λ same. other (sym same))) (seen_is u few_u)

    -- every store and signal but the new one is an earlier event, whose row is as it was
    pub rows_next : Rows ev (suc n) l'
    rows_next =
        rows_with ev n l l' sim.limits it.size it.earlier (λ _. new_row)
        (λ none. false_true (sym none ∙ store.test))
        (λ signal. false_true (sym (signal_no_issue ev signal) ∙ store.test)) (λ _. it.no_signal) sim.rows

    -- ---- the links

    -- of the new store: there is none after it
    link_new : get_row l' n 12 ≡ store_at ev (suc n) j t (suc (issued ev n t))
    link_new =
        it.no_next
        ∙ sym
        (store_at_none ev (suc n) j t (suc (issued ev n t))
        (omega (arith, count_it ev (issue? ev) n j t store.test refl refl)))

    -- of the newest so far: the new store
    link_newest :
        (p : ℕ) → p < n → Issue ev p → p ≡ newest
        → get_row l' p 12 ≡ store_at ev (suc n) (stretch ev p) (thread ev p) (suc (place ev p))
    link_newest p early is_IsStore is_newest =
        its_link
        ∙ sym (store_at_here ev n (stretch ev p) (thread ev p) (suc (place ev p)) store
        (sym found.at_place_lem.in_j) (sym found.at_place_lem.by_t) next_place)
      where
        its_link : get_row l' p 12 ≡ n
        its_link = rw is_newest (it.linked (omega (arith, store_some p is_IsStore)) newest_early)

        found : IsNewest p
        found = newest_found p is_IsStore is_newest

        next_place : issues ev n (stretch ev p) (thread ev p) ≡ suc (place ev p)
        next_place =
            let its = its_place ev found.at_place_lem in
            rw (found.at_place_lem.in_j, found.at_place_lem.by_t) (omega (arith, its, found.some, found.at_place_lem.at_i))

    -- of every other store: as it was
    link_other :
        (p : ℕ) → p < n → Issue ev p → p ≢ newest
        → get_row l' p 12 ≡ store_at ev (suc n) (stretch ev p) (thread ev p) (suc (place ev p))
    link_other p early is_IsStore other =
        it.other_links p (store_some p is_IsStore) early (λ same. other (sym same))
        ∙ sim.links p early is_IsStore
        ∙ sym
        (store_at_else ev n (stretch ev p) (thread ev p) (suc (place ev p)) (λ is_next. other (is_newest is_next)))
      where
        is_newest : Store ev (suc n) (stretch ev p) (thread ev p) (suc (place ev p)) n → p ≡ newest
        is_newest next =
            let in_j : stretch ev p ≡ j = sym next.in_j in
            let by_t : thread ev p ≡ t = sym next.by_t in
            let count_p : issued ev n t ≡ suc (place ev p) = its_place ev next in
            let place_p : issues ev p j t ≡ place ev p = rw (in_j, by_t) refl in
            sym
            (store_at_of ev n j t (issued ev n t - 1) p
            (record { store = is_IsStore; early = early; in_j = in_j; by_t = by_t; at_i = omega arith }))

    pub links_next : Links ev (suc n) l'
    links_next p below is_IsStore = by_store (same? p n) (same? p newest)
      where
        by_store :
            (p ≡ n) ⊎ (p ≢ n) → (p ≡ newest) ⊎ (p ≢ newest)
            → get_row l' p 12 ≡ store_at ev (suc n) (stretch ev p) (thread ev p) (suc (place ev p))
        by_store (inl own) either = rw own link_new
        by_store (inr differs) (inl is_newest) = link_newest p (omega arith) is_IsStore is_newest
        by_store (inr differs) (inr other) = link_other p (omega arith) is_IsStore other

  -- ---- the table of newest stores, where the store is noted for its location and thread

  pub newest_next :
      (tables' : List ℕ) → get_or tables' (newest_cell x t) 0 ≡ n
      → ((i : ℕ) → 704 ≤ i → i < 2752 → newest_cell x t ≢ i → get_or tables' i 0 ≡ get_or tables i 0)
      → Newest ev (suc n) tables'
  newest_next tables' noted leaves y u few_y few_u = by_place (same? x y) (same? t u)
    where
      stays :
          (location ev n ≡ y → thread ev n ≡ u → ⊥) → get_or tables' (newest_cell y u) 0 ≡ newest_at ev (suc n) y u
      stays other =
          leaves (newest_cell y u) (omega arith) (omega arith)
          (λ same. other (omega (arith, few)) (omega (arith, few)))
          ∙ sim.newest_are y u few_y few_u ∙ sym (newest_away ev n y u (λ _ same_x same_t. other same_x same_t))

      by_place :
          (x ≡ y) ⊎ (x ≢ y) → (t ≡ u) ⊎ (t ≢ u) → get_or tables' (newest_cell y u) 0 ≡ newest_at ev (suc n) y u
      by_place (inl same_x) (inl same_t) = rw (← same_x, ← same_t) (noted ∙ sym (newest_here ev n store))
      by_place (inl same_x) (inr other) = stays (λ _ same. other same)
      by_place (inr other) either = stays (λ same _. other same)

  -- ---- the row as it is written, with tables in which the thread's state is as it was

  abbrev row : ℕ
  row = w.state.row

  pub issue_counted : up (thread_of tables t).issued ≡ issued ev (suc n) t
  issue_counted =
      counted_up ev n no_crash (issue? ev) (thread_of tables t).issued sim.limits store.test
      (sim.queues t few).issued_is

  begins : row + 16 ≡ 16 * n
  begins = sim.numbers.row_is

  n_small : n ≤ 2048
  n_small = in_time ev n sim.limits passes

  pub stored :
      (tables₁ l₁ : List ℕ) → thread_of tables₁ t ≡ thread_of tables t → length l₁ ≡ length l
      → Stored n newest t (suc (issued ev n t)) x j (λ u. of_thread tables₁ t u) l₁
      (issued_work tables₁ l₁ row t x w.state.stretch)
  unfolding issued_work
  stored tables₁ l₁ same_thread same_size =
      let old = thread_of tables t in
      let g_is = (sim.queues t few).newest_is in
      let c_is = issue_counted ∙ live_here ev (issue? ev) n no_crash store.test in
      rw (same_thread, ← g_is, ← c_is, ← sim.numbers.stretch_is)
      (stored_is row n begins n_small tables₁ t (up old.issued) few x w.state.stretch old.newest l₁
      (rw same_size sim.rows.room) (omega (arith, newest_early, g_is, n_small)))

  -- ---- the step of kind 2, which is no commit, no load and no skip

  module _ (kind_is : kind ev n ≡ 2) where
    abbrev old : Thread
    old = thread_of tables t

    no_commit : commit? ev n ≡ false
    no_commit = rw kind_is refl

    no_load : load? ev n ≡ false
    no_load = rw kind_is refl

    no_wait : wait? ev n ≡ false
    no_wait = rw kind_is refl

    queue_next : Queue ev (suc n) t (issued_t old n)
    unfolding issued_t
    queue_next =
        let queue = sim.queues t few in
        let no_commit_here = spares ev n (commit? ev) no_commit t in
        let below = commits_below_issues ev n sim.limits.accepted n j t (omega arith) in
        record {
          issued_is = issue_counted;
          committed_is = committed_stays ev n no_crash t old queue no_commit_here;
          skip_is =
              skip_stays ev n no_crash t old queue (spares ev n (skip_on? ev) (rw kind_is refl) t)
              (spares ev n (skip_off? ev) (rw kind_is refl) t);
          oldest_is =
              rw (live_away ev (commit? ev) n t no_crash no_commit_here, place_now (done ev n t) below)
              (ap (λ (p : ℕ). first_of p n) queue.oldest_is);
          newest_is = newest_now;
        }

    pub issue_next : Sim ev (suc n) (issue_w w t x)
    unfolding issue_w issued_work
    issue_next =
        let at_n = event_is row n begins n_small in
        let tables' = issued_tables tables row t x in
        let replaced = issued_replaced tables t few sim.size row x small in
        let beyond = issued_beyond tables t few sim.size row x small in
        let seen_next = seen_keep ev n tables tables no_crash no_load no_wait (λ _ _ _ _ _. refl) sim.seen_are in
        record {
          numbers = numbers_next ev n w.state sim.numbers no_crash;
          limits = limits_next ev n sim.limits passes;
          size = replaced.size ∙ sim.size;
          queues =
              queues_with ev n tables tables' no_crash replaced.others (rw (replaced.own, at_n) queue_next)
              sim.queues;
          seen_are = seen_keep ev n tables tables' no_crash no_load no_wait replaced.seen_same sim.seen_are;
          newest_are =
              newest_next tables' (issued_newest tables t few sim.size row x small ∙ at_n)
              (λ i low high. beyond i (omega arith));
          commits_are =
              commits_keep ev n tables tables' no_crash
              (λ i low high. beyond i (omega arith) (λ same. omega arith)) sim.commits_are;
          sources =
              sources_keep ev n tables tables' (λ i low high. beyond i (omega arith) (λ same. omega arith))
              sim.sources;
          chains =
              chains_keep ev n tables tables' l _ sim.limits no_commit
              (λ q k _ _. written_beside row n begins n_small tables t _ few x _ _ l q k)
              (λ i low high. beyond i low (λ same. omega arith))
              (λ i low high. beyond i (omega arith) (λ same. omega (arith, few, small))) sim.chains;
          rows = rows_next (λ u. of_thread tables t u) (λ u. seen_next t u few) _ (stored tables l refl refl);
          links = links_next (λ u. of_thread tables t u) (λ u. seen_next t u few) _ (stored tables l refl refl);
          regions =
              regions_keep ev n tables tables' l _ sim.limits no_crash no_load (rw kind_is refl) (rw kind_is refl)
              replaced.regions_same
              (λ e k from_one early _. written_rows row n begins n_small tables t _ few x _ _ l e k from_one early)
              sim.regions;
        }
