-- How the parts of `Sim` pass from event n to the next where the event does not concern them: the definitions stay, and
-- so do the numbers that hold them. Each law asks only that the event does not play the roles that the part depends on.
-- In order: limits and numbers; threads; the tables of locations and of finished stretches; rows, links and chains.
use mathlib.Core.Path.{◌≡◌, refl, sym, ap, ◌∙◌}
use mathlib.Core.Bool.{Bool, true, false, cond}
use mathlib.Core.List.{List, [], ◌∷◌}
use mathlib.Core.Logic.{◌⊎◌, inl, inr, ◌≢◌}
use Prim.Native.Nat.{ℕ, zero, suc, ◌+◌, ◌-◌, ◌*◌, ◌≤◌, ◌<◌}
use native.Mathlib.Omega.{arith}
use borrow.Author.Tests.{ltb-true}
use lib.Dec.{ltb}
use lib.ListN.{length}
use Rattle.record.specs.declared.events.Event.{Event}
use Rattle.model.specs.Trace.{thread, location, has_thread?, has_location?, issue?, commit?, load?, crash?, skip_on?}
use Rattle.model.specs.Trace.{skip_off?, signal?, wait?, Issue, Signal, stretch, commits, place}
use Rattle.model.specs.Machine.{committed, skipping}
use Rattle.model.specs.Rules.{refusal, Accepted}
use Rattle.model.specs.Choice.{finished}
use Rattle.model.specs.Stores.{store_at, lands_at, landed}
use Rattle.model.proofs.Searching.{false_true, same?, test, parts}
use Rattle.model.proofs.Counting.{stretch_else}
use Rattle.model.proofs.Acceptance.{event_bound, store_not_0, signal_not_0}
use Rattle.model.proofs.Limits.{accepted_next, few_threads, few_locations, few_crashes}
use Rattle.model.proofs.Ranges.{thread_bound, location_bound}
use Rattle.model.proofs.StorePlaces.{count_most, committed_store}
use Rattle.model.proofs.Unchanged.{count_away, live, live_away, live_here, store_at_away, skipping_away, newest_away}
use Rattle.model.proofs.ClockSteps.{meets_none}
use Rattle.model.proofs.Unchanged.{seen_away, landed_away}
use Rattle.area.specs.Cells.{get_row, up}
use Rattle.area.specs.Rows.{StoreRow, SignalRow, Rows}
use Rattle.area.proofs.Chains.{Kept, linked_kept, falls_kept, falls_less}
use Rattle.area.proofs.ReadBack.{up_is}
use Rattle.machine.specs.declared.threads.Thread.{Thread}
use Rattle.machine.specs.Tables.{last_cell, source_cell, commits_cell, newest_cell, stretch_cell}
use Rattle.machine.specs.Threads.{skipped_t, thread_of}
use Rattle.machine.specs.Twin.{State, ticked}
use Rattle.machine.specs.Sim.{issued, done, Numbers, Limits, Queue, Queues, Seen, Newest, Commits, PastAt}
use Rattle.machine.specs.Sim.{Sources, Chains, Links}
use Rattle.machine.proofs.Storing.{Same}
use Rattle.machine.proofs.TableLaws.{thread_same}
use Rattle.machine.proofs.RowLaws.{NoStore}

-- the stores of the list are events 1 to n - 1
abbrev pub Early : ℕ → List ℕ → Type 0
Early n [] = Unit
Early n (q ∷ qs) = ((1 ≤ q) × (q < n)) × Early n qs

-- what an event commits comes no later than it
pub landed_early : (ev : ℕ → Event) (n : ℕ) → Accepted ev n → (m x : ℕ) → m ≤ n → Early n (landed ev m x)
unfolding landed
landed_early ev n accepted zero x within = tt
landed_early ev n accepted (suc m) x within =
    by_landing (test (lands_at ev x m)) (landed_early ev n accepted m x (omega arith))
  where
    by_landing :
        (lands_at ev x m ≡ true) ⊎ (lands_at ev x m ≡ false) → Early n (landed ev m x)
        → Early n (cond (lands_at ev x m) (committed ev m ∷ landed ev m x) (landed ev m x))
    by_landing (inr elsewhere) earlier = rw elsewhere earlier
    by_landing (inl lands) earlier =
        let it = committed_store ev n m accepted within (record { test = (parts (commit? ev m) _ lands).0 }) in
        let some : committed ev m ≢ 0 = store_not_0 ev n accepted (omega arith) it.store in
        rw lands ((omega arith, omega (arith, it.early)), earlier)

-- earlier rows hold what they held behind column 12
abbrev pub BehindStays : ℕ → List ℕ → List ℕ → Type 0
BehindStays n l l' = (q k : ℕ) → 1 ≤ q → q < n → 13 ≤ k → k < 16 → get_row l' q k ≡ get_row l q k

early_kept : (n : ℕ) (l l' : List ℕ) → BehindStays n l l' → (ps : List ℕ) → Early n ps → Kept l l' ps
early_kept n l l' same [] early = tt
early_kept n l l' same (p ∷ ps) early =
    let column : (k : ℕ) → 13 ≤ k → k < 16 → get_row l' p k ≡ get_row l p k =
    λ k. same p k early.0.0 early.0.1
    in (
      (column 13 (omega arith) (omega arith), column 14 (omega arith) (omega arith)),
      early_kept n l l' same ps early.1,
    )

module _ (ev : ℕ → Event) (n : ℕ) where
  -- ---- limits and numbers

  pub limits_next : Limits ev n → refusal ev n ≡ 0 → Limits ev (suc n)
  limits_next limits passes =
      let accepted = accepted_next ev n limits.accepted passes in
      record {
        accepted = accepted;
        begun = omega arith;
        few_threads = few_threads ev (suc n) accepted (omega arith);
        few_locations = few_locations ev (suc n) accepted (omega arith);
        few_events = omega (arith, event_bound ev (suc n) accepted n (omega arith));
        few_crashes = few_crashes ev (suc n) accepted (suc n) (omega arith);
      }

  -- an event that passes is at most the 2,048th
  pub in_time : Limits ev n → refusal ev n ≡ 0 → n ≤ 2048
  in_time limits passes = omega (arith, (limits_next limits passes).few_events)

  -- the thread and the location of an event that passes
  pub few_own : Limits ev n → refusal ev n ≡ 0 → has_thread? ev n ≡ true → thread ev n < 8
  few_own limits passes = thread_bound ev (suc n) (limits_next limits passes).accepted n (omega arith)

  pub small_own : Limits ev n → refusal ev n ≡ 0 → has_location? ev n ≡ true → location ev n < 256
  small_own limits passes = location_bound ev (suc n) (limits_next limits passes).accepted n (omega arith)

  pub numbers_next : (st : State) → Numbers ev n st → crash? ev n ≡ false → Numbers ev (suc n) (ticked st)
  unfolding ticked
  numbers_next st numbers no_crash = record {
    row_is = omega (arith, numbers.row_is);
    stretch_is = numbers.stretch_is ∙ sym (stretch_else ev n no_crash);
    version_is = numbers.version_is;
    threads_is = numbers.threads_is;
    locations_is = numbers.locations_is;
  }

  -- ---- threads, by the roles: issues, commits and skips each have their own numbers of a thread's state

  -- the event does not play the role for thread t
  abbrev pub Spares : (ℕ → Bool) → ℕ → Type 0
  Spares role t = role n ≡ true → thread ev n ≡ t → ⊥

  pub spares : (role : ℕ → Bool) → role n ≡ false → (t : ℕ) → Spares role t
  spares role never t plays _ = false_true (sym never ∙ plays)

  module _ (no_crash : crash? ev n ≡ false) where
    -- a number that follows a count of the event's own thread and goes up with it
    pub counted_up :
        (role : ℕ → Bool) (c : ℕ) → Limits ev n → role n ≡ true → c ≡ live ev role n (thread ev n)
        → up c ≡ live ev role (suc n) (thread ev n)
    counted_up role c limits plays c_is =
        let most = count_most ev role n (stretch ev n) (thread ev n) in
        up_is c (omega (arith, limits.few_events)) ∙ ap suc c_is ∙ sym (live_here ev role n no_crash plays)

    module _ (t : ℕ) where
      pub place_stays :
          Spares (issue? ev) t → (i : ℕ)
          → store_at ev (suc n) (stretch ev (suc n)) t i ≡ store_at ev n (stretch ev n) t i
      place_stays no_issue i =
          rw (stretch_else ev n no_crash)
          (store_at_away ev n (stretch ev n) t i (λ store same. no_issue store.test same))

      module _ (s : Thread) (queue : Queue ev n t s) where
        pub issued_stays : Spares (issue? ev) t → s.issued ≡ issued ev (suc n) t
        issued_stays no_issue = queue.issued_is ∙ sym (live_away ev (issue? ev) n t no_crash no_issue)

        pub newest_stays :
            Spares (issue? ev) t → s.newest ≡ store_at ev (suc n) (stretch ev (suc n)) t (issued ev (suc n) t - 1)
        newest_stays no_issue =
            rw (live_away ev (issue? ev) n t no_crash no_issue, place_stays no_issue (issued ev n t - 1))
            queue.newest_is

        pub committed_stays : Spares (commit? ev) t → s.committed ≡ done ev (suc n) t
        committed_stays no_commit = queue.committed_is ∙ sym (live_away ev (commit? ev) n t no_crash no_commit)

        pub skip_stays : Spares (skip_on? ev) t → Spares (skip_off? ev) t → s.skip ≡ skipping ev (suc n) t
        skip_stays no_on no_off = queue.skip_is ∙ sym (skipping_away ev n t no_crash no_on no_off)

        -- an event that is at most a skip on or off of the thread
        pub queue_skip :
            (on : Bool) → Spares (issue? ev) t → Spares (commit? ev) t → on ≡ skipping ev (suc n) t
            → Queue ev (suc n) t (skipped_t s on)
        unfolding skipped_t
        queue_skip on no_issue no_commit on_is = record {
          issued_is = issued_stays no_issue;
          committed_is = committed_stays no_commit;
          skip_is = on_is;
          oldest_is =
              rw (live_away ev (commit? ev) n t no_crash no_commit, place_stays no_issue (done ev n t))
              queue.oldest_is;
          newest_is = newest_stays no_issue;
        }

        -- an event that is nothing of these
        pub queue_keep :
            Spares (issue? ev) t → Spares (commit? ev) t → Spares (skip_on? ev) t → Spares (skip_off? ev) t
            → Queue ev (suc n) t s
        unfolding skipped_t
        queue_keep no_issue no_commit no_on no_off =
            queue_skip s.skip no_issue no_commit (skip_stays no_on no_off)

  module _ (tables tables' : List ℕ) (no_crash : crash? ev n ≡ false) where
    -- no thread's state changed, by an event that is neither an issue, a commit nor a skip
    pub queues_keep :
        issue? ev n ≡ false → commit? ev n ≡ false → skip_on? ev n ≡ false → skip_off? ev n ≡ false
        → ((t : ℕ) → t < 8 → Same (16 * t + 8) (16 * t + 13) tables tables') → Queues ev n tables
        → Queues ev (suc n) tables'
    queues_keep no_issue no_commit no_on no_off same queues t few =
        rw (thread_same tables tables' t (same t few))
        (queue_keep no_crash t (thread_of tables t) (queues t few) (spares (issue? ev) no_issue t)
        (spares (commit? ev) no_commit t) (spares (skip_on? ev) no_on t) (spares (skip_off? ev) no_off t))

    -- at most the state of the event's own thread changed
    pub queues_with :
        ((t : ℕ) → t < 8 → thread ev n ≢ t → Same (16 * t + 8) (16 * t + 13) tables tables')
        → Queue ev (suc n) (thread ev n) (thread_of tables' (thread ev n)) → Queues ev n tables
        → Queues ev (suc n) tables'
    queues_with same own queues t few = own_or_other (same? (thread ev n) t)
      where
        own_or_other : (thread ev n ≡ t) ⊎ (thread ev n ≢ t) → Queue ev (suc n) t (thread_of tables' t)
        own_or_other (inl is_own) = rw (← is_own) own
        own_or_other (inr other) =
            rw (thread_same tables tables' t (same t few other))
            (queue_keep no_crash t (thread_of tables t) (queues t few) (λ _. other) (λ _. other) (λ _. other)
            (λ _. other))

    -- an event that is no load, no wait and no crash leaves what the threads have seen
    pub seen_keep :
        load? ev n ≡ false → wait? ev n ≡ false → ((t : ℕ) → t < 8 → Same (16 * t) (16 * t + 8) tables tables')
        → Seen ev n tables → Seen ev (suc n) tables'
    seen_keep no_load no_wait same seen_are t u few_t few_u =
        same t few_t (16 * t + u) (omega arith) (omega arith) ∙ seen_are t u few_t few_u
        ∙ sym (seen_away ev n t u no_crash (λ meets _. meets_none ev no_load no_wait meets))

    -- an event that is no crash finishes no stretch
    pub commits_keep : Same 640 704 tables tables' → Commits ev n tables → Commits ev (suc n) tables'
    unfolding finished
    commits_keep same commits_are j t from_one to_seven few =
        same (commits_cell j t) (omega arith) (omega arith) ∙ commits_are j t from_one to_seven few
        ∙ rw (stretch_else ev n no_crash) (by_test (ltb j (stretch ev n)) refl)
      where
        by_test :
            (past : Bool) → ltb j (stretch ev n) ≡ past
            → cond past (commits ev n j t) 0 ≡ cond past (commits ev (suc n) j t) 0
        by_test true past =
            sym (count_away ev (commit? ev) n j t (λ _ in_j _. omega (arith, ltb-true j (stretch ev n) past)))
        by_test false _ = refl

  -- ---- locations

  -- whatever the event is
  pub past_keep : (x s : ℕ) → PastAt ev n x s → PastAt ev (suc n) x s
  past_keep x s past = record {
    load = past.load;
    early = omega (arith, past.early);
    at_x = past.at_x;
    is_past = past.is_past;
  }

  module _ (tables tables' : List ℕ) where
    pub newest_keep :
        issue? ev n ≡ false → Same 704 2752 tables tables' → Newest ev n tables → Newest ev (suc n) tables'
    newest_keep no_issue same newest_are x t few_x few_t =
        same (newest_cell x t) (omega arith) (omega arith) ∙ newest_are x t few_x few_t
        ∙ sym (newest_away ev n x t (λ store _ _. false_true (sym no_issue ∙ store.test)))

    pub sources_keep : Same 384 640 tables tables' → Sources ev n tables → Sources ev (suc n) tables'
    sources_keep same sources x few =
        rw (same (source_cell x) (omega arith) (omega arith)) (λ some. past_keep x _ (sources x few some))

    -- an event that is no commit
    pub chains_keep :
        (l l' : List ℕ) → Limits ev n → commit? ev n ≡ false
        → BehindStays n l l' → Same 128 384 tables tables' → Same 2752 3008 tables tables' → Chains ev n tables l
        → Chains ev (suc n) tables' l'
    chains_keep l l' limits no_commit behind heads stretches chains x few =
        let head = heads (last_cell x) (omega arith) (omega arith) in
        let same_list = landed_away ev n x (λ commits _. false_true (sym no_commit ∙ commits.test)) in
        let kept =
        early_kept n l l' behind (landed ev n x) (landed_early ev n limits.accepted n x (omega arith))
        in
        record {
          links = rw (same_list, head) (linked_kept l l' _ (landed ev n x) kept (chains x few).links);
          falls =
              rw same_list
              (falls_less l' _ _ (landed ev n x) (omega arith)
              (falls_kept l l' _ (landed ev n x) kept (chains x few).falls));
          stretch_is =
              rw (head, stretches (stretch_cell x) (omega arith) (omega arith)) (chains x few).stretch_is;
        }

  -- ---- rows and links, from the work area l to l'

  module _ (l l' : List ℕ) where
    pub row_same : (p : ℕ) → ((k : ℕ) → k < 11 → get_row l' p k ≡ get_row l p k) → StoreRow ev l p → StoreRow ev l' p
    row_same p same row = record {
      clock_is = λ u few. same u (omega arith) ∙ row.clock_is u few;
      thread_is = same 8 (omega arith) ∙ row.thread_is;
      location_is = same 9 (omega arith) ∙ row.location_is;
      stretch_is = same 10 (omega arith) ∙ row.stretch_is;
    }

    signal_same : (s : ℕ) → ((k : ℕ) → k < 12 → get_row l' s k ≡ get_row l s k) → SignalRow ev l s → SignalRow ev l' s
    signal_same s same row = record {
      clock_is = λ u few. same u (omega arith) ∙ row.clock_is u few;
      stretch_is = same 11 (omega arith) ∙ row.stretch_is;
    }

    -- the rows of earlier events are as they were, and event n has the row of what it is
    pub rows_with :
        Limits ev n → length l' ≡ length l
        → ((p k : ℕ) → 1 ≤ p → p < n → k < 12 → get_row l' p k ≡ get_row l p k)
        → (Issue ev n → StoreRow ev l' n) → (issue? ev n ≡ false → get_row l' n 10 ≡ 0)
        → (Signal ev n → SignalRow ev l' n) → (signal? ev n ≡ false → get_row l' n 11 ≡ 0)
        → Rows ev n l → Rows ev (suc n) l'
    rows_with limits size earlier stores others signals no_signals rows = record {
      room = rw size rows.room;
      stores = λ p below store. store_row p below store (same? p n);
      others = λ p from_one below none. is_no_store p from_one below none (same? p n);
      signals = λ s below signal. signal_row s below signal (same? s n);
      no_signals = λ p from_one below none. no_signal p from_one below none (same? p n);
    }
      where
        store_row : (p : ℕ) → p < suc n → Issue ev p → (p ≡ n) ⊎ (p ≢ n) → StoreRow ev l' p
        store_row p below store (inl is_n) = rw is_n (stores (rw is_n at store))
        store_row p below store (inr differs) =
            let some : p ≢ 0 = store_not_0 ev n limits.accepted limits.begun store in
            row_same p (λ k low. earlier p k (omega arith) (omega arith) (omega arith))
            (rows.stores p (omega arith) store)

        is_no_store : (p : ℕ) → 1 ≤ p → p < suc n → issue? ev p ≡ false → (p ≡ n) ⊎ (p ≢ n) → get_row l' p 10 ≡ 0
        is_no_store p from_one below none (inl is_n) = rw is_n (others (rw is_n at none))
        is_no_store p from_one below none (inr differs) =
            earlier p 10 from_one (omega arith) (omega arith) ∙ rows.others p from_one (omega arith) none

        signal_row : (s : ℕ) → s < suc n → Signal ev s → (s ≡ n) ⊎ (s ≢ n) → SignalRow ev l' s
        signal_row s below signal (inl is_n) = rw is_n (signals (rw is_n at signal))
        signal_row s below signal (inr differs) =
            let some : s ≢ 0 = signal_not_0 ev n limits.accepted limits.begun signal in
            signal_same s (λ k low. earlier s k (omega arith) (omega arith) low)
            (rows.signals s (omega arith) signal)

        no_signal : (p : ℕ) → 1 ≤ p → p < suc n → signal? ev p ≡ false → (p ≡ n) ⊎ (p ≢ n) → get_row l' p 11 ≡ 0
        no_signal p from_one below none (inl is_n) = rw is_n (no_signals (rw is_n at none))
        no_signal p from_one below none (inr differs) =
            earlier p 11 from_one (omega arith) (omega arith) ∙ rows.no_signals p from_one (omega arith) none

    -- an event that is no store leaves the links of stores
    pub links_with :
        Limits ev n → issue? ev n ≡ false → ((p : ℕ) → 1 ≤ p → p < n → get_row l' p 12 ≡ get_row l p 12)
        → Links ev n l → Links ev (suc n) l'
    links_with limits no_issue earlier links p below store = by_equality (same? p n)
      where
        by_equality :
            (p ≡ n) ⊎ (p ≢ n) → get_row l' p 12 ≡ store_at ev (suc n) (stretch ev p) (thread ev p) (suc (place ev p))
        by_equality (inl is_n) = false_true (sym no_issue ∙ (rw is_n at store).test)
        by_equality (inr differs) =
            let some : p ≢ 0 = store_not_0 ev n limits.accepted limits.begun store in
            earlier p (omega arith) (omega arith) ∙ links p (omega arith) store
            ∙ sym
            (store_at_away ev n (stretch ev p) (thread ev p) (suc (place ev p))
            (λ is_IsStore _. false_true (sym no_issue ∙ is_IsStore.test)))

    -- an event that is no store and no signal
    module _
        (limits : Limits ev n) (no_issue : issue? ev n ≡ false) (no_signal : signal? ev n ≡ false)
        (it : NoStore n l l') where
      pub rows_keep : Rows ev n l → Rows ev (suc n) l'
      rows_keep =
          rows_with limits it.size (λ p k from_one early low. it.earlier p k from_one early (omega arith))
          (λ store. false_true (sym no_issue ∙ store.test)) (λ none. it.none)
          (λ signal. false_true (sym no_signal ∙ signal.test)) (λ none. it.no_signal)

      pub links_keep : Links ev n l → Links ev (suc n) l'
      links_keep =
          links_with limits no_issue (λ p from_one early. it.earlier p 12 from_one early (omega arith))
