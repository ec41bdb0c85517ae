-- What an accepted trace has passed, and what that says of its loads and waits: the list of refusals read backwards,
-- for if the answer of a list of tests is 0, then every test in it failed.
-- In order: the list read backwards, once; what an event has passed (a wait: `wait_signalled`); what a counted load is;
-- where a load's source comes from (`own_source`, `commit_source` and `crossing_source`, by case; `source_from`,
-- `source_early`, `countable_source`).
use Prim.Native.Nat.{ℕ, zero, suc, ◌≤◌, ◌<◌}
use native.Mathlib.Omega.{arith}
use mathlib.Core.Path.{◌≡◌, refl, sym, ◌∙◌}
use mathlib.Core.Bool.{true, false, ◌&&◌, ◌||◌, not}
use mathlib.Core.Logic.{◌⊎◌, inl, inr, ◌≢◌}
use lib.Dec.{eqb, ltb, leb}
use borrow.Author.Tests.{eqb-true, eq-eqb, ne_eqb, ltb-true, ltb-false}
use Rattle.record.specs.declared.events.Event.{Event}
use Rattle.model.specs.Search.{last}
use Rattle.model.specs.Trace.{thread, location, source, is, issue?, commit?, load?, crash?, begin?, drained?}
use Rattle.model.specs.Trace.{skip_on?, skip_off?, signal?, wait?, Issue, Commit, Load, Signal, Wait}
use Rattle.model.specs.Trace.{has_thread?, has_location?, outcome, new?, open?, close?}
use Rattle.model.specs.Trace.{threads, locations, stretch, commits, place}
use Rattle.model.specs.Machine.{beside, commits_before, queued, oldest, committed, waits, waiting, commits_here}
use Rattle.model.specs.Machine.{current, past, source_fits, signalled, crossing, skipping, opened, countable}
use Rattle.model.specs.Rules.{Rules, pass, ◌refuses◌else◌, answer, begin_fits, rules, Accepted}
use Rattle.model.proofs.Searching.{false_true, same?, parts, or_cases, or_fails, not_without, fails_after}
use Rattle.model.proofs.Searching.{last_is}
use Rattle.model.proofs.Counting.{earlier_stretch}
use Rattle.model.proofs.Roles.{one_kind, neither, begin_no_load}

-- ---- the list of refusals, read backwards

-- every test that refuses by a number other than 0 failed
abbrev Passes : Rules → Type 0
Passes pass = Unit
Passes (b refuses zero else r) = Unit
Passes (b refuses suc k else r) = (b ≡ false) × Passes r

passes : (r : Rules) → answer r ≡ 0 → Passes r
unfolding answer
passes pass none = tt
passes (b refuses zero else r) none = tt
passes (true refuses suc k else r) none = absurd (omega arith)
passes (false refuses suc k else r) none = (refl, passes r none)

module _ (ev : ℕ → Event) where
  -- ---- what an event of an accepted trace has passed

  -- the first events of an accepted trace are an accepted trace
  pub prefix : (N n : ℕ) → Accepted ev N → n ≤ N → Accepted ev n
  prefix N n accepted within = record { passes = λ e inside. accepted.passes e (omega arith) }

  -- the tests that it failed, by the numbers of the refusals, in the order of `rules`
  pub record Passed (n : ℕ) : Type 0 where
    pub no_3 : new? ev n ≡ false
    pub no_1 : (eqb n 0 && not (begin? ev n)) ≡ false
    pub no_5 : (ltb 0 n && begin? ev n) ≡ false
    pub no_13 : (ltb 2048 n || crash? ev n && eqb (stretch ev n) 8) ≡ false
    pub no_6 : (begin? ev n && not (begin_fits ev n)) ≡ false
    pub no_7 : (has_thread? ev n && leb (threads ev) (thread ev n)) ≡ false
    pub no_8 : (has_location? ev n && leb (locations ev) (location ev n)) ≡ false
    pub no_11 : (drained? ev n && queued ev n) ≡ false
    pub no_9 : (load? ev n && not (source_fits ev n)) ≡ false
    pub no_10 : (commit? ev n && not (queued ev n || issue? ev n)) ≡ false
    pub no_12 :
        (skip_on? ev n && skipping ev n (thread ev n) || skip_off? ev n && not (skipping ev n (thread ev n))) ≡ false
    pub no_18 : (wait? ev n && not (signalled ev n)) ≡ false
    pub no_19 : (close? ev n && ltb 1 (outcome ev n)) ≡ false
    pub no_12_open :
        (open? ev n && opened ev n (thread ev n) || close? ev n && not (opened ev n (thread ev n))) ≡ false

  -- what the test of a wait's source says
  pub record Signalled (n : ℕ) : Type 0 where
    pub signal : Signal ev (source ev n)
    pub early : source ev n < n
    pub in_stretch : stretch ev (source ev n) ≡ stretch ev n

  module _ (N : ℕ) (accepted : Accepted ev N) where
    pub passed : (n : ℕ) → n < N → Passed n
    unfolding rules
    passed n inside = by_number (passes (rules ev n) (accepted.passes n inside))
      where
        by_number : Passes (rules ev n) → Passed n
        by_number (
          no_3,
          (
            no_1,
            (
              no_5,
              (
                no_13,
                (
                  no_6,
                  (no_7, (no_8, (no_11, (no_9, (no_10, (no_12, (no_18, (no_19, (no_12_open, end))))))))),
                ),
              ),
            ),
          ),
        ) =
            record {
              no_3 = no_3;
              no_1 = no_1;
              no_5 = no_5;
              no_13 = no_13;
              no_6 = no_6;
              no_7 = no_7;
              no_8 = no_8;
              no_11 = no_11;
              no_9 = no_9;
              no_10 = no_10;
              no_12 = no_12;
              no_18 = no_18;
              no_19 = no_19;
              no_12_open = no_12_open;
            }

    -- event 0, if there is any event, is a begin
    module _ (some_event : 0 < N) where
      pub begins : is ev 1 0 ≡ true
      begins = not_without (eqb 0 0) (is ev 1 0) (passed 0 some_event).no_1 refl

      -- so it is no store and no commit: 0, which a search gives that finds none, names neither
      pub first_is_no_store_no_commit : (issue? ev 0 ≡ false) × (commit? ev 0 ≡ false)
      first_is_no_store_no_commit = (
        neither ev 0 1 2 12 (omega arith) (omega arith) begins,
        neither ev 0 1 3 12 (omega arith) (omega arith) begins,
      )

      pub store_not_0 : {p : ℕ} → Issue ev p → p ≢ 0
      store_not_0 store is_0 = false_true (sym first_is_no_store_no_commit.0 ∙ rw is_0 at store.test)

      pub signal_not_0 : {s : ℕ} → Signal ev s → s ≢ 0
      signal_not_0 signal is_0 =
          false_true (sym (one_kind ev 0 1 13 (omega arith) begins) ∙ rw is_0 at signal.test)

    -- "event 2,049" is turned away
    pub event_bound : (n : ℕ) → n < N → n ≤ 2048
    event_bound n inside = ltb-false 2048 n (or_fails (ltb 2048 n) _ (passed n inside).no_13).0

    -- a load's source fits the load rule
    pub fitting : (l : ℕ) → l < N → Load ev l → source_fits ev l ≡ true
    fitting l inside loads = not_without (load? ev l) (source_fits ev l) (passed l inside).no_9 loads.test

    -- a commit's thread has a waiting store, or the event issues one
    pub commit_queued : (n : ℕ) → n < N → Commit ev n → (queued ev n || issue? ev n) ≡ true
    commit_queued n inside commits =
        not_without (commit? ev n) (queued ev n || issue? ev n) (passed n inside).no_10 commits.test

    -- an event that needs an empty queue finds it so
    pub drained_empty : (n : ℕ) → n < N → drained? ev n ≡ true → queued ev n ≡ false
    drained_empty n inside drains = fails_after (drained? ev n) (queued ev n) (passed n inside).no_11 drains

    -- a wait's source is an earlier signal of its stretch
    pub wait_signalled : (n : ℕ) → n < N → Wait ev n → Signalled n
    wait_signalled n inside waits =
        let fits = not_without (wait? ev n) (signalled ev n) (passed n inside).no_18 waits.test in
        let and_stretch = parts (signal? ev (source ev n) && ltb (source ev n) n) _ fits in
        let and_early = parts (signal? ev (source ev n)) _ and_stretch.0 in
        record {
          signal = record { test = and_early.0 };
          early = ltb-true _ _ and_early.1;
          in_stretch = eqb-true _ _ and_stretch.1;
        }

  -- ---- counted loads

  -- a counted load is crossing: neither of the load rule's first two cases gives it a source
  pub record Crosses (l : ℕ) : Type 0 where
    pub loads : Load ev l
    pub none_waits : waiting ev l ≡ 0
    pub none_current : current ev l ≡ 0

  pub countable_crosses : (l : ℕ) → countable ev l ≡ true → Crosses l
  unfolding countable
  countable_crosses l counts =
      let crosses = parts (load? ev l && eqb (waiting ev l) 0) _ (parts (crossing ev l) _ counts).0 in
      let unqueued = parts (load? ev l) _ crosses.0 in
      record {
        loads = record { test = unqueued.0 };
        none_waits = eqb-true (waiting ev l) 0 unqueued.1;
        none_current = eqb-true (current ev l) 0 crosses.1;
      }

  -- ---- where a load's source comes from: the three cases of the load rule

  -- s is a store of e's thread and stretch
  pub record Beside (e s : ℕ) : Type 0 where
    pub store : Issue ev s
    pub in_stretch : stretch ev s ≡ stretch ev e
    pub by_thread : thread ev s ≡ thread ev e

  pub beside_is : (e s : ℕ) → beside ev s e ≡ true → Beside e s
  beside_is e s passes =
      let outer = parts (issue? ev s && eqb (stretch ev s) (stretch ev e)) _ passes in
      let inner = parts (issue? ev s) _ outer.0 in
      record {
        store = record { test = inner.0 };
        in_stretch = eqb-true _ _ inner.1;
        by_thread = eqb-true _ _ outer.1;
      }

  -- "the thread has waiting stores to the location": s is one of them
  pub record FromOwn (l s : ℕ) : Type 0 where
    pub own : Beside l s
    pub to_it : location ev s ≡ location ev l
    pub earlier : s < l

  -- "the stretch has commits to it": a commit made s take effect
  pub record FromCommit (l s : ℕ) : Type 0 where
    pub commit : ℕ
    pub commits : Commit ev commit
    pub before_load : commit < l
    pub earlier : s ≤ commit
    pub in_stretch : stretch ev commit ≡ stretch ev l
    pub of_thread_lem : Beside commit s
    pub to_it : location ev s ≡ location ev l
    pub at_place_lem : place ev s ≡ commits_before ev commit

  -- "a store to that location committed in an earlier stretch"
  pub record FromPast (l s : ℕ) : Type 0 where
    pub store : Issue ev s
    pub to_it : location ev s ≡ location ev l
    pub earlier : stretch ev s < stretch ev l
    pub committed : place ev s < commits ev l (stretch ev s) (thread ev s)

  pub data From (l s : ℕ) : Type 0 where
    from_own : FromOwn l s → From l s
    from_commit : FromCommit l s → From l s
    from_past : FromPast l s → From l s

  pub from_store : {l s : ℕ} → From l s → Issue ev s
  from_store (from_own from) = from.own.store
  from_store (from_commit from) = from.of_thread_lem.store
  from_store (from_past from) = from.store

  pub from_location : {l s : ℕ} → From l s → location ev s ≡ location ev l
  from_location (from_own from) = from.to_it
  from_location (from_commit from) = from.to_it
  from_location (from_past from) = from.to_it

  waiting_is_own : (l : ℕ) → waiting ev l ≢ 0 → FromOwn l (waiting ev l)
  unfolding waiting
  waiting_is_own l some =
      let found = last_is l (waits ev l) some in
      let here = parts (beside ev (waiting ev l) l && eqb (location ev (waiting ev l)) (location ev l)) _ found.1 in
      let at_it = parts (beside ev (waiting ev l) l) _ here.0 in
      record {
        own = beside_is l (waiting ev l) at_it.0;
        to_it = eqb-true _ _ at_it.1;
        earlier = found.0;
      }

  current_is_committed : (l : ℕ) → current ev l ≢ 0 → FromCommit l (current ev l)
  unfolding current committed
  current_is_committed l some =
      let c = last l (commits_here ev l) in
      let found = last_is (suc c) (oldest ev c) some in
      let chosen = last_is l (commits_here ev l) (λ is_0. omega (arith, found.0)) in
      let place_fits_lem = parts (beside ev (current ev l) c) _ found.1 in
      let here = parts (commit? ev c && eqb (stretch ev c) (stretch ev l)) _ chosen.1 in
      let commit_here = parts (commit? ev c) _ here.0 in
      record {
        commit = c;
        commits = record { test = commit_here.0 };
        before_load = chosen.0;
        earlier = omega (arith, found.0);
        in_stretch = eqb-true _ _ commit_here.1;
        of_thread_lem = beside_is c (current ev l) place_fits_lem.0;
        to_it = eqb-true _ _ here.1;
        at_place_lem = eqb-true _ _ place_fits_lem.1;
      }

  pub past_is : (l s : ℕ) → past ev l s ≡ true → FromPast l s
  past_is l s passes =
      let to_it = issue? ev s && eqb (location ev s) (location ev l) in
      let outer = parts (to_it && ltb (stretch ev s) (stretch ev l)) _ passes in
      let middle = parts to_it _ outer.0 in
      let inner = parts (issue? ev s) _ middle.0 in
      record {
        store = record { test = inner.0 };
        to_it = eqb-true _ _ inner.1;
        earlier = ltb-true _ _ middle.1;
        committed = ltb-true _ _ outer.1;
      }

  -- the load rule's first case, its second, and its third
  pub own_source : (l : ℕ) → source_fits ev l ≡ true → waiting ev l ≢ 0 → FromOwn l (source ev l)
  unfolding source_fits
  own_source l fits waits =
      let is_it : source ev l ≡ waiting ev l = eqb-true _ _ (rw (ne_eqb (waiting ev l) 0 waits) at fits) in
      rw is_it (waiting_is_own l waits)

  pub commit_source :
      (l : ℕ) → source_fits ev l ≡ true → waiting ev l ≡ 0 → current ev l ≢ 0 → FromCommit l (source ev l)
  unfolding source_fits
  commit_source l fits none_waits commits =
      let is_it : source ev l ≡ current ev l =
      eqb-true _ _ (rw (eq-eqb (waiting ev l) 0 none_waits, ne_eqb (current ev l) 0 commits) at fits)
      in
      rw is_it (current_is_committed l commits)

  pub crossing_source :
      (l : ℕ) → source_fits ev l ≡ true → waiting ev l ≡ 0 → current ev l ≡ 0 → source ev l ≢ 0
      → FromPast l (source ev l)
  unfolding source_fits
  crossing_source l fits none_waits none_current some =
      by_case (or_cases (eqb (source ev l) 0) (past ev l (source ev l)) third)
    where
      third : (eqb (source ev l) 0 || past ev l (source ev l)) ≡ true
      third = rw (eq-eqb (waiting ev l) 0 none_waits, eq-eqb (current ev l) 0 none_current) at fits

      by_case : (eqb (source ev l) 0 ≡ true) ⊎ (past ev l (source ev l) ≡ true) → FromPast l (source ev l)
      by_case (inl is_0) = absurd (some (eqb-true (source ev l) 0 is_0))
      by_case (inr is_past) = past_is l (source ev l) is_past

  module _ (N : ℕ) (accepted : Accepted ev N) where
    -- the source of a load, if it is a store
    pub source_from : (l : ℕ) → l < N → Load ev l → source ev l ≢ 0 → From l (source ev l)
    source_from l inside loads some = by_case (same? (waiting ev l) 0) (same? (current ev l) 0)
      where
        fits : source_fits ev l ≡ true
        fits = fitting N accepted l inside loads

        by_case :
            (waiting ev l ≡ 0) ⊎ (waiting ev l ≢ 0) → (current ev l ≡ 0) ⊎ (current ev l ≢ 0) → From l (source ev l)
        by_case (inr waits) either_way = from_own (own_source l fits waits)
        by_case (inl none_waits) (inr commits) = from_commit (commit_source l fits none_waits commits)
        by_case (inl none_waits) (inl none_current) =
            from_past (crossing_source l fits none_waits none_current some)

    -- and it comes before the load, also where one event loads and stores
    pub source_early : (l : ℕ) → l < N → Load ev l → source ev l < l
    source_early l inside loads = by_source (same? (source ev l) 0)
      where
        by_case : From l (source ev l) → source ev l < l
        by_case (from_own from) = omega (arith, from.earlier)
        by_case (from_commit from) = omega (arith, from.earlier, from.before_load)
        by_case (from_past from) = omega (arith, earlier_stretch ev (source ev l) l from.earlier)

        not_first : l ≢ 0
        not_first is_0 =
            let begun = begins N accepted (omega arith) in
            false_true (sym (begin_no_load ev 0 begun) ∙ rw is_0 at loads.test)

        by_source : (source ev l ≡ 0) ⊎ (source ev l ≢ 0) → source ev l < l
        by_source (inl none) = let later = not_first in omega arith
        by_source (inr some) = by_case (source_from l inside loads some)

    -- the source of a counted load, if it is a store
    pub countable_source : (l : ℕ) → l < N → countable ev l ≡ true → source ev l ≢ 0 → FromPast l (source ev l)
    countable_source l inside counts =
        let crosses = countable_crosses l counts in
        let fits = fitting N accepted l inside crosses.loads in
        crossing_source l fits crosses.none_waits crosses.none_current
