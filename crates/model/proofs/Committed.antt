-- In an accepted trace, whatever happens before a committed store is committed, and earlier in commit order: at the
-- store's commit all that its thread issued before it is committed, and so is what its thread loaded from, since a load
-- from another thread's store of its stretch reads one whose commit comes before the load. What was handed over to its
-- thread is committed at the signal already, since a signal finds its thread's queue empty.
-- In order: the commit of a store; in an accepted trace, commits never pass issues, so that no store's commit comes
-- before it; what happens before an event whose thread's earlier stores are committed (`settled`), by one recursion
-- over happens-before; the theorem `before_committed`.
use Prim.Native.Nat.{ℕ, zero, suc, ◌≤◌, ◌<◌}
use native.Mathlib.Omega.{arith}
use mathlib.Core.Path.{◌≡◌, refl, sym, ◌∙◌}
use mathlib.Core.Bool.{Bool, true, false, ◌&&◌}
use mathlib.Core.Logic.{◌⊎◌, inl, inr, ◌≢◌}
use lib.Dec.{eqb}
use borrow.Author.Tests.{eqb-true, eqb-false, eq-eqb, not-true, not-false}
use Rattle.record.specs.declared.events.Event.{Event}
use Rattle.model.specs.Trace.{thread, source, issue?, commit?, Issue, Commit, Signal}
use Rattle.model.specs.Trace.{stretch, count, issues, commits, place}
use Rattle.model.specs.Machine.{commits_before, queued, commits_it, commit_of}
use Rattle.model.specs.HappensBefore.{Precedes, own, read, handed, chain, Before}
use Rattle.model.specs.Rules.{Accepted}
use Rattle.model.proofs.Searching.{test, less?, both, parts, or_cases, last_of}
use Rattle.model.proofs.Counting.{count_it, count_mono, count_lt, AtPlace, at_place_lem, place_unique}
use Rattle.model.proofs.Acceptance.{store_not_0, commit_queued, drained_empty, source_from}
use Rattle.model.proofs.Acceptance.{From, from_own, from_commit, from_past}
use Rattle.model.proofs.Roles.{signal_drains}
use Rattle.model.proofs.Ordering.{precedes_lt}

module _ (ev : ℕ → Event) where
  module _ (N : ℕ) where
    -- store p has a commit among the first N events
    abbrev pub Committed : ℕ → Type 0
    Committed p = place ev p < commits ev N (stretch ev p) (thread ev p)

    -- ---- the commit of a store

    -- event e, among the first N, is the commit that makes store p take effect
    pub record CommitOf (p e : ℕ) : Type 0 where
      pub inside : e < N
      pub commits_it_lem : Commit ev e
      pub in_stretch : stretch ev e ≡ stretch ev p
      pub by_thread : thread ev e ≡ thread ev p
      pub at_place_lem : commits_before ev e ≡ place ev p

    commit_of→ : (p e : ℕ) → e < N → commits_it ev p e ≡ true → CommitOf p e
    commit_of→ p e inside passes =
        let in_stretch = commit? ev e && eqb (stretch ev e) (stretch ev p) in
        let outer = parts (in_stretch && eqb (thread ev e) (thread ev p)) _ passes in
        let middle = parts in_stretch _ outer.0 in
        let inner = parts (commit? ev e) _ middle.0 in
        record {
          inside = inside;
          commits_it_lem = record { test = inner.0 };
          in_stretch = eqb-true _ _ inner.1;
          by_thread = eqb-true _ _ middle.1;
          at_place_lem = eqb-true _ _ outer.1;
        }

    →commit_of : (p e : ℕ) → CommitOf p e → commits_it ev p e ≡ true
    →commit_of p e it = both _ _ (both _ _ in_stretch (eq-eqb _ _ it.by_thread)) (eq-eqb _ _ it.at_place_lem)
      where
        in_stretch : (commit? ev e && eqb (stretch ev e) (stretch ev p)) ≡ true
        in_stretch = both _ _ it.commits_it_lem.test (eq-eqb _ _ it.in_stretch)

    -- a store has one commit
    pub is_commit_of : (p e : ℕ) → CommitOf p e → commit_of ev N p ≡ e
    unfolding commit_of
    is_commit_of p e it = last_of N (commits_it ev p) e it.inside (→commit_of p e it) not_later
      where
        only : (other : ℕ) → CommitOf p other → other ≡ e
        only other also =
            place_unique ev (commit? ev) other e also.commits_it_lem.test it.commits_it_lem.test
            (also.in_stretch ∙ sym it.in_stretch) (also.by_thread ∙ sym it.by_thread)
            (also.at_place_lem ∙ sym it.at_place_lem)

        not_later : (other : ℕ) → other < N → commits_it ev p other ≡ true → other ≤ e
        not_later other inside passes = omega (arith, only other (commit_of→ p other inside passes))

    pub commit_of_lem : (p : ℕ) → Committed p → CommitOf p (commit_of ev N p)
    commit_of_lem p committed = rw (is_commit_of p found.p is_it) is_it
      where
        found : AtPlace ev (commit? ev) N (stretch ev p) (thread ev p) (place ev p)
        found = at_place_lem ev (commit? ev) N (stretch ev p) (thread ev p) (place ev p) committed

        is_it : CommitOf p found.p
        is_it = record {
          inside = found.early;
          commits_it_lem = record { test = found.passes };
          in_stretch = found.in_j;
          by_thread = found.by_t;
          at_place_lem = rw (found.in_j, found.by_t) found.at_i;
        }

    pub has_commit : (p e : ℕ) → CommitOf p e → Committed p
    has_commit p e it =
        let passed : commits_before ev e < commits ev N (stretch ev p) (thread ev p) =
        rw (← it.in_stretch, ← it.by_thread) (count_lt ev (commit? ev) e N it.commits_it_lem.test it.inside)
        in
        omega (arith, it.at_place_lem)

    -- p is committed, and before q
    pub record CommittedBefore (p q : ℕ) : Type 0 where
      pub committed : Committed p
      pub in_order : commit_of ev N p < commit_of ev N q

  module _ (N : ℕ) (accepted : Accepted ev N) where
    -- ---- in an accepted trace, commits never pass issues

    -- with the event's own store, not all stores of a commit's thread are committed
    one_more :
        (n : ℕ) → n < N → Commit ev n → commits_before ev n ≤ issues ev n (stretch ev n) (thread ev n)
        → commits_before ev n < issues ev (suc n) (stretch ev n) (thread ev n)
    one_more n inside commits so_far =
        by_role (or_cases (queued ev n) (issue? ev n) (commit_queued ev N accepted n inside commits))
      where
        by_role :
            (queued ev n ≡ true) ⊎ (issue? ev n ≡ true)
            → commits_before ev n < issues ev (suc n) (stretch ev n) (thread ev n)
        by_role (inl waits) =
            let some_wait : issues ev n (stretch ev n) (thread ev n) ≢ commits_before ev n =
            eqb-false _ _ (not-true _ waits)
            in
            let still = count_mono ev (issue? ev) n (suc n) (stretch ev n) (thread ev n) (omega arith) in
            omega arith
        by_role (inr issues_it) =
            omega (arith, count_it ev (issue? ev) n (stretch ev n) (thread ev n) issues_it refl refl)

    one_more_at :
        (n j t : ℕ) → n < N → Commit ev n → stretch ev n ≡ j → thread ev n ≡ t
        → commits ev n j t ≤ issues ev n j t → commits ev n j t < issues ev (suc n) j t
    one_more_at n j t inside commits in_j by_t so_far =
        rw (in_j, by_t) at (one_more n inside commits (rw (in_j, by_t) so_far))

    pub commits_below_issues : (n j t : ℕ) → n ≤ N → commits ev n j t ≤ issues ev n j t
    unfolding count
    commits_below_issues zero j t within = omega arith
    commits_below_issues (suc n) j t within = by_test (test counts) (commits_below_issues n j t (omega arith))
      where
        counts : Bool
        counts = commit? ev n && eqb (stretch ev n) j && eqb (thread ev n) t

        by_test :
            (counts ≡ true) ⊎ (counts ≡ false) → commits ev n j t ≤ issues ev n j t
            → commits ev (suc n) j t ≤ issues ev (suc n) j t
        by_test (inr fails) earlier = rw fails (omega arith)
        by_test (inl passes) earlier =
            let outer = parts (commit? ev n && eqb (stretch ev n) j) _ passes in
            let inner = parts (commit? ev n) _ outer.0 in
            let in_j : stretch ev n ≡ j = eqb-true _ _ inner.1 in
            let by_t : thread ev n ≡ t = eqb-true _ _ outer.1 in
            rw passes (omega (arith, one_more_at n j t within (record { test = inner.0 }) in_j by_t earlier))

    -- a commit finds a store that is not committed: one that waits, or its own
    pub store_there :
        (n : ℕ) → n < N → Commit ev n → commits_before ev n < issues ev (suc n) (stretch ev n) (thread ev n)
    store_there n inside commits =
        one_more n inside commits (commits_below_issues n (stretch ev n) (thread ev n) (omega arith))

    -- a store's commit is its own event or comes after it
    commit_after_store : (p : ℕ) → Committed N p → p ≤ commit_of ev N p
    commit_after_store p committed = by_order (less? e p)
      where
        e : ℕ
        e = commit_of ev N p

        it : CommitOf N p e
        it = commit_of_lem N p committed

        by_order : (e < p) ⊎ (p ≤ e) → p ≤ e
        by_order (inr after) = after
        by_order (inl sooner) =
            absurd (omega (arith, it.at_place_lem, store_there e it.inside it.commits_it_lem, all_before))
          where
            all_before : issues ev (suc e) (stretch ev e) (thread ev e) ≤ place ev p
            all_before = rw (← it.in_stretch, ← it.by_thread) (count_mono ev (issue? ev) (suc e) p _ _ sooner)

    -- ---- what happens before a committed store

    -- before event m, all that n's thread issued before n in n's stretch is committed
    abbrev Settled : ℕ → ℕ → Type 0
    Settled m n = issues ev n (stretch ev n) (thread ev n) ≤ commits ev m (stretch ev n) (thread ev n)

    -- so it is at a signal, before which no store of its thread waits
    signal_settled : (s : ℕ) → s < N → Signal ev s → Settled s s
    signal_settled s inside signal =
        let empty = drained_empty ev N accepted s inside (signal_drains ev signal) in
        let all : issues ev s (stretch ev s) (thread ev s) ≡ commits_before ev s = eqb-true _ _ (not-false _ empty) in
        omega arith

    -- a store of n's own thread and stretch, issued earlier
    own_settled :
        (p n m : ℕ) → Issue ev p → stretch ev p ≡ stretch ev n → thread ev p ≡ thread ev n → p < n → Settled m n
        → Committed m p
    own_settled p n m store in_stretch by_thread earlier settles =
        let less : place ev p < issues ev n (stretch ev n) (thread ev n) =
        rw (← in_stretch, ← by_thread) (count_lt ev (issue? ev) p n store.test earlier)
        in
        rw (in_stretch, by_thread) (omega (arith, rw (in_stretch, by_thread) at less))

    -- a store that n's thread loaded from, by the load l of its stretch
    load_settled :
        (p n l m : ℕ) → From ev l p → stretch ev p ≡ stretch ev n → thread ev l ≡ thread ev n
        → stretch ev l ≡ stretch ev n → l ≤ n → n ≤ m → Settled m n → Committed m p
    load_settled p n l m (from_own from) same_stretch by_thread in_stretch early within settles =
        let earlier : p < n = omega (arith, from.earlier) in
        own_settled p n m from.own.store same_stretch (from.own.by_thread ∙ by_thread) earlier settles
    load_settled p n l m (from_commit from) same_stretch by_thread in_stretch early within settles =
        has_commit m p from.commit
        (record {
          inside = omega (arith, from.before_load);
          commits_it_lem = from.commits;
          in_stretch = sym from.of_thread_lem.in_stretch;
          by_thread = sym from.of_thread_lem.by_thread;
          at_place_lem = sym from.at_place_lem;
        })
    load_settled p n l m (from_past from) same_stretch by_thread in_stretch early within settles =
        absurd (omega (arith, from.earlier))

    -- then all that precedes n is committed before event m
    settled : {p n : ℕ} → Precedes ev p n → (m : ℕ) → n ≤ m → m < N → Settled m n → Committed m p
    settled (own {p} {n} store in_stretch by_thread earlier) m within inside settles =
        own_settled p n m store in_stretch by_thread earlier settles
    settled (read {p} {n} l store same_stretch loads from_p by_thread in_stretch after early) m within inside settles =
        load_settled p n l m (rw from_p at from) same_stretch by_thread in_stretch early within settles
      where
        from : From ev l (source ev l)
        from =
            source_from ev N accepted l (omega arith) loads
            (rw from_p (store_not_0 ev N accepted (omega arith) store))
    settled (handed {p} s w signal in_stretch before waits from by_thread wait_in_stretch after early) m within inside
        settles =
        let s_inside : s < N = omega arith in
        let by_signal = settled before s (omega arith) s_inside (signal_settled s s_inside signal) in
        omega (arith, count_mono ev (commit? ev) s m (stretch ev p) (thread ev p) (omega arith))
    settled (chain {p} {q} {n} store first second) m within inside settles =
        let q_committed : Committed m q = settled second m within inside settles in
        settled first m (omega (arith, precedes_lt ev second)) inside (omega arith)

    -- a store's commit finds all that its thread issued before it committed
    precedes_committed : {p n : ℕ} → Precedes ev p n → Committed N n → CommittedBefore N p n
    precedes_committed {p} {n} precedes n_committed = record {
      committed = has_commit N p (commit_of ev c p) p_commit;
      in_order = rw (is_commit_of N p (commit_of ev c p) p_commit) found.inside;
    }
      where
        c : ℕ
        c = commit_of ev N n

        it : CommitOf N n c
        it = commit_of_lem N n n_committed

        settles : Settled c n
        settles =
            let all : commits ev c (stretch ev n) (thread ev n) ≡ place ev n =
            rw (it.in_stretch, it.by_thread) at it.at_place_lem
            in
            omega arith

        found : CommitOf c p (commit_of ev c p)
        found = commit_of_lem c p (settled precedes c (commit_after_store n n_committed) it.inside settles)

        p_commit : CommitOf N p (commit_of ev c p)
        p_commit = record {
          inside = omega (arith, found.inside, it.inside);
          commits_it_lem = found.commits_it_lem;
          in_stretch = found.in_stretch;
          by_thread = found.by_thread;
          at_place_lem = found.at_place_lem;
        }

    -- THE THEOREM: whatever happens before a committed store is committed, and earlier in commit order
    pub before_committed : (p q : ℕ) → Before ev p q → Committed N q → CommittedBefore N p q
    before_committed p q before = precedes_committed before.precedes
