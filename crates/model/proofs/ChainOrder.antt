-- What a counted load forbids, in the order of commits: of the committed stores, exactly those that stand in the chain
-- of the load's location before its source. The chain, `landed` of specs/Stores.antt, has the location's committed
-- stores, newest first; a load whose location has no commit in its stretch finds there stores of earlier stretches
-- only.
-- In order: the steps of a chain; a chain by its head; standing before a store in it; the stores of a crossing load's
-- chain; the theorem `forbids_is_passed`; what an event marks, `event_marks`.
use Prim.Native.Nat.{ℕ, zero, suc, ◌≤◌, ◌<◌}
use native.Mathlib.Omega.{arith}
use mathlib.Core.Path.{◌≡◌, refl, sym, ◌∙◌, ap}
use mathlib.Core.Bool.{Bool, true, false, cond, ◌&&◌, ◌||◌, not}
use mathlib.Core.Logic.{◌⊎◌, inl, inr, ◌≢◌}
use mathlib.Core.List.{List, [], ◌∷◌}
use lib.ListN.{length}
use lib.Dec.{eqb}
use borrow.Author.Tests.{eqb-true, eqb-false, eq-eqb, ne_eqb, ltb-true, lt-ltb, not-true}
use Rattle.record.specs.declared.events.Event.{Event}
use Rattle.model.specs.Search.{any, last}
use Rattle.model.specs.Trace.{thread, location, source, commit?, Commit, stretch, count}
use Rattle.model.specs.Machine.{committed, commits_here, current, countable, counting, counts, commit_of}
use Rattle.model.specs.Stores.{head_of, passed, lands_at, landed, committed?, marked?}
use Rattle.model.specs.Rules.{Accepted}
use Rattle.model.specs.Choice.{Newer, Forbids}
use Rattle.model.specs.Verdict.{forbids?}
use Rattle.model.proofs.Searching.{false_true, test, same?, less?, both, parts, or_cases, or_left, or_right}
use Rattle.model.proofs.Searching.{same_test, last_is, any_same, any_and}
use Rattle.model.proofs.StorePlaces.{last_most}
use Rattle.model.proofs.Unchanged.{count_away, Lacks, landed_once}
use Rattle.model.proofs.Counting.{stretch_mono}
use Rattle.model.proofs.CountedLoads.{counts_as_of}
use Rattle.model.proofs.Acceptance.{store_not_0, countable_crosses, countable_source}
use Rattle.model.proofs.Committed.{Committed, CommitOf, commit_of_lem, is_commit_of, has_commit}
use Rattle.model.proofs.Effects.{Effect, effect, effect_is, effect_commit, commit_effect}
use Rattle.model.proofs.Pairs.{forbids→, →forbids}
use Rattle.model.proofs.RulingSteps.{marked_step}

module _ (ev : ℕ → Event) where
  -- ---- the steps of a chain

  pub landed_length : (n x : ℕ) → length (landed ev n x) ≤ n
  unfolding landed
  landed_length zero x = omega arith
  landed_length (suc n) x = by_test (lands_at ev x n) (landed_length n x)
    where
      by_test :
          (b : Bool) → length (landed ev n x) ≤ n
          → length (cond b (committed ev n ∷ landed ev n x) (landed ev n x)) ≤ suc n
      by_test true earlier = omega arith
      by_test false earlier = omega arith

  -- ---- a chain by its head: a store is committed once, so the chain is the same while its head is

  not_its_head : (p : ℕ) (ps : List ℕ) → p ≢ 0 → Lacks ev p ps → head_of ps ≢ p
  not_its_head p [] some lacks is_p = some (sym is_p)
  not_its_head p (q ∷ qs) some lacks is_p = lacks.0 is_p

  pub same_chain :
      (N m n x : ℕ) → Accepted ev N → m ≤ n → n ≤ N → head_of (landed ev m x) ≡ head_of (landed ev n x)
      → landed ev m x ≡ landed ev n x
  unfolding landed
  same_chain N m zero x accepted early within same =
      let none : m ≡ 0 = omega arith in ap (λ (k : ℕ). landed ev k x) none
  same_chain N m (suc n) x accepted early within same =
      by_event (same? m (suc n)) (test (lands_at ev x n)) (same_chain N m n x accepted) same
    where
      -- the store that event n commits is not in the earlier chain
      new_head : m ≤ n → lands_at ev x n ≡ true → head_of (landed ev m x) ≢ committed ev n
      new_head before lands =
          let commits : Commit ev n = record { test = (parts (commit? ev n) _ lands).0 } in
          let store = (effect ev N n accepted (omega arith) commits).own.store in
          not_its_head (committed ev n) (landed ev m x) (store_not_0 ev N accepted (omega arith) store)
          (landed_once ev N n accepted (omega arith) commits m x before)

      by_event :
          (m ≡ suc n) ⊎ (m ≢ suc n) → (lands_at ev x n ≡ true) ⊎ (lands_at ev x n ≡ false)
          → (m ≤ n → n ≤ N → head_of (landed ev m x) ≡ head_of (landed ev n x) → landed ev m x ≡ landed ev n x)
          → head_of (landed ev m x) ≡ head_of (landed ev (suc n) x) → landed ev m x ≡ landed ev (suc n) x
      by_event (inl is_it) lands before same = ap (λ (k : ℕ). landed ev k x) is_it
      by_event (inr differs) (inr fails) before same =
          rw fails (before (omega arith) (omega arith) (rw fails at same))
      by_event (inr differs) (inl lands) before same =
          absurd (new_head (omega arith) lands (rw lands at same))

  -- ---- standing before a store in a chain

  -- commit c of store p is at location x, and from then on no commit is of s
  record Passed (n x s p : ℕ) : Type 0 where
    c : ℕ
    early : c < n
    commits : Commit ev c
    effects : Effect ev c p
    there : location ev p ≡ x
    unstopped : (d : ℕ) → c ≤ d → d < n → Commit ev d → committed ev d ≢ s

  module _ (N : ℕ) (accepted : Accepted ev N) where
    -- event n commits no store at x, or one that is not s
    passed_longer :
        (n x s p : ℕ) → Passed n x s p → (Commit ev n → committed ev n ≢ s) → Passed (suc n) x s p
    passed_longer n x s p it not_s = record {
      c = it.c;
      early = omega (arith, it.early);
      commits = it.commits;
      effects = it.effects;
      there = it.there;
      unstopped = λ d after inside commits. by_last d after inside commits (same? d n);
    }
      where
        by_last :
            (d : ℕ) → it.c ≤ d → d < suc n → Commit ev d → (d ≡ n) ⊎ (d ≢ n) → committed ev d ≢ s
        by_last d after inside commits (inl is_n) is_s = not_s (rw is_n at commits) (rw is_n at is_s)
        by_last d after inside commits (inr differs) is_s = it.unstopped d after (omega arith) commits is_s

    -- the last event commits p
    passed_last :
        (n x s p : ℕ) → n < N → Commit ev n → location ev (committed ev n) ≡ x → committed ev n ≡ p
        → committed ev n ≢ s → Passed (suc n) x s p
    passed_last n x s p inside commits at_x is_p not_s = record {
      c = n;
      early = omega arith;
      commits = commits;
      effects = rw is_p at (effect ev N n accepted inside commits);
      there = rw is_p at at_x;
      unstopped = λ d after before also is_s. not_s (rw (only d after before) at is_s);
    }
      where
        only : (d : ℕ) → n ≤ d → d < suc n → d ≡ n
        only d after before = omega arith

    passed→ :
        (n x s p : ℕ) → n ≤ N → (s ≢ 0 → location ev s ≡ x) → passed s p (landed ev n x) ≡ true → Passed n x s p
    unfolding landed passed
    passed→ zero x s p within s_at_x passes = false_true passes
    passed→ (suc n) x s p within s_at_x passes =
        by_test (test (lands_at ev x n)) (passed→ n x s p (omega arith) s_at_x) passes
      where
        not_elsewhere : lands_at ev x n ≡ false → Commit ev n → committed ev n ≢ s
        not_elsewhere fails commits is_s =
            let store = (effect ev N n accepted within commits).own.store in
            let some_store : s ≢ 0 = store_not_0 ev N accepted (omega arith) (rw is_s at store) in
            let at_x : location ev (committed ev n) ≡ x = rw is_s (s_at_x some_store) in
            false_true (sym fails ∙ both _ _ commits.test (eq-eqb _ _ at_x))

        by_head :
            lands_at ev x n ≡ true → committed ev n ≢ s
            → (passed s p (landed ev n x) ≡ true → Passed n x s p)
            → (eqb (committed ev n) p ≡ true) ⊎ (passed s p (landed ev n x) ≡ true) → Passed (suc n) x s p
        by_head lands not_s earlier (inl is_p) =
            let both_hold = parts (commit? ev n) _ lands in
            passed_last n x s p within (record { test = both_hold.0 })
            (eqb-true (location ev (committed ev n)) x both_hold.1) (eqb-true _ _ is_p) not_s
        by_head lands not_s earlier (inr further) = passed_longer n x s p (earlier further) (λ commits. not_s)

        by_test :
            (lands_at ev x n ≡ true) ⊎ (lands_at ev x n ≡ false)
            → (passed s p (landed ev n x) ≡ true → Passed n x s p)
            → passed s p (cond (lands_at ev x n) (committed ev n ∷ landed ev n x) (landed ev n x)) ≡ true
            → Passed (suc n) x s p
        by_test (inr fails) earlier here = passed_longer n x s p (earlier (rw fails at here)) (not_elsewhere fails)
        by_test (inl lands) earlier here =
            let both_hold = parts (not (eqb (committed ev n) s)) _ (rw lands at here) in
            by_head lands (eqb-false _ _ (not-true _ both_hold.0)) earlier
            (or_cases (eqb (committed ev n) p) _ both_hold.1)

    →passed : (n x s p : ℕ) → n ≤ N → Passed n x s p → passed s p (landed ev n x) ≡ true
    unfolding landed passed
    →passed zero x s p within it = absurd (omega (arith, it.early))
    →passed (suc n) x s p within it =
        by_test (test (lands_at ev x n)) (same? it.c n) (→passed n x s p (omega arith))
      where
        before : it.c ≢ n → Passed n x s p
        before differs = record {
          c = it.c;
          early = omega (arith, it.early);
          commits = it.commits;
          effects = it.effects;
          there = it.there;
          unstopped = λ d after inside commits. it.unstopped d after (omega arith) commits;
        }

        at_last : it.c ≡ n → Effect ev n p
        at_last is_n = rw is_n at it.effects

        by_test :
            (lands_at ev x n ≡ true) ⊎ (lands_at ev x n ≡ false) → (it.c ≡ n) ⊎ (it.c ≢ n)
            → (Passed n x s p → passed s p (landed ev n x) ≡ true)
            → passed s p (cond (lands_at ev x n) (committed ev n ∷ landed ev n x) (landed ev n x)) ≡ true
        by_test (inr fails) (inr differs) earlier = rw fails (earlier (before differs))
        by_test (inr fails) (inl is_n) earlier =
            let commits : Commit ev n = rw is_n at it.commits in
            let at_x : location ev (committed ev n) ≡ x = rw (effect_is ev n p (at_last is_n)) it.there in
            false_true (sym fails ∙ both _ _ commits.test (eq-eqb _ _ at_x))
        by_test (inl lands) is_n earlier = rw lands (both (not (eqb (committed ev n) s)) _ before_s (by_last is_n))
          where
            not_s : committed ev n ≢ s
            not_s =
                let commits : Commit ev n = record { test = (parts (commit? ev n) _ lands).0 } in
                it.unstopped n (omega (arith, it.early)) (omega arith) commits

            before_s : not (eqb (committed ev n) s) ≡ true
            before_s = rw (ne_eqb (committed ev n) s not_s)

            by_last :
                (it.c ≡ n) ⊎ (it.c ≢ n) → (eqb (committed ev n) p || passed s p (landed ev n x)) ≡ true
            by_last (inl here) = or_left _ _ (eq-eqb _ _ (effect_is ev n p (at_last here)))
            by_last (inr differs) = or_right (eqb (committed ev n) p) _ (earlier (before differs))

    -- ---- the stores of a crossing load's chain

    -- the load rule's second case fails: no commit of the stretch is at the location
    none_here :
        (n c p : ℕ) → n ≤ N → current ev n ≡ 0 → c < n → Commit ev c → Effect ev c p
        → location ev p ≡ location ev n → stretch ev p ≢ stretch ev n
    unfolding current
    none_here n c p within none inside commits it at_n in_stretch =
        by_equality (same? (last n (commits_here ev n)) 0)
      where
        d : ℕ
        d = last n (commits_here ev n)

        here : commits_here ev n c ≡ true
        here =
            let of_stretch = eq-eqb _ _ (sym it.own.in_stretch ∙ in_stretch) in
            both _ _ (both _ _ commits.test of_stretch)
            (eq-eqb (location ev (committed ev c)) (location ev n) (rw (effect_is ev c p it) at_n))

        -- the last such commit commits a store, and event 0 is none
        by_equality : (d ≡ 0) ⊎ (d ≢ 0) → ⊥
        by_equality (inl is_0) =
            let none_before = last_most n (commits_here ev n) c inside here in
            store_not_0 ev N accepted (omega arith) it.own.store (omega (arith, it.early))
        by_equality (inr some) =
            let found = last_is n (commits_here ev n) some in
            let of_stretch = parts (commit? ev d && eqb (stretch ev d) (stretch ev n)) _ found.1 in
            let d_commits : Commit ev d = record { test = (parts (commit? ev d) _ of_stretch.0).0 } in
            let d_inside : d < N = omega (arith, found.0) in
            store_not_0 ev N accepted (omega arith) (effect ev N d accepted d_inside d_commits).own.store none

    module _ (n : ℕ) (inside : n < N) (counts : countable ev n ≡ true) where
      -- a store of the chain of the load's location is of an earlier stretch
      pub chain_earlier :
          (c p : ℕ) → c < n → Commit ev c → Effect ev c p → location ev p ≡ location ev n
          → stretch ev p < stretch ev n
      chain_earlier c p early commits it at_n =
          let none = (countable_crosses ev n counts).none_current in
          let elsewhere = none_here n c p (omega arith) none early commits it at_n in
          omega (arith, stretch_mono ev p n (omega (arith, it.early)))

      -- the load's source, if it is a store, has a commit
      record SourceCommit : Type 0 where
        d : ℕ
        commit : CommitOf ev n (source ev n) d
        effects : Effect ev d (source ev n)

      source_commit : source ev n ≢ 0 → SourceCommit
      source_commit some =
          let from = countable_source ev N accepted n inside counts some in
          let commit = commit_of_lem ev n (source ev n) from.committed in
          record {
            d = commit_of ev n (source ev n);
            commit = commit;
            effects = commit_effect ev N n _ (source ev n) accepted (omega arith) from.store commit;
          }

      -- ---- what the load forbids

      forbidden_is_passed :
          (p : ℕ) → Forbids ev n p → Committed ev n p → Passed n (location ev n) (source ev n) p
      forbidden_is_passed p forbids committed_p = record {
        c = c;
        early = commit.inside;
        commits = commit.commits_it_lem;
        effects = commit_effect ev N n c p accepted (omega arith) forbids.store commit;
        there = forbids.to_it;
        unstopped = λ d after before commits is_source. not_source d after before commits is_source forbids.newer;
      }
        where
          c : ℕ
          c = commit_of ev n p

          commit : CommitOf ev n p c
          commit = commit_of_lem ev n p committed_p

          not_source :
              (d : ℕ) → c ≤ d → d < n → Commit ev d → committed ev d ≡ source ev n → Newer ev n p → ⊥
          not_source d after before commits is_source newer = by_case newer
            where
              it : Effect ev d (source ev n)
              it = rw is_source at (effect ev N d accepted (omega arith) commits)

              source_number : commit_of ev n (source ev n) ≡ d
              source_number = is_commit_of ev n (source ev n) d (effect_commit ev n d (source ev n) before commits it)

              by_case : Newer ev n p → ⊥
              by_case (inl none) = store_not_0 ev N accepted (omega arith) it.own.store none
              by_case (inr (inl later)) =
                  omega (arith, it.own.in_stretch, commit.in_stretch, stretch_mono ev c d after)
              by_case (inr (inr committed_later)) = omega (arith, source_number, committed_later.1)

      passed_is_newer : (p : ℕ) → Passed n (location ev n) (source ev n) p → Newer ev n p
      passed_is_newer p it = by_source (same? (source ev n) 0)
        where
          commit : CommitOf ev n p it.c
          commit = effect_commit ev n it.c p it.early it.commits it.effects

          by_stretch :
              (s : SourceCommit) → s.d < it.c
              → (stretch ev (source ev n) ≡ stretch ev p) ⊎ (stretch ev (source ev n) ≢ stretch ev p) → Newer ev n p
          by_stretch s sooner (inl same) =
              let source_number = is_commit_of ev n (source ev n) s.d s.commit in
              inr (inr (same, rw (source_number, is_commit_of ev n p it.c commit) sooner))
          by_stretch s sooner (inr differs) =
              let in_order = stretch_mono ev s.d it.c (omega arith) in
              inr (inl (omega (arith, s.commit.in_stretch, commit.in_stretch, in_order)))

          by_order : (s : SourceCommit) → (s.d < it.c) ⊎ (it.c ≤ s.d) → Newer ev n p
          by_order s (inl sooner) =
              by_stretch s sooner (same? (stretch ev (source ev n)) (stretch ev p))
          by_order s (inr later) =
              let is_source = effect_is ev s.d (source ev n) s.effects in
              absurd (it.unstopped s.d later s.commit.inside s.commit.commits_it_lem is_source)

          by_source : (source ev n ≡ 0) ⊎ (source ev n ≢ 0) → Newer ev n p
          by_source (inl none) = inl none
          by_source (inr some) = let s = source_commit some in by_order s (less? s.d it.c)

      -- THE THEOREM: of the committed stores the load forbids those that stand in the chain before its source
      forbids_is_passed :
          (p : ℕ)
          → (forbids? ev n p && committed? ev n p) ≡ passed (source ev n) p (landed ev n (location ev n))
      forbids_is_passed p = same_test _ _ to_passed from_passed
        where
          source_there : source ev n ≢ 0 → location ev (source ev n) ≡ location ev n
          source_there some = (countable_source ev N accepted n inside counts some).to_it

          to_passed :
              (forbids? ev n p && committed? ev n p) ≡ true
              → passed (source ev n) p (landed ev n (location ev n)) ≡ true
          to_passed holds =
              let both_hold = parts (forbids? ev n p) _ holds in
              let forbids = forbids→ ev n p both_hold.0 in
              →passed n (location ev n) (source ev n) p (omega arith)
              (forbidden_is_passed p forbids (ltb-true _ _ both_hold.1))

          from_passed :
              passed (source ev n) p (landed ev n (location ev n)) ≡ true
              → (forbids? ev n p && committed? ev n p) ≡ true
          from_passed passes = both _ _ (→forbids ev n p forbids) (lt-ltb _ _ (has_commit ev n p it.c commit))
            where
              it : Passed n (location ev n) (source ev n) p
              it = passed→ n (location ev n) (source ev n) p (omega arith) source_there passes

              commit : CommitOf ev n p it.c
              commit = effect_commit ev n it.c p it.early it.commits it.effects

              forbids : Forbids ev n p
              forbids = record {
                store = it.effects.own.store;
                to_it = it.there;
                earlier = chain_earlier it.c p it.early it.commits it.effects it.there;
                newer = passed_is_newer p it;
              }

    -- ---- what an event marks

    -- of a stretch that is over, nothing more is committed
    count_over :
        (f : ℕ → Bool) (l n j t : ℕ) → l ≤ n → j < stretch ev l → count ev f n j t ≡ count ev f l j t
    count_over f l zero j t within over = let none : l ≡ 0 = omega arith in rw none refl
    count_over f l (suc n) j t within over = by_last (same? l (suc n)) (count_over f l n j t)
      where
        by_last :
            (l ≡ suc n) ⊎ (l ≢ suc n) → (l ≤ n → j < stretch ev l → count ev f n j t ≡ count ev f l j t)
            → count ev f (suc n) j t ≡ count ev f l j t
        by_last (inl is_it) earlier = rw is_it refl
        by_last (inr differs) earlier =
            let elsewhere : stretch ev n ≢ j = λ same. omega (arith, stretch_mono ev l n (omega arith)) in
            count_away ev f n j t (λ _ same _. elsewhere same) ∙ earlier (omega arith) over

    -- what a load forbids of the stores that are committed later on was committed when it came
    forbids_then :
        (l n p : ℕ) → l ≤ n
        → (forbids? ev l p && committed? ev n p) ≡ (forbids? ev l p && committed? ev l p)
    forbids_then l n p within = by_test (test (forbids? ev l p))
      where
        by_test :
            (forbids? ev l p ≡ true) ⊎ (forbids? ev l p ≡ false)
            → (forbids? ev l p && committed? ev n p) ≡ (forbids? ev l p && committed? ev l p)
        by_test (inr fails) = rw fails refl
        by_test (inl passes) =
            let earlier = (forbids→ ev l p passes).earlier in
            rw (count_over (commit? ev) l n (stretch ev p) (thread ev p) within earlier) refl

    -- so what an event marks is what stands in the chains of the loads that count as of it, before their sources. The
    -- chain of a load is the one that it found
    pub event_marks :
        (n p : ℕ) → n < N
        → (any (λ l. passed (source ev l) p (landed ev l (location ev l))) (counting ev n) || marked? ev n p)
        ≡ marked? ev (suc n) p
    event_marks n p inside =
        rw (
          marked_step ev n p,
          any_and (λ l. forbids? ev l p) (counting ev n) (committed? ev n p),
          any_same (λ l. forbids? ev l p && committed? ev n p)
              (λ l. passed (source ev l) p (landed ev l (location ev l))) (counting ev n) each,
        ) refl
      where
        each :
            (l : ℕ) → counts ev n l ≡ true
            → (forbids? ev l p && committed? ev n p) ≡ passed (source ev l) p (landed ev l (location ev l))
        each l here =
            let it = counts_as_of ev n l here in
            forbids_then l n p it.not_later
            ∙ forbids_is_passed l (omega (arith, it.not_later)) it.is_countable p
