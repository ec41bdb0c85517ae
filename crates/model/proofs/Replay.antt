-- A choice explains a counted load exactly if the memory into which just its stores were replayed holds the load's
-- source: the memory holds the last committed of the location's stores that are in, the observed store is one of them,
-- and the forbidden ones are those that were committed after it.
use Prim.Native.Nat.{ℕ, zero, suc, ◌≤◌, ◌<◌}
use native.Mathlib.Omega.{arith}
use mathlib.Core.Path.{◌≡◌, refl, sym, ap, ◌∙◌}
use mathlib.Core.Bool.{true, false, ◌&&◌}
use mathlib.Core.Logic.{◌⊎◌, inl, inr, ◌≢◌, ◌↔◌}
use lib.Dec.{eqb, ltb}
use borrow.Author.Tests.{eqb-true, eq-eqb, ltb-true, lt-ltb}
use Rattle.record.specs.declared.events.Event.{Event}
use Rattle.model.specs.Trace.{thread, location, source, commit?, Issue, Commit}
use Rattle.model.specs.Trace.{stretch, commits, place}
use Rattle.model.specs.Machine.{committed, commit_of, countable}
use Rattle.model.specs.Rules.{Accepted}
use Rattle.model.specs.Choice.{Choice, In, finished, Closed, Counted, Observes, Forbids, Newer}
use Rattle.model.specs.Choice.{ExplainsLoad, Explains}
use Rattle.model.specs.Memory.{puts?, memory}
use Rattle.model.proofs.Searching.{false_true, test, same?, less?, both, parts}
use Rattle.model.proofs.Counting.{stretch_mono, earlier_stretch}
use Rattle.model.proofs.Acceptance.{countable_source, store_not_0}
use Rattle.model.proofs.CountedLoads.{counted_early, countable_load}
use Rattle.model.proofs.Committed.{Committed, CommitOf, commit_of_lem, is_commit_of}
use Rattle.model.proofs.Effects.{effect, effect_is, effect_commit, commit_effect}

module _ (ev : ℕ → Event) where
  -- ---- what the memory holds

  module _ (c : Choice) (j x : ℕ) where
    -- d is the last of the first n events that puts a store at x, and the memory holds that store
    record LastPut (n d : ℕ) : Type 0 where
      below : d < n
      puts : puts? ev c j x d ≡ true
      latest : (e : ℕ) → e < n → puts? ev c j x e ≡ true → e ≤ d
      holds : memory ev c j n x ≡ committed ev d

    -- none of them puts one, and the memory holds nothing
    record NoPut (n : ℕ) : Type 0 where
      none : (e : ℕ) → e < n → puts? ev c j x e ≡ true → ⊥
      holds : memory ev c j n x ≡ 0

    held : (n : ℕ) → ((d : ℕ) × LastPut n d) ⊎ NoPut n
    unfolding memory
    held zero = inr (record { none = λ e l. absurd (omega arith); holds = refl })
    held (suc n) = by_test (test (puts? ev c j x n)) (held n)
      where
        not_last : puts? ev c j x n ≡ false → (e : ℕ) → e < suc n → puts? ev c j x e ≡ true → e < n
        not_last fails e l puts = by_equality (same? e n)
          where
            by_equality : (e ≡ n) ⊎ (e ≢ n) → e < n
            by_equality (inl is) = false_true (sym fails ∙ rw is at puts)
            by_equality (inr differs) = omega arith

        by_test :
            (puts? ev c j x n ≡ true) ⊎ (puts? ev c j x n ≡ false) → ((d : ℕ) × LastPut n d) ⊎ NoPut n
            → ((d : ℕ) × LastPut (suc n) d) ⊎ NoPut (suc n)
        by_test (inl puts) earlier =
            inl (n, record { below = omega arith; puts = puts; latest = λ e l h. omega arith; holds = rw puts })
        by_test (inr fails) (inl (d, it)) =
            inl (
              d,
              record {
                below = omega (arith, it.below);
                puts = it.puts;
                latest = λ e l h. it.latest e (not_last fails e l h) h;
                holds = rw fails it.holds;
              },
            )
        by_test (inr fails) (inr it) =
            inr (record { none = λ e l h. it.none e (not_last fails e l h) h; holds = rw fails it.holds })

  -- ---- the theorem

  module _
      (N : ℕ) (accepted : Accepted ev N) (c : Choice) (fits : (j t : ℕ) → c j t ≤ finished ev N j t)
      (l : ℕ) (inside : l < N) (counts : countable ev l ≡ true) where
    j : ℕ
    j = stretch ev l

    x : ℕ
    x = location ev l

    -- commit d puts store p into the memory
    record Puts (d p : ℕ) : Type 0 where
      is_it : committed ev d ≡ p
      commit : CommitOf ev l p d
      store : Issue ev p
      to_it : location ev p ≡ location ev l
      earlier : stretch ev p < stretch ev l
      is_in : In ev c p

    puts→ : (d : ℕ) → d < l → puts? ev c j x d ≡ true → Puts d (committed ev d)
    unfolding j x
    puts→ d before puts =
        let p = committed ev d in
        let in_time = commit? ev d && ltb (stretch ev d) (stretch ev l) in
        let four = parts (in_time && eqb (location ev p) (location ev l)) _ puts in
        let three = parts in_time _ four.0 in
        let two = parts (commit? ev d) _ three.0 in
        let commits : Commit ev d = record { test = two.0 } in
        let it = effect ev N d accepted (omega arith) commits in
        record {
          is_it = refl;
          commit = effect_commit ev l d p before commits it;
          store = it.own.store;
          to_it = eqb-true _ _ three.1;
          earlier = rw it.own.in_stretch (ltb-true _ _ two.1);
          is_in = ltb-true _ _ four.1;
        }

    -- a store to the location, of an earlier stretch, that is in: its commit puts it into the memory
    record Put (p : ℕ) : Type 0 where
      d : ℕ
      before : d < l
      puts : puts? ev c j x d ≡ true
      it : Puts d p

    →puts : (p : ℕ) → Issue ev p → location ev p ≡ location ev l → stretch ev p < stretch ev l → In ev c p → Put p
    unfolding j x finished
    →puts p store to_it earlier is_in = record {
      d = d;
      before = before;
      puts = both _ _ (both _ _ (both _ _ commit.commits_it_lem.test (lt-ltb _ _ d_earlier)) at_x) in_memory;
      it = record {
        is_it = is_it;
        commit = record {
          inside = before;
          commits_it_lem = commit.commits_it_lem;
          in_stretch = commit.in_stretch;
          by_thread = commit.by_thread;
          at_place_lem = commit.at_place_lem;
        };
        store = store;
        to_it = to_it;
        earlier = earlier;
        is_in = is_in;
      };
    }
      where
        finishes : ltb (stretch ev p) (stretch ev N) ≡ true
        finishes = lt-ltb (stretch ev p) (stretch ev N) (omega (arith, stretch_mono ev l N (omega arith)))

        p_committed : Committed ev N p
        p_committed =
            let within : c (stretch ev p) (thread ev p) ≤ commits ev N (stretch ev p) (thread ev p) =
            rw finishes at (fits (stretch ev p) (thread ev p))
            in
            omega arith

        d : ℕ
        d = commit_of ev N p

        commit : CommitOf ev N p d
        commit = commit_of_lem ev N p p_committed

        d_earlier : stretch ev d < stretch ev l
        d_earlier = rw commit.in_stretch earlier

        before : d < l
        before = earlier_stretch ev d l d_earlier

        is_it : committed ev d ≡ p
        is_it = effect_is ev d p (commit_effect ev N N d p accepted (omega arith) store commit)

        at_x : eqb (location ev (committed ev d)) (location ev l) ≡ true
        at_x = rw is_it (eq-eqb _ _ to_it)

        in_memory :
            ltb (place ev (committed ev d)) (c (stretch ev (committed ev d)) (thread ev (committed ev d))) ≡ true
        in_memory = rw is_it (lt-ltb _ _ is_in)

    commit_number : (d p : ℕ) → Puts d p → commit_of ev l p ≡ d
    commit_number d p it = is_commit_of ev l p d it.commit

    stretch_of : (d p : ℕ) → Puts d p → stretch ev d ≡ stretch ev p
    stretch_of d p it = it.commit.in_stretch

    -- the observed store is put into the memory
    observed_put : (s : ℕ) → source ev l ≡ s → s ≢ 0 → ExplainsLoad ev c l → Put s
    observed_put s is_source some explains =
        let past = rw is_source at (countable_source ev N accepted l inside counts (rw is_source some)) in
        →puts s past.store past.to_it past.earlier
        (explains.observed_are_in s (record { from = is_source; some_store = some }))

    -- a store that was put later than the source is forbidden
    later_is_forbidden :
        (d p e s : ℕ) → Puts d p → Puts e s → source ev l ≡ s → e < d → Forbids ev l p
    later_is_forbidden d p e s it source_put is_source later = record {
      store = it.store;
      to_it = it.to_it;
      earlier = it.earlier;
      newer = inr (rw is_source (by_stretch (less? (stretch ev s) (stretch ev p))));
    }
      where
        not_earlier : stretch ev s ≤ stretch ev p
        not_earlier = rw (← stretch_of d p it, ← stretch_of e s source_put) (stretch_mono ev e d (omega arith))

        by_stretch :
            (stretch ev s < stretch ev p) ⊎ (stretch ev p ≤ stretch ev s)
            → (stretch ev s < stretch ev p) ⊎ ((stretch ev s ≡ stretch ev p) × (commit_of ev l s < commit_of ev l p))
        by_stretch (inl less) = inl less
        by_stretch (inr same) =
            inr (omega (arith, not_earlier), rw (commit_number d p it, commit_number e s source_put) later)

    explains_then_holds : ExplainsLoad ev c l → memory ev c j l x ≡ source ev l
    unfolding j x
    explains_then_holds explains = by_source (same? (source ev l) 0) (held c (stretch ev l) (location ev l) l)
      where
        at_last : (d s : ℕ) → LastPut c (stretch ev l) (location ev l) l d → Puts d (committed ev d)
            → source ev l ≡ s → (source_put : Put s) → (source_put.d ≡ d) ⊎ (source_put.d ≢ d)
            → memory ev c (stretch ev l) l (location ev l) ≡ source ev l
        at_last d s it put is_source source_put (inl same) =
            it.holds ∙ (ap (committed ev) (sym same) ∙ (source_put.it.is_it ∙ sym is_source))
        at_last d s it put is_source source_put (inr differs) =
            let not_later = it.latest source_put.d source_put.before source_put.puts in
            let p = committed ev d in
            let forbidden = later_is_forbidden d p source_put.d s put source_put.it is_source (omega arith) in
            absurd (explains.forbidden_out (committed ev d) forbidden put.is_in)

        by_source :
            (source ev l ≡ 0) ⊎ (source ev l ≢ 0)
            → ((d : ℕ) × LastPut c (stretch ev l) (location ev l) l d) ⊎ NoPut c (stretch ev l) (location ev l) l
            → memory ev c (stretch ev l) l (location ev l) ≡ source ev l
        by_source (inl none) (inr empty) = empty.holds ∙ sym none
        by_source (inl none) (inl (d, it)) =
            let put = puts→ d it.below it.puts in
            let forbidden : Forbids ev l (committed ev d) =
            record { store = put.store; to_it = put.to_it; earlier = put.earlier; newer = inl none }
            in
            absurd (explains.forbidden_out (committed ev d) forbidden put.is_in)
        by_source (inr some) (inr empty) =
            let put = observed_put (source ev l) refl some explains in
            absurd (empty.none put.d put.before put.puts)
        by_source (inr some) (inl (d, it)) =
            let put = observed_put (source ev l) refl some explains in
            at_last d (source ev l) it (puts→ d it.below it.puts) refl put (same? put.d d)

    -- the source that the memory holds is in
    held_is_in : memory ev c j l x ≡ source ev l → (s : ℕ) → Observes ev l s → In ev c s
    unfolding j x
    held_is_in holds s observes = by_held (held c (stretch ev l) (location ev l) l)
      where
        by_held :
            ((d : ℕ) × LastPut c (stretch ev l) (location ev l) l d) ⊎ NoPut c (stretch ev l) (location ev l) l
            → In ev c s
        by_held (inr empty) = absurd (observes.some_store (sym observes.from ∙ (sym holds ∙ empty.holds)))
        by_held (inl (d, it)) =
            let is_it : committed ev d ≡ s = sym it.holds ∙ (holds ∙ observes.from) in
            rw is_it at (puts→ d it.below it.puts).is_in

    -- a forbidden store that is in would have been put after the source
    held_not_forbidden : memory ev c j l x ≡ source ev l → (p : ℕ) → Forbids ev l p → In ev c p → ⊥
    unfolding j x
    held_not_forbidden holds p forbids is_in = by_held (held c (stretch ev l) (location ev l) l)
      where
        put : Put p
        put = →puts p forbids.store forbids.to_it forbids.earlier is_in

        not_newer : (d : ℕ) → d < l → Puts d (source ev l) → put.d ≤ d → Newer ev l p → ⊥
        not_newer d before it later (inl none) = store_not_0 ev N accepted (omega arith) it.store none
        not_newer d before it later (inr (inl less)) =
            omega (
              arith,
              stretch_mono ev put.d d later,
              stretch_of d (source ev l) it,
              stretch_of put.d p put.it,
            )
        not_newer d before it later (inr (inr after)) =
            omega (arith, after.1, commit_number d (source ev l) it, commit_number put.d p put.it)

        by_held :
            ((d : ℕ) × LastPut c (stretch ev l) (location ev l) l d) ⊎ NoPut c (stretch ev l) (location ev l) l → ⊥
        by_held (inr empty) = empty.none put.d put.before put.puts
        by_held (inl (d, it)) =
            let is_it : committed ev d ≡ source ev l = sym it.holds ∙ holds in
            not_newer d it.below (rw is_it at (puts→ d it.below it.puts))
            (it.latest put.d put.before put.puts) forbids.newer

    -- a choice explains a counted load exactly if the memory holds the load's source when the load's stretch begins
    pub explains_is_replay : ExplainsLoad ev c l ↔ (memory ev c (stretch ev l) l (location ev l) ≡ source ev l)
    unfolding j x
    explains_is_replay = (
      explains_then_holds,
      λ holds. record { observed_are_in = held_is_in holds; forbidden_out = held_not_forbidden holds },
    )

  -- the choice is a run of a memory that keeps stores in order: each counted load read what the memory holds
  pub record OrderedRun (N : ℕ) (c : Choice) : Type 0 where
    pub fits : (j t : ℕ) → c j t ≤ finished ev N j t
    pub closed : Closed ev c
    pub reads : (l : ℕ) → Counted ev N l → memory ev c (stretch ev l) l (location ev l) ≡ source ev l

  pub explains_is_ordered_run : (N : ℕ) (c : Choice) → Accepted ev N → Explains ev N c ↔ OrderedRun N c
  explains_is_ordered_run N c accepted = (
    λ explains. record {
      fits = explains.fits;
      closed = explains.closed;
      reads = λ l counts. (by_replay explains.fits l counts).0 (explains.loads l counts);
    },
    λ run. record {
      fits = run.fits;
      closed = run.closed;
      loads = λ l counts. (by_replay run.fits l counts).1 (run.reads l counts);
    },
  )
    where
      by_replay :
          ((j t : ℕ) → c j t ≤ finished ev N j t) → (l : ℕ) → Counted ev N l
          → ExplainsLoad ev c l ↔ (memory ev c (stretch ev l) l (location ev l) ≡ source ev l)
      by_replay fits l counts =
          explains_is_replay N accepted c fits l (counted_early ev N l counts) (countable_load ev N l counts)
