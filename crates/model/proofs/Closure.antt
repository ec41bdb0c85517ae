-- The closure is what every choice that explains has to take in, and no more: an observed store has to be in, so
-- whatever happens before it too, and these are the stores of the closure, because clocks are happens-before.
-- In order: the observed stores as a test; an observed store is committed in a finished stretch; a pair leaves no
-- choice; which stores are in the closure; the closure fits, explains if there is no pair, and is least.
use Prim.Native.Nat.{ℕ, ◌≤◌, ◌<◌}
use native.Mathlib.Omega.{arith}
use mathlib.Core.Path.{◌≡◌, refl, sym, ◌∙◌, ap₂}
use mathlib.Core.Bool.{Bool, true, false, ◌&&◌}
use mathlib.Core.Logic.{◌⊎◌, inl, inr}
use lib.Dec.{eqb}
use borrow.Author.Tests.{eqb-true, eqb-false, eq-eqb, ne_eqb, lt-ltb, not-true}
use Rattle.record.specs.declared.events.Event.{Event}
use Rattle.model.specs.Trace.{thread, source, commit?, Issue, stretch, commits, place}
use Rattle.model.specs.Search.{any}
use Rattle.model.specs.Machine.{counting}
use Rattle.model.specs.Rules.{Accepted}
use Rattle.model.specs.HappensBefore.{AtOrBefore}
use Rattle.model.specs.Choice.{Choice, In, finished, Closed, Observes, Observed, Forbidden, Explains}
use Rattle.model.specs.Choice.{Robust, Pair}
use Rattle.model.specs.Clocks.{vc}
use Rattle.model.specs.Verdict.{observes?, observed?, asks, closure}
use Rattle.model.proofs.Searching.{test, less?, both, parts, eqb_same, some→, →some, any→, →any, most→, →most}
use Rattle.model.proofs.Counting.{stretch_mono, earlier_stretch, count_mono}
use Rattle.model.proofs.Ordering.{before_first, before_last, before_at_or_before, same_stretch}
use Rattle.model.proofs.Clocks.{clock_is_happens_before, ClockPlace, clock_place}
use Rattle.model.proofs.Acceptance.{FromPast, countable_source}
use Rattle.model.proofs.Committed.{Committed, before_committed}
use Rattle.model.proofs.CountedLoads.{counted_early, countable_load}

module _ (ev : ℕ → Event) where
  -- ---- the observed stores, as a test

  pub observes→ : (l q : ℕ) → observes? ev l q ≡ true → Observes ev l q
  unfolding observes?
  observes→ l q passes =
      let outer = parts (eqb (source ev l) q) _ passes in
      record {
        from = eqb-true _ _ outer.0;
        some_store = eqb-false q 0 (not-true _ outer.1);
      }

  pub →observes : (l q : ℕ) → Observes ev l q → observes? ev l q ≡ true
  unfolding observes?
  →observes l q it = both _ _ (eq-eqb _ _ it.from) (rw (ne_eqb q 0 it.some_store))

  pub observed→ : (N q : ℕ) → observed? ev N q ≡ true → Observed ev N q
  unfolding observed?
  observed→ N q passes =
      let (e, inside, counted) = some→ N (λ e. any (λ l. observes? ev l q) (counting ev e)) passes in
      let (l, here, it) = any→ (λ l. observes? ev l q) (counting ev e) counted in
      (l, record { as_of = e; inside = inside; here = here }, observes→ l q it)

  pub →observed : (N q : ℕ) → Observed ev N q → observed? ev N q ≡ true
  unfolding observed?
  →observed N q (l, counts, it) =
      →some N (λ e. any (λ l. observes? ev l q) (counting ev e)) counts.as_of counts.inside
      (→any (λ l. observes? ev l q) (counting ev counts.as_of) l counts.here (→observes l q it))

  -- ---- an observed store is committed in a finished stretch

  pub record CommittedEarlier (N s : ℕ) : Type 0 where
    pub store : Issue ev s
    pub early : s < N
    pub in_finished : stretch ev s < stretch ev N
    pub committed : Committed ev N s

  pub observed_is_committed : (N : ℕ) → Accepted ev N → (s : ℕ) → Observed ev N s → CommittedEarlier N s
  observed_is_committed N accepted s (l, counts, it) =
      let inside : l < N = counted_early ev N l counts in
      let heeds = countable_load ev N l counts in
      let from : FromPast ev l s =
      rw it.from at (countable_source ev N accepted l inside heeds (rw it.from it.some_store))
      in
      let j = stretch ev s in
      let no_fewer = count_mono ev (commit? ev) l N j (thread ev s) (omega arith) in
      record {
        store = from.store;
        early = omega (arith, earlier_stretch ev s l from.earlier);
        in_finished = omega (arith, from.earlier, stretch_mono ev l N (omega arith));
        committed = omega (arith, from.committed);
      }

  -- ---- a pair leaves no choice

  -- a choice that explains takes in an observed store, and what happens before it
  explained_in : (N : ℕ) (c : Choice) → Explains ev N c → (p q : ℕ) → Observed ev N q → AtOrBefore ev p q → In ev c p
  explained_in N c explains p q (l, inside, it) = by_order
    where
      q_in : In ev c q
      q_in = (explains.loads l inside).observed_are_in q it

      by_order : AtOrBefore ev p q → In ev c p
      by_order (inl same) = rw same q_in
      by_order (inr before) = explains.closed p q before q_in

  pub pair_leaves_none : (N p q : ℕ) → Pair ev N p q → ¬ Robust ev N
  pair_leaves_none N p q pair (c, explains) =
      let (l, inside, forbids) = pair.missing in
      (explains.loads l inside).forbidden_out p forbids (explained_in N c explains p q pair.observed pair.order)

  module _ (N : ℕ) (accepted : Accepted ev N) where
    -- ---- which stores are in the closure

    -- p is an observed store or happens before one
    pub record Reached (p : ℕ) : Type 0 where
      pub q : ℕ
      pub observed : Observed ev N q
      pub order : AtOrBefore ev p q

    -- place i of thread t is in the clock of an observed store q of stretch j
    pub record InClock (j t i : ℕ) : Type 0 where
      pub q : ℕ
      pub observed : Observed ev N q
      pub in_j : stretch ev q ≡ j
      pub in_clock : i < vc ev q t

    pub in_some_clock : (j t i : ℕ) → i < closure ev N j t → InClock j t i
    unfolding closure
    in_some_clock j t i below =
        let (q, inside, asked) = most→ N (asks ev N j t) i below in
        by_test q asked (test (there q))
      where
        there : ℕ → Bool
        there q = observed? ev N q && eqb (stretch ev q) j

        by_test : (q : ℕ) → i < asks ev N j t q → (there q ≡ true) ⊎ (there q ≡ false) → InClock j t i
        by_test q asked (inl passes) =
            let both_hold = parts (observed? ev N q) _ passes in
            record {
              q = q;
              observed = observed→ N q both_hold.0;
              in_j = eqb-true _ _ both_hold.1;
              in_clock = rw passes at asked;
            }
        by_test q asked (inr fails) = let none : i < 0 = rw fails at asked in absurd (omega arith)

    pub clock_in_closure : (q t i : ℕ) → Observed ev N q → i < vc ev q t → i < closure ev N (stretch ev q) t
    unfolding closure
    clock_in_closure q t i observed in_clock =
        →most N (asks ev N (stretch ev q) t) i q (observed_is_committed N accepted q observed).early
        (rw (both _ _ (→observed N q observed) (eqb_same (stretch ev q))) in_clock)

    pub reached_is_in : (p : ℕ) → Issue ev p → Reached p → In ev (closure ev N) p
    reached_is_in p store reached =
        let q = reached.q in
        let settled = observed_is_committed N accepted q reached.observed in
        let in_stretch : stretch ev p ≡ stretch ev q = same_stretch ev p q reached.order in
        let in_clock : place ev p < vc ev q (thread ev p) =
        (clock_is_happens_before ev q p settled.store store in_stretch).1 reached.order
        in
        rw in_stretch (clock_in_closure q (thread ev p) _ reached.observed (rw (← in_stretch) in_clock))

    pub in_is_reached : (p : ℕ) → Issue ev p → In ev (closure ev N) p → Reached p
    in_is_reached p store inside =
        let it = in_some_clock (stretch ev p) (thread ev p) (place ev p) inside in
        let settled = observed_is_committed N accepted it.q it.observed in
        record {
          q = it.q;
          observed = it.observed;
          order = (clock_is_happens_before ev it.q p settled.store store (sym it.in_j)).0 it.in_clock;
        }

    -- the closure is below each choice that takes in what it reaches
    closure_below :
        (c : Choice) → ((p : ℕ) → Issue ev p → Reached p → In ev c p) → (j t : ℕ) → closure ev N j t ≤ c j t
    closure_below c takes_in j t = by_order (less? (c j t) (closure ev N j t))
      where
        by_order : (c j t < closure ev N j t) ⊎ (closure ev N j t ≤ c j t) → closure ev N j t ≤ c j t
        by_order (inr below) = below
        by_order (inl above) = absurd (omega (arith, inside, edge.at_i, ap₂ c in_j edge.by_u))
          where
            it : InClock j t (c j t)
            it = in_some_clock j t (c j t) above

            settled : CommittedEarlier N it.q
            settled = observed_is_committed N accepted it.q it.observed

            -- the first store of t in j that c leaves out
            edge : ClockPlace ev it.q t (c j t)
            edge = clock_place ev it.q t (c j t) settled.store it.in_clock

            in_j : stretch ev edge.p ≡ j
            in_j = edge.in_stretch ∙ it.in_j

            in_closure : In ev (closure ev N) edge.p
            in_closure = rw (edge.at_i, in_j, edge.by_u) above

            inside : In ev c edge.p
            inside = takes_in edge.p edge.store (in_is_reached edge.p edge.store in_closure)

    -- ---- the closure fits, explains and is least

    finished_is : (j t : ℕ) → j < stretch ev N → finished ev N j t ≡ commits ev N j t
    unfolding finished
    finished_is j t done = rw (lt-ltb j (stretch ev N) done)

    committed_in_finished : (p q : ℕ) → CommittedEarlier N q → AtOrBefore ev p q → In ev (finished ev N) p
    committed_in_finished p q settled order = rw (finished_is (stretch ev p) (thread ev p) done) (p_committed order)
      where
        done : stretch ev p < stretch ev N
        done = rw (same_stretch ev p q order) settled.in_finished

        p_committed : AtOrBefore ev p q → Committed ev N p
        p_committed (inl same) = rw same settled.committed
        p_committed (inr before) = (before_committed ev N accepted p q before settled.committed).committed

    pub closure_fits : (j t : ℕ) → closure ev N j t ≤ finished ev N j t
    closure_fits = closure_below (finished ev N) reached_is_finished
      where
        reached_is_finished : (p : ℕ) → Issue ev p → Reached p → In ev (finished ev N) p
        reached_is_finished p store reached =
            let settled = observed_is_committed N accepted reached.q reached.observed in
            committed_in_finished p reached.q settled reached.order

    closure_closed : Closed ev (closure ev N)
    closure_closed p q before inside =
        let reached = in_is_reached q (before_last ev before) inside in
        reached_is_in p (before_first ev before)
        (record {
          q = reached.q;
          observed = reached.observed;
          order = inr (before_at_or_before ev before reached.order);
        })

    pub closure_explains : ((p q : ℕ) → Pair ev N p q → ⊥) → Explains ev N (closure ev N)
    closure_explains no_pair = record {
      fits = closure_fits;
      closed = closure_closed;
      loads = λ l inside. record {
        observed_are_in = λ s it. observed_are_in s (l, inside, it);
        forbidden_out = λ p it. forbidden_out p (l, inside, it);
      };
    }
      where
        observed_are_in : (s : ℕ) → Observed ev N s → In ev (closure ev N) s
        observed_are_in s observed =
            reached_is_in s (observed_is_committed N accepted s observed).store
            (record { q = s; observed = observed; order = inl refl })

        forbidden_out : (p : ℕ) → Forbidden ev N p → In ev (closure ev N) p → ⊥
        forbidden_out p forbidden inside =
            let reached = in_is_reached p forbidden.2.store inside in
            no_pair p reached.q
            (record { missing = forbidden; observed = reached.observed; order = reached.order })

    pub closure_least : (c : Choice) → Explains ev N c → (j t : ℕ) → closure ev N j t ≤ c j t
    closure_least c explains = closure_below c reached_in_c
      where
        reached_in_c : (p : ℕ) → Issue ev p → Reached p → In ev c p
        reached_in_c p store reached = explained_in N c explains p reached.q reached.observed reached.order
