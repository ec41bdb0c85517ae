-- Nothing depends on later events: of two numberings that agree on the first N events, the same choices explain these
-- events, and the same ruling is exact. So "records 0 to load, taken as a trace" are the first load + 1 events of any
-- numbering that has them, and what a numbering says past its trace's end is of no account.
-- A choice that fits is 0 in stretches that the first N events do not finish, and every later event stands in one. What
-- a load forbids stands in a stretch before the load's, and so does the source, where it is compared, and whatever is
-- paired with it. No event needs to be accepted.
-- In order: stores that are in; loads; choices that explain; pairs; `exact_same`.
use Prim.Native.Nat.{ℕ, suc, ◌≤◌, ◌<◌}
use native.Mathlib.Omega.{arith}
use mathlib.Core.Path.{◌≡◌, sym, ◌∙◌}
use mathlib.Core.Logic.{◌⊎◌, inl, inr}
use borrow.Author.Tests.{le-ltb}
use Rattle.record.specs.declared.events.Event.{Event}
use Rattle.model.specs.Trace.{thread, source, stretch}
use Rattle.model.specs.Machine.{commit_of}
use Rattle.model.specs.Choice.{Choice, Ruling, robust, broken, In, finished, Counted, Observes, Newer, Forbids}
use Rattle.model.specs.Choice.{ExplainsLoad, Explains, Robust, Least, Pair, Broken, Exact}
use Rattle.model.proofs.Searching.{less?}
use Rattle.model.proofs.Counting.{earlier_stretch}
use Rattle.model.proofs.Ordering.{before_lt, same_stretch}
use Rattle.model.proofs.CountedLoads.{counted_early}
use Rattle.model.proofs.Agreement.{Agree, reversed, fewer, thread_same, location_same, source_same}
use Rattle.model.proofs.Agreement.{stretch_same, stretches_same, commits_same, place_same, commit_of_same}
use Rattle.model.proofs.Agreement.{counting_same, issue_same, before_same, at_or_before_same}

-- ---- stores that are in

-- A store that is in stands in a finished stretch, and so among the first N events: a choice that fits is 0 elsewhere.
-- So `Closed`, which speaks of all numbers, asks of stores of the trace alone.
pub in_finished_stretch :
    (ev : ℕ → Event) (N : ℕ) (c : Choice) → ((j t : ℕ) → c j t ≤ finished ev N j t)
    → (p : ℕ) → In ev c p → stretch ev p < stretch ev N
unfolding finished
in_finished_stretch ev N c fits p is_in = by_order (less? (stretch ev p) (stretch ev N))
  where
    by_order :
        (stretch ev p < stretch ev N) ⊎ (stretch ev N ≤ stretch ev p) → stretch ev p < stretch ev N
    by_order (inl over) = over
    by_order (inr not_over) =
        let none : c (stretch ev p) (thread ev p) ≤ 0 =
        rw (le-ltb (stretch ev p) (stretch ev N) not_over) at (fits (stretch ev p) (thread ev p))
        in
        absurd (omega arith)

in_early :
    (ev : ℕ → Event) (N : ℕ) (c : Choice) → ((j t : ℕ) → c j t ≤ finished ev N j t) → (p : ℕ) → In ev c p → p < N
in_early ev N c fits p is_in = earlier_stretch ev p N (in_finished_stretch ev N c fits p is_in)

module _ {N : ℕ} {ev other : ℕ → Event} (agree : Agree N ev other) where
  finished_same : (j t : ℕ) → finished ev N j t ≡ finished other N j t
  unfolding finished
  finished_same j t = rw (stretch_same agree N (omega arith), commits_same agree N j t (omega arith))

  in_same : (c : Choice) (p : ℕ) → p < N → In ev c p → In other c p
  in_same c p inside is_in =
      rw (place_same agree p inside, stretch_same agree p (omega arith), thread_same agree p inside) at is_in

  counted_same : {l : ℕ} → Counted ev N l → Counted other N l
  counted_same {l} it = record {
    as_of = it.as_of;
    inside = it.inside;
    here = rw (counting_same agree it.as_of it.inside) at it.here;
  }

  observes_same : {l s : ℕ} → l < N → Observes ev l s → Observes other l s
  observes_same {l} inside observes =
      record { from = sym (source_same agree l inside) ∙ observes.from; some_store = observes.some_store }

  -- the source is compared with p only if it stands in p's stretch or an earlier one, before load l
  newer_same : (l p : ℕ) → l < N → p < l → stretch ev p < stretch ev l → Newer ev l p → Newer other l p
  newer_same l p inside p_earlier earlier newer = rw (← source_same agree l inside) (by_case newer)
    where
      s : ℕ
      s = source ev l

      by_case :
          Newer ev l p
          → (s ≡ 0)
          ⊎ ((stretch other s < stretch other p)
          ⊎ ((stretch other s ≡ stretch other p) × (commit_of other l s < commit_of other l p)))
      by_case (inl is_0) = inl is_0
      by_case (inr (inl later)) =
          let s_earlier = earlier_stretch ev s p later in
          inr (inl (omega (arith, stretch_same agree s (omega arith), stretch_same agree p (omega arith))))
      by_case (inr (inr (same, after))) =
          let s_earlier = earlier_stretch ev s l (omega arith) in
          inr (inr (
            stretches_same agree s p (omega arith) (omega arith) same,
            omega (
              arith,
              commit_of_same agree l s (omega arith) (omega arith),
              commit_of_same agree l p (omega arith) (omega arith),
            ),
          ))

  forbids_same : {l p : ℕ} → l < N → Forbids ev l p → Forbids other l p
  forbids_same {l} {p} inside forbids =
      let p_earlier = earlier_stretch ev p l forbids.earlier in
      record {
        store = issue_same agree (omega arith) forbids.store;
        to_it = omega (arith, forbids.to_it, location_same agree p (omega arith), location_same agree l inside);
        earlier =
            omega (arith, forbids.earlier, stretch_same agree p (omega arith), stretch_same agree l (omega arith));
        newer = newer_same l p inside p_earlier forbids.earlier forbids.newer;
      }

module _ {N : ℕ} {ev other : ℕ → Event} (agree : Agree N ev other) where
  pub explains_same : (c : Choice) → Explains ev N c → Explains other N c
  explains_same c explains = record {
    fits = fits;
    closed = λ p q before is_in.
        let inside = in_early other N c fits q is_in in
        let earlier = before_lt other before in
        in_same agree c p (omega arith)
        (explains.closed p q (before_same (reversed agree) inside before) (in_same (reversed agree) c q inside is_in));
    loads = λ l counts.
        let it = counted_same (reversed agree) counts in
        let inside = counted_early ev N l it in
        at_load l inside (explains.loads l it);
  }
    where
      fits : (j t : ℕ) → c j t ≤ finished other N j t
      fits j t = omega (arith, explains.fits j t, finished_same agree j t)

      at_load : (l : ℕ) → l < N → ExplainsLoad ev c l → ExplainsLoad other c l
      at_load l inside explained = record {
        observed_are_in = λ s observes.
            let is_in = explained.observed_are_in s (observes_same (reversed agree) inside observes) in
            in_same agree c s (in_early ev N c explains.fits s is_in) is_in;
        forbidden_out = λ p forbids is_in.
            let forbidden = forbids_same (reversed agree) inside forbids in
            let earlier = earlier_stretch ev p l forbidden.earlier in
            explained.forbidden_out p forbidden (in_same (reversed agree) c p (omega arith) is_in);
      }

  pub robust_same : Robust ev N → Robust other N
  robust_same (c, explains) = (c, explains_same c explains)

module _ {N : ℕ} {ev other : ℕ → Event} (agree : Agree N ev other) where
  least_same : (c : Choice) → Least ev N c → Least other N c
  least_same c least = record {
    explains = explains_same agree c least.explains;
    least = λ d explains. least.least d (explains_same (reversed agree) d explains);
  }

  -- what is observed and paired with a forbidden store stands in its stretch, before the load that forbids it
  pub pair_same : (p q : ℕ) → Pair ev N p q → Pair other N p q
  pair_same p q pair =
      let (l, l_counts, forbids) = pair.missing in
      let (k, k_counts, observes) = pair.observed in
      let l_inside = counted_early ev N l l_counts in
      let k_inside = counted_early ev N k k_counts in
      let in_stretch = same_stretch ev p q pair.order in
      let q_earlier = earlier_stretch ev q l (omega (arith, forbids.earlier)) in
      record {
        missing = (l, counted_same agree l_counts, forbids_same agree l_inside forbids);
        observed = (k, counted_same agree k_counts, observes_same agree k_inside observes);
        order = at_or_before_same agree (omega arith) pair.order;
      }

module _ {N : ℕ} {ev other : ℕ → Event} (agree : Agree N ev other) where
  broken_same :
      (load missing observed : ℕ) → Broken ev N load missing observed → Broken other N load missing observed
  broken_same load missing observed it =
      let upto = fewer (suc load) it.inside agree in
      record {
        inside = it.inside;
        none = λ robust. it.none (robust_same (reversed agree) robust);
        none_yet = λ robust. it.none_yet (robust_same (reversed upto) robust);
        first = λ n within. robust_same (fewer n (omega (arith, it.inside)) agree) (it.first n within);
        pair = pair_same upto missing observed it.pair;
        lowest = λ p q pair. it.lowest p q (pair_same (reversed upto) p q pair);
        then_lowest = λ q pair. it.then_lowest q (pair_same (reversed upto) missing q pair);
      }

  -- THE RULING OF THE FIRST EVENTS DEPENDS ON NO LATER ONE
  pub exact_same : (v : Ruling) → Exact ev N v → Exact other N v
  exact_same (robust c) = least_same agree c
  exact_same (broken load missing observed) = broken_same load missing observed
