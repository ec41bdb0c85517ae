-- The choices that explain a trace are a lattice: with two of them, their pointwise minimum and maximum explain too. A
-- store is in the minimum if it is in both choices, and in the maximum if it is in one of them.
-- In order: `min_explains`; `max_explains`; `closed_by_clocks`, closedness as a comparison of counts with clocks.
use Prim.Native.Nat.{ℕ, ◌≤◌, ◌<◌, min, max}
use native.Mathlib.Omega.{arith}
use mathlib.Core.Path.{ap, ap₂}
use mathlib.Core.Logic.{◌⊎◌, inl, inr, ◌↔◌}
use Rattle.record.specs.declared.events.Event.{Event}
use Rattle.model.specs.Trace.{thread, Issue, stretch, place}
use Rattle.model.specs.HappensBefore.{Before, AtOrBefore}
use Rattle.model.specs.Choice.{Choice, In, Closed, Counted, Forbids, Explains}
use Rattle.model.specs.Clocks.{vc}
use Rattle.model.proofs.Searching.{less?}
use Rattle.model.proofs.Ordering.{before_first, before_last, before_stretch}
use Rattle.model.proofs.Clocks.{clock_is_happens_before, ClockPlace, clock_place}

module _ (ev : ℕ → Event) where
  -- the count of thread and stretch of store p
  abbrev count_at : Choice → ℕ → ℕ
  count_at c p = c (stretch ev p) (thread ev p)

  module _ (N : ℕ) (c d : Choice) (by_c : Explains ev N c) (by_d : Explains ev N d) where
    pub min_explains : Explains ev N (λ j t. min (c j t) (d j t))
    min_explains = record {
      fits = λ j t. omega (arith, by_c.fits j t);
      closed = closed;
      loads = λ l inside. record {
        observed_are_in = λ s it.
            omega (arith, (by_c.loads l inside).observed_are_in s it, (by_d.loads l inside).observed_are_in s it);
        forbidden_out = λ p it p_in. (by_c.loads l inside).forbidden_out p it (omega arith);
      };
    }
      where
        closed : Closed ev (λ j t. min (c j t) (d j t))
        closed p q before q_in =
            let in_c : In ev c p = by_c.closed p q before (omega arith) in
            let in_d : In ev d p = by_d.closed p q before (omega arith) in
            omega arith

    pub max_explains : Explains ev N (λ j t. max (c j t) (d j t))
    max_explains = record {
      fits = λ j t. omega (arith, by_c.fits j t, by_d.fits j t);
      closed = λ p q before q_in. closed p q before (in_one q q_in);
      loads = λ l inside. record {
        observed_are_in = λ s it. omega (arith, (by_c.loads l inside).observed_are_in s it);
        forbidden_out = λ p it p_in. forbidden_out l inside p it (in_one p p_in);
      };
    }
      where
        in_one : (p : ℕ) → place ev p < max (count_at c p) (count_at d p) → In ev c p ⊎ In ev d p
        in_one p inside = by_order (less? (place ev p) (count_at c p))
          where
            by_order : (place ev p < count_at c p) ⊎ (count_at c p ≤ place ev p) → In ev c p ⊎ In ev d p
            by_order (inl in_c) = inl in_c
            by_order (inr not_in_c) = inr (omega arith)

        closed :
            (p q : ℕ) → Before ev p q → In ev c q ⊎ In ev d q → place ev p < max (count_at c p) (count_at d p)
        closed p q before (inl in_c) = omega (arith, by_c.closed p q before in_c)
        closed p q before (inr in_d) = omega (arith, by_d.closed p q before in_d)

        forbidden_out : (l : ℕ) → Counted ev N l → (p : ℕ) → Forbids ev l p → In ev c p ⊎ In ev d p → ⊥
        forbidden_out l inside p it (inl in_c) = (by_c.loads l inside).forbidden_out p it in_c
        forbidden_out l inside p it (inr in_d) = (by_d.loads l inside).forbidden_out p it in_d

  -- the counts of c are at least the clock of each store that is in
  abbrev pub CoversClocks : Choice → Type 0
  CoversClocks c = (q u : ℕ) → Issue ev q → In ev c q → vc ev q u ≤ c (stretch ev q) u

  -- a choice is closed exactly if it covers the clocks of its stores
  pub closed_by_clocks : (c : Choice) → Closed ev c ↔ CoversClocks c
  closed_by_clocks c = (covers, closes)
    where
      covers : Closed ev c → CoversClocks c
      covers closed q u store q_in = by_order (less? (c (stretch ev q) u) (vc ev q u))
        where
          at_or_before_in : (p : ℕ) → AtOrBefore ev p q → In ev c p
          at_or_before_in p (inl same) = rw same q_in
          at_or_before_in p (inr before) = closed p q before q_in

          by_order :
              (c (stretch ev q) u < vc ev q u) ⊎ (vc ev q u ≤ c (stretch ev q) u) → vc ev q u ≤ c (stretch ev q) u
          by_order (inr covered) = covered
          by_order (inl left_out) = absurd (omega (arith, p_in, at.at_i, ap₂ c at.in_stretch at.by_u))
            where
              -- the first store of u that c leaves out
              at : ClockPlace ev q u (c (stretch ev q) u)
              at = clock_place ev q u (c (stretch ev q) u) store left_out

              in_clock : place ev at.p < vc ev q (thread ev at.p)
              in_clock = rw (at.at_i, at.by_u) left_out

              p_in : In ev c at.p
              p_in =
                  at_or_before_in at.p
                  ((clock_is_happens_before ev q at.p store at.store at.in_stretch).0 in_clock)

      closes : CoversClocks c → Closed ev c
      closes by_clocks p q before q_in =
          let in_stretch = before_stretch ev before in
          let in_clock =
          (clock_is_happens_before ev q p (before_last ev before) (before_first ev before) in_stretch).1 (inr before)
          in
          omega (
            arith,
            by_clocks q (thread ev p) (before_last ev before) q_in,
            ap (λ (j : ℕ). c j (thread ev p)) in_stretch,
          )
