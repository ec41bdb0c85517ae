-- Vector clocks compute happens-before (`clock_is_happens_before`, and `covers_exactly` of the test; of signals
-- `clock_is_handed` and `covers_handed`). What a clock counts happens before: it is the thread's own, or a load or a
-- wait brought it in. What happens before is counted: clocks grow along happens-before.
-- In order: the stores that a clock counts (`clock_place`); that they happen before; that clocks grow; the theorem.
use Prim.Native.Nat.{ℕ, zero, suc, ◌≤◌, ◌<◌, max}
use native.Mathlib.Omega.{arith}
use mathlib.Core.Path.{◌≡◌, refl, sym, ◌∙◌}
use mathlib.Core.Bool.{true, false}
use mathlib.Core.Logic.{◌⊎◌, inl, inr, ◌≢◌, ◌↔◌}
use lib.Dec.{eqb}
use borrow.Author.Tests.{eqb-true, eq-eqb, ltb-true, lt-ltb}
use Rattle.record.specs.declared.events.Event.{Event}
use Rattle.model.specs.Trace.{thread, source, issue?, crash?, Issue, Load, Signal, stretch, issues, place}
use Rattle.model.specs.HappensBefore.{Precedes, Before, AtOrBefore, own, read, handed, chain}
use Rattle.model.specs.Clocks.{joins, seen, vc, covers?}
use Rattle.model.proofs.Searching.{test, false_true, both, parts, same?, less?}
use Rattle.model.proofs.Counting.{stretch_crash, stretch_else, stretch_mono, count_mono, at_place_lem}
use Rattle.model.proofs.Induction.{from_all_smaller}
use Rattle.model.proofs.Ordering.{precedes_stretch, same_stretch}
use Rattle.model.proofs.Roles.{issue_no_crash, load_no_crash, signal_no_crash, wait_no_crash, signal_no_issue}
use Rattle.model.proofs.ClockSteps.{Meets, loads_store, waits_signal, meets_no_crash, Joined, joins→, →joins}
use Rattle.model.proofs.ClockSteps.{seen_zero, seen_crash, seen_join, seen_keep}
use Rattle.model.proofs.ClockSteps.{vc_here, vc_own, vc_other, seen_bound, vc_bound}

module _ (ev : ℕ → Event) where
  -- ---- the stores that a clock counts

  -- the store of thread u at place i, where the clock of store q counts more than i of u's stores
  pub record ClockPlace (q u i : ℕ) : Type 0 where
    pub p : ℕ
    pub early : p < suc q
    pub store : Issue ev p
    pub in_stretch : stretch ev p ≡ stretch ev q
    pub by_u : thread ev p ≡ u
    pub at_i : place ev p ≡ i

  pub clock_place : (q u i : ℕ) → Issue ev q → i < vc ev q u → ClockPlace q u i
  clock_place q u i store counted =
      let bound = vc_bound ev q u (issue_no_crash ev store) in
      let found = at_place_lem ev (issue? ev) (suc q) (stretch ev q) u i (omega arith) in
      record {
        p = found.p;
        early = found.early;
        store = record { test = found.passes };
        in_stretch = found.in_j;
        by_u = found.by_t;
        at_i = rw (found.in_j, found.by_t) found.at_i;
      }

  -- ---- they happen before

  -- what e's thread has seen before event n precedes e, where e is event n - 1 or a later one of the stretch
  abbrev SeenPrecedes : ℕ → Type 0
  SeenPrecedes n =
      (p e : ℕ) → Issue ev p → stretch ev p ≡ stretch ev n → stretch ev e ≡ stretch ev n → n ≤ suc e
      → place ev p < seen ev n (thread ev e) (thread ev p) → Precedes ev p e

  -- what the clock of event q counts is q or precedes it
  counted_precedes :
      (q p : ℕ) → SeenPrecedes (suc q) → crash? ev q ≡ false → Issue ev p → stretch ev p ≡ stretch ev q
      → place ev p < vc ev q (thread ev p) → (p ≡ q) ⊎ Precedes ev p q
  counted_precedes q p seen_precedes no_crash store in_stretch counted =
      by_place (same? p q) (less? p q) (same? (thread ev p) (thread ev q))
    where
      -- of another thread: q's thread has seen it
      seen_before : thread ev p ≢ thread ev q → Precedes ev p q
      seen_before other = seen_precedes p q store (in_stretch ∙ same) same (omega arith) was_seen
        where
          same : stretch ev q ≡ stretch ev (suc q)
          same = sym (stretch_else ev q no_crash)

          was_seen : place ev p < seen ev (suc q) (thread ev q) (thread ev p)
          was_seen = rw (← vc_other ev q (thread ev p) no_crash other) counted

      by_place :
          (p ≡ q) ⊎ (p ≢ q) → (p < q) ⊎ (q ≤ p) → (thread ev p ≡ thread ev q) ⊎ (thread ev p ≢ thread ev q)
          → (p ≡ q) ⊎ Precedes ev p q
      by_place (inl is) order by_thread = inl is
      by_place (inr differs) order (inr other) = inr (seen_before other)
      by_place (inr differs) (inl earlier) (inl own_thread) = inr (own store in_stretch own_thread earlier)
      by_place (inr differs) (inr later) (inl own_thread) =
          absurd (omega (arith, vc_here ev q (thread ev p) own_thread, not_fewer))
        where
          not_fewer : issues ev (suc q) (stretch ev q) (thread ev q) ≤ place ev p
          not_fewer = rw (in_stretch, own_thread) (count_mono ev (issue? ev) (suc q) p _ _ (omega arith))

  seen_precedes_next : (n : ℕ) → ((m : ℕ) → m ≤ n → SeenPrecedes m) → SeenPrecedes (suc n)
  seen_precedes_next n earlier p e store p_in_stretch e_in_stretch late was_seen =
      by_event (test (crash? ev n)) (test (joins ev n (thread ev e)))
    where
      t : ℕ
      t = thread ev e

      -- t has seen p before event n already
      seen_before : crash? ev n ≡ false → place ev p < seen ev n t (thread ev p) → Precedes ev p e
      seen_before no_crash was_seen_before =
          let same = stretch_else ev n no_crash in
          earlier n (omega arith) p e store (p_in_stretch ∙ same) (e_in_stretch ∙ same) (omega arith) was_seen_before

      -- event n is a load or a wait that brings p in
      brought : Joined ev n t → place ev p < vc ev (source ev n) (thread ev p) → Precedes ev p e
      brought joined counted =
          by_role joined.meets (counted_precedes s p of_source no_crashes.1 store in_stretch counted)
        where
          s : ℕ
          s = source ev n

          no_crashes : (crash? ev n ≡ false) × (crash? ev s ≡ false)
          no_crashes = meets_no_crash ev joined.meets

          of_source : SeenPrecedes (suc s)
          of_source = earlier (suc s) joined.early

          same : stretch ev (suc n) ≡ stretch ev n
          same = stretch_else ev n no_crashes.0

          in_stretch : stretch ev p ≡ stretch ev s
          in_stretch = p_in_stretch ∙ same ∙ sym joined.in_stretch

          here : stretch ev n ≡ stretch ev e
          here = sym (e_in_stretch ∙ same)

          loaded : Load ev n → Issue ev s → Precedes ev s e
          loaded load source_stores =
              read n source_stores (joined.in_stretch ∙ here) load refl joined.by_t here joined.early
              (omega arith)

          by_role : Meets ev n → (p ≡ s) ⊎ Precedes ev p s → Precedes ev p e
          by_role (loads_store load source_stores) (inl is) = rw is (loaded load source_stores)
          by_role (loads_store load source_stores) (inr before) =
              chain source_stores before (loaded load source_stores)
          by_role (waits_signal wait signal) (inl is) =
              absurd (false_true (sym (signal_no_issue ev signal) ∙ rw is at store.test))
          by_role (waits_signal wait signal) (inr before) =
              handed s n signal (joined.in_stretch ∙ here) before wait refl joined.by_t here joined.early
              (omega arith)

      before_or_brought :
          crash? ev n ≡ false → joins ev n t ≡ true
          → (place ev p < seen ev n t (thread ev p)) ⊎ (seen ev n t (thread ev p) ≤ place ev p) → Precedes ev p e
      before_or_brought no_crash join (inl was_seen_before) = seen_before no_crash was_seen_before
      before_or_brought no_crash join (inr was_not) =
          brought (joins→ ev n t join) (omega (arith, seen_join ev n t (thread ev p) join))

      by_event :
          (crash? ev n ≡ true) ⊎ (crash? ev n ≡ false) → (joins ev n t ≡ true) ⊎ (joins ev n t ≡ false)
          → Precedes ev p e
      by_event (inl crash) join = absurd (omega (arith, seen_crash ev n t (thread ev p) crash))
      by_event (inr no_crash) (inl join) =
          before_or_brought no_crash join (less? (place ev p) (seen ev n t (thread ev p)))
      by_event (inr no_crash) (inr no_join) =
          seen_before no_crash (rw (← seen_keep ev n t (thread ev p) no_crash no_join) was_seen)

  seen_precedes : (n : ℕ) → SeenPrecedes n
  seen_precedes = from_all_smaller SeenPrecedes nothing_seen seen_precedes_next
    where
      nothing_seen : SeenPrecedes 0
      nothing_seen p e store p_in_stretch e_in_stretch late was_seen =
          absurd (omega (arith, seen_zero ev (thread ev e) (thread ev p)))

  -- ---- clocks grow along happens-before

  -- in a stretch, what is seen only grows
  seen_grows_once : (n t u : ℕ) → crash? ev n ≡ false → seen ev n t u ≤ seen ev (suc n) t u
  seen_grows_once n t u no_crash = by_join (test (joins ev n t))
    where
      by_join : (joins ev n t ≡ true) ⊎ (joins ev n t ≡ false) → seen ev n t u ≤ seen ev (suc n) t u
      by_join (inl join) = omega (arith, seen_join ev n t u join)
      by_join (inr no_join) = omega (arith, seen_keep ev n t u no_crash no_join)

  seen_grows : (m n t u : ℕ) → m ≤ n → stretch ev m ≡ stretch ev n → seen ev m t u ≤ seen ev n t u
  seen_grows m zero t u early same = let none : m ≡ 0 = omega arith in rw none (omega arith)
  seen_grows m (suc n) t u early same =
      last_or_earlier (same? m (suc n)) (test (crash? ev n)) (seen_grows m n t u)
    where
      last_or_earlier :
          (m ≡ suc n) ⊎ (m ≢ suc n) → (crash? ev n ≡ true) ⊎ (crash? ev n ≡ false)
          → (m ≤ n → stretch ev m ≡ stretch ev n → seen ev m t u ≤ seen ev n t u)
          → seen ev m t u ≤ seen ev (suc n) t u
      last_or_earlier (inl is) crash earlier = rw is (omega arith)
      last_or_earlier (inr differs) (inl crash) earlier =
          absurd (omega (arith, stretch_mono ev m n (omega arith), stretch_crash ev n crash))
      last_or_earlier (inr differs) (inr no_crash) earlier =
          let so_far : seen ev m t u ≤ seen ev n t u = earlier (omega arith) (same ∙ stretch_else ev n no_crash) in
          omega (arith, seen_grows_once n t u no_crash)

  -- what q's thread has seen after event e is in the clock of q
  seen_in_clock :
      (e q u : ℕ) → crash? ev e ≡ false → crash? ev q ≡ false → e ≤ q → stretch ev e ≡ stretch ev q
      → seen ev (suc e) (thread ev q) u ≤ vc ev q u
  seen_in_clock e q u no_crash here early in_stretch = omega (arith, still_seen, by_thread (same? u (thread ev q)))
    where
      same : stretch ev (suc q) ≡ stretch ev q
      same = stretch_else ev q here

      still_seen : seen ev (suc e) (thread ev q) u ≤ seen ev (suc q) (thread ev q) u
      still_seen =
          seen_grows (suc e) (suc q) (thread ev q) u (omega arith) (stretch_else ev e no_crash ∙ in_stretch ∙ sym same)

      by_thread : (u ≡ thread ev q) ⊎ (u ≢ thread ev q) → seen ev (suc q) (thread ev q) u ≤ vc ev q u
      by_thread (inr other) = omega (arith, vc_other ev q u here other)
      by_thread (inl own_thread) =
          rw (vc_here ev q u own_thread, own_thread) (rw same at (seen_bound ev (suc q) (thread ev q) (thread ev q)))

  clocks_grow : {p n : ℕ} → crash? ev n ≡ false → Precedes ev p n → (u : ℕ) → vc ev p u ≤ vc ev n u
  clocks_grow here (own {p} {n} store in_stretch by_thread earlier) u = by_u (same? u (thread ev p))
    where
      seen_by_p : seen ev (suc p) (thread ev p) u ≤ vc ev n u
      seen_by_p = rw by_thread (seen_in_clock p n u (issue_no_crash ev store) here (omega arith) in_stretch)

      by_u : (u ≡ thread ev p) ⊎ (u ≢ thread ev p) → vc ev p u ≤ vc ev n u
      by_u (inl own_thread) =
          rw (vc_here ev p u own_thread, vc_here ev n u (own_thread ∙ by_thread), in_stretch, by_thread)
          (count_mono ev (issue? ev) (suc p) (suc n) (stretch ev n) (thread ev n) (omega arith))
      by_u (inr other) = rw (vc_other ev p u (issue_no_crash ev store) other) seen_by_p
  clocks_grow here (read {p} {n} l store in_stretch loads from by_thread load_in_stretch after early) u =
      omega (arith, brought, seen_in_clock l n u (load_no_crash ev loads) here early load_in_stretch)
    where
      joined : Joined ev l (thread ev n)
      joined =
          record {
            meets = loads_store loads (rw from store);
            by_t = by_thread;
            early = rw from after;
            in_stretch = rw from (in_stretch ∙ sym load_in_stretch);
          }

      brought : seen ev (suc l) (thread ev n) u ≡ max (seen ev l (thread ev n) u) (vc ev p u)
      brought = rw from at (seen_join ev l (thread ev n) u (→joins ev l (thread ev n) joined))
  clocks_grow here
      (handed {p} {n} s w signal s_in_stretch before waits from by_thread w_in_stretch after early) u =
      omega (
        arith,
        clocks_grow (signal_no_crash ev signal) before u,
        brought,
        seen_in_clock w n u (wait_no_crash ev waits) here early w_in_stretch,
      )
    where
      joined : Joined ev w (thread ev n)
      joined =
          record {
            meets = waits_signal waits (rw from signal);
            by_t = by_thread;
            early = rw from after;
            in_stretch = rw from (s_in_stretch ∙ sym w_in_stretch);
          }

      brought : seen ev (suc w) (thread ev n) u ≡ max (seen ev w (thread ev n) u) (vc ev s u)
      brought = rw from at (seen_join ev w (thread ev n) u (→joins ev w (thread ev n) joined))
  clocks_grow here (chain {p} {q} {n} q_store first second) u =
      let to_q : vc ev p u ≤ vc ev q u = clocks_grow (issue_no_crash ev q_store) first u in
      let to_n : vc ev q u ≤ vc ev n u = clocks_grow here second u in
      omega arith

  -- ---- the theorem

  -- of any event n: p's place is below n's clock for p's thread exactly if p is n or happens before it
  clock_is_precedes :
      (n p : ℕ) → crash? ev n ≡ false → Issue ev p → stretch ev p ≡ stretch ev n
      → (place ev p < vc ev n (thread ev p)) ↔ ((p ≡ n) ⊎ Precedes ev p n)
  clock_is_precedes n p here p_store in_stretch =
      (counted_precedes n p (seen_precedes (suc n)) here p_store in_stretch, is_counted)
    where
      itself : place ev p < vc ev p (thread ev p)
      itself = omega (arith, vc_own ev p (thread ev p) p_store refl)

      is_counted : (p ≡ n) ⊎ Precedes ev p n → place ev p < vc ev n (thread ev p)
      is_counted (inl is) = rw (← is) itself
      is_counted (inr precedes) = omega (arith, itself, clocks_grow here precedes (thread ev p))

  -- of a store q
  pub clock_is_happens_before :
      (q p : ℕ) → Issue ev q → Issue ev p → stretch ev p ≡ stretch ev q
      → (place ev p < vc ev q (thread ev p)) ↔ ((p ≡ q) ⊎ Before ev p q)
  clock_is_happens_before q p q_store p_store in_stretch =
      (λ counted. to (exactly.0 counted), λ before. exactly.1 (from before))
    where
      exactly : (place ev p < vc ev q (thread ev p)) ↔ ((p ≡ q) ⊎ Precedes ev p q)
      exactly = clock_is_precedes q p (issue_no_crash ev q_store) p_store in_stretch

      to : (p ≡ q) ⊎ Precedes ev p q → (p ≡ q) ⊎ Before ev p q
      to (inl is) = inl is
      to (inr precedes) = inr (record { store = q_store; precedes = precedes })

      from : (p ≡ q) ⊎ Before ev p q → (p ≡ q) ⊎ Precedes ev p q
      from (inl is) = inl is
      from (inr before) = inr before.precedes

  -- of a signal s, which is no store
  pub clock_is_handed :
      (s p : ℕ) → Signal ev s → Issue ev p → stretch ev p ≡ stretch ev s
      → (place ev p < vc ev s (thread ev p)) ↔ Precedes ev p s
  clock_is_handed s p signal p_store in_stretch =
      (λ counted. to (exactly.0 counted), λ precedes. exactly.1 (inr precedes))
    where
      exactly : (place ev p < vc ev s (thread ev p)) ↔ ((p ≡ s) ⊎ Precedes ev p s)
      exactly = clock_is_precedes s p (signal_no_crash ev signal) p_store in_stretch

      to : (p ≡ s) ⊎ Precedes ev p s → Precedes ev p s
      to (inl is) = false_true (sym (signal_no_issue ev signal) ∙ rw is at p_store.test)
      to (inr precedes) = precedes

  -- the same of the test, for an order that is within a stretch and that clocks compute
  by_clock :
      {Order : Type 0} (p q : ℕ) → (Order → stretch ev p ≡ stretch ev q)
      → (stretch ev p ≡ stretch ev q → (place ev p < vc ev q (thread ev p)) ↔ Order)
      → (covers? ev p q ≡ true) ↔ Order
  by_clock {Order} p q within exactly = (to, from)
    where
      to : covers? ev p q ≡ true → Order
      to passes =
          let (in_stretch, counted) = parts (eqb (stretch ev p) (stretch ev q)) _ passes in
          (exactly (eqb-true _ _ in_stretch)).0 (ltb-true _ _ counted)

      from : Order → covers? ev p q ≡ true
      from order =
          both _ _ (eq-eqb _ _ (within order)) (lt-ltb _ _ ((exactly (within order)).1 order))

  pub covers_exactly : (p q : ℕ) → Issue ev p → Issue ev q → (covers? ev p q ≡ true) ↔ AtOrBefore ev p q
  covers_exactly p q p_store q_store = by_clock p q (same_stretch ev p q) (clock_is_happens_before q p q_store p_store)

  pub covers_handed : (p s : ℕ) → Issue ev p → Signal ev s → (covers? ev p s ≡ true) ↔ Precedes ev p s
  covers_handed p s p_store signal = by_clock p s (precedes_stretch ev) (clock_is_handed s p signal p_store)
