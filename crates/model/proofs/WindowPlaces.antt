-- Windows (specs/Windows.antt): what is computed is the window (`window_is`), and a thread has no other
-- (`window_unique`); its places are those behind what gives the thread the missing store and at or before a store of
-- its own that is the observed one or happens before it (`window_places`), and what the thread issues from a place on
-- happens after the missing store (`has_precedes`); the observed store's thread has one (`observed_has_window`), for
-- what happens before that store is its thread's own or was brought by a load or wait in front of it, unless the load
-- that first brings it is the observed store's own record (`brings_itself_none`).
-- In order: what brings a store; the two ends; the window; its places; the observed store's thread.
use Prim.Native.Nat.{ℕ, suc, ◌≤◌, ◌<◌}
use native.Mathlib.Omega.{arith}
use mathlib.Core.Path.{◌≡◌, refl, sym, ◌∙◌, ap₂}
use mathlib.Core.Bool.{Bool, true, ◌&&◌}
use mathlib.Core.Logic.{◌⊎◌, inl, inr, ◌≢◌, ◌↔◌}
use lib.Dec.{eqb}
use borrow.Author.Tests.{eqb-true, eq-eqb, ne_eqb, lt-ltb, le-ltb}
use Rattle.record.specs.declared.events.Event.{Event}
use Rattle.model.specs.Search.{first, last}
use Rattle.model.specs.Trace.{thread, source, issue?, Issue, stretch}
use Rattle.model.specs.HappensBefore.{Precedes, Before, AtOrBefore, own, read, handed, chain}
use Rattle.model.specs.Rules.{Accepted}
use Rattle.model.specs.Clocks.{meets?, covers?}
use Rattle.model.specs.Windows.{Places, none, between, ComesBy, by_load, by_wait, Brings, FirstBrings}
use Rattle.model.specs.Windows.{FirstPlace, LastPlace, Window, WindowIs, BringsItself, Has, Reaches}
use Rattle.model.specs.Windows.{PlaceIn, brings?, behind, last_covered, window_of}
use Rattle.model.specs.Windows as windows
use Rattle.model.proofs.Searching.{both, parts, same?, less?, →some, first_is}
use Rattle.model.proofs.Searching.{first_found, last_is, last_largest}
use Rattle.model.proofs.Counting.{stretch_mono}
use Rattle.model.proofs.Ordering.{precedes_lt, precedes_stretch, before_lt, before_first, same_stretch}
use Rattle.model.proofs.Ordering.{at_or_before_le, before_at_or_before}
use Rattle.model.proofs.Clocks.{covers_exactly, covers_handed}
use Rattle.model.proofs.ClockSteps.{Meets, loads_store, waits_signal, meets→, →meets}
use Rattle.model.proofs.Acceptance.{source_early, wait_signalled}

module _ (ev : ℕ → Event) where
  -- ---- what brings a store

  -- what a store is or happens before is a store
  store_behind : {p q : ℕ} → Issue ev p → AtOrBefore ev p q → Issue ev q
  store_behind store (inl same) = rw same at store
  store_behind store (inr before) = before.store

  -- a store comes by an event that meets a source whose clock covers the store
  pub comes→ : (p n : ℕ) → Issue ev p → Meets ev n → covers? ev p (source ev n) ≡ true → ComesBy ev p n
  comes→ p n store (loads_store loads source_store) covered =
      by_load loads ((covers_exactly ev p (source ev n) store source_store).0 covered)
  comes→ p n store (waits_signal waits signal) covered =
      by_wait waits signal ((covers_handed ev p (source ev n) store signal).0 covered)

  pub →comes : (p n : ℕ) → Issue ev p → ComesBy ev p n → Meets ev n × (covers? ev p (source ev n) ≡ true)
  →comes p n store (by_load loads order) =
      let source_store = store_behind store order in
      (loads_store loads source_store, (covers_exactly ev p (source ev n) store source_store).1 order)
  →comes p n store (by_wait waits signal precedes) =
      (waits_signal waits signal, (covers_handed ev p (source ev n) store signal).1 precedes)

  -- the source is not earlier than the store and, in an accepted trace, earlier than the event
  pub comes_from : {p n : ℕ} → ComesBy ev p n → p ≤ source ev n
  comes_from {p} {n} (by_load loads order) = at_or_before_le ev p (source ev n) order
  comes_from {p} {n} (by_wait waits signal precedes) = omega (arith, precedes_lt ev precedes)

  pub comes_early : (N : ℕ) → Accepted ev N → {p l : ℕ} → l < N → ComesBy ev p l → source ev l < l
  comes_early N accepted {p} {l} inside (by_load loads order) = source_early ev N accepted l inside loads
  comes_early N accepted {p} {l} inside (by_wait waits signal precedes) =
      (wait_signalled ev N accepted l inside waits).early

  brings→ : (p n : ℕ) → Issue ev p → brings? ev p n ≡ true → Brings ev p n
  brings→ p n store passes =
      let (with_role, covered) = parts (eqb (stretch ev n) (stretch ev p) && meets? ev n) _ passes in
      let (in_stretch, meets) = parts (eqb (stretch ev n) (stretch ev p)) _ with_role in
      record { in_stretch = eqb-true _ _ in_stretch; comes = comes→ p n store (meets→ ev n meets) covered }

  →brings : (p n : ℕ) → Issue ev p → Brings ev p n → brings? ev p n ≡ true
  →brings p n store it =
      let (meets, covered) = →comes p n store it.comes in
      both _ _ (both _ _ (eq-eqb _ _ it.in_stretch) (→meets ev n meets)) covered

  -- ---- when thread t has store p, and reaches store q

  pub starts_has : {p t from n : ℕ} → FirstPlace ev p t from → from ≤ n → Has ev p t n
  starts_has (windows.own is_own) late = inl (is_own, late)
  starts_has (windows.brought l other it) late = inr (other, (l, late, it.by_t, it.brings))

  pub has_starts : {p t from n : ℕ} → FirstPlace ev p t from → Has ev p t n → from ≤ n
  has_starts (windows.own is_own) (inl (also, late)) = late
  has_starts (windows.own is_own) (inr (other, brought)) = absurd (other is_own)
  has_starts (windows.brought l other it) (inl (is_own, late)) = absurd (other is_own)
  has_starts {p} {t} {from} {n} (windows.brought l other it) (inr (also, (k, late, by_t, brings))) =
      by_order (less? k l)
    where
      by_order : (k < l) ⊎ (l ≤ k) → suc l ≤ n
      by_order (inl earlier) = absurd (it.none_earlier k earlier by_t brings)
      by_order (inr not_earlier_lem) = omega arith

  -- a thread has one first place at most
  pub starts_once : {p t a b : ℕ} → FirstPlace ev p t a → FirstPlace ev p t b → a ≡ b
  starts_once {p} {t} {a} {b} one two =
      omega (
        arith,
        has_starts one (starts_has {n = b} two (omega arith)),
        has_starts two (starts_has {n = a} one (omega arith)),
      )

  -- what a thread has it keeps
  pub has_still : {p t k n : ℕ} → Has ev p t k → k ≤ n → Has ev p t n
  has_still (inl (is_own, late)) later = inl (is_own, omega arith)
  has_still (inr (other, (l, late, by_t, brings))) later = inr (other, (l, omega arith, by_t, brings))

  ends_reaches : {q t to n : ℕ} → LastPlace ev q t to → n ≤ to → Reaches ev q t n
  ends_reaches {q} {t} {to} it early = (to, early, it.by_t, it.store, it.order)

  reaches_ends : {q t to n : ℕ} → LastPlace ev q t to → Reaches ev q t n → n ≤ to
  reaches_ends {q} {t} {to} {n} it (e, late, by_t, store, order) = by_order (less? to e)
    where
      by_order : (to < e) ⊎ (e ≤ to) → n ≤ to
      by_order (inl later) = absurd (it.none_later e later by_t store order)
      by_order (inr not_later) = omega arith

  -- ---- the first place as it is computed, of store p and thread t

  module _ (p t : ℕ) (p_store : Issue ev p) where
    -- event n is t's and brings p
    abbrev brings_to : ℕ → Bool
    brings_to n = eqb (thread ev n) t && brings? ev p n

    →bringsTo : (n : ℕ) → thread ev n ≡ t → Brings ev p n → brings_to n ≡ true
    →bringsTo n by_t brings = both _ _ (eq-eqb _ _ by_t) (→brings p n p_store brings)

    first_bringing : (n : ℕ) → first n brings_to < n → FirstBrings ev p t (first n brings_to)
    first_bringing n found =
        let it = first_found n brings_to found in
        let (by_t, brings) = parts (eqb (thread ev (first n brings_to)) t) _ it.passes in
        record {
          by_t = eqb-true _ _ by_t;
          brings = brings→ p (first n brings_to) p_store brings;
          none_earlier = λ k earlier by_thread brings_p.
              let late = it.smallest k (→bringsTo k by_thread brings_p) in
              omega arith;
        }

    pub first_place : (n : ℕ) → behind ev p n t < n → FirstPlace ev p t (suc (behind ev p n t))
    unfolding behind
    first_place n found = by_thread (same? t (thread ev p))
      where
        by_thread : (t ≡ thread ev p) ⊎ (t ≢ thread ev p) → FirstPlace ev p t (suc (behind ev p n t))
        by_thread (inl is_own) = rw (eq-eqb t (thread ev p) is_own) (windows.own is_own)
        by_thread (inr other) =
            let is = ne_eqb t (thread ev p) other in
            rw is (windows.brought _ other (first_bringing n (rw is at found)))

    -- nothing gives t the store p earlier than `behind` says, among the events before n
    has_behind : (n k : ℕ) → Has ev p t k → k ≤ n → behind ev p n t < k
    unfolding behind
    has_behind n k (inl (is_own, late)) within = rw (eq-eqb t (thread ev p) is_own) late
    has_behind n k (inr (other, (l, late, by_t, brings))) within =
        let passes = →bringsTo l by_t brings in
        let found = first_is n brings_to (→some n brings_to l (omega arith) passes) in
        rw (ne_eqb t (thread ev p) other) (omega (arith, found.smallest l passes))

    -- before event n thread t has p exactly if it has it behind an earlier event
    pub has_exactly : (n : ℕ) → (behind ev p n t < n) ↔ Has ev p t n
    has_exactly n = (λ found. starts_has (first_place n found) found, λ has. has_behind n n has (omega arith))

  -- ---- the last place as it is computed, of store q and thread t

  module _ (q t : ℕ) (q_store : Issue ev q) where
    -- event n is t's, a store, and q's clock covers it
    abbrev reaches_from : ℕ → Bool
    reaches_from n = issue? ev n && eqb (thread ev n) t && covers? ev n q

    →reachesFrom : (n : ℕ) → thread ev n ≡ t → Issue ev n → AtOrBefore ev n q → reaches_from n ≡ true
    →reachesFrom n by_t store order =
        both _ _ (both _ _ store.test (eq-eqb _ _ by_t)) ((covers_exactly ev n q store q_store).1 order)

    last_place : last_covered ev q t ≢ 0 → LastPlace ev q t (last_covered ev q t)
    unfolding last_covered
    last_place some =
        let (within, passes) = last_is (suc q) reaches_from some in
        let (with_thread, covered) = parts (issue? ev _ && eqb (thread ev _) t) _ passes in
        let (is_IsStore, by_t) = parts (issue? ev (last (suc q) reaches_from)) _ with_thread in
        let store : Issue ev (last (suc q) reaches_from) = record { test = is_IsStore } in
        record {
          by_t = eqb-true _ _ by_t;
          store = store;
          order = (covers_exactly ev _ q store q_store).0 covered;
          none_later = λ n later by_thread n_store order.
              let early = at_or_before_le ev n q order in
              let largest =
              last_largest (suc q) reaches_from n (omega arith) (→reachesFrom n by_thread n_store order)
              in
              omega arith;
        }

    reaches_last : (n : ℕ) → Reaches ev q t n → n ≤ last_covered ev q t
    unfolding last_covered
    reaches_last n (e, late, by_t, store, order) =
        let early = at_or_before_le ev e q order in
        let largest = last_largest (suc q) reaches_from e (omega arith) (→reachesFrom e by_t store order) in
        omega arith

  -- ---- the window, of missing p and observed q and thread t

  module _ (p q t : ℕ) (p_store : Issue ev p) (q_store : Issue ev q) where
    -- where t has p and reaches q, the ends are there, and in order
    in_order : (n : ℕ) → Has ev p t n → Reaches ev q t n → behind ev p q t < last_covered ev q t
    in_order n has reaches =
        let (e, late, by_t, store, order) = reaches in
        let early = at_or_before_le ev e q order in
        let first_early = has_behind p t p_store q n has (omega arith) in
        omega (arith, reaches_last q t q_store n reaches)

    -- THE WINDOW THAT IS COMPUTED IS THREAD t'S WINDOW
    pub window_is : WindowIs ev p q t (window_of ev p q t)
    unfolding window_of
    window_is = by_order (less? (behind ev p q t) (last_covered ev q t))
      where
        by_order :
            (behind ev p q t < last_covered ev q t) ⊎ (last_covered ev q t ≤ behind ev p q t)
            → WindowIs ev p q t (window_of ev p q t)
        by_order (inl order) =
            let ends = last_place q t q_store (λ none_found. omega arith) in
            let early = at_or_before_le ev (last_covered ev q t) q ends.order in
            rw (lt-ltb (behind ev p q t) (last_covered ev q t) order)
            (record { starts = first_place p t p_store q (omega arith); ends = ends; in_order = order })
        by_order (inr out_of_order) =
            rw (le-ltb (behind ev p q t) (last_covered ev q t) out_of_order)
            (λ from to it.
            let order =
            in_order from (starts_has it.starts (omega arith)) (ends_reaches it.ends it.in_order)
            in
            omega arith)

    -- there is one where t has p and reaches q
    pub has_window : (n : ℕ) → Has ev p t n → Reaches ev q t n → (from to : ℕ) × (window_of ev p q t ≡ between from to)
    unfolding window_of
    has_window n has reaches = (
      suc (behind ev p q t),
      last_covered ev q t,
      rw (lt-ltb (behind ev p q t) (last_covered ev q t) (in_order n has reaches)) refl,
    )

  -- a thread has one window at most
  pub window_unique : (p q t : ℕ) (one two : Places) → WindowIs ev p q t one → WindowIs ev p q t two → one ≡ two
  window_unique p q t none none it also = refl
  window_unique p q t none (between from to) no_window it = absurd (no_window from to it)
  window_unique p q t (between from to) none it no_window = absurd (no_window from to it)
  window_unique p q t (between a b) (between c d) it also =
      ap₂ between (starts_once it.starts also.starts) ends_once
    where
      ends_once : b ≡ d
      ends_once =
          omega (
            arith,
            reaches_ends it.ends (ends_reaches {n = d} also.ends (omega arith)),
            reaches_ends also.ends (ends_reaches {n = b} it.ends (omega arith)),
          )

  -- ---- the places of a window

  module _ (p q t : ℕ) (p_store : Issue ev p) (q_store : Issue ev q) where
    -- WHAT A WINDOW IS FOR: its places are those in front of which the thread has the missing store, and at or behind
    -- which it issues a store that is the observed one or happens before it
    pub window_places : (w : Places) → WindowIs ev p q t w → (n : ℕ) → PlaceIn w n ↔ (Has ev p t n × Reaches ev q t n)
    window_places (between from to) it n = (
      λ inside. (starts_has it.starts inside.0, ends_reaches it.ends inside.1),
      λ both. (has_starts it.starts both.0, reaches_ends it.ends both.1),
    )
    window_places none no_window n = (λ inside. absurd inside, from_both)
      where
        from_both : Has ev p t n × Reaches ev q t n → ⊥
        from_both (has, reaches) =
            let (from, to, is) = has_window p q t p_store q_store n has reaches in
            no_window from to (rw is at (window_is p q t p_store q_store))

    -- they are records of the stretch, none behind the observed store
    pub places_inside :
        (w : Places) → WindowIs ev p q t w → stretch ev p ≡ stretch ev q
        → (n : ℕ) → PlaceIn w n → (n ≤ q) × (stretch ev n ≡ stretch ev p)
    places_inside w it same n inside = by_has ((window_places w it n).0 inside)
      where
        by_has : Has ev p t n × Reaches ev q t n → (n ≤ q) × (stretch ev n ≡ stretch ev p)
        by_has (has, (e, late, by_t, store, order)) =
            let early = at_or_before_le ev e q order in
            (omega arith, omega (arith, stretch_mono ev n q (omega arith), from_start has))
          where
            from_start : Has ev p t n → stretch ev p ≤ stretch ev n
            from_start (inl (is_own, behind_p)) = stretch_mono ev p n (omega arith)
            from_start (inr (other, (l, behind_l, by_thread, brings))) =
                omega (arith, brings.in_stretch, stretch_mono ev l n (omega arith))

  -- in an accepted trace, where a thread has a store, what it issues from there on happens after that store
  pub has_precedes :
      (N : ℕ) → Accepted ev N → (p t n e : ℕ) → Issue ev p → Has ev p t n → n ≤ e → e < N
      → thread ev e ≡ t → stretch ev e ≡ stretch ev p → Precedes ev p e
  has_precedes N accepted p t n e store (inl (is_own, behind_p)) later inside by_t in_stretch =
      own store (sym in_stretch) (sym is_own ∙ sym by_t) (omega arith)
  has_precedes N accepted p t n e store (inr (other, (l, behind_l, by_thread, brings))) later inside by_t in_stretch =
      by_role brings.comes
    where
      s : ℕ
      s = source ev l

      here : stretch ev l ≡ stretch ev e
      here = brings.in_stretch ∙ sym in_stretch

      early : s < l
      early = comes_early N accepted (omega arith) brings.comes

      by_source : AtOrBefore ev p s → Issue ev s → Precedes ev s e → Precedes ev p e
      by_source (inl same) s_store s_precedes = rw same s_precedes
      by_source (inr before) s_store s_precedes = chain s_store before.precedes s_precedes

      by_role : ComesBy ev p l → Precedes ev p e
      by_role (by_load loads order) =
          let s_store = store_behind store order in
          by_source order s_store
          (read l s_store (sym (same_stretch ev p s order) ∙ sym in_stretch) loads refl (by_thread ∙ sym by_t) here
          early (omega arith))
      by_role (by_wait waits signal precedes) =
          handed s l signal (sym (precedes_stretch ev precedes) ∙ sym in_stretch) precedes waits refl
          (by_thread ∙ sym by_t) here early (omega arith)

  -- ---- the observed store's thread

  -- an event that brings p to n's thread, at n or before it
  pub record BroughtBy (p n : ℕ) : Type 0 where
    pub by : ℕ
    pub early : by ≤ n
    pub by_thread : thread ev by ≡ thread ev n
    pub brings : Brings ev p by

  -- what happens before a store that comes by an event comes by it too
  comes_too : {p q n : ℕ} → Before ev p q → ComesBy ev q n → ComesBy ev p n
  comes_too before (by_load loads order) = by_load loads (inr (before_at_or_before ev before order))
  comes_too before (by_wait waits signal precedes) =
      by_wait waits signal (chain before.store before.precedes precedes)

  -- what happens before an event of another thread was brought to that thread
  pub brought : {p n : ℕ} → Precedes ev p n → thread ev p ≢ thread ev n → BroughtBy p n
  brought (own store in_stretch by_thread earlier) other = absurd (other by_thread)
  brought (read l store in_stretch loads from by_thread load_in_stretch after early) other = record {
    by = l;
    early = early;
    by_thread = by_thread;
    brings = record { in_stretch = load_in_stretch ∙ sym in_stretch; comes = by_load loads (inl (sym from)) };
  }
  brought (handed s w signal in_stretch before waits from by_thread wait_in_stretch after early) other = record {
    by = w;
    early = early;
    by_thread = by_thread;
    brings = record {
      in_stretch = wait_in_stretch ∙ sym (precedes_stretch ev before ∙ in_stretch);
      comes = by_wait waits (rw from signal) (rw from before);
    };
  }
  brought (chain {p} {q} {n} q_store to_q to_n) other =
      by_thread (same? (thread ev q) (thread ev n)) (brought to_q) (brought to_n)
    where
      by_thread :
          (thread ev q ≡ thread ev n) ⊎ (thread ev q ≢ thread ev n)
          → (thread ev p ≢ thread ev q → BroughtBy p q) → (thread ev q ≢ thread ev n → BroughtBy q n)
          → BroughtBy p n
      by_thread (inl same) by_q by_n =
          let it = by_q (λ is_q. other (is_q ∙ same)) in
          record {
            by = it.by;
            early = omega (arith, it.early, precedes_lt ev to_n);
            by_thread = it.by_thread ∙ same;
            brings = it.brings;
          }
      by_thread (inr differs) by_q by_n =
          let it = by_n differs in
          let p_before_q : Before ev p q = record { store = q_store; precedes = to_q } in
          record {
            by = it.by;
            early = it.early;
            by_thread = it.by_thread;
            brings = record {
              in_stretch = it.brings.in_stretch ∙ sym (precedes_stretch ev to_q);
              comes = comes_too p_before_q it.brings.comes;
            };
          }

  -- "if q's own record is the load that first brings p to its thread, that thread has no window"
  pub brings_itself_none :
      (p q : ℕ) → Issue ev p → Issue ev q → BringsItself ev p q → window_of ev p q (thread ev q) ≡ none
  brings_itself_none p q p_store q_store itself =
      window_unique p q (thread ev q) _ none (window_is p q (thread ev q) p_store q_store) no_window
    where
      no_window : (from to : ℕ) → ¬ Window ev p q (thread ev q) from to
      no_window from to it = by_has (starts_has {n = from} it.starts (omega arith))
        where
          by_has : Has ev p (thread ev q) from → ⊥
          by_has (inl (is_own, late)) = itself.other is_own
          by_has (inr (other, (l, late, by_t, brings))) =
              let early = at_or_before_le ev to q it.ends.order in
              itself.first_brings.none_earlier l (omega (arith, it.in_order)) by_t brings

  -- "The thread of q must always have one", but for that
  pub observed_has_window :
      (p q : ℕ) → Before ev p q → ¬ BringsItself ev p q
      → (from to : ℕ) × (window_of ev p q (thread ev q) ≡ between from to)
  observed_has_window p q before not_itself =
      has_window p q (thread ev q) p_store before.store q
      (by_thread (same? (thread ev q) (thread ev p))) (q, omega arith, refl, before.store, inl refl)
    where
      p_store : Issue ev p
      p_store = before_first ev before

      has : behind ev p q (thread ev q) < q → Has ev p (thread ev q) q
      has = (has_exactly p (thread ev q) p_store q).0

      -- an event before q does not bring p: then q's own does
      itself : thread ev q ≢ thread ev p → q ≤ behind ev p q (thread ev q) → BringsItself ev p q
      itself other not_behind =
          let it = brought before.precedes (λ same. other (sym same)) in
          record {
            other = other;
            first_brings = record { by_t = refl; brings = at_q it; none_earlier = none_earlier };
          }
        where
          none_earlier : (n : ℕ) → n < q → thread ev n ≡ thread ev q → ¬ Brings ev p n
          none_earlier n early by_thread brings =
              let found = (has_exactly p (thread ev q) p_store q).1 (inr (other, (n, early, by_thread, brings))) in
              omega arith

          at_q : BroughtBy p q → Brings ev p q
          at_q it = by_place (same? it.by q)
            where
              by_place : (it.by ≡ q) ⊎ (it.by ≢ q) → Brings ev p q
              by_place (inl is_q) = rw is_q at it.brings
              by_place (inr differs) =
                  absurd (none_earlier it.by (omega (arith, it.early)) it.by_thread it.brings)

      by_thread : (thread ev q ≡ thread ev p) ⊎ (thread ev q ≢ thread ev p) → Has ev p (thread ev q) q
      by_thread (inl same) = inl (same, before_lt ev before)
      by_thread (inr other) = by_order (less? (behind ev p q (thread ev q)) q)
        where
          by_order :
              (behind ev p q (thread ev q) < q) ⊎ (q ≤ behind ev p q (thread ev q)) → Has ev p (thread ev q) q
          by_order (inl found) = has found
          by_order (inr not_behind) = absurd (not_itself (itself other not_behind))
