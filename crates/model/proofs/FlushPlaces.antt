-- A flush fault has a window in some thread, since its two stores are on two lines. The observed store's thread has one
-- unless its own record, a locked operation, is what brings it the missing store. That record then loads from a store
-- at its own location: not from the missing one, but from one that happens after it and before the observed one. Some
-- thread has a window up to that store, by induction, and so up to the observed one.
use Prim.Native.Nat.{ℕ, suc, ◌/◌, ◌≤◌, ◌<◌}
use native.Mathlib.Omega.{arith}
use mathlib.Core.Path.{◌≡◌, refl, sym, ◌∙◌, ap}
use mathlib.Core.Logic.{◌⊎◌, inl, inr, ◌≢◌}
use Rattle.record.specs.declared.events.Event.{Event}
use Rattle.model.specs.Trace.{thread, source, line, Issue, Load}
use Rattle.model.specs.HappensBefore.{Before, AtOrBefore, read}
use Rattle.model.specs.Rules.{Accepted}
use Rattle.model.specs.Windows.{ComesBy, by_load, by_wait, Has, Reaches, between, window_of}
use Rattle.model.proofs.Searching.{false_true, same?, less?}
use Rattle.model.proofs.Induction.{from_all_smaller}
use Rattle.model.proofs.Ordering.{before_lt, before_first, before_stretch, at_or_before_le, before_at_or_before}
use Rattle.model.proofs.Roles.{wait_no_issue}
use Rattle.model.proofs.Acceptance.{store_not_0, source_from, from_location, source_early}
use Rattle.model.proofs.Ranges.{issue_has_thread, thread_bound}
use Rattle.model.proofs.WindowPlaces.{BroughtBy, brought, has_window}

module _ (ev : ℕ → Event) (N : ℕ) (accepted : Accepted ev N) (p : ℕ) where
  -- a place n for the flush between p and q: thread t has p in front of it, and issues at or behind it a store that is
  -- q or happens before q
  record PlaceFor (q : ℕ) : Type 0 where
    t : ℕ
    n : ℕ
    has : Has ev p t n
    reaches : Reaches ev q t n

  -- a place for s is one for every store that s happens before
  place_further : (s q : ℕ) → Before ev s q → PlaceFor s → PlaceFor q
  place_further s q before it =
      let (e, late, by_t, store, order) = it.reaches in
      record { t = it.t; n = it.n; has = it.has; reaches = (e, late, by_t, store, inr (later order)) }
    where
      later : {e : ℕ} → AtOrBefore ev e s → Before ev e q
      later (inl same) = rw same before
      later (inr earlier) = before_at_or_before ev earlier (inr before)

  -- there is one if p happens before q, on another line
  abbrev HasPlace : ℕ → Type 0
  HasPlace q = q < N → Before ev p q → line ev p ≢ line ev q → PlaceFor q

  module _
      (q : ℕ) (smaller : (s : ℕ) → s < q → HasPlace s) (inside : q < N) (before : Before ev p q)
      (two_lines : line ev p ≢ line ev q) where
    -- q's own record brings p: it loads from a store at q's location
    place_by_source : Load ev q → AtOrBefore ev p (source ev q) → Issue ev (source ev q) → PlaceFor q
    place_by_source loads order s_store = by_order order
      where
        s : ℕ
        s = source ev q

        one_line : line ev s ≡ line ev q
        one_line =
            ap (λ (x : ℕ). x / 8)
            (from_location ev
            (source_from ev N accepted q inside loads (store_not_0 ev N accepted (omega arith) s_store)))

        early : s < q
        early = source_early ev N accepted q inside loads

        by_order : AtOrBefore ev p s → PlaceFor q
        by_order (inl same) = absurd (two_lines (ap (λ (e : ℕ). line ev e) same ∙ one_line))
        by_order (inr p_before_s) =
            let in_stretch = sym (before_stretch ev p_before_s) ∙ before_stretch ev before in
            let s_before_q : Before ev s q =
            record {
              store = before.store;
              precedes = read q s_store in_stretch loads refl refl refl early (omega arith);
            }
            in
            place_further s q s_before_q
            (smaller s early (omega (arith, early)) p_before_s (λ same. two_lines (same ∙ one_line)))

    place_by_record : ComesBy ev p q → PlaceFor q
    place_by_record (by_load loads (inl same)) = place_by_source loads (inl same) (rw same at (before_first ev before))
    place_by_record (by_load loads (inr earlier)) = place_by_source loads (inr earlier) earlier.store
    place_by_record (by_wait waits signal precedes) = false_true (sym (wait_no_issue ev waits) ∙ before.store.test)

    place_next : PlaceFor q
    place_next = by_thread (same? (thread ev q) (thread ev p))
      where
        -- the record of q, for its thread
        at_q : Has ev p (thread ev q) q → PlaceFor q
        at_q has =
            record { t = thread ev q; n = q; has = has; reaches = (q, omega arith, refl, before.store, inl refl) }

        by_event : thread ev q ≢ thread ev p → (it : BroughtBy ev p q) → (it.by < q) ⊎ (q ≤ it.by) → PlaceFor q
        by_event other it (inl earlier) = at_q (inr (other, (it.by, earlier, it.by_thread, it.brings)))
        by_event other it (inr not_earlier_lem) =
            let is_q : it.by ≡ q = omega (arith, it.early) in
            place_by_record (rw is_q at it.brings.comes)

        by_thread : (thread ev q ≡ thread ev p) ⊎ (thread ev q ≢ thread ev p) → PlaceFor q
        by_thread (inl own) = at_q (inl (own, before_lt ev before))
        by_thread (inr other) =
            let it = brought ev before.precedes (λ same. other (sym same)) in
            by_event other it (less? it.by q)

  has_place : (q : ℕ) → HasPlace q
  has_place =
      from_all_smaller HasPlace
      (λ inside before two_lines. absurd (omega (arith, before_lt ev before)))
      (λ n smaller inside before two_lines.
      place_next (suc n) (λ s below. smaller s (omega arith)) inside before two_lines)

  -- A FLUSH FAULT HAS A WINDOW IN SOME THREAD
  pub some_window :
      (q : ℕ) → q < N → Before ev p q → line ev p ≢ line ev q
      → (t from to : ℕ) × (t < 8) × (window_of ev p q t ≡ between from to)
  some_window q inside before two_lines =
      let it = has_place q inside before two_lines in
      let (e, late, by_t, store, order) = it.reaches in
      let early = at_or_before_le ev e q order in
      let few = thread_bound ev N accepted e (omega arith) (issue_has_thread ev store) in
      let (from, to, is) =
      has_window ev p q it.t (before_first ev before) before.store it.n it.has it.reaches
      in
      (it.t, from, to, rw by_t at few, is)
