-- The windows that are found are the definitions'. Of an accepted trace each record is read as its event, so behind the
-- observed store all that the records show of a thread is found; and that is its window, of which there is only one.
-- In order: all records up to the observed store; a thread's window; the eight of them, `flush_answered`.
use Prim.Native.Nat.{ℕ, zero, suc, ◌+◌, ◌-◌, ◌≤◌, ◌<◌}
use native.Mathlib.Omega.{arith}
use mathlib.Core.Path.{◌≡◌, refl}
use mathlib.Core.Bool.{true, ◌&&◌}
use mathlib.Core.Logic.{◌⊎◌, inl, inr, ◌≢◌}
use mathlib.Core.List.{List, map}
use lib.Dec.{eqb}
use borrow.Author.Tests.{eqb-true, eq-eqb}
use Rattle.std.specs.Prelude.{Option, Some, None}
use Rattle.std.proofs.lemmas.List.{same_lists, length-map, get_or-map}
use Rattle.record.specs.declared.events.Event.{Event}
use Rattle.record.specs.Parts.{start, source_at}
use Rattle.record.proofs.Starts.{read_next}
use Rattle.record.proofs.Sources.{as_source, source_past, source_at_read}
use Rattle.model.specs.declared.Kind.TheVariants.{Flush}
use Rattle.model.specs.Trace.{thread, issue?, Issue}
use Rattle.model.specs.HappensBefore.{Before, AtOrBefore}
use Rattle.model.specs.Rules.{Accepted}
use Rattle.model.specs.Clocks.{covers?}
use Rattle.model.specs.Windows.{Window, WindowIs, FirstPlace, own, brought, Has, none, window_of}
use Rattle.model.specs.Answers.{tabulate, flush, window_answer, kind_answer}
use Rattle.model.specs.Reading.{events, AcceptedWith}
use Rattle.model.proofs.Searching.{both, parts, same?, last_is, last_largest}
use Rattle.model.proofs.Ordering.{before_lt, before_first, before_stretch, at_or_before_le}
use Rattle.model.proofs.Clocks.{covers_exactly}
use Rattle.model.proofs.WindowPlaces.{has_still, starts_has, has_starts, has_exactly, first_place, window_is}
use Rattle.model.proofs.WindowPlaces.{window_unique}
use Rattle.model.proofs.TurnedAway.{passed→, accepted_events}
use Rattle.area.specs.Rows.{Rows}
use Rattle.model.proofs.Tabulating.{tabulate_length, tabulate_at}
use Rattle.windows.specs.declared.found.Ends.{Ends}
use Rattle.windows.specs.Finding.{no_ends, ends_at, noted_missing, looked_from, looked, between, window_in, windows_by}
use Rattle.windows.proofs.Shown.{some_place, place_is, lasts?, last_shown, first_shown, Shown, has→, →has, shown_first}
use Rattle.windows.proofs.Noting.{shown_missing, shown_next}

module _
    (bytes : List ℕ) (N : ℕ) (whole : AcceptedWith bytes N) (work : List ℕ) (rows : Rows (events bytes) N work)
    (p q : ℕ) (before : Before (events bytes) p q) (q_early : q < N) where
  abbrev ev : ℕ → Event
  ev = events bytes

  accepted : Accepted ev N
  accepted = accepted_events bytes N whole

  p_store : Issue ev p
  p_store = before_first ev before

  q_store : Issue ev q
  q_store = before.store

  -- ---- all records up to q

  -- what the record layer says of a record's source is what its event says
  source_there : (e : ℕ) → e < N → source_at bytes (start bytes e) ≡ as_source (ev e) (start bytes (suc e))
  unfolding events
  source_there e inside =
      let it = passed→ bytes e (whole.all_pass e inside) in
      let past = read_next bytes e it.x it.next it.is_read in
      rw (it.is_read, ← past) (source_at_read bytes (start bytes e) it.x it.next it.is_read)

  looked_shown :
      (k e : ℕ) (found : List Ends) → p ≤ e → e + k ≡ q → Shown ev p q (suc e) (suc e) found
      → Shown ev p q (suc q) (suc q) (looked_from bytes work p q k e (start bytes (suc e)) found)
  unfolding looked_from
  looked_shown zero e found from_p all shown = let at_end : e ≡ q = omega arith in rw at_end at shown
  looked_shown (suc k) e found from_p all shown =
      rw (source_there (suc e) (omega arith), source_past (ev (suc e)) (start bytes (suc (suc e))))
      (looked_shown k (suc e) _ (omega arith) (omega arith)
      (shown_next ev p q N accepted work rows p_store q_store (before_stretch ev before) q_early (suc e) (omega arith)
      (omega arith) shown (start bytes (suc (suc e)))))

  all_shown : Shown ev p q (suc q) (suc q) (looked bytes work p q (noted_missing (thread ev p) p))
  unfolding looked
  all_shown =
      let p_before_q = before_lt ev before in
      looked_shown (q - p) p _ (omega arith) (omega arith)
      (shown_missing ev p q N accepted work rows p_store q_store (before_stretch ev before) q_early (omega arith))

  -- ---- a thread's window

  module _ (t : ℕ) where
    -- the store that is shown last, if there is one
    abbrev to : ℕ
    to = last_shown ev p q (suc q) t

    record IsLast : Type 0 where
      store : Issue ev to
      by_t : thread ev to ≡ t
      order : AtOrBefore ev to q
      has : Has ev p t to

    →lasts : (n : ℕ) → thread ev n ≡ t → Issue ev n → AtOrBefore ev n q → Has ev p t n → lasts? ev p q t n ≡ true
    →lasts n by_t store order has =
        both _ _
        (both _ _ (both _ _ store.test (eq-eqb _ _ by_t)) ((covers_exactly ev n q store q_store).1 order))
        (→has ev p q p_store n t has)

    no_later : (n : ℕ) → thread ev n ≡ t → Issue ev n → AtOrBefore ev n q → Has ev p t n → n ≤ to
    unfolding last_shown
    no_later n by_t store order has =
        let early = at_or_before_le ev n q order in
        last_largest (suc q) (lasts? ev p q t) n (omega arith) (→lasts n by_t store order has)

    ends : to ≢ 0 → IsLast
    unfolding last_shown
    ends some =
        let passes = (last_is (suc q) (lasts? ev p q t) some).1 in
        let (with_order, has) = parts (issue? ev to && eqb (thread ev to) t && covers? ev to q) _ passes in
        let (with_thread, covered) = parts (issue? ev to && eqb (thread ev to) t) _ with_order in
        let (is_IsStore, by_t) = parts (issue? ev to) _ with_thread in
        let store : Issue ev to = record { test = is_IsStore } in
        record {
          store = store;
          by_t = eqb-true _ _ by_t;
          order = (covers_exactly ev to q store q_store).0 covered;
          has = has→ ev p q p_store to t has;
        }

    shown_window : to ≢ 0 → Window ev p q t (first_shown ev p q (suc q) t) to
    shown_window some =
        let it = ends some in
        let early = at_or_before_le ev to q it.order in
        let has : Has ev p t (suc q) = has_still ev it.has (omega arith) in
        let starts = first_place ev p t p_store (suc q) ((has_exactly ev p t p_store (suc q)).1 has) in
        rw (shown_first ev p q p_store (suc q) t _ has starts)
        (record {
          starts = starts;
          ends = record {
            by_t = it.by_t;
            store = it.store;
            order = it.order;
            none_later = λ n later by_thread store order.
                omega (arith, no_later n by_thread store order (has_still ev it.has (omega arith)));
          };
          in_order = has_starts ev starts it.has;
        })

    no_window : to ≡ 0 → (a b : ℕ) → ¬ Window ev p q t a b
    no_window none_shown a b it =
        let has = starts_has ev it.starts it.in_order in
        omega (arith, no_later b it.ends.by_t it.ends.store it.ends.order has, positive has)
      where
        positive : {n : ℕ} → Has ev p t n → 0 < n
        positive (inl (is_own, late)) = omega arith
        positive (inr (other, (l, late, by_t, brings))) = omega arith

    -- the two places as an answer
    is_window :
        (from : ℕ) → (to ≢ 0 → Window ev p q t from to)
        → WindowIs ev p q t (window_answer (between (some_place from) (some_place to)))
    is_window from there = by_end (same? to 0)
      where
        none_between : (first : Option ℕ) → window_answer (between first None) ≡ none
        none_between None = refl
        none_between (Some first) = refl

        starts_some : {n : ℕ} → FirstPlace ev p t n → some_place n ≡ Some n
        starts_some (own is_own) = refl
        starts_some (brought l other first) = refl

        by_end :
            (to ≡ 0) ⊎ (to ≢ 0)
            → WindowIs ev p q t (window_answer (between (some_place from) (some_place to)))
        by_end (inl none_shown) = rw (none_shown, none_between (some_place from)) (no_window none_shown)
        by_end (inr some) =
            let window = there some in
            rw (starts_some window.starts, place_is to (omega arith)) window

    window_answered :
        (found : List Ends) → Shown ev p q (suc q) (suc q) found → t < 8
        → window_answer (window_in (ends_at found t)) ≡ window_of ev p q t
    window_answered found shown below =
        window_unique ev p q t (window_answer (window_in (ends_at found t))) (window_of ev p q t)
        (rw (shown.firsts t below, shown.lasts t below) (is_window (first_shown ev p q (suc q) t) shown_window))
        (window_is ev p q t p_store q_store)

  -- ---- the windows of threads 0 to 7

  -- THE WINDOWS THAT ARE FOUND ARE THE DEFINITIONS'
  pub flush_answered :
      kind_answer (Flush (windows_by bytes work p q)) ≡ flush (thread ev p) (tabulate 8 (window_of ev p q))
  flush_answered =
      let p_before_q = before_lt ev before in
      rw (
        (rows.stores p (omega arith) p_store).thread_is,
        all_answered (looked bytes work p q (noted_missing (thread ev p) p)) all_shown,
      )
      refl
    where
      all_answered :
          (found : List Ends) → Shown ev p q (suc q) (suc q) found
          → map window_answer (map window_in found) ≡ tabulate 8 (window_of ev p q)
      all_answered found shown =
          let once = length-map found window_in in
          let twice = length-map (map window_in found) window_answer in
          let eight = tabulate_length 8 (window_of ev p q) in
          let size = shown.size in
          same_lists (map window_answer (map window_in found)) (tabulate 8 (window_of ev p q)) (omega arith)
          (λ t d below.
          rw (
            get_or-map window_answer (map window_in found) t None d (omega arith),
            get_or-map window_in found t no_ends None (omega arith),
            tabulate_at 8 (window_of ev p q) t d (omega arith),
          )
          (window_answered t found shown (omega arith)))
