-- What is noted of a record is what it shows of its thread: behind the missing store p only its own thread has it
-- (`shown_missing`), and each event up to the observed store q is shown by what is noted of it (`shown_next`): first as
-- a store (`shown_store`), which asks what the events in front of it bring, and then as a load or wait
-- (`shown_source`). A store is asked of its row, a load and a wait of its source's.
-- In order: a thread's ends noted; up to p; one event more, as a store, as a load or wait, as both.
use Prim.Native.Nat.{ℕ, suc, ◌≤◌, ◌<◌, ◌%◌}
use native.Mathlib.Omega.{arith}
use native.Mathlib.Nat.{mod-eq_of_lt}
use mathlib.Core.Path.{◌≡◌, refl, sym, ◌∙◌}
use mathlib.Core.Bool.{Bool, true, false, cond, not, ◌&&◌, ◌||◌, and-true, and-false}
use mathlib.Core.Logic.{◌⊎◌, inl, inr, ◌≢◌, ◌↔◌}
use mathlib.Core.List.{List}
use lib.ListN.{length, set, replicate, length-set}
use lib.Seq.{get_or-set_same, get_or-set_other}
use lib.Dec.{eqb, leb}
use borrow.Author.Tests.{eq-eqb, ne_eqb, le-leb, leb-true}
use Rattle.std.specs.Prelude.{Some}
use Rattle.std.proofs.lemmas.List.{get_or-replicate}
use Rattle.record.specs.declared.events.Event.{Event}
use Rattle.record.proofs.Sources.{as_source, sourced_kinds}
use Rattle.record.specs.Parts.{no_source}
use Rattle.std.specs.Prelude.{Some}
use Rattle.record.specs.Tests.{◌gives◌else◌}
use Rattle.model.specs.Search.{last}
use Rattle.model.specs.Trace.{kind, thread, source, has_thread?, issue?, load?, wait?, Issue, Load, Wait, stretch}
use Rattle.model.specs.Rules.{Accepted}
use Rattle.model.specs.Clocks.{covers?}
use Rattle.model.specs.Windows.{ComesBy, by_load, by_wait, Brings, Has}
use Rattle.model.specs.Windows as windows
use Rattle.model.proofs.Searching.{test, both, parts, false_true, or_left, or_right, same?, eqb_same}
use Rattle.model.proofs.Searching.{second_fails, last_none}
use Rattle.model.proofs.Counting.{stretch_mono}
use Rattle.model.proofs.Roles.{issue_or_not}
use Rattle.model.proofs.ClockSteps.{Meets, loads_store, waits_signal}
use Rattle.model.proofs.Acceptance.{event_bound, from_store, source_from, source_early, wait_signalled, store_not_0}
use Rattle.model.proofs.Ranges.{issue_has_thread, load_has_thread, wait_has_thread, thread_bound}
use Rattle.model.proofs.WindowPlaces.{comes→, →comes, comes_from, comes_early}
use Rattle.area.specs.Cells.{get_row, clock_covers_w}
use Rattle.area.specs.Rows.{Rows}
use Rattle.area.proofs.Covering.{covers_is, source_covers_is, other_stretch}
use Rattle.area.proofs.ReadBack.{up_is}
use Rattle.windows.specs.declared.found.Ends.{Ends}
use Rattle.windows.specs.Finding.{no_ends, ends_at, with_first, with_last}
use Rattle.windows.specs.Finding.{noted_missing, ends_w, noted_store, brings_w, noted_source, noted}
use Rattle.windows.proofs.Shown.{some_place, place_is, has?, first_shown, lasts?, last_shown, Shown, →has, has_or_not}
use Rattle.windows.proofs.Shown.{not_has, shown_first, shown_none, shown_some, shown_yet, first_keeps, first_comes}

-- ---- a thread's ends noted

-- of thread T, where those of thread t are asked for
noted_at :
    (found : List Ends) → length found ≡ 8 → (T : ℕ) (v : Ends) (t : ℕ) → t < 8
    → ends_at (set found T v) t ≡ cond (eqb T t) v (ends_at found t)
noted_at found size T v t below = by_thread (same? T t)
  where
    by_thread : (T ≡ t) ⊎ (T ≢ t) → ends_at (set found T v) t ≡ cond (eqb T t) v (ends_at found t)
    by_thread (inl same) = rw (eq-eqb T t same, same) (get_or-set_same found t v no_ends (omega arith))
    by_thread (inr other) = rw (ne_eqb T t other) (get_or-set_other found T t v no_ends (λ same. other (sym same)))

module _
    (ev : ℕ → Event) (p q : ℕ) {n m : ℕ} {found : List Ends} (shown : Shown ev p q n m found)
    (T v : ℕ) (t_below : T < 8) (some : 0 < v) where
  -- the first places after one event more, where v is noted for thread T or nothing is
  first_noted :
      (opens : Bool)
      → ((t : ℕ) → first_shown ev p q (suc n) t ≡ cond (opens && eqb T t) v (first_shown ev p q n t))
      → Shown ev p q (suc n) m (opens gives with_first found T v else found)
  first_noted true comes = record {
    size = length-set found T _ ∙ shown.size;
    firsts = λ t below. rw (noted_at found shown.size T _ t below, comes t) (first_at t below (same? T t));
    lasts = λ t below. rw (noted_at found shown.size T _ t below) (last_at t below (same? T t));
  }
    where
      first_at :
          (t : ℕ) → t < 8 → (T ≡ t) ⊎ (T ≢ t)
          → (cond (eqb T t) (record (ends_at found T) { first = Some v }) (ends_at found t)).first
          ≡ some_place (cond (eqb T t) v (first_shown ev p q n t))
      first_at t below (inl same) = rw (eq-eqb T t same) (sym (place_is v some))
      first_at t below (inr other) = rw (ne_eqb T t other) (shown.firsts t below)

      last_at :
          (t : ℕ) → t < 8 → (T ≡ t) ⊎ (T ≢ t)
          → (cond (eqb T t) (record (ends_at found T) { first = Some v }) (ends_at found t)).last
          ≡ some_place (last_shown ev p q m t)
      last_at t below (inl same) = rw (eq-eqb T t same, same) (shown.lasts t below)
      last_at t below (inr other) = rw (ne_eqb T t other) (shown.lasts t below)
  first_noted false comes = record {
    size = shown.size;
    firsts = λ t below. rw (comes t) (shown.firsts t below);
    lasts = shown.lasts;
  }

  -- the last places
  last_noted :
      (ends : Bool)
      → ((t : ℕ) → last_shown ev p q (suc m) t ≡ cond (ends && eqb T t) v (last_shown ev p q m t))
      → Shown ev p q n (suc m) (ends gives with_last found T v else found)
  last_noted true comes = record {
    size = length-set found T _ ∙ shown.size;
    firsts = λ t below. rw (noted_at found shown.size T _ t below) (first_at t below (same? T t));
    lasts = λ t below. rw (noted_at found shown.size T _ t below, comes t) (last_at t below (same? T t));
  }
    where
      first_at :
          (t : ℕ) → t < 8 → (T ≡ t) ⊎ (T ≢ t)
          → (cond (eqb T t) (record (ends_at found T) { last = Some v }) (ends_at found t)).first
          ≡ some_place (first_shown ev p q n t)
      first_at t below (inl same) = rw (eq-eqb T t same, same) (shown.firsts t below)
      first_at t below (inr other) = rw (ne_eqb T t other) (shown.firsts t below)

      last_at :
          (t : ℕ) → t < 8 → (T ≡ t) ⊎ (T ≢ t)
          → (cond (eqb T t) (record (ends_at found T) { last = Some v }) (ends_at found t)).last
          ≡ some_place (cond (eqb T t) v (last_shown ev p q m t))
      last_at t below (inl same) = rw (eq-eqb T t same) (sym (place_is v some))
      last_at t below (inr other) = rw (ne_eqb T t other) (shown.lasts t below)
  last_noted false comes = record {
    size = shown.size;
    firsts = shown.firsts;
    lasts = λ t below. rw (comes t) (shown.lasts t below);
  }

-- the tests of a last place, of thread T where t is asked for, in the code's order
test_in_turn :
    (T t : ℕ) (covered : Bool) (has : ℕ → Bool) → (eqb T t && covered && has t) ≡ (covered && has T && eqb T t)
test_in_turn T t covered has = by_thread (same? T t)
  where
    by_thread : (T ≡ t) ⊎ (T ≢ t) → (eqb T t && covered && has t) ≡ (covered && has T && eqb T t)
    by_thread (inl same) = rw (same, eqb_same t) (sym (and-true (covered && has t)))
    by_thread (inr other) = rw (ne_eqb T t other) (sym (and-false (covered && has T)))

module _
    (ev : ℕ → Event) (p q N : ℕ) (accepted : Accepted ev N) (work : List ℕ) (rows : Rows ev N work)
    (p_store : Issue ev p) (q_store : Issue ev q) (in_stretch : stretch ev p ≡ stretch ev q) (q_early : q < N) where
  -- ---- up to p

  -- no thread has p before p: what brings p comes behind its source, which is p or a later store
  not_before : (n t : ℕ) → n ≤ p → p < N → ¬ Has ev p t n
  not_before n t early inside (inl (is_own, late)) = omega arith
  not_before n t early inside (inr (other, (l, late, by_t, brings))) =
      omega (arith, comes_from ev brings.comes, comes_early ev N accepted (omega arith) brings.comes)

  -- right behind it only its own thread has it
  pub shown_missing : p < N → Shown ev p q (suc p) (suc p) (noted_missing (thread ev p) p)
  unfolding last_shown
  shown_missing inside =
      rw (mod-eq_of_lt own_below, up_is p (omega (arith, event_bound ev N accepted p inside)))
      (first_noted ev p q none_yet (thread ev p) (suc p) own_below (omega arith) true comes)
    where
      own_below : thread ev p < 8
      own_below = thread_bound ev N accepted p inside (issue_has_thread ev p_store)

      none_yet : Shown ev p q p (suc p) (replicate 8 no_ends)
      none_yet = record {
        size = refl;
        firsts = λ t below.
            rw (
              get_or-replicate 8 t no_ends no_ends below,
              shown_none ev p q p_store p t (not_before p t (omega arith) inside),
            )
            refl;
        lasts = λ t below.
            let none_last = last_none (suc p) (lasts? ev p q t)
            (λ e early.
            second_fails (issue? ev e && eqb (thread ev e) t && covers? ev e q) (has? ev p q e t)
            (not_has ev p q p_store e t (not_before e t (omega arith) inside))) in
            rw (get_or-replicate 8 t no_ends no_ends below, none_last) refl;
      }

      comes : (t : ℕ) → first_shown ev p q (suc p) t ≡ cond (eqb (thread ev p) t) (suc p) (first_shown ev p q p t)
      comes t = by_thread (same? (thread ev p) t)
        where
          by_thread :
              (thread ev p ≡ t) ⊎ (thread ev p ≢ t)
              → first_shown ev p q (suc p) t ≡ cond (eqb (thread ev p) t) (suc p) (first_shown ev p q p t)
          by_thread (inl own) =
              rw (eq-eqb (thread ev p) t own)
              (shown_first ev p q p_store (suc p) t (suc p) (inl (sym own, omega arith)) (windows.own (sym own)))
          by_thread (inr other) =
              rw (ne_eqb (thread ev p) t other)
              (first_keeps ev p q p_store p t (λ own. absurd (other (sym own))) (λ by_t. absurd (other by_t)))

  -- ---- one event more, behind p and no later than q

  module _ (n : ℕ) (later : p < n) (within : n ≤ q) where
    -- its thread and its source
    abbrev T : ℕ
    T = thread ev n

    abbrev s : ℕ
    s = source ev n

    -- where the code looks for its thread's places
    abbrev i : ℕ
    i = get_row work n 8 % 8

    -- as a store. One that is none is covered by none: its row has no stretch
    pub shown_store : {found : List Ends} → Shown ev p q n n found → Shown ev p q n (suc n) (noted_store work q found n)
    unfolding last_shown last
    shown_store {found} shown =
        last_noted ev p q shown i n (omega arith) (omega arith) (ends_w work q found n i)
        (λ t. comes t (issue_or_not ev n))
      where
        comes :
            (t : ℕ) → Issue ev n ⊎ (issue? ev n ≡ false)
            → last_shown ev p q (suc n) t ≡ cond (ends_w work q found n i && eqb i t) n (last_shown ev p q n t)
        comes t (inl store) =
            let t_below = thread_bound ev N accepted n (omega arith) (issue_has_thread ev store) in
            rw (
              covers_is ev N accepted work rows n q (omega arith) store q_early q_store,
              (rows.stores n (omega arith) store).thread_is,
              mod-eq_of_lt t_below,
              shown.firsts T t_below,
              shown_some ev p q p_store n T,
              store.test,
              test_in_turn T t (covers? ev n q) (has? ev p q n),
            )
            refl
        comes t (inr no_store_lem) =
            let differs =
            other_stretch ev N accepted work rows n q (omega arith) (omega arith) no_store_lem q_early q_store
            in
            rw (no_store_lem, ne_eqb (get_row work n 10) (get_row work q 10) differs) refl

    -- what brings nothing that its thread does not have leaves the first places
    firsts_keep :
        (Brings ev p n → Has ev p T n) → (t : ℕ) → first_shown ev p q (suc n) t ≡ first_shown ev p q n t
    firsts_keep had t = first_keeps ev p q p_store n t (λ own. later) (λ by_t brings. rw by_t at (had brings))

    -- as a load or a wait
    module _ (sourced : Load ev n ⊎ Wait ev n) where
      s_early : Load ev n ⊎ Wait ev n → s < n
      s_early (inl loads) = source_early ev N accepted n (omega arith) loads
      s_early (inr waits) = (wait_signalled ev N accepted n (omega arith) waits).early

      t_has : Load ev n ⊎ Wait ev n → has_thread? ev n ≡ true
      t_has (inl loads) = load_has_thread ev loads
      t_has (inr waits) = wait_has_thread ev waits

      -- a source that is not below p is a store, or a signal
      meets_at : p ≤ s → Load ev n ⊎ Wait ev n → Meets ev n
      meets_at late (inl loads) =
          let some_p = store_not_0 ev N accepted (omega arith) p_store in
          loads_store loads (from_store ev (source_from ev N accepted n (omega arith) loads (λ none. omega arith)))
      meets_at late (inr waits) = waits_signal waits (wait_signalled ev N accepted n (omega arith) waits).signal

      -- and of p's stretch, so its clock says whether it covers p
      covers_source : p ≤ s → Meets ev n → clock_covers_w work p s ≡ covers? ev p s
      covers_source late meets =
          let early = s_early sourced in
          source_covers_is ev N accepted work rows p n (omega arith) p_store meets (omega arith)
          (omega (arith, stretch_mono ev p s late, stretch_mono ev s q (omega arith)))

      -- what is asked of the source says whether the event brings p
      brings_exactly : (brings_w work p s ≡ true) ↔ Brings ev p n
      brings_exactly = (brings→, →brings)
        where
          brings→ : brings_w work p s ≡ true → Brings ev p n
          brings→ passes =
              let (not_below, covered) = parts (leb p s) _ passes in
              let late = leb-true _ _ not_below in
              let meets = meets_at late sourced in
              record {
                in_stretch = omega (arith, stretch_mono ev p n (omega arith), stretch_mono ev n q within);
                comes = comes→ ev p n p_store meets (sym (covers_source late meets) ∙ covered);
              }

          →brings : Brings ev p n → brings_w work p s ≡ true
          →brings brings =
              let (meets, covered) = →comes ev p n p_store brings.comes in
              let late = comes_from ev brings.comes in
              both _ _ (le-leb _ _ late) (covers_source late meets ∙ covered)

      pub shown_source :
          {m : ℕ} {found : List Ends} → Shown ev p q n m found
          → Shown ev p q (suc n) m (noted_source work p found n T s)
      shown_source {m} {found} shown =
          rw (
            mod-eq_of_lt t_below,
            up_is n (omega (arith, event_bound ev N accepted n (omega arith))),
            shown.firsts T t_below,
            shown_yet ev p q p_store n T,
          )
          (first_noted ev p q shown T (suc n) t_below (omega arith) (not (has? ev p q n T) && brings_w work p s)
          (λ t. comes t (same? T t) (has_or_not ev p q p_store n T) (test (brings_w work p s))))
        where
          t_below : T < 8
          t_below = thread_bound ev N accepted n (omega arith) (t_has sourced)

          comes :
              (t : ℕ) → (T ≡ t) ⊎ (T ≢ t) → Has ev p T n ⊎ (¬ Has ev p T n)
              → (brings_w work p s ≡ true) ⊎ (brings_w work p s ≡ false)
              → first_shown ev p q (suc n) t
              ≡ cond (not (has? ev p q n T) && brings_w work p s && eqb T t) (suc n) (first_shown ev p q n t)
          comes t thread_is (inl has) passes =
              rw (→has ev p q p_store n T has) (firsts_keep (λ brings. has) t)
          comes t (inl same) (inr not_yet) (inl passes) =
              rw (not_has ev p q p_store n T not_yet, passes, eq-eqb T t same)
              (rw same at (first_comes ev p q p_store n T later not_yet refl (brings_exactly.0 passes)))
          comes t (inr other) (inr not_yet) (inl passes) =
              rw (not_has ev p q p_store n T not_yet, passes, ne_eqb T t other)
              (first_keeps ev p q p_store n t (λ own. later) (λ by_t. absurd (other by_t)))
          comes t thread_is (inr not_yet) (inr fails) =
              rw (not_has ev p q p_store n T not_yet, fails)
              (firsts_keep (λ brings. false_true (sym fails ∙ brings_exactly.1 brings)) t)

    -- ONE EVENT MORE IS SHOWN BY WHAT IS NOTED OF IT
    pub shown_next :
        {found : List Ends} → Shown ev p q n n found → (past : ℕ)
        → Shown ev p q (suc n) (suc n) (noted work p q found n (as_source (ev n) past))
    shown_next {found} shown past =
        rw (sourced_kinds (kind ev n)) (by_role (test (load? ev n)) (test (wait? ev n)))
      where
        none_comes : load? ev n ≡ false → wait? ev n ≡ false → ComesBy ev p n → Has ev p T n
        none_comes no_load no_wait (by_load loads order) = false_true (sym no_load ∙ loads.test)
        none_comes no_load no_wait (by_wait waits signal precedes) = false_true (sym no_wait ∙ waits.test)

        by_role :
            (load? ev n ≡ true) ⊎ (load? ev n ≡ false) → (wait? ev n ≡ true) ⊎ (wait? ev n ≡ false)
            → Shown ev p q (suc n) (suc n)
            (noted work p q found n
            ((load? ev n || wait? ev n) gives
            record { source = Some (record { thread = T; source = s }); next = past } else
            no_source past))
        by_role (inl loads) waits =
            rw (or_left (load? ev n) (wait? ev n) loads)
            (shown_source (inl (record { test = loads })) (shown_store shown))
        by_role (inr other) (inl waits) =
            rw (or_right (load? ev n) (wait? ev n) waits)
            (shown_source (inr (record { test = waits })) (shown_store shown))
        by_role (inr no_load) (inr no_wait) =
            rw (no_load, no_wait)
            (first_noted ev p q (shown_store shown) 0 1 (omega arith) (omega arith) false
            (firsts_keep (λ brings. none_comes no_load no_wait brings.comes)))
