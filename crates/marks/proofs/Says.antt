-- What the marks say: the flags which stores are forbidden (F) and observed (O), the cut a choice (C), and the lowest
-- places those of F. Marking a store adds it to F; observing one adds it to O and raises C to its clock.
-- In order: flags; a store whose row and numbers are there; the same said otherwise; the lowest place of a thread; a
-- store in the cut; marking a store; observing one.
use Prim.Native.Nat.{ℕ, suc, ◌+◌, ◌*◌, ◌%◌, ◌≤◌, ◌<◌, max}
use native.Mathlib.Omega.{arith}
use mathlib.Core.Path.{◌≡◌, refl, sym, ◌∙◌, ap, ap₂, subst, fun_ext}
use mathlib.Core.Bool.{Bool, true, false, cond, ◌||◌}
use mathlib.Core.Logic.{◌⊎◌, inl, inr, ◌≢◌}
use mathlib.Core.List.{List}
use lib.ListN.{get_or, set, length-set}
use lib.Dec.{eqb, ltb}
use lib.Seq.{get_or-set_same, get_or-set_other}
use borrow.Author.Tests.{eqb-true, eq-eqb, ne_eqb, lt-ltb, le-ltb}
use Rattle.record.specs.declared.events.Event.{Event}
use Rattle.model.specs.Search.{bit}
use Rattle.model.specs.Trace.{thread, Issue, stretch, place}
use Rattle.model.specs.Rules.{Accepted}
use Rattle.model.specs.Choice.{Choice}
use Rattle.model.specs.Clocks.{vc}
use Rattle.model.proofs.Searching.{same?, less?, or_cases, or_left, or_right, eqb_same}
use Rattle.model.proofs.Counting.{stretch_else, earlier_stretch}
use Rattle.model.proofs.Roles.{issue_no_crash}
use Rattle.model.proofs.ClockSteps.{vc_own}
use Rattle.model.proofs.Acceptance.{store_not_0, event_bound}
use Rattle.model.proofs.Limits.{few_crashes}
use Rattle.model.proofs.StorePlaces.{stretch_some}
use Rattle.model.proofs.Ranges.{issue_has_thread, thread_bound}
use Rattle.model.proofs.RulingSteps.{Over}
use Rattle.area.specs.Cells.{row_start, get_row, joined}
use Rattle.area.specs.Rows.{StoreRow, Rows}
use Rattle.area.proofs.Joins.{joined_size, joined_leaves, joined_there}
use Rattle.marks.specs.declared.cells.Marks.{Marks}
use Rattle.marks.specs.Marks.{marks_of, thread_cell, flag_cell, count_in, flag_in, low_in}
use Rattle.marks.specs.Marking.{forbid, observe, lower, own_in, marked, seen_from}
use Rattle.marks.specs.Testing.{in_cut}
use Rattle.marks.specs.Matching.{PlaceOf, AtMost, Says}

-- ---- flags

forbid_bits : (a b : Bool) → forbid (bit a + 2 * bit b) ≡ 1 + 2 * bit b
forbid_bits true true = refl
forbid_bits true false = refl
forbid_bits false true = refl
forbid_bits false false = refl

observe_bits : (a b : Bool) → observe (bit a + 2 * bit b) ≡ bit a + 2
observe_bits true true = refl
observe_bits true false = refl
observe_bits false true = refl
observe_bits false false = refl

module _ (ev : ℕ → Event) where
  -- ---- a store whose row and numbers are there

  pub record Fit (n p : ℕ) : Type 0 where
    pub store : Issue ev p
    pub early : p < n
    pub from_1 : 1 ≤ p
    pub to_2047 : p ≤ 2047
    pub stretch_from_1 : 1 ≤ stretch ev p
    pub stretch_to_7 : stretch ev p ≤ 7
    pub thread_below_8 : thread ev p < 8

  -- a store of an accepted trace in a stretch that is over: a crash comes after it
  pub fits : (N n p : ℕ) → Accepted ev N → n ≤ N → Over ev n p → Fit n p
  fits N n p accepted within over = record {
    store = over.store;
    early = over.early;
    from_1 = positive p (store_not_0 ev N accepted (omega (arith, over.early)) over.store);
    to_2047 = omega (arith, event_bound ev N accepted (suc p) (omega (arith, not_last)));
    stretch_from_1 = stretch_some ev p;
    stretch_to_7 = omega (arith, over.over, few_crashes ev N accepted n within);
    thread_below_8 =
        thread_bound ev N accepted p (omega (arith, over.early)) (issue_has_thread ev over.store);
  }
    where
      not_last : suc p < n
      not_last =
          earlier_stretch ev (suc p) n (rw (stretch_else ev p (issue_no_crash ev over.store)) over.over)

      positive : (p : ℕ) → p ≢ 0 → 1 ≤ p
      positive p some = omega arith

  -- ---- the same said otherwise

  pub pointwise :
      (S : (ℕ → Bool) → (ℕ → Bool) → Choice → Type 0) {F G O P : ℕ → Bool} {C D : Choice}
      → ((p : ℕ) → F p ≡ G p) → ((q : ℕ) → O q ≡ P q) → ((j t : ℕ) → C j t ≡ D j t) → S F O C → S G P D
  pointwise S {F} {G} {O} {P} {C} {D} same_f same_o same_c it =
      subst (λ (X : ℕ → Bool). S X P D) (fun_ext same_f)
      (subst (λ (X : ℕ → Bool). S F X D) (fun_ext same_o)
      (subst (λ (X : Choice). S F O X) (fun_ext λ j. fun_ext λ t. same_c j t) it))

  pub says_same :
      {F G O P : ℕ → Bool} {C D : Choice} {m : Marks}
      → ((p : ℕ) → F p ≡ G p) → ((q : ℕ) → O q ≡ P q) → ((j t : ℕ) → C j t ≡ D j t)
      → Says ev F O C m → Says ev G P D m
  says_same {m = m} = pointwise (λ F O C. Says ev F O C m)

  -- ---- the lowest place of stretch j and thread t

  record Low (F : ℕ → Bool) (j t low : ℕ) : Type 0 where
    of_store : low ≢ 0 → PlaceOf ev F j t low
    not_above : (p : ℕ) → F p ≡ true → stretch ev p ≡ j → thread ev p ≡ t → AtMost ev low p

  low_of :
      {F O : ℕ → Bool} {C : Choice} {m : Marks} → Says ev F O C m
      → (j t : ℕ) → 1 ≤ j → j ≤ 7 → t < 8 → Low F j t (low_in m j t)
  low_of says j t from_1 to_7 there =
      record { of_store = says.lows j t from_1 to_7 there; not_above = says.lowest j t from_1 to_7 there }

  -- with store q more
  module _ (F : ℕ → Bool) (q : ℕ) where
    abbrev with_q : ℕ → Bool
    with_q p = eqb q p || F p

    module _ (j t old : ℕ) (low : Low F j t old) where
      old_place : old ≢ 0 → PlaceOf ev with_q j t old
      old_place some =
          let it = low.of_store some in
          record {
            p = it.p;
            in_f = or_right (eqb q it.p) _ it.in_f;
            in_j = it.in_j;
            by_t = it.by_t;
            is_it = it.is_it;
          }

      -- r is not above a place of q, nor of the others
      all_above :
          (r : ℕ) → (stretch ev q ≡ j → thread ev q ≡ t → AtMost ev r q) → (1 ≤ old → (1 ≤ r) × (r ≤ old))
          → (p : ℕ) → with_q p ≡ true → stretch ev p ≡ j → thread ev p ≡ t → AtMost ev r p
      all_above r of_q of_old p in_f in_j by_t = by_store (or_cases (eqb q p) (F p) in_f)
        where
          by_store : (eqb q p ≡ true) ⊎ (F p ≡ true) → AtMost ev r p
          by_store (inl is_q) =
              let same = eqb-true q p is_q in
              rw same at (of_q (rw same in_j) (rw same by_t))
          by_store (inr before) =
              let it = low.not_above p before in_j by_t in
              let bounds = of_old it.some in
              record { some = bounds.0; at_most = omega (arith, it.at_most, bounds.1) }

      low_elsewhere : (stretch ev q ≡ j → thread ev q ≡ t → ⊥) → Low with_q j t old
      low_elsewhere elsewhere = record {
        of_store = old_place;
        not_above = all_above old (λ in_j by_t. absurd (elsewhere in_j by_t)) (λ some. (some, omega arith));
      }

      low_lowered : stretch ev q ≡ j → thread ev q ≡ t → Low with_q j t (lower old (suc (place ev q)))
      low_lowered in_j by_t = by_tests (same? old 0) (less? new old)
        where
          new : ℕ
          new = suc (place ev q)

          is_new : (1 ≤ old → new ≤ old) → Low with_q j t new
          is_new below = record {
            of_store = λ some. record {
              p = q;
              in_f = or_left _ _ (eqb_same q);
              in_j = in_j;
              by_t = by_t;
              is_it = refl;
            };
            not_above =
                all_above new (λ _ _. record { some = omega arith; at_most = omega arith })
                (λ some. (omega arith, below some));
          }

          by_tests : (old ≡ 0) ⊎ (old ≢ 0) → (new < old) ⊎ (old ≤ new) → Low with_q j t (lower old new)
          by_tests (inl none) order = rw (eq-eqb old 0 none) (is_new (λ some. omega arith))
          by_tests (inr some) (inl less) =
              rw (ne_eqb old 0 some, lt-ltb new old less) (is_new (λ some. omega arith))
          by_tests (inr some) (inr not_less) = rw (ne_eqb old 0 some, le-ltb new old not_less) (record {
            of_store = old_place;
            not_above =
                all_above old (λ _ _. record { some = omega arith; at_most = not_less }) (λ some. (some, omega arith));
          })

  -- ---- stores by their rows

  module _ (n : ℕ) (l : List ℕ) (rows : Rows ev n l) (q : ℕ) (fit : Fit n q) where
    pub row : StoreRow ev l q
    row = rows.stores q fit.early fit.store

    -- one more than its place
    pub own_is : own_in l q ≡ suc (place ev q)
    own_is =
        rw row.thread_is
        (row.clock_is (thread ev q) fit.thread_below_8 ∙ vc_own ev q (thread ev q) fit.store refl)

    clock_at : (t : ℕ) → t < 8 → get_or l (row_start q + t) 0 ≡ vc ev q t
    unfolding get_row
    clock_at t there =
        let at : row_start q + t ≡ row_start q + t % 16 = omega arith in
        ap (λ (i : ℕ). get_or l i 0) at ∙ row.clock_is t there

    module _ (F O : ℕ → Bool) (C : Choice) (m : Marks) (says : Says ev F O C m) where
      -- it is in the cut exactly if it is in the choice that the cut says
      pub in_cut_lem : in_cut l m.cut q ≡ ltb (place ev q) (C (stretch ev q) (thread ev q))
      in_cut_lem =
          rw (own_is, row.stretch_is, row.thread_is)
          (rw (says.cuts (stretch ev q) (thread ev q) fit.stretch_from_1 fit.stretch_to_7 fit.thread_below_8)
          refl)

      -- its flag stored: f keeps or sets what the flags say of it, and those of others stay
      flags_stored :
          (G P : ℕ → Bool) (f : ℕ) → f ≡ bit (G q) + 2 * bit (P q)
          → ((e : ℕ) → e ≢ q → F e ≡ G e) → ((e : ℕ) → e ≢ q → O e ≡ P e)
          → (e : ℕ) → e ≤ 2048 → flag_in (set m.flags (flag_cell q) f) e ≡ bit (G e) + 2 * bit (P e)
      flags_stored G P f is_f same_f same_o e to_2048 = by_store (same? e q)
        where
          by_store :
              (e ≡ q) ⊎ (e ≢ q) → flag_in (set m.flags (flag_cell q) f) e ≡ bit (G e) + 2 * bit (P e)
          by_store (inl is_q) =
              rw is_q (get_or-set_same m.flags (flag_cell q) f 0 (omega (arith, says.flags_size)) ∙ is_f)
          by_store (inr differs) =
              get_or-set_other m.flags (flag_cell q) (flag_cell e) f 0 (λ same. differs (omega arith))
              ∙ (says.flags e to_2048
              ∙ ap₂ (λ (a b : Bool). bit a + 2 * bit b) (same_f e differs) (same_o e differs))

      not_q : (b : Bool) (e : ℕ) → e ≢ q → b ≡ (eqb q e || b)
      not_q b e differs = rw (ne_eqb q e (λ same. differs (sym same)))

      -- ---- marking it

      abbrev at : ℕ
      at = thread_cell (stretch ev q) (thread ev q)

      abbrev lowest_places : List ℕ
      lowest_places = set m.low at (lower (count_in m.low at) (suc (place ev q)))

      marked_is :
          marked l m q
          ≡ marks_of m.cut lowest_places m.last m.source m.broken
          (set m.flags (flag_cell q) (forbid (flag_in m.flags q)))
      unfolding marked
      marked_is = rw (own_is, row.thread_is, row.stretch_is)

      low_after :
          (j t : ℕ) → 1 ≤ j → j ≤ 7 → t < 8 → (thread_cell j t ≡ at) ⊎ (thread_cell j t ≢ at)
          → Low (with_q F q) j t (count_in lowest_places (thread_cell j t))
      low_after j t from_1 to_7 there (inl same) =
          let old : Low F j t (count_in m.low at) = rw same at (low_of says j t from_1 to_7 there) in
          rw (same, get_or-set_same m.low at _ 0 (omega (arith, says.low_size)))
          (low_lowered F q j t _ old (omega arith) (omega arith))
      low_after j t from_1 to_7 there (inr differs) =
          rw (get_or-set_other m.low at (thread_cell j t) _ 0 differs)
          (low_elsewhere F q j t _ (low_of says j t from_1 to_7 there)
          (λ in_j by_t. differs (sym (ap₂ thread_cell in_j by_t))))

      pub mark_says : Says ev (λ p. eqb q p || F p) O C (marked l m q)
      mark_says = rw marked_is (record {
        cut_size = says.cut_size;
        low_size = length-set m.low at _ ∙ says.low_size;
        last_size = says.last_size;
        source_size = says.source_size;
        flags_size = length-set m.flags (flag_cell q) _ ∙ says.flags_size;
        flags =
            flags_stored (with_q F q) O _
            (ap forbid (says.flags q (omega arith)) ∙ rw (eqb_same q) (forbid_bits (F q) (O q)))
            (λ e. not_q (F e) e) (λ e differs. refl);
        cuts = says.cuts;
        lows = λ j t from_1 to_7 there. (low_after j t from_1 to_7 there (same? (thread_cell j t) at)).of_store;
        lowest = λ j t from_1 to_7 there. (low_after j t from_1 to_7 there (same? (thread_cell j t) at)).not_above;
      })

      -- ---- observing it

      abbrev raised_choice : Choice
      raised_choice j t = cond (eqb (stretch ev q) j) (max (C j t) (vc ev q t)) (C j t)

      abbrev raised_cut : List ℕ
      raised_cut = joined 8 l q (thread_cell (stretch ev q) 0) m.cut

      cut_after_lem :
          (j t : ℕ) → 1 ≤ j → j ≤ 7 → t < 8 → (stretch ev q ≡ j) ⊎ (stretch ev q ≢ j)
          → count_in raised_cut (thread_cell j t) ≡ raised_choice j t
      cut_after_lem j t from_1 to_7 there (inl in_j) =
          let at_t : thread_cell j t ≡ thread_cell (stretch ev q) 0 + t = omega arith in
          let old : count_in m.cut (thread_cell (stretch ev q) 0 + t) ≡ C j t =
          rw (← at_t) (says.cuts j t from_1 to_7 there)
          in
          rw (eq-eqb (stretch ev q) j in_j, at_t)
          (joined_there l q (thread_cell (stretch ev q) 0) m.cut 8 t (omega (arith, says.cut_size)) there
          ∙ ap₂ max old (clock_at t there))
      cut_after_lem j t from_1 to_7 there (inr elsewhere) =
          rw (ne_eqb (stretch ev q) j elsewhere)
          (joined_leaves l q (thread_cell (stretch ev q) 0) m.cut 8 (thread_cell j t)
          (λ low high. elsewhere (omega arith))
          ∙ says.cuts j t from_1 to_7 there)

      pub see_says :
          Says ev F (λ p. eqb q p || O p) (λ j t. cond (eqb (stretch ev q) j) (max (C j t) (vc ev q t)) (C j t))
          (seen_from l m q (get_row l q 10))
      unfolding seen_from
      see_says = rw row.stretch_is (record {
        cut_size = joined_size l q (thread_cell (stretch ev q) 0) m.cut 8 ∙ says.cut_size;
        low_size = says.low_size;
        last_size = says.last_size;
        source_size = says.source_size;
        flags_size = length-set m.flags (flag_cell q) _ ∙ says.flags_size;
        flags =
            flags_stored F (with_q O q) _
            (ap observe (says.flags q (omega arith)) ∙ rw (eqb_same q) (observe_bits (F q) (O q)))
            (λ e differs. refl) (λ e. not_q (O e) e);
        cuts = λ j t from_1 to_7 there. cut_after_lem j t from_1 to_7 there (same? (stretch ev q) j);
        lows = says.lows;
        lowest = says.lowest;
      })
