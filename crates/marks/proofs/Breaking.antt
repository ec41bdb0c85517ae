-- The test on what a load changes finds a pair exactly if there is one with it, unless there was one before. A pair is
-- a store of F, the marks, in the choice C. If the load makes one, either the walk marks a store that was in the
-- choice, or a store came into it: then it is of the source's stretch, and a lowest marked place there is below the
-- cut.
-- In order: `Hit`; the test of one stretch, and of all; a load's test.
use Prim.Native.Nat.{ℕ, zero, suc, ◌+◌, ◌≤◌, ◌<◌}
use native.Mathlib.Omega.{arith}
use mathlib.Core.Path.{◌≡◌, refl, sym, ◌∙◌, ap, ap₂}
use mathlib.Core.Bool.{Bool, true, ◌&&◌, ◌||◌, not}
use mathlib.Core.Logic.{◌⊎◌, inl, inr, ◌≢◌}
use mathlib.Core.List.{List}
use lib.Dec.{eqb}
use borrow.Author.Tests.{eqb-false, ne_eqb, leb-true, le-leb, not-true}
use Rattle.record.specs.declared.events.Event.{Event}
use Rattle.model.specs.Search.{some}
use Rattle.model.specs.Trace.{thread, source, stretch, place}
use Rattle.model.specs.Stores.{head_of}
use Rattle.model.specs.Rules.{Accepted}
use Rattle.model.specs.Choice.{Choice, In}
use Rattle.model.proofs.Searching.{less?, both, parts, or_cases, or_left, or_right, some→, →some}
use Rattle.model.proofs.RulingSteps.{raise, raised→, Over}
use Rattle.area.specs.Cells.{get_row}
use Rattle.marks.specs.declared.cells.Marks.{Marks}
use Rattle.marks.specs.Marks.{thread_cell, count_in, cut_in, low_in}
use Rattle.marks.specs.Marking.{walked, loaded}
use Rattle.marks.specs.Testing.{walk_hits, hit, hits, load_hits}
use Rattle.marks.specs.Judged.{pair_in}
use Rattle.marks.specs.Matching.{PlaceOf, AtMost, Says}
use Rattle.marks.proofs.Says.{Fit, fits, row}
use Rattle.marks.proofs.Walking.{Walked}
use Rattle.marks.proofs.Stepping.{chain, chained, also_marks, also_sees, also_asks, Found, source_fits_lem}
use Rattle.marks.proofs.Stepping.{whole, load_walk, load_says}

module _ (ev : ℕ → Event) where
  -- a store of F is in the choice C
  pub record Hit (F : ℕ → Bool) (C : Choice) : Type 0 where
    pub p : ℕ
    pub in_f : F p ≡ true
    pub inside : In ev C p

  -- ---- the test of one stretch

  module _
      (N : ℕ) (accepted : Accepted ev N) (F O : ℕ → Bool) (C : Choice) (over : (p : ℕ) → F p ≡ true → Over ev N p)
      (m : Marks) (says : Says ev F O C m) (j : ℕ) (from_1 : 1 ≤ j) (to_7 : j ≤ 7) where
    abbrev low : ℕ → ℕ
    low t = low_in m j t

    abbrev cut : ℕ → ℕ
    cut t = cut_in m j t

    -- the numbers of a stretch stand side by side
    test_at :
        (t : ℕ) → t < 8
        → hit (count_in m.low (thread_cell j 0 + t)) (count_in m.cut (thread_cell j 0 + t)) ≡ hit (low t) (cut t)
    test_at t there =
        let at : thread_cell j 0 + t ≡ thread_cell j t = omega arith in
        rw at

    -- the lowest marked place of a thread is below the cut
    low_hits : (t : ℕ) → t < 8 → low t ≢ 0 → low t ≤ cut t → Hit F C
    low_hits t there some below =
        let it : PlaceOf ev F j t (low t) = says.lows j t from_1 to_7 there some in
        let cut_is = says.cuts j t from_1 to_7 there in
        let same_cut = ap₂ C it.in_j it.by_t in
        record { p = it.p; in_f = it.in_f; inside = omega (arith, it.is_it, cut_is, same_cut) }

    hits→ : hits m j ≡ true → Hit F C
    unfolding hits
    hits→ passes =
        let (t, there, at_t) = some→ 8 _ passes in
        let both_hold = parts (not (eqb (low t) 0)) _ (sym (test_at t there) ∙ at_t) in
        low_hits t there (eqb-false _ 0 (not-true _ both_hold.0)) (leb-true _ _ both_hold.1)

    -- a store of F in the choice is found in its stretch
    →hits : (p : ℕ) → stretch ev p ≡ j → F p ≡ true → In ev C p → hits m j ≡ true
    unfolding hits
    →hits p in_j in_f inside =
        →some 8 _ t there
        (test_at t there ∙ both (not (eqb (low t) 0)) _ (rw (ne_eqb (low t) 0 some)) (le-leb _ _ below))
      where
        t : ℕ
        t = thread ev p

        there : t < 8
        there = (fits ev N N p accepted (omega arith) (over p in_f)).thread_below_8

        it : AtMost ev (low t) p
        it = says.lowest j t from_1 to_7 there p in_f in_j refl

        some : low t ≢ 0
        some none = omega (arith, it.some)

        below : low t ≤ cut t
        below =
            let same_cut : C (stretch ev p) t ≡ C j t = ap (λ (i : ℕ). C i t) in_j in
            omega (arith, it.at_most, says.cuts j t from_1 to_7 there, inside)

  -- ---- the test of all stretches

  module _
      (N : ℕ) (accepted : Accepted ev N) (F O : ℕ → Bool) (C : Choice) (over : (p : ℕ) → F p ≡ true → Over ev N p)
      (m : Marks) (says : Says ev F O C m) where
    pub pair→ : pair_in m ≡ true → Hit F C
    unfolding pair_in
    pair→ passes =
        let (i, there, at_i) = some→ 7 _ passes in
        hits→ N accepted F O C over m says (suc i) (omega arith) (omega arith) at_i

    pub →pair : Hit F C → pair_in m ≡ true
    unfolding pair_in
    →pair hit = by_stretch (stretch ev hit.p) refl (fits ev N N hit.p accepted (omega arith) (over _ hit.in_f))
      where
        by_stretch :
            (j : ℕ) → stretch ev hit.p ≡ j → Fit ev N hit.p → some 7 (λ i. hits m (suc i)) ≡ true
        by_stretch zero is_j fit = absurd (omega (arith, fit.stretch_from_1))
        by_stretch (suc i) is_j fit =
            let to_7 : suc i ≤ 7 = omega (arith, fit.stretch_to_7) in
            →some 7 _ i to_7
            (→hits N accepted F O C over m says (suc i) (omega arith) to_7 hit.p is_j hit.in_f hit.inside)

  -- ---- a load's test

  module _
      (n : ℕ) (l : List ℕ) (k : ℕ) (accepted : Accepted ev (suc n)) (found : Found ev n l k) (F O : ℕ → Bool)
      (C : Choice) (over : (p : ℕ) → also_marks ev k F p ≡ true → Over ev (suc n) p) (m : Marks)
      (says : Says ev F O C m) where
    abbrev s : ℕ
    s = source ev k

    abbrev h : ℕ
    h = head_of (chain ev k)

    abbrev after : Marks
    after = loaded l m h s

    abbrev walk_hit : Bool
    walk_hit = walk_hits 2048 l m.cut h s

    abbrev source_hit : Bool
    source_hit = not (eqb s 0) && hits after (get_row l s 10)

    says_after : Says ev (also_marks ev k F) (also_sees ev k O) (also_asks ev k C) after
    says_after =
        load_says ev n l k accepted found F O C m says h (chain ev k) (whole ev n l k accepted found) (λ p. refl)

    walk : Walked ev O C s (chain ev k) F (walked 2048 l m h s) walk_hit
    walk = load_walk ev n l k accepted found F O C m says h (chain ev k) (whole ev n l k accepted found)

    -- the stretch of the source
    source_fit : s ≢ 0 → Fit ev (suc n) s
    source_fit = source_fits_lem ev n l k accepted found

    source_stretch : s ≢ 0 → get_row l s 10 ≡ stretch ev s
    source_stretch some = (row ev (suc n) l found.rows s (source_fit some)).stretch_is

    pub load_hits→ : load_hits l m (head_of (chain ev k)) (source ev k) ≡ true → Hit (also_marks ev k F) (also_asks ev k C)
    unfolding load_hits
    load_hits→ passes = by_test (or_cases walk_hit _ passes)
      where
        by_test : (walk_hit ≡ true) ⊎ (source_hit ≡ true) → Hit (also_marks ev k F) (also_asks ev k C)
        by_test (inl walks) =
            let (p, stands, inside) = walk.found walks in
            record { p = p; in_f = or_left _ _ stands; inside = omega arith }
        by_test (inr raised) =
            let both_hold = parts (not (eqb s 0)) _ raised in
            let some : s ≢ 0 = eqb-false s 0 (not-true _ both_hold.0) in
            hits→ (suc n) accepted (also_marks ev k F) (also_sees ev k O) (also_asks ev k C) over after says_after
            (stretch ev s) (source_fit some).stretch_from_1 (source_fit some).stretch_to_7
            (rw (source_stretch some) at both_hold.1)

    pub →load_hits :
        Hit (also_marks ev k F) (also_asks ev k C)
        → Hit F C ⊎ (load_hits l m (head_of (chain ev k)) (source ev k) ≡ true)
    unfolding load_hits
    →load_hits hit = by_choice (less? (place ev p) (C (stretch ev p) (thread ev p)))
      where
        p : ℕ
        p = hit.p

        -- it was in the choice: it was marked, or the walk marks it
        was_in :
            place ev p < C (stretch ev p) (thread ev p) → (chained ev k p ≡ true) ⊎ (F p ≡ true)
            → Hit F C ⊎ ((walk_hit || source_hit) ≡ true)
        was_in in_it (inl stands) = inr (or_left _ _ (walk.finds p stands in_it))
        was_in in_it (inr before) = inl (record { p = p; in_f = before; inside = in_it })

        -- it was not: the source brings it in
        by_choice :
            (place ev p < C (stretch ev p) (thread ev p)) ⊎ (C (stretch ev p) (thread ev p) ≤ place ev p)
            → Hit F C ⊎ ((walk_hit || source_hit) ≡ true)
        by_choice (inl in_it) = was_in in_it (or_cases (chained ev k p) (F p) hit.in_f)
        by_choice (inr out) =
            let asked : place ev p < raise ev k (stretch ev p) (thread ev p) = omega (arith, hit.inside) in
            let it = raised→ ev k (stretch ev p) (thread ev p) (place ev p) asked in
            let some : s ≢ 0 = it.observes.some_store in
            let here =
            →hits (suc n) accepted (also_marks ev k F) (also_sees ev k O) (also_asks ev k C) over after says_after
            (stretch ev s) (source_fit some).stretch_from_1 (source_fit some).stretch_to_7 p (sym it.in_j)
            hit.in_f hit.inside
            in
            inr
            (or_right walk_hit _
            (both (not (eqb s 0)) _ (rw (ne_eqb s 0 some)) (rw (source_stretch some) here)))
