-- The walk along a chain adds the stores that stand in it before the load's source to the forbidden ones, and its test
-- says whether one of them is in the choice that the cut says: both by one induction on the chain.
use Prim.Native.Nat.{ℕ, zero, suc, ◌≤◌}
use native.Mathlib.Numerals.{sub-one}
use native.Mathlib.Omega.{arith}
use mathlib.Core.Path.{◌≡◌, refl, sym, ◌∙◌}
use mathlib.Core.Bool.{Bool, true, false, ◌||◌}
use mathlib.Core.Logic.{◌⊎◌, inl, inr, ◌≢◌}
use mathlib.Core.List.{List, [], ◌∷◌}
use lib.ListN.{length}
use lib.Dec.{eqb, ltb}
use borrow.Author.Tests.{eqb-true, eq-eqb, ne_eqb, ltb-true, lt-ltb}
use Rattle.record.specs.declared.events.Event.{Event}
use Rattle.model.specs.Trace.{thread, stretch, place}
use Rattle.model.specs.Choice.{Choice, In}
use Rattle.model.specs.Stores.{passed}
use Rattle.model.proofs.Searching.{false_true, same?, or_cases, or_left, or_right, eqb_same}
use Rattle.area.specs.Cells.{get_row}
use Rattle.area.specs.Rows.{Linked, Rows}
use Rattle.marks.specs.declared.cells.Marks.{Marks}
use Rattle.marks.specs.Marking.{marked, walked}
use Rattle.marks.specs.Testing.{in_cut, walk_hits}
use Rattle.marks.specs.Matching.{Says}
use Rattle.marks.proofs.Loops.{walk_end, walk_more}
use Rattle.marks.proofs.Says.{Fit, says_same, in_cut_lem, mark_says}

-- each store of the list has its row and numbers
abbrev pub AllFit : (ℕ → Event) → ℕ → List ℕ → Type 0
AllFit ev n [] = Unit
AllFit ev n (p ∷ ps) = Fit ev n p × AllFit ev n ps

pub regroup : (a b c : Bool) → (b || (a || c)) ≡ ((a || b) || c)
regroup true true c = refl
regroup true false c = refl
regroup false b c = refl

module _ (ev : ℕ → Event) (O : ℕ → Bool) (C : Choice) (s : ℕ) where
  -- ---- what a walk along a list of stores does

  -- with F forbidden before it: the marks after it, and its test
  pub record Walked (ps : List ℕ) (F : ℕ → Bool) (v : Marks) (hit : Bool) : Type 0 where
    pub says : Says ev (λ p. passed s p ps || F p) O C v
    pub found : hit ≡ true → (p : ℕ) × (passed s p ps ≡ true) × In ev C p
    pub finds : (p : ℕ) → passed s p ps ≡ true → In ev C p → hit ≡ true

  none_passed : (F : ℕ → Bool) (v : Marks) → Says ev F O C v → Walked [] F v false
  unfolding passed
  none_passed F v says =
      record { says = says; found = λ hit. false_true hit; finds = λ p stands _. false_true stands }

  module _ (q : ℕ) (ps : List ℕ) (F : ℕ → Bool) (v : Marks) where
    stops_at : q ≡ s → Says ev F O C v → Walked (q ∷ ps) F v false
    unfolding passed
    stops_at is_s says =
        let stops = eq-eqb q s is_s in
        record {
          says = rw stops says;
          found = λ hit. false_true hit;
          finds = λ p stands _. false_true (rw stops at stands);
        }

    goes_past :
        (here further : Bool) → q ≢ s → here ≡ ltb (place ev q) (C (stretch ev q) (thread ev q))
        → Walked ps (λ p. eqb q p || F p) v further → Walked (q ∷ ps) F v (here || further)
    unfolding passed
    goes_past here further differs here_is it = record {
      says =
          rw goes_on
          (says_same ev (λ p. regroup (eqb q p) (passed s p ps) (F p)) (λ p. refl) (λ j t. refl) it.says);
      found = λ hit. rw goes_on (found_by (or_cases here further hit));
      finds = λ p stands inside. finds_by p inside (or_cases (eqb q p) (passed s p ps) (rw goes_on at stands));
    }
      where
        goes_on : eqb q s ≡ false
        goes_on = ne_eqb q s differs

        found_by :
            (here ≡ true) ⊎ (further ≡ true) → (p : ℕ) × ((eqb q p || passed s p ps) ≡ true) × In ev C p
        found_by (inl at_q) = (q, or_left _ _ (eqb_same q), ltb-true _ _ (sym here_is ∙ at_q))
        found_by (inr behind) =
            let (p, stands, inside) = it.found behind in (p, or_right (eqb q p) _ stands, inside)

        finds_by : (p : ℕ) → In ev C p → (eqb q p ≡ true) ⊎ (passed s p ps ≡ true) → (here || further) ≡ true
        finds_by p inside (inl is_q) =
            let q_inside : In ev C q = rw (eqb-true q p is_q) inside in
            or_left _ _ (here_is ∙ lt-ltb _ _ q_inside)
        finds_by p inside (inr behind) = or_right here _ (it.finds p behind inside)

  -- ---- the walk along a chain

  module _ (n : ℕ) (l : List ℕ) (rows : Rows ev n l) where
    abbrev After : (k : ℕ) (m : Marks) (h : ℕ) (ps : List ℕ) (F : ℕ → Bool) → Type 0
    After k m h ps F = Walked ps F (walked k l m h s) (walk_hits k l m.cut h s)

    by_turn :
        (k : ℕ) (m : Marks) (h : ℕ) (ps : List ℕ) (F : ℕ → Bool) (v : Marks) (hit : Bool)
        → (hit ≡ walk_hits k l m.cut h s) × (v ≡ walked k l m h s) → Walked ps F v hit → After k m h ps F
    by_turn k m h ps F v hit (hits_are, marks_are) it = rw (← marks_are, ← hits_are) it

    -- the walk stops at q, or marks it and goes on
    one_turn :
        (k : ℕ) (m : Marks) (h q : ℕ) (ps : List ℕ) (F : ℕ → Bool) → h ≡ q → Fit ev n q → Says ev F O C m
        → (Says ev (λ p. eqb q p || F p) O C (marked l m q)
        → After k (marked l m q) (get_row l q 14) ps (λ p. eqb q p || F p))
        → After (suc k) m h (q ∷ ps) F
    one_turn k m h q ps F is_q fit says further = rw is_q (by_store (same? q s))
      where
        store : q ≢ 0
        store is_0 = omega arith

        by_store : (q ≡ s) ⊎ (q ≢ s) → After (suc k) m q (q ∷ ps) F
        by_store (inl is_s) =
            by_turn (suc k) m q (q ∷ ps) F m false (walk_end l s _ _ (suc k) m q false (refl, refl) (inr (store, is_s)))
            (stops_at q ps F m is_s says)
        by_store (inr differs) =
            let (marks_are, hits_are) =
            rw sub-one at
            (walk_more l s _ _ (suc k) m q false (marked l m q) (get_row l q 14) (in_cut l m.cut q) _
            (refl, refl) (omega arith) store differs refl refl refl refl)
            in
            by_turn (suc k) m q (q ∷ ps) F _ _ (hits_are, marks_are)
            (goes_past q ps F _ _ _ differs (in_cut_lem ev n l rows q fit F O C m says)
            (further (mark_says ev n l rows q fit F O C m says)))

    pub walk_along :
        (ps : List ℕ) (k : ℕ) (m : Marks) (h : ℕ) (F : ℕ → Bool)
        → Linked l h ps → AllFit ev n ps → length ps ≤ k → Says ev F O C m → After k m h ps F
    walk_along [] k m h F links fit enough says =
        by_turn k m h [] F m false (walk_end l s _ _ k m h false (refl, refl) (inl links)) (none_passed F m says)
    walk_along (q ∷ ps) zero m h F links fit enough says = absurd (omega arith)
    walk_along (q ∷ ps) (suc k) m h F links fit enough says =
        one_turn k m h q ps F links.0 fit.0 says
        (walk_along ps k (marked l m q) (get_row l q 14) (λ p. eqb q p || F p) links.1 fit.1 (omega arith))
