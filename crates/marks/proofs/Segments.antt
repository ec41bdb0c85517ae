-- Walking a chain in parts. Stores of a chain were committed one before the other (`Falls`), so of two that stand in
-- it the older one stands behind. What stands before s is what stands before d and what stands from d on before s,
-- unless s stands before d; and it is among what stands before d, unless d stands before s.
use Prim.Native.Nat.{ℕ, suc, ◌≤◌, ◌<◌}
use native.Mathlib.Omega.{arith}
use mathlib.Core.Path.{◌≡◌, refl, sym}
use mathlib.Core.Bool.{Bool, true, false, cond, ◌&&◌, ◌||◌, not, or_assoc}
use mathlib.Core.Logic.{◌⊎◌, inl, inr, ◌≢◌}
use mathlib.Core.List.{List, [], ◌∷◌}
use lib.ListN.{length}
use lib.Dec.{eqb}
use borrow.Author.Tests.{eqb-true, eqb-false, eq-eqb, ne_eqb, not-true}
use Rattle.record.specs.declared.events.Event.{Event}
use Rattle.model.specs.Search.{any, member}
use Rattle.model.specs.Stores.{passed}
use Rattle.model.proofs.Searching.{false_true, same?, parts, or_cases, or_left, or_right, or_fails}
use Rattle.area.specs.Cells.{get_row, committed_at}
use Rattle.area.specs.Rows.{Linked, Falls}
use Rattle.marks.proofs.Says.{Fit}
use Rattle.marks.proofs.Walking.{AllFit}

-- the list from d on
unfoldable pub from : ℕ → List ℕ → List ℕ
from d [] = []
from d (q ∷ qs) = cond (eqb q d) (q ∷ qs) (from d qs)

-- ---- which of two stands before the other

-- a store that is passed stands there
pub passed_stands : (s p : ℕ) (ps : List ℕ) → passed s p ps ≡ true → member p ps ≡ true
unfolding passed any
passed_stands s p [] passes = false_true passes
passed_stands s p (q ∷ qs) passes =
    by_head (or_cases (eqb q p) _ (parts (not (eqb q s)) _ passes).1) (passed_stands s p qs)
  where
    by_head :
        (eqb q p ≡ true) ⊎ (passed s p qs ≡ true) → (passed s p qs ≡ true → member p qs ≡ true)
        → (eqb p q || member p qs) ≡ true
    by_head (inl is_p) behind = or_left _ _ (eq-eqb p q (sym (eqb-true q p is_p)))
    by_head (inr further) behind = or_right (eqb p q) _ (behind further)

-- so it is a store
pub fit_stands : (ev : ℕ → Event) (n p : ℕ) (ps : List ℕ) → AllFit ev n ps → member p ps ≡ true → Fit ev n p
unfolding any
fit_stands ev n p [] fit there = false_true there
fit_stands ev n p (q ∷ qs) fit there = by_head (or_cases (eqb p q) _ there) (fit_stands ev n p qs fit.1)
  where
    by_head : (eqb p q ≡ true) ⊎ (member p qs ≡ true) → (member p qs ≡ true → Fit ev n p) → Fit ev n p
    by_head (inl is_q) behind = rw (eqb-true p q is_q) fit.0
    by_head (inr further) behind = behind further

module _ (l : List ℕ) where
  committed_below : (b s : ℕ) (ps : List ℕ) → Falls l b ps → member s ps ≡ true → committed_at l s < b
  unfolding any
  committed_below b s [] falls there = false_true there
  committed_below b s (q ∷ qs) (below, falls) there =
      by_head (or_cases (eqb s q) _ there) (committed_below (committed_at l q) s qs falls)
    where
      by_head :
          (eqb s q ≡ true) ⊎ (member s qs ≡ true) → (member s qs ≡ true → committed_at l s < committed_at l q)
          → committed_at l s < b
      by_head (inl is_q) behind = rw (eqb-true s q is_q) below
      by_head (inr further) behind = omega (arith, behind further, below)

  -- what stands before s was committed after it
  pub passed_newer :
      (b s d : ℕ) (ps : List ℕ) → Falls l b ps → member s ps ≡ true → passed s d ps ≡ true
      → committed_at l s < committed_at l d
  unfolding passed any
  passed_newer b s d [] falls there passes = false_true passes
  passed_newer b s d (q ∷ qs) (below, falls) there passes =
      by_places (or_cases (eqb s q) _ there) (or_cases (eqb q d) _ goes_on.1)
      (passed_newer (committed_at l q) s d qs falls)
    where
      goes_on : (not (eqb q s) ≡ true) × ((eqb q d || passed s d qs) ≡ true)
      goes_on = parts (not (eqb q s)) _ passes

      by_places :
          (eqb s q ≡ true) ⊎ (member s qs ≡ true) → (eqb q d ≡ true) ⊎ (passed s d qs ≡ true)
          → (member s qs ≡ true → passed s d qs ≡ true → committed_at l s < committed_at l d)
          → committed_at l s < committed_at l d
      by_places (inl is_q) d_there behind =
          absurd (eqb-false q s (not-true _ goes_on.0) (sym (eqb-true s q is_q)))
      by_places (inr further) (inl is_d) behind =
          rw (eqb-true q d is_d) at (committed_below (committed_at l q) s qs falls further)
      by_places (inr further) (inr also) behind = behind further also

-- ---- the parts of a walk

-- d does not stand before s
pub adds_nothing :
    (s d p : ℕ) (ps : List ℕ) → passed s d ps ≡ false → passed s p ps ≡ true → passed d p ps ≡ true
unfolding passed
adds_nothing s d p [] behind passes = false_true passes
adds_nothing s d p (q ∷ qs) behind passes = by_head (rw goes_on at behind) (adds_nothing s d p qs)
  where
    both_hold : (not (eqb q s) ≡ true) × ((eqb q p || passed s p qs) ≡ true)
    both_hold = parts (not (eqb q s)) _ passes

    goes_on : eqb q s ≡ false
    goes_on = not-true _ both_hold.0

    by_head :
        (eqb q d || passed s d qs) ≡ false → (passed s d qs ≡ false → passed s p qs ≡ true → passed d p qs ≡ true)
        → (not (eqb q d) && (eqb q p || passed d p qs)) ≡ true
    by_head neither further =
        let (not_d, behind_too) = or_fails (eqb q d) _ neither in
        rw not_d (by_place (or_cases (eqb q p) _ both_hold.1) (further behind_too))
      where
        by_place :
            (eqb q p ≡ true) ⊎ (passed s p qs ≡ true) → (passed s p qs ≡ true → passed d p qs ≡ true)
            → (eqb q p || passed d p qs) ≡ true
        by_place (inl is_p) then = or_left _ _ is_p
        by_place (inr also) then = or_right (eqb q p) _ (then also)

-- s does not stand before d
pub walks_on :
    (s d p : ℕ) (ps : List ℕ) → passed d s ps ≡ false
    → passed s p ps ≡ (passed d p ps || passed s p (from d ps))
unfolding passed from
walks_on s d p [] behind = refl
walks_on s d p (q ∷ qs) behind = by_head (same? q d) behind (walks_on s d p qs)
  where
    by_head :
        (q ≡ d) ⊎ (q ≢ d) → (not (eqb q d) && (eqb q s || passed d s qs)) ≡ false
        → (passed d s qs ≡ false → passed s p qs ≡ (passed d p qs || passed s p (from d qs)))
        → (not (eqb q s) && (eqb q p || passed s p qs))
        ≡ (not (eqb q d) && (eqb q p || passed d p qs) || passed s p (cond (eqb q d) (q ∷ qs) (from d qs)))
    by_head (inl is_d) here further = rw (eq-eqb q d is_d) refl
    by_head (inr differs) here further =
        let (not_s, behind_too) = or_fails (eqb q s) _ (rw (ne_eqb q d differs) at here) in
        rw (ne_eqb q d differs, not_s, further behind_too)
        (sym (or_assoc (eqb q p) (passed d p qs) (passed s p (from d qs))))

-- from s on none stands before s
pub from_stops : (s p : ℕ) (ps : List ℕ) → passed s p (from s ps) ≡ false
unfolding passed from
from_stops s p [] = refl
from_stops s p (q ∷ qs) = by_head (same? q s) (from_stops s p qs)
  where
    by_head :
        (q ≡ s) ⊎ (q ≢ s) → passed s p (from s qs) ≡ false
        → passed s p (cond (eqb q s) (q ∷ qs) (from s qs)) ≡ false
    by_head (inl is_s) further = rw (eq-eqb q s is_s, eq-eqb q s is_s) refl
    by_head (inr differs) further = rw (ne_eqb q s differs) further

-- ---- the list from d on: its links, its length and its stores

module _ (l : List ℕ) (d : ℕ) where
  pub from_linked : (h : ℕ) (ps : List ℕ) → Linked l h ps → (d ≢ 0 → member d ps ≡ true) → Linked l d (from d ps)
  unfolding from any
  from_linked h [] links stands = by_number (same? d 0)
    where
      by_number : (d ≡ 0) ⊎ (d ≢ 0) → d ≡ 0
      by_number (inl none) = none
      by_number (inr some) = false_true (stands some)
  from_linked h (q ∷ qs) (is_q, links) stands = by_head (same? q d) (from_linked (get_row l q 14) qs links)
    where
      by_head :
          (q ≡ d) ⊎ (q ≢ d) → ((d ≢ 0 → member d qs ≡ true) → Linked l d (from d qs))
          → Linked l d (cond (eqb q d) (q ∷ qs) (from d qs))
      by_head (inl is_d) further = rw (eq-eqb q d is_d) (sym is_d, links)
      by_head (inr differs) further =
          rw (ne_eqb q d differs) (further λ some. behind (or_cases (eqb d q) _ (stands some)))
        where
          behind : (eqb d q ≡ true) ⊎ (member d qs ≡ true) → member d qs ≡ true
          behind (inl is_q) = absurd (differs (sym (eqb-true d q is_q)))
          behind (inr there) = there

module _ (d : ℕ) where
  pub from_length : (ps : List ℕ) → length (from d ps) ≤ length ps
  unfolding from
  from_length [] = omega arith
  from_length (q ∷ qs) = by_head (eqb q d) (from_length qs)
    where
      by_head :
          (b : Bool) → length (from d qs) ≤ length qs → length (cond b (q ∷ qs) (from d qs)) ≤ suc (length qs)
      by_head true further = omega arith
      by_head false further = omega arith

  pub from_fit : (ev : ℕ → Event) (n : ℕ) (ps : List ℕ) → AllFit ev n ps → AllFit ev n (from d ps)
  unfolding from
  from_fit ev n [] fit = tt
  from_fit ev n (q ∷ qs) fit = by_head (eqb q d) (from_fit ev n qs fit.1)
    where
      by_head : (b : Bool) → AllFit ev n (from d qs) → AllFit ev n (cond b (q ∷ qs) (from d qs))
      by_head true further = fit
      by_head false further = further
