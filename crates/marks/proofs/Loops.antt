-- One turn of each of the code's loops, and what the code's searches find: laws over plain variables, which the
-- functions' proofs hand what their calls ensure.
-- In order: the walk; a load that breaks the trace; the loads that a close counts; the searches.
use Rattle.std.specs.Prelude.{Option, Some, None, MatchOption, unwrap_or, is_some}
use Rattle.std.specs.List.{list_any, range_with_len}
use Prim.Native.Nat.{ℕ, zero, suc, ◌+◌, ◌-◌, ◌≤◌, ◌<◌}
use native.Mathlib.Nat.{not-suc-le-zero}
use native.Mathlib.Numerals.{sub-one}
use native.Mathlib.Omega.{arith}
use mathlib.Core.Path.{◌≡◌, refl, sym, ap, ◌∙◌}
use mathlib.Core.List.{List}
use mathlib.Core.Logic.{◌⊎◌, inl, inr, ◌≢◌}
use mathlib.Core.Bool.{Bool, true, false, cond, ◌||◌, or-false, or_assoc, or_comm}
use borrow.Author.Tests.{eq-eqb, ne_eqb}
use Rattle.model.specs.Search.{some, first_from, first}
use Rattle.model.proofs.Searching.{same?}
use Rattle.area.specs.Cells.{get_row}
use Rattle.marks.specs.declared.cells.Marks.{Marks}
use Rattle.marks.specs.Marks.{marks_of}
use Rattle.marks.specs.Marking.{marked, walked, loaded}
use Rattle.marks.specs.Testing.{in_cut, walk_hits, load_hits}
use Rattle.marks.specs.Judged.{repeated, noted, judged, held_at, all_held}

-- ---- the walk

-- The walk in rows l up to `stop` that leaves the marks w and answers b: after some turns n are left, the marks are m,
-- it stands at p, and `hit` says what it has found.
module _ (l : List ℕ) (stop : ℕ) (w : Marks) (b : Bool) where
  abbrev pub Left : ℕ → Marks → ℕ → Bool → Type 0
  Left n m p hit = (walked n l m p stop ≡ w) × ((hit || walk_hits n l m.cut p stop) ≡ b)

  -- nothing more is marked and nothing more is found
  no_more :
      (n : ℕ) (m : Marks) (p : ℕ) (hit : Bool) → Left n m p hit
      → walked n l m p stop ≡ m → walk_hits n l m.cut p stop ≡ false → (hit ≡ b) × (m ≡ w)
  no_more n m p hit (walk_is, hit_is) no_mark no_hit = (sym (or-false hit) ∙ rw no_hit at hit_is, sym no_mark ∙ walk_is)

  pub walk_none : (n : ℕ) (m : Marks) (p : ℕ) (hit : Bool) → Left n m p hit → n ≡ 0 → (hit ≡ b) × (m ≡ w)
  unfolding walked walk_hits
  walk_none n m p hit left none = no_more n m p hit left (rw none) (rw none)

  -- at the end of the chain, or at `stop`
  pub walk_end :
      (n : ℕ) (m : Marks) (p : ℕ) (hit : Bool) → Left n m p hit → (p ≡ 0) ⊎ ((p ≡ 0 → ⊥) × (p ≡ stop))
      → (hit ≡ b) × (m ≡ w)
  unfolding walked walk_hits
  walk_end zero m p hit left end = no_more 0 m p hit left refl refl
  walk_end (suc n) m p hit left (inl end) =
      let test_is = eq-eqb p 0 end in no_more (suc n) m p hit left (rw test_is) (rw test_is)
  walk_end (suc n) m p hit left (inr (store, at_stop)) =
      let not_end = ne_eqb p 0 store in
      let stops = eq-eqb p stop at_stop in
      no_more (suc n) m p hit left (rw (not_end, stops)) (rw (not_end, stops))

  -- one store more is marked
  pub walk_more :
      (n : ℕ) (m : Marks) (p : ℕ) (hit : Bool) (m₁ : Marks) (next : ℕ) (here found : Bool)
      → Left n m p hit → 0 < n → (p ≡ 0 → ⊥) → (p ≡ stop → ⊥)
      → m₁ ≡ marked l m p → next ≡ get_row l p 14 → here ≡ in_cut l m.cut p → found ≡ (hit || here)
      → Left (n - 1) m₁ next found
  unfolding walked walk_hits marked
  walk_more zero m p hit m₁ next here found left some store not_stop mark_is next_is here_is found_is =
      absurd (not-suc-le-zero some)
  walk_more (suc n) m p hit m₁ next here found (walk_is, hit_is) some store not_stop mark_is next_is here_is found_is =
      rw (found_is, here_is, mark_is, next_is, sub-one) (
        rw (ne_eqb p 0 store, ne_eqb p stop not_stop) at walk_is,
        or_assoc hit (in_cut l m.cut p) _ ∙ rw (ne_eqb p 0 store, ne_eqb p stop not_stop) at hit_is,
      )

-- ---- a load that breaks the trace

pub judged_breaks :
    (l : List ℕ) (m : Marks) (h x s e : ℕ) (again : Bool) → again ≡ repeated m h x s → again ≡ false
    → is_some m.broken ≡ false → (m₁ m₂ : Marks) (breaks : Bool)
    → (breaks ≡ load_hits l m h s) × (m₁ ≡ loaded l m h s) → m₂ ≡ noted m₁ h x s → breaks ≡ true → (e' : ℕ) → e' ≡ e
    → marks_of m₂.cut m₂.low m₂.last m₂.source (Some e') m₂.flags ≡ judged l m h x s e
unfolding judged
judged_breaks l m h x s e again again_is new unbroken m₁ m₂ breaks loads notes passes e' e_is =
    rw (← again_is, new, unbroken, ← loads.0, passes, e_is, notes, loads.1) refl

-- ---- the loads that a close counts

-- The loop in rows l that leaves the marks w: after some turns n are left, the marks are m, and the loads from k on are
-- next.
module _ (l : List ℕ) (w : Marks) where
  abbrev pub Next : ℕ → Marks → ℕ → Type 0
  Next n m k = all_held n l m k ≡ w

  pub all_out : (n : ℕ) (m : Marks) (k : ℕ) → Next n m k → n ≡ 0 → m ≡ w
  unfolding all_held
  all_out n m k next none = rw none at next

  pub all_end : (n : ℕ) (m : Marks) (k : ℕ) → Next n m k → k ≡ 0 → m ≡ w
  unfolding all_held
  all_end zero m k next end = next
  all_end (suc n) m k next end = rw (eq-eqb k 0 end) at next

  pub all_more :
      (n : ℕ) (m : Marks) (k : ℕ) (m₁ : Marks) (k₁ : ℕ) → Next n m k → 0 < n → (k ≡ 0 → ⊥) → m₁ ≡ held_at l m k
      → k₁ ≡ get_row l k 15 → Next (n - 1) m₁ k₁
  unfolding all_held
  all_more zero m k m₁ k₁ next some load one k_is = absurd (not-suc-le-zero some)
  all_more (suc n) m k m₁ k₁ next some load one k_is = rw (one, k_is, sub-one) (rw (ne_eqb k 0 load) at next)

-- ---- the searches

-- of the list of n numbers from a on
some_first : (n : ℕ) (f : ℕ → Bool) → some (suc n) f ≡ (f 0 || some n (λ i. f (suc i)))
unfolding some
some_first zero f = refl
some_first (suc n) f =
    rw (some_first n f)
    (sym (or_assoc (f (suc n)) (f 0) later) ∙ (ap (λ (b : Bool). b || later) (or_comm (f (suc n)) (f 0))
    ∙ or_assoc (f 0) (f (suc n)) later))
  where
    later : Bool
    later = some n (λ i. f (suc i))

pub some_of_range :
    (n a : ℕ) (f g : ℕ → Bool) → ((i : ℕ) → g i ≡ f (a + i)) → list_any f (range_with_len a n) ≡ some n g
unfolding some
some_of_range zero a f g same = refl
some_of_range (suc n) a f g same =
    let first : f a ≡ g 0 = ap f (omega arith) ∙ sym (same 0) in
    let later : (i : ℕ) → g (suc i) ≡ f (a + 1 + i) = λ i. same (suc i) ∙ ap f (omega arith) in
    rw (first, some_of_range n (a + 1) f (λ i. g (suc i)) later) (sym (some_first n g))

-- up to the first
first_from_found :
    (i n : ℕ) (f : ℕ → Bool) (p : ℕ) → i ≤ p → p ≤ i + n → (p < i + n → f p ≡ true)
    → ((k : ℕ) → k < p → f k ≡ false) → first_from i n f ≡ p
unfolding first_from
first_from_found i zero f p from_i to_n passes before = omega arith
first_from_found i (suc n) f p from_i to_n passes before =
    by_head (same? i p)
    (λ later. first_from_found (suc i) n f p later (omega arith) (λ below. passes (omega arith)) before)
  where
    by_head : (i ≡ p) ⊎ (i ≢ p) → (i < p → first_from (suc i) n f ≡ p) → cond (f i) i (first_from (suc i) n f) ≡ p
    by_head (inl here) further =
        let here_passes : f i ≡ true = ap f here ∙ passes (omega arith) in rw here_passes here
    by_head (inr later) further = rw (before i (omega arith)) (further (omega arith))

-- what `find` answers over the numbers below n
pub found_is :
    (n : ℕ) (f : ℕ → Bool) (r : Option ℕ)
    → MatchOption r ((k : ℕ) → 0 ≤ k → k < n → f k ≡ false)
    (λ p. (0 ≤ p) × (p < n) × (f p ≡ true) × ((k : ℕ) → 0 ≤ k → k < p → f k ≡ false))
    → unwrap_or r n ≡ first n f
unfolding first
found_is n f None none =
    sym (first_from_found 0 n f n (omega arith) (omega arith) (λ below. absurd (omega arith))
    (λ k below. none k (omega arith) below))
found_is n f (Some p) (_, below, passes, before) =
    sym (first_from_found 0 n f p (omega arith) (omega arith) (λ _. passes) (λ k earlier. before k (omega arith) earlier))
