-- What the records have shown of each thread (`Shown`): the first place comes with the first event that brings the
-- missing store p, the last with each later store that is the observed one, q, or happens before it. What brings stores
-- and the stores are counted apart, for an event may be both.
-- In order: what is shown; how the first places go on over event n.
use Prim.Native.Nat.{ℕ, zero, suc, ◌<◌}
use native.Mathlib.Omega.{arith}
use mathlib.Core.Path.{◌≡◌, refl, sym, ◌∙◌}
use mathlib.Core.Bool.{Bool, true, false, cond, not, ◌&&◌}
use mathlib.Core.Logic.{◌⊎◌, inl, inr, ◌≢◌}
use mathlib.Core.List.{List}
use lib.ListN.{length}
use lib.Dec.{eqb, ltb}
use borrow.Author.Tests.{lt-ltb, ltb-true}
use Rattle.std.specs.Prelude.{Option, Some, None, is_some, is_none}
use Rattle.record.specs.declared.events.Event.{Event}
use Rattle.model.specs.Search.{last}
use Rattle.model.specs.Trace.{thread, issue?, Issue}
use Rattle.model.specs.Clocks.{covers?}
use Rattle.model.specs.Windows.{Brings, FirstPlace, Has, behind}
use Rattle.model.specs.Windows as windows
use Rattle.model.proofs.Searching.{test, false_true, same?}
use Rattle.model.proofs.WindowPlaces.{has_still, starts_once, first_place, has_exactly}
use Rattle.windows.specs.declared.found.Ends.{Ends}
use Rattle.windows.specs.Finding.{ends_at}

-- a place, and none for 0, which is none
abbrev pub some_place : ℕ → Option ℕ
some_place zero = None
some_place (suc n) = Some (suc n)

pub place_is : (n : ℕ) → 0 < n → some_place n ≡ Some n
place_is zero some = absurd (omega arith)
place_is (suc n) some = refl

module _ (ev : ℕ → Event) (p q : ℕ) where
  -- ---- what is shown before event n

  -- thread t has p
  abbrev pub has? : ℕ → ℕ → Bool
  has? n t = ltb (behind ev p n t) n

  -- its first place, 0 if it has none
  unfoldable pub first_shown : ℕ → ℕ → ℕ
  first_shown n t = cond (has? n t) (suc (behind ev p n t)) 0

  -- store e is t's, is q or happens before it, and t has p before it
  abbrev pub lasts? : ℕ → ℕ → Bool
  lasts? t e = issue? ev e && eqb (thread ev e) t && covers? ev e q && has? e t

  -- the last such store, 0 if there is none
  unfoldable pub last_shown : ℕ → ℕ → ℕ
  last_shown n t = last n (lasts? t)

  -- the ends found are what the events before event n bring and the stores before event m show
  pub record Shown (n m : ℕ) (found : List Ends) : Type 0 where
    pub size : length found ≡ 8
    pub firsts : (t : ℕ) → t < 8 → (ends_at found t).first ≡ some_place (first_shown n t)
    pub lasts : (t : ℕ) → t < 8 → (ends_at found t).last ≡ some_place (last_shown m t)

  module _ (p_store : Issue ev p) where
    pub has→ : (n t : ℕ) → has? n t ≡ true → Has ev p t n
    has→ n t passes = (has_exactly ev p t p_store n).0 (ltb-true _ _ passes)

    pub →has : (n t : ℕ) → Has ev p t n → has? n t ≡ true
    →has n t has = lt-ltb _ _ ((has_exactly ev p t p_store n).1 has)

    pub has_or_not : (n t : ℕ) → Has ev p t n ⊎ (¬ Has ev p t n)
    has_or_not n t = by_test (test (has? n t))
      where
        by_test : (has? n t ≡ true) ⊎ (has? n t ≡ false) → Has ev p t n ⊎ (¬ Has ev p t n)
        by_test (inl passes) = inl (has→ n t passes)
        by_test (inr fails) = inr (λ has. false_true (sym fails ∙ →has n t has))

    pub not_has : (n t : ℕ) → ¬ Has ev p t n → has? n t ≡ false
    not_has n t not_yet = by_test (test (has? n t))
      where
        by_test : (has? n t ≡ true) ⊎ (has? n t ≡ false) → has? n t ≡ false
        by_test (inl passes) = absurd (not_yet (has→ n t passes))
        by_test (inr fails) = fails

    -- a thread that has p has its first place shown
    pub shown_first : (n t from : ℕ) → Has ev p t n → FirstPlace ev p t from → first_shown n t ≡ from
    unfolding first_shown
    shown_first n t from has starts =
        rw (→has n t has)
        (starts_once ev (first_place ev p t p_store n ((has_exactly ev p t p_store n).1 has)) starts)

    pub shown_none : (n t : ℕ) → ¬ Has ev p t n → first_shown n t ≡ 0
    unfolding first_shown
    shown_none n t not_yet = rw (not_has n t not_yet) refl

    -- a first place is shown exactly if the thread has p
    pub shown_some : (n t : ℕ) → is_some (some_place (first_shown n t)) ≡ has? n t
    unfolding first_shown
    shown_some n t = by_test (has? n t)
      where
        by_test : (b : Bool) → is_some (some_place (cond b (suc (behind ev p n t)) 0)) ≡ b
        by_test true = refl
        by_test false = refl

    pub shown_yet : (n t : ℕ) → is_none (some_place (first_shown n t)) ≡ not (has? n t)
    unfolding first_shown
    shown_yet n t = by_test (has? n t)
      where
        by_test : (b : Bool) → is_none (some_place (cond b (suc (behind ev p n t)) 0)) ≡ not b
        by_test true = refl
        by_test false = refl

    -- ---- how the first places go on, over event n

    -- a thread to which event n brings nothing that it does not have keeps its first place, or has none still
    pub first_keeps :
        (n t : ℕ) → (t ≡ thread ev p → p < n) → (thread ev n ≡ t → Brings ev p n → Has ev p t n)
        → first_shown (suc n) t ≡ first_shown n t
    first_keeps n t later had = by_has (has_or_not n t)
      where
        has_before : Has ev p t (suc n) → Has ev p t n
        has_before (inl (is_own, early)) = inl (is_own, later is_own)
        has_before (inr (other, (l, early, by_t, brings))) = by_order (same? l n)
          where
            by_order : (l ≡ n) ⊎ (l ≢ n) → Has ev p t n
            by_order (inl same) = had (rw same at by_t) (rw same at brings)
            by_order (inr differs) = inr (other, (l, omega arith, by_t, brings))

        by_has : Has ev p t n ⊎ (¬ Has ev p t n) → first_shown (suc n) t ≡ first_shown n t
        by_has (inl has) =
            let starts = first_place ev p t p_store n ((has_exactly ev p t p_store n).1 has) in
            shown_first (suc n) t _ (has_still ev has (omega arith)) starts ∙ sym (shown_first n t _ has starts)
        by_has (inr not_yet) =
            shown_none (suc n) t (λ has. not_yet (has_before has)) ∙ sym (shown_none n t not_yet)

    -- one to which it brings p first has its first place right behind it
    pub first_comes :
        (n t : ℕ) → p < n → ¬ Has ev p t n → thread ev n ≡ t → Brings ev p n → first_shown (suc n) t ≡ suc n
    first_comes n t later not_yet by_t brings = shown_first (suc n) t (suc n) has starts
      where
        other : t ≢ thread ev p
        other is_own = not_yet (inl (is_own, later))

        has : Has ev p t (suc n)
        has = inr (other, (n, omega arith, by_t, brings))

        starts : FirstPlace ev p t (suc n)
        starts =
            windows.brought n other
            (record {
              by_t = by_t;
              brings = brings;
              none_earlier = λ k earlier by_thread brings_p.
                  not_yet (inr (other, (k, earlier, by_thread, brings_p)));
            })
