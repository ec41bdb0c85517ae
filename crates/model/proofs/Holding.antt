-- The loads that a thread holds: earlier crossing loads of the thread in no skip, since which it has been open
-- (`held_exactly`). A thread that is not open holds none.
use Prim.Native.Nat.{ℕ, zero, suc, ◌≤◌, ◌<◌}
use native.Mathlib.Omega.{arith}
use mathlib.Core.Path.{◌≡◌, refl}
use mathlib.Core.Bool.{Bool, true, false, cond, ◌&&◌}
use mathlib.Core.Logic.{◌⊎◌, inl, inr, ◌≢◌, ◌↔◌}
use mathlib.Core.List.{[], ◌∷◌}
use lib.ListN.{length}
use lib.Dec.{eqb}
use borrow.Author.Tests.{eqb-true, eq-eqb}
use Rattle.record.specs.declared.events.Event.{Event}
use Rattle.model.specs.Search.{any, member}
use Rattle.model.specs.Trace.{thread}
use Rattle.model.specs.Machine.{opened, countable, held}
use Rattle.model.proofs.Searching.{false_true, test, same?, both, parts, or_cases, or_left, or_right}

module _ (ev : ℕ → Event) where
  pub held_closed : (n t : ℕ) → opened ev n t ≡ false → held ev n t ≡ []
  unfolding held
  held_closed zero t closed = refl
  held_closed (suc n) t closed = rw closed

  -- an event that is no load of the thread to be held adds nothing
  pub held_else :
      (n t : ℕ) → opened ev (suc n) t ≡ true → (countable ev n && eqb (thread ev n) t) ≡ false
      → held ev (suc n) t ≡ held ev n t
  unfolding held
  held_else n t is_open other = rw (is_open, other)

  -- one that is comes in front
  pub held_next :
      (n t : ℕ) → opened ev (suc n) t ≡ true → countable ev n ≡ true → thread ev n ≡ t
      → held ev (suc n) t ≡ n ∷ held ev n t
  unfolding held
  held_next n t is_open counts by_t = rw (is_open, counts, eq-eqb (thread ev n) t by_t)

  -- at most one load an event
  pub held_length : (n t : ℕ) → length (held ev n t) ≤ n
  unfolding held
  held_length zero t = omega arith
  held_length (suc n) t =
      by_tests (opened ev (suc n) t) (countable ev n && eqb (thread ev n) t) (held_length n t)
    where
      by_tests :
          (o c : Bool) → length (held ev n t) ≤ n
          → length (cond o (cond c (n ∷ held ev n t) (held ev n t)) []) ≤ suc n
      by_tests false c earlier = omega arith
      by_tests true false earlier = omega arith
      by_tests true true earlier = omega arith

  -- what is held is an earlier load of the thread
  pub record Held (n t l : ℕ) : Type 0 where
    pub early : l < n
    pub is_countable : countable ev l ≡ true
    pub by_t : thread ev l ≡ t

  pub held_is : (n t l : ℕ) → member l (held ev n t) ≡ true → Held n t l
  unfolding held any
  held_is zero t l there = false_true there
  held_is (suc n) t l there =
      by_open (test (opened ev (suc n) t)) (test (countable ev n && eqb (thread ev n) t)) (held_is n t l) there
    where
      later : Held n t l → Held (suc n) t l
      later it = record { early = omega (arith, it.early); is_countable = it.is_countable; by_t = it.by_t }

      by_first :
          (countable ev n && eqb (thread ev n) t) ≡ true → (eqb l n ≡ true) ⊎ (member l (held ev n t) ≡ true)
          → (member l (held ev n t) ≡ true → Held n t l) → Held (suc n) t l
      by_first holds (inr further) earlier = later (earlier further)
      by_first holds (inl same) earlier =
          let is_n : l ≡ n = eqb-true l n same in
          let both_hold = parts (countable ev n) _ holds in
          record {
            early = omega arith;
            is_countable = rw is_n both_hold.0;
            by_t = rw is_n (eqb-true (thread ev n) t both_hold.1);
          }

      by_open :
          (opened ev (suc n) t ≡ true) ⊎ (opened ev (suc n) t ≡ false)
          → ((countable ev n && eqb (thread ev n) t) ≡ true) ⊎ ((countable ev n && eqb (thread ev n) t) ≡ false)
          → (member l (held ev n t) ≡ true → Held n t l)
          → member l
          (cond (opened ev (suc n) t)
          (cond (countable ev n && eqb (thread ev n) t) (n ∷ held ev n t) (held ev n t))
          [])
          ≡ true
          → Held (suc n) t l
      by_open (inr closed) holds earlier here = false_true (rw closed at here)
      by_open (inl is_open) (inr holds_not) earlier here = later (earlier (rw (is_open, holds_not) at here))
      by_open (inl is_open) (inl holds) earlier here =
          by_first holds (or_cases (eqb l n) _ (rw (is_open, holds) at here)) earlier

  -- as a relation: a crossing load in no skip of the thread, which has been open from then on. An open when open is
  -- turned away, so that is since one open
  pub record HeldSince (n t l : ℕ) : Type 0 where
    pub early : l < n
    pub is_countable : countable ev l ≡ true
    pub by_t : thread ev l ≡ t
    pub stays : (k : ℕ) → l < k → k ≤ n → opened ev k t ≡ true

  →held : (n t l : ℕ) → HeldSince n t l → member l (held ev n t) ≡ true
  unfolding held any
  →held zero t l it = absurd (omega (arith, it.early))
  →held (suc n) t l it =
      rw (it.stays (suc n) it.early (omega arith)) (by_last (same? l n) (→held n t l) (test holds))
    where
      holds : Bool
      holds = countable ev n && eqb (thread ev n) t

      by_last :
          (l ≡ n) ⊎ (l ≢ n) → (HeldSince n t l → member l (held ev n t) ≡ true) → (holds ≡ true) ⊎ (holds ≡ false)
          → member l (cond (countable ev n && eqb (thread ev n) t) (n ∷ held ev n t) (held ev n t)) ≡ true
      by_last (inl is_n) earlier tested =
          let here : (countable ev n && eqb (thread ev n) t) ≡ true =
          both _ _ (rw is_n at it.is_countable) (eq-eqb _ _ (rw is_n at it.by_t))
          in
          rw here (or_left (eqb l n) _ (eq-eqb l n is_n))
      by_last (inr differs) earlier tested = by_test tested
        where
          before : member l (held ev n t) ≡ true
          before =
              earlier
              (record {
                early = omega (arith, it.early);
                is_countable = it.is_countable;
                by_t = it.by_t;
                stays = λ k after within. it.stays k after (omega arith);
              })

          by_test :
              (holds ≡ true) ⊎ (holds ≡ false)
              → member l (cond (countable ev n && eqb (thread ev n) t) (n ∷ held ev n t) (held ev n t)) ≡ true
          by_test (inl passes) = rw passes (or_right (eqb l n) _ before)
          by_test (inr fails) = rw fails before

  still_open : (n t l : ℕ) → member l (held ev n t) ≡ true → (k : ℕ) → l < k → k ≤ n → opened ev k t ≡ true
  unfolding held any
  still_open zero t l there k after within = false_true there
  still_open (suc n) t l there k after within =
      by_open (test (opened ev (suc n) t)) (same? k (suc n)) (λ here. still_open n t l here k after)
    where
      by_member :
          (test_holds : Bool) → (countable ev n && eqb (thread ev n) t) ≡ test_holds
          → member l (cond test_holds (n ∷ held ev n t) (held ev n t)) ≡ true → k ≢ suc n
          → member l (held ev n t) ≡ true
      by_member false is here differs = here
      by_member true is here differs = by_first (or_cases (eqb l n) (member l (held ev n t)) here)
        where
          by_first : (eqb l n ≡ true) ⊎ (member l (held ev n t) ≡ true) → member l (held ev n t) ≡ true
          by_first (inr further) = further
          by_first (inl same) = let is_n : l ≡ n = eqb-true l n same in absurd (omega arith)

      by_open :
          (opened ev (suc n) t ≡ true) ⊎ (opened ev (suc n) t ≡ false) → (k ≡ suc n) ⊎ (k ≢ suc n)
          → (member l (held ev n t) ≡ true → k ≤ n → opened ev k t ≡ true) → opened ev k t ≡ true
      by_open (inr closed) last earlier = false_true (rw closed at there)
      by_open (inl is_open) (inl is_last) earlier = rw is_last is_open
      by_open (inl is_open) (inr differs) earlier =
          let here = rw is_open at there in
          earlier (by_member (countable ev n && eqb (thread ev n) t) refl here differs) (omega arith)

  pub held_exactly : (n t l : ℕ) → (member l (held ev n t) ≡ true) ↔ HeldSince n t l
  held_exactly n t l = (
    λ there.
        let it = held_is n t l there in
        record { early = it.early; is_countable = it.is_countable; by_t = it.by_t; stays = still_open n t l there },
    →held n t l,
  )
