-- Stretches and counts: how they change from event to event, and that a place has one event.
use Prim.Native.Nat.{ℕ, zero, suc, ◌+◌, ◌≤◌, ◌<◌}
use native.Mathlib.Omega.{arith}
use mathlib.Core.Path.{◌≡◌, refl}
use mathlib.Core.Bool.{Bool, true, false, ◌&&◌}
use mathlib.Core.Logic.{◌⊎◌, inl, inr, ◌≢◌}
use lib.Dec.{eqb}
use borrow.Author.Tests.{eqb-true, eq-eqb}
use Rattle.record.specs.declared.events.Event.{Event}
use Rattle.model.specs.Search.{bit}
use Rattle.model.specs.Trace.{thread, crash?, stretch, count}
use Rattle.model.proofs.Searching.{same?, less?, test, both, parts}

module _ (ev : ℕ → Event) where
  -- ---- stretches

  pub stretch_crash : (e : ℕ) → crash? ev e ≡ true → stretch ev (suc e) ≡ suc (stretch ev e)
  unfolding stretch
  stretch_crash e h = rw h (omega arith)

  pub stretch_else : (e : ℕ) → crash? ev e ≡ false → stretch ev (suc e) ≡ stretch ev e
  unfolding stretch
  stretch_else e h = rw h (omega arith)

  pub stretch_mono : (e n : ℕ) → e ≤ n → stretch ev e ≤ stretch ev n
  unfolding stretch
  stretch_mono e zero h = let none : e ≡ 0 = omega arith in rw none (omega arith)
  stretch_mono e (suc n) h = last_or_earlier (same? e (suc n)) (stretch_mono e n)
    where
      last_or_earlier :
          (e ≡ suc n) ⊎ (e ≢ suc n) → (e ≤ n → stretch ev e ≤ stretch ev n)
          → stretch ev e ≤ stretch ev n + bit (crash? ev n)
      last_or_earlier (inl is) earlier = rw is (omega arith)
      last_or_earlier (inr differs) earlier =
          let before : stretch ev e ≤ stretch ev n = earlier (omega arith) in
          omega arith

  -- an event of an earlier stretch comes earlier
  pub earlier_stretch : (a b : ℕ) → stretch ev a < stretch ev b → a < b
  earlier_stretch a b h = by_order (less? a b)
    where
      by_order : (a < b) ⊎ (b ≤ a) → a < b
      by_order (inl l) = l
      by_order (inr l) = absurd (omega (arith, stretch_mono b a l))

  -- ---- counts

  -- the event itself counts
  pub count_it :
      (f : ℕ → Bool) (n j t : ℕ) → f n ≡ true → stretch ev n ≡ j → thread ev n ≡ t
      → count ev f (suc n) j t ≡ suc (count ev f n j t)
  unfolding count
  count_it f n j t h s e =
      rw (both _ _ (both _ _ h (eq-eqb (stretch ev n) j s)) (eq-eqb (thread ev n) t e)) (omega arith)

  -- an event that fails the test does not count
  pub count_skip : (f : ℕ → Bool) (n j t : ℕ) → f n ≡ false → count ev f (suc n) j t ≡ count ev f n j t
  unfolding count
  count_skip f n j t h = rw h (omega arith)

  -- of its own thread and stretch
  pub count_own :
      (f : ℕ → Bool) (n : ℕ)
      → count ev f (suc n) (stretch ev n) (thread ev n) ≡ count ev f n (stretch ev n) (thread ev n) + bit (f n)
  count_own f n = by_test (test (f n))
    where
      by_test :
          (f n ≡ true) ⊎ (f n ≡ false)
          → count ev f (suc n) (stretch ev n) (thread ev n) ≡ count ev f n (stretch ev n) (thread ev n) + bit (f n)
      by_test (inl passes) =
          rw passes (omega (arith, count_it f n (stretch ev n) (thread ev n) passes refl refl))
      by_test (inr fails) = rw fails (omega (arith, count_skip f n (stretch ev n) (thread ev n) fails))

  pub count_mono : (f : ℕ → Bool) (n m j t : ℕ) → n ≤ m → count ev f n j t ≤ count ev f m j t
  unfolding count
  count_mono f n zero j t h = let none : n ≡ 0 = omega arith in rw none (omega arith)
  count_mono f n (suc m) j t h = last_or_earlier (same? n (suc m)) (count_mono f n m j t)
    where
      last_or_earlier :
          (n ≡ suc m) ⊎ (n ≢ suc m) → (n ≤ m → count ev f n j t ≤ count ev f m j t)
          → count ev f n j t ≤ count ev f (suc m) j t
      last_or_earlier (inl is) earlier = rw is (omega arith)
      last_or_earlier (inr differs) earlier =
          let before : count ev f n j t ≤ count ev f m j t = earlier (omega arith) in
          omega arith

  -- an event comes after those before it
  pub count_lt :
      (f : ℕ → Bool) (p n : ℕ) → f p ≡ true → p < n
      → count ev f p (stretch ev p) (thread ev p) < count ev f n (stretch ev p) (thread ev p)
  count_lt f p n h l =
      omega (
        arith,
        count_it f p (stretch ev p) (thread ev p) h refl refl,
        count_mono f (suc p) n (stretch ev p) (thread ev p) l,
      )

  -- the event at place i of thread t and stretch j, among the first n
  pub record AtPlace (f : ℕ → Bool) (n j t i : ℕ) : Type 0 where
    pub p : ℕ
    pub early : p < n
    pub passes : f p ≡ true
    pub in_j : stretch ev p ≡ j
    pub by_t : thread ev p ≡ t
    pub at_i : count ev f p j t ≡ i

  -- there is an event at each place
  pub at_place_lem : (f : ℕ → Bool) (n j t i : ℕ) → i < count ev f n j t → AtPlace f n j t i
  unfolding count
  at_place_lem f zero j t i h = absurd (omega arith)
  at_place_lem f (suc n) j t i h = earlier_or_last (less? i (count ev f n j t)) (at_place_lem f n j t i) (test counts)
    where
      counts : Bool
      counts = f n && eqb (stretch ev n) j && eqb (thread ev n) t

      earlier_or_last :
          (i < count ev f n j t) ⊎ (count ev f n j t ≤ i) → (i < count ev f n j t → AtPlace f n j t i)
          → (counts ≡ true) ⊎ (counts ≡ false) → AtPlace f (suc n) j t i
      earlier_or_last (inl l) earlier w =
          let x = earlier l in
          record {
            p = x.p;
            early = omega (arith, x.early);
            passes = x.passes;
            in_j = x.in_j;
            by_t = x.by_t;
            at_i = x.at_i;
          }
      earlier_or_last (inr l) earlier (inl w) =
          let b = parts (f n && eqb (stretch ev n) j) _ w in
          let c = parts (f n) _ b.0 in
          let z : i < count ev f n j t + 1 = rw w at h in
          record {
            p = n;
            early = omega arith;
            passes = c.0;
            in_j = eqb-true _ _ c.1;
            by_t = eqb-true _ _ b.1;
            at_i = omega arith;
          }
      earlier_or_last (inr l) earlier (inr w) = let z : i < count ev f n j t + 0 = rw w at h in absurd (omega arith)

  -- nothing is counted in a stretch that has not begun
  pub count_fresh : (f : ℕ → Bool) (n j t : ℕ) → stretch ev n < j → count ev f n j t ≡ 0
  count_fresh f n j t h = by_count (less? 0 (count ev f n j t))
    where
      by_count : (0 < count ev f n j t) ⊎ (count ev f n j t ≤ 0) → count ev f n j t ≡ 0
      by_count (inr none) = omega arith
      by_count (inl some) =
          let x = at_place_lem f n j t 0 some in
          absurd (omega (arith, x.in_j, stretch_mono x.p n (omega (arith, x.early))))

  -- a place has one event
  pub place_unique :
      (f : ℕ → Bool) (p q : ℕ) → f p ≡ true → f q ≡ true → stretch ev p ≡ stretch ev q → thread ev p ≡ thread ev q
      → count ev f p (stretch ev p) (thread ev p) ≡ count ev f q (stretch ev q) (thread ev q) → p ≡ q
  place_unique f p q hp hq s t same = by_order (less? p q) (less? q p)
    where
      by_order : (p < q) ⊎ (q ≤ p) → (q < p) ⊎ (p ≤ q) → p ≡ q
      by_order (inl l) m =
          let less : count ev f p (stretch ev p) (thread ev p) < count ev f q (stretch ev q) (thread ev q) =
          rw (← s, ← t) (count_lt f p q hp l)
          in
          absurd (omega arith)
      by_order (inr l) (inl m) =
          let less : count ev f q (stretch ev q) (thread ev q) < count ev f p (stretch ev p) (thread ev p) =
          rw (s, t) (count_lt f q p hq m)
          in
          absurd (omega arith)
      by_order (inr l) (inr m) = omega arith
