-- The tests of specs/Verdict.antt for forbidden stores and for pairs say what `Forbidden` and `Pair` mean: each is the
-- conjunction of its record's fields, and clocks are happens-before.
-- In order: `newer?`, `forbids?`, `forbidden?`; then, for an accepted trace, `pair?`, `missing?`, `bad?`. Of a test
-- `test?`, `test→` reads it and `→test` makes it.
use Prim.Native.Nat.{ℕ, ◌<◌}
use native.Mathlib.Omega.{arith}
use mathlib.Core.Path.{◌≡◌}
use mathlib.Core.Bool.{Bool, true, ◌&&◌, ◌||◌}
use mathlib.Core.Logic.{◌⊎◌, inl, inr}
use lib.Dec.{eqb, ltb}
use borrow.Author.Tests.{eqb-true, eq-eqb, ltb-true, lt-ltb}
use Rattle.record.specs.declared.events.Event.{Event}
use Rattle.model.specs.Trace.{location, source, issue?, stretch}
use Rattle.model.specs.Search.{any}
use Rattle.model.specs.Machine.{counting, commit_of}
use Rattle.model.specs.Rules.{Accepted}
use Rattle.model.specs.Choice.{Newer, Forbids, Observed, Forbidden, Pair}
use Rattle.model.specs.Verdict.{newer?, forbids?, forbidden?, observed?, pair?, missing?, bad?}
use Rattle.model.proofs.Searching.{both, parts, or_cases, or_left, or_right, some→, →some, any→, →any}
use Rattle.model.proofs.Counting.{earlier_stretch}
use Rattle.model.proofs.Clocks.{covers_exactly}
use Rattle.model.proofs.CountedLoads.{counted_early}
use Rattle.model.proofs.Closure.{observed→, →observed, observed_is_committed}

module _ (ev : ℕ → Event) where
  -- ---- forbidden stores, as a test

  newer→ : (l p : ℕ) → newer? ev l p ≡ true → Newer ev l p
  newer→ l p passes = by_source (or_cases (eqb (source ev l) 0) _ passes)
    where
      later : Bool
      later = ltb (stretch ev (source ev l)) (stretch ev p)

      committed_later : Bool
      committed_later =
          eqb (stretch ev (source ev l)) (stretch ev p) && ltb (commit_of ev l (source ev l)) (commit_of ev l p)

      by_stretch : (later ≡ true) ⊎ (committed_later ≡ true) → Newer ev l p
      by_stretch (inl in_later) = inr (inl (ltb-true _ _ in_later))
      by_stretch (inr in_same) =
          let both_hold = parts (eqb (stretch ev (source ev l)) (stretch ev p)) _ in_same in
          inr (inr (eqb-true _ _ both_hold.0, ltb-true _ _ both_hold.1))

      by_source : (eqb (source ev l) 0 ≡ true) ⊎ ((later || committed_later) ≡ true) → Newer ev l p
      by_source (inl none) = inl (eqb-true _ _ none)
      by_source (inr newer) = by_stretch (or_cases later committed_later newer)

  →newer : (l p : ℕ) → Newer ev l p → newer? ev l p ≡ true
  →newer l p (inl none) = or_left _ _ (eq-eqb _ _ none)
  →newer l p (inr (inl in_later)) = or_right (eqb (source ev l) 0) _ (or_left _ _ (lt-ltb _ _ in_later))
  →newer l p (inr (inr in_same)) =
      or_right (eqb (source ev l) 0) _
      (or_right (ltb (stretch ev (source ev l)) (stretch ev p)) _
      (both _ _ (eq-eqb _ _ in_same.0) (lt-ltb _ _ in_same.1)))

  pub forbids→ : (l p : ℕ) → forbids? ev l p ≡ true → Forbids ev l p
  unfolding forbids?
  forbids→ l p passes =
      let to_it = issue? ev p && eqb (location ev p) (location ev l) in
      let with_newer = parts (to_it && ltb (stretch ev p) (stretch ev l)) (newer? ev l p) passes in
      let with_earlier = parts to_it _ with_newer.0 in
      let with_location = parts (issue? ev p) _ with_earlier.0 in
      record {
        store = record { test = with_location.0 };
        to_it = eqb-true _ _ with_location.1;
        earlier = ltb-true _ _ with_earlier.1;
        newer = newer→ l p with_newer.1;
      }

  pub →forbids : (l p : ℕ) → Forbids ev l p → forbids? ev l p ≡ true
  unfolding forbids?
  →forbids l p it = both _ _ (both _ _ (both _ _ it.store.test to_it) earlier) (→newer l p it.newer)
    where
      to_it : eqb (location ev p) (location ev l) ≡ true
      to_it = eq-eqb _ _ it.to_it

      earlier : ltb (stretch ev p) (stretch ev l) ≡ true
      earlier = lt-ltb _ _ it.earlier

  pub forbidden→ : (N p : ℕ) → forbidden? ev N p ≡ true → Forbidden ev N p
  unfolding forbidden?
  forbidden→ N p passes =
      let (e, inside, counted) = some→ N (λ e. any (λ l. forbids? ev l p) (counting ev e)) passes in
      let (l, here, it) = any→ (λ l. forbids? ev l p) (counting ev e) counted in
      (l, record { as_of = e; inside = inside; here = here }, forbids→ l p it)

  pub →forbidden : (N p : ℕ) → Forbidden ev N p → forbidden? ev N p ≡ true
  unfolding forbidden?
  →forbidden N p (l, counts, it) =
      →some N (λ e. any (λ l. forbids? ev l p) (counting ev e)) counts.as_of counts.inside
      (→any (λ l. forbids? ev l p) (counting ev counts.as_of) l counts.here (→forbids l p it))

  -- ---- pairs, as a test

  module _ (N : ℕ) (accepted : Accepted ev N) where
    pub pair→ : (p q : ℕ) → pair? ev N p q ≡ true → Pair ev N p q
    unfolding pair?
    pair→ p q passes =
        let (both_there, covered) = parts (forbidden? ev N p && observed? ev N q) _ passes in
        let there = parts (forbidden? ev N p) _ both_there in
        let missing : Forbidden ev N p = forbidden→ N p there.0 in
        let observed : Observed ev N q = observed→ ev N q there.1 in
        let settled = observed_is_committed ev N accepted q observed in
        record {
          missing = missing;
          observed = observed;
          order = (covers_exactly ev p q missing.2.store settled.store).0 covered;
        }

    pub →pair : (p q : ℕ) → Pair ev N p q → pair? ev N p q ≡ true
    unfolding pair?
    →pair p q pair =
        let settled = observed_is_committed ev N accepted q pair.observed in
        both _ _ (both _ _ (→forbidden N p pair.missing) (→observed ev N q pair.observed))
        ((covers_exactly ev p q pair.missing.2.store settled.store).1 pair.order)

    pub →missing : (p q : ℕ) → Pair ev N p q → missing? ev N p ≡ true
    unfolding missing?
    →missing p q pair =
        →some N (pair? ev N p) q (observed_is_committed ev N accepted q pair.observed).early (→pair p q pair)

    -- a forbidden store is among the first N events
    forbidden_early : (p : ℕ) → Forbidden ev N p → p < N
    forbidden_early p (l, counts, it) =
        omega (arith, counted_early ev N l counts, earlier_stretch ev p l it.earlier)

    pub bad→ : bad? ev N ≡ true → (p : ℕ) × (q : ℕ) × Pair ev N p q
    unfolding bad? missing?
    bad→ passes =
        let with_p = some→ N (missing? ev N) passes in
        let with_q = some→ N (pair? ev N with_p.0) with_p.2 in
        (with_p.0, with_q.0, pair→ with_p.0 with_q.0 with_q.2)

    pub →bad : (p q : ℕ) → Pair ev N p q → bad? ev N ≡ true
    unfolding bad?
    →bad p q pair = →some N (missing? ev N) p (forbidden_early p pair.missing) (→missing p q pair)
