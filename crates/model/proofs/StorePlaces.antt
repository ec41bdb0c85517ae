-- A thread's stores by their places, which is how a program links its queues: `store_at` finds the store at a place
-- wherever there is one, for a place has one store, and 0 elsewhere. A commit makes the store take effect whose place
-- is the number of commits before it.
-- In order: searches; the store at a place; the store that a commit makes take effect.
use Prim.Native.Nat.{ℕ, zero, suc, ◌+◌, ◌≤◌, ◌<◌}
use native.Mathlib.Omega.{arith}
use mathlib.Core.Path.{◌≡◌, refl, sym, ◌∙◌}
use mathlib.Core.Bool.{Bool, true, false, cond, ◌&&◌}
use mathlib.Core.Logic.{◌⊎◌, inl, inr, ◌≢◌}
use lib.Dec.{eqb}
use borrow.Author.Tests.{eqb-true, eq-eqb, not-false}
use Rattle.record.specs.declared.events.Event.{Event}
use Rattle.model.specs.Search.{bit, last}
use Rattle.model.specs.Trace.{thread, issue?, drained?, Issue, Commit, stretch, count, issues, place}
use Rattle.model.specs.Machine.{commits_before, committed}
use Rattle.model.specs.Rules.{Accepted}
use Rattle.model.specs.Stores.{at_place, store_at}
use Rattle.model.proofs.Searching.{false_true, test, same?, both, parts, last_of, last_none}
use Rattle.model.proofs.Counting.{count_lt, at_place_lem, place_unique}
use Rattle.model.proofs.Acceptance.{drained_empty}
use Rattle.model.proofs.Committed.{store_there}

-- ---- searches

-- a test that cannot pass fails
pub fails : (b : Bool) → (b ≡ true → ⊥) → b ≡ false
fails true never = absurd (never refl)
fails false never = refl

-- one more number: it is the largest that passes, or nothing changes
pub last_here : (n : ℕ) (f : ℕ → Bool) → f n ≡ true → last (suc n) f ≡ n
unfolding last
last_here n f passes = rw passes

pub last_skip : (n : ℕ) (f : ℕ → Bool) → f n ≡ false → last (suc n) f ≡ last n f
unfolding last
last_skip n f fails_it = rw fails_it

-- what passes is at most the largest
pub last_most : (n : ℕ) (f : ℕ → Bool) (q : ℕ) → q < n → f q ≡ true → q ≤ last n f
unfolding last
last_most zero f q below passes = absurd (omega arith)
last_most (suc n) f q below passes = by_last (test (f n)) (same? q n) (last_most n f q)
  where
    by_last :
        (f n ≡ true) ⊎ (f n ≡ false) → (q ≡ n) ⊎ (q ≢ n) → (q < n → f q ≡ true → q ≤ last n f)
        → q ≤ cond (f n) n (last n f)
    by_last (inl at_n) w earlier = rw at_n (omega arith)
    by_last (inr not_n) (inl is) earlier = false_true (sym not_n ∙ rw is at passes)
    by_last (inr not_n) (inr differs) earlier = rw not_n (earlier (omega arith) passes)

module _ (ev : ℕ → Event) where
  pub count_most : (f : ℕ → Bool) (n j t : ℕ) → count ev f n j t ≤ n
  unfolding count
  count_most f zero j t = omega arith
  count_most f (suc n) j t =
      one_more (f n && eqb (stretch ev n) j && eqb (thread ev n) t) (count_most f n j t)
    where
      one_more : (b : Bool) → count ev f n j t ≤ n → count ev f n j t + bit b ≤ suc n
      one_more true so_far = omega arith
      one_more false so_far = omega arith

  pub stretch_some : (n : ℕ) → 1 ≤ stretch ev n
  unfolding stretch
  stretch_some zero = omega arith
  stretch_some (suc n) = let so_far : 1 ≤ stretch ev n = stretch_some n in omega arith

  -- ---- the store at a place

  -- p, below n, is the store of thread t in stretch j with i stores before it
  pub record Store (n j t i p : ℕ) : Type 0 where
    pub store : Issue ev p
    pub early : p < n
    pub in_j : stretch ev p ≡ j
    pub by_t : thread ev p ≡ t
    pub at_i : issues ev p j t ≡ i

  pub its_place : {n j t i p : ℕ} → Store n j t i p → place ev p ≡ i
  its_place {n} {j} {t} {i} {p} s = rw (s.in_j, s.by_t) s.at_i

  at_place→ : (n j t i p : ℕ) → p < n → at_place ev j t i p ≡ true → Store n j t i p
  at_place→ n j t i p early passes =
      let in_j? = issue? ev p && eqb (stretch ev p) j in
      let outer = parts (in_j? && eqb (thread ev p) t) _ passes in
      let middle = parts in_j? _ outer.0 in
      let inner = parts (issue? ev p) _ middle.0 in
      let in_j : stretch ev p ≡ j = eqb-true _ _ inner.1 in
      let by_t : thread ev p ≡ t = eqb-true _ _ middle.1 in
      record {
        store = record { test = inner.0 };
        early = early;
        in_j = in_j;
        by_t = by_t;
        at_i = rw (← in_j, ← by_t) (eqb-true _ _ outer.1);
      }

  →at_place : {n j t i p : ℕ} → Store n j t i p → at_place ev j t i p ≡ true
  →at_place {n} {j} {t} {i} {p} s =
      let in_j = both _ _ s.store.test (eq-eqb (stretch ev p) j s.in_j) in
      both _ _ (both _ _ in_j (eq-eqb (thread ev p) t s.by_t)) (eq-eqb (place ev p) i (its_place s))

  -- it is found
  pub store_at_of : (n j t i p : ℕ) → Store n j t i p → store_at ev n j t i ≡ p
  unfolding store_at
  store_at_of n j t i p s =
      last_of n (at_place ev j t i) p s.early (→at_place s)
      (λ q early passes. only q (at_place→ n j t i q early passes))
    where
      only : (q : ℕ) → Store n j t i q → q ≤ p
      only q r =
          let same : q ≡ p =
          place_unique ev (issue? ev) q p r.store.test s.store.test (r.in_j ∙ sym s.in_j)
          (r.by_t ∙ sym s.by_t) (its_place r ∙ sym (its_place s))
          in
          omega arith

  pub store_at_is : (n j t i : ℕ) → i < issues ev n j t → Store n j t i (store_at ev n j t i)
  store_at_is n j t i some =
      let found = at_place_lem ev (issue? ev) n j t i some in
      let is_it : Store n j t i found.p =
      record {
        store = record { test = found.passes };
        early = found.early;
        in_j = found.in_j;
        by_t = found.by_t;
        at_i = found.at_i;
      }
      in
      rw (store_at_of n j t i found.p is_it) is_it

  pub store_at_none : (n j t i : ℕ) → issues ev n j t ≤ i → store_at ev n j t i ≡ 0
  unfolding store_at
  store_at_none n j t i none = last_none n (at_place ev j t i) (λ q early. fails _ (λ passes. never q early passes))
    where
      never : (q : ℕ) → q < n → at_place ev j t i q ≡ true → ⊥
      never q early passes =
          let s = at_place→ n j t i q early passes in
          let fewer : issues ev q j t < issues ev n j t =
          rw (s.in_j, s.by_t) at (count_lt ev (issue? ev) q n s.store.test early)
          in
          omega (arith, s.at_i)

  -- one more event: it is the store at the place, or nothing changes
  pub store_at_here :
      (n j t i : ℕ) → Issue ev n → stretch ev n ≡ j → thread ev n ≡ t → issues ev n j t ≡ i
      → store_at ev (suc n) j t i ≡ n
  store_at_here n j t i store in_j by_t at_i =
      store_at_of (suc n) j t i n
      (record { store = store; early = omega arith; in_j = in_j; by_t = by_t; at_i = at_i })

  pub store_at_else : (n j t i : ℕ) → (Store (suc n) j t i n → ⊥) → store_at ev (suc n) j t i ≡ store_at ev n j t i
  unfolding store_at
  store_at_else n j t i not_it =
      last_skip n (at_place ev j t i) (fails _ (λ passes. not_it (at_place→ (suc n) j t i n (omega arith) passes)))

  -- ---- the store that a commit makes take effect

  pub committed_at_lem : (c : ℕ) → committed ev c ≡ store_at ev (suc c) (stretch ev c) (thread ev c) (commits_before ev c)
  unfolding committed store_at
  committed_at_lem c = refl

  pub committed_store :
      (N c : ℕ) → Accepted ev N → c < N → Commit ev c
      → Store (suc c) (stretch ev c) (thread ev c) (commits_before ev c) (committed ev c)
  committed_store N c accepted inside commits =
      rw (committed_at_lem c)
      (store_at_is (suc c) (stretch ev c) (thread ev c) (commits_before ev c)
      (store_there ev N accepted c inside commits))

  -- an event that needs an empty queue, and issues, commits its own store
  pub committed_itself :
      (N c : ℕ) → Accepted ev N → c < N → drained? ev c ≡ true → Issue ev c → committed ev c ≡ c
  committed_itself N c accepted inside drains store =
      let empty = drained_empty ev N accepted c inside drains in
      let all : issues ev c (stretch ev c) (thread ev c) ≡ commits_before ev c = eqb-true _ _ (not-false _ empty) in
      committed_at_lem c
      ∙ store_at_here c (stretch ev c) (thread ev c) (commits_before ev c) store refl refl all

  -- a commit that issues nothing commits an earlier store
  pub committed_earlier :
      (N c : ℕ) → Accepted ev N → c < N → Commit ev c → issue? ev c ≡ false → committed ev c < c
  committed_earlier N c accepted inside commits no_issue =
      let it = committed_store N c accepted inside commits in
      by_order (same? (committed ev c) c) it.early it.store
    where
      by_order :
          (committed ev c ≡ c) ⊎ (committed ev c ≢ c) → committed ev c < suc c → Issue ev (committed ev c)
          → committed ev c < c
      by_order (inl is) early store = false_true (sym no_issue ∙ rw is at store.test)
      by_order (inr differs) early store = omega arith
