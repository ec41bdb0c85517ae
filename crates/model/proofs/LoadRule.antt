-- The two searches of the load rule, read off a program's tables: the newest waiting store of a thread at a location is
-- the newest store there, if that is of the stretch and waits, for places grow; the last one committed of the stretch
-- is the newest committed store of the location, if that is of the stretch, for stretches grow.
-- In order: the newest store; `waiting`; the head of the committed stores; `current`.
use Prim.Native.Nat.{ℕ, zero, suc, ◌≤◌, ◌<◌}
use native.Mathlib.Omega.{arith}
use mathlib.Core.Path.{◌≡◌, refl, sym, ◌∙◌, ap}
use mathlib.Core.Bool.{true, false, cond, ◌&&◌}
use mathlib.Core.List.{◌∷◌}
use mathlib.Core.Logic.{◌⊎◌, inl, inr, ◌≢◌}
use lib.Dec.{eqb}
use borrow.Author.Tests.{eqb-true, eq-eqb, le-leb, leb-true}
use Rattle.record.specs.declared.events.Event.{Event}
use Rattle.model.specs.Search.{last}
use Rattle.model.specs.Trace.{thread, location, issue?, commit?, Issue, Commit, stretch, place}
use Rattle.model.specs.Machine.{beside, commits_before, oldest, committed, waits, waiting, commits_here, current}
use Rattle.model.specs.Rules.{Accepted}
use Rattle.model.specs.Stores.{head_of, made_at, newest_at, lands_at, landed}
use Rattle.model.proofs.Searching.{test, both, parts, either_way, last_is, last_of, last_none}
use Rattle.model.proofs.Counting.{stretch_mono, count_mono}
use Rattle.model.proofs.Acceptance.{beside_is, store_not_0}
use Rattle.model.proofs.StorePlaces.{fails, last_most, Store, committed_store}

module _ (ev : ℕ → Event) where
  -- ---- the newest store of thread t at location x

  pub record Made (n x t p : ℕ) : Type 0 where
    pub store : Issue ev p
    pub early : p < n
    pub to_x : location ev p ≡ x
    pub by_t : thread ev p ≡ t

  pub newest_made : (n x t : ℕ) → newest_at ev n x t ≢ 0 → Made n x t (newest_at ev n x t)
  unfolding newest_at
  newest_made n x t some =
      let p = last n (made_at ev x t) in
      let found = last_is n (made_at ev x t) some in
      let outer = parts (issue? ev p && eqb (location ev p) x) _ found.1 in
      let inner = parts (issue? ev p) _ outer.0 in
      record {
        store = record { test = inner.0 };
        early = found.0;
        to_x = eqb-true _ _ inner.1;
        by_t = eqb-true _ _ outer.1;
      }

  newest_most : (n x t q : ℕ) → Made n x t q → q ≤ newest_at ev n x t
  unfolding newest_at
  newest_most n x t q made =
      last_most n (made_at ev x t) q made.early
      (both _ _ (both _ _ made.store.test (eq-eqb _ _ made.to_x)) (eq-eqb _ _ made.by_t))

  -- ---- waiting

  -- store p, below n, is one of n's thread's waiting stores at n's location
  pub record Waits (n p : ℕ) : Type 0 where
    pub made : Made n (location ev n) (thread ev n) p
    pub in_stretch : stretch ev p ≡ stretch ev n
    pub not_yet : commits_before ev n ≤ place ev p

  waits→ : (n p : ℕ) → p < n → waits ev n p ≡ true → Waits n p
  waits→ n p early passes =
      let outer = parts (beside ev p n && eqb (location ev p) (location ev n)) _ passes in
      let inner = parts (beside ev p n) _ outer.0 in
      let own = beside_is ev n p inner.0 in
      record {
        made = record {
          store = own.store;
          early = early;
          to_x = eqb-true _ _ inner.1;
          by_t = own.by_thread;
        };
        in_stretch = own.in_stretch;
        not_yet = leb-true _ _ outer.1;
      }

  →waits : (n p : ℕ) → Waits n p → waits ev n p ≡ true
  →waits n p w =
      let own = both _ _ (both _ _ w.made.store.test (eq-eqb _ _ w.in_stretch)) (eq-eqb _ _ w.made.by_t) in
      both _ _ (both _ _ own (eq-eqb _ _ w.made.to_x)) (le-leb _ _ w.not_yet)

  -- the newest store of the thread at the location waits, or none does
  pub waiting_newest :
      (n p : ℕ) → newest_at ev n (location ev n) (thread ev n) ≡ p → Waits n p → waiting ev n ≡ p
  unfolding waiting
  waiting_newest n p newest w =
      last_of n (waits ev n) p w.made.early (→waits n p w)
      (λ q early passes. rw newest at (newest_most n _ _ q (waits→ n q early passes).made))

  pub waiting_none :
      (n p : ℕ) → Accepted ev n → newest_at ev n (location ev n) (thread ev n) ≡ p → (p ≢ 0 → Waits n p → ⊥)
      → waiting ev n ≡ 0
  unfolding waiting
  waiting_none n p accepted newest never =
      last_none n (waits ev n) (λ q early. fails _ (λ passes. no_other q (waits→ n q early passes)))
    where
      no_other : (q : ℕ) → Waits n q → ⊥
      no_other q w = never some newest_waits
        where
          below : q ≤ p
          below = rw newest at (newest_most n _ _ q w.made)

          some : p ≢ 0
          some is_0 = store_not_0 ev n accepted (omega (arith, w.made.early)) w.made.store (omega (arith, below))

          made : Made n (location ev n) (thread ev n) p
          made = rw newest at (newest_made n (location ev n) (thread ev n) (λ is_0. some (sym newest ∙ is_0)))

          in_stretch : stretch ev p ≡ stretch ev n
          in_stretch =
              let up = stretch_mono ev q p below in
              let down = stretch_mono ev p n (omega (arith, made.early)) in
              omega (arith, w.in_stretch)

          later_place : place ev q ≤ place ev p
          later_place =
              rw (w.in_stretch, w.made.by_t, in_stretch, made.by_t)
              (count_mono ev (issue? ev) q p (stretch ev n) (thread ev n) below)

          newest_waits : Waits n p
          newest_waits =
              record { made = made; in_stretch = in_stretch; not_yet = omega (arith, w.not_yet, later_place) }

  -- ---- the head of the committed stores

  pub committed_zero : committed ev 0 ≡ 0
  unfolding committed last
  committed_zero = either_way (oldest ev 0 0) 0

  -- the last event that commits a store at location x
  abbrev last_commit : ℕ → ℕ → ℕ
  last_commit n x = last n (lands_at ev x)

  head_is_last : (n x : ℕ) → head_of (landed ev n x) ≡ committed ev (last_commit n x)
  unfolding landed last
  head_is_last zero x = sym committed_zero
  head_is_last (suc n) x = by_landing (test (lands_at ev x n)) (head_is_last n x)
    where
      by_landing :
          (lands_at ev x n ≡ true) ⊎ (lands_at ev x n ≡ false) → head_of (landed ev n x) ≡ committed ev (last_commit n x)
          → head_of (cond (lands_at ev x n) (committed ev n ∷ landed ev n x) (landed ev n x))
          ≡ committed ev (cond (lands_at ev x n) n (last_commit n x))
      by_landing (inl lands) earlier = rw lands refl
      by_landing (inr elsewhere) earlier = rw elsewhere earlier

  -- ---- current

  -- event c, below n, commits a store at location x
  pub record Lands (n x c : ℕ) : Type 0 where
    pub commits : Commit ev c
    pub early : c < n
    pub to_x : location ev (committed ev c) ≡ x

  last_lands : (n x : ℕ) → last_commit n x ≢ 0 → Lands n x (last_commit n x)
  last_lands n x some =
      let found = last_is n (lands_at ev x) some in
      let both_pass = parts (commit? ev (last_commit n x)) _ found.1 in
      record { commits = record { test = both_pass.0 }; early = found.0; to_x = eqb-true _ _ both_pass.1 }

  lands_most : (n x c : ℕ) → Lands n x c → c ≤ last_commit n x
  lands_most n x c lands =
      last_most n (lands_at ev x) c lands.early (both _ _ lands.commits.test (eq-eqb _ _ lands.to_x))

  -- event c is such a commit in the stretch of event n
  record LandsHere (n c : ℕ) : Type 0 where
    lands : Lands n (location ev n) c
    in_stretch : stretch ev c ≡ stretch ev n

  here→ : (n c : ℕ) → c < n → commits_here ev n c ≡ true → LandsHere n c
  here→ n c early passes =
      let outer = parts (commit? ev c && eqb (stretch ev c) (stretch ev n)) _ passes in
      let inner = parts (commit? ev c) _ outer.0 in
      record {
        lands = record { commits = record { test = inner.0 }; early = early; to_x = eqb-true _ _ outer.1 };
        in_stretch = eqb-true _ _ inner.1;
      }

  →here : (n c : ℕ) → LandsHere n c → commits_here ev n c ≡ true
  →here n c here =
      both _ _ (both _ _ here.lands.commits.test (eq-eqb _ _ here.in_stretch)) (eq-eqb _ _ here.lands.to_x)

  module _ (N n : ℕ) (accepted : Accepted ev N) (inside : n ≤ N) where
    -- the head of the committed stores at location x is a store, if it is not 0
    pub record Head (x p : ℕ) : Type 0 where
      pub commit : ℕ
      pub lands : Lands n x commit
      pub is_last : last_commit n x ≡ commit
      pub store : Store ev (suc commit) (stretch ev commit) (thread ev commit) (commits_before ev commit) p

    head_store : (x p : ℕ) → head_of (landed ev n x) ≡ p → p ≢ 0 → Head x p
    head_store x p is_head some =
        let lands = last_lands n x (λ is_0. some (from_zero is_0)) in
        record {
          commit = last_commit n x;
          lands = lands;
          is_last = refl;
          store =
              rw (sym (head_is_last n x) ∙ is_head)
              at (committed_store ev N (last_commit n x) accepted (omega (arith, lands.early)) lands.commits);
        }
      where
        from_zero : last_commit n x ≡ 0 → p ≡ 0
        from_zero is_0 = sym is_head ∙ head_is_last n x ∙ ap (committed ev) is_0 ∙ committed_zero

    pub current_head :
        (p : ℕ) → head_of (landed ev n (location ev n)) ≡ p → p ≢ 0 → stretch ev p ≡ stretch ev n → current ev n ≡ p
    unfolding current
    current_head p is_head some in_stretch =
        ap (committed ev) chosen ∙ sym (head_is_last n (location ev n)) ∙ is_head
      where
        x : ℕ
        x = location ev n

        head : Head x p
        head = head_store x p is_head some

        here : LandsHere n (last_commit n x)
        here = rw head.is_last (record { lands = head.lands; in_stretch = sym head.store.in_j ∙ in_stretch })

        chosen : last n (commits_here ev n) ≡ last_commit n x
        chosen =
            last_of n (commits_here ev n) (last_commit n x) here.lands.early (→here n _ here)
            (λ q early passes. lands_most n x q (here→ n q early passes).lands)

    pub current_none :
        (p : ℕ) → head_of (landed ev n (location ev n)) ≡ p → (p ≢ 0 → stretch ev p ≢ stretch ev n) → current ev n ≡ 0
    unfolding current
    current_none p is_head never =
        ap (committed ev)
        (last_none n (commits_here ev n) (λ c early. fails _ (λ passes. no_commit c (here→ n c early passes))))
        ∙ committed_zero
      where
        x : ℕ
        x = location ev n

        no_commit : (c : ℕ) → LandsHere n c → ⊥
        no_commit c here = never some in_stretch
          where
            below : c ≤ last_commit n x
            below = lands_most n x c here.lands

            is_store : Store ev (suc c) (stretch ev c) (thread ev c) (commits_before ev c) (committed ev c)
            is_store =
                committed_store ev N c accepted (omega (arith, here.lands.early)) here.lands.commits

            last_some : last_commit n x ≢ 0
            last_some is_0 =
                store_not_0 ev N accepted (omega arith) is_store.store (omega (arith, is_store.early, below))

            lands : Lands n x (last_commit n x)
            lands = last_lands n x last_some

            c_last : ℕ
            c_last = last_commit n x

            head :
                Store ev (suc c_last) (stretch ev c_last) (thread ev c_last) (commits_before ev c_last)
                (committed ev c_last)
            head =
                committed_store ev N (last_commit n x) accepted (omega (arith, lands.early)) lands.commits

            is_p : committed ev (last_commit n x) ≡ p
            is_p = sym (head_is_last n x) ∙ is_head

            some : p ≢ 0
            some is_0 = store_not_0 ev N accepted (omega arith) head.store (is_p ∙ is_0)

            in_stretch : stretch ev p ≡ stretch ev n
            in_stretch =
                let of_head : stretch ev p ≡ stretch ev (last_commit n x) = rw (← is_p) head.in_j in
                let up = stretch_mono ev c (last_commit n x) below in
                let down = stretch_mono ev (last_commit n x) n (omega (arith, lands.early)) in
                omega (arith, here.in_stretch)
