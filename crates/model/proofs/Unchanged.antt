-- What an event changes and what it leaves, of all that a program's state holds: the counts of the stretch, the stores
-- by place, switches of a thread (skips), the newest stores, what threads have seen, and the committed stores of a
-- location. Each law that says that something is left takes as a premise that the event is not one of those that
-- change it.
use Prim.Native.Nat.{ℕ, zero, suc, ◌≤◌, ◌<◌, max}
use native.Mathlib.Omega.{arith}
use mathlib.Core.Path.{◌≡◌, refl, sym, ◌∙◌}
use mathlib.Core.Bool.{Bool, true, false, cond, ◌&&◌, ◌||◌}
use mathlib.Core.List.{List, [], ◌∷◌}
use mathlib.Core.Logic.{◌⊎◌, inl, inr, ◌≢◌}
use lib.Dec.{eqb}
use borrow.Author.Tests.{eqb-true, eq-eqb}
use Rattle.record.specs.declared.events.Event.{Event}
use Rattle.model.specs.Trace.{thread, location, source, issue?, commit?, crash?, skip_on?, skip_off?}
use Rattle.model.specs.Trace.{open?, close?}
use Rattle.model.specs.Trace.{Issue, Commit, Load, stretch, count}
use Rattle.model.specs.Machine.{committed, switched, skipping, opened}
use Rattle.model.specs.Rules.{Accepted}
use Rattle.model.specs.Clocks.{seen, vc}
use Rattle.model.specs.Stores.{store_at, made_at, newest_at, lands_at, landed}
use Rattle.model.proofs.Searching.{test, false_true, both, parts}
use Rattle.model.proofs.Counting.{stretch_crash, stretch_else, count_it, count_fresh, place_unique}
use Rattle.model.proofs.Roles.{one_kind, load_no_crash, wait_no_load}
use Rattle.model.proofs.ClockSteps.{Meets, loads_store, waits_signal, Joined, joins→, →joins}
use Rattle.model.proofs.ClockSteps.{seen_join, seen_keep}
use Rattle.model.proofs.StorePlaces.{fails, last_here, last_skip, store_at_none, store_at_else}
use Rattle.model.proofs.StorePlaces.{its_place, committed_store}

module _ (ev : ℕ → Event) where
  -- ---- counts

  pub count_away :
      (f : ℕ → Bool) (n j t : ℕ) → (f n ≡ true → stretch ev n ≡ j → thread ev n ≡ t → ⊥)
      → count ev f (suc n) j t ≡ count ev f n j t
  unfolding count
  count_away f n j t away = rw none (omega arith)
    where
      none : (f n && eqb (stretch ev n) j && eqb (thread ev n) t) ≡ false
      none =
          fails _
          (λ passes.
          let outer = parts (f n && eqb (stretch ev n) j) _ passes in
          let inner = parts (f n) _ outer.0 in
          away inner.0 (eqb-true _ _ inner.1) (eqb-true _ _ outer.1))

  -- the count of the stretch in which an event stands
  abbrev pub live : (ℕ → Bool) → ℕ → ℕ → ℕ
  live f n t = count ev f n (stretch ev n) t

  pub live_away :
      (f : ℕ → Bool) (n t : ℕ) → crash? ev n ≡ false → (f n ≡ true → thread ev n ≡ t → ⊥)
      → live f (suc n) t ≡ live f n t
  live_away f n t no_crash away =
      rw (stretch_else ev n no_crash) (count_away f n (stretch ev n) t (λ passes _ by_t. away passes by_t))

  pub live_here : (f : ℕ → Bool) (n : ℕ) → crash? ev n ≡ false → f n ≡ true
      → live f (suc n) (thread ev n) ≡ suc (live f n (thread ev n))
  live_here f n no_crash passes =
      rw (stretch_else ev n no_crash) (count_it ev f n (stretch ev n) (thread ev n) passes refl refl)

  pub live_crash : (f : ℕ → Bool) (n t : ℕ) → crash? ev n ≡ true → live f (suc n) t ≡ 0
  live_crash f n t crash =
      rw (stretch_crash ev n crash)
      (count_away f n (suc (stretch ev n)) t (λ passes in_j by_t. omega arith)
      ∙ count_fresh ev f n (suc (stretch ev n)) t (omega arith))

  -- ---- stores by place

  pub store_at_away :
      (n j t i : ℕ) → (Issue ev n → thread ev n ≡ t → ⊥) → store_at ev (suc n) j t i ≡ store_at ev n j t i
  store_at_away n j t i away = store_at_else ev n j t i (λ s. away s.store s.by_t)

  pub store_at_crash : (n t i : ℕ) → crash? ev n ≡ true → store_at ev (suc n) (stretch ev (suc n)) t i ≡ 0
  store_at_crash n t i crash =
      store_at_none ev (suc n) (stretch ev (suc n)) t i (omega (arith, live_crash (issue? ev) n t crash))

  -- ---- switches of a thread

  module _ (on? off? : ℕ → Bool) where
    switched_away :
        (n t : ℕ) → crash? ev n ≡ false → (on? n ≡ true → thread ev n ≡ t → ⊥)
        → (off? n ≡ true → thread ev n ≡ t → ⊥) → switched ev on? off? (suc n) t ≡ switched ev on? off? n t
    unfolding switched
    switched_away n t no_crash not_on not_off =
        rw (no_crash, none (on? n) not_on, none (off? n) not_off) (stays (switched ev on? off? n t))
      where
        none : (b : Bool) → (b ≡ true → thread ev n ≡ t → ⊥) → (b && eqb (thread ev n) t) ≡ false
        none b away =
            fails _
            (λ passes. let both_pass = parts b _ passes in away both_pass.0 (eqb-true _ _ both_pass.1))

        stays : (b : Bool) → (true && (false || b && true)) ≡ b
        stays true = refl
        stays false = refl

    switched_on :
        (n : ℕ) → crash? ev n ≡ false → on? n ≡ true → switched ev on? off? (suc n) (thread ev n) ≡ true
    unfolding switched
    switched_on n no_crash on = rw (no_crash, on, eq-eqb (thread ev n) (thread ev n) refl)

    switched_off :
        (n : ℕ) → crash? ev n ≡ false → on? n ≡ false → off? n ≡ true
        → switched ev on? off? (suc n) (thread ev n) ≡ false
    unfolding switched
    switched_off n no_crash not_on off =
        rw (no_crash, not_on, off, eq-eqb (thread ev n) (thread ev n) refl)
        (ends (switched ev on? off? n (thread ev n)))
      where
        ends : (b : Bool) → (true && (false || b && false)) ≡ false
        ends true = refl
        ends false = refl

    switched_crash : (n t : ℕ) → crash? ev n ≡ true → switched ev on? off? (suc n) t ≡ false
    unfolding switched
    switched_crash n t crash = rw crash

  -- skips

  pub skipping_away :
      (n t : ℕ) → crash? ev n ≡ false → (skip_on? ev n ≡ true → thread ev n ≡ t → ⊥)
      → (skip_off? ev n ≡ true → thread ev n ≡ t → ⊥) → skipping ev (suc n) t ≡ skipping ev n t
  skipping_away = switched_away (skip_on? ev) (skip_off? ev)

  pub skipping_on : (n : ℕ) → skip_on? ev n ≡ true → skipping ev (suc n) (thread ev n) ≡ true
  skipping_on n on = switched_on (skip_on? ev) (skip_off? ev) n (one_kind ev n 10 9 (omega arith) on) on

  pub skipping_off : (n : ℕ) → skip_off? ev n ≡ true → skipping ev (suc n) (thread ev n) ≡ false
  skipping_off n off =
      switched_off (skip_on? ev) (skip_off? ev) n (one_kind ev n 11 9 (omega arith) off)
      (one_kind ev n 11 10 (omega arith) off) off

  pub skipping_crash : (n t : ℕ) → crash? ev n ≡ true → skipping ev (suc n) t ≡ false
  skipping_crash = switched_crash (skip_on? ev) (skip_off? ev)

  -- regions under a checksum

  pub opened_away :
      (n t : ℕ) → crash? ev n ≡ false → (open? ev n ≡ true → thread ev n ≡ t → ⊥)
      → (close? ev n ≡ true → thread ev n ≡ t → ⊥) → opened ev (suc n) t ≡ opened ev n t
  opened_away = switched_away (open? ev) (close? ev)

  pub opened_on : (n : ℕ) → open? ev n ≡ true → opened ev (suc n) (thread ev n) ≡ true
  opened_on n on = switched_on (open? ev) (close? ev) n (one_kind ev n 15 9 (omega arith) on) on

  pub opened_off : (n : ℕ) → close? ev n ≡ true → opened ev (suc n) (thread ev n) ≡ false
  opened_off n off =
      switched_off (open? ev) (close? ev) n (one_kind ev n 16 9 (omega arith) off)
      (one_kind ev n 16 15 (omega arith) off) off

  pub opened_crash : (n t : ℕ) → crash? ev n ≡ true → opened ev (suc n) t ≡ false
  opened_crash = switched_crash (open? ev) (close? ev)

  -- ---- the newest store of a thread at a location

  pub newest_away :
      (n x t : ℕ) → (Issue ev n → location ev n ≡ x → thread ev n ≡ t → ⊥)
      → newest_at ev (suc n) x t ≡ newest_at ev n x t
  unfolding newest_at
  newest_away n x t away = last_skip n (made_at ev x t) (fails _ never)
    where
      never : made_at ev x t n ≡ true → ⊥
      never passes =
          let outer = parts (issue? ev n && eqb (location ev n) x) _ passes in
          let inner = parts (issue? ev n) _ outer.0 in
          away (record { test = inner.0 }) (eqb-true _ _ inner.1) (eqb-true _ _ outer.1)

  pub newest_here : (n : ℕ) → Issue ev n → newest_at ev (suc n) (location ev n) (thread ev n) ≡ n
  unfolding newest_at
  newest_here n store =
      last_here n (made_at ev (location ev n) (thread ev n))
      (both _ _ (both _ _ store.test (eq-eqb (location ev n) (location ev n) refl))
      (eq-eqb (thread ev n) (thread ev n) refl))

  -- ---- what threads have seen

  pub seen_away :
      (n t u : ℕ) → crash? ev n ≡ false → (Meets ev n → thread ev n ≡ t → ⊥) → seen ev (suc n) t u ≡ seen ev n t u
  seen_away n t u no_crash away =
      seen_keep ev n t u no_crash
      (fails _ (λ passes. let joined = joins→ ev n t passes in away joined.meets joined.by_t))

  -- a load from a store of the stretch, or a wait for a signal of it
  pub seen_from_lem :
      (n u : ℕ) → Meets ev n → source ev n < n → stretch ev (source ev n) ≡ stretch ev n
      → seen ev (suc n) (thread ev n) u ≡ max (seen ev n (thread ev n) u) (vc ev (source ev n) u)
  seen_from_lem n u meets early in_stretch =
      seen_join ev n (thread ev n) u
      (→joins ev n (thread ev n) (record { meets = meets; by_t = refl; early = early; in_stretch = in_stretch }))

  -- any other load
  pub seen_crossing :
      (n t u : ℕ) → Load ev n
      → (Issue ev (source ev n) → source ev n < n → stretch ev (source ev n) ≡ stretch ev n → ⊥)
      → seen ev (suc n) t u ≡ seen ev n t u
  seen_crossing n t u loads none =
      seen_keep ev n t u (load_no_crash ev loads)
      (fails _ (λ passes. let joined = joins→ ev n t passes in by_role joined joined.meets))
    where
      by_role : Joined ev n t → Meets ev n → ⊥
      by_role joined (loads_store load store) = none store joined.early joined.in_stretch
      by_role joined (waits_signal wait signal) = false_true (sym (wait_no_load ev wait) ∙ loads.test)

  -- ---- the committed stores of a location

  pub landed_away :
      (n x : ℕ) → (Commit ev n → location ev (committed ev n) ≡ x → ⊥) → landed ev (suc n) x ≡ landed ev n x
  unfolding landed
  landed_away n x away = rw none
    where
      none : lands_at ev x n ≡ false
      none =
          fails _
          (λ passes.
          let both_pass = parts (commit? ev n) _ passes in
          away (record { test = both_pass.0 }) (eqb-true _ _ both_pass.1))

  pub landed_here :
      (n : ℕ) → Commit ev n
      → landed ev (suc n) (location ev (committed ev n)) ≡ committed ev n ∷ landed ev n (location ev (committed ev n))
  unfolding landed
  landed_here n commits =
      let x = location ev (committed ev n) in
      rw (both _ _ commits.test (eq-eqb x x refl))

  -- p is not in the list
  abbrev pub Lacks : ℕ → List ℕ → Type 0
  Lacks p [] = Unit
  Lacks p (q ∷ qs) = (q ≢ p) × Lacks p qs

  -- a store is committed once: what event n commits, no earlier event did
  pub committed_apart :
      (N m n : ℕ) → Accepted ev N → m < n → n < N → Commit ev m → Commit ev n → committed ev m ≢ committed ev n
  committed_apart N m n accepted early inside earlier commits same =
      let at_n = committed_store ev N n accepted inside commits in
      let at_m = rw same at (committed_store ev N m accepted (omega arith) earlier) in
      let one : m ≡ n =
      place_unique ev (commit? ev) m n earlier.test commits.test (sym at_m.in_j ∙ at_n.in_j)
      (sym at_m.by_t ∙ at_n.by_t) (sym (its_place ev at_m) ∙ its_place ev at_n)
      in
      omega arith

  pub landed_once :
      (N n : ℕ) → Accepted ev N → n < N → Commit ev n
      → (m x : ℕ) → m ≤ n → Lacks (committed ev n) (landed ev m x)
  unfolding landed
  landed_once N n accepted inside commits zero x early = tt
  landed_once N n accepted inside commits (suc m) x early =
      by_landing (test (lands_at ev x m)) (landed_once N n accepted inside commits m x (omega arith))
    where
      other : Commit ev m → committed ev m ≢ committed ev n
      other earlier = committed_apart N m n accepted (omega arith) inside earlier commits

      by_landing :
          (lands_at ev x m ≡ true) ⊎ (lands_at ev x m ≡ false) → Lacks (committed ev n) (landed ev m x)
          → Lacks (committed ev n) (cond (lands_at ev x m) (committed ev m ∷ landed ev m x) (landed ev m x))
      by_landing (inl lands) earlier =
          rw lands (other (record { test = (parts (commit? ev m) _ lands).0 }), earlier)
      by_landing (inr elsewhere) earlier = rw elsewhere earlier
