-- The store that a commit makes take effect, and that a store and its commit name each other: in an accepted trace a
-- commit finds a waiting store or its own, and a place has one store and one commit.
use Prim.Native.Nat.{ℕ, suc, ◌≤◌, ◌<◌}
use native.Mathlib.Omega.{arith}
use mathlib.Core.Path.{◌≡◌, sym, ◌∙◌}
use mathlib.Core.Bool.{true, ◌&&◌}
use lib.Dec.{eqb}
use borrow.Author.Tests.{eqb-true, eq-eqb}
use Rattle.record.specs.declared.events.Event.{Event}
use Rattle.model.specs.Trace.{thread, issue?, Issue, Commit, stretch, place}
use Rattle.model.specs.Machine.{beside, commits_before, oldest, committed}
use Rattle.model.specs.Rules.{Accepted}
use Rattle.model.proofs.Searching.{both, parts, last_of}
use Rattle.model.proofs.Counting.{AtPlace, at_place_lem, place_unique}
use Rattle.model.proofs.Acceptance.{beside_is, Beside}
use Rattle.model.proofs.Committed.{CommitOf, store_there}

module _ (ev : ℕ → Event) where
  -- commit d makes store p take effect
  pub record Effect (d p : ℕ) : Type 0 where
    pub own : Beside ev d p
    pub early : p ≤ d
    pub at_place_lem : place ev p ≡ commits_before ev d

  pub effect_is : (d p : ℕ) → Effect d p → committed ev d ≡ p
  unfolding committed
  effect_is d p it =
      last_of (suc d) (oldest ev d) p (omega (arith, it.early)) passes (λ q early also. only q early also)
    where
      passes : oldest ev d p ≡ true
      passes = both _ _ (both _ _ in_stretch (eq-eqb _ _ it.own.by_thread)) (eq-eqb _ _ it.at_place_lem)
        where
          in_stretch : (issue? ev p && eqb (stretch ev p) (stretch ev d)) ≡ true
          in_stretch = both _ _ it.own.store.test (eq-eqb _ _ it.own.in_stretch)

      only : (q : ℕ) → q < suc d → oldest ev d q ≡ true → q ≤ p
      only q early also =
          let fits = parts (beside ev q d) _ also in
          let own = beside_is ev d q fits.0 in
          let same : q ≡ p =
          place_unique ev (issue? ev) q p own.store.test it.own.store.test
          (own.in_stretch ∙ sym it.own.in_stretch) (own.by_thread ∙ sym it.own.by_thread)
          (eqb-true _ _ fits.1 ∙ sym it.at_place_lem)
          in
          omega arith

  -- in an accepted trace each commit has one
  pub effect : (N d : ℕ) → Accepted ev N → d < N → Commit ev d → Effect d (committed ev d)
  effect N d accepted inside commits = rw (effect_is d found.p it) it
    where
      found : AtPlace ev (issue? ev) (suc d) (stretch ev d) (thread ev d) (commits_before ev d)
      found =
          at_place_lem ev (issue? ev) (suc d) (stretch ev d) (thread ev d) (commits_before ev d)
          (store_there ev N accepted d inside commits)

      it : Effect d found.p
      it = record {
        own = record { store = record { test = found.passes }; in_stretch = found.in_j; by_thread = found.by_t };
        early = omega (arith, found.early);
        at_place_lem = rw (found.in_j, found.by_t) found.at_i;
      }

  -- the commit with that effect is the store's commit
  pub effect_commit : (n d p : ℕ) → d < n → Commit ev d → Effect d p → CommitOf ev n p d
  effect_commit n d p inside commits it = record {
    inside = inside;
    commits_it_lem = commits;
    in_stretch = sym it.own.in_stretch;
    by_thread = sym it.own.by_thread;
    at_place_lem = sym it.at_place_lem;
  }

  -- the store's commit has that effect
  pub commit_effect : (N n d p : ℕ) → Accepted ev N → n ≤ N → Issue ev p → CommitOf ev n p d → Effect d p
  commit_effect N n d p accepted within store it = rw same at found
    where
      found : Effect d (committed ev d)
      found = effect N d accepted (omega (arith, it.inside)) it.commits_it_lem

      same : committed ev d ≡ p
      same =
          place_unique ev (issue? ev) (committed ev d) p found.own.store.test store.test
          (found.own.in_stretch ∙ it.in_stretch) (found.own.by_thread ∙ it.by_thread)
          (found.at_place_lem ∙ it.at_place_lem)
