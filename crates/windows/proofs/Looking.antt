-- The loop over the records: what is left of it, done from here, gives what all of it gives. One law for each way that
-- a turn ends: no record is left, or the next is noted.
use Prim.Native.Nat.{ℕ, suc, ◌-◌, ◌≤◌, ◌<◌}
use native.Mathlib.Omega.{arith}
use mathlib.Core.Path.{◌≡◌, refl}
use mathlib.Core.List.{List}
use Rattle.record.specs.declared.parts.SourceAt.{SourceAt}
use Rattle.record.specs.declared.parts.Place.{Place}
use Rattle.record.specs.Parts.{place_of, source_at}
use Rattle.windows.specs.declared.found.Ends.{Ends}
use Rattle.windows.specs.Finding.{noted, looked_from, looked}

module _ (bytes work : List ℕ) (p q : ℕ) (whole : List Ends) where
  -- the records behind event e are left, up to q, from a position on
  abbrev pub Left : ℕ → ℕ → List Ends → Type 0
  Left e at found = looked_from bytes work p q (q - e) e at found ≡ whole

  pub none_left : (e at : ℕ) (found : List Ends) → Left e at found → q ≤ e → found ≡ whole
  unfolding looked_from
  none_left e at found left past = let none : q - e ≡ 0 = omega arith in rw none at left

  pub one_more :
      (e at : ℕ) (found : List Ends) → Left e at found → e < q
      → (e' : ℕ) (said : SourceAt) (found' : List Ends)
      → e' ≡ suc e → said ≡ source_at bytes at → found' ≡ noted work p q found e' said → Left e' said.next found'
  unfolding looked_from
  one_more e at found left some e' said found' next_is source_is noted_is =
      let next_turn : q - e ≡ suc (q - suc e) = omega arith in
      rw (noted_is, next_is, source_is) (rw next_turn at left)

-- from the position with which the loop starts
pub whole_is :
    (bytes work : List ℕ) (p q : ℕ) (found : List Ends) (n : ℕ) (place : Place) → n ≡ suc p → place ≡ place_of bytes n
    → looked_from bytes work p q (q - p) p place.start found ≡ looked bytes work p q found
unfolding looked
whole_is bytes work p q found n place number_is place_is = rw (place_is, number_is) refl
