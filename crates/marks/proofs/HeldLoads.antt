-- The loads of a close, by the rows of held loads: the links lead from one to the next and spell the list of them, and
-- each row has what marking its load needs. So the code's loop marks the loads that count, one after the other.
use Prim.Native.Nat.{ℕ, zero, suc, ◌≤◌}
use native.Mathlib.Omega.{arith}
use mathlib.Core.Path.{◌≡◌, refl}
use mathlib.Core.List.{List, [], ◌∷◌}
use lib.ListN.{length}
use borrow.Author.Tests.{eq-eqb, ne_eqb}
use Rattle.record.specs.declared.events.Event.{Event}
use Rattle.area.specs.Cells.{get_row}
use Rattle.area.specs.Rows.{HeldLinked}
use Rattle.marks.specs.declared.cells.Marks.{Marks}
use Rattle.marks.specs.Judged.{held_at, all_held}
use Rattle.marks.proofs.EachLoad.{held_one, held_all}

module _ (ev : ℕ → Event) (l : List ℕ) where
  pub held_in_turn :
      (ks : List ℕ) (n : ℕ) (m : Marks) (h : ℕ) → HeldLinked ev l h ks → length ks ≤ n
      → all_held n l m h ≡ held_all ev l ks m
  unfolding all_held held_all
  held_in_turn [] zero m h none enough = refl
  held_in_turn [] (suc n) m h none enough = rw (eq-eqb h 0 none)
  held_in_turn (k ∷ ks) zero m h links enough = absurd (omega arith)
  held_in_turn (k ∷ ks) (suc n) m h (is_k, row, links) enough =
      rw (is_k, ne_eqb k 0 row.some_load, held_in_turn ks n (held_at l m k) (get_row l k 15) links (omega arith))
      same_load
    where
      same_load : held_all ev l ks (held_at l m k) ≡ held_all ev l ks (held_one ev l m k)
      same_load = rw (row.head_is, row.location_is, row.source_is) refl
