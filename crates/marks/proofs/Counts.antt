-- What judging a load leaves of the marks: the walk and observing store in the cut, the lowest places and the flags, so
-- the last counted loads and the load that breaks the trace stay.
use Prim.Native.Nat.{ℕ, zero, suc}
use mathlib.Core.Path.{◌≡◌, refl}
use mathlib.Core.Bool.{Bool, true, false, cond}
use mathlib.Core.List.{List}
use lib.Dec.{eqb}
use Rattle.area.specs.Cells.{get_row}
use Rattle.marks.specs.declared.cells.Marks.{Marks}
use Rattle.marks.specs.Marking.{marked, walked, seen_from, loaded}

-- v has of m the last counted loads and the load that breaks the trace
abbrev pub Kept : Marks → Marks → Type 0
Kept m v = (v.last ≡ m.last) × (v.source ≡ m.source) × (v.broken ≡ m.broken)

module _ (l : List ℕ) where
  walked_keeps : (k : ℕ) (m : Marks) (h s : ℕ) → Kept m (walked k l m h s)
  unfolding walked marked
  walked_keeps zero m h s = (refl, refl, refl)
  walked_keeps (suc k) m h s = by_tests (eqb h 0) (eqb h s) (walked_keeps k (marked l m h) (get_row l h 14) s)
    where
      by_tests :
          (none stops : Bool) → Kept m (walked k l (marked l m h) (get_row l h 14) s)
          → Kept m (cond none m (cond stops m (walked k l (marked l m h) (get_row l h 14) s)))
      by_tests true stops further = (refl, refl, refl)
      by_tests false true further = (refl, refl, refl)
      by_tests false false further = further

  pub loaded_keeps : (m : Marks) (h s : ℕ) → Kept m (loaded l m h s)
  unfolding loaded seen_from
  loaded_keeps m h s = by_test (eqb s 0)
    where
      by_test :
          (none : Bool)
          → Kept m (cond none (walked 2048 l m h s) (seen_from l (walked 2048 l m h s) s (get_row l s 10)))
      by_test true = walked_keeps 2048 m h s
      by_test false = walked_keeps 2048 m h s
