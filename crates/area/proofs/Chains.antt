-- The links of a chain, from store to store: they begin with its head, and spell each earlier chain of the location
-- too, since commits only add to its front. Its commits fall, and so do those of each earlier chain.
use mathlib.Core.Path.{◌≡◌, refl}
use mathlib.Core.Bool.{true, false}
use mathlib.Core.Logic.{◌⊎◌, inl, inr, ◌≢◌}
use mathlib.Core.List.{List, [], ◌∷◌}
use Prim.Native.Nat.{ℕ, zero, suc, ◌≤◌}
use native.Mathlib.Omega.{arith}
use Rattle.record.specs.declared.events.Event.{Event}
use Rattle.model.specs.Machine.{committed}
use Rattle.model.specs.Stores.{head_of, lands_at, landed}
use Rattle.model.proofs.Searching.{test, same?}
use Rattle.area.specs.Cells.{get_row, committed_at}
use Rattle.area.specs.Rows.{Linked, Falls}

-- the first link is the list's head
pub linked_head : (l : List ℕ) (h : ℕ) (ps : List ℕ) → Linked l h ps → h ≡ head_of ps
linked_head l h [] linked = linked
linked_head l h (p ∷ ps) linked = linked.0

from_head : (l : List ℕ) (h : ℕ) (ps : List ℕ) → Linked l h ps → Linked l (head_of ps) ps
from_head l h [] linked = refl
from_head l h (p ∷ ps) linked = (refl, linked.1)

-- the chain of location x after fewer events
pub linked_earlier :
    (ev : ℕ → Event) (l : List ℕ) (x m n h : ℕ) → m ≤ n → Linked l h (landed ev n x)
    → Linked l (head_of (landed ev m x)) (landed ev m x)
unfolding landed
linked_earlier ev l x m zero h within links = let none : m ≡ 0 = omega arith in rw none (refl {a = 0})
linked_earlier ev l x m (suc n) h within links =
    by_event (same? m (suc n)) (test (lands_at ev x n)) (λ h. linked_earlier ev l x m n h) links
  where
    by_event :
        (m ≡ suc n) ⊎ (m ≢ suc n) → (lands_at ev x n ≡ true) ⊎ (lands_at ev x n ≡ false)
        → ((h : ℕ) → m ≤ n → Linked l h (landed ev n x) → Linked l (head_of (landed ev m x)) (landed ev m x))
        → Linked l h (landed ev (suc n) x) → Linked l (head_of (landed ev m x)) (landed ev m x)
    by_event (inl is_it) lands earlier spelt = rw is_it (from_head l h (landed ev (suc n) x) spelt)
    by_event (inr differs) (inl lands) earlier spelt =
        earlier (get_row l (committed ev n) 14) (omega arith) (rw lands at spelt).1
    by_event (inr differs) (inr fails) earlier spelt = earlier h (omega arith) (rw fails at spelt)

-- commits that fall from a number fall from a higher one
pub falls_less : (l : List ℕ) (b c : ℕ) (ps : List ℕ) → b ≤ c → Falls l b ps → Falls l c ps
falls_less l b c [] within falls = omega arith
falls_less l b c (p ∷ ps) within (first, falls) = (omega arith, falls)

-- the chain of location x after fewer events
pub falls_earlier :
    (ev : ℕ → Event) (l : List ℕ) (x m n b : ℕ) → m ≤ n → Falls l b (landed ev n x) → Falls l b (landed ev m x)
unfolding landed
falls_earlier ev l x m zero b within falls = let none : m ≡ 0 = omega arith in rw none (omega arith)
falls_earlier ev l x m (suc n) b within falls =
    by_event (same? m (suc n)) (test (lands_at ev x n)) (falls_earlier ev l x m n b) falls
  where
    by_event :
        (m ≡ suc n) ⊎ (m ≢ suc n) → (lands_at ev x n ≡ true) ⊎ (lands_at ev x n ≡ false)
        → (m ≤ n → Falls l b (landed ev n x) → Falls l b (landed ev m x)) → Falls l b (landed ev (suc n) x)
        → Falls l b (landed ev m x)
    by_event (inl is_it) lands earlier fall = rw is_it fall
    by_event (inr differs) (inl lands) earlier fall =
        let (first, rest) = rw lands at fall in
        earlier (omega arith) (falls_less l (committed_at l (committed ev n)) b (landed ev n x) (omega arith) rest)
    by_event (inr differs) (inr fails) earlier fall = earlier (omega arith) (rw fails at fall)

-- ---- from the work area l to l'

-- the rows of the stores hold their links and their commits as they did
abbrev pub Kept : List ℕ → List ℕ → List ℕ → Type 0
Kept l l' [] = Unit
Kept l l' (p ∷ ps) = ((get_row l' p 13 ≡ get_row l p 13) × (get_row l' p 14 ≡ get_row l p 14)) × Kept l l' ps

module _ (l l' : List ℕ) where
  pub linked_kept : (h : ℕ) (ps : List ℕ) → Kept l l' ps → Linked l h ps → Linked l' h ps
  linked_kept h [] kept linked = linked
  linked_kept h (p ∷ ps) kept linked =
      (linked.0, rw kept.0.1 (linked_kept (get_row l p 14) ps kept.1 linked.1))

  pub falls_kept : (b : ℕ) (ps : List ℕ) → Kept l l' ps → Falls l b ps → Falls l' b ps
  falls_kept b [] kept falls = falls
  falls_kept b (p ∷ ps) kept falls =
      rw kept.0.0 (falls.0, falls_kept (committed_at l p) ps kept.1 falls.1)
