-- Facts about every entry of a list, or about every number, that are shown by computing once: a test over a list; two
-- functions of a number; the numbers that a match has no arm for. So a rule of the table names no row.
use mathlib.Core.Path.{◌≡◌, refl}
use mathlib.Core.Bool.{Bool, true, false, ◌&&◌, ◌||◌}
use mathlib.Core.List.{List, [], ◌∷◌}
use Prim.Native.Nat.{ℕ, zero, suc}
use native.Mathlib.Omega.{arith}
use lib.ListN.{get_or}
use lib.Dec.{eqb}
use borrow.Author.Tests.{ne_eqb}
use Rattle.record.specs.Tests.{◌gives◌else◌}
use Rattle.record.specs.Fields.{Each}

-- ---- a test over a list

-- each entry of a list passes a test
abbrev pub every : {A : Type 0} → (A → Bool) → List A → Bool
every f [] = true
every f (x ∷ xs) = f x && every f xs

-- both parts of a conjunction that holds hold
both : (a b : Bool) → (a && b) ≡ true → (a ≡ true) × (b ≡ true)
both true b t = (refl, t)
both false b t = let z : ◌≡◌ {A = ℕ} 0 1 = cc in absurd (omega arith)

-- a test that each entry of a list passes, and the default, is passed at every index
pub every_at :
    {A : Type 0} (f : A → Bool) (xs : List A) (d : A) → every f xs ≡ true → f d ≡ true
    → (k : ℕ) → f (get_or xs k d) ≡ true
every_at f [] d t u k = u
every_at f (x ∷ xs) d t u zero = (both (f x) (every f xs) t).0
every_at f (x ∷ xs) d t u (suc k) = every_at f xs d (both (f x) (every f xs) t).1 u k

-- what a test shows of a number holds of each number of a list that passes it
pub every_each :
    (f : ℕ → Bool) (P : ℕ → Type 0) → ((x : ℕ) → f x ≡ true → P x)
    → (xs : List ℕ) → every f xs ≡ true → Each P xs
every_each f P shows [] t = tt
every_each f P shows (x ∷ xs) t =
    let parts = both (f x) (every f xs) t in
    (shows x parts.0, every_each f P shows xs parts.1)

-- what holds of each number of a list, and of the default, holds at every index
pub each_at : (P : ℕ → Type 0) (xs : List ℕ) (d : ℕ) → Each P xs → P d → (k : ℕ) → P (get_or xs k d)
each_at P [] d all none k = none
each_at P (x ∷ xs) d all none zero = all.0
each_at P (x ∷ xs) d all none (suc k) = each_at P xs d all.1 none k

-- ---- two functions of a number

-- what a function gives at the numbers below n
abbrev pub firsts : {A : Type 0} → ℕ → (ℕ → A) → List A
firsts zero f = []
firsts (suc n) f = f 0 ∷ firsts n (λ k. f (suc k))

-- the number that stands n behind k
abbrev pub behind : ℕ → ℕ → ℕ
behind zero k = k
behind (suc n) k = suc (behind n k)

-- two functions that agree at the numbers below n, which is computed, and from n on agree everywhere
pub everywhere :
    {A : Type 0} (n : ℕ) (f g : ℕ → A) → firsts n f ≡ firsts n g
    → ((k : ℕ) → f (behind n k) ≡ g (behind n k))
    → (k : ℕ) → f k ≡ g k
everywhere zero f g below past k = past k
everywhere (suc n) f g below past zero = cc
everywhere (suc n) f g below past (suc k) = everywhere n (λ i. f (suc i)) (λ i. g (suc i)) (cc) past k

-- a choice between two equal values
either : {A : Type 0} (b : Bool) (a x : A) → x ≡ a → (b gives a else x) ≡ a
either true a x same = refl
either false a x same = same

-- a function that gives a at the numbers below n that are not left out, which is computed, and from n on, gives it at
-- every number that is not left out
pub else_at :
    {A : Type 0} (n : ℕ) (out : ℕ → Bool) (f : ℕ → A) (a : A)
    → firsts n (λ k. out k gives a else f k) ≡ firsts n (λ k. a)
    → ((k : ℕ) → f (behind n k) ≡ a)
    → (k : ℕ) → out k ≡ false → f k ≡ a
else_at n out f a below past k stays =
    let found : (out k gives a else f k) ≡ a =
    everywhere n (λ i. out i gives a else f i) (λ i. a) below
    (λ i. either (out (behind n i)) a (f (behind n i)) (past i)) k
    in
    rw stays at found

-- ---- numbers that a match has no arm for

-- k is none of these numbers: what is known in the last arm of a match that has arms for them, the last one first
abbrev pub NoneOf : List ℕ → ℕ → Type 0
NoneOf [] k = Unit {0}
NoneOf (j ∷ js) k = NoneOf js k × (k ≡ j → ⊥)

-- k is one of these numbers
abbrev pub among : List ℕ → ℕ → Bool
among [] k = false
among (j ∷ js) k = eqb k j || among js k

-- so the test fails of a number that the match has no arm for
pub none_among : (js : List ℕ) (k : ℕ) → NoneOf js k → among js k ≡ false
none_among [] k none = refl
none_among (j ∷ js) k none = rw (ne_eqb k j none.1) (none_among js k none.0)
