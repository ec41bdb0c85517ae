-- Bounded searches that compute: the definitions below this file find stores and events by them. A test is passed if it
-- is `≡ true`. What each search finds is proved in proofs/Searching.antt.
use Rattle.std.specs.Prelude.{ℕ, zero, suc, max, Bool, true, false, cond, ◌||◌, List, [], ◌∷◌, eqb}

-- 1 if the test is passed, for counting
abbrev pub bit : Bool → ℕ
bit true = 1
bit false = 0

-- some number below n passes
unfoldable pub some : ℕ → (ℕ → Bool) → Bool
some zero f = false
some (suc n) f = f n || some n f

-- some number of the list passes
unfoldable pub any : (ℕ → Bool) → List ℕ → Bool
any f [] = false
any f (x ∷ xs) = f x || any f xs

-- x stands in the list
abbrev pub member : ℕ → List ℕ → Bool
member x xs = any (eqb x) xs

-- the largest number below n that passes, and 0 if there is none. 0 names no store and no commit:
-- `first_is_no_store_no_commit` of proofs/Acceptance.antt
unfoldable pub last : ℕ → (ℕ → Bool) → ℕ
last zero f = 0
last (suc n) f = cond (f n) n (last n f)

-- the smallest number from i on, among the next n, that passes, and i + n if there is none
unfoldable pub first_from : ℕ → ℕ → (ℕ → Bool) → ℕ
first_from i zero f = i
first_from i (suc n) f = cond (f i) i (first_from (suc i) n f)

-- the smallest number below n that passes, and n if there is none
unfoldable pub first : ℕ → (ℕ → Bool) → ℕ
first n f = first_from 0 n f

-- the largest value of f below n, and 0 if there is none
unfoldable pub most : ℕ → (ℕ → ℕ) → ℕ
most zero f = 0
most (suc n) f = max (most n f) (f n)
