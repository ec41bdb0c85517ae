-- Tests and bounded searches: what it means that a test is passed, and what each search of specs/Search.antt finds.
-- In order: tests and their connectives; decisions on numbers; `some`, `any`, `most`, `first`, `last`.
use Prim.Native.Nat.{ℕ, zero, suc, ◌+◌, ◌≤◌, ◌<◌, max}
use native.Mathlib.Omega.{arith}
use mathlib.Core.Path.{◌≡◌, refl, sym, ◌∙◌}
use mathlib.Core.Bool.{Bool, true, false, cond, ◌&&◌, ◌||◌, not}
use mathlib.Core.Logic.{◌⊎◌, inl, inr, ◌≢◌}
use mathlib.Core.List.{List, [], ◌∷◌}
use lib.Dec.{eqb, ltb}
use borrow.Author.Tests.{eqb-true, eqb-false, eq-eqb, ltb-true, ltb-false, not-false}
use Rattle.model.specs.Search.{some, any, member, last, most, first, first_from}

-- ---- tests

pub false_true : {A : Type 0} → false ≡ true → A
false_true e = let z : ◌≡◌ {A = ℕ} 0 1 = cc in absurd (omega arith)

-- a test passes or fails
pub test : (b : Bool) → (b ≡ true) ⊎ (b ≡ false)
test true = inl refl
test false = inr refl

pub both : (a b : Bool) → a ≡ true → b ≡ true → (a && b) ≡ true
both true b s t = t
both false b s t = s

pub parts : (a b : Bool) → (a && b) ≡ true → (a ≡ true) × (b ≡ true)
parts true b t = (refl, t)
parts false b t = false_true t

-- `a && b` fails and a passes: b fails
pub fails_after : (a b : Bool) → (a && b) ≡ false → a ≡ true → b ≡ false
fails_after true b fails passes_a = fails
fails_after false b fails passes_a = false_true passes_a

pub or_cases : (a b : Bool) → (a || b) ≡ true → (a ≡ true) ⊎ (b ≡ true)
or_cases true b t = inl refl
or_cases false b t = inr t

pub or_left : (a b : Bool) → a ≡ true → (a || b) ≡ true
or_left true b t = refl
or_left false b t = false_true t

pub or_right : (a b : Bool) → b ≡ true → (a || b) ≡ true
or_right true b t = refl
or_right false b t = t

-- neither of two tests that are joined by `||` passes
pub or_fails : (a b : Bool) → (a || b) ≡ false → (a ≡ false) × (b ≡ false)
or_fails true b t = false_true (sym t)
or_fails false b t = (refl, t)

-- `(a && not b)` fails and a passes: b passes
pub not_without : (a b : Bool) → (a && not b) ≡ false → a ≡ true → b ≡ true
not_without true b fails passes = not-false b fails
not_without false b fails passes = false_true passes

-- a conjunction fails where its second part does
pub second_fails : (a b : Bool) → b ≡ false → (a && b) ≡ false
second_fails true b e = e
second_fails false b e = refl

-- three tests of which the third fails where the first passes
pub third_fails : (a b c : Bool) → (a ≡ true → c ≡ false) → (a && b && c) ≡ false
third_fails true true c fails = fails refl
third_fails true false c fails = refl
third_fails false b c fails = refl

-- two tests that pass together are equal
pub same_test : (a b : Bool) → (a ≡ true → b ≡ true) → (b ≡ true → a ≡ true) → a ≡ b
same_test true b to from = sym (to refl)
same_test false true to from = from refl
same_test false false to from = refl

-- of two tests that exclude each other one passes: the other fails
pub excluded : (a b : Bool) → (a ≡ true → b ≡ false) → b ≡ true → a ≡ false
excluded true b excludes passes = false_true (sym (excludes refl) ∙ passes)
excluded false b excludes passes = refl

-- where a test decides between one number and the same
pub either_way : (b : Bool) (n : ℕ) → cond b n n ≡ n
either_way true n = refl
either_way false n = refl

-- ---- numbers, decided

pub same? : (m n : ℕ) → (m ≡ n) ⊎ (m ≢ n)
same? m n = by_test (test (eqb m n))
  where
    by_test : (eqb m n ≡ true) ⊎ (eqb m n ≡ false) → (m ≡ n) ⊎ (m ≢ n)
    by_test (inl e) = inl (eqb-true m n e)
    by_test (inr e) = inr (eqb-false m n e)

pub less? : (m n : ℕ) → (m < n) ⊎ (n ≤ m)
less? m n = by_test (test (ltb m n))
  where
    by_test : (ltb m n ≡ true) ⊎ (ltb m n ≡ false) → (m < n) ⊎ (n ≤ m)
    by_test (inl e) = inl (ltb-true m n e)
    by_test (inr e) = inr (ltb-false m n e)

pub eqb_same : (n : ℕ) → eqb n n ≡ true
eqb_same n = eq-eqb n n refl

-- equality is tested either way round
pub eqb_turned : (a b : ℕ) → eqb a b ≡ eqb b a
eqb_turned a b =
    same_test _ _ (λ same. rw (eqb-true a b same) (eqb_same b)) (λ same. rw (eqb-true b a same) (eqb_same a))

-- two numbers with the same numbers below them are equal
pub same_below : (a b : ℕ) → ((i : ℕ) → i < a → i < b) → ((i : ℕ) → i < b → i < a) → a ≡ b
same_below a b up down = by_order (less? a b) (less? b a)
  where
    by_order : (a < b) ⊎ (b ≤ a) → (b < a) ⊎ (a ≤ b) → a ≡ b
    by_order (inl l) m = absurd (omega (arith, down a l))
    by_order (inr l) (inl m) = absurd (omega (arith, up b m))
    by_order (inr l) (inr m) = omega arith

-- ---- some

pub some→ : (n : ℕ) (f : ℕ → Bool) → some n f ≡ true → (i : ℕ) × (i < n) × (f i ≡ true)
unfolding some
some→ zero f t = false_true t
some→ (suc n) f t = last_or_earlier (or_cases (f n) (some n f) t) (some→ n f)
  where
    last_or_earlier :
        (f n ≡ true) ⊎ (some n f ≡ true) → (some n f ≡ true → (i : ℕ) × (i < n) × (f i ≡ true))
        → (i : ℕ) × (i < suc n) × (f i ≡ true)
    last_or_earlier (inl h) earlier = (n, omega arith, h)
    last_or_earlier (inr h) earlier = let w = earlier h in (w.0, omega arith, w.2)

pub →some : (n : ℕ) (f : ℕ → Bool) (i : ℕ) → i < n → f i ≡ true → some n f ≡ true
unfolding some
→some zero f i h t = absurd (omega arith)
→some (suc n) f i h t = last_or_earlier (same? i n) (→some n f i)
  where
    last_or_earlier : (i ≡ n) ⊎ (i ≢ n) → (i < n → f i ≡ true → some n f ≡ true) → (f n || some n f) ≡ true
    last_or_earlier (inl e) earlier = or_left (f n) (some n f) (rw (← e) t)
    last_or_earlier (inr d) earlier = or_right (f n) (some n f) (earlier (omega arith) t)

-- ---- any, and the largest value over a list

pub any→ : (f : ℕ → Bool) (xs : List ℕ) → any f xs ≡ true → (x : ℕ) × (member x xs ≡ true) × (f x ≡ true)
unfolding any
any→ f [] passes = false_true passes
any→ f (x ∷ xs) passes = by_first (or_cases (f x) (any f xs) passes) (any→ f xs)
  where
    by_first :
        (f x ≡ true) ⊎ (any f xs ≡ true)
        → (any f xs ≡ true → (y : ℕ) × (member y xs ≡ true) × (f y ≡ true))
        → (y : ℕ) × (member y (x ∷ xs) ≡ true) × (f y ≡ true)
    by_first (inl is_first_passes) later = (x, or_left (eqb x x) _ (eqb_same x), is_first_passes)
    by_first (inr rest) later =
        let (y, there, it) = later rest in (y, or_right (eqb y x) _ there, it)

pub →any : (f : ℕ → Bool) (xs : List ℕ) (x : ℕ) → member x xs ≡ true → f x ≡ true → any f xs ≡ true
unfolding any
→any f [] x there it = false_true there
→any f (y ∷ ys) x there it = by_first (or_cases (eqb x y) (member x ys) there) (λ later. →any f ys x later it)
  where
    by_first :
        (eqb x y ≡ true) ⊎ (member x ys ≡ true) → (member x ys ≡ true → any f ys ≡ true) → (f y || any f ys) ≡ true
    by_first (inl same) later = or_left (f y) _ (rw (eqb-true x y same) at it)
    by_first (inr further) later = or_right (f y) _ (later further)

-- two tests that agree on the numbers of a list
pub any_same :
    (f g : ℕ → Bool) (xs : List ℕ) → ((x : ℕ) → member x xs ≡ true → f x ≡ g x) → any f xs ≡ any g xs
any_same f g xs same = same_test _ _ to from
  where
    to : any f xs ≡ true → any g xs ≡ true
    to passes = let (x, there, it) = any→ f xs passes in →any g xs x there (sym (same x there) ∙ it)

    from : any g xs ≡ true → any f xs ≡ true
    from passes = let (x, there, it) = any→ g xs passes in →any f xs x there (same x there ∙ it)

-- what holds beside a test of the list holds beside each of its tests
pub any_and : (f : ℕ → Bool) (xs : List ℕ) (b : Bool) → (any f xs && b) ≡ any (λ x. f x && b) xs
unfolding any
any_and f [] b = refl
any_and f (x ∷ xs) b = rw (← any_and f xs b) (by_test (f x) (any f xs) b)
  where
    by_test : (a r b : Bool) → ((a || r) && b) ≡ (a && b || r && b)
    by_test true r true = refl
    by_test true true false = refl
    by_test true false false = refl
    by_test false r b = refl

-- the largest value of f in a list, and 0 if there is none
unfoldable pub greatest : (ℕ → ℕ) → List ℕ → ℕ
greatest f [] = 0
greatest f (x ∷ xs) = max (f x) (greatest f xs)

pub greatest→ :
    (f : ℕ → ℕ) (xs : List ℕ) (k : ℕ) → k < greatest f xs → (x : ℕ) × (member x xs ≡ true) × (k < f x)
unfolding greatest any
greatest→ f [] k below = absurd (omega arith)
greatest→ f (x ∷ xs) k below = by_first (less? k (f x)) (greatest→ f xs k)
  where
    by_first :
        (k < f x) ⊎ (f x ≤ k) → (k < greatest f xs → (y : ℕ) × (member y xs ≡ true) × (k < f y))
        → (y : ℕ) × (member y (x ∷ xs) ≡ true) × (k < f y)
    by_first (inl here) later = (x, or_left (eqb x x) _ (eqb_same x), here)
    by_first (inr not_here) later =
        let (y, there, it) = later (omega arith) in (y, or_right (eqb y x) _ there, it)

pub →greatest : (f : ℕ → ℕ) (xs : List ℕ) (k x : ℕ) → member x xs ≡ true → k < f x → k < greatest f xs
unfolding greatest any
→greatest f [] k x there below = false_true there
→greatest f (y ∷ ys) k x there below =
    by_first (or_cases (eqb x y) (member x ys) there) (λ later. →greatest f ys k x later below)
  where
    by_first :
        (eqb x y ≡ true) ⊎ (member x ys ≡ true) → (member x ys ≡ true → k < greatest f ys)
        → k < max (f y) (greatest f ys)
    by_first (inl same) later = let here : k < f y = rw (eqb-true x y same) at below in omega arith
    by_first (inr further) later = omega (arith, later further)

-- ---- most

pub most→ : (n : ℕ) (f : ℕ → ℕ) (k : ℕ) → k < most n f → (i : ℕ) × (i < n) × (k < f i)
unfolding most
most→ zero f k h = absurd (omega arith)
most→ (suc n) f k h = earlier_or_last (less? k (most n f)) (most→ n f k)
  where
    earlier_or_last :
        (k < most n f) ⊎ (most n f ≤ k) → (k < most n f → (i : ℕ) × (i < n) × (k < f i))
        → (i : ℕ) × (i < suc n) × (k < f i)
    earlier_or_last (inl l) earlier = let w = earlier l in (w.0, omega arith, w.2)
    earlier_or_last (inr l) earlier = (n, omega arith, omega arith)

pub →most : (n : ℕ) (f : ℕ → ℕ) (k i : ℕ) → i < n → k < f i → k < most n f
unfolding most
→most zero f k i h t = absurd (omega arith)
→most (suc n) f k i h t = last_or_earlier (same? i n) (→most n f k i)
  where
    last_or_earlier : (i ≡ n) ⊎ (i ≢ n) → (i < n → k < f i → k < most n f) → k < max (most n f) (f n)
    last_or_earlier (inl e) earlier = let at_n : k < f n = rw e at t in omega arith
    last_or_earlier (inr d) earlier = let before : k < most n f = earlier (omega arith) t in omega arith

-- ---- first

-- what the smallest has: it passes, and none below it does
pub record First (n : ℕ) (f : ℕ → Bool) (i : ℕ) : Type 0 where
  pub below : i < n
  pub passes : f i ≡ true
  pub smallest : (j : ℕ) → f j ≡ true → i ≤ j

-- the same of a search that starts at i
record FirstFrom (i n : ℕ) (f : ℕ → Bool) (w : ℕ) : Type 0 where
  below : w < i + n
  passes : f w ≡ true
  smallest : (k : ℕ) → i ≤ k → f k ≡ true → w ≤ k

first_from_is : (i n : ℕ) (f : ℕ → Bool) (j : ℕ) → i ≤ j → j < i + n → f j ≡ true → FirstFrom i n f (first_from i n f)
unfolding first_from
first_from_is i zero f j a b h = absurd (omega arith)
first_from_is i (suc n) f j a b h = here_or_later (test (f i)) (first_from_is (suc i) n f j)
  where
    here_or_later :
        (f i ≡ true) ⊎ (f i ≡ false)
        → (suc i ≤ j → j < suc i + n → f j ≡ true → FirstFrom (suc i) n f (first_from (suc i) n f))
        → FirstFrom i (suc n) f (cond (f i) i (first_from (suc i) n f))
    here_or_later (inl e) later = rw e (record { below = omega arith; passes = e; smallest = λ k l x. l })
    here_or_later (inr e) later =
        rw e
        (record {
          below = omega (arith, w.below);
          passes = w.passes;
          smallest = λ k l x. w.smallest k (past k l x) x;
        })
      where
        past : (k : ℕ) → i ≤ k → f k ≡ true → suc i ≤ k
        past k l x = by_equality (same? i k)
          where
            by_equality : (i ≡ k) ⊎ (i ≢ k) → suc i ≤ k
            by_equality (inl q) = false_true (sym e ∙ rw (← q) at x)
            by_equality (inr q) = omega arith

        w : FirstFrom (suc i) n f (first_from (suc i) n f)
        w = later (past j a h) (omega arith) h

pub first_is : (n : ℕ) (f : ℕ → Bool) → some n f ≡ true → First n f (first n f)
unfolding first
first_is n f h =
    let w = some→ n f h in
    let r = first_from_is 0 n f w.0 (omega arith) (omega arith) w.2 in
    record { below = omega (arith, r.below); passes = r.passes; smallest = λ j x. r.smallest j (omega arith) x }

-- where none passes, the search gives n
first_from_none : (i n : ℕ) (f : ℕ → Bool) → ((k : ℕ) → k < i + n → f k ≡ false) → first_from i n f ≡ i + n
unfolding first_from
first_from_none i zero f none = omega arith
first_from_none i (suc n) f none =
    rw (none i (omega arith)) (omega (arith, first_from_none (suc i) n f (λ k below. none k (omega arith))))

-- a number below n that the search gives is the smallest that passes
pub first_found : (n : ℕ) (f : ℕ → Bool) → first n f < n → First n f (first n f)
unfolding first
first_found n f below = by_some (test (some n f))
  where
    by_some : (some n f ≡ true) ⊎ (some n f ≡ false) → First n f (first n f)
    by_some (inl found) = first_is n f found
    by_some (inr none) =
        absurd (omega (arith, first_from_none 0 n f (λ k early. fails_below k (omega arith) (test (f k)))))
      where
        fails_below : (k : ℕ) → k < n → (f k ≡ true) ⊎ (f k ≡ false) → f k ≡ false
        fails_below k early (inl passes) = false_true (sym none ∙ →some n f k early passes)
        fails_below k early (inr fails) = fails

-- ---- last

-- what the largest has, if it is not 0
pub last_is : (n : ℕ) (f : ℕ → Bool) → last n f ≢ 0 → (last n f < n) × (f (last n f) ≡ true)
unfolding last
last_is zero f h = absurd (h refl)
last_is (suc n) f h = here_or_earlier (test (f n)) (last_is n f) h
  where
    here_or_earlier :
        (f n ≡ true) ⊎ (f n ≡ false) → (last n f ≢ 0 → (last n f < n) × (f (last n f) ≡ true))
        → (cond (f n) n (last n f) ≢ 0)
        → (cond (f n) n (last n f) < suc n) × (f (cond (f n) n (last n f)) ≡ true)
    here_or_earlier (inl e) earlier x = rw e (omega arith, e)
    here_or_earlier (inr e) earlier x = let w = earlier (rw e at x) in rw e (omega arith, w.1)

-- the largest is found
pub last_of :
    (n : ℕ) (f : ℕ → Bool) (p : ℕ) → p < n → f p ≡ true → ((q : ℕ) → q < n → f q ≡ true → q ≤ p) → last n f ≡ p
unfolding last
last_of zero f p l h largest = absurd (omega arith)
last_of (suc n) f p l h largest = by_last (test (f n)) (same? p n) (last_of n f p)
  where
    by_last :
        (f n ≡ true) ⊎ (f n ≡ false) → (p ≡ n) ⊎ (p ≢ n)
        → (p < n → f p ≡ true → ((q : ℕ) → q < n → f q ≡ true → q ≤ p) → last n f ≡ p)
        → cond (f n) n (last n f) ≡ p
    by_last (inl e) w earlier = rw e (omega (arith, largest n (omega arith) e))
    by_last (inr e) (inl w) earlier = false_true (sym e ∙ rw w at h)
    by_last (inr e) (inr w) earlier = rw e (earlier (omega arith) h (λ q z x. largest q (omega arith) x))

-- none that passes is larger
pub last_largest : (n : ℕ) (f : ℕ → Bool) (p : ℕ) → p < n → f p ≡ true → p ≤ last n f
unfolding last
last_largest zero f p below passes = absurd (omega arith)
last_largest (suc n) f p below passes = by_last (test (f n)) (same? p n) (last_largest n f p)
  where
    by_last :
        (f n ≡ true) ⊎ (f n ≡ false) → (p ≡ n) ⊎ (p ≢ n) → (p < n → f p ≡ true → p ≤ last n f)
        → p ≤ cond (f n) n (last n f)
    by_last (inl here) w earlier = rw here (omega arith)
    by_last (inr fails) (inl is) earlier = false_true (sym fails ∙ rw is at passes)
    by_last (inr fails) (inr other) earlier = rw fails (earlier (omega arith) passes)

pub last_none : (n : ℕ) (f : ℕ → Bool) → ((q : ℕ) → q < n → f q ≡ false) → last n f ≡ 0
unfolding last
last_none zero f none = refl
last_none (suc n) f none = rw (none n (omega arith)) (last_none n f (λ q l. none q (omega arith)))

-- tests that agree below n find the same
pub last_same : (n : ℕ) (f g : ℕ → Bool) → ((q : ℕ) → q < n → f q ≡ g q) → last n f ≡ last n g
unfolding last
last_same zero f g same = refl
last_same (suc n) f g same = rw (same n (omega arith), last_same n f g (λ q l. same q (omega arith)))

pub last_within : (n : ℕ) (f : ℕ → Bool) → last n f ≤ n
last_within n f = by_found (same? (last n f) 0)
  where
    by_found : (last n f ≡ 0) ⊎ (last n f ≢ 0) → last n f ≤ n
    by_found (inl none) = omega arith
    by_found (inr some) = omega (arith, (last_is n f some).0)
