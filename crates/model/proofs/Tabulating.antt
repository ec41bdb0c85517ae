-- Lists made number by number, and sums of such lists of counts.
use Prim.Native.Nat.{ℕ, zero, suc, ◌+◌, ◌≤◌, ◌<◌}
use native.Mathlib.Numerals.{add-one}
use native.Mathlib.Omega.{arith}
use mathlib.Core.Path.{◌≡◌, refl, ◌∙◌}
use mathlib.Core.List.{List, [], ◌∷◌, ◌++◌, map, map-append}
use mathlib.Core.Logic.{◌⊎◌, inl, inr}
use lib.ListN.{length, get_or, length-append, get_or-append}
use lib.Seq.{get_or_at}
use Rattle.model.specs.Answers.{tabulate, sum}
use Rattle.model.proofs.Searching.{less?}

sum_append : (xs : List ℕ) (y : ℕ) → sum (xs ++ (y ∷ [])) ≡ sum xs + y
unfolding sum
sum_append [] y = omega arith
sum_append (x ∷ xs) y = omega (arith, sum_append xs y)

-- one number more
pub sum_more : (i : ℕ) (f : ℕ → ℕ) → sum (tabulate i f) + f i ≡ sum (tabulate (i + 1) f)
unfolding tabulate
sum_more i f = rw (add-one, sum_append (tabulate i f) (f i))

pub sum_mono : (n : ℕ) (f g : ℕ → ℕ) → ((i : ℕ) → i < n → f i ≤ g i) → sum (tabulate n f) ≤ sum (tabulate n g)
unfolding tabulate
sum_mono zero f g below = omega arith
sum_mono (suc n) f g below =
    omega (
      arith,
      sum_append (tabulate n f) (f n),
      sum_append (tabulate n g) (g n),
      sum_mono n f g (λ i less. below i (omega arith)),
      below n (omega arith),
    )

-- two functions that agree below n give the same list
pub tabulate_same : {A : Type 0} (n : ℕ) (f g : ℕ → A) → ((i : ℕ) → i < n → f i ≡ g i) → tabulate n f ≡ tabulate n g
unfolding tabulate
tabulate_same zero f g same = refl
tabulate_same (suc n) f g same =
    rw (same n (omega arith), tabulate_same n f g (λ i below. same i (omega arith)))

pub tabulate_map :
    {A B : Type 0} (g : A → B) (n : ℕ) (f : ℕ → A) → map g (tabulate n f) ≡ tabulate n (λ i. g (f i))
unfolding tabulate
tabulate_map g zero f = refl
tabulate_map g (suc n) f = map-append g (tabulate n f) (f n ∷ []) ∙ rw (tabulate_map g n f)

pub tabulate_length : {A : Type 0} (n : ℕ) (f : ℕ → A) → length (tabulate n f) ≡ n
unfolding tabulate
tabulate_length zero f = refl
tabulate_length (suc n) f = omega (arith, length-append (tabulate n f) (f n ∷ []), tabulate_length n f)

pub tabulate_at : {A : Type 0} (n : ℕ) (f : ℕ → A) (i : ℕ) (d : A) → i < n → get_or (tabulate n f) i d ≡ f i
unfolding tabulate
tabulate_at zero f i d below = absurd (omega arith)
tabulate_at (suc n) f i d below = by_order (less? i n) (tabulate_at n f i d)
  where
    by_order :
        (i < n) ⊎ (n ≤ i) → (i < n → get_or (tabulate n f) i d ≡ f i) → get_or (tabulate n f ++ (f n ∷ [])) i d ≡ f i
    by_order (inl earlier) rest =
        get_or-append (tabulate n f) (f n ∷ []) d i (rw (tabulate_length n f) earlier) ∙ rest earlier
    by_order (inr last) rest =
        let is : i ≡ n = omega arith in
        rw is (get_or_at (tabulate n f) (f n) [] d n (tabulate_length n f))
