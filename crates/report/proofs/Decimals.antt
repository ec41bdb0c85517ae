-- Numbers in decimal: the digits of the definition are those of the library's `decimal`, so that its laws hold of them:
-- the last digit stands behind those of n / 10, as the code has it, and a two-byte number has at most five digits.
use Prim.Native.Nat.{ℕ, zero, suc, ◌+◌, ◌/◌, ◌%◌, ◌≤◌, ◌<◌}
use native.Mathlib.Omega.{arith}
use mathlib.Core.Path.{◌≡◌, ◌∙◌}
use mathlib.Core.Logic.{◌⊎◌, inl, inr}
use mathlib.Core.List.{[], ◌∷◌, ◌++◌}
use lib.ListN.{length}
use borrow.Author.Tests.{lt-ltb, le-ltb}
use Rattle.model.proofs.Searching.{less?}
use Rattle.std.specs.Fmt.{decimal}
use Rattle.std.proofs.lemmas.Fmt.{AppendsLastDigit, decimal_from_appends, decimal_digit}
use Rattle.std.proofs.lemmas.Fmt.{length-decimal-le, length-decimal-le_succ}
use Rattle.report.specs.Decimal.{digits_within, digits}

last_digit_behind : AppendsLastDigit digits_within
unfolding digits_within
last_digit_behind =
    record { one = λ k n small. simp (lt-ltb n 10 small); more = λ k n large. simp (le-ltb n 10 large) }

in_decimal : (n : ℕ) → n < 65536 → digits n ≡ decimal n
unfolding digits
in_decimal n below =
    let room : length (decimal n) ≤ suc n = omega (arith, length-decimal-le_succ n (omega arith)) in
    decimal_from_appends digits_within last_digit_behind (suc n) n (omega arith) room

pub one_digit : (n : ℕ) → n < 10 → digits n ≡ (48 + n) ∷ []
one_digit n small = in_decimal n (omega arith) ∙ decimal_digit n small

-- any bound above the number gives the same digits
bound_free : (k m n : ℕ) → n < k → n < m → digits_within k n ≡ digits_within m n
unfolding digits_within
bound_free zero m n h l = absurd (omega arith)
bound_free (suc k) zero n h l = absurd (omega arith)
bound_free (suc k) (suc m) n h l = by_size (less? n 10) (λ some. bound_free k m (n / 10) (omega arith) (omega arith))
  where
    by_size :
        (n < 10) ⊎ (10 ≤ n)
        → (10 ≤ n → digits_within k (n / 10) ≡ digits_within m (n / 10))
        → digits_within (suc k) n ≡ digits_within (suc m) n
    by_size (inl small) fewer = simp (lt-ltb n 10 small)
    by_size (inr large) fewer = simp (le-ltb n 10 large, fewer large)

-- of every number, also of one past two bytes
pub more_digits : (n : ℕ) → 10 ≤ n → digits n ≡ digits (n / 10) ++ ((48 + n % 10) ∷ [])
unfolding digits digits_within
more_digits n large =
    let fewer = bound_free n (suc (n / 10)) (n / 10) (omega arith) (omega arith) in
    simp (le-ltb n 10 large, fewer)

pub at_most_five : (n : ℕ) → n < 65536 → length (digits n) ≤ 5
at_most_five n below = rw (in_decimal n below) (length-decimal-le 5 n (omega arith) (omega arith) (omega arith))
