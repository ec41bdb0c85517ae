-- Numbers in decimal, in ASCII: document 01, "Bytes are shown in hexadecimal, everything else in decimal."
use Rattle.std.specs.Prelude.{ℕ, zero, suc, ◌+◌, ◌/◌, ◌%◌, cond, List, [], ◌∷◌, ◌++◌, ltb}

-- the digits of n, the leading one first, if there are at most k: the last digit stands behind those of n / 10
unfoldable pub digits_within : ℕ → ℕ → List ℕ
digits_within zero n = []
digits_within (suc k) n = cond (ltb n 10) ((48 + n) ∷ []) (digits_within k (n / 10) ++ ((48 + n % 10) ∷ []))

-- n with no leading zeros; 0 is "0". No number has more than n + 1 digits
unfoldable pub digits : ℕ → List ℕ
digits n = digits_within (suc n) n
