-- What reading standard input answers. No contract can say which bytes are read.
use Rattle.std.specs.Prelude.{ℕ, List, ◌≡◌, ◌≤◌, length, take, Result, Ok, Err}

-- `&xs[..n]` is in bounds and has n bytes
abbrev pub IsPrefixLen : ℕ → List ℕ → Type 0
IsPrefixLen n xs = (n ≤ length xs) × (n ≡ length (take n xs))

-- the bytes that were read are counted from the buffer's start; of a read that failed nothing is said
abbrev pub Filled : {E : Type 0} → Result ℕ E → List ℕ → Type 0
Filled (Ok n) buf = IsPrefixLen n buf
Filled (Err e) buf = Unit {0}
