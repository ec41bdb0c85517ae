-- Document 01, "The trace": "Little-endian." Numbers of two bytes in a list of bytes.
use Rattle.std.specs.Prelude.{List, [], ◌∷◌, ℕ, ◌+◌, ◌*◌, ◌/◌, ◌%◌, get_or, set}

-- the number at an offset, its lower byte first
abbrev pub word : List ℕ → ℕ → ℕ
word s at = get_or s at 0 + get_or s (at + 1) 0 * 256

-- numbers of two bytes, one after the other
abbrev pub bytes : List ℕ → List ℕ
bytes [] = []
bytes (w ∷ ws) = w % 256 ∷ w / 256 % 256 ∷ bytes ws

-- the list with a number stored at an offset
abbrev pub put_word : List ℕ → ℕ → ℕ → List ℕ
put_word s at v = set (set s at (v % 256)) (at + 1) (v / 256 % 256)
