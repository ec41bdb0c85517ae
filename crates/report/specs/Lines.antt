-- The lines that the program `verdict` prints for an answer: document 01, "The program `verdict`". Bytes in ASCII; 32
-- is a space, 10 a newline.
use Rattle.std.specs.Prelude.{ℕ, zero, suc, ◌+◌, ◌-◌, ◌*◌, ◌≤◌, min, ◌≡◌, List, [], ◌∷◌, ◌++◌, length, take, drop}
use Rattle.std.specs.Prelude.{get_or}
use Prim.Native.Char.{code}
use Prim.Native.String.{String, len, char_at}
use Rattle.model.specs.Answers.{Answer, refused, robust, broken, Fault, contradiction, flush, impossible}
use Rattle.model.specs.Answers.{tabulate}
use Rattle.report.specs.Decimal.{digits}

-- ---- a line

-- the first n bytes of a text, and all of them
abbrev pub letters : String → ℕ → List ℕ
letters text zero = []
letters text (suc n) = letters text n ++ (code (char_at text n) ∷ [])

abbrev pub ascii : String → List ℕ
ascii text = letters text (len text)

-- numbers, each with a space before it
unfoldable pub spaced : List ℕ → List ℕ
spaced [] = []
spaced (v ∷ vs) = (32 ∷ digits v) ++ spaced vs

-- "a line each": a text, numbers behind it, and a newline
unfoldable pub line : List ℕ → List ℕ → List ℕ
line text numbers = text ++ spaced numbers ++ (10 ∷ [])

-- ---- the cut

-- "stretch j, thread t stands at 8 × (j − 1) + t"
unfoldable pub count_at : List ℕ → ℕ → ℕ → ℕ
count_at cut j t = get_or cut (8 * (j - 1) + t) 0

-- "each thread's count" in stretch j, for n threads
abbrev pub counts_of : List ℕ → ℕ → ℕ → List ℕ
counts_of cut n j = tabulate n (count_at cut j)

-- "one cut line per finished stretch: its number, then each thread's count": the line of stretch j
unfoldable pub cut_line : List ℕ → ℕ → ℕ → List ℕ
cut_line cut n j = line (ascii "cut") (j ∷ counts_of cut n j)

-- those of stretches 1 to f
unfoldable pub cut_lines : List ℕ → ℕ → ℕ → List ℕ
cut_lines cut n zero = []
cut_lines cut n (suc f) = cut_lines cut n f ++ cut_line cut n (suc f)

-- ---- all the lines

-- "`refused` gives number and event, and is then the only line."
unfoldable pub refused_line : ℕ → ℕ → List ℕ
refused_line number event = line (ascii "refused") (number ∷ event ∷ [])

-- as case 2 prints: "Events after begin; one cut line per finished stretch", for n threads and f finished stretches.
-- "Threads: 1 to 8" and "At most 7 crashes": a larger n or f, which no accepted trace has, counts as 8 or 7
unfoldable pub robust_lines : ℕ → ℕ → ℕ → ℕ → List ℕ → List ℕ
robust_lines events share n f cut =
    line (ascii "events") (events ∷ [])
    ++ line (ascii "verdict robust") []
    ++ cut_lines cut (min n 8) (min f 7)
    ++ line (ascii "share") (share ∷ [])

-- document 02, job 5: "All who read the kind, the program included, know the third one."
abbrev pub kind_text : Fault → String
kind_text contradiction = "kind contradiction"
kind_text (flush primary windows) = "kind flush"
kind_text impossible = "kind impossible"

-- as case 1 prints: "`events 11`, `verdict broken`, `load 11`, `missing 5`, `observed 7`" and the kind, "a line each"
unfoldable pub broken_lines : ℕ → ℕ → ℕ → ℕ → Fault → List ℕ
broken_lines events load missing observed fault =
    line (ascii "events") (events ∷ [])
    ++ line (ascii "verdict broken") []
    ++ line (ascii "load") (load ∷ [])
    ++ line (ascii "missing") (missing ∷ [])
    ++ line (ascii "observed") (observed ∷ [])
    ++ line (ascii (kind_text fault)) []

-- what is written for an answer about a trace with n threads and f finished stretches, and its cut buffer
abbrev pub lines_of : Answer → ℕ → ℕ → List ℕ → List ℕ
lines_of (refused number event) n f cut = refused_line number event
lines_of (robust events share) n f cut = robust_lines events share n f cut
lines_of (broken events load missing observed fault) n f cut = broken_lines events load missing observed fault

-- a buffer with a text at its start, and the rest as it was
abbrev pub printed : List ℕ → List ℕ → List ℕ
printed text out = text ++ drop (length text) out

-- n counts bytes at the start of a buffer: what a caller needs to take that part of it
abbrev pub Front : ℕ → List ℕ → Type 0
Front n out = (n ≤ length out) × (n ≡ length (take n out))
