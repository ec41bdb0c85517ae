-- The work area as rows of 16 numbers, one for each event from 1 to 2,048, one after the other. Reads and stores are
-- total. Every number has a row, so `get_row` and `put_row` stay among the first 32,768 numbers (`start_inside` of
-- proofs/ReadBack.antt); `no_store` and `joined` store where they are told, wherever that is.
use Rattle.std.specs.Prelude.{ℕ, zero, suc, ◌+◌, ◌*◌, ◌/◌, ◌%◌, max, Bool, cond, ◌&&◌, List, get_or, set, eqb, leb, ltb}
use Rattle.model.specs.Answers.{tabulate, sum}

-- where row e begins; 0, which is no store's number, goes round to the last row
unfoldable pub row_start : ℕ → ℕ
row_start e = 16 * ((e + 2047) % 2048)

-- column k of row e
unfoldable pub get_row : List ℕ → ℕ → ℕ → ℕ
get_row l e k = get_or l (row_start e + k % 16) 0

-- l with v there
unfoldable pub put_row : List ℕ → ℕ → ℕ → ℕ → List ℕ
put_row l e k v = set l (row_start e + k % 16) v

-- event q's clock for store p's thread is not below p's own
abbrev pub clock_covers_w : List ℕ → ℕ → ℕ → Bool
clock_covers_w l p q = let t = get_row l p 8 in leb (get_row l p t) (get_row l q t)

-- store p is store q or happens before it: they are of the same stretch, and q's clock for p's thread is not below p's
-- own
abbrev pub covers_w : List ℕ → ℕ → ℕ → Bool
covers_w l p q = eqb (get_row l p 10) (get_row l q 10) && clock_covers_w l p q

-- stores p and q are on one cache line
abbrev pub one_line_w : List ℕ → ℕ → ℕ → Bool
one_line_w l p q = eqb (get_row l p 9 / 8) (get_row l q 9 / 8)

-- where the row of the event that committed store p begins: column 13 of its row. A locked operation commits itself,
-- and its column 13 is its source, a smaller number than where its own row begins
abbrev pub committed_at : List ℕ → ℕ → ℕ
committed_at l p = max (get_row l p 13) (row_start p)

-- the number of the event whose row begins there
abbrev pub event_at : ℕ → ℕ
event_at row = row / 16 + 1

-- the event whose row begins there is no store, and no signal: its stretch is 0 as either
abbrev pub no_store : List ℕ → ℕ → List ℕ
no_store l row = set (set l (row + 10) 0) (row + 11) 0

-- the first n numbers from `to` on become the larger of them and of event s's clock
unfoldable pub joined : ℕ → List ℕ → ℕ → ℕ → List ℕ → List ℕ
joined zero l s to numbers = numbers
joined (suc u) l s to numbers =
    let so_far = joined u l s to numbers in
    set so_far (to + u) (max (get_or so_far (to + u) 0) (get_or l (row_start s + u) 0))

-- the sum of n numbers from a position on
abbrev pub total : ℕ → List ℕ → ℕ → ℕ
total n l from = sum (tabulate n (λ i. get_or l (from + i) 0))

-- one more, and 0 after 65,535
unfoldable pub up : ℕ → ℕ
up x = cond (ltb x 65535) (x + 1) 0
