-- A page: a buffer's bytes and the position up to which it is written. Bytes are put on it one after the other; where
-- it is full they are left out and the position stays, so that putting needs no room.
use Rattle.std.specs.Prelude.{ℕ, ◌+◌, ◌≤◌, ◌≡◌, cond, List, [], ◌∷◌, length, set, ltb}
use Rattle.std.specs.Borrow.{MutBor}
use Rattle.report.specs.declared.page.Page.{Page as Lent}

pub data Page : Type 0 where
  page : List ℕ → ℕ → Page

-- the page with one byte more
unfoldable pub put_on : Page → ℕ → Page
put_on (page out at) b = cond (ltb at (length out)) (page (set out at b) (at + 1)) (page out at)

-- the page with bytes put on it, the first one first
unfoldable pub put_all : Page → List ℕ → Page
put_all p [] = p
put_all p (b ∷ bs) = put_all (put_on p b) bs

-- what a function that puts these bytes into a buffer, from a position on, ensures of the buffer afterwards and of the
-- position behind them: the page that they make, and that they are at most so many
pub record Added (before : List ℕ) (at : ℕ) (bytes : List ℕ) (most : ℕ) (after : List ℕ) (end : ℕ) : Type 0 where
  pub put : page after end ≡ put_all (page before at) bytes
  pub few : length bytes ≤ most

-- `Lent` is the code's page, a struct of a lent buffer and the position. What a method that puts these bytes on it
-- ensures: it keeps its buffer, and they are added
pub record Puts (old : Lent) (bytes : List ℕ) (most : ℕ) (new : Lent) : Type 0 where
  pub same : new.out.ghost_name ≡ old.out.ghost_name
  pub added : Added old.out.now old.at bytes most new.out.now new.at

-- a page on a buffer, with nothing written
pub record IsStart (out : MutBor (List ℕ)) (new : Lent) : Type 0 where
  pub same : new.out.ghost_name ≡ out.ghost_name
  pub bytes : new.out.now ≡ out.now
  pub empty : new.at ≡ 0
