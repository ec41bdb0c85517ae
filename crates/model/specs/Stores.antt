-- What a program's tables and marks hold of a trace: a thread's store by its place, the newest store of a thread at a
-- location, the committed stores of a location, and of the forbidden stores those that are committed. 0, where there is
-- none, is no store: `first_is_no_store_no_commit` of proofs/Acceptance.antt. No public contract cites them.
use Rattle.std.specs.Prelude.{ℕ, zero, suc, Bool, false, cond, ◌&&◌, ◌||◌, not, List, [], ◌∷◌, eqb, ltb}
use Rattle.record.specs.declared.events.Event.{Event}
use Rattle.model.specs.Search.{last}
use Rattle.model.specs.Trace.{thread, location, issue?, commit?, stretch, commits, place}
use Rattle.model.specs.Machine.{committed}
use Rattle.model.specs.Verdict.{forbidden?}

-- ---- lists of stores

-- the first, 0 if there is none
abbrev pub head_of : List ℕ → ℕ
head_of [] = 0
head_of (p ∷ ps) = p

-- p stands in the list before the first s
unfoldable pub passed : ℕ → ℕ → List ℕ → Bool
passed s p [] = false
passed s p (q ∷ qs) = not (eqb q s) && (eqb q p || passed s p qs)

module _ (ev : ℕ → Event) where
  -- the store of thread t in stretch j with i stores before it, among the first n events; 0 if there is none
  abbrev pub at_place : ℕ → ℕ → ℕ → ℕ → Bool
  at_place j t i p = issue? ev p && eqb (stretch ev p) j && eqb (thread ev p) t && eqb (place ev p) i

  unfoldable pub store_at : ℕ → ℕ → ℕ → ℕ → ℕ
  store_at n j t i = last n (at_place j t i)

  -- the newest store of thread t at location x, in whichever stretch, among the first n events; 0 if there is none
  abbrev pub made_at : ℕ → ℕ → ℕ → Bool
  made_at x t p = issue? ev p && eqb (location ev p) x && eqb (thread ev p) t

  unfoldable pub newest_at : ℕ → ℕ → ℕ → ℕ
  newest_at n x t = last n (made_at x t)

  -- the stores committed at location x by the first n events, in whichever stretch, newest first
  abbrev pub lands_at : ℕ → ℕ → Bool
  lands_at x n = commit? ev n && eqb (location ev (committed ev n)) x

  unfoldable pub landed : ℕ → ℕ → List ℕ
  landed zero x = []
  landed (suc n) x = cond (lands_at x n) (committed ev n ∷ landed n x) (landed n x)

  -- ---- marks

  -- p is committed among the first n events
  abbrev pub committed? : ℕ → ℕ → Bool
  committed? n p = ltb (place ev p) (commits ev n (stretch ev p) (thread ev p))

  -- Forbidden and committed. By the letter a load forbids dropped stores too; no chain of commits holds those, and none
  -- is in a pair.
  unfoldable pub marked? : ℕ → ℕ → Bool
  marked? n p = forbidden? ev n p && committed? n p
