-- The ruling, computed: the tests and searches of this file compute what specs/Choice.antt means, and `exact` of
-- proofs/Exactness.antt proves it. Nobody has to believe them.
-- In order: which stores are forbidden, which observed; pairs of the two; the least choice; the ruling.
use Rattle.std.specs.Prelude.{ℕ, suc, Bool, cond, ◌&&◌, ◌||◌, not, eqb, ltb}
use Rattle.record.specs.declared.events.Event.{Event}
use Rattle.model.specs.Search.{some, any, most, first}
use Rattle.model.specs.Trace.{location, source, issue?, stretch}
use Rattle.model.specs.Machine.{counting, commit_of}
use Rattle.model.specs.Choice.{Choice, Ruling, robust, broken}
use Rattle.model.specs.Clocks.{vc, covers?}

module _ (ev : ℕ → Event) where
  -- ---- forbidden and observed stores

  -- `Newer`: store p is newer than load l's source
  abbrev pub newer? : ℕ → ℕ → Bool
  newer? l p =
      eqb (source ev l) 0
      || (ltb (stretch ev (source ev l)) (stretch ev p)
      || eqb (stretch ev (source ev l)) (stretch ev p) && ltb (commit_of ev l (source ev l)) (commit_of ev l p))

  -- `Forbids`: load l forbids store p
  unfoldable pub forbids? : ℕ → ℕ → Bool
  forbids? l p =
      issue? ev p && eqb (location ev p) (location ev l) && ltb (stretch ev p) (stretch ev l)
      && newer? l p

  -- `Observes`: load l observes store q
  unfoldable pub observes? : ℕ → ℕ → Bool
  observes? l q = eqb (source ev l) q && not (eqb q 0)

  -- `Forbidden`, `Observed`: some load that counts as of one of the first N events forbids p, observes q
  unfoldable pub forbidden? : ℕ → ℕ → Bool
  forbidden? N p = some N (λ e. any (λ l. forbids? l p) (counting ev e))

  unfoldable pub observed? : ℕ → ℕ → Bool
  observed? N q = some N (λ e. any (λ l. observes? l q) (counting ev e))

  -- ---- pairs

  -- `Pair`: p is forbidden, q is observed, and q's clock covers p: they are equal or p happens before q
  unfoldable pub pair? : ℕ → ℕ → ℕ → Bool
  pair? N p q =
      forbidden? N p && observed? N q && covers? ev p q

  -- p is the missing store of some pair of the first N events
  unfoldable pub missing? : ℕ → ℕ → Bool
  missing? N p = some N (pair? N p)

  -- the first N events have a pair
  unfoldable pub bad? : ℕ → Bool
  bad? N = some N (missing? N)

  -- ---- the least choice

  -- what store q asks of thread t in stretch j: its clock, if q is an observed store of that stretch
  abbrev pub asks : ℕ → ℕ → ℕ → ℕ → ℕ
  asks N j t q = cond (observed? N q && eqb (stretch ev q) j) (vc ev q t) 0

  -- for each stretch and thread the greatest clock of an observed store
  unfoldable pub closure : ℕ → Choice
  closure N j t = most N (asks N j t)

  -- ---- the ruling

  -- the first event with which there is a pair
  unfoldable pub load_of : ℕ → ℕ
  load_of N = first N (λ l. bad? (suc l))

  -- of all pairs of the first N events, the smallest missing, then the smallest observed store
  unfoldable pub missing_of : ℕ → ℕ
  missing_of N = first N (missing? N)

  unfoldable pub observed_of : ℕ → ℕ
  observed_of N = first N (pair? N (missing_of N))

  -- the ruling of the first N events
  unfoldable pub ruling_of : ℕ → Ruling
  ruling_of N =
      cond (bad? N)
      (broken (load_of N) (missing_of (suc (load_of N))) (observed_of (suc (load_of N))))
      (robust (closure N))
