-- Vector clocks, by which happens-before is computed: for each thread u, how many of u's first stores of the stretch
-- are a given store or happen before it, and how many happen before a given signal. What they mean is
-- `clock_is_happens_before` and `clock_is_handed` of proofs/Clocks.antt.
use Rattle.std.specs.Prelude.{ℕ, zero, suc, ◌+◌, max, Bool, cond, ◌&&◌, ◌||◌, eqb, ltb}
use Rattle.record.specs.declared.events.Event.{Event}
use Rattle.model.specs.Search.{bit}
use Rattle.model.specs.Trace.{thread, source, issue?, load?, signal?, wait?, crash?, stretch, place}

module _ (ev : ℕ → Event) where
  -- event n loads from a store, or waits for a signal
  abbrev pub meets? : ℕ → Bool
  meets? n = load? ev n && issue? ev (source ev n) || wait? ev n && signal? ev (source ev n)

  -- event n brings its source's clock to thread t: a load or wait of t whose source is an earlier event of its own
  -- stretch
  abbrev pub joins : ℕ → ℕ → Bool
  joins n t =
      meets? n && eqb (thread ev n) t && ltb (source ev n) n && eqb (stretch ev (source ev n)) (stretch ev n)

  unfoldable mutual
    -- before event n, this many of u's first stores of the stretch have come to thread t, by loads and waits
    pub seen : ℕ → ℕ → ℕ → ℕ
    -- before the trace none has
    seen zero t u = 0
    seen (suc n) t u =
        -- a crash: of the new stretch none has
        cond (crash? ev n) 0
        -- it loads from a store of the stretch, and so what happens before that store comes too; or it waits for a
        -- signal, and what happens before that comes
        (cond (joins n t) (max (seen n t u) (clock n (source ev n) u))
        -- any other event brings nothing
        (seen n t u))

    -- the clock of store q, where q is below n; of an event that is no store, the clock that a store of its thread
    -- right behind it would have, that store itself not counted
    pub clock : ℕ → ℕ → ℕ → ℕ
    -- no event is below 0
    clock zero q u = 0
    clock (suc n) q u =
        cond (eqb q n)
        -- of its own thread the stores before q, and q itself if it is a store
        (cond (eqb u (thread ev n)) (place ev n + bit (issue? ev n))
        -- of another thread what has come to its thread, by q too if q is such a load or wait
        (cond (joins n (thread ev n)) (max (seen n (thread ev n) u) (clock n (source ev n) u))
        (seen n (thread ev n) u)))
        -- an earlier event's clock stays
        (clock n q u)

  -- the vector clock of store q, or of signal q
  unfoldable pub vc : ℕ → ℕ → ℕ
  vc q u = clock (suc q) q u

  -- store p is store q or happens before it, by q's clock; if q is a signal, p happens before it
  abbrev pub covers? : ℕ → ℕ → Bool
  covers? p q = eqb (stretch ev p) (stretch ev q) && ltb (place ev p) (vc q (thread ev p))
