-- A memory that keeps stores in order: what it holds when a stretch begins, if of the earlier stretches just the stores
-- of a choice reached it. The user's question is whether what was read "could have come from a memory that keeps stores
-- in order"; `explains_is_replay` of proofs/Replay.antt says that this is what a choice that explains a load means.
use Rattle.std.specs.Prelude.{ℕ, zero, suc, Bool, cond, ◌&&◌, eqb, ltb}
use Rattle.record.specs.declared.events.Event.{Event}
use Rattle.model.specs.Trace.{thread, location, commit?, stretch, place}
use Rattle.model.specs.Machine.{committed}
use Rattle.model.specs.Choice.{Choice}

module _ (ev : ℕ → Event) (c : Choice) where
  -- event n commits a store to location x that is in, in a stretch before j
  abbrev pub puts? : ℕ → ℕ → ℕ → Bool
  puts? j x n =
      let p = committed ev n in
      commit? ev n && ltb (stretch ev n) j && eqb (location ev p) x
      && ltb (place ev p) (c (stretch ev p) (thread ev p))

  -- the first n events replayed in their order, so stretch by stretch and in commit order, each such store put at its
  -- location: what location x holds when stretch j begins; 0, "the value before the trace", if nothing was stored there
  unfoldable pub memory : ℕ → ℕ → ℕ → ℕ
  memory j zero x = 0
  memory j (suc n) x = cond (puts? j x n) (committed ev n) (memory j n x)
