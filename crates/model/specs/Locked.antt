-- A locked operation, kind 12, and the three records that it stands for. Document 02, job 2: "In an accepted trace,
-- replacing it by the three, while the event limit holds, must give the same verdict, cut and share, event numbers
-- being carried over." Here is what that says; proofs/Replacements.antt, proofs/Unlocked.antt and
-- proofs/ReplacedBytes.antt prove it.
-- In order: event numbers; one record replaced; all of them; answers.
use Rattle.std.specs.Prelude.{ℕ, zero, suc, ◌+◌, ◌*◌, ◌≡◌, Bool, cond, List, [], ◌∷◌, ◌++◌, map, length, eqb, ltb}
use Rattle.record.specs.declared.events.Event.{Event}
use Rattle.record.specs.declared.events.Event.TheVariants.{Issue, Commit, Load}
use Rattle.record.specs.Events.{kind_of}
use Rattle.record.specs.Fields.{fields_of}
use Rattle.model.specs.Search.{bit}
use Rattle.model.specs.Trace.{trace_of}
use Rattle.model.specs.Answers as answers
use Rattle.model.specs.Judge.{judge_of, cut_after}
use Rattle.model.specs.Flushes.{moved, shifted_by}

abbrev pub locked? : Event → Bool
locked? e = eqb (kind_of e) 12

-- ---- "event numbers being carried over"

-- The number of event e once record k is three records: smaller numbers stay, larger ones move by 2, and k itself is
-- k + d, by what is meant: its load (d = 0), its issue (d = 1) or its commit (d = 2). An example, record 3 replaced:
--
--   before   0 begin   1 issue   2 commit   3 locked from 1                         4 crash   5 load from 3
--   after    0 begin   1 issue   2 commit   3 load from 1   4 issue   5 commit      6 crash   7 load from 4
--
-- `example_replaced` of proofs/Replacing.antt computes it.
unfoldable pub spread : ℕ → ℕ → ℕ → ℕ
spread d k e = cond (ltb e k) e (cond (eqb e k) (k + d) (e + 2))

abbrev pub as_load : ℕ → ℕ → ℕ
as_load = spread 0

abbrev pub as_store : ℕ → ℕ → ℕ
as_store = spread 1

-- ---- one record replaced

-- "a load, issue and commit with nothing between", of the same thread, location and source
abbrev pub three_of : Event → List Event
three_of e =
    let f = fields_of e in
    Load f.thread f.location f.source ∷ Issue f.thread f.location ∷ Commit f.thread ∷ []

-- the three in the place of record k
unfoldable pub replacing : ℕ → List Event → List Event
replacing k [] = []
replacing zero (e ∷ es) = three_of e ++ es
replacing (suc k) (e ∷ es) = e ∷ replacing k es

-- and all sources, which name stores, renumbered
abbrev pub replaced : ℕ → List Event → List Event
replaced k es = replacing k (map (moved (as_store k)) es)

-- ---- all locked operations replaced

-- those before number k, the last of them first, so that numbers below it stay
unfoldable pub replaced_before : ℕ → List Event → List Event
replaced_before zero es = es
replaced_before (suc k) es = cond (locked? (trace_of es k)) (replaced_before k (replaced k es)) (replaced_before k es)

abbrev pub unlocked : List Event → List Event
unlocked es = replaced_before (length es) es

-- how many of the first n records are locked operations
unfoldable pub locked_before : List Event → ℕ → ℕ
locked_before es zero = 0
locked_before es (suc n) = locked_before es n + bit (locked? (trace_of es n))

-- the number of event e then, by d as above: two more for each locked operation before it, and d more if it is one
unfoldable pub unlocked_at : ℕ → List Event → ℕ → ℕ
unlocked_at d es e = e + 2 * locked_before es e + cond (locked? (trace_of es e)) d 0

abbrev pub unlocked_load : List Event → ℕ → ℕ
unlocked_load = unlocked_at 0

abbrev pub unlocked_store : List Event → ℕ → ℕ
unlocked_store = unlocked_at 1

-- ---- "the same verdict, cut and share"

-- Windows are none of these, and differ: between the three records there are places for a flush, but "A flush can't
-- stand inside the record". A broken answer's kind without them; flush keeps its primary thread.
abbrev pub bare_fault : answers.Fault → answers.Fault
bare_fault answers.contradiction = answers.contradiction
bare_fault (answers.flush primary windows) = answers.flush primary []
bare_fault answers.impossible = answers.impossible

abbrev pub bare : answers.Answer → answers.Answer
bare (answers.refused k e) = answers.refused k e
bare (answers.robust events share) = answers.robust events share
bare (answers.broken events load missing observed kind) = answers.broken events load missing observed (bare_fault kind)

-- the verdict on the bytes `longer` is, windows apart, that on the bytes `short`, whatever buffers are lent: event e of
-- the short trace is event f e of the longer one as a load, g e as a store, and the longer one has n records more
pub record SameBareVerdict (f g : ℕ → ℕ) (n : ℕ) (longer short : List ℕ) : Type 0 where
  pub answer : (work cut : ℕ) → bare (judge_of longer work cut) ≡ shifted_by f g bare_fault n (judge_of short work cut)
  pub cut_buffer : (work : ℕ) (cut : List ℕ) → cut_after longer work cut ≡ cut_after short work cut
