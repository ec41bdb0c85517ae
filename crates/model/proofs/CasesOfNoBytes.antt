-- Document 02, job 6, "A recorder that never started": no bytes, and bytes that are nearly none, each with what tells
-- it from them. The definitions give them the answers that follow from documents 01 and 02, and the cut buffers. Some
-- are no records, so the answers are computed from the bytes themselves. Shown together as one list, by computation.
-- Made by tools/oracle/proof_file.py.
use mathlib.Core.Path.{◌≡◌, refl}
use mathlib.Core.List.{List, [], ◌∷◌, map}
use Prim.Native.Nat.{ℕ}
use Rattle.record.specs.Reading.{read_at, read_first, read_framed, frame}
use Rattle.record.specs.Parts.{start, size_at}
use Rattle.record.specs.Table.{row_of}
use Rattle.record.specs.Fields.{event_of}
use Rattle.record.specs.Versions.{later_refusal}
use Rattle.model.specs.Search.{some, any, first, first_from, most}
use Rattle.model.specs.Trace.{stretch, count}
use Rattle.model.specs.Machine.{countable, held, counting}
use Rattle.model.specs.Rules.{answer, rules}
use Rattle.model.specs.Choice.{finished}
use Rattle.model.specs.Verdict.{forbidden?, observed?, pair?, missing?, bad?, closure, ruling_of}
use Rattle.model.specs.Answers.{refused, robust}
use Rattle.model.specs.Answers.{tabulate, cut_of, sum, share_of}
use Rattle.model.specs.Reading.{events, record_at, stop, reading_of}
use Rattle.model.specs.Judge.{judge_of, cut_after}
use Rattle.model.proofs.Sessions.{lent, zeros, Outcome, outcome_of}

-- the bytes
pub sessions : List (List ℕ)
sessions =
    -- no bytes, as a recorder leaves that never started: no events, no stretch to cut, no store, so the share is 100
    ([]) ∷
    -- a begin alone is judged alike: the begin is none of the events behind it
    (8 ∷ 0 ∷ 1 ∷ 0 ∷ 1 ∷ 0 ∷ 1 ∷ 0 ∷ 2 ∷ 0 ∷ []) ∷
    -- a begin of eight threads and 256 locations alone: no stretch is finished, so there is no cut line
    (8 ∷ 0 ∷ 1 ∷ 0 ∷ 1 ∷ 0 ∷ 8 ∷ 0 ∷ 0 ∷ 1 ∷ []) ∷
    -- a begin and a crash: a stretch is finished, which has a cut line; there is no store, so the share is 100
    (8 ∷ 0 ∷ 1 ∷ 0 ∷ 1 ∷ 0 ∷ 1 ∷ 0 ∷ 2 ∷ 0 ∷ 2 ∷ 0 ∷ 9 ∷ 0 ∷ []) ∷
    -- the single byte 00 is not empty: a length takes two bytes, so it ends inside a record
    (0 ∷ []) ∷
    -- the single byte 08, where a begin would start, ends inside a record too
    (8 ∷ []) ∷
    -- a length of 0 and nothing behind it: under 2, which goes before missing bytes
    (0 ∷ 0 ∷ []) ∷
    -- sixteen zeros, as a file made ready for a recorder may hold, are not empty: a length of 0
    (0 ∷ 0 ∷ 0 ∷ 0 ∷ 0 ∷ 0 ∷ 0 ∷ 0 ∷ 0 ∷ 0 ∷ 0 ∷ 0 ∷ 0 ∷ 0 ∷ 0 ∷ 0 ∷ []) ∷
    -- a length of 2 and nothing behind it: the record's two bytes are missing
    (2 ∷ 0 ∷ []) ∷
    -- a begin without its last byte: the recorder started, and its bytes end inside a record
    (8 ∷ 0 ∷ 1 ∷ 0 ∷ 1 ∷ 0 ∷ 1 ∷ 0 ∷ 2 ∷ []) ∷
    -- a crash without its last byte: bytes that end inside a record go before a first record that is no begin
    (2 ∷ 0 ∷ 9 ∷ []) ∷
    -- a crash alone begins with some other record than a begin
    (2 ∷ 0 ∷ 9 ∷ 0 ∷ []) ∷
    -- an issue first is some other record too; that there is no begin goes before its thread
    (6 ∷ 0 ∷ 2 ∷ 0 ∷ 0 ∷ 0 ∷ 0 ∷ 0 ∷ []) ∷
    -- a locked operation first: that there is no begin goes before its thread, location and source
    (8 ∷ 0 ∷ 12 ∷ 0 ∷ 0 ∷ 0 ∷ 0 ∷ 0 ∷ 0 ∷ 0 ∷ []) ∷
    -- a wait first: that there is no begin goes before the signal that it lacks
    (6 ∷ 0 ∷ 14 ∷ 0 ∷ 0 ∷ 0 ∷ 0 ∷ 0 ∷ []) ∷
    -- the records of case 7 without their begin: the first one decides, whatever they would show behind it
    (6 ∷ 0 ∷ 2 ∷ 0 ∷ 0 ∷ 0 ∷ 0 ∷ 0 ∷ 4 ∷ 0 ∷ 3 ∷ 0 ∷ 0 ∷ 0 ∷ 2 ∷ 0 ∷ 9 ∷ 0 ∷ 8 ∷ 0 ∷ 4 ∷ 0 ∷ 0 ∷ 0
    ∷ 0 ∷ 0 ∷ 1 ∷ 0 ∷ 8 ∷ 0 ∷ 4 ∷ 0 ∷ 0 ∷ 0 ∷ 0 ∷ 0 ∷ 0 ∷ 0 ∷ []) ∷
    -- a first record of the unknown kind 99: that goes before its being no begin
    (2 ∷ 0 ∷ 99 ∷ 0 ∷ []) ∷
    -- a first record of kind 0 is of an unknown kind, and no end of the trace
    (2 ∷ 0 ∷ 0 ∷ 0 ∷ []) ∷
    -- a crash of length 4 first: the wrong length goes before its being no begin
    (4 ∷ 0 ∷ 9 ∷ 0 ∷ 0 ∷ 0 ∷ []) ∷
    -- a crash and then a begin: the first record is no begin, and a later one does not mend it
    (2 ∷ 0 ∷ 9 ∷ 0 ∷ 8 ∷ 0 ∷ 1 ∷ 0 ∷ 1 ∷ 0 ∷ 1 ∷ 0 ∷ 2 ∷ 0 ∷ []) ∷
    -- a crash first and one byte behind it: the judging ends at the first record, and not at the byte
    (2 ∷ 0 ∷ 9 ∷ 0 ∷ 0 ∷ []) ∷
    -- a begin of 9 threads alone is a begin, and out of range
    (8 ∷ 0 ∷ 1 ∷ 0 ∷ 1 ∷ 0 ∷ 9 ∷ 0 ∷ 2 ∷ 0 ∷ []) ∷
    -- a begin whose fields are all 0 is a begin, and out of range
    (8 ∷ 0 ∷ 1 ∷ 0 ∷ 0 ∷ 0 ∷ 0 ∷ 0 ∷ 0 ∷ 0 ∷ []) ∷
    -- a begin and one byte: the bytes end inside the record behind the begin, event 1
    (8 ∷ 0 ∷ 1 ∷ 0 ∷ 1 ∷ 0 ∷ 1 ∷ 0 ∷ 2 ∷ 0 ∷ 8 ∷ []) ∷
    []

-- the answers, and the cut buffers afterwards
pub answers : List Outcome
answers =
    -- no bytes, as a recorder leaves that never started: no events, no stretch to cut, no store, so the share is 100
    (record { answer = robust 0 100; cut = zeros 56 }) ∷
    -- a begin alone is judged alike: the begin is none of the events behind it
    (record { answer = robust 0 100; cut = zeros 56 }) ∷
    -- a begin of eight threads and 256 locations alone: no stretch is finished, so there is no cut line
    (record { answer = robust 0 100; cut = zeros 56 }) ∷
    -- a begin and a crash: a stretch is finished, which has a cut line; there is no store, so the share is 100
    (record { answer = robust 1 100; cut = zeros 56 }) ∷
    -- the single byte 00 is not empty: a length takes two bytes, so it ends inside a record
    (record { answer = refused 2 0; cut = lent }) ∷
    -- the single byte 08, where a begin would start, ends inside a record too
    (record { answer = refused 2 0; cut = lent }) ∷
    -- a length of 0 and nothing behind it: under 2, which goes before missing bytes
    (record { answer = refused 4 0; cut = lent }) ∷
    -- sixteen zeros, as a file made ready for a recorder may hold, are not empty: a length of 0
    (record { answer = refused 4 0; cut = lent }) ∷
    -- a length of 2 and nothing behind it: the record's two bytes are missing
    (record { answer = refused 2 0; cut = lent }) ∷
    -- a begin without its last byte: the recorder started, and its bytes end inside a record
    (record { answer = refused 2 0; cut = lent }) ∷
    -- a crash without its last byte: bytes that end inside a record go before a first record that is no begin
    (record { answer = refused 2 0; cut = lent }) ∷
    -- a crash alone begins with some other record than a begin
    (record { answer = refused 1 0; cut = lent }) ∷
    -- an issue first is some other record too; that there is no begin goes before its thread
    (record { answer = refused 1 0; cut = lent }) ∷
    -- a locked operation first: that there is no begin goes before its thread, location and source
    (record { answer = refused 1 0; cut = lent }) ∷
    -- a wait first: that there is no begin goes before the signal that it lacks
    (record { answer = refused 1 0; cut = lent }) ∷
    -- the records of case 7 without their begin: the first one decides, whatever they would show behind it
    (record { answer = refused 1 0; cut = lent }) ∷
    -- a first record of the unknown kind 99: that goes before its being no begin
    (record { answer = refused 3 0; cut = lent }) ∷
    -- a first record of kind 0 is of an unknown kind, and no end of the trace
    (record { answer = refused 3 0; cut = lent }) ∷
    -- a crash of length 4 first: the wrong length goes before its being no begin
    (record { answer = refused 4 0; cut = lent }) ∷
    -- a crash and then a begin: the first record is no begin, and a later one does not mend it
    (record { answer = refused 1 0; cut = lent }) ∷
    -- a crash first and one byte behind it: the judging ends at the first record, and not at the byte
    (record { answer = refused 1 0; cut = lent }) ∷
    -- a begin of 9 threads alone is a begin, and out of range
    (record { answer = refused 6 0; cut = lent }) ∷
    -- a begin whose fields are all 0 is a begin, and out of range
    (record { answer = refused 6 0; cut = lent }) ∷
    -- a begin and one byte: the bytes end inside the record behind the begin, event 1
    (record { answer = refused 2 1; cut = lent }) ∷
    []

pub no_bytes_as_worked : map outcome_of sessions ≡ answers
unfolding sessions answers judge_of cut_after reading_of stop record_at events some any first first_from most answer rules
    read_at read_first read_framed frame start size_at row_of event_of later_refusal stretch count countable held counting
    finished forbidden? observed? pair? missing? bad? closure ruling_of tabulate cut_of sum share_of
no_bytes_as_worked = refl
