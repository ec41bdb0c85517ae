-- Document 01's examples of bytes that are no trace, each with its refusal: a list of its own, since bytes that are no
-- records are not those of a list of events. Its example of 1, empty, is one for calls other than judging
-- (`no_bytes_refused` of Queries). Computed.
use Prim.Native.Nat.{ℕ}
use mathlib.Core.Path.{◌≡◌, refl}
use mathlib.Core.List.{List, [], ◌∷◌, map}
use Rattle.record.specs.Versions.{later_refusal}
use Rattle.record.specs.Reading.{read_at, read_first, read_framed, frame}
use Rattle.record.specs.Parts.{start, size_at}
use Rattle.record.specs.Table.{row_of}
use Rattle.record.specs.Fields.{event_of}
use Rattle.model.specs.Search.{first, first_from}
use Rattle.model.specs.Rules.{answer, rules}
use Rattle.model.specs.Reading.{turned_away, stop, record_at, events, reading_of}

-- B, version 1 with one thread and two locations, and the bytes that follow it
abbrev begun : List ℕ → List ℕ
begun rest = 8 ∷ 0 ∷ 1 ∷ 0 ∷ 1 ∷ 0 ∷ 1 ∷ 0 ∷ 2 ∷ 0 ∷ rest

-- cut short; kind 99; a crash of length 4; a length of 1; one byte; a later begin; a crash first
abbrev pub no_traces : List (List ℕ)
no_traces =
    (8 ∷ 0 ∷ 1 ∷ [])
    ∷ begun (2 ∷ 0 ∷ 99 ∷ 0 ∷ [])
    ∷ begun (4 ∷ 0 ∷ 9 ∷ 0 ∷ 0 ∷ 0 ∷ [])
    ∷ begun (1 ∷ 0 ∷ [])
    ∷ begun (0 ∷ [])
    ∷ begun (begun [])
    ∷ (2 ∷ 0 ∷ 9 ∷ 0 ∷ [])
    ∷ []

pub refusals_1_to_5 :
    map reading_of no_traces
    ≡ turned_away 2 0 ∷ turned_away 3 1 ∷ turned_away 4 1 ∷ turned_away 4 1 ∷ turned_away 2 1
    ∷ turned_away 5 1 ∷ turned_away 1 0 ∷ []
unfolding reading_of stop record_at events first first_from answer rules read_at read_first read_framed frame start size_at
    row_of event_of later_refusal
refusals_1_to_5 = refl
