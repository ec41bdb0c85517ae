-- The text of an input that is not too long: the lines of an answer and a cut buffer that are the definitions', with
-- the trace's threads and finished stretches. And that of no bytes, whole.
use Prim.Native.Nat.{ℕ, ◌≤◌}
use mathlib.Core.Path.{◌≡◌, refl}
use mathlib.Core.List.{List, []}
use lib.ListN.{length, replicate, length-replicate}
use borrow.Author.Tests.{le-ltb}
use Rattle.record.specs.Parts.{start}
use Rattle.record.specs.Reading.{read_at, read_first, read_framed, frame}
use Rattle.model.specs.Search.{first, first_from}
use Rattle.model.specs.Trace.{stretch}
use Rattle.model.specs.Answers.{Answer}
use Rattle.model.specs.Judge.{judge_of, cut_after}
use Rattle.model.proofs.NoBytes.{no_bytes_judged}
use Rattle.report.specs.Decimal.{digits_within, digits}
use Rattle.report.specs.Lines.{ascii, spaced, line, cut_lines, robust_lines, lines_of}
use Rattle.report.specs.Extent.{readable, threads_of, finished_of}
use Rattle.verdict_text.specs.Text.{text_of}

pub judged_text :
    (input : List ℕ) (answer : Answer) (n f work : ℕ) (lent cut : List ℕ) → length input ≤ 65535 → work ≡ 32768
    → lent ≡ replicate 56 0 → answer ≡ judge_of input work (length lent) → cut ≡ cut_after input work lent
    → n ≡ threads_of input → f ≡ finished_of input → lines_of answer n f cut ≡ text_of input
unfolding text_of
judged_text input answer n f work lent cut short room blank is cut_is threads finished =
    let size : length {A = ℕ} (replicate 56 0) ≡ 56 = length-replicate {A = ℕ} 56 0 in
    rw (is, cut_is, threads, finished, blank, room, size, le-ltb 65535 (length input) short) refl

-- no stretch of no bytes is finished
none_finished : finished_of [] ≡ 0
unfolding finished_of readable first first_from start read_at read_first read_framed frame stretch
none_finished = refl

-- Document 02, job 6: "robust, all-zero cut, share 100, `events 0`"; so there is no cut line
pub no_bytes_print : text_of [] ≡ ascii "events 0\nverdict robust\nshare 100\n"
unfolding text_of robust_lines cut_lines line spaced digits digits_within
no_bytes_print = rw (no_bytes_judged 32768 56, none_finished) refl
