-- `text_of` meets its contract: the lines of refusal 13 for too long an input, else of what `judge` answers and leaves
-- in the cut buffer.
use mathlib.Core.Path.{refl, ap, ◌∙◌}
use mathlib.Core.List.{List}
use Prim.Native.Nat.{ℕ}
use native.Mathlib.Omega.{arith}
use borrow.Author.Tests.{lt-ltb}
use lib.ListN.{length, length-replicate}
use Rattle.model.specs.Answers.{verdict_answer}
use Rattle.report.specs.Lines.{printed}
use Rattle.verdict_text.specs.Text.{text_of}
use Rattle.verdict_text.proofs.Texts.{judged_text}
use Rattle.verdict_text.proofs.text_of.Goals as goal

pub returns-then-input-gt65535 : goal.returns-then-input-gt65535
unfolding text_of
returns-then-input-gt65535 c =
    let long = lt-ltb 65535 (length c.args.input.now) (omega arith) in
    let ensures = c.report.ensures in
    record { size = rw long ensures.size; bytes = rw long ensures.bytes; front = ensures.front }

pub returns : goal.returns
unfolding text_of
returns c =
    let input : List ℕ = c.args.input.now in
    let verdict = c.judge-v in
    let shape = c.shape_of-s in
    let ensures = c.report-2.ensures in
    let is =
    judged_text input (verdict_answer verdict.result) shape.result.threads shape.result.finished _ _ _
    (omega arith) (length-replicate {A = ℕ} 32768 0) refl verdict.ensures.answer verdict.ensures.cut
    shape.ensures.0 shape.ensures.1
    in
    record {
      size = ensures.size ∙ ap length is;
      bytes = ensures.bytes ∙ ap (λ (text : List ℕ). printed text c.args.out.now) is;
      front = ensures.front;
    }
