-- `flush_numbers` meets its contract: behind the first numbers stand the two numbers of each thread's window.
use Rattle.std.proofs.Common.{◌≡◌, ◌∙◌, refl, rules, arith, None}
use Rattle.model.specs.Answers.{window_answer}
use Rattle.model.proofs.Mapped.{is_map}
use Rattle.cabi.specs.Answers.{window_numbers}
use Rattle.cabi.proofs.WindowNumbers.{fields_of, window_numbers_lem, windows_numbers_lem, sixteen}
use Rattle.cabi.proofs.answers.flush_numbers.Goals as goal

pub returns : goal.returns
returns c =
    let windows = is_map _ fields_of
    (λ f window numbers f' called.
    let told : numbers ≡ window_numbers (window_answer window) = search rules in
    told ∙ window_numbers_lem window)
    _ c.args.w.threads _ _ None (omega arith) c.map.ensures.items in
    rw (windows_numbers_lem c.args.w, ← sixteen c.args.w.threads (omega arith) c.map.result windows) refl
