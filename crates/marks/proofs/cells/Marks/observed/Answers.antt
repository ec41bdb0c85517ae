-- What `find` answers is what the definition's search finds.
use Rattle.std.proofs.Common.{◌≡◌, ◌∙◌, ℕ, Bool, true, false, rules}
use Rattle.std.proofs.lemmas.Iterator.{first_from_Range}
use Rattle.marks.specs.Testing.{observed_in, observed_by}
use Rattle.marks.proofs.Loops.{found_is}
use Rattle.marks.proofs.cells.Marks.observed.Goals as goal

pub returns : goal.returns
unfolding observed_by
returns c =
    let passes : ℕ → Bool = observed_in c.args.rows.now c.args.self.now.flags c.args.m in
    c.unwrap_or.ensures
    ∙ found_is c.args.n passes c.find.result
    (first_from_Range _ _ _ c.find.result (λ p. passes p ≡ true) (λ p. passes p ≡ false) c.find.ensures.ran
    (λ p q called. search rules) (λ p q called. search rules))
