-- What `any` answers is what the definition's search answers.
use Rattle.std.proofs.Common.{suc, ◌∙◌, ap, refl, rules, arith}
use Rattle.std.proofs.lemmas.Iterator.{YieldsList-from_range}
use Rattle.std.proofs.lemmas.Iterator.Search.{any_from_yields_List}
use Rattle.marks.specs.Testing.{hits}
use Rattle.marks.specs.Judged.{pair_in}
use Rattle.marks.proofs.Loops.{some_of_range}
use Rattle.marks.proofs.cells.Marks.pair.Goals as goal

pub returns : goal.returns
unfolding pair_in
returns c =
    let marks = c.args.self.now in
    any_from_yields_List (hits marks) _ _ c.any.result c.any.ensures.ran (YieldsList-from_range 1 8 7 refl refl)
    (λ j b q called. search rules)
    ∙ some_of_range 7 1 (hits marks) (λ i. hits marks (suc i)) (λ i. ap (hits marks) (omega arith))
