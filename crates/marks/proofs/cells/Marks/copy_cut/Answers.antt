-- As many counts as the buffer has numbers take the place of all of it.
use Rattle.std.proofs.Common.{◌∙◌, refl, rules}
use Rattle.marks.proofs.Closing.{copied_part}
use Rattle.marks.proofs.cells.Marks.copy_cut.Goals as goal

pub returns : goal.returns
returns c =
    c.copy_from_slice.ensures.after
    ∙ copied_part c.args.self.now.cut 56 _ c.args.out.now (λ i. refl) c.requires (search rules)
