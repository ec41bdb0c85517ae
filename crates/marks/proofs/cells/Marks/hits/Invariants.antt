-- Invariant: what is found is what the search over the first t threads finds.
use Rattle.std.proofs.Common.{◌≡◌, ◌+◌}
use Rattle.model.specs.Search.{some}
use Rattle.marks.specs.Marks.{count_in}
use Rattle.marks.specs.Testing.{hit}
use Rattle.marks.proofs.cells.Marks.hits.Given as goal

abbrev pub invariant-loop-t : goal.invariant-loop-t
invariant-loop-t l =
    l.any ≡ some l.t (λ u. hit (count_in l.self.low (l.at + u)) (count_in l.self.cut (l.at + u)))
