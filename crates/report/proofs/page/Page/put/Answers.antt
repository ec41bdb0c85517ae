-- A byte is stored where there is room, and else left out, as in the definition.
use mathlib.Core.Path.{refl}
use borrow.Author.Rules.{rules}
use Rattle.report.proofs.Pages.{byte_added, none_added}
use Rattle.report.proofs.page.Page.put.Goals as goal

pub returns-then-self : goal.returns-then-self
returns-then-self c = record { same = refl; added = byte_added _ _ _ (search rules) }

pub returns-else-self : goal.returns-else-self
returns-else-self c = record { same = refl; added = none_added _ _ _ (search rules) }
