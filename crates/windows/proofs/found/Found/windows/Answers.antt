-- Each call of the closure answers the window of its ends.
use Rattle.std.proofs.Common.{rules, arith}
use Rattle.windows.specs.Finding.{no_ends, window_in}
use Rattle.model.proofs.Mapped.{is_map}
use Rattle.windows.proofs.found.Found.windows.Goals as goal

pub returns : goal.returns
returns c =
    is_map _ window_in (λ f ends w f' called. search rules) _ c.args.self.threads _ _ no_ends (omega arith)
    c.map.ensures.items
