-- What judging reads of the tables: the last store of a location, and all commits of finished stretches. Their table
-- has them stretch by stretch, and in a stretch thread by thread, as the cut buffer does, from position 648 on.
use Prim.Native.Nat.{ℕ, ◌+◌, ◌/◌, ◌%◌, ◌<◌}
use native.Mathlib.Omega.{arith}
use mathlib.Core.Path.{◌≡◌, ◌∙◌, ap}
use mathlib.Core.List.{List}
use lib.ListN.{get_or}
use Rattle.record.specs.declared.events.Event.{Event}
use Rattle.model.specs.Choice.{finished}
use Rattle.model.specs.Answers.{sum, cut_of}
use Rattle.model.specs.Stores.{head_of, landed}
use Rattle.model.proofs.Tabulating.{tabulate_same}
use Rattle.area.proofs.Chains.{linked_head}
use Rattle.machine.specs.Tables.{last_cell, commits_cell, last_in, committed_in}
use Rattle.machine.specs.Twin.{World}
use Rattle.machine.specs.Sim.{Chains, Sim}

-- THE LAST STORE COMMITTED AT A LOCATION heads the list of all that are committed there
pub last_is :
    (ev : ℕ → Event) (n : ℕ) (tables l : List ℕ) → Chains ev n tables l → (x : ℕ) → x < 256
    → last_in tables x ≡ head_of (landed ev n x)
last_is ev n tables l chains x small =
    let same : x % 256 ≡ x = omega arith in
    ap (λ (i : ℕ). get_or tables (last_cell i) 0) same
    ∙ linked_head l (get_or tables (last_cell x) 0) (landed ev n x) (chains x small).links

module _ (ev : ℕ → Event) (n : ℕ) (w : World) (sim : Sim ev n w) where
  count_at_lem : (i : ℕ) → i < 56 → get_or w.tables (648 + i) 0 ≡ finished ev n (i / 8 + 1) (i % 8)
  count_at_lem i there =
      let cell_is : 648 + i ≡ commits_cell (i / 8 + 1) (i % 8) = omega arith in
      ap (λ (at : ℕ). get_or w.tables at 0) cell_is
      ∙ sim.commits_are (i / 8 + 1) (i % 8) (omega arith) (omega arith) (omega arith)

  -- THE STORES COMMITTED IN FINISHED STRETCHES
  pub committed_is : committed_in w.tables ≡ sum (cut_of (finished ev n))
  unfolding cut_of
  committed_is = ap sum (tabulate_same 56 _ _ count_at_lem)
