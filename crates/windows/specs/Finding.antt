-- How the windows are found, as total functions: what is noted of a record, of the records behind the missing store,
-- and the windows that this gives. What is found is a list of each thread's ends.
use Rattle.std.specs.Prelude.{ℕ, zero, suc, ◌-◌, ◌%◌, Bool, ◌&&◌, List, map, get_or, set, replicate, leb}
use Rattle.std.specs.Prelude.{Option, Some, None, is_some, is_none}
use Rattle.record.specs.declared.parts.Source.{Source}
use Rattle.record.specs.declared.parts.SourceAt.{SourceAt}
use Rattle.record.specs.Parts.{start, source_at}
use Rattle.record.specs.Tests.{◌gives◌else◌}
use Rattle.model.specs.declared.Window.{Window}
use Rattle.model.specs.declared.Windows.{Windows}
use Rattle.area.specs.Cells.{get_row, clock_covers_w, covers_w, up}
use Rattle.windows.specs.declared.found.Ends.{Ends}

-- ---- what is noted

-- of a thread of which nothing is found
abbrev pub no_ends : Ends
no_ends = record { first = None; last = None }

abbrev pub ends_at : List Ends → ℕ → Ends
ends_at found i = get_or found i no_ends

-- the first place at i is e
abbrev pub with_first : List Ends → ℕ → ℕ → List Ends
with_first found i e = set found i (record (ends_at found i) { first = Some e })

-- the last place at i is e
abbrev pub with_last : List Ends → ℕ → ℕ → List Ends
with_last found i e = set found i (record (ends_at found i) { last = Some e })

-- behind the missing store p, of thread t
abbrev pub noted_missing : ℕ → ℕ → List Ends
noted_missing t p = with_first (replicate 8 no_ends) (t % 8) (up p)

-- event e is the observed store q or a store that happens before it, and the first place at i is there. A store is
-- known by its row: the stretch of any other event is 0
abbrev pub ends_w : List ℕ → ℕ → List Ends → ℕ → ℕ → Bool
ends_w work q found e i = covers_w work e q && is_some (ends_at found i).first

-- event e as a store: its thread's last place so far, if the thread has its first
abbrev pub noted_store : List ℕ → ℕ → List Ends → ℕ → List Ends
noted_store work q found e =
    let i = get_row work e 8 % 8 in
    ends_w work q found e i gives with_last found i e else found

-- s, a store or a signal of the stretch of the missing store p, is p or its clock covers p; no number below p is such
abbrev pub brings_w : List ℕ → ℕ → ℕ → Bool
brings_w work p s = leb p s && clock_covers_w work p s

-- event e of thread t, whose source is s
abbrev pub noted_source : List ℕ → ℕ → List Ends → ℕ → ℕ → ℕ → List Ends
noted_source work p found e t s =
    (is_none (ends_at found (t % 8)).first && brings_w work p s) gives with_first found (t % 8) (up e) else found

-- event e, if it has a source
abbrev pub noted_source_if : List ℕ → ℕ → List Ends → ℕ → Option Source → List Ends
noted_source_if work p found e None = found
noted_source_if work p found e (Some said) = noted_source work p found e said.thread said.source

-- event e, with what its record says if it has a source: its store first, since the first place that its own load
-- gives the thread is behind it
abbrev pub noted : List ℕ → ℕ → ℕ → List Ends → ℕ → SourceAt → List Ends
noted work p q found e said =
    noted_source_if work p (noted_store work q found e) e said.source

-- ---- the records

module _ (bytes work : List ℕ) (p q : ℕ) where
  -- the next n records behind event e, from a position on
  unfoldable pub looked_from : ℕ → ℕ → ℕ → List Ends → List Ends
  looked_from zero e at found = found
  looked_from (suc n) e at found =
      let said = source_at bytes at in
      looked_from n (suc e) said.next (noted work p q found (suc e) said)

  -- the records behind p, up to q
  unfoldable pub looked : List Ends → List Ends
  looked found = looked_from (q - p) p (start bytes (suc p)) found

-- ---- the windows

-- none without a first and a last place
abbrev pub between : Option ℕ → Option ℕ → Option Window
between None last = None
between (Some first) None = None
between (Some first) (Some last) = Some (record { first = first; last = last })

abbrev pub window_in : Ends → Option Window
window_in ends = between ends.first ends.last

abbrev pub windows_by : List ℕ → List ℕ → ℕ → ℕ → Windows
windows_by bytes work p q =
    let primary = get_row work p 8 in
    record { primary = primary; threads = map window_in (looked bytes work p q (noted_missing primary p)) }
