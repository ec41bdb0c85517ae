-- What a commit does to the components of `Sim` that commits concern, whatever else the event may be: the oldest store
-- of its thread that is not committed, `taken`, takes effect. It becomes the head of its location's chain, in which it
-- was not.
-- And the step of kind 3, which is a commit and nothing else: the next store of the thread is then the oldest.
-- In order: chains; the store; the chains afterwards; the step.
use mathlib.Core.Path.{◌≡◌, refl, sym, ◌∙◌}
use mathlib.Core.Bool.{false}
use mathlib.Core.List.{List, [], ◌∷◌}
use mathlib.Core.Logic.{◌⊎◌, inl, inr, ◌≢◌}
use Prim.Native.Nat.{ℕ, suc, ◌+◌, ◌-◌, ◌*◌, ◌≤◌, ◌<◌}
use native.Mathlib.Omega.{arith}
use borrow.Author.Tests.{ne_eqb}
use lib.ListN.{length, get_or}
use Rattle.record.specs.declared.events.Event.{Event}
use Rattle.model.specs.Trace.{kind, thread, location, issue?, commit?, load?, crash?, skip_on?, skip_off?, Commit, Load}
use Rattle.model.specs.Trace.{stretch, place}
use Rattle.model.specs.Machine.{committed}
use Rattle.model.specs.Rules.{refusal, Accepted}
use Rattle.model.specs.Stores.{store_at, landed}
use Rattle.model.proofs.Searching.{false_true, same?}
use Rattle.model.proofs.Roles.{commit_no_crash, locked_kind}
use Rattle.model.proofs.Acceptance.{store_not_0}
use Rattle.model.proofs.Limits.{accepted_next}
use Rattle.model.proofs.Ranges.{issue_has_location, commit_has_thread, location_bound}
use Rattle.model.proofs.StorePlaces.{Store, its_place, committed_at_lem, committed_store, committed_itself}
use Rattle.model.proofs.StorePlaces.{committed_earlier}
use Rattle.model.proofs.Unchanged.{live_here, store_at_away, landed_away, landed_here, landed_once, committed_apart}
use Rattle.model.proofs.Unchanged.{Lacks}
use Rattle.area.specs.Cells.{row_start, get_row, put_row, committed_at, no_store}
use Rattle.area.specs.Rows.{Linked, Falls}
use Rattle.area.proofs.Chains.{Kept, linked_kept, falls_kept, falls_less}
use Rattle.area.proofs.ReadBack.{start_is, length_put, rows_apart, put_same, put_column, put_row_lem}
use Rattle.machine.specs.declared.threads.Thread.{Thread}
use Rattle.machine.specs.Tables.{last_cell, stretch_cell}
use Rattle.machine.specs.Threads.{committed_t, thread_of}
use Rattle.machine.specs.Twin.{World}
use Rattle.machine.specs.Effects.{oldest_place, committed_tables, committed_work, commit_w}
use Rattle.machine.specs.Sim.{done, Queue, Chain, Chains, Sim}
use Rattle.machine.proofs.Storing.{Same}
use Rattle.machine.proofs.TableLaws.{committed_replaced, committed_beyond, committed_last}
use Rattle.machine.proofs.TableLaws.{committed_stretch}
use Rattle.machine.proofs.RowLaws.{no_store_is, no_store_earlier, no_store_behind, link_no_store}
use Rattle.machine.proofs.Keep.{Early, landed_early, limits_next, in_time, few_own, numbers_next, spares}
use Rattle.machine.proofs.Keep.{counted_up}
use Rattle.machine.proofs.Keep.{place_stays, issued_stays, newest_stays, skip_stays, queues_with, seen_keep}
use Rattle.machine.proofs.Keep.{newest_keep, commits_keep, sources_keep, rows_keep, links_keep}
use Rattle.machine.proofs.Holding.{regions_keep}

-- ---- chains

-- earlier rows but that of store p hold what they held behind column 12
abbrev pub OthersStay : ℕ → ℕ → List ℕ → List ℕ → Type 0
OthersStay n p l l' = (q k : ℕ) → 1 ≤ q → q < n → q ≢ p → 13 ≤ k → k < 16 → get_row l' q k ≡ get_row l q k

-- so does a list of stores that lacks p
others_kept :
    (ev : ℕ → Event) (n p : ℕ) (l l' : List ℕ) → OthersStay n p l l' → (ps : List ℕ) → Early n ps → Lacks ev p ps
    → Kept l l' ps
others_kept ev n p l l' same [] early lacks = tt
others_kept ev n p l l' same (q ∷ qs) early lacks =
    let column : (k : ℕ) → 13 ≤ k → k < 16 → get_row l' q k ≡ get_row l q k =
    λ k. same q k early.0.0 early.0.1 lacks.0
    in (
      (column 13 (omega arith) (omega arith), column 14 (omega arith) (omega arith)),
      others_kept ev n p l l' same qs early.1 lacks.1,
    )

-- store p heads the chain of location x, by a commit in stretch j, and the chains are else as they were before event n
pub record Headed (n p x j : ℕ) (tables tables' l l' : List ℕ) : Type 0 where
  pub head_is : get_or tables' (last_cell x) 0 ≡ p
  pub stretch_is : get_or tables' (stretch_cell x) 0 ≡ j
  pub link_is : get_row l' p 14 ≡ get_or tables (last_cell x) 0
  pub commit_is : committed_at l' p ≡ 16 * (n - 1)
  pub other_heads : (y : ℕ) → y < 256 → x ≢ y → get_or tables' (last_cell y) 0 ≡ get_or tables (last_cell y) 0
  pub other_stretches : (y : ℕ) → y < 256 → x ≢ y → get_or tables' (stretch_cell y) 0 ≡ get_or tables (stretch_cell y) 0
  pub other_rows : OthersStay n p l l'

module _ (ev : ℕ → Event) (n : ℕ) (w : World) (sim : Sim ev n w) (passes : refusal ev n ≡ 0)
    (is_commit : Commit ev n) where
  abbrev t : ℕ
  t = thread ev n

  abbrev j : ℕ
  j = stretch ev n

  abbrev l : List ℕ
  l = w.work

  abbrev tables : List ℕ
  tables = w.tables

  no_crash : crash? ev n ≡ false
  no_crash = commit_no_crash ev is_commit

  -- ---- the store that takes effect

  abbrev taken : ℕ
  taken = committed ev n

  accepted : Accepted ev (suc n)
  accepted = accepted_next ev n sim.limits.accepted passes

  taken_store : Store ev (suc n) j t (done ev n t) taken
  taken_store = committed_store ev (suc n) n accepted (omega arith) is_commit

  abbrev x : ℕ
  x = location ev taken

  x_small : x < 256
  x_small =
      location_bound ev (suc n) accepted taken taken_store.early
      (issue_has_location ev taken_store.store)

  -- ---- the chains: that of the store's location has a new head, and no link changes but the store's own

  pub chains_next : (tables' l' : List ℕ) → Headed n taken x j tables tables' l l' → Chains ev (suc n) tables' l'
  chains_next tables' l' it y small = own_or_other (same? x y)
    where
      -- the store is in no chain so far, so that what its row gets is in none of them
      kept : (z : ℕ) → Kept l l' (landed ev n z)
      kept z =
          others_kept ev n taken l l' it.other_rows (landed ev n z)
          (landed_early ev n sim.limits.accepted n z (omega arith))
          (landed_once ev (suc n) n accepted (omega arith) is_commit n z (omega arith))

      stays : (z : ℕ) → z < 256 → Linked l' (get_or tables (last_cell z) 0) (landed ev n z)
      stays z few_z = linked_kept l l' _ (landed ev n z) (kept z) (sim.chains z few_z).links

      fall : (z : ℕ) → z < 256 → Falls l' (16 * (n - 1)) (landed ev n z)
      fall z few_z = falls_kept l l' _ (landed ev n z) (kept z) (sim.chains z few_z).falls

      own_or_other : (x ≡ y) ⊎ (x ≢ y) → Chain ev (suc n) y tables' l'
      own_or_other (inl own) =
          let some = store_not_0 ev (suc n) accepted (omega arith) taken_store.store in
          record {
            links = rw (← own, landed_here ev n is_commit, it.head_is) (refl, rw it.link_is (stays x x_small));
            falls =
                rw (← own, landed_here ev n is_commit, it.commit_is)
                (omega (arith, sim.limits.begun), fall x x_small);
            stretch_is =
                rw (← own, it.head_is, it.stretch_is, ne_eqb taken 0 some) (sym taken_store.in_j);
          }
      own_or_other (inr other) = record {
        links = rw (landed_away ev n y (λ _ same. other same), it.other_heads y small other) (stays y small);
        falls =
            rw (landed_away ev n y (λ _ same. other same))
            (falls_less l' _ _ (landed ev n y) (omega arith) (fall y small));
        stretch_is =
            rw (it.other_heads y small other, it.other_stretches y small other) (sim.chains y small).stretch_is;
      }

  -- ---- the step of kind 3, which is no issue, no load and no skip

  module _ (kind_is : kind ev n ≡ 3) where
    abbrev row : ℕ
    row = w.state.row

    abbrev old : Thread
    old = thread_of tables t

    no_issue : issue? ev n ≡ false
    no_issue = rw kind_is refl

    few : t < 8
    few = few_own ev n sim.limits passes (commit_has_thread ev is_commit)

    n_small : n ≤ 2048
    n_small = in_time ev n sim.limits passes

    -- what the machine's state and rows say is what the store has
    oldest_is : old.oldest ≡ taken
    oldest_is =
        (sim.queues t few).oldest_is
        ∙ sym
        (committed_at_lem ev n
        ∙ store_at_away ev n j t (done ev n t) (λ store _. false_true (sym no_issue ∙ store.test)))

    -- it waits: an earlier event issued it
    taken_early : taken < n
    taken_early = committed_earlier ev (suc n) n accepted (omega arith) is_commit no_issue

    place_is : oldest_place tables l t ≡ x
    place_is =
        rw (oldest_is, (sim.rows.stores taken taken_early taken_store.store).location_is)
        (omega (arith, x_small))

    next_is : get_row l old.oldest 12 ≡ store_at ev n j t (suc (done ev n t))
    next_is =
        rw oldest_is
        (sim.links taken taken_early taken_store.store
        ∙ at_next (place ev taken) taken_store.in_j taken_store.by_t (its_place ev taken_store))
      where
        at_next :
            (i : ℕ) → stretch ev taken ≡ j → thread ev taken ≡ t → i ≡ done ev n t
            → store_at ev n (stretch ev taken) (thread ev taken) (suc i) ≡ store_at ev n j t (suc (done ev n t))
        at_next i in_j by_t at_i = rw (in_j, by_t, at_i)

    queue_next : Queue ev (suc n) t (committed_t old (get_row l old.oldest 12))
    unfolding committed_t
    queue_next =
        let queue = sim.queues t few in
        let no_issue_here = spares ev n (issue? ev) no_issue t in
        record {
          issued_is = issued_stays ev n no_crash t old queue no_issue_here;
          committed_is =
              counted_up ev n no_crash (commit? ev) old.committed sim.limits is_commit.test
              queue.committed_is;
          skip_is =
              skip_stays ev n no_crash t old queue (spares ev n (skip_on? ev) (rw kind_is refl) t)
              (spares ev n (skip_off? ev) (rw kind_is refl) t);
          oldest_is =
              rw (
                live_here ev (commit? ev) n no_crash is_commit.test,
                place_stays ev n no_crash t no_issue_here (suc (done ev n t)),
              )
              next_is;
          newest_is = newest_stays ev n no_crash t old queue no_issue_here;
        }

    abbrev tables' : List ℕ
    tables' = committed_tables tables l t w.state.stretch

    abbrev l' : List ℕ
    l' = committed_work tables l row t

    beyond :
        (i : ℕ) → 128 ≤ i → last_cell (oldest_place tables l t) ≢ i → stretch_cell (oldest_place tables l t) ≢ i
        → get_or tables' i 0 ≡ get_or tables i 0
    unfolding committed_tables
    beyond = committed_beyond tables t few sim.size old.oldest (oldest_place tables l t) _ _ (omega arith)

    headed : Headed n taken x j tables tables' l l'
    unfolding committed_tables committed_work
    headed =
        let p = old.oldest in
        let y = oldest_place tables l t in
        let link = get_or tables (last_cell y) 0 in
        rw (← place_is, ← oldest_is, ← sim.numbers.stretch_is)
        (record {
          head_is = committed_last tables t few sim.size p y _ _ (omega arith);
          stretch_is = committed_stretch tables t few sim.size p y _ _ (omega arith);
          link_is =
              put_column linked p 13 row p 14 (omega arith) (omega arith) (λ same. omega arith)
              ∙ put_same (no_store l row) p 14 link room;
          commit_is =
              rw (put_same linked p 13 row (rw (length_put (no_store l row) p 14 link) room))
              (omega (arith, its_start, sim.numbers.row_is, oldest_is, taken_early));
          other_heads = λ z few_z other.
              beyond (last_cell z) (omega arith) (λ same. other (omega arith)) (λ same. omega arith);
          other_stretches = λ z few_z other.
              beyond (stretch_cell z) (omega arith) (λ same. omega arith) (λ same. other (omega arith));
          other_rows = λ q k from_one early other from below.
              let apart =
              rows_apart p q (omega (arith, oldest_is, taken_early, n_small)) from_one
              (omega (arith, n_small)) (λ same. other (sym same))
              in
              put_row_lem linked p 13 row q k (omega arith) below apart
              ∙ put_row_lem (no_store l row) p 14 link q k (omega arith) below apart
              ∙ no_store_behind row n sim.numbers.row_is n_small l q k from below;
        })
      where
        linked : List ℕ
        linked = put_row (no_store l row) old.oldest 14 (get_or tables (last_cell (oldest_place tables l t)) 0)

        room : 32768 ≤ length (no_store l row)
        room = rw (no_store_is row n sim.numbers.row_is n_small l sim.rows.room).size sim.rows.room

        its_start : row_start old.oldest + 16 ≡ 16 * old.oldest
        its_start =
            let some = store_not_0 ev (suc n) accepted (omega arith) taken_store.store in
            start_is old.oldest (omega (arith, oldest_is)) (omega (arith, oldest_is, taken_early, n_small))

    -- a held load is not the store that takes effect: a locked operation commits its own when it comes
    not_held : (e : ℕ) → e < n → Load ev e → e ≢ taken
    not_held e early loads is_taken =
        let both_kinds = locked_kind ev loads (rw (← is_taken) at taken_store.store) in
        let commits_own : Commit ev e = record { test = rw both_kinds refl } in
        let own =
        committed_itself ev (suc n) e accepted (omega arith) (rw both_kinds refl)
        (rw (← is_taken) at taken_store.store)
        in
        committed_apart ev (suc n) e n accepted early (omega arith) commits_own is_commit (own ∙ is_taken)

    -- so its row stays
    held_stays : (e k : ℕ) → 1 ≤ e → e < n → Load ev e → k < 16 → get_row l' e k ≡ get_row l e k
    unfolding committed_work
    held_stays e k from_one early loads low =
        let apart =
        rows_apart old.oldest e (omega (arith, oldest_is, taken_early, n_small)) from_one (omega (arith, n_small))
        (λ same. not_held e early loads (sym same ∙ oldest_is))
        in
        put_row_lem _ old.oldest 13 row e k (omega arith) low apart
        ∙ put_row_lem (no_store l row) old.oldest 14 _ e k (omega arith) low apart
        ∙ no_store_earlier row n sim.numbers.row_is n_small l e k from_one early low

    pub commit_next : Sim ev (suc n) (commit_w w t)
    unfolding commit_w committed_tables committed_work
    commit_next =
        let no_load : load? ev n ≡ false = rw kind_is refl in
        let replaced =
        committed_replaced tables t few sim.size old.oldest (oldest_place tables l t) w.state.stretch
        (get_row l old.oldest 12) (omega arith)
        in
        let is_no_store =
        link_no_store n old.oldest 13 row l _ (omega arith) (omega arith)
        (link_no_store n old.oldest 14 (get_or tables (last_cell (oldest_place tables l t)) 0) l (no_store l row)
        (omega arith) (omega arith) (no_store_is row n sim.numbers.row_is n_small l sim.rows.room))
        in
        let between : Same 384 2752 tables tables' =
        λ i low high. beyond i (omega arith) (λ same. omega arith) (λ same. omega arith)
        in
        record {
          numbers = numbers_next ev n w.state sim.numbers no_crash;
          limits = limits_next ev n sim.limits passes;
          size = replaced.size ∙ sim.size;
          queues =
              queues_with ev n tables tables' no_crash replaced.others (rw replaced.own queue_next)
              sim.queues;
          seen_are =
              seen_keep ev n tables tables' no_crash no_load (rw kind_is refl) replaced.seen_same sim.seen_are;
          newest_are =
              newest_keep ev n tables tables' no_issue (λ i low high. between i (omega arith) high) sim.newest_are;
          commits_are =
              commits_keep ev n tables tables' no_crash (λ i low high. between i (omega arith) (omega arith))
              sim.commits_are;
          sources = sources_keep ev n tables tables' (λ i low high. between i low (omega arith)) sim.sources;
          chains = chains_next tables' l' headed;
          rows = rows_keep ev n l l' sim.limits no_issue (rw kind_is refl) is_no_store sim.rows;
          links = links_keep ev n l l' sim.limits no_issue (rw kind_is refl) is_no_store sim.links;
          regions =
              regions_keep ev n tables tables' l l' sim.limits no_crash no_load (rw kind_is refl) (rw kind_is refl)
              replaced.regions_same (λ e k from_one early loads low _. held_stays e k from_one early loads low)
              sim.regions;
        }
