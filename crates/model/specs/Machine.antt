-- What the machine has done before event n, and which sources a load and a wait may have: document 01, "Rules of the
-- machine", and document 02, jobs 4 and 7.
-- A queue is no list here: it is first in, first out, so of a thread's stores in a stretch the first are committed, as
-- many as it has commits there, and the others wait. "A thread's state is handed to each record and comes back
-- changed": that state is the code's; here it is what the events before n say. A search for a store or a commit gives 0
-- if there is none; event 0 is neither (`first_is_no_store_no_commit` of proofs/Acceptance.antt).
use Rattle.std.specs.Prelude.{ℕ, zero, suc, Bool, false, cond, ◌&&◌, ◌||◌, not, List, [], ◌∷◌, eqb, ltb, leb}
use Rattle.record.specs.declared.events.Event.{Event}
use Rattle.model.specs.Search.{member, last}
use Rattle.model.specs.Trace.{thread, location, source, outcome, issue?, commit?, load?, signal?, crash?}
use Rattle.model.specs.Trace.{skip_on?, skip_off?, open?, close?, stretch, issues, commits, place}

module _ (ev : ℕ → Event) where
  -- ---- queues

  -- p is a store of n's thread in n's stretch
  abbrev pub beside : ℕ → ℕ → Bool
  beside p n = issue? ev p && eqb (stretch ev p) (stretch ev n) && eqb (thread ev p) (thread ev n)

  -- the commits of n's thread in n's stretch, before event n
  abbrev pub commits_before : ℕ → ℕ
  commits_before n = commits ev n (stretch ev n) (thread ev n)

  -- "Issue: the store joins its thread's queue": before event n, n's thread has issued more stores than it has
  -- committed, in n's stretch alone, since a crash "drops waiting stores"
  abbrev pub queued : ℕ → Bool
  queued n = not (eqb (issues ev n (stretch ev n) (thread ev n)) (commits_before n))

  -- "Commit: the oldest waiting store of the thread takes effect": the store that commit c makes take effect, and 0 if
  -- there is none. It may be c's own: a locked operation commits the store that it issues
  abbrev pub oldest : ℕ → ℕ → Bool
  oldest c p = beside p c && eqb (place ev p) (commits_before c)

  unfoldable pub committed : ℕ → ℕ
  committed c = last (suc c) (oldest c)

  -- "the order of commits is the stretch's store order": the commit, before event n, that makes p take effect, and 0 if
  -- there is none
  abbrev pub commits_it : ℕ → ℕ → Bool
  commits_it p c =
      commit? ev c && eqb (stretch ev c) (stretch ev p) && eqb (thread ev c) (thread ev p)
      && eqb (commits_before c) (place ev p)

  unfoldable pub commit_of : ℕ → ℕ → ℕ
  commit_of n p = last n (commits_it p)

  -- ---- the load rule

  -- "if the thread has waiting stores to the location, the source is the newest": that store, and 0 if there is none
  abbrev pub waits : ℕ → ℕ → Bool
  waits n p = beside p n && eqb (location ev p) (location ev n) && leb (commits_before n) (place ev p)

  unfoldable pub waiting : ℕ → ℕ
  waiting n = last n (waits n)

  -- "if the stretch has commits to it, the last one committed": that store, and 0 if there is none
  abbrev pub commits_here : ℕ → ℕ → Bool
  commits_here n c =
      commit? ev c && eqb (stretch ev c) (stretch ev n) && eqb (location ev (committed c)) (location ev n)

  unfoldable pub current : ℕ → ℕ
  current n = committed (last n (commits_here n))

  -- s is a store to n's location committed in an earlier stretch
  abbrev pub past : ℕ → ℕ → Bool
  past n s =
      issue? ev s && eqb (location ev s) (location ev n) && ltb (stretch ev s) (stretch ev n)
      && ltb (place ev s) (commits ev n (stretch ev s) (thread ev s))

  -- the load rule, with its three cases; in the third "the source is 0 or a store to that location committed in an
  -- earlier stretch"
  unfoldable pub source_fits : ℕ → Bool
  source_fits n =
      cond (not (eqb (waiting n) 0)) (eqb (source ev n) (waiting n))
      (cond (not (eqb (current n) 0)) (eqb (source ev n) (current n))
      (eqb (source ev n) 0 || past n (source ev n)))

  -- "Otherwise the load is crossing"
  abbrev pub crossing : ℕ → Bool
  crossing n = load? ev n && eqb (waiting n) 0 && eqb (current n) 0

  -- ---- waits

  -- the source of n is an "earlier signal of the same stretch"
  abbrev pub signalled : ℕ → Bool
  signalled n = signal? ev (source ev n) && ltb (source ev n) n && eqb (stretch ev (source ev n)) (stretch ev n)

  -- ---- skips

  -- a switch of each thread: events of the thread that pass `on?` switch it on, those that pass `off?` off; a crash
  -- switches it off for all threads, and the trace starts with it off. It is on for thread t before event n
  unfoldable pub switched : (ℕ → Bool) → (ℕ → Bool) → ℕ → ℕ → Bool
  switched on? off? zero t = false
  switched on? off? (suc n) t =
      not (crash? ev n)
      && (on? n && eqb (thread ev n) t || switched on? off? n t && not (off? n && eqb (thread ev n) t))

  -- "A skip [..] is on or off per thread"; a crash "ends skips"; the trace starts with "no skips": thread t is in a
  -- skip before event n
  abbrev pub skipping : ℕ → ℕ → Bool
  skipping n t = switched (skip_on? ev) (skip_off? ev) n t

  -- "A crossing load in a skip is checked but not counted; all other crossing loads count", or are held. No choice has
  -- a say in it: "a load stays counted even if the choice cuts its own thread short"
  unfoldable pub countable : ℕ → Bool
  countable n = crossing n && not (skipping n (thread ev n))

  -- ---- checksums

  -- "kind 15 (open [..]) and kind 16 (close [..])"; "a crash ends the open state": thread t is open before event n
  abbrev pub opened : ℕ → ℕ → Bool
  opened n t = switched (open? ev) (close? ev) n t

  -- "A thread's crossing loads in between are held"; "A load in a skip is never held": the loads that thread t holds
  -- before event n, the newest first. A thread that is not open holds none: a crash "drops them"
  unfoldable pub held : ℕ → ℕ → List ℕ
  held zero t = []
  held (suc n) t =
      cond (opened (suc n) t) (cond (countable n && eqb (thread ev n) t) (n ∷ held n t) (held n t)) []

  -- ---- which loads count

  -- the close "counts them all": "Outcome 1 counts them all as of the close; 0 drops them"
  abbrev pub confirms? : ℕ → Bool
  confirms? n = close? ev n && eqb (outcome ev n) 1

  -- the loads that count as of event n: at such a close those that its thread holds; a load whose thread is not open,
  -- as of itself. "the trace's end drops" what is still held, since no event counts it
  unfoldable pub counting : ℕ → List ℕ
  counting n =
      cond (confirms? n) (held n (thread ev n))
      (cond (countable n && not (opened n (thread ev n))) (n ∷ []) [])

  -- load l counts as of event e
  abbrev pub counts : ℕ → ℕ → Bool
  counts e l = member l (counting e)
