-- A LOCKED OPERATION REPLACED BY ITS THREE RECORDS (specs/Locked.antt), in a list of events: the same exact ruling,
-- event numbers carried over, and the same share. For the trace is embedded in the longer one (proofs/Replacing.antt),
-- and its gaps move no ruling.
-- In order: what is carried over; one record; one replacement and the next.
use Prim.Native.Nat.{ℕ, ◌+◌, ◌≤◌, ◌<◌}
use native.Mathlib.Omega.{arith}
use mathlib.Core.Path.{◌≡◌, refl, ◌∙◌}
use mathlib.Core.Bool.{true}
use mathlib.Core.List.{List}
use mathlib.Core.Logic.{◌↔◌}
use lib.ListN.{length}
use Rattle.record.specs.declared.events.Event.{Event}
use Rattle.model.specs.Trace.{trace_of, thread, location, Issue}
use Rattle.model.specs.Rules.{Accepted}
use Rattle.model.specs.Choice.{Choice, Ruling, robust, broken, finished, Exact}
use Rattle.model.specs.Verdict.{ruling_of}
use Rattle.model.specs.Answers.{share_of}
use Rattle.model.specs.Flushes.{carry_by}
use Rattle.model.specs.Locked.{locked?, as_load, as_store, replaced}
use Rattle.model.proofs.Numberings.{number_injective}
use Rattle.model.proofs.EmbeddedLoads.{store_at_lem}
use Rattle.model.proofs.EmbeddedChoices.{finished_kept}
use Rattle.model.proofs.EmbeddedRuling.{exact_both}
use Rattle.model.proofs.Encoding.{AllTwoByte}
use Rattle.model.proofs.Carrying.{SameRuling, carried_ruling, carried_share}
use Rattle.model.proofs.Spreading.{kept_at, kept_high}
use Rattle.model.proofs.Replacing.{length_replaced, embedding, apart, cover}
use Rattle.model.proofs.ReplacedRules.{replaced_accepted, replaced_two_byte}

-- ---- what is carried over

-- what answers rest on: the ruling, and of the stores, which go by g, that they are there, of the same threads and at
-- the same locations, and differ; and that the fields are two-byte numbers
pub record Replacement (f g : ℕ → ℕ) (short long : List Event) : Type 0 where
  pub same : SameRuling f g short long
  pub store_there : {p : ℕ} → Issue (trace_of short) p → Issue (trace_of long) (g p)
  pub thread_there : {p : ℕ} → Issue (trace_of short) p → thread (trace_of long) (g p) ≡ thread (trace_of short) p
  pub location_there :
      {p : ℕ} → Issue (trace_of short) p → location (trace_of long) (g p) ≡ location (trace_of short) p
  pub numbers_differ : (p q : ℕ) → g p ≡ g q → p ≡ q
  pub two_byte : AllTwoByte short → AllTwoByte long

-- ---- one record

module _
    (es : List Event) (accepted : Accepted (trace_of es) (length es)) (k : ℕ) (inside : k < length es)
    (locked : locked? (trace_of es k) ≡ true) (room : length es + 2 ≤ 2049) where
  all_there : kept_at 0 k (length (replaced k es)) ≡ length es
  all_there =
      rw (length_replaced es k inside) (omega (arith, kept_high 0 k (length es + 2) (omega arith)))

  -- the longer trace has the same exact ruling, event numbers carried over, and so the same cut
  pub replaced_exact :
      (v : Ruling)
      → Exact (trace_of es) (length es) v
      ↔ Exact (trace_of (replaced k es)) (length (replaced k es)) (carry_by (as_load k) (as_store k) v)
  replaced_exact v =
      rw all_there at
      (exact_both (embedding es accepted k inside locked) (apart es accepted k inside locked)
      (cover es accepted k inside locked) (length (replaced k es)) v)

  -- and in each finished stretch the same commits of each thread
  pub replaced_finished :
      (j t : ℕ)
      → finished (trace_of (replaced k es)) (length (replaced k es)) j t ≡ finished (trace_of es) (length es) j t
  replaced_finished j t =
      rw all_there at (finished_kept (embedding es accepted k inside locked) (length (replaced k es)) j t refl)

  pub one_replaced : Replacement (as_load k) (as_store k) es (replaced k es)
  one_replaced =
      let via = embedding es accepted k inside locked in
      record {
        same = record {
          short_accepted = accepted;
          long_accepted = replaced_accepted es accepted k inside locked room;
          exact_same = replaced_exact;
          finished_same = replaced_finished;
        };
        store_there = store_at_lem via;
        thread_there = λ {p} store. via.issuing.thread_same p store.test;
        location_there = λ {p} store. via.store_location p store.test;
        numbers_differ = number_injective via.stores;
        two_byte = replaced_two_byte es accepted k inside locked room;
      }

  -- so is the ruling that is computed
  pub replaced_ruling :
      ruling_of (trace_of (replaced k es)) (length (replaced k es))
      ≡ carry_by (as_load k) (as_store k) (ruling_of (trace_of es) (length es))
  replaced_ruling = carried_ruling one_replaced.same

  -- and the share of a choice
  pub replaced_share :
      (least : Choice)
      → share_of least (finished (trace_of (replaced k es)) (length (replaced k es)))
      ≡ share_of least (finished (trace_of es) (length es))
  replaced_share = carried_share one_replaced.same

-- ---- one replacement and the next

carry_none : (v : Ruling) → carry_by (λ e. e) (λ e. e) v ≡ v
carry_none (robust c) = refl
carry_none (broken load missing observed) = refl

carry_twice :
    (f g h i : ℕ → ℕ) (v : Ruling) → carry_by h i (carry_by f g v) ≡ carry_by (λ e. h (f e)) (λ e. i (g e)) v
carry_twice f g h i (robust c) = refl
carry_twice f g h i (broken load missing observed) = refl

-- none replaced
pub unchanged : (es : List Event) → Accepted (trace_of es) (length es) → Replacement (λ e. e) (λ e. e) es es
unchanged es accepted = record {
  same = record {
    short_accepted = accepted;
    long_accepted = accepted;
    exact_same = λ v. rw (carry_none v) (λ holds. holds, λ holds. holds);
    finished_same = λ j t. refl;
  };
  store_there = λ store. store;
  thread_there = λ store. refl;
  location_there = λ store. refl;
  numbers_differ = λ p q same. same;
  two_byte = λ small. small;
}

-- a second one
pub and_then :
    {f g h i : ℕ → ℕ} {short middle long : List Event} → Replacement f g short middle → Replacement h i middle long
    → Replacement (λ e. h (f e)) (λ e. i (g e)) short long
and_then {f} {g} {h} {i} {short} {middle} {long} one next = record {
  same = record {
    short_accepted = one.same.short_accepted;
    long_accepted = next.same.long_accepted;
    exact_same = exact_same;
    finished_same = λ j t. next.same.finished_same j t ∙ one.same.finished_same j t;
  };
  store_there = λ store. next.store_there (one.store_there store);
  thread_there = λ store. next.thread_there (one.store_there store) ∙ one.thread_there store;
  location_there = λ store. next.location_there (one.store_there store) ∙ one.location_there store;
  numbers_differ = λ p q same. one.numbers_differ p q (next.numbers_differ _ _ same);
  two_byte = λ small. next.two_byte (one.two_byte small);
}
  where
    exact_same :
        (v : Ruling)
        → Exact (trace_of short) (length short) v
        ↔ Exact (trace_of long) (length long) (carry_by (λ e. h (f e)) (λ e. i (g e)) v)
    exact_same v =
        let first = one.same.exact_same v in
        let second = next.same.exact_same (carry_by f g v) in
        let both = carry_twice f g h i v in
        (λ holds. rw both at (second.0 (first.0 holds)), λ holds. first.1 (second.1 (rw both holds)))
