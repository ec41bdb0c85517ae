-- Events with their sources renumbered (`moved` of specs/Flushes.antt): kind and other fields stay, since an event that
-- neither loads nor waits has no source, and 0, which is no event's source, stays 0.
-- In order: what a renumbered event is; a list of them; two-byte fields.
use Prim.Native.Nat.{ℕ, ◌<◌}
use native.Mathlib.Omega.{arith}
use mathlib.Core.Path.{◌≡◌, refl, sym, ◌∙◌, ap}
use mathlib.Core.Bool.{true, false, ◌||◌}
use mathlib.Core.List.{List, map}
use lib.Dec.{eqb}
use lib.ListN.{get_or-map}
use Rattle.record.specs.declared.events.Event.{Event}
use Rattle.record.specs.declared.events.Event.TheVariants.{Begin, Issue, Commit, Load, Clflush, Clwb, Sfence, Mfence}
use Rattle.record.specs.declared.events.Event.TheVariants.{Crash, SkipOn, SkipOff, Locked, Signal, Wait}
use Rattle.record.specs.declared.events.Event.TheVariants.{Open, Close}
use Rattle.record.specs.declared.events.Fields.{Fields}
use Rattle.record.specs.Events.{kind_of}
use Rattle.record.specs.Fields.{event_of, thread_fields, fields_of, TwoByte}
use Rattle.model.specs.Trace.{trace_of}
use Rattle.model.specs.Flushes.{resourced, moved}
use Rattle.model.proofs.Searching.{false_true}

-- ---- what a renumbered event is

-- event d is event e, but for a renumbered source
pub record Renumbered (f : ℕ → ℕ) (e d : Event) : Type 0 where
  pub kind_same : kind_of e ≡ kind_of d
  pub thread_same : (fields_of e).thread ≡ (fields_of d).thread
  pub location_same : (fields_of e).location ≡ (fields_of d).location
  pub source_moved : (fields_of d).source ≡ f (fields_of e).source
  pub version_same : (fields_of e).version ≡ (fields_of d).version
  pub threads_same : (fields_of e).threads ≡ (fields_of d).threads
  pub locations_same : (fields_of e).locations ≡ (fields_of d).locations
  pub outcome_same : (fields_of e).outcome ≡ (fields_of d).outcome

-- an event loads or waits, and then its fields but the source stay; or it has no source, and stays
data Source (f : ℕ → ℕ) (e : Event) : Type 0 where
  moves :
      (eqb (kind_of e) 4 || eqb (kind_of e) 12 || eqb (kind_of e) 14) ≡ true → kind_of e ≡ kind_of (moved f e)
      → fields_of (moved f e) ≡ resourced f (fields_of e) → Source f e
  stays : moved f e ≡ e → (fields_of e).source ≡ 0 → Source f e

source_of : (f : ℕ → ℕ) (e : Event) → Source f e
unfolding moved event_of
source_of f (Begin v n m) = stays refl refl
source_of f (Issue t x) = stays refl refl
source_of f (Commit t) = stays refl refl
source_of f (Load t x s) = moves refl refl refl
source_of f (Clflush t x) = stays refl refl
source_of f (Clwb t x) = stays refl refl
source_of f (Sfence t) = stays refl refl
source_of f (Mfence t) = stays refl refl
source_of f Crash = stays refl refl
source_of f (SkipOn t) = stays refl refl
source_of f (SkipOff t) = stays refl refl
source_of f (Locked t x s) = moves refl refl refl
source_of f (Signal t) = stays refl refl
source_of f (Wait t s) = moves refl refl refl
source_of f (Open t) = stays refl refl
source_of f (Close t o) = stays refl refl

pub moved_is : (f : ℕ → ℕ) → f 0 ≡ 0 → (e : Event) → Renumbered f e (moved f e)
moved_is f keeps_0 e = by_source (source_of f e)
  where
    by_source : Source f e → Renumbered f e (moved f e)
    by_source (moves has_source kind_same fields_are) = record {
      kind_same = kind_same;
      thread_same = sym (ap (λ (x : Fields). x.thread) fields_are);
      location_same = sym (ap (λ (x : Fields). x.location) fields_are);
      source_moved = ap (λ (x : Fields). x.source) fields_are;
      version_same = sym (ap (λ (x : Fields). x.version) fields_are);
      threads_same = sym (ap (λ (x : Fields). x.threads) fields_are);
      locations_same = sym (ap (λ (x : Fields). x.locations) fields_are);
      outcome_same = sym (ap (λ (x : Fields). x.outcome) fields_are);
    }
    by_source (stays left no_source_lem) = record {
      kind_same = rw left;
      thread_same = rw left;
      location_same = rw left;
      source_moved = rw (left, no_source_lem) (sym keeps_0);
      version_same = rw left;
      threads_same = rw left;
      locations_same = rw left;
      outcome_same = rw left;
    }

pub moved_kind : (f : ℕ → ℕ) (e : Event) → kind_of (moved f e) ≡ kind_of e
moved_kind f e = by_source (source_of f e)
  where
    by_source : Source f e → kind_of (moved f e) ≡ kind_of e
    by_source (moves has_source kind_same fields_are) = sym kind_same
    by_source (stays left no_source_lem) = rw left

-- an event that neither loads nor waits has no source
pub no_source_lem :
    (e : Event) → (eqb (kind_of e) 4 || eqb (kind_of e) 12 || eqb (kind_of e) 14) ≡ false → (fields_of e).source ≡ 0
no_source_lem e other = by_source (source_of (λ s. s) e)
  where
    by_source : Source (λ s. s) e → (fields_of e).source ≡ 0
    by_source (moves has_source kind_same fields_are) = false_true (sym other ∙ has_source)
    by_source (stays left no_source_lem) = no_source_lem

-- ---- a list of them

pub moved_crash : (f : ℕ → ℕ) → moved f Crash ≡ Crash
unfolding moved event_of
moved_crash f = refl

pub moved_there : (f : ℕ → ℕ) (es : List Event) (n : ℕ) → trace_of (map (moved f) es) n ≡ moved f (trace_of es n)
moved_there f es n = rw (moved_crash f) at (get_or-map (moved f) es n Crash)

-- ---- two-byte fields

pub fields_two_byte : {t x s : ℕ} → t < 65536 → x < 65536 → s < 65536 → TwoByte (thread_fields t x s)
fields_two_byte thread location source =
    let none : 0 < 65536 = omega arith in
    record { small = (thread, (location, (source, (none, (none, (none, (none, tt))))))) }

-- a renumbered event has two-byte fields, if its source is a two-byte number
pub moved_two_byte :
    {f : ℕ → ℕ} {e d : Event} → Renumbered f e d → (fields_of d).source < 65536 → TwoByte (fields_of e)
    → TwoByte (fields_of d)
moved_two_byte is new_source two_byte =
    let (thread, (location, (source, rest))) = two_byte.small in
    record {
      small =
          rw (
            ← is.thread_same,
            ← is.location_same,
            ← is.version_same,
            ← is.threads_same,
            ← is.locations_same,
            ← is.outcome_same,
          )
          (thread, (location, (new_source, rest)));
    }
