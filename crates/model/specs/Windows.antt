-- Where the flush may go: document 02, jobs 1, 2 and 4. "For a flush fault, developers want the records in front of
-- which a thread may flush the missing store's line. For missing p, observed q and thread t": the first place, the last
-- place, and the window from the one to the other. A place is the number of the record in front of which the flush may
-- stand.
-- In order: which events bring p to a thread; the two places; the window; when q's own record brings p; what theorems
-- say of a window's places; the window, computed.
use Rattle.std.specs.Prelude.{ℕ, suc, ◌≤◌, ◌<◌, ◌≡◌, ◌⊎◌, ◌≢◌, Bool, cond, ◌&&◌, eqb, ltb}
use Rattle.record.specs.declared.events.Event.{Event}
use Rattle.model.specs.Search.{first, last}
use Rattle.model.specs.Trace.{thread, source, issue?, Issue, Load, Signal, Wait, stretch}
use Rattle.model.specs.HappensBefore.{Precedes, AtOrBefore}
use Rattle.model.specs.Clocks.{meets?, covers?}

-- the places of a window, its first and its last; or none
pub data Places : Type 0 where
  none : Places
  between : ℕ → ℕ → Places

-- n is one of the places
abbrev pub PlaceIn : Places → ℕ → Type 0
PlaceIn none n = ⊥
PlaceIn (between from to) n = (from ≤ n) × (n ≤ to)

module _ (ev : ℕ → Event) where
  -- store p comes by event n: a "load [..] whose source is p or happens after p", or a "wait whose signal passes p on"
  pub data ComesBy (p n : ℕ) : Type 0 where
    by_load : Load ev n → AtOrBefore ev p (source ev n) → ComesBy p n
    by_wait : Wait ev n → Signal ev (source ev n) → Precedes ev p (source ev n) → ComesBy p n

  -- event n brings store p to its thread, "in that stretch"
  pub record Brings (p n : ℕ) : Type 0 where
    pub in_stretch : stretch ev n ≡ stretch ev p
    pub comes : ComesBy p n

  -- l is thread t's first event that brings p
  pub record FirstBrings (p t l : ℕ) : Type 0 where
    pub by_t : thread ev l ≡ t
    pub brings : Brings p l
    pub none_earlier : (n : ℕ) → n < l → thread ev n ≡ t → ¬ Brings p n

  -- "the first place is p + 1 in p's thread, elsewhere one past t's first" event that brings p: "the first such load or
  -- the first wait whose signal passes p on, the earlier of the two"
  pub data FirstPlace (p t : ℕ) : ℕ → Type 0 where
    own : t ≡ thread ev p → FirstPlace p t (suc p)
    brought : (l : ℕ) → t ≢ thread ev p → FirstBrings p t l → FirstPlace p t (suc l)

  -- "The last place is t's last issue that is q or happens before q."
  pub record LastPlace (q t e : ℕ) : Type 0 where
    pub by_t : thread ev e ≡ t
    pub store : Issue ev e
    pub order : AtOrBefore ev e q
    pub none_later : (n : ℕ) → e < n → thread ev n ≡ t → Issue ev n → ¬ AtOrBefore ev n q

  -- thread t's window: neither end is lacking, and they are in order
  pub record Window (p q t from to : ℕ) : Type 0 where
    pub starts : FirstPlace p t from
    pub ends : LastPlace q t to
    pub in_order : from ≤ to

  -- "Each thread gets its window, or none if either end is lacking or they are out of order"
  abbrev pub WindowIs : ℕ → ℕ → ℕ → Places → Type 0
  WindowIs p q t none = (from to : ℕ) → ¬ Window p q t from to
  WindowIs p q t (between from to) = Window p q t from to

  -- document 02, job 2: "q's own record is the load that first brings p to its thread", which is not p's
  pub record BringsItself (p q : ℕ) : Type 0 where
    pub other : thread ev q ≢ thread ev p
    pub first_brings : FirstBrings p (thread ev q) q

  -- ---- what the theorems of proofs/WindowPlaces.antt say of places; no contract cites it

  -- in front of place n thread t has store p: it is p's thread, and p comes earlier; or an earlier event of t brings p
  abbrev pub Has : ℕ → ℕ → ℕ → Type 0
  Has p t n =
      ((t ≡ thread ev p) × (p < n))
      ⊎ ((t ≢ thread ev p) × ((l : ℕ) × (l < n) × (thread ev l ≡ t) × Brings p l))

  -- at place n or behind it thread t issues a store that is q or happens before q
  abbrev pub Reaches : ℕ → ℕ → ℕ → Type 0
  Reaches q t n = (e : ℕ) × (n ≤ e) × (thread ev e ≡ t) × Issue ev e × AtOrBefore ev e q

  -- ---- computed: that this is what `WindowIs` says is `window_is` of proofs/WindowPlaces.antt

  -- `Brings`, by the clock of the source, a store or a signal
  abbrev pub brings? : ℕ → ℕ → Bool
  brings? p n = eqb (stretch ev n) (stretch ev p) && meets? ev n && covers? ev p (source ev n)

  -- the event behind which thread t has p: p itself in p's thread, elsewhere the first event before q that brings it;
  -- q if there is none
  unfoldable pub behind : ℕ → ℕ → ℕ → ℕ
  behind p q t = cond (eqb t (thread ev p)) p (first q (λ n. eqb (thread ev n) t && brings? p n))

  -- t's last issue that q's clock covers, 0 if there is none
  unfoldable pub last_covered : ℕ → ℕ → ℕ
  last_covered q t = last (suc q) (λ n. issue? ev n && eqb (thread ev n) t && covers? ev n q)

  unfoldable pub window_of : ℕ → ℕ → ℕ → Places
  window_of p q t =
      cond (ltb (behind p q t) (last_covered q t)) (between (suc (behind p q t)) (last_covered q t)) none
