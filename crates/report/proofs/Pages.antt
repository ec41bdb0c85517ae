-- Bytes put on a page: one text behind another is one text, and a text that has room at the start of a buffer stands
-- there, with the rest of the buffer as it was.
use Prim.Native.Nat.{ℕ, suc, ◌+◌, ◌/◌, ◌%◌, ◌≤◌, ◌<◌}
use native.Mathlib.Omega.{arith}
use native.Mathlib.Numerals.{add-one}
use mathlib.Core.Path.{◌≡◌, refl, sym, ap, ◌∙◌}
use mathlib.Core.List.{List, [], ◌∷◌, ◌++◌}
use lib.ListN.{length, take, drop, get_or, set, length-append, length-set}
use lib.Seq.{sets, sets-eq, length-sets, length-take-le, take-suc}
use borrow.Author.Tests.{lt-ltb, le-ltb}
use Rattle.std.specs.Borrow.{MutBor}
use Rattle.report.specs.Decimal.{digits}
use Rattle.report.specs.Lines.{printed, Front}
use Rattle.report.specs.declared.page.Page.{Page as Lent}
use Rattle.report.specs.Page.{Page, page, put_on, put_all, Added, Puts, IsStart}
use Rattle.report.proofs.Decimals.{one_digit, more_digits, at_most_five}

-- ---- one byte, as the code puts it

byte_put : (out : List ℕ) (at b : ℕ) → at < length out → page (set out at b) (at + 1) ≡ put_on (page out at) b
unfolding put_on
byte_put out at b room = simp (lt-ltb at (length out) room)

byte_left_out : (out : List ℕ) (at b : ℕ) → length out ≤ at → page out at ≡ put_on (page out at) b
unfolding put_on
byte_left_out out at b full = simp (le-ltb at (length out) full)

pub byte_added : (out : List ℕ) (at b : ℕ) → at < length out → Added out at (b ∷ []) 1 (set out at b) (at + 1)
unfolding put_all
byte_added out at b room = record { put = byte_put out at b room; few = omega arith }

pub none_added : (out : List ℕ) (at b : ℕ) → length out ≤ at → Added out at (b ∷ []) 1 out at
unfolding put_all
none_added out at b full = record { put = byte_left_out out at b full; few = omega arith }

-- ---- one text behind another

append_put : (p : Page) (xs ys : List ℕ) → put_all p (xs ++ ys) ≡ put_all (put_all p xs) ys
unfolding put_all
append_put p [] ys = refl
append_put p (x ∷ xs) ys = append_put (put_on p x) xs ys

pub nothing_put : (p : Lent) → Puts p [] 0 p
unfolding put_all
nothing_put p = record { same = refl; added = record { put = refl; few = omega arith } }

pub both_put : {a b c : Lent} {xs ys : List ℕ} {m n : ℕ} → Puts a xs m b → Puts b ys n c → Puts a (xs ++ ys) (m + n) c
both_put {a} {b} {c} {xs} {ys} front back =
    record {
      same = back.same ∙ front.same;
      added = record {
        put = rw (append_put (page a.out.now a.at) xs ys, ← front.added.put) back.added.put;
        few = omega (arith, length-append xs ys, front.added.few, back.added.few);
      };
    }

-- the same bytes, said in another way, and a larger bound
pub put_as : {a b : Lent} {xs : List ℕ} {m : ℕ} (ys : List ℕ) (n : ℕ) → Puts a xs m b → xs ≡ ys → m ≤ n → Puts a ys n b
put_as ys n puts is more =
    record {
      same = puts.same;
      added = record { put = rw (← is) puts.added.put; few = rw (← is) (omega (arith, puts.added.few)) };
    }

-- one byte more of a text
pub next_byte :
    {a b c : Lent} {i : ℕ} (s : List ℕ) → Puts a (take i s) i b → i < length s → Puts b (get_or s i 0 ∷ []) 1 c
    → Puts a (take (i + 1) s) (i + 1) c
next_byte {i} s front inside next =
    rw (add-one i) (put_as (take (suc i) s) (suc i) (both_put front next) (sym (take-suc s i 0 inside)) (omega arith))

-- ---- a number

pub only_digit : {a b : Lent} (v : ℕ) → v < 10 → Puts a ((48 + v % 10) ∷ []) 1 b → Puts a (digits v) 5 b
only_digit v small puts =
    let same : v % 10 ≡ v = omega arith in
    put_as (digits v) 5 puts (rw (one_digit v small, same)) (omega arith)

pub last_digit :
    {a b c : Lent} (v : ℕ) → 10 ≤ v → v < 65536 → Puts a (digits (v / 10)) 5 b → Puts b ((48 + v % 10) ∷ []) 1 c
    → Puts a (digits v) 5 c
last_digit v large fits front back =
    let both = both_put front back in
    record {
      same = both.same;
      added = record { put = rw (more_digits v large) both.added.put; few = at_most_five v fits };
    }

-- ---- a text that has room

stored :
    (bs out : List ℕ) (at : ℕ) → at + length bs ≤ length out
    → put_all (page out at) bs ≡ page (sets out at bs) (at + length bs)
unfolding put_all
stored [] out at room = let same : at ≡ at + 0 = omega arith in ap (page out) same
stored (b ∷ bs) out at room =
    let inside : at < length out = omega arith in
    let rest = stored bs (set out at b) (suc at) (simp length-set (omega arith)) in
    let behind : suc at + length bs ≡ at + length (b ∷ bs) = omega arith in
    rw (← byte_put out at b inside, add-one at, rest) (ap (page (sets out at (b ∷ bs))) behind)

pub from_start :
    {out : MutBor (List ℕ)} {first last : Lent} {bytes : List ℕ} {most : ℕ}
    → IsStart out first → Puts first bytes most last → most ≤ length out.now
    → (last.at ≡ length bytes) × ((last.out.now ≡ printed bytes out.now) × Front last.at last.out.now)
from_start {out} {first} {last} {bytes} {most} start puts room =
    at_0 out.now last.out.now last.at (rw (start.bytes, start.empty) at puts.added) room
  where
    at_0 :
        (out after : List ℕ) (end : ℕ) → Added out 0 bytes most after end → most ≤ length out
        → (end ≡ length bytes) × ((after ≡ printed bytes out) × Front end after)
    at_0 out after end added room =
        let fits : 0 + length bytes ≤ length out = omega (arith, added.few) in
        let is : page after end ≡ page (sets out 0 bytes) (0 + length bytes) = added.put ∙ stored bytes out 0 fits in
        let end_is : end ≡ 0 + length bytes = cc in
        let after_is : after ≡ sets out 0 bytes = cc in
        let same : 0 + length bytes ≡ length bytes = omega arith in
        let inside : end ≤ length after = rw (after_is, length-sets out 0 bytes) (omega arith) in
        let whole = after_is ∙ sets-eq bytes out 0 fits ∙ ap (λ (n : ℕ). bytes ++ drop n out) same in
        (omega arith, (whole, (inside, sym (length-take-le end after inside))))
