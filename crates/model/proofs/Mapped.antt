-- What an array's `map` gives, where each call of the closure gives v of its element.
use Prim.Native.Nat.{ℕ}
use native.Mathlib.Omega.{arith}
use mathlib.Core.Path.{◌≡◌, sym, ◌∙◌}
use mathlib.Core.List.{List, map}
use lib.ListN.{length}
use denote.Param.Members.{Mut}
use Rattle.std.specs.Fn.{Called}
use Rattle.std.specs.Array.{IsMapOf}
use Rattle.std.proofs.lemmas.List.{same_lists, length-map, get_or-map}

pub is_map :
    {F X Y : Type 0} (g : Mut F (X × Unit {0}) Y) (v : X → Y)
    → ((f : F) (x : X) (y : Y) (f' : F) → Called g f (x, tt) y f' → y ≡ v x)
    → (f : F) (xs : List X) (ys : List Y) (n : ℕ) (d : X) → length xs ≡ n → IsMapOf g f xs ys n → ys ≡ map v xs
is_map g v gives f xs ys n d size mapped =
    same_lists ys (map v xs) (mapped.long ∙ (sym size ∙ sym (length-map xs v)))
    (λ k e below.
    let (p, q, called) = mapped.at k d e (omega (arith, mapped.long)) in
    gives p _ _ q called ∙ sym (get_or-map v xs k d e (omega (arith, size, mapped.long))))
