-- A flag as a number: of a column of its own, and as a part of column 12.
use mathlib.Core.Path.{◌≡◌, refl}
use mathlib.Core.Bool.{Bool, true, false}
use Prim.Native.Nat.{ℕ, ◌+◌, ◌*◌, ◌/◌, ◌%◌}
use native.Mathlib.Nat.{add-zero}
use Rattle.std.specs.Int.{from_bool}
use Rattle.model.specs.Search.{bit}
use Rattle.machine.specs.Threads.{skip_set}
use Rattle.machine.specs.Regions.{open_set}

pub skip_set_is : (c : ℕ) (skip : Bool) → c / 2 * 2 + from_bool skip ≡ skip_set c skip
skip_set_is c true = refl
skip_set_is c false = add-zero _

pub open_set_is : (c : ℕ) (opened : Bool) → c % 2 + 2 * from_bool opened ≡ open_set c opened
open_set_is c true = refl
open_set_is c false = add-zero _

pub bit_is : (b : Bool) → from_bool b ≡ bit b
bit_is true = refl
bit_is false = refl
