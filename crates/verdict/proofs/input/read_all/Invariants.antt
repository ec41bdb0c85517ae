-- The invariant: the bytes that are read so far lie within the buffer. The measure: those for which there is room.
use Rattle.std.proofs.Common.{◌≤◌, ◌-◌, length}
use Rattle.verdict.proofs.input.read_all.Given as goal

abbrev pub invariant-loop-done : goal.invariant-loop-done
invariant-loop-done g l = l.done ≤ length l.buf

abbrev pub decreases-loop-done : goal.decreases-loop-done
decreases-loop-done g l = length l.initial.buf - l.done
