-- The documents' numbers of what turns an event away.
use Rattle.std.specs.Prelude.{ℕ, Result, Ok, Err}
use Rattle.machine.specs.declared.forbidden.Forbidden.{Forbidden}
use Rattle.machine.specs.declared.forbidden.Forbidden.TheVariants.{NoBegin, UnknownKind, LaterBegin, OutOfRange}
use Rattle.machine.specs.declared.forbidden.Forbidden.TheVariants.{NoThread, NoLocation, WrongSource, EmptyQueue}
use Rattle.machine.specs.declared.forbidden.Forbidden.TheVariants.{QueueNotEmpty, SwitchedAlready, PastLimit}
use Rattle.machine.specs.declared.forbidden.Forbidden.TheVariants.{NoSignal, NoOutcome}

-- by the table of refusals of documents 01 and 02
abbrev pub number_of : Forbidden → ℕ
number_of NoBegin = 1
number_of UnknownKind = 3
number_of LaterBegin = 5
number_of OutOfRange = 6
number_of NoThread = 7
number_of NoLocation = 8
number_of WrongSource = 9
number_of EmptyQueue = 10
number_of QueueNotEmpty = 11
number_of SwitchedAlready = 12
number_of PastLimit = 13
number_of NoSignal = 18
number_of NoOutcome = 19

-- the number of the rule that turned an event away, 0 if none did
abbrev pub turned_by : {A : Type 0} → Result A Forbidden → ℕ
turned_by (Ok a) = 0
turned_by (Err e) = number_of e
