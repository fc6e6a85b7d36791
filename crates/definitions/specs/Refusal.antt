-- Refusals and their numbers (01, "Run" to "List", and 02); 0 stands for none.
use Rattle.std.specs.Prelude.{ℕ, Result, Ok, Err}
use Rattle.definitions.specs.declared.Refusal.{Refusal}
use Rattle.definitions.specs.declared.Refusal.TheVariants.{ShortFile, Version, Count, Length, RowBuffer, TextBuffer, Thread, Action, Station, UnusedBytes, Busy, Idle, Numbers, Depth, UpperEnd, Stores, OtherThread, OutputBuffer, Tally, Event, Operations, Unfinished, Barred, StateBuffer}

abbrev pub refusal_number : Refusal → ℕ
refusal_number ShortFile = 1
refusal_number Version = 2
refusal_number Count = 3
refusal_number Length = 4
refusal_number RowBuffer = 5
refusal_number TextBuffer = 6
refusal_number Thread = 7
refusal_number Action = 8
refusal_number Station = 9
refusal_number UnusedBytes = 10
refusal_number Busy = 11
refusal_number Idle = 12
refusal_number Numbers = 13
refusal_number Depth = 14
refusal_number UpperEnd = 15
refusal_number Stores = 16
refusal_number OtherThread = 17
refusal_number OutputBuffer = 18
refusal_number Tally = 19
refusal_number Event = 21
refusal_number Operations = 22
refusal_number Unfinished = 23
refusal_number Barred = 24
refusal_number StateBuffer = 25

-- what a test of a file or a buffer says, as a number: 0 where nothing is refused
abbrev pub code_of : {A : Type 0} → Result A Refusal → ℕ
code_of (Ok a) = 0
code_of (Err r) = refusal_number r
