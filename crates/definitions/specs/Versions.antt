-- The versions of the schedule file: 1 is 01's, 2 has a depth beside each station (02, request a) and range queries (b), 3 is 2 with the stop
-- on (h). All that differs between them stands here, a line for each, version 1 first.
use Rattle.std.specs.Prelude.{ℕ, ◌*◌, Bool, ◌||◌, List, [], eqb, get_or}
use Rattle.container.specs.Choice.{ite}

abbrev pub version : List ℕ → ℕ
version file = get_or file 0 0

-- "refusal 2 is now for any other version"; "Refusal 2 now lets 3 through"
abbrev pub known : List ℕ → Bool
known file = eqb (version file) 1 || (eqb (version file) 2 || eqb (version file) 3)

-- "Version 3 files are version 2 with this on": the stop
abbrev pub stop_of : List ℕ → Bool
stop_of file = eqb (version file) 3

-- a choice by version: 1, or 2 and 3
abbrev pub by : {A : Type 0} → List ℕ → A → A → A
by file a b = ite (eqb (version file) 1) a b

-- bytes of a record: "records of two bytes"; "records of four bytes"
abbrev pub width : List ℕ → ℕ
width file = by file 2 4

-- a record's last two bytes as a number d: none; "the depth, big-endian", or "the upper end in the last two bytes"
abbrev pub extra_at : List ℕ → ℕ → ℕ
extra_at file d = by file 0 d

-- the last action: "an action over 5 (8)"; "In version 2 refusal 8 is for actions over 6"
abbrev pub last_action : List ℕ → ℕ
last_action file = by file 5 6

-- bytes of a row: "A result row is four bytes"; "Rows become 14 bytes"
abbrev pub row_width : List ℕ → ℕ
row_width file = by file 4 14

-- room of the row buffer for n records: "2 × count"; "7 × count"
abbrev pub row_room : List ℕ → ℕ → ℕ
row_room file n = by file 2 7 * n

-- room of List's text: "under 4,096 bytes"; "under 8,192 bytes"
abbrev pub text_room : List ℕ → ℕ
text_room file = by file 4096 8192

-- bytes that version 2 adds: to a row "two of depth [..] and eight of set"; to the words of the printed run `=640` after a station of "Base
-- and set lines", and "a space and the depth after a lookup's yes"
abbrev pub added : List ℕ → List ℕ → List ℕ
added file bytes = by file [] bytes
