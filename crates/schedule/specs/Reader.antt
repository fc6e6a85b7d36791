-- The records of a schedule, as the reader hands them back.
use Rattle.std.specs.Prelude.{ℕ, ◌≡◌, ◌+◌, ◌-◌, ◌*◌, List, eqb, ltb, length, get_or, Option, Some, None}
use Rattle.std.specs.Iterator.{at_most, Count}
use Rattle.container.specs.Choice.{ite}
use Rattle.schedule.specs.declared.Reader.{Reader}
use Rattle.schedule.specs.declared.Record.{Record}

-- a record, if one is left, and the position of the one after; else the position stays
pub record Taken : Type 0 where
  pub found : Option Record
  pub at : ℕ

abbrev pub ended : ℕ → Taken
ended at = record { found = None; at = at }

-- a record of two bytes at a position, and one of four, with the position of the one after
unfoldable pub two_from : List ℕ → ℕ → Taken
two_from file at = ite (ltb (at + 1) (length file)) (record { found = Some (record { first = get_or file at 0; second = get_or file (at + 1) 0; extra = 0 }); at = at + 2 }) (ended at)

unfoldable pub four_from : List ℕ → ℕ → Taken
four_from file at =
    ite (ltb (at + 3) (length file))
    (record { found = Some (record { first = get_or file at 0; second = get_or file (at + 1) 0; extra = get_or file (at + 2) 0 * 256 + get_or file (at + 3) 0 }); at = at + 4 })
    (ended at)

-- by the file's version
unfoldable pub taken_from : ℕ → List ℕ → ℕ → Taken
taken_from v file at = ite (eqb v 1) (two_from file at) (four_from file at)

-- what a reader hands back next, and the position that it then has
abbrev pub next_of : Reader → Taken
next_of r = taken_from r.version r.schedule.now r.at

-- a call of `next`: r before, s after
pub record Reads (r : Reader) (found : Option Record) (s : Reader) : Type 0 where
  pub given : found ≡ (next_of r).found
  pub position : s.at ≡ (next_of r).at
  pub file : s.schedule ≡ r.schedule
  pub version : s.version ≡ r.version

-- each record has a byte of the file's rest at least
abbrev pub left_in : Reader → Count
left_in r = at_most (length r.schedule.now - r.at)
