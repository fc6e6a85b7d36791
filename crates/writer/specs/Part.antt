-- The beginning of a schedule as a file of its own, the first barred record, and a report with refusal 24.
use Rattle.std.specs.Prelude.{ℕ, ◌+◌, ◌*◌, ◌/◌, ◌%◌, ◌<◌, List, Option, None, Some, eqb, take, set}
use Rattle.container.specs.Choice.{ite}
use Rattle.definitions.specs.Versions.{width}
use Rattle.definitions.specs.Schedule.{count_of}
use Rattle.definitions.specs.declared.Report.{Report}
use Rattle.profile.specs.Cut.{Cut}

-- the first k records of a file, with k in the header
abbrev pub part : List ℕ → ℕ → List ℕ
part file k = set (set (take (3 + width file * k) file) 1 (k / 256)) 2 (k % 256)

-- the first barred record of a file, if there is one
abbrev pub FirstBarred : List ℕ → Option ℕ → Type 0
FirstBarred file None = Cut file (count_of file) (count_of file)
FirstBarred file (Some k) = (k < count_of file) × Cut file (count_of file) k

-- the report of a run that goes no further
unfoldable pub halt : Report → Report
halt r = ite (eqb r.refusal 0) (record { refusal = 24; records = r.records; rows = r.rows; set = r.set; stored = r.stored; used = r.used }) r
