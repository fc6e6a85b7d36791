-- The order of the numbers in a report, as include/nuxalder.h has it.
use Rattle.std.specs.Prelude.{ℕ, List, [], ◌∷◌}
use Rattle.definitions.specs.Judgement.{once}
use Rattle.definitions.specs.declared.Report.{Report}
use Rattle.definitions.specs.declared.Listed.{Listed}
use Rattle.definitions.specs.Merge.{Merged}
use Rattle.definitions.specs.declared.Written.{Written}
use Rattle.definitions.specs.declared.Judged.{Judged}
use Rattle.snapshot.specs.declared.Stated.{Stated}
use Rattle.season.specs.declared.Tallied.{Tallied}
use Rattle.season.specs.declared.Average.{Average}

abbrev pub run_fields : Report → List ℕ
run_fields r = r.refusal ∷ r.records ∷ r.rows ∷ r.set ∷ r.stored ∷ r.used ∷ []

abbrev pub list_fields : Listed → List ℕ
list_fields r = r.refusal ∷ r.length ∷ []

abbrev pub state_fields : Stated → List ℕ
state_fields r = r.refusal ∷ r.records ∷ r.length ∷ []

abbrev pub merge_fields : Merged → List ℕ
merge_fields m = m.refusal ∷ m.file ∷ m.start ∷ m.length ∷ []

abbrev pub written_fields : Written → List ℕ
written_fields r = r.refusal ∷ r.length ∷ []

-- 1 for accepted, else 0; the order's twelve bytes stand apart
abbrev pub judged_fields : Judged → List ℕ
judged_fields r = r.refusal ∷ once r.accepted ∷ r.operations ∷ []

-- Run's six numbers, then 19 or 0
abbrev pub tally_fields : Tallied → List ℕ
tally_fields r = r.report.refusal ∷ r.report.records ∷ r.report.rows ∷ r.report.set ∷ r.report.stored ∷ r.report.used ∷ r.refusal ∷ []

abbrev pub average_fields : Average → List ℕ
average_fields r = r.steps ∷ r.operations ∷ []
