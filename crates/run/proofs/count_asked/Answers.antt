-- `run::count_asked` meets its contract. Assumes nothing.
use Rattle.std.proofs.Common.{◌≡◌, ◌<◌, ◌∙◌, refl}
use native.Mathlib.Omega.{arith}
use Rattle.definitions.specs.Records.{action_number}
use Rattle.passing.proofs.Tallied.{number_small}
use Rattle.run.proofs.Counts.{start_room, start_stored}
use Rattle.run.proofs.count_asked.Goals as goal

pub overflow_add-cells-in-Some-2 : goal.overflow_add-cells-in-Some-2
overflow_add-cells-in-Some-2 c =
    let low : c.from-a.result < 8 = omega (arith, c.from-a.ensures, c.from.ensures, number_small c.in-Ok-Start.action) in
    let long = c.in-Some.ensures.cases.long in
    rw c.in-Some.ensures.cases.same (omega (arith, start_room c.args.tally.now c.from-a.result low long (c.requires.1 long)))

pub returns-in-Some : goal.returns-in-Some
returns-in-Some c =
    let number : c.from-a.result ≡ action_number c.in-Ok-Start.action = c.from-a.ensures ∙ c.from.ensures in
    let low : c.from-a.result < 8 = omega (arith, number, number_small c.in-Ok-Start.action) in
    let start = rw c.in-Ok-Start.is at c.in-Ok-Start.field-0-is in
    rw (c.in-Ok-Start.is, start, c.in-Some.ensures.cases.same) (refl, λ long. rw (← number) (start_stored c.args.tally.now c.from-a.result low long))
