-- `writer::first_barred` meets its contract. Assumes nothing.
use Rattle.std.proofs.lemmas.Iterator.{serves_from_Range, first_from_Range}
use borrow.Author.Rules.{rules}
use borrow.Author.Tests.{tests}
use mathlib.Core.Path.{◌≡◌}
use mathlib.Core.Bool.{true, false}
use Rattle.definitions.specs.Schedule.{record_at}
use Rattle.definitions.specs.Profile.{barred}
use Rattle.writer.proofs.Scan.{first_of}
use Rattle.writer.proofs.first_barred.Goals as goal

pub find-requires-clause-callable : goal.find-requires-clause-callable
find-requires-clause-callable c = serves_from_Range (λ x q k. search rules) (λ x l h. (λ _. search rules))

pub returns : goal.returns
returns c =
    first_of c.args.s.now c.find.result c.count_of.ensures
    (first_from_Range _ _ _ _ (λ k. barred (record_at c.args.s.now k) ≡ true) (λ k. barred (record_at c.args.s.now k) ≡ false) c.find.ensures.ran
    (λ x q k. search (rules, tests)) (λ x q k. search (rules, tests)))
