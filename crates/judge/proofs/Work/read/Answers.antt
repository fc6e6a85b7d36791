-- `judge::Work::read` meets its contract. Assumes nothing.
use mathlib.Core.Path.{sym, ◌∙◌}
use Prim.Native.Nat.{◌≤◌}
use native.Mathlib.Omega.{arith}
use Rattle.definitions.specs.History.{reading_of}
use Rattle.judge.proofs.Whole.{same_ops, open_of, refusal_many, refusal_open, refusal_none}
use Rattle.judge.proofs.Work.read.Goals as goal

pub returns-then-noted-gt12-clause-err : goal.returns-then-noted-gt12-clause-err
returns-then-noted-gt12-clause-err c = let file = c.args.history.now in let ok = c.in_ok-noted.ensures.ok in refusal_many file ok.0 ok.1.0 (omega (arith, ok.1.1.count))

pub returns-then-is_open-clause-err : goal.returns-then-is_open-clause-err
returns-then-is_open-clause-err c =
    let file = c.args.history.now in
    let ok = c.in_ok-noted.ensures.ok in
    refusal_open file ok.0 ok.1.0 (omega (arith, ok.1.1.count)) (sym (open_of c.in_ok-noted.noted (reading_of file) ok.1.1 _ c.is_open.ensures) ∙ c.if-is_open.true)

pub returns-clause-ok : goal.returns-clause-ok
returns-clause-ok c =
    let file = c.args.history.now in
    let ok = c.in_ok-noted.ensures.ok in
    let few : (reading_of file).all.count ≤ 12 = omega (arith, ok.1.1.count) in
    (refusal_none file ok.0 ok.1.0 few (sym (open_of c.in_ok-noted.noted (reading_of file) ok.1.1 _ c.is_open.ensures) ∙ c.if-is_open.false), same_ops c.in_ok-noted.noted (reading_of file) ok.1.1 few)
