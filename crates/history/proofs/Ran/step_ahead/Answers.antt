-- `history::Ran::step_ahead` meets its contract. Assumes nothing.
use mathlib.Core.Path.{◌≡◌}
use Prim.Native.Nat.{◌-◌, ◌/◌}
use borrow.Author.Rules.{rules}
use borrow.Author.Tests.{tests}
use lib.ListN.{length, get_or, take, drop}
use Rattle.std.proofs.lemmas.Iterator.{YieldsList-from_slice, first_from_find}
use Rattle.history.proofs.Cases.{ahead_found}
use Rattle.history.proofs.Ran.step_ahead.Goals as goal

pub returns : goal.returns
returns c =
    let rs = take (length c.args.self.now.records.now - c.args.first) (drop c.args.first c.args.self.now.records.now) in
    let h = first_from_find _ _ c.find.result (λ x. get_or x 0 0 / 16 ≡ c.args.t) (λ x. get_or x 0 0 / 16 ≡ c.args.t → ⊥) c.find.ensures.ran
    (YieldsList-from_slice rs (cc)) (λ x q k. search (rules, tests)) (λ x q k. search (rules, tests)) in
    ahead_found c.args.self.now.told c.args.t c.requires c.find.result h (search (rules, tests))
