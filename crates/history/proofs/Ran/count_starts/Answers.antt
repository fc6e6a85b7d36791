-- `history::Ran::count_starts` meets its contract. Assumes nothing.
use mathlib.Core.Path.{◌≡◌, ◌∙◌}
use native.Mathlib.Omega.{arith}
use borrow.Author.Rules.{rules, of_calls}
use borrow.Author.Tests.{tests}
use lib.ListN.{length}
use Rattle.std.proofs.lemmas.Iterator.{YieldsList-from_slice, YieldsList-from_map}
use Rattle.std.proofs.lemmas.Iterator.Consumers.{sum_by_from_yields_List, fits_by_from_yields_list}
use Rattle.history.specs.Ahead.{starts_to}
use Rattle.history.proofs.Loop.{told_room}
use Rattle.history.proofs.Cases.{start_of, starts_are, starts_few}
use Rattle.history.proofs.Ran.count_starts.Goals as goal

pub sum-requires : goal.sum-requires
sum-requires c = record {
  can = search of_calls;
  finite = search of_calls;
  fits = fits_by_from_yields_list start_of c.args.self.now.records.now c.map.result _
      (YieldsList-from_map _ start_of (YieldsList-from_slice c.args.self.now.records.now (cc)) c.map.ensures.closure (λ x r q k. search (rules, tests)))
      (omega (arith, starts_are c.args.self.now.told, starts_few c.args.self.now.schedule.now (length c.args.self.now.records.now), told_room _ _ _ c.args.self.now.told));
}

pub returns : goal.returns
returns c =
    let e : c.sum.result ≡ starts_to c.args.self.now.schedule.now (length c.args.self.now.records.now) =
    sum_by_from_yields_List start_of c.args.self.now.records.now c.map.result c.sum.result c.sum.ensures.ran
    (YieldsList-from_map _ start_of (YieldsList-from_slice c.args.self.now.records.now (cc)) c.map.ensures.closure (λ x r q k. search (rules, tests)))
    ∙ starts_are c.args.self.now.told in
    (e, omega (arith, e, starts_few c.args.self.now.schedule.now (length c.args.self.now.records.now)))
