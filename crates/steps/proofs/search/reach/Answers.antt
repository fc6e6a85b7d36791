-- `steps::search::reach` meets its contract: what a base leads to is what its closure decides. Assumes nothing.
use Rattle.std.proofs.Common.{rules}
use Rattle.steps.proofs.DecideLaws.{reached_by}
use Rattle.steps.proofs.search.reach.Goals as goal

pub returns : goal.returns
returns c = reached_by _ _ _ c.on_way.ensures.route (λ e. let p = c.on_way.ensures.base e in search rules)
