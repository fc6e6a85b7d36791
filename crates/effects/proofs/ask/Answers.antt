-- `effects::ask` meets its contract. Assumes nothing.
use mathlib.Core.Path.{ap}
use Rattle.definitions.specs.declared.Node.{Node}
use Rattle.effects.proofs.Laws.{apply_ask}
use Rattle.effects.proofs.ask.Goals as goal

pub returns : goal.returns
returns c = λ u new k j. apply_ask _ _ u k j _ _ _ _ _ _ _ new (ap (λ (n : Node). n.container) c.node_at-c.ensures) c.put_range.ensures c.hang_at.ensures
