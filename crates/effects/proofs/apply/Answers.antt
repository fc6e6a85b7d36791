-- `effects::apply` meets its contract. Assumes nothing.
use Rattle.effects.proofs.Laws.{apply_base, apply_fork, apply_commit}
use Rattle.effects.proofs.apply.Goals as goal

pub returns-in-Base : goal.returns-in-Base
returns-in-Base c = λ k j. apply_base _ _ _ k j _ _ _ _ _ _ c.in-Base.is c.set_of-c.ensures c.put_base.ensures c.hang_at-in-Base.ensures

pub returns-in-Fork : goal.returns-in-Fork
returns-in-Fork c = λ k j. apply_fork _ _ _ k j _ _ _ _ _ _ c.in-Fork.is c.node_at-n.ensures c.put_fork.ensures c.hang_at-in-Fork.ensures

pub returns-in-Commit : goal.returns-in-Commit
returns-in-Commit c = λ k j. apply_commit _ _ _ k j _ _ _ _ _ _ c.in-Commit.is c.node_at-m.ensures c.node_at-n-in-Commit.ensures c.united-c.ensures c.put_base-in-Commit.ensures c.commit.ensures
