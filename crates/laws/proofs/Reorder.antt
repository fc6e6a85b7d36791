-- REQUEST M, laws for reordering work. What each law says is written in specs/Laws.antt.
use Rattle.laws.specs.Laws.{ReorderLaws}
use Rattle.laws.proofs.Halves.{halves_join, groups_join}
use Rattle.laws.proofs.OneRecord.{every_version}
use Rattle.laws.proofs.Calm.{runs_reach, none_waits}
use Rattle.laws.proofs.Alone.{updates_end, one_end}
use Rattle.laws.proofs.Orders.{either_order, any_order}

pub reorder_laws : ReorderLaws
reorder_laws = record {
  halves_join = halves_join;
  groups_join = groups_join;
  runs_reach = runs_reach;
  none_waits = none_waits;
  every_version = every_version;
  updates_end = updates_end;
  one_end = one_end;
  either_order = either_order;
  any_order = any_order;
}
