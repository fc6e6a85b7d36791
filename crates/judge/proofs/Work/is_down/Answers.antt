-- `judge::Work::is_down` meets its contract. Assumes nothing.
use Prim.Native.Nat.{ℕ, ◌-◌}
use mathlib.Core.Path.{◌≡◌, sym, ap}
use mathlib.Core.Bool.{true≢false}
use native.Mathlib.Omega.{arith}
use lib.ListN.{get_or}
use Rattle.container.specs.Container.{has}
use Rattle.judge.specs.Search.{blank}
use Rattle.judge.specs.Standing.{held}
use Rattle.judge.proofs.Cases.{held_is}
use Rattle.judge.proofs.Table.{down_skip, down_keep, down_broken}
use Rattle.judge.proofs.Work.is_down.Goals as goal
use Rattle.judge.proofs.Work.is_down.Goals.{else-contains-via-then-contains+else-united-mask, else-contains-via-else-contains}

pub returns-then-united-mask : goal.returns-then-united-mask
returns-then-united-mask c = let w = c.args.self.now in let i = c.loop-i.i - 1 in (
  λ z. absurd (true≢false (sym z)),
  λ d. absurd (down_broken (held w) c.args.mask i (get_or w.ops i blank).before
      (λ j. ap (λ o. o.finished_before j) (held_is w.count w.ops i (omega arith))) c.contains.ensures c.united.ensures c.if-united-mask.true c.if-contains.true (omega arith) d),
)

pub loop-i-preserved : goal.loop-i-preserved
loop-i-preserved c =
    let w = c.args.self.now in
    let i = c.loop-i.i - 1 in
    let is : (j : ℕ) → ((held w).operation i).finished_before j ≡ has (get_or w.ops i blank).before j = λ j. ap (λ o. o.finished_before j) (held_is w.count w.ops i (omega arith)) in
    elim c.else-contains.branch [
      | else-contains-via-then-contains+else-united-mask b ↦ down_keep (held w) c.args.mask i _ is c.contains.ensures b.united.ensures b.if-united-mask.false
          (λ j a. c.loop-i.invariant j (omega arith))
      | else-contains-via-else-contains b ↦ down_skip (held w) c.args.mask i _ is c.contains.ensures b.if-contains.false (λ j a. c.loop-i.invariant j (omega arith))
    ]
