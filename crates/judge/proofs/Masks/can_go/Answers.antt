-- `judge::Masks::can_go` meets its contract. Assumes nothing.
use mathlib.Core.Path.{ap}
use native.Mathlib.Omega.{arith}
use lib.ListN.{get_or}
use Rattle.container.specs.Container.{insert}
use Rattle.judge.specs.Search.{blank}
use Rattle.judge.specs.Standing.{held}
use Rattle.judge.proofs.Cases.{held_is}
use Rattle.judge.proofs.Table.{Goes, insert_below, masks_few, goes_late, goes_dead, goes_asked, fits_of}
use Rattle.judge.proofs.Masks.can_go.Goals as goal

pub returns-then-united-mask-clause-no : goal.returns-then-united-mask-clause-no
returns-then-united-mask-clause-no c = let w = c.args.self.now.work in let r = c.requires in
    (goes_late (held w) c.args.mask c.args.i (get_or w.ops c.args.i blank).before c.args.self.now.next w.sound r.here r.out r.low r.down r.filled
    (λ j. ap (λ o. o.finished_before j) (held_is w.count w.ops c.args.i r.here)) c.united.ensures c.if-united-mask.true).1

pub bounds : goal.bounds
bounds c = let w = c.args.self.now.work in
    omega (arith, c.with-then.ensures, masks_few (insert c.args.mask c.args.i) w.count w.sound.few (insert_below c.args.mask c.args.i w.count c.requires.here w.sound.few c.requires.low))

pub offset_bounds-self-then : goal.offset_bounds-self-then
offset_bounds-self-then c = let w = c.args.self.now.work in
    omega (arith, c.with-then.ensures, masks_few (insert c.args.mask c.args.i) w.count w.sound.few (insert_below c.args.mask c.args.i w.count c.requires.here w.sound.few c.requires.low))

pub returns-in-Dead-clause-no : goal.returns-in-Dead-clause-no
returns-in-Dead-clause-no c = let w = c.args.self.now.work in let r = c.requires in
    (goes_dead (held w) c.args.mask c.args.i (get_or w.ops c.args.i blank).before c.args.self.now.next w.sound r.here r.out r.low r.down r.filled
    (λ j. ap (λ o. o.finished_before j) (held_is w.count w.ops c.args.i r.here)) c.united.ensures _ c.if-united-mask.false c.with-then.ensures c.in-Dead.is).1

pub returns : goal.returns
returns c =
    let w = c.args.self.now.work in
    let r = c.requires in
    let g : Goes (held w) c.args.mask c.args.i c.fits.result = goes_asked (held w) c.args.mask c.args.i (get_or w.ops c.args.i blank).before c.args.self.now.next w.sound r.here
    r.out r.low r.down r.filled (λ j. ap (λ o. o.finished_before j) (held_is w.count w.ops c.args.i r.here)) c.united.ensures _ _ c.if-united-mask.false c.with-then.ensures c.in_default.not-Dead
    (fits_of (get_or w.ops c.args.i blank) (held w) c.args.mask c.args.i _ (held_is w.count w.ops c.args.i r.here) c.state.ensures c.fits.ensures) in
    record { yes = g.0; no = g.1 }
