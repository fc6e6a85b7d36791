-- `writer::part_of` meets its contract. Assumes nothing.
use borrow.Author.Rules.{rules}
use native.Mathlib.Omega.{arith}
use Rattle.schedule.proofs.Laws.{proper}
use Rattle.writer.proofs.Scan.{started}
use Rattle.writer.proofs.First.{inside, end_few, made}
use Rattle.writer.proofs.part_of.Goals as goal

pub version_of-requires : goal.version_of-requires
version_of-requires c = (proper _ c.requires.0).header

pub start_of-end-requires : goal.start_of-end-requires
start_of-end-requires c = omega (arith, c.requires.1, (proper _ c.requires.0).few)

pub copy-requires : goal.copy-requires
copy-requires c =
    let e = started c.args.schedule.now c.args.k c.version_of.ensures c.start_of-end.ensures in
    (omega (arith, e, inside c.args.schedule.now c.args.k c.requires.0 c.requires.1), omega (arith, e, c.fits-room, end_few c.args.schedule.now c.args.k c.requires.0 c.requires.1))

pub overflow_cast-k : goal.overflow_cast-k
overflow_cast-k c = record { fits = omega (arith, c.requires.1, (proper _ c.requires.0).few) }

pub shared_ref_as_front-result : goal.shared_ref_as_front-result
shared_ref_as_front-result c = omega (arith, started c.args.schedule.now c.args.k c.version_of.ensures c.start_of-end.ensures, end_few c.args.schedule.now c.args.k c.requires.0 c.requires.1)

pub returns : goal.returns
returns c =
    made c.args.schedule.now c.args.k c.requires.0 c.requires.1 c.copy.new.out (started c.args.schedule.now c.args.k c.version_of.ensures c.start_of-end.ensures) (omega arith) c.copy.ensures
    (search rules)
