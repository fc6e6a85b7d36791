-- `passing_byte` meets its contract.
use native.Mathlib.Omega.{arith}
use Rattle.container.proofs.Passing.{times_fits, raise_fits, raised_fits, lowest_of_eight, lowest_fits}
use Rattle.container.proofs.select.passing_byte.Goals as goal

pub overflow_mul-raised : goal.overflow_mul-raised
overflow_mul-raised c = record { fits = times_fits c.args.h c.requires.1 }

pub overflow_sub-raised : goal.overflow_sub-raised
overflow_sub-raised c = raise_fits c.args.h c.requires.1

pub overflow_add-raised : goal.overflow_add-raised
overflow_add-raised c = record { fits = raised_fits c.args.t c.args.h c.ranges.t.fits c.requires.0 }

pub overflow_sub-result : goal.overflow_sub-result
overflow_sub-result c = omega (arith, lowest_of_eight c.args.t c.args.h c.requires.0 c.requires.1)

pub overflow_cast-result : goal.overflow_cast-result
overflow_cast-result c = record { fits = lowest_fits c.args.t c.args.h c.requires.0 c.requires.1 }

pub returns : goal.returns
returns c = omega (arith, lowest_of_eight c.args.t c.args.h c.requires.0 c.requires.1)
