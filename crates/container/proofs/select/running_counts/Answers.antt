-- `running_counts` meets its contract: three steps make the counts of bytes, three sums the running counts.
use Rattle.container.proofs.Fields.{pairs_fit, nibbles_fit, bytes_fit}
use Rattle.container.proofs.Running.{first_fits, second_fits, third_fits, third_is}
use Rattle.container.proofs.select.running_counts.Goals as goal

pub overflow_sub-a : goal.overflow_sub-a
overflow_sub-a c = pairs_fit c.args.w

pub overflow_add-b : goal.overflow_add-b
overflow_add-b c = record { fits = nibbles_fit c.args.w }

pub overflow_add-c : goal.overflow_add-c
overflow_add-c c = record { fits = bytes_fit c.args.w }

pub overflow_add-x : goal.overflow_add-x
overflow_add-x c = record { fits = first_fits c.args.w c.ranges.w.fits }

pub overflow_add-y : goal.overflow_add-y
overflow_add-y c = record { fits = second_fits c.args.w c.ranges.w.fits }

pub overflow_add-result : goal.overflow_add-result
overflow_add-result c = record { fits = third_fits c.args.w c.ranges.w.fits }

pub returns : goal.returns
returns c = third_is c.args.w c.ranges.w.fits
