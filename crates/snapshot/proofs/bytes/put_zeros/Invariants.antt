-- `snapshot::bytes::put_zeros`: as many zeros are written as the loop has gone round. Assumes nothing.
use Rattle.buffer.specs.Writes.{Writes}
use Rattle.snapshot.specs.Layout.{zeros}
use Rattle.snapshot.proofs.bytes.put_zeros.Given as goal

abbrev pub invariant-loop : goal.invariant-loop
invariant-loop l = Writes l.initial.out l.out (zeros l.counter)
