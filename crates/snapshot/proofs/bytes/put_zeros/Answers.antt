-- `snapshot::bytes::put_zeros` meets its contract. Assumes nothing.
use mathlib.Core.Path.{refl}
use native.Mathlib.Omega.{arith}
use Rattle.snapshot.proofs.ByteCases.{zeros_filled}
use Rattle.snapshot.proofs.bytes.put_zeros.Goals as goal

pub returns-then-at-len : goal.returns-then-at-len
returns-then-at-len c = (refl, zeros_filled _ c.args.out.now.at c.args.n (omega (arith, c.if-n-len.true, c.if-at-len.true)) (omega arith) (c.fill.ensures.after (λ y e. e)))
