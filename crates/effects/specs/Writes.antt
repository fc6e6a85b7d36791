-- What a step at a place below 60 writes, as an effect of the definitions.
use Rattle.definitions.specs.declared.Effect.{Effect}
use Rattle.effects.specs.declared.Write.{Write}

abbrev pub effect_of : Write → Effect
effect_of Write.Quiet = Effect.Quiet
effect_of (Write.Mark r l) = Effect.Mark r l
effect_of (Write.Settle m v) = Effect.Settle m v
effect_of (Write.Invalid r) = Effect.Invalid r
effect_of (Write.Swing v x) = Effect.Swing v x
effect_of (Write.Base v x k p c m) = Effect.Base v x k p c m
effect_of (Write.Fork v x l r k y) = Effect.Fork v x l r k y
effect_of (Write.Commit m x p n g o) = Effect.Commit m x p n g o
