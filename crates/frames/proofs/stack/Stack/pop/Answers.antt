-- `frames::stack::Stack::pop` meets its contract. Assumes nothing.
use Rattle.std.proofs.Common.{◌≡◌, ℕ, zero, suc, ◌-◌, ◌≤◌, List, take, length, refl, arith, rules}
use Rattle.std.proofs.lemmas.List.{reverse-append}
use Rattle.std.proofs.Math.Seq.{take-suc}
use Rattle.std.specs.Prelude.{reverse}
use Rattle.definitions.specs.Frames.{tail_of}
use Rattle.frames.proofs.stack.Stack.pop.Goals as goal

one_less : (l : List ℕ) (n : ℕ) → (n ≡ 0 → ⊥) → n ≤ length l → reverse (take (n - 1) l) ≡ tail_of (reverse (take n l))
one_less l zero z h = absurd (z refl)
one_less l (suc n) z h = let e : suc n - 1 ≡ n = omega arith in rw (e, take-suc l n 0 h, reverse-append)

pub returns-clause-rest : goal.returns-clause-rest
returns-clause-rest c = search (one_less, rules)
