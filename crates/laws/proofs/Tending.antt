-- Words for what a step does to a join's main: the places that a join with a main stands at (`tending`), and what is shown of every turn (`Turned`).
use mathlib.Core.Path.{◌≡◌}
use mathlib.Core.Logic.{◌≢◌}
use mathlib.Core.Bool.{Bool, true, false, ◌&&◌}
use Prim.Native.Nat.{ℕ}
use lib.Dec.{leb}
use Rattle.definitions.specs.declared.Kind.TheVariants.{Normal, Route, Main, Neighbour, Range}
use Rattle.definitions.specs.declared.Stage.{Stage}
use Rattle.definitions.specs.declared.Stage.TheVariants.{Preparing, Completing, Aborted, Done}
use Rattle.definitions.specs.Threads.{Thread, Turn, Moves, Finishes, Finds, Full, NoStore}
use Rattle.definitions.specs.declared.Effect.{Effect}
use Rattle.definitions.specs.declared.Effect.TheVariants.{Quiet, Mark, Settle, Invalid, Swing, Raise, Lower, Base, Fork, Commit, Ask, Fill}
use Rattle.definitions.specs.Nodes.{is_preparing}
use Rattle.definitions.specs.Bench.{Store}
use Rattle.definitions.specs.Effects.{perform}
use Rattle.definitions.specs.Places.{Place, number, place_of}
use Rattle.answers.proofs.Tools.{clash}

-- aborted or done
abbrev pub is_over : Stage → Bool
is_over Preparing = false
is_over Completing = false
is_over Aborted = true
is_over Done = true

-- 26 to 51: a join that has its main
abbrev pub tending : Place → Bool
tending p = leb 26 (number p) && leb (number p) 51

-- thread th owns main x and is on its way
pub record Tends (th : Thread) (x : ℕ) : Type 0 where
  pub place : tending (place_of th.place) ≡ true
  pub owner : th.owner ≡ true
  pub main : th.main ≡ x

-- a stage is settled as aborted or done, and becomes a node number only from preparing
abbrev pub Apt : Store → Effect → Type 0
Apt s Quiet = Unit {0}
Apt s (Mark r l) = Unit {0}
Apt s (Settle m v) = is_over v ≡ true
Apt s (Invalid r) = Unit {0}
Apt s (Swing v x) = Unit {0}
Apt s Raise = Unit {0}
Apt s Lower = Unit {0}
Apt s (Base v x k p c m) = Unit {0}
Apt s (Fork v x l r k y) = Unit {0}
Apt s (Commit m x p n g o) = is_preparing (s.nodes m).stage ≡ true
Apt s (Ask v x p y l h k new) = Unit {0}
Apt s (Fill k c) = Unit {0}

-- the effect makes a new main at y
abbrev pub NewMain : Effect → ℕ → Type 0
NewMain Quiet y = ⊥
NewMain (Mark r l) y = ⊥
NewMain (Settle m v) y = ⊥
NewMain (Invalid r) y = ⊥
NewMain (Swing v x) y = ⊥
NewMain Raise y = ⊥
NewMain Lower y = ⊥
NewMain (Base v x k p c m) y = (k ≡ Main) × (x ≡ y)
NewMain (Fork v x l r k z) y = ⊥
NewMain (Commit m x p n g o) y = ⊥
NewMain (Ask v x p z l h k new) y = ⊥
NewMain (Fill k c) y = ⊥

-- a new main has its maker as owner, an owner keeps its main, and at its end the main is aborted or done
abbrev pub Turned : Store → Place → Thread → Turn → Type 0
Turned s p th (Moves th' e) = Apt s e × ((y : ℕ) → NewMain e y → Tends th' y) × (tending p ≡ true → th.owner ≡ true → Tends th' th.main)
Turned s p th (Finishes e a) = Apt s e × ((y : ℕ) → NewMain e y → ⊥) × (tending p ≡ true → is_over ((perform e s).nodes th.main).stage ≡ true)
Turned s p th (Finds c) = tending p ≡ true → ⊥
Turned s p th Full = Unit {0}
Turned s p th NoStore = Unit {0}

pub normal_main : Normal ≢ Main
normal_main e = clash (cc)

pub route_main : Route ≢ Main
route_main e = clash (cc)

pub neighbour_main : Neighbour ≢ Main
neighbour_main e = clash (cc)

pub range_main : Range ≢ Main
range_main e = clash (cc)
