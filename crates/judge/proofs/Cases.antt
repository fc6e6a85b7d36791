-- What each small function returns. Assumes nothing.
use mathlib.Core.Path.{◌≡◌, refl, sym, ◌∙◌, ap}
use mathlib.Core.Bool.{Bool, true, false}
use Prim.Native.Nat.{ℕ, ◌+◌, ◌<◌}
use native.Mathlib.Numerals.{add-one}
use lib.Dec.{eqb}
use lib.ListN.{get_or}
use mathlib.Core.List.{List}
use borrow.Author.Tests.{eq-eqb, ne_eqb, lt-ltb}
use Rattle.container.specs.Container.{has, insert, remove}
use Rattle.container.proofs.Laws.{insert_same, insert_other, remove_same, remove_other, has_none}
use Rattle.definitions.specs.History.{Operations}
use Rattle.judge.specs.Search.{flip, turns, state_to, operation_of, held_op, blank}
use Rattle.judge.specs.declared.Op.{Op}
use Rattle.judge.proofs.Tools.{◌==?◌}

-- ---- an operation that the code holds
pub held_is : (n : ℕ) (ops : List Op) (i : ℕ) → i < n → held_op n ops i ≡ operation_of (get_or ops i blank)
held_is n ops i h = rw (lt-ltb i n h)

-- ---- a station turned over
module _ (set s : ℕ) {r : ℕ} {v : Bool} where
  pub turn_out : v ≡ has set s → v ≡ true → r ≡ remove set s → (x : ℕ) → has r x ≡ flip (eqb x s) (has set x)
  turn_out e q h x = rw h (elim (x ==? s) [ yes p ↦ rw (p, eq-eqb s s refl, remove_same set s, sym e ∙ q) | no p ↦ rw (ne_eqb x s p, remove_other set s x p) ])

  pub turn_in : s < 64 → v ≡ has set s → v ≡ false → r ≡ insert set s → (x : ℕ) → has r x ≡ flip (eqb x s) (has set x)
  turn_in l e q h x = rw h (elim (x ==? s) [ yes p ↦ rw (p, eq-eqb s s refl, insert_same set s l, sym e ∙ q) | no p ↦ rw (ne_eqb x s p, insert_other set s x p) ])

-- ---- the plain set after the operations of a mask
module _ (R : Operations) (mask : ℕ) where
  pub state_start : (x : ℕ) → has 0 x ≡ state_to R mask 0 x
  unfolding state_to
  state_start x = has_none x

  module _ (i set : ℕ) (so : (x : ℕ) → has set x ≡ state_to R mask i x) {v : Bool} (e : v ≡ has mask i) where
    pub state_skip : v ≡ false → (x : ℕ) → has set x ≡ state_to R mask (i + 1) x
    unfolding state_to
    state_skip q x = rw (add-one i, sym e ∙ q) (so x)

    pub state_step : (r : ℕ) → v ≡ true → ((x : ℕ) → has r x ≡ flip (turns (R.operation i) x) (has set x)) → (x : ℕ) → has r x ≡ state_to R mask (i + 1) x
    unfolding state_to
    state_step r q h x = rw (add-one i, sym e ∙ q) (h x ∙ ap (flip (turns (R.operation i) x)) (so x))
