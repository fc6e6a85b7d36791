-- An array of empty bases is a table of them, and stores without a result are unset. Assumes nothing.
use Rattle.std.specs.Prelude.{None}
use mathlib.Core.Path.{◌≡◌, refl, fun_ext}
use Prim.Native.Nat.{ℕ, zero, suc}
use lib.ListN.{get_or, replicate}
use Rattle.definitions.specs.Nodes.{shape, empty_base}
use Rattle.nodes.specs.Table.{table}
use Rattle.nodes.specs.Stores.{stores}

same : {A : Type 0} (d : A) (k i : ℕ) → get_or (replicate k d) i d ≡ d
same d zero i = refl
same d (suc k) zero = refl
same d (suc k) (suc i) = same d k i

pub blank : (k : ℕ) → table (replicate k (shape empty_base)) ≡ (λ _. shape empty_base)
unfolding table
blank k = fun_ext (λ j. same (shape empty_base) k j)

pub unset : (k : ℕ) → stores (replicate k None) ≡ (λ _. None)
unfolding stores
unset k = fun_ext (λ j. same None k j)
