-- The check of a base gives the one answer that holds of it (02, g), whatever the nodes hold. Assumes nothing.
use Rattle.std.specs.Prelude.{Option, Some, None}
use Prim.Native.Nat.{ℕ}
use mathlib.Core.Path.{◌≡◌, refl, sym, ap, ◌∙◌}
use mathlib.Core.Logic.{inl, inr}
use mathlib.Core.Bool.{true, false≢true}
use Rattle.definitions.specs.declared.Kind.{Kind}
use Rattle.definitions.specs.declared.Kind.TheVariants.{Normal, Route, Main, Neighbour, Range}
use Rattle.definitions.specs.declared.Stage.{Stage}
use Rattle.definitions.specs.declared.Stage.TheVariants.{Preparing, Completing, Aborted, Done}
use Rattle.definitions.specs.declared.Check.{Check}
use Rattle.definitions.specs.Nodes.{Shapes, Stores, is_set, Means, check_stage, check_store, check_as, check, CheckRule}

module _ (n : Shapes) (k : Stores) (x : ℕ) where
  -- by the stage of its main
  main_means : (v : Stage) → (n x).kind ≡ Main → (n x).stage ≡ v → Means (check_stage v x Check.Stale) n k x
  main_means Preparing t e = (inl (t, refl), e)
  main_means Completing t e = (inl (t, refl), e)
  main_means Aborted t e = inr (inl (t, e))
  main_means Done t e = (t, e)

  neighbour_means : (v : Stage) → (n x).kind ≡ Neighbour → (n (n x).main).stage ≡ v → Means (check_stage v (n x).main Check.Replaceable) n k x
  neighbour_means Preparing t e = (inr (t, refl), e)
  neighbour_means Completing t e = (inr (t, refl), e)
  neighbour_means Aborted t e = inr (inr (inl (t, inl e)))
  neighbour_means Done t e = inr (inr (inl (t, inr e)))

  range_means : (v : Option ℕ) → (n x).kind ≡ Range → k (n x).store ≡ v → Means (check_store v (n x)) n k x
  range_means None t e = (t, e, refl, refl, refl)
  range_means (Some c) t e = inr (inr (inr (t, ap is_set e)))

  means : (v : Kind) → (n x).kind ≡ v → (v ≡ Route → ⊥) → Means (check_as v n k x) n k x
  means Normal t f = inl t
  means Route t f = absurd (f refl)
  means Main t f = main_means _ t refl
  means Neighbour t f = neighbour_means _ t refl
  means Range t f = range_means _ t refl

  as_main : {v : Stage} → (n x).kind ≡ Main → (n x).stage ≡ v → check_stage v x Check.Stale ≡ check n k x
  unfolding check
  as_main t e = rw (t, e)

  as_neighbour : {v : Stage} → (n x).kind ≡ Neighbour → (n (n x).main).stage ≡ v → check_stage v (n x).main Check.Replaceable ≡ check n k x
  unfolding check
  as_neighbour t e = rw (t, e)

  as_normal : (n x).kind ≡ Normal → Check.Replaceable ≡ check n k x
  unfolding check
  as_normal t = rw t

  -- by what the store of a range base holds
  as_range : {v : Option ℕ} → (n x).kind ≡ Range → k (n x).store ≡ v → check_store v (n x) ≡ check n k x
  unfolding check
  as_range t e = ap (λ s. check_store s (n x)) (sym e) ∙ ap (λ c. check_as c n k x) (sym t)

  as_set : (v : Option ℕ) → (n x).kind ≡ Range → k (n x).store ≡ v → is_set v ≡ true → Check.Replaceable ≡ check n k x
  as_set None t e i = absurd (false≢true i)
  as_set (Some c) t e i = as_range t e

  alone : (c : Check) → Means c n k x → c ≡ check n k x
  alone Check.Replaceable (inl t) = as_normal t
  alone Check.Replaceable (inr (inl (t, e))) = as_main t e
  alone Check.Replaceable (inr (inr (inl (t, inl e)))) = as_neighbour t e
  alone Check.Replaceable (inr (inr (inl (t, inr e)))) = as_neighbour t e
  alone Check.Replaceable (inr (inr (inr (t, i)))) = as_set _ t refl i
  alone (Check.Preparing m) (inl (t, i), e) = rw i (as_main t (rw i at e))
  alone (Check.Preparing m) (inr (t, i), e) = rw i (as_neighbour t (rw i at e))
  alone (Check.Completing m) (inl (t, i), e) = rw i (as_main t (rw i at e))
  alone (Check.Completing m) (inr (t, i), e) = rw i (as_neighbour t (rw i at e))
  alone Check.Stale (t, e) = as_main t e
  alone (Check.Unset l h j) (t, e, i, m, o) = rw (i, m, o) (as_range t e)

pub check_rule : CheckRule
unfolding check
check_rule n k x f = (means n k x (n x).kind refl f, alone n k x)
