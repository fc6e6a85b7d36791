-- The cases of the readers and the writers, each with the code's own facts as premises. Assumes nothing.
use Rattle.std.specs.Prelude.{Option, slice_index_or}
use mathlib.Core.Path.{◌≡◌, refl, sym, ap, ap₂, ◌∙◌, fun_ext}
use mathlib.Core.Bool.{Bool, true, false}
use mathlib.Core.List.{List}
use Prim.Native.Nat.{ℕ, ◌<◌, ◌≤◌}
use native.Mathlib.Decide.{ℕ_discrete}
use lib.ListN.{get_or, set, length}
use lib.Seq.{get_or-set_same, get_or-set_other}
use Rattle.std.proofs.lemmas.List.{get_or_default}
use borrow.Author.Tests.{lt-ltb, le-ltb, eq-eqb, ne_eqb}
use Rattle.container.specs.Choice.{upd}
use Rattle.definitions.specs.declared.Kind.TheVariants.{Normal, Route, Main, Neighbour, Range}
use Rattle.definitions.specs.declared.Stage.{Stage}
use Rattle.definitions.specs.declared.Check.{Check}
use Rattle.definitions.specs.declared.Node.{Node}
use Rattle.definitions.specs.Nodes.{Shapes, Stores, shape, empty_base, kid_of, child_for, check_stage, check_store, check_as, check}
use Rattle.nodes.specs.Table.{table}
use Rattle.nodes.specs.Stores.{stores}

-- ---- the child on a side, and on a station's way
pub kid_left : (d : Bool) (n : Node) → d ≡ true → n.left ≡ kid_of d n
kid_left d n h = rw h

pub kid_right : (d : Bool) (n : Node) → d ≡ false → n.right ≡ kid_of d n
kid_right d n h = rw h

pub ruleset kid_cases = (kid_left, kid_right)

pub child_left : (s : ℕ) (n : Node) → s < n.key → n.left ≡ child_for s n
child_left s n h = rw (lt-ltb s n.key h)

pub child_right : (s : ℕ) (n : Node) → n.key ≤ s → n.right ≡ child_for s n
child_right s n h = rw (le-ltb s n.key h)

-- ---- the check of a base by the stage s of its main m
pub check_at : (s : Stage) (m : ℕ) (c : Check) {a : Stage} {r : Check} → s ≡ a → r ≡ check_stage a m c → r ≡ check_stage s m c
check_at s m c e q = rw e q

-- ---- the check of the base x: n is that node, m its main, r the result of its store, c the answer
module _ (t : Shapes) (o : Stores) (x : ℕ) {n : Node} where
  pub check_normal : n ≡ t x → n.kind ≡ Normal → Check.Replaceable ≡ check t o x
  unfolding check
  check_normal e k = rw (← e, k)

  pub check_route : n ≡ t x → n.kind ≡ Route → Check.Stale ≡ check t o x
  unfolding check
  check_route e k = rw (← e, k)

  pub check_main : {c : Check} → n ≡ t x → n.kind ≡ Main → c ≡ check_stage n.stage x Check.Stale → c ≡ check t o x
  unfolding check
  check_main e k a = a ∙ rw (e, rw e at k)

  pub check_neighbour : {c : Check} {m : Node} → n ≡ t x → n.kind ≡ Neighbour → m ≡ t n.main → c ≡ check_stage m.stage n.main Check.Replaceable → c ≡ check t o x
  unfolding check
  check_neighbour e k f a = a ∙ rw (f, e, rw e at k)

  pub check_range : {c : Check} {r : Option ℕ} → n ≡ t x → n.kind ≡ Range → r ≡ o n.store → c ≡ check_store r n → c ≡ check t o x
  unfolding check
  check_range e k f a = a ∙ ap₂ check_store (f ∙ ap (λ y. o y.store) e) e ∙ ap (λ d. check_as d t o x) (sym k ∙ ap (λ y. y.kind) e)

pub ruleset read_cases = (child_left, child_right, check_normal, check_route, check_main, check_neighbour, check_range)

-- ---- one of an array replaced, read with a default past its end
replaced : {A : Type 0} (d : A) (l : List A) (i : ℕ) (v : A) → i < length l → (λ j. get_or (set l i v) j d) ≡ upd (λ j. get_or l j d) i v
replaced d l i v h = fun_ext (λ j. elim (ℕ_discrete j i) [
  | yes e ↦ rw (e, eq-eqb i i refl) (get_or-set_same l i v d h)
  | no e ↦ rw (ne_eqb j i e) (get_or-set_other l i j v d e)
])

pub node_read : (l : List Node) (i : ℕ) (d : Node) → i < length l → slice_index_or l i d ≡ table l i
unfolding table
node_read l i d h = get_or_default l i d _ h

pub node_set : (l : List Node) (i : ℕ) (n : Node) → i < length l → table (set l i n) ≡ upd (table l) i n
unfolding table
node_set l i n h = replaced (shape empty_base) l i n h

pub store_set : (l : List (Option ℕ)) (k : ℕ) (v : Option ℕ) → k < length l → stores (set l k v) ≡ upd (stores l) k v
unfolding stores
store_set l k v h = replaced _ l k v h
