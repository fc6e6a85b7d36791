-- The cases of what a step writes, each with the code's own facts as premises. Assumes nothing.
use Rattle.std.specs.Prelude.{Option, Some}
use mathlib.Core.Path.{◌≡◌, refl, ◌∙◌, ap, fun_ext}
use mathlib.Core.Bool.{Bool, true, false, cond}
use Prim.Native.Nat.{ℕ, ◌+◌}
use native.Mathlib.Numerals.{add-one}
use native.Mathlib.Decide.{ℕ_discrete}
use borrow.Author.Tests.{eq-eqb, ne_eqb}
use Rattle.container.specs.Choice.{upd}
use Rattle.container.specs.Container.{insert, remove, union, upper_half, lower_half}
use Rattle.container.specs.Depths.{container, put, take_out, merge, lower, upper}
use Rattle.depths.specs.Rows.{Rows, Holds, changed, selected, full}
use Rattle.definitions.specs.Nodes.{Shapes, Stores, entry, over, new_base, new_route, new_range, with_kid, with_mark, with_valid, with_stage, committed}
use Rattle.definitions.specs.Bench.{store}
use Rattle.definitions.specs.Effects.{hang, content_of, forked}
use Rattle.effects.specs.Writes.{effect_of}
use Rattle.effects.specs.Used.{used_after, base_shape, range_shape, set_of, fork_shapes, Hung, depths_of, within, deepened, Applied}
use Rattle.effects.specs.declared.Write.{Write}
use Rattle.effects.specs.declared.Write.TheVariants.{Quiet, Mark, Settle, Invalid, Swing, Base, Fork, Commit}
use Rattle.definitions.specs.declared.Node.{Node}
use Rattle.definitions.specs.declared.Kind.{Kind}
use Rattle.definitions.specs.declared.Kind.TheVariants.{Normal, Neighbour}
use Rattle.definitions.specs.declared.Stage.{Stage}
use Rattle.definitions.specs.declared.Spot.{Spot}
use Rattle.definitions.specs.declared.Spot.TheVariants.{Root, Under}
use Rattle.definitions.specs.declared.Content.{Content}
use Rattle.definitions.specs.declared.Content.TheVariants.{Of, With, Without}
use Rattle.definitions.specs.declared.Effect.TheVariants.{Ask}

-- ---- one node of the table with its depths

full_same : (t : Shapes) (d : Rows) (x : ℕ) (v : Node) → full (upd t x v) d ≡ upd (full t d) x (entry v (d x))
full_same t d x v = fun_ext (λ j. elim (ℕ_discrete j x) [ yes e ↦ rw (e, eq-eqb x x refl) | no e ↦ rw (ne_eqb j x e) ])

full_new : (t : Shapes) (d : Rows) (x : ℕ) (v : Node) (r : ℕ → ℕ) → full (upd t x v) (upd d x r) ≡ upd (full t d) x (entry v r)
full_new t d x v r = fun_ext (λ j. elim (ℕ_discrete j x) [ yes e ↦ rw (e, eq-eqb x x refl) | no e ↦ rw (ne_eqb j x e) ])

upd_at : (d : Rows) (x : ℕ) (r : ℕ → ℕ) → upd d x r x ≡ r
upd_at d x r = rw (eq-eqb x x refl)

upd_again : (d : Rows) (x : ℕ) (r s : ℕ → ℕ) → upd (upd d x r) x s ≡ upd d x s
upd_again d x r s = fun_ext (λ j. elim (ℕ_discrete j x) [ yes e ↦ rw (e, eq-eqb x x refl) | no e ↦ rw (ne_eqb j x e) ])

-- a row copied elsewhere leaves itself
upd_own : (d : Rows) (x y : ℕ) → upd d x (d y) y ≡ d y
upd_own d x y = elim (ℕ_discrete y x) [ yes e ↦ rw (eq-eqb y x e) | no e ↦ rw (ne_eqb y x e) ]

-- ---- a node is put at a spot: t' is the table after it
module _ (t : Shapes) (o x : ℕ) {v : Spot} where
  pub hang_root : v ≡ Root → Hung t o v x t x
  hang_root q d u k j z = rw q

  pub hang_under : {t' : Shapes} (r : ℕ) (b : Bool) → v ≡ Under r b → t' ≡ upd t r (with_kid b x (t r)) → Hung t o v x t' o
  hang_under r b q h d u k j z = rw (q, h) (ap (λ n. store n o u k j z) (full_same t d r (with_kid b x (t r))))

-- ---- the set of a new base: n is the node y
module _ (t : Shapes) {c : Content} {n : Node} where
  pub set_same : (y : ℕ) → c ≡ Of y → n ≡ t y → n.container ≡ set_of c t
  set_same y q e = rw (q, e)

  pub set_with : {w : ℕ} (y s v : ℕ) → c ≡ With y s v → n ≡ t y → w ≡ insert n.container s → w ≡ set_of c t
  set_with y s v q e i = rw (q, i, e)

  pub set_without : {w : ℕ} (y s : ℕ) → c ≡ Without y s → n ≡ t y → w ≡ remove n.container s → w ≡ set_of c t
  set_without y s q e i = rw (q, i, e)

-- its container
content_made : (c : Content) (t : Shapes) (d : Rows) → container (set_of c t) (depths_of c d) ≡ content_of c (full t d)
unfolding put take_out
content_made (Of y) t d = refl
content_made (With y s v) t d = refl
content_made (Without y s) t d = refl

-- ---- a route and its two bases: t₁ and t₂ are the tables between
pub fork_put : (t : Shapes) (x l r k c : ℕ) {low high : ℕ} {t₁ t₂ t₃ : Shapes} → low ≡ lower_half c → high ≡ upper_half c → t₁ ≡ upd t x (new_route k l r)
    → t₂ ≡ upd t₁ l (base_shape Normal (Some x) low 0) → t₃ ≡ upd t₂ r (base_shape Normal (Some x) high 0) → t₃ ≡ fork_shapes x l r k c t
fork_put t x l r k c i j g₁ g₂ g₃ = rw (g₃, g₂, g₁, i, j)

-- with the depths of the base y that is split
fork_made : (t : Shapes) (d : Rows) (x l r k y : ℕ) → full (fork_shapes x l r k (t y).container t) (upd (upd (upd d x (d y)) l (d y)) r (d y)) ≡ forked x l r k (full t d y).container (full t d)
unfolding lower upper
fork_made t d x l r k y =
    let t₁ : Shapes = upd t x (new_route k l r) in
    let t₂ : Shapes = upd t₁ l (base_shape Normal (Some x) (lower_half (t y).container) 0) in
    let d₁ : Rows = upd d x (d y) in
    let d₂ : Rows = upd d₁ l (d y) in
    full_new t₂ d₂ r (base_shape Normal (Some x) (upper_half (t y).container) 0) (d y)
    ∙ rw (full_new t₁ d₁ l (base_shape Normal (Some x) (lower_half (t y).container) 0) (d y), full_new t d x (new_route k l r) (d y))

-- ---- the union of the containers of a and b
union_made : (t : Shapes) (d : Rows) (x : ℕ) (p : Option ℕ) (a b : ℕ)
    → full (upd t x (base_shape Neighbour p (union (t a).container (t b).container) a)) (upd d x (selected (t a).container (d a) (d b))) ≡ upd (full t d) x
    (new_base Neighbour p (merge (full t d a).container (full t d b).container) a)
unfolding merge
union_made t d x p a b = full_new t d x _ _

-- ---- a range base with the container of node y
range_made : (t : Shapes) (d : Rows) (x : ℕ) (p : Option ℕ) (y l h k : ℕ)
    → full (upd t x (range_shape p (t y).container l h k)) (upd d x (d y)) ≡ upd (full t d) x (new_range p (full t d y).container l h k)
range_made t d x p y l h k = full_new t d x _ _

-- ---- the numbers used after a write that makes nodes
module _ (u : ℕ) {e : Write} where
  pub used_base : (v : Spot) (x : ℕ) (k : Kind) (p : Option ℕ) (c : Content) (m : ℕ) → e ≡ Base v x k p c m → x + 1 ≡ used_after u (effect_of e)
  used_base v x k p c m q = rw q

  pub used_fork : (v : Spot) (x l r k y : ℕ) → e ≡ Fork v x l r k y → x + 3 ≡ used_after u (effect_of e)
  used_fork v x l r k y q = rw q

  pub used_commit : (m x : ℕ) (p : Option ℕ) (b : ℕ) (g : Option ℕ) (w : ℕ) → e ≡ Commit m x p b g w → x + 1 ≡ used_after u (effect_of e)
  used_commit m x p b g w q = rw q

-- ---- on the nodes, whatever the stores: t₁ is the table with the new nodes, t' and y the table and the root after it
module _ (t : Shapes) (o u : ℕ) (k : Stores) (j : ℕ) {e : Write} where
  pub apply_quiet : e ≡ Quiet → Applied t o u k j (effect_of e) t o k
  apply_quiet q = record { stored = λ d z'. rw q }

  pub apply_mark : {t' : Shapes} (r : ℕ) (l : Option ℕ) → e ≡ Mark r l → t' ≡ upd t r (with_mark l (t r)) → Applied t o u k j (effect_of e) t' o k
  apply_mark r l q h = record { stored = λ d z'. rw (q, h) (ap (λ a. store a o u k j z') (full_same t d r _)) }

  pub apply_settle : {t' : Shapes} (m : ℕ) (s : Stage) → e ≡ Settle m s → t' ≡ upd t m (with_stage s (t m)) → Applied t o u k j (effect_of e) t' o k
  apply_settle m s q h = record { stored = λ d z'. rw (q, h) (ap (λ a. store a o u k j z') (full_same t d m _)) }

  pub apply_invalid : {t' : Shapes} (r : ℕ) → e ≡ Invalid r → t' ≡ upd t r (with_valid false (t r)) → Applied t o u k j (effect_of e) t' o k
  apply_invalid r q h = record { stored = λ d z'. rw (q, h) (ap (λ a. store a o u k j z') (full_same t d r _)) }

  pub apply_swing : {t' : Shapes} {y : ℕ} (v : Spot) (x : ℕ) → e ≡ Swing v x → Hung t o v x t' y → Applied t o u k j (effect_of e) t' y k
  apply_swing v x q h = record { stored = λ d z'. rw q (h d u k j z') }

  pub apply_base : {t₁ t' : Shapes} {y w : ℕ} (v : Spot) (x : ℕ) (i : Kind) (p : Option ℕ) (c : Content) (m : ℕ) → e ≡ Base v x i p c m → w ≡ set_of c t
      → t₁ ≡ upd t x (base_shape i p w m) → Hung t₁ o v x t' y → Applied t o u k j (effect_of e) t' y k
  apply_base {t₁} {t'} {y} {w} v x i p c m q f h g = record {
    stored = λ d z'. rw q (
        g (upd d x (depths_of c d)) (x + 1) k j z'
        ∙ rw (h, f, full_new t d x (base_shape i p (set_of c t) m) (depths_of c d), ← content_made c t d, add-one)
        );
  }

  pub apply_fork : {t₁ t' : Shapes} {y : ℕ} {n : Node} (v : Spot) (x l r i z : ℕ) → e ≡ Fork v x l r i z → n ≡ t z → t₁ ≡ fork_shapes x l r i n.container t → Hung t₁ o v x t' y
      → Applied t o u k j (effect_of e) t' y k
  apply_fork {t₁} {t'} {y} {n} v x l r i z q f h g = record {
    stored = λ d z'. rw q (
        g (upd (upd (upd d x (d z)) l (d z)) r (d z)) (x + 3) k j z'
        ∙ rw (h, f) (ap (λ a. hang v x (store a o (x + 3) k j z')) (fork_made t d x l r i z))
        );
  }

  pub apply_commit : {t₁ t' : Shapes} {c : ℕ} {a z : Node} (m x : ℕ) (p : Option ℕ) (b : ℕ) (g : Option ℕ) (w : ℕ) → e ≡ Commit m x p b g w → a ≡ t m → z ≡ t b → c ≡ union a.container z.container
      → t₁ ≡ upd t x (base_shape Neighbour p c m) → t' ≡ upd t₁ m (committed x b g w (t₁ m)) → Applied t o u k j (effect_of e) t' o k
  apply_commit {t₁} {t'} {c} {a} {z} m x p b g w q e₁ e₂ e₃ h l = record {
    stored = λ d z'.
        let s : ℕ → ℕ = selected (t m).container (d m) (d b) in
        let f : full t₁ (upd d x s) ≡ upd (full t d) x (new_base Neighbour p (merge (full t d m).container (full t d b).container) m) = rw (h, e₃, e₁, e₂) (union_made t d x p m b) in
        rw (q, l) (
        ap (λ v. store v o (x + 1) k j z') (full_same t₁ (upd d x s) m (committed x b g w (t₁ m)))
        ∙ ap (λ v. store (upd v m (over (committed x b g w) (v m))) o (x + 1) k j z') f
        ∙ rw add-one
        );
  }

-- ---- a new range base, with the container c of node z
module _ (t : Shapes) (o u : ℕ) (k : Stores) (j : ℕ) where
  pub apply_ask : {t₁ t' : Shapes} {y c : ℕ} (v : Spot) (x : ℕ) (p : Option ℕ) (z l h i : ℕ) (new : Bool) → c ≡ (t z).container → t₁ ≡ upd t x (range_shape p c l h i)
      → Hung t₁ o v x t' y → Applied t o u k j (Ask v x p z l h i new) t' y k
  apply_ask {t₁} {t'} {y} {c} v x p z l h i new f g r = record {
    stored = λ d z'.
        r (upd d x (d z)) (x + 1) k (cond new (i + 1) j) z'
        ∙ rw (g, f) (ap (λ a. hang v x (store a o (x + 1) k (cond new (i + 1) j) z')) (range_made t d x p z l h i) ∙ rw (add-one x, add-one i));
  }

-- the stores shown after it
pub shown_fresh : (new : Bool) (k j : ℕ) → new ≡ true → k + 1 ≡ cond new (k + 1) j
shown_fresh new k j n = rw n

-- ---- the depths of a new base, where n numbers hold them: d₁ are those between
module _ (d : Rows) (x n : ℕ) {c : Content} {d' : Rows} where
  pub lay_same : (y : ℕ) → c ≡ Of y → (Holds n (x + 1) → d' ≡ upd d x (d y)) → Holds n (x + 1) → d' ≡ upd d x (depths_of c d)
  lay_same y q f h = rw q (f h)

  pub lay_with : {d₁ : Rows} {m : ℕ} (y s v : ℕ) → c ≡ With y s v → m ≡ n → (Holds n (x + 1) → d₁ ≡ upd d x (d y))
      → (Holds m (x + 1) → d' ≡ upd d₁ x (changed (d₁ x) s v)) → Holds n (x + 1) → d' ≡ upd d x (depths_of c d)
  lay_with y s v q e f g h = rw q (g (rw e h) ∙ rw (f h, upd_at d x (d y)) (upd_again d x (d y) (changed (d y) s v)))

  pub lay_without : (y s : ℕ) → c ≡ Without y s → (Holds n (x + 1) → d' ≡ upd d x (d y)) → Holds n (x + 1) → d' ≡ upd d x (depths_of c d)
  lay_without y s q f h = rw q (f h)

-- ---- on the depths, where n numbers hold those of the new nodes: d₁ and d₂ are those between, d' those after it
module _ (t : Shapes) (d : Rows) {e : Write} where
  pub deepen_quiet : e ≡ Quiet → d ≡ deepened (effect_of e) t d
  deepen_quiet q = rw q

  pub deepen_mark : (r : ℕ) (l : Option ℕ) → e ≡ Mark r l → d ≡ deepened (effect_of e) t d
  deepen_mark r l q = rw q

  pub deepen_settle : (m : ℕ) (s : Stage) → e ≡ Settle m s → d ≡ deepened (effect_of e) t d
  deepen_settle m s q = rw q

  pub deepen_invalid : (r : ℕ) → e ≡ Invalid r → d ≡ deepened (effect_of e) t d
  deepen_invalid r q = rw q

  pub deepen_swing : (v : Spot) (x : ℕ) → e ≡ Swing v x → d ≡ deepened (effect_of e) t d
  deepen_swing v x q = rw q

  module _ (n : ℕ) where
    pub deepen_base : {d' : Rows} (v : Spot) (x : ℕ) (k : Kind) (p : Option ℕ) (c : Content) (m : ℕ) → e ≡ Base v x k p c m → (Holds n (x + 1) → d' ≡ upd d x (depths_of c d))
        → within (effect_of e) n → d' ≡ deepened (effect_of e) t d
    deepen_base v x k p c m q f h = rw q (f (rw q at h))

    pub deepen_fork : {d₁ d₂ d' : Rows} {n₁ n₂ : ℕ} (v : Spot) (x l r k y : ℕ) → e ≡ Fork v x l r k y → n₁ ≡ n → n₂ ≡ n
        → (Holds n (x + 1) → d₁ ≡ upd d x (d y)) → (Holds n₁ (l + 1) → d₂ ≡ upd d₁ l (d₁ y)) → (Holds n₂ (r + 1) → d' ≡ upd d₂ r (d₂ y)) → within (effect_of e) n → d' ≡ deepened (effect_of e) t d
    deepen_fork {d₁} {d₂} {d'} {n₁} {n₂} v x l r k y q e₁ e₂ g₁ g₂ g₃ h =
        let i : Holds n (x + 1) × (Holds n (l + 1) × Holds n (r + 1)) = rw q at h in
        let f₁ : d₁ ≡ upd d x (d y) = g₁ i.0 in
        let f₂ : d₂ ≡ upd d₁ l (d₁ y) = g₂ (rw e₁ i.1.0) in
        let f₃ : d' ≡ upd d₂ r (d₂ y) = g₃ (rw e₂ i.1.1) in
        let h₁ : d₁ y ≡ d y = rw f₁ (upd_own d x y) in
        let h₂ : d₂ y ≡ d y = rw f₂ (upd_own d₁ l y ∙ h₁) in
        rw q (f₃ ∙ rw (h₂, f₂, h₁, f₁))

    pub deepen_commit : {d' : Rows} {a : Node} (m x : ℕ) (p : Option ℕ) (b : ℕ) (g : Option ℕ) (w : ℕ) → e ≡ Commit m x p b g w → a ≡ t m
        → (Holds n (x + 1) → d' ≡ upd d x (selected a.container (d m) (d b))) → within (effect_of e) n → d' ≡ deepened (effect_of e) t d
    deepen_commit m x p b g w q i f h = rw q (f (rw q at h) ∙ rw i)

pub ruleset hang_cases = (hang_root, hang_under)

pub ruleset set_cases = (set_same, set_with, set_without)

pub ruleset used_cases = (used_base, used_fork, used_commit)

pub ruleset apply_cases = (apply_quiet, apply_mark, apply_settle, apply_invalid, apply_swing, apply_base, apply_fork, apply_commit)

pub ruleset lay_cases = (lay_same, lay_with, lay_without)

pub ruleset deepen_cases = (deepen_quiet, deepen_mark, deepen_settle, deepen_invalid, deepen_swing, deepen_base, deepen_fork, deepen_commit)
