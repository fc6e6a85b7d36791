-- One number of the node table rewritten, with its mark, its valid mark or its stage: what the places with soft effects share. Assumes nothing.
use Rattle.std.specs.Prelude.{Option, Some, None}
use mathlib.Core.Path.{◌≡◌, refl, sym, ◌∙◌, ap}
use mathlib.Core.Logic.{◌≢◌, ◌⊎◌, inl}
use mathlib.Core.Bool.{Bool, true, false, not, cond, false≢true}
use Prim.Native.Nat.{ℕ, ◌<◌, ◌≤◌}
use native.Mathlib.Omega.{arith}
use lib.Dec.{ltb, eqb}
use borrow.Author.Tests.{eq-eqb, ne_eqb, ltb-true, ltb-false, eqb-true, lt-ltb, le-ltb}
use Rattle.container.specs.Choice.{upd}
use Rattle.definitions.specs.declared.Stage.{Stage}
use Rattle.definitions.specs.declared.Stage.TheVariants.{Preparing, Completing, Aborted, Done}
use Rattle.definitions.specs.Nodes.{Nodes, with_mark, with_valid, with_stage, is_preparing, over, Entry}
use Rattle.definitions.specs.Steps.{is_nil, names}
use Rattle.answers.proofs.Tools.{on, off, test, ◌==?◌}
use Rattle.answers.proofs.Memory.{World}
use Rattle.answers.proofs.SoftKnown.{Course, keeps, completes}

-- nb below u, n from u on
abbrev pub mix : Nodes → ℕ → Nodes → Nodes
mix nb u n x = cond (ltb x u) (nb x) (n x)

pub mix_low : (nb n : Nodes) (u x : ℕ) → x < u → mix nb u n x ≡ nb x
mix_low nb n u x h = rw (lt-ltb x u h)

pub mix_high : (nb n : Nodes) (u x : ℕ) → u ≤ x → mix nb u n x ≡ n x
mix_high nb n u x h = rw (le-ltb x u h)

-- one number below u rewritten
pub written : (f : Entry → Entry) (nb nb1 n' : Nodes) (u u' r : ℕ) → r < u → u ≤ u' → ((x : ℕ) → x < u → nb1 x ≡ nb x) → ((x : ℕ) → x < u' → n' x ≡ upd nb1 r (f (nb1 r)) x)
    → (x : ℕ) → cond (eqb x r) (f (mix nb u n' x)) (mix nb u n' x) ≡ n' x
written f nb nb1 n' u u' r hr hu e a x = elim (test (ltb x u)) [
  | on h ↦ (let i = ltb-true x u h in elim (x ==? r) [
    | yes q ↦ rw (eq-eqb x r q, mix_low nb n' u x i) (sym (a x (omega arith) ∙ rw (eq-eqb x r q) (ap f (ap nb1 (sym q) ∙ e x i))))
    | no q ↦ rw (ne_eqb x r q, mix_low nb n' u x i) (sym (a x (omega arith) ∙ rw (ne_eqb x r q) (e x i)))
  ])
  | off h ↦ (let i = ltb-false x u h in rw (ne_eqb x r (omega arith), mix_high nb n' u x i))
]

pub as_mark : (c : Bool) (l : Option ℕ) (v : Entry) → ◌≡◌ {A = Entry} (record {
  kind = v.kind;
  key = v.key;
  left = v.left;
  right = v.right;
  invalid = v.invalid;
  mark = cond c l v.mark;
  parent = v.parent;
  container = v.container;
  stage = v.stage;
  union = v.union;
  neighbour = v.neighbour;
  grandparent = v.grandparent;
  other = v.other;
  main = v.main;
  lower = v.lower;
  upper = v.upper;
  store = v.store;
}) (cond c (over (with_mark l) v) v)
as_mark true l v = refl
as_mark false l v = refl

pub as_valid : (c : Bool) (l : Bool) (v : Entry) → ◌≡◌ {A = Entry} (record {
  kind = v.kind;
  key = v.key;
  left = v.left;
  right = v.right;
  invalid = cond c (not l) v.invalid;
  mark = v.mark;
  parent = v.parent;
  container = v.container;
  stage = v.stage;
  union = v.union;
  neighbour = v.neighbour;
  grandparent = v.grandparent;
  other = v.other;
  main = v.main;
  lower = v.lower;
  upper = v.upper;
  store = v.store;
}) (cond c (over (with_valid l) v) v)
as_valid true l v = refl
as_valid false l v = refl

pub as_stage : (c : Bool) (l : Stage) (v : Entry) → ◌≡◌ {A = Entry} (record {
  kind = v.kind;
  key = v.key;
  left = v.left;
  right = v.right;
  invalid = v.invalid;
  mark = v.mark;
  parent = v.parent;
  container = v.container;
  stage = cond c l v.stage;
  union = v.union;
  neighbour = v.neighbour;
  grandparent = v.grandparent;
  other = v.other;
  main = v.main;
  lower = v.lower;
  upper = v.upper;
  store = v.store;
}) (cond c (over (with_stage l) v) v)
as_stage true l v = refl
as_stage false l v = refl

-- turns of the stages
pub turn_at : (w : World) (m : ℕ) (v : Stage) → Course (w.nodes m).stage v → (z : ℕ) → Course (w.nodes z).stage (upd (λ x. (w.nodes x).stage) m v z)
turn_at w m v h z = elim (z ==? m) [ yes q ↦ rw (eq-eqb z m q, q) h | no q ↦ rw (ne_eqb z m q) (keeps refl) ]

pub own_at : (w : World) (m : ℕ) (v : Stage) → v ≢ Completing → (z : ℕ) → upd (λ x. (w.nodes x).stage) m v z ≢ Completing ⊎ ((w.nodes z).stage ≡ Completing)
own_at w m v h z = elim (z ==? m) [ yes q ↦ inl (rw (eq-eqb z m q) h) | no q ↦ rw (ne_eqb z m q) (completes (w.nodes z).stage) ]

pub prep_is : (v : Stage) → is_preparing v ≡ true → v ≡ Preparing
prep_is Preparing e = refl
prep_is Completing e = absurd (false≢true e)
prep_is Aborted e = absurd (false≢true e)
prep_is Done e = absurd (false≢true e)

pub nil_is : (l : Option ℕ) → is_nil l ≡ true → l ≡ None
nil_is None e = refl
nil_is (Some x) e = absurd (false≢true e)

pub mark_is : (l : Option ℕ) (m : ℕ) → names l m ≡ true → l ≡ Some m
mark_is None m e = absurd (false≢true e)
mark_is (Some x) m e = ap Some (sym (eqb-true _ _ e))
