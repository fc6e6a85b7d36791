-- What one writer leaves behind it, of the node table alone and with no ghost (`Tidy`), and that each effect keeps it.
use Rattle.std.specs.Prelude.{Option, Some, None}
use mathlib.Core.Path.{◌≡◌, refl, sym, ◌∙◌, ap}
use mathlib.Core.Logic.{◌≢◌, ◌⊎◌, inl, inr}
use Prim.Native.Nat.{ℕ, suc, ◌<◌, ◌≤◌}
use native.Mathlib.Omega.{arith}
use borrow.Author.Tests.{eq-eqb, ne_eqb}
use Rattle.container.specs.Choice.{upd}
use Rattle.definitions.specs.declared.Kind.TheVariants.{Main, Range}
use Rattle.definitions.specs.declared.Stage.TheVariants.{Aborted, Done}
use Rattle.definitions.specs.declared.Spot.{Spot}
use Rattle.definitions.specs.declared.Spot.TheVariants.{Root, Under}
use Rattle.definitions.specs.Nodes.{Nodes, Entry, over, with_mark}
use Rattle.definitions.specs.Bench.{Store}
use Rattle.definitions.specs.Effects.{hang}
use Rattle.answers.proofs.Tools.{◌==?◌, clash}

-- every main but l is done; a join mark is that of a route's own main, or l's on its grandparent g; no main is aborted;
-- there is no range base
pub record Tidy (n : Nodes) (u : ℕ) (l g : Option ℕ) : Type 0 where
  pub mains : (x : ℕ) → (n x).kind ≡ Main → (x < u) × ((l ≡ Some x) ⊎ ((n x).stage ≡ Done))
  pub marks : (r m : ℕ) → (n r).mark ≡ Some m → ((n m).kind ≡ Main) × (((n m).parent ≡ Some r) ⊎ ((l ≡ Some m) × (g ≡ Some r)))
  pub upright : (x : ℕ) → (n x).stage ≢ Aborted
  pub rangeless : (x : ℕ) → (n x).kind ≢ Range

-- nothing pending
abbrev pub Quiet : Store → Type 0
Quiet s = Tidy s.nodes s.used None None

-- ---- one entry replaced

pub at_same : (n : Nodes) (i : ℕ) (v : Entry) → upd n i v i ≡ v
at_same n i v = rw (eq-eqb i i refl)

pub at_other_lem : (n : Nodes) (i x : ℕ) (v : Entry) → x ≢ i → upd n i v x ≡ n x
at_other_lem n i x v h = rw (ne_eqb x i h)

-- what Tidy reads of a node
pub record Alike (v v' : Entry) : Type 0 where
  pub kind : v.kind ≡ v'.kind
  pub mark : v.mark ≡ v'.mark
  pub parent : v.parent ≡ v'.parent
  pub stage : v.stage ≡ v'.stage

pub tidy_alike : {n n' : Nodes} {u : ℕ} {l g : Option ℕ} → ((x : ℕ) → Alike (n' x) (n x)) → Tidy n u l g → Tidy n' u l g
tidy_alike {n} {n'} {u} {l} {g} a t = record {
  mains = λ x e. let (i, o) = t.mains x (sym (a x).kind ∙ e) in (i, rw (a x).stage o);
  marks = λ r m e. let (i, o) = t.marks r m (sym (a r).mark ∙ e) in ((a m).kind ∙ i, rw (a m).parent o);
  upright = λ x e. t.upright x (sym (a x).stage ∙ e);
  rangeless = λ x e. t.rangeless x (sym (a x).kind ∙ e);
}

pub alike_upd : (n : Nodes) (i : ℕ) (v : Entry) → Alike v (n i) → (x : ℕ) → Alike (upd n i v x) (n x)
alike_upd n i v a x = elim (x ==? i) [
  | yes e ↦ rw (eq-eqb x i e, e) a
  | no e ↦ rw (ne_eqb x i e) (record { kind = refl; mark = refl; parent = refl; stage = refl })
]

pub alike_self : (v : Entry) → Alike v v
alike_self v = record { kind = refl; mark = refl; parent = refl; stage = refl }

pub alike_hang : (v : Spot) (c : ℕ) (s : Store) (x : ℕ) → Alike ((hang v c s).nodes x) (s.nodes x)
alike_hang Root c s x = alike_self (s.nodes x)
alike_hang (Under r d) c s x = alike_upd s.nodes r _ (record { kind = refl; mark = refl; parent = refl; stage = refl }) x

pub used_hang : (v : Spot) (c : ℕ) (s : Store) → (hang v c s).used ≡ s.used
used_hang Root c s = refl
used_hang (Under r d) c s = refl

pub tidy_hang : (v : Spot) (c : ℕ) (s : Store) {l g : Option ℕ} → Tidy s.nodes s.used l g → Tidy (hang v c s).nodes (hang v c s).used l g
tidy_hang v c s t = rw (used_hang v c s) (tidy_alike (alike_hang v c s) t)

-- ---- a number not used before

module _ {n : Nodes} {u : ℕ} {l g : Option ℕ} (t : Tidy n u l g) where
  pub tidy_used : (u' : ℕ) → u ≤ u' → Tidy n u' l g
  tidy_used u' h = record { mains = λ x e. let (i, o) = t.mains x e in (omega arith, o); marks = t.marks; upright = t.upright; rangeless = t.rangeless }

  old : (i x : ℕ) → u ≤ i → (n x).kind ≡ Main → x ≢ i
  old i x h e z = let (o, _) = t.mains x e in omega arith

  pub tidy_fill : (i : ℕ) (v : Entry) → u ≤ i → v.kind ≢ Main → v.mark ≡ None → v.stage ≢ Aborted → v.kind ≢ Range → Tidy (upd n i v) u l g
  tidy_fill i v h k m a ra = record {
    mains = λ x. elim (x ==? i) [ yes e ↦ rw (eq-eqb x i e) (λ z. absurd (k z)) | no e ↦ rw (ne_eqb x i e) (t.mains x) ];
    marks = λ r m'. elim (r ==? i) [
      | yes e ↦ rw (eq-eqb r i e) (λ z. absurd (clash (cc)))
      | no e ↦ rw (ne_eqb r i e) (λ z. let o = t.marks r m' z in rw (ne_eqb m' i (old i m' h o.0)) o)
    ];
    upright = λ x. elim (x ==? i) [ yes e ↦ rw (eq-eqb x i e) a | no e ↦ rw (ne_eqb x i e) (t.upright x) ];
    rangeless = λ x. elim (x ==? i) [ yes e ↦ rw (eq-eqb x i e) ra | no e ↦ rw (ne_eqb x i e) (t.rangeless x) ];
  }

-- 25: a new main
pub tidy_main : {n : Nodes} {u : ℕ} → Tidy n u None None → (v : Entry) → v.mark ≡ None → v.stage ≢ Aborted → v.kind ≢ Range → Tidy (upd n u v) (suc u) (Some u) None
tidy_main {n} {u} t v m a ra = record {
  mains = λ x. elim (x ==? u) [
    | yes e ↦ rw (eq-eqb x u e) (λ _. (omega arith, inl (ap Some (sym e))))
    | no e ↦ rw (ne_eqb x u e) (λ z. let (i, o) = t.mains x z in (omega arith, inr (only x o)))
  ];
  marks = λ r m'. elim (r ==? u) [
    | yes e ↦ rw (eq-eqb r u e) (λ z. absurd (clash (cc)))
    | no e ↦ rw (ne_eqb r u e) (λ z. let o = t.marks r m' z in rw (ne_eqb m' u (old t u m' (omega arith) o.0)) (o.0, its r m' o.1))
  ];
  upright = λ x. elim (x ==? u) [ yes e ↦ rw (eq-eqb x u e) a | no e ↦ rw (ne_eqb x u e) (t.upright x) ];
  rangeless = λ x. elim (x ==? u) [ yes e ↦ rw (eq-eqb x u e) ra | no e ↦ rw (ne_eqb x u e) (t.rangeless x) ];
}
  where
    only : (x : ℕ) → (◌≡◌ {A = Option ℕ} None (Some x)) ⊎ ((n x).stage ≡ Done) → (n x).stage ≡ Done
    only x (inl e) = absurd (clash (cc))
    only x (inr e) = e

    its : (r m' : ℕ) → ((n m').parent ≡ Some r) ⊎ ((◌≡◌ {A = Option ℕ} None (Some m')) × (◌≡◌ {A = Option ℕ} None (Some r)))
        → ((n m').parent ≡ Some r) ⊎ ((◌≡◌ {A = Option ℕ} (Some u) (Some m')) × (◌≡◌ {A = Option ℕ} None (Some r)))
    its r m' (inl e) = inl e
    its r m' (inr (e, _)) = absurd (clash (cc))

-- no mark names it
pub new_unmarked : {n : Nodes} {u : ℕ} → Tidy n u None None → (v : Entry) → v.mark ≡ None → (r : ℕ) → (upd n u v r).mark ≢ Some u
new_unmarked {n} {u} t v m r = elim (r ==? u) [
  | yes e ↦ rw (eq-eqb r u e) (λ z. clash (cc))
  | no e ↦ rw (ne_eqb r u e) (λ z. let o = t.mains u (t.marks r u z).0 in omega (arith, o.0))
]

-- ---- marks

module _ (n : Nodes) (u m : ℕ) (km : (n m).kind ≡ Main) (r : ℕ) where
  fields : (k : Option ℕ) (x : ℕ) → ((upd n r (over (with_mark k) (n r)) x).kind ≡ (n x).kind) × ((upd n r (over (with_mark k) (n r)) x).parent ≡ (n x).parent)
      × ((upd n r (over (with_mark k) (n r)) x).stage ≡ (n x).stage)
  fields k x = elim (x ==? r) [ yes e ↦ rw (eq-eqb x r e, e) (refl, refl, refl) | no e ↦ rw (ne_eqb x r e) (refl, refl, refl) ]

  remark : (k : Option ℕ) {g g' : Option ℕ} → Tidy n u (Some m) g
      → ((r' m' : ℕ) → (upd n r (over (with_mark k) (n r)) r').mark ≡ Some m' → ((n m').kind ≡ Main) × (((n m').parent ≡ Some r') ⊎ ((◌≡◌ {A = Option ℕ} (Some m) (Some m')) × (g' ≡ Some r'))))
      → Tidy (upd n r (over (with_mark k) (n r))) u (Some m) g'
  remark k t f = record {
    mains = λ x e. let (a, _, c) = fields k x in let (i, o) = t.mains x (sym a ∙ e) in (i, rw c o);
    marks = λ r' m' e. let (i, o) = f r' m' e in let (a, b, _) = fields k m' in (a ∙ i, rw b o);
    upright = λ x e. t.upright x (sym (fields k x).2 ∙ e);
    rangeless = λ x e. t.rangeless x (sym (fields k x).0 ∙ e);
  }

  -- 30: the parent's
  pub tidy_parent : Tidy n u (Some m) None → (n m).parent ≡ Some r → Tidy (upd n r (over (with_mark (Some m)) (n r))) u (Some m) None
  tidy_parent t p = remark (Some m) t (λ r' m'. elim (r' ==? r) [
    | yes e ↦ rw (eq-eqb r' r e) (λ z. let i : m ≡ m' = cc in rw (← i, e) (km, inl p))
    | no e ↦ rw (ne_eqb r' r e) (t.marks r' m')
  ])

  -- 33: the grandparent's
  pub tidy_grand : Tidy n u (Some m) None → Tidy (upd n r (over (with_mark (Some m)) (n r))) u (Some m) (Some r)
  tidy_grand t = remark (Some m) t (λ r' m'. elim (r' ==? r) [
    | yes e ↦ rw (eq-eqb r' r e) (λ z. let i : m ≡ m' = cc in (rw (← i) km, inr (z, ap Some (sym e))))
    | no e ↦ rw (ne_eqb r' r e) (λ z. let (i, o) = t.marks r' m' z in (i, own r' m' o))
  ])
    where
      own : (r' m' : ℕ) → ((n m').parent ≡ Some r') ⊎ ((◌≡◌ {A = Option ℕ} (Some m) (Some m')) × (◌≡◌ {A = Option ℕ} None (Some r')))
          → ((n m').parent ≡ Some r') ⊎ ((◌≡◌ {A = Option ℕ} (Some m) (Some m')) × (◌≡◌ {A = Option ℕ} (Some r) (Some r')))
      own r' m' (inl e) = inl e
      own r' m' (inr (_, e)) = absurd (clash (cc))

  -- 50: cleared
  pub tidy_clear : Tidy n u (Some m) (Some r) → Tidy (upd n r (over (with_mark None) (n r))) u (Some m) None
  tidy_clear t = remark None t (λ r' m'. elim (r' ==? r) [
    | yes e ↦ rw (eq-eqb r' r e) (λ z. absurd (clash (cc)))
    | no e ↦ rw (ne_eqb r' r e) (λ z. let (i, o) = t.marks r' m' z in (i, own r' m' e o))
  ])
    where
      own : (r' m' : ℕ) → r' ≢ r → ((n m').parent ≡ Some r') ⊎ ((◌≡◌ {A = Option ℕ} (Some m) (Some m')) × (◌≡◌ {A = Option ℕ} (Some r) (Some r')))
          → ((n m').parent ≡ Some r') ⊎ ((◌≡◌ {A = Option ℕ} (Some m) (Some m')) × (◌≡◌ {A = Option ℕ} None (Some r')))
      own r' m' h (inl e) = inl e
      own r' m' h (inr (_, e)) = absurd (h (cc))

-- ---- stages

-- what a stage's change leaves
pub record Staged (v v' : Entry) : Type 0 where
  pub kind : v.kind ≡ v'.kind
  pub mark : v.mark ≡ v'.mark
  pub parent : v.parent ≡ v'.parent

module _ (n : Nodes) (u m : ℕ) (v : Entry) (a : Staged v (n m)) where
  staged : (x : ℕ) → Staged (upd n m v x) (n x)
  staged x = elim (x ==? m) [ yes e ↦ rw (eq-eqb x m e, e) a | no e ↦ rw (ne_eqb x m e) (record { kind = refl; mark = refl; parent = refl }) ]

  upright_on : ((x : ℕ) → (n x).stage ≢ Aborted) → v.stage ≢ Aborted → (x : ℕ) → (upd n m v x).stage ≢ Aborted
  upright_on t h x = elim (x ==? m) [ yes e ↦ rw (eq-eqb x m e) h | no e ↦ rw (ne_eqb x m e) (t x) ]

  -- 35: the main closes
  pub tidy_close : {g : Option ℕ} → Tidy n u (Some m) g → v.stage ≢ Aborted → Tidy (upd n m v) u (Some m) g
  tidy_close {g} t h = record {
    mains = λ x. elim (x ==? m) [
      | yes e ↦ rw (eq-eqb x m e) (λ z. ((t.mains x (rw (e, ← a.kind) z)).0, inl (ap Some (sym e))))
      | no e ↦ rw (ne_eqb x m e) (t.mains x)
    ];
    marks = λ r m' e. let (i, o) = t.marks r m' (sym (staged r).mark ∙ e) in ((staged m').kind ∙ i, rw (staged m').parent o);
    upright = upright_on t.upright h;
    rangeless = λ x e. t.rangeless x (sym (staged x).kind ∙ e);
  }

  -- 51: it is done
  pub tidy_done : Tidy n u (Some m) None → v.stage ≡ Done → Tidy (upd n m v) u None None
  tidy_done t h = record {
    mains = λ x. elim (x ==? m) [
      | yes e ↦ rw (eq-eqb x m e) (λ z. ((t.mains x (rw (e, ← a.kind) z)).0, inr h))
      | no e ↦ rw (ne_eqb x m e) (λ z. let (i, o) = t.mains x z in (i, inr (other x e o)))
    ];
    marks = λ r m' e. let (i, o) = t.marks r m' (sym (staged r).mark ∙ e) in ((staged m').kind ∙ i, inl ((staged m').parent ∙ its r m' o));
    upright = upright_on t.upright (λ z. clash (cc));
    rangeless = λ x e. t.rangeless x (sym (staged x).kind ∙ e);
  }
    where
      other : (x : ℕ) → x ≢ m → (◌≡◌ {A = Option ℕ} (Some m) (Some x)) ⊎ ((n x).stage ≡ Done) → (n x).stage ≡ Done
      other x d (inl e) = absurd (d (cc))
      other x d (inr e) = e

      its : (r m' : ℕ) → ((n m').parent ≡ Some r) ⊎ ((◌≡◌ {A = Option ℕ} (Some m) (Some m')) × (◌≡◌ {A = Option ℕ} None (Some r))) → (n m').parent ≡ Some r
      its r m' (inl e) = e
      its r m' (inr (_, e)) = absurd (clash (cc))
