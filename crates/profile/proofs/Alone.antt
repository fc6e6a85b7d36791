-- What the memory invariant gives where nothing else is pending: reachable bases are replaceable and hang on their parent, live routes bear no mark,
-- and the walk of 31 and 32 ends at the parent.
use Rattle.std.specs.Prelude.{Option, Some, None}
use mathlib.Core.Path.{◌≡◌, refl, sym, ◌∙◌, subst}
use mathlib.Core.Logic.{◌≢◌, ◌⊎◌, inl, inr}
use mathlib.Core.Bool.{Bool, true, false, cond}
use Prim.Native.Nat.{ℕ, ◌<◌, ◌≤◌}
use native.Mathlib.Omega.{arith}
use lib.Dec.{ltb}
use borrow.Author.Tests.{ltb-true, ltb-false}
use Rattle.definitions.specs.declared.Kind.{Kind}
use Rattle.definitions.specs.declared.Kind.TheVariants.{Normal, Route, Main, Neighbour, Range}
use Rattle.definitions.specs.declared.Stage.TheVariants.{Done}
use Rattle.definitions.specs.declared.Spot.{Spot}
use Rattle.definitions.specs.declared.Spot.TheVariants.{Root, Under}
use Rattle.definitions.specs.Nodes.{Nodes, shape, is_route, check_as, is_replaceable, check, replaceable}
use Rattle.answers.proofs.Tools.{on, off, test, ◌==?◌, clash}
use Rattle.answers.proofs.Memory.{kid_at, World, Hist, Live, Dead, Born, lives, alive, kind_of, IsBase, key_of, kid, Phase, before, swung, cut, Joint, Pending, Mem}
use Rattle.profile.proofs.Tidy.{Tidy}

-- where base x hangs
abbrev pub At : Nodes → ℕ → ℕ → Spot → ℕ → Type 0
At n root u Root x = ((n x).parent ≡ None) × (root ≡ x)
At n root u (Under p f) x = ((n x).parent ≡ Some p) × (kid_at f (n p) ≡ x) × (p < u)

module _ {w : World} {hist : Hist} (mem : Mem w hist) where
  -- a done main's parent is dead
  done_dead : (m r : ℕ) → kind_of w m ≡ Main → Born w m → (w.nodes m).stage ≡ Done → (w.nodes m).parent ≡ Some r → Dead w r
  done_dead m r k bo e p = let (P, R, d, j) = mem.mains.joint m k bo (inr e) in go P R d j j.phase
    where
      go : (P R : ℕ) (d : Bool) → Joint w hist m P R d → Phase w hist m P R d → Dead w r
      go P R d j (before c _ _ _ _ _ _ _) = absurd (clash (cc))
      go P R d j (swung c _ _ _ _ _ _ _ _ _) = absurd (clash (cc))
      go P R d j (cut _ dp _ _ _) = let z : P ≡ r = (let v = j.parent in cc) in subst (Dead w) z dp

  module _ (t : Tidy w.nodes w.used None None) where
    main_done : (m : ℕ) → kind_of w m ≡ Main → (w.nodes m).stage ≡ Done
    main_done m k = go (t.mains m k).1
      where
        go : (◌≡◌ {A = Option ℕ} None (Some m)) ⊎ ((w.nodes m).stage ≡ Done) → (w.nodes m).stage ≡ Done
        go (inl e) = absurd (clash (cc))
        go (inr e) = e

    pub up_parent : (x : ℕ) → IsBase w x → Live w x → w.up x ≡ (w.nodes x).parent
    up_parent x ib l = go (mem.bases.up x ib l)
      where
        go : (w.up x ≡ (w.nodes x).parent) ⊎ ((m P : ℕ) × Pending w x m P) → w.up x ≡ (w.nodes x).parent
        go (inl e) = e
        go (inr (m, P, p)) = let (k, _) = mem.neighbours.main x p.kind (lives l) in let k' : kind_of w m ≡ Main = rw p.main at k in
            let e = main_done m k' in absurd (clash (let a = p.stage in cc))

    not_main : (x : ℕ) → Live w x → kind_of w x ≡ Main → ⊥
    not_main x l k = go (w.nodes x).parent refl
      where
        ib : IsBase w x
        ib e = clash (cc)

        go : (p : Option ℕ) → (w.nodes x).parent ≡ p → ⊥
        go None e = let (P, R, d, j) = mem.mains.joint x k (lives l) (inr (main_done x k)) in clash (let a = j.parent in cc)
        go (Some p) e = alive (mem.shape.child x p l (up_parent x ib l ∙ e)).0 (done_dead x p k (lives l) (main_done x k) e)

    pub base_ready : (x : ℕ) → IsBase w x → Live w x → replaceable (λ z. shape (w.nodes z)) w.stores x ≡ true
    unfolding replaceable check
    base_ready x ib l = go (kind_of w x) refl
      where
        go : (k : Kind) → kind_of w x ≡ k → is_replaceable (check_as k (λ z. shape (w.nodes z)) w.stores x) ≡ true
        go Normal e = refl
        go Route e = absurd (ib e)
        go Main e = absurd (not_main x l e)
        go Neighbour e = rw (main_done (w.nodes x).main (mem.neighbours.main x e (lives l)).0)
        go Range e = absurd (t.rangeless x e)

    pub base_hangs : (x : ℕ) → IsBase w x → Live w x → (v : Spot) × At w.nodes w.root w.used v x
    base_hangs x ib l = go (w.nodes x).parent refl
      where
        go : (p : Option ℕ) → (w.nodes x).parent ≡ p → (v : Spot) × At w.nodes w.root w.used v x
        go None e = (Root, (e, sym (mem.shape.top x l (up_parent x ib l ∙ e))))
        go (Some p) e = let (lp, _, d, q) = mem.shape.child x p l (up_parent x ib l ∙ e) in (Under p d, (e, q, mem.shape.low p (lives lp)))

  -- a live route bears no mark but that of l
  pub unmarked : {l : Option ℕ} (t : Tidy w.nodes w.used l None) (r : ℕ) → kind_of w r ≡ Route → Live w r → ((m : ℕ) → l ≡ Some m → (w.nodes r).mark ≢ Some m) → (w.nodes r).mark ≡ None
  unmarked {l} t r k lr h = go (w.nodes r).mark refl
    where
      not_done : (m : ℕ) → (w.nodes r).mark ≡ Some m → kind_of w m ≡ Main → ((w.nodes m).parent ≡ Some r) ⊎ ((l ≡ Some m) × (◌≡◌ {A = Option ℕ} None (Some r)))
          → (l ≡ Some m) ⊎ ((w.nodes m).stage ≡ Done) → ⊥
      not_done m e km (inr (_, z)) _ = clash (cc)
      not_done m e km (inl p) (inl z) = h m z e
      not_done m e km (inl p) (inr z) = alive lr (done_dead m r km (mem.marks.main r m k (lives lr) e).1 z p)

      go : (v : Option ℕ) → (w.nodes r).mark ≡ v → (w.nodes r).mark ≡ None
      go None e = e
      go (Some m) e = let (km, o) = t.marks r m e in absurd (not_done m e km o (t.mains m km).1)

  -- ---- 31, 32: down by the key of the live route P, with that key strictly inside

  module _ (P : ℕ) (kp : kind_of w P ≡ Route) (lp : Live w P) where
    abbrev Inside : ℕ → Type 0
    Inside x = (w.lo x < key_of w P) × (key_of w P < w.hi x)

    kind_is : (x : ℕ) → Live w x → Inside x → is_route (kind_of w x) ≡ true
    kind_is x l i = elim (test (is_route (kind_of w x))) [
      | on e ↦ e
      | off e ↦ absurd (elim (mem.sep.base P x kp lp (λ z. clash (let v : is_route Route ≡ false = rw z at e in cc)) l) [ inl o ↦ omega (arith, i) | inr o ↦ omega (arith, i) ])
    ]

    pub top_inside : Inside w.root
    top_inside = let k = mem.routes.key P kp (lives lp) in let r = mem.shape.range P (lives lp) in omega (arith, mem.shape.root_lo, mem.shape.root_hi)

    pub top_route : is_route (kind_of w w.root) ≡ true
    top_route = kind_is w.root mem.shape.root_live top_inside

    above : (x : ℕ) → Live w x → x ≢ P → Inside x → x < P
    above x l h i = elim (test (ltb x P)) [
      | on e ↦ ltb-true _ _ e
      | off e ↦ absurd (let o = ltb-false _ _ e in let z : P < x = more o h in elim (mem.sep.young P x kp lp (lives l) z) [ inl a ↦ omega (arith, i) | inr a ↦ omega (arith, i) ])
    ]
      where
        more : P ≤ x → x ≢ P → P < x
        more a b = elim (x ==? P) [ yes e ↦ absurd (b e) | no e ↦ omega (arith) ]

    pub below : (x : ℕ) → kind_of w x ≡ Route → Live w x → x ≢ P → Inside x
        → (is_route (kind_of w (kid w (ltb (key_of w P) (key_of w x)) x)) ≡ true) × Inside (kid w (ltb (key_of w P) (key_of w x)) x)
    below x k l h i = (kind_is _ (mem.routes.live_kid x side k l) inside, inside)
      where
        side : Bool
        side = ltb (key_of w P) (key_of w x)

        apart : key_of w x ≢ key_of w P
        apart e = let (a, b) = mem.routes.key P kp (lives lp) in elim (mem.sep.young x P k l (lives lp) (above x l h i)) [ inl o ↦ omega arith | inr o ↦ omega arith ]

        go : (d : Bool) (a b : ℕ) → side ≡ d → a ≡ cond d (w.lo x) (key_of w x) → b ≡ cond d (key_of w x) (w.hi x) → (a < key_of w P) × (key_of w P < b)
        go true a b e p q = omega (arith, i, ltb-true (key_of w P) (key_of w x) e)
        go false a b e p q = elim (key_of w x ==? key_of w P) [ yes z ↦ absurd (apart z) | no z ↦ omega (arith, i, ltb-false (key_of w P) (key_of w x) e) ]

        inside : Inside (kid w (ltb (key_of w P) (key_of w x)) x)
        inside = go side _ _ refl (mem.routes.live_lo x side k l) (mem.routes.live_hi x side k l)
