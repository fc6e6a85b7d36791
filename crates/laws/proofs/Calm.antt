-- A tree in which no join and no range query is under way: every reachable base is replaceable and hangs where its parent field says (`Calm`,
-- a fact of the store alone). It holds with all threads idle (request m): a main that is neither aborted nor done has a thread at 26 to 51
-- (Owners.antt), and an unset store has a query that owns it (crate answers, Counting.antt).
use Rattle.std.specs.Prelude.{Option, Some, None}
use mathlib.Core.Path.{◌≡◌, refl, sym, ◌∙◌, ap, subst}
use mathlib.Core.Logic.{◌≢◌, inl, inr}
use mathlib.Core.Bool.{Bool, true, false}
use mathlib.Core.List.{List, []}
use Prim.Native.Nat.{ℕ, zero, suc, ◌<◌, ◌≤◌, ◌/◌}
use lib.Dec.{eqb}
use borrow.Author.Tests.{eqb-true}
use Rattle.container.specs.Choice.{ite}
use Rattle.definitions.specs.declared.Kind.{Kind}
use Rattle.definitions.specs.declared.Kind.TheVariants.{Normal, Route, Main, Neighbour, Range}
use Rattle.definitions.specs.declared.Stage.{Stage}
use Rattle.definitions.specs.declared.Stage.TheVariants.{Preparing, Completing, Aborted, Done}
use Rattle.definitions.specs.declared.Check.{Check}
use Rattle.definitions.specs.Nodes.{Nodes, shape, kid_of, check_stage, check_store, check_as, check, is_replaceable, replaceable}
use Rattle.definitions.specs.Bench.{Store, Bench, fresh, sight_of}
use Rattle.definitions.specs.Effects.{recount}
use Rattle.definitions.specs.Places.{nowhere, place_of}
use Rattle.definitions.specs.Records.{Result, refused, carried}
use Rattle.definitions.specs.Schedule.{Rec, stop_of, record_at}
use Rattle.definitions.specs.Run.{Progress, advance_by, advance, after}
use Rattle.definitions.specs.Plain.{Plain, empty}
use Rattle.answers.specs.Reachable.{Reached}
use Rattle.answers.proofs.Tools.{clash}
use Rattle.answers.proofs.Memory.{World, Hist, Live, lives, kind_of, IsBase, Mem, Phase, before, swung, cut, alive, Pending}
use Rattle.answers.proofs.Descent.{reached_depth}
use Rattle.answers.proofs.ReadPlaces.{know_now}
use Rattle.answers.proofs.Owners.{Bears}
use Rattle.laws.specs.Jobs.{Reachable, begins, past, AllIdle}
use Rattle.laws.specs.Laws.{RunsReach, NoneWaits}
use Rattle.laws.proofs.OneRecord.{step_of}
use Rattle.laws.proofs.Tending.{is_over}
use Rattle.laws.proofs.Owners.{Needs, Sound, sound_next, sound_fresh, idle_tends}
use Rattle.laws.proofs.Kept.{Kept, kept_inv, kept_held, kept_next, kept_fresh}

-- ---- reachable states

-- what is known of every reachable state
pub record Known (b : Bench) : Type 0 where
  pub plain : Plain
  pub kept : Kept b plain
  pub sound : Sound b

known_fresh : (on : Bool) → Known (fresh on)
known_fresh on = record { plain = empty; kept = kept_fresh on; sound = sound_fresh on }

pub known : (b : Bench) → Reachable b → Known b
known b (begins on e) = subst Known (sym e) (known_fresh on)
known b (past c r w z e) = let k = known c z in
    record { plain = _; kept = (kept_next c b k.plain r w k.kept e).0; sound = sound_next c b r w k.sound e }

-- a refused record leaves the bench as it was
runs_on : (file : List ℕ) (p : Progress) (r : Rec) → Reachable p.bench → Reachable (advance file p r).bench
unfolding advance ite
runs_on file p r z = go (eqb p.refusal 0)
  where
    onward : (res : Result) → step_of p.bench r ≡ res → Reachable (advance_by file p (r.first / 16) res).bench
    onward (refused n) e = z
    onward (carried b' w) e = past p.bench r w z e

    go : (c : Bool) → Reachable (ite c (advance_by file p (r.first / 16) (step_of p.bench r)) p).bench
    go true = onward (step_of p.bench r) refl
    go false = z

pub runs_reach : RunsReach
unfolding after
runs_reach file zero = begins (stop_of file) refl
runs_reach file (suc k) = runs_on file (after file k) (record_at file k) (runs_reach file k)

-- ---- Calm

-- where base x hangs
pub data Hangs (s : Store) (x : ℕ) : Type 0 where
  first : (s.nodes x).parent ≡ None → s.root ≡ x → Hangs s x
  under : (r : ℕ) (f : Bool) → (s.nodes x).parent ≡ Some r → kid_of f (shape (s.nodes r)) ≡ x → Hangs s x

pub record Calm (s : Store) : Type 0 where
  pub depth : (d x lo hi : ℕ) → Reached s.nodes s.root d x lo hi → d ≤ 63
  pub free : (d x lo hi : ℕ) → Reached s.nodes s.root d x lo hi → (s.nodes x).kind ≢ Route → replaceable (sight_of s).nodes s.stores x ≡ true
  pub hangs : (d x lo hi : ℕ) → Reached s.nodes s.root d x lo hi → (s.nodes x).kind ≢ Route → Hangs s x

-- the count of the stop is no part of the tree
pub calm_counted : (c : ℕ) (s : Store) → Calm s → Calm (recount c s)
calm_counted c s h = record { depth = h.depth; free = h.free; hangs = λ d x lo hi r k. again (h.hangs d x lo hi r k) }
  where
    again : {x : ℕ} → Hangs s x → Hangs (recount c s) x
    again (first i j) = first i j
    again (under r f i j) = under r f i j

-- a main that is preparing or completing
needs_open : (n : Nodes) (x : ℕ) (v : Stage) → (n x).kind ≡ Main → (n x).stage ≡ v → is_over v ≡ false → Needs n x
needs_open n x v e i h = record { kind = e; stage = ap is_over i ∙ h }

module _ {w : World} {hist : Hist} (mem : Mem w hist) (none : (x : ℕ) → Needs w.nodes x → ⊥) (set : (S : ℕ) → S < w.shown → w.stores S ≡ None → ⊥) where
  -- a live base is where its parent field says
  live_up : (x : ℕ) → IsBase w x → Live w x → w.up x ≡ (w.nodes x).parent
  live_up x h l = elim (mem.bases.up x h l) [ inl e ↦ e | inr (m, P, p) ↦ absurd (pending m P p) ]
    where
      pending : (m P : ℕ) → Pending w x m P → ⊥
      pending m P p = let k = (mem.neighbours.main x p.kind (lives l)).0 in
          none m (needs_open w.nodes m Completing (ap (λ v. (w.nodes v).kind) (sym p.main) ∙ k) p.stage refl)

  -- a live main is not done
  not_done : (x : ℕ) → kind_of w x ≡ Main → Live w x → (w.nodes x).stage ≡ Done → ⊥
  not_done x e l i = let (P, R, d, j) = mem.mains.joint x e (lives l) (inr i) in
      let a = mem.shape.child x P l (live_up x (λ z. clash (cc)) l ∙ j.parent) in dead a.0 j.phase
    where
      dead : {P R : ℕ} {d : Bool} → Live w P → Phase w hist x P R d → ⊥
      dead a (before s _ _ _ _ _ _ _) = clash (cc)
      dead a (swung s _ _ _ _ _ _ _ _ _) = clash (cc)
      dead a (cut _ k _ _ _) = alive a k

  live_free : (x : ℕ) → IsBase w x → Live w x → replaceable (λ y. shape (w.nodes y)) w.stores x ≡ true
  unfolding check replaceable
  live_free x h l = go (w.nodes x).kind refl
    where
      stage : (v : Stage) → (w.nodes x).kind ≡ Main → (w.nodes x).stage ≡ v → is_replaceable (check_stage v x Check.Stale) ≡ true
      stage Preparing e i = absurd (none x (needs_open w.nodes x Preparing e i refl))
      stage Completing e i = absurd (none x (needs_open w.nodes x Completing e i refl))
      stage Aborted e i = refl
      stage Done e i = absurd (not_done x e l i)

      over : (v : Stage) → (w.nodes x).kind ≡ Neighbour → (w.nodes (w.nodes x).main).stage ≡ v → is_replaceable (check_stage v (w.nodes x).main Check.Replaceable) ≡ true
      over Preparing e i = absurd (none (w.nodes x).main (needs_open w.nodes (w.nodes x).main Preparing (mem.neighbours.main x e (lives l)).0 i refl))
      over Completing e i = absurd (none (w.nodes x).main (needs_open w.nodes (w.nodes x).main Completing (mem.neighbours.main x e (lives l)).0 i refl))
      over Aborted e i = refl
      over Done e i = refl

      filled : (v : Option ℕ) → w.stores (w.nodes x).store ≡ v → (w.nodes x).store < w.shown → is_replaceable (check_store v (shape (w.nodes x))) ≡ true
      filled None i h = absurd (set _ h i)
      filled (Some c) i h = refl

      go : (k : Kind) → (w.nodes x).kind ≡ k → is_replaceable (check_as k (λ y. shape (w.nodes y)) w.stores x) ≡ true
      go Normal e = refl
      go Route e = absurd (h e)
      go Main e = stage (w.nodes x).stage e refl
      go Neighbour e = over (w.nodes (w.nodes x).main).stage e refl
      go Range e = filled (w.stores (w.nodes x).store) refl (mem.tales.named x e (lives l)).0

  -- a reachable node is live, and its ghost `up` is where it was reached from
  data Above (x : ℕ) : Type 0 where
    top : w.up x ≡ None → w.root ≡ x → Above x
    below : (r : ℕ) (f : Bool) → w.up x ≡ Some r → kid_of f (shape (w.nodes r)) ≡ x → Above x

  above : (d x lo hi : ℕ) → Reached w.nodes w.root d x lo hi → Live w x × Above x
  above d x lo hi (Reached.top p q i j) = (rw q mem.shape.root_live, top (ap (λ v. w.up v) q ∙ mem.shape.root_up) (sym q))
  above d x lo hi (Reached.step e r l h f c k p q i j) = let a = (above e r l h c).0 in
      (rw q (mem.routes.live_kid r f k a), below r f (ap (λ v. w.up v) q ∙ mem.routes.live_up r f k a) (sym q))

-- the world of a bench
calm_of : (s : Store) (w : World) (hist : Hist) → w.nodes ≡ s.nodes → w.root ≡ s.root → w.stores ≡ s.stores → Mem w hist → ((x : ℕ) → Needs w.nodes x → ⊥)
    → ((S : ℕ) → S < w.shown → w.stores S ≡ None → ⊥) → Calm s
calm_of s w hist e i o mem none set = record {
  depth = λ d x lo hi c. reached_depth mem d x lo hi (rw (e, i) c);
  free = λ d x lo hi c h. rw (← e, ← o) (live_free mem none set x (λ z. h (ap (λ v. (v x).kind) (sym e) ∙ z)) (above mem none set d x lo hi (rw (e, i) c)).0);
  hangs = λ d x lo hi c h. let a = above mem none set d x lo hi (rw (e, i) c) in go x (live_up mem none set x (λ z. h (ap (λ v. (v x).kind) (sym e) ∙ z)) a.0) a.1;
}
  where
    go : (x : ℕ) → w.up x ≡ (w.nodes x).parent → Above mem none set x → Hangs s x
    go x u (top a z) = first (ap (λ v. (v x).parent) (sym e) ∙ sym u ∙ a) (sym i ∙ z)
    go x u (below r f a z) = under r f (ap (λ v. (v x).parent) (sym e) ∙ sym u ∙ a) (ap (λ v. kid_of f (shape (v r))) (sym e) ∙ z)

-- ---- with all threads idle

idle_place : (b : Bench) → Sound b → AllIdle b → (t : ℕ) → (b.threads t).place ≡ 0
idle_place b s h t = elim (s.low t) [ inl l ↦ eqb-true _ _ (h t l) | inr e ↦ e ]

-- an idle thread has no frames
idle_frames : (b : Bench) (P : Plain) (k : Kept b P) (t : ℕ) → (b.threads t).place ≡ 0 → (b.threads t).frames ≡ []
idle_frames b P k t e = (know_now (kept_inv k) t nowhere (ap place_of e)).1

-- an unset store has a query that owns it
all_set : (b : Bench) → Known b → AllIdle b → (S : ℕ) → S < b.store.shown → b.store.stores S ≡ None → ⊥
all_set b k h S l e = let (t, _, o) = k.kept.counts.owned S l e in
    subst (λ fs. Bears fs S) (idle_frames b k.plain k.kept t (idle_place b k.sound h t)) o.1

pub idle_calm : (b : Bench) → Known b → AllIdle b → Calm b.store
idle_calm b k h = calm_of b.store _ _ refl refl refl (kept_held k.kept).mem
    (λ x n. let (t, z) = k.sound.tended x n in idle_tends _ x (idle_place b k.sound h t) z) (all_set b k h)

pub none_waits : NoneWaits
none_waits b z h = (idle_calm b (known b z) h).free
