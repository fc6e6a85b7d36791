-- A node that has its number keeps its kind: no step changes a kind, and new nodes have new numbers. It rests on answers/proofs/StepEffects.antt.
use Rattle.std.specs.Prelude.{Option}
use mathlib.Core.Path.{◌≡◌, refl, ◌∙◌}
use mathlib.Core.Bool.{Bool, true, false, cond}
use Prim.Native.Nat.{ℕ, suc, ◌+◌, ◌<◌}
use native.Mathlib.Omega.{arith}
use borrow.Author.Tests.{ne_eqb}
use Rattle.container.specs.Choice.{upd}
use Rattle.container.specs.Depths.{Container, merge}
use Rattle.definitions.specs.declared.Kind.{Kind}
use Rattle.definitions.specs.declared.Kind.TheVariants.{Neighbour}
use Rattle.definitions.specs.declared.Content.{Content}
use Rattle.definitions.specs.declared.Effect.{Effect}
use Rattle.definitions.specs.declared.Spot.{Spot}
use Rattle.definitions.specs.declared.Spot.TheVariants.{Root, Under}
use Rattle.definitions.specs.Nodes.{Nodes, Entry, new_base, new_range}
use Rattle.definitions.specs.Bench.{Store, store}
use Rattle.definitions.specs.Threads.{Thread}
use Rattle.definitions.specs.Places.{Place}
use Rattle.definitions.specs.Effects.{hang, push, content_of, forked, perform}
use Rattle.answers.proofs.Gaps.{kind_keeps}
use Rattle.answers.proofs.StepEffects.{Allowed}

abbrev pub Alike : Store → Effect → Type 0
Alike s e = (y : ℕ) → y < s.used → ((perform e s).nodes y).kind ≡ (s.nodes y).kind

hung : (v : Spot) (s s' : Store) (x y : ℕ) → (s'.nodes y).kind ≡ (s.nodes y).kind → ((hang v x s').nodes y).kind ≡ (s.nodes y).kind
hung Root s s' x y e = e
hung (Under r d) s s' x y e = kind_keeps s'.nodes r y _ refl ∙ e

new_kind : (n : Nodes) (u y : ℕ) (v : Entry) → y < u → (upd n u v y).kind ≡ (n y).kind
new_kind n u y v l = rw (ne_eqb y u (λ z. omega arith))

module _ (s : Store) where
  -- the stores with what an effect makes, before it is hung
  abbrev pub based : Kind → Option ℕ → Content → ℕ → Store
  based k l c m = push s.used (new_base k l (content_of c s.nodes) m) s

  abbrev pub trio : ℕ → Container → Store
  trio k c = store (forked s.used (s.used + 1) (s.used + 2) k c s.nodes) s.root (s.used + 3) s.stores s.shown s.stop

  abbrev pub united : Option ℕ → ℕ → ℕ → Store
  united l m n = push s.used (new_base Neighbour l (merge (s.nodes m).container (s.nodes n).container) m) s

  abbrev pub ranged : Option ℕ → ℕ → ℕ → ℕ → ℕ → Bool → Store
  ranged l x a u k new = store (upd s.nodes s.used (new_range l (s.nodes x).container a u k)) s.root (suc s.used) s.stores (cond new (suc k) s.shown) s.stop

  trio_kind : (k : ℕ) (c : Container) (y : ℕ) → y < s.used → ((trio k c).nodes y).kind ≡ (s.nodes y).kind
  trio_kind k c y h = rw (ne_eqb y (s.used + 2) (λ z. omega arith), ne_eqb y (s.used + 1) (λ z. omega arith), ne_eqb y s.used (λ z. omega arith))

  pub kinds : (p : Place) (th : Thread) → Allowed s p th (Alike s)
  kinds p th = record {
    quiet = λ y _. refl;
    raise = λ y _. refl;
    lower = λ y _. refl;
    mark = λ r l y _. kind_keeps s.nodes r y _ refl;
    settle = λ m v y _. kind_keeps s.nodes m y _ refl;
    void = λ r y _. kind_keeps s.nodes r y _ refl;
    swing = λ v x y _. hung v s s x y refl;
    fill = λ k c y _. refl;
    base = λ v k l c m _ _ y h. hung v s (based k l c m) s.used y (new_kind s.nodes s.used y _ h);
    fork = λ v q _ _ _ y h. hung v s (trio _ _) s.used y (trio_kind _ _ y h);
    commit = λ m l n g o _ y h. kind_keeps (united l m n).nodes m y _ refl ∙ new_kind s.nodes s.used y _ h;
    ask_old = λ v l x a u k _ y h. hung v s (ranged l x a u k false) s.used y (new_kind s.nodes s.used y _ h);
    ask_new = λ v l x a u _ _ y h. hung v s (ranged l x a u s.shown true) s.used y (new_kind s.nodes s.used y _ h);
  }
