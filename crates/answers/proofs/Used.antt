-- What every step keeps: at most 256 numbers are used and at most 64 stores shown, for whatever takes one stands under a test for room
-- (01: refusal 13; 02 b: refusal 16), and two bases follow each route. It rests on Gaps.antt and StepEffects.antt; UsedRun.antt goes on to every run.
use mathlib.Core.Path.{refl}
use mathlib.Core.Logic.{◌≢◌}
use native.Mathlib.Omega.{arith}
use Prim.Native.Nat.{suc, ◌+◌}
use Rattle.definitions.specs.Bench.{Store, sight_of}
use Rattle.definitions.specs.Threads.{Thread, Turn}
use Rattle.definitions.specs.Places.{Place}
use Rattle.definitions.specs.Effects.{perform}
use Rattle.definitions.specs.Steps.{step}
use Rattle.definitions.specs.declared.Kind.TheVariants.{Route, Neighbour, Range}
use Rattle.answers.proofs.Tools.{clash}
use Rattle.answers.proofs.Gaps.{Fits, write_fits, hang_fits, push_fits, fork_fits}
use Rattle.answers.proofs.StepEffects.{Allowed, Each, each}

abbrev pub Few : Store → Turn → Type 0
Few s o = Each (λ e. Fits (perform e s)) o

neighbour : Neighbour ≢ Route
neighbour e = clash (cc)

range : Range ≢ Route
range e = clash (cc)

fits : (s : Store) (p : Place) (th : Thread) → Fits s → Allowed s p th (λ e. Fits (perform e s))
fits s p th h = record {
  quiet = h;
  raise = h;
  lower = h;
  mark = λ r l. write_fits s.nodes s.used s.shown r _ refl h;
  settle = λ m v. write_fits s.nodes s.used s.shown m _ refl h;
  void = λ r. write_fits s.nodes s.used s.shown r _ refl h;
  swing = λ v x. hang_fits v x s h;
  fill = λ k c. h;
  base = λ v k l c m i g. hang_fits v s.used _ (push_fits s.nodes s.used s.shown s.shown _ g h.stores i h);
  fork = λ v q e a g. hang_fits v s.used _ (fork_fits s.nodes s.used s.shown (s.used + 1) (s.used + 2) _ (s.nodes th.base).container refl refl g h);
  commit = λ m l n gp o g. write_fits _ _ _ m _ refl (push_fits s.nodes s.used s.shown s.shown _ g h.stores neighbour h);
  ask_old = λ v l y a u k g. hang_fits v s.used _ (push_fits s.nodes s.used s.shown s.shown _ g h.stores range h);
  ask_new = λ v l y a u g k. hang_fits v s.used _ (push_fits s.nodes s.used s.shown (suc s.shown) _ g (omega arith) range h);
}

pub step_few : (s : Store) → Fits s → (p : Place) (th : Thread) → Few s (step p (sight_of s) th)
step_few s h p th = each s p th _ (fits s p th h)
