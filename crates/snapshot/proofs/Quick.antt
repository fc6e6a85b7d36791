-- Forms of the definitions that antt computes quickly on a written file, each with its proof that it is the definition: the first records of a
-- file, each handed the bench that the one before left, and the ranges by a walk that leaves a branch not taken alone. They are those of
-- crates/definitions/proofs/Quick.antt, which carries out whole files. And what a buffer of equal bytes holds once some are written.
use Rattle.std.specs.Prelude.{Option, Some, None}
use Prim.Native.Nat.{ℕ, zero, suc, ◌+◌, ◌-◌, ◌/◌}
use native.Mathlib.Nat.{zero-sub, sub-zero, suc-sub-suc}
use native.Mathlib.Omega.{arith}
use mathlib.Core.Path.{◌≡◌, refl, sym, ap, ◌∙◌}
use mathlib.Core.Bool.{Bool, true, false}
use mathlib.Core.List.{List, [], ◌++◌}
use lib.Dec.{eqb-suc-zero}
use lib.ListN.{length, drop, replicate}
use Rattle.container.specs.Choice.{ite, upd}
use Rattle.container.specs.Container.{all, below, from}
use Rattle.definitions.specs.Nodes.{Shapes, shape, is_route}
use Rattle.definitions.specs.Bench.{Bench, fresh}
use Rattle.definitions.specs.Records.{Result, refused, carried, record_step}
use Rattle.definitions.specs.Tree.{levels}
use Rattle.definitions.specs.Versions.{stop_of}
use Rattle.definitions.specs.Schedule.{Rec, record_at}
use Rattle.definitions.specs.Run.{Progress, row_bytes, row_count, advance_by, advance, after, overlay}
use Rattle.snapshot.specs.Layout.{reached_below}
use Rattle.snapshot.specs.State.{ranges}

abbrev progress : Bench → ℕ → ℕ → ℕ → List ℕ → Progress
progress b k d n l = record { bench = b; refusal = k; done = d; finished = n; rows = l }

abbrev step_of : Bench → Rec → Result
step_of b r = record_step b r.last r.first r.second r.extra

-- m records from record i, from where a run stands
abbrev onward : List ℕ → ℕ → ℕ → Progress → Progress
onward f i zero p = p
onward f i (suc m) p = onward f (suc i) m (advance f p (record_at f i))

onward_after : (f : List ℕ) (i m : ℕ) → onward f i m (after f i) ≡ after f (m + i)
unfolding after
onward_after f i zero = ap (after f) {x = i} {y = 0 + i} (omega arith)
onward_after f i (suc m) = onward_after f (suc i) m ∙ ap (after f) {x = m + suc i} {y = suc m + i} (omega arith)

-- a refused record ends the run
onward_refused : (f : List ℕ) (i m : ℕ) (b : Bench) (k d n : ℕ) (l : List ℕ) → onward f i m (progress b (suc k) d n l) ≡ progress b (suc k) d n l
unfolding advance ite
onward_refused f i zero b k d n l = refl
onward_refused f i (suc m) b k d n l =
    ap (λ (c : Bool). onward f (suc i) m (ite c (advance_by f (progress b (suc k) d n l) ((record_at f i).first / 16) (step_of b (record_at f i))) (progress b (suc k) d n l))) (eqb-suc-zero k)
    ∙ onward_refused f (suc i) m b k d n l

-- a record's result: what comes after it goes on from the bench that it left; t is its thread, m records come after it, from record i
abbrev on {ℓ} : {A : Type ℓ} → Result → ℕ → (Bench → ℕ → List ℕ → A) → (Progress → A) → List ℕ → ℕ → ℕ → Bench → ℕ → ℕ → List ℕ → A
on (refused zero) t more end f i m b d n l = end (onward f i m (progress b 0 d n l))
on (refused (suc k)) t more end f i m b d n l = end (progress b (suc k) d n l)
on (carried b' w) t more end f i m b d n l = more b' (row_count w + n) (l ++ row_bytes f t (b.threads t) w)

on_onward {ℓ} : {A : Type ℓ} (r : Result) (t : ℕ) (more : Bench → ℕ → List ℕ → A) (end : Progress → A) (f : List ℕ) (i m : ℕ) (b : Bench) (d n : ℕ) (l : List ℕ)
    → ((b' : Bench) (n' : ℕ) (l' : List ℕ) → more b' n' l' ≡ end (onward f i m (progress b' 0 (suc d) n' l')))
    → on r t more end f i m b d n l ≡ end (onward f i m (advance_by f (progress b 0 d n l) t r))
on_onward (refused zero) t more end f i m b d n l h = refl
on_onward (refused (suc k)) t more end f i m b d n l h = ap end (sym (onward_refused f i m b k d n l))
on_onward (carried b' w) t more end f i m b d n l h = h b' (row_count w + n) (l ++ row_bytes f t (b.threads t) w)

-- m records from record i; `end` is told where the run ends
abbrev carry {ℓ} : {A : Type ℓ} → (Progress → A) → List ℕ → ℕ → ℕ → Bench → ℕ → ℕ → List ℕ → A
carry end f i zero b d n l = end (progress b 0 d n l)
carry end f i (suc m) b d n l = on (step_of b (record_at f i)) ((record_at f i).first / 16) (λ b' n' l'. carry end f (suc i) m b' (suc d) n' l') end f (suc i) m b d n l

carry_onward {ℓ} : {A : Type ℓ} (end : Progress → A) (f : List ℕ) (i m : ℕ) (b : Bench) (d n : ℕ) (l : List ℕ)
    → carry end f i m b d n l ≡ end (onward f i m (progress b 0 d n l))
unfolding advance ite
carry_onward end f i zero b d n l = refl
carry_onward end f i (suc m) b d n l =
    on_onward (step_of b (record_at f i)) ((record_at f i).first / 16) (λ b' n' l'. carry end f (suc i) m b' (suc d) n' l') end f (suc i) m b d n l
    (λ b' n' l'. carry_onward end f (suc i) m b' (suc d) n' l')

-- the first k records of a file
abbrev pub forward {ℓ} : {A : Type ℓ} → (Progress → A) → List ℕ → ℕ → A
forward end file k = carry end file 0 k (fresh (stop_of file)) 0 0 []

pub forward_after {ℓ} : {A : Type ℓ} (end : Progress → A) (file : List ℕ) (k : ℕ) → forward end file k ≡ end (after file k)
unfolding after
forward_after end file k = carry_onward end file 0 k (fresh (stop_of file)) 0 0 [] ∙ ap end (onward_after file 0 k ∙ ap (after file) {x = k + 0} {y = k} (omega arith))

-- ---- the ranges

-- a choice between things still to be computed
abbrev pick {ℓ} : {A : Type ℓ} → Bool → (Unit {0} → A) → (Unit {0} → A) → A
pick true f g = f tt
pick false f g = g tt

pick_ite {ℓ} : {A : Type ℓ} (c : Bool) (f g : Unit {0} → A) → pick c f g ≡ ite c (f tt) (g tt)
unfolding ite
pick_ite true f g = refl
pick_ite false f g = refl

abbrev ranges_under : ℕ → Shapes → ℕ → ℕ → (ℕ → Option ℕ) → ℕ → Option ℕ
ranges_under zero n x range w = upd w x (Some range)
ranges_under (suc k) n x range w = pick (is_route (n x).kind)
    (λ _. ranges_under k n (n x).right (from (n x).key range) (ranges_under k n (n x).left (below (n x).key range) (upd w x (Some range))))
    (λ _. upd w x (Some range))

ranges_under_below : (k : ℕ) (n : Shapes) (x range : ℕ) (w : ℕ → Option ℕ) → ranges_under k n x range w ≡ reached_below k n x range w
unfolding reached_below
ranges_under_below zero n x range w = refl
ranges_under_below (suc k) n x range w =
    pick_ite (is_route (n x).kind) _ _
    ∙ ap (λ (v : ℕ → Option ℕ). ite (is_route (n x).kind) v (upd w x (Some range)))
    (ranges_under_below k n (n x).right (from (n x).key range) (ranges_under k n (n x).left (below (n x).key range) (upd w x (Some range)))
    ∙ ap (λ (v : ℕ → Option ℕ). reached_below k n (n x).right (from (n x).key range) v) (ranges_under_below k n (n x).left (below (n x).key range) (upd w x (Some range))))

abbrev pub quick_ranges : Bench → ℕ → Option ℕ
quick_ranges b = ranges_under levels (λ x. shape (b.store.nodes x)) b.store.root all (λ _. None)

pub quick_ranges_ranges : (b : Bench) → quick_ranges b ≡ ranges b
unfolding ranges
quick_ranges_ranges b = ranges_under_below levels (λ x. shape (b.store.nodes x)) b.store.root all (λ _. None)

-- ---- a buffer of n bytes x, with l written at its start or left alone

drop_equal : (k n x : ℕ) → drop k (replicate n x) ≡ replicate (n - k) x
drop_equal zero n x = ap (λ (m : ℕ). replicate m x) (sym (sub-zero n))
drop_equal (suc k) zero x = ap (λ (m : ℕ). replicate m x) (sym (zero-sub (suc k)))
drop_equal (suc k) (suc n) x = drop_equal k n x ∙ ap (λ (m : ℕ). replicate m x) (sym (suc-sub-suc n k))

pub overlay_equal : (b : Bool) (l : List ℕ) (n x : ℕ)
    → ite b (overlay l (replicate n x)) (replicate n x) ≡ ite b l [] ++ replicate (n - length (ite b l [])) x
unfolding ite
overlay_equal true l n x = ap (λ (r : List ℕ). l ++ r) (drop_equal (length l) n x)
overlay_equal false l n x = ap (λ (m : ℕ). replicate m x) (sym (sub-zero n))
