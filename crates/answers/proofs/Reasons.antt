-- THE REASONS RULE (definitions/specs/Reasons.antt), by induction over the list of records. It rests on ReasonPlaces.antt.
use mathlib.Core.Path.{refl}
use mathlib.Core.Bool.{Bool, true, false, ◌||◌}
use mathlib.Core.List.{List, [], ◌∷◌}
use Prim.Native.Nat.{ℕ, zero, suc, ◌/◌, ◌%◌}
use borrow.Author.Tests.{eq-eqb, ne_eqb}
use Rattle.container.specs.Choice.{ite}
use Rattle.definitions.specs.declared.Action.{Action}
use Rattle.definitions.specs.declared.Action.TheVariants.{Lookup, Insert, Remove, Split, Join}
use Rattle.definitions.specs.Threads.{Turn, Moves, Finishes, Finds, Full, NoStore}
use Rattle.definitions.specs.Bench.{Bench, fresh}
use Rattle.definitions.specs.Places.{place_of}
use Rattle.definitions.specs.Effects.{perform}
use Rattle.definitions.specs.Records.{Result, refused, carried, taken, stepped, started, asked, acted, record_step}
use Rattle.definitions.specs.Schedule.{Rec}
use Rattle.definitions.specs.Reasons.{changes, succeeded, Reasoned, ReasonsOnward, ReasonsFrom, ReasonsRule}
use Rattle.answers.proofs.Tools.{◌==?◌}
use Rattle.answers.proofs.ReasonParts.{Stands, Told}
use Rattle.answers.proofs.ReasonPlaces.{told}

-- d: which threads' operations have made their change
abbrev All : Bench → (ℕ → Bool) → Type 0
All b d = (t : ℕ) → Stands (b.threads t) (d t)

-- ---- one record of action a and thread t

module _ (b : Bench) (d : ℕ → Bool) (all : All b d) (t y x : ℕ) where
  abbrev Kept : ℕ → Result → Type 0
  Kept a (refused _) = Unit {0}
  Kept a (carried b' w) = Reasoned w (b.threads t) (succeeded a t b b' d t) × All b' (succeeded a t b b' d)

  pick : (a : ℕ) (c : Bool) (r r' : Result) → Kept a r → Kept a r' → Kept a (ite c r r')
  unfolding ite
  pick a true r r' p q = p
  pick a false r r' p q = q

  taken_kept : (o : Turn) → Told (b.threads t) (b.threads t).place (λ e. d t || changes (b.threads t).action (b.threads t).place b.store (perform e b.store) (b.threads t)) o
      → Kept 0 (taken b t o)
  unfolding taken
  taken_kept (Moves th' e) k = (tt, λ u. elim (u ==? t) [ yes q ↦ rw (eq-eqb u t q) k | no q ↦ rw (ne_eqb u t q) (all u) ])
  taken_kept (Finishes e a) k = (rw (eq-eqb t t refl) k, λ u. elim (u ==? t) [ yes q ↦ rw (eq-eqb u t q) tt | no q ↦ rw (ne_eqb u t q) (all u) ])
  taken_kept (Finds c) k = (rw (eq-eqb t t refl) k, λ u. elim (u ==? t) [ yes q ↦ rw (eq-eqb u t q) tt | no q ↦ rw (ne_eqb u t q) (all u) ])
  taken_kept Full k = tt
  taken_kept NoStore k = tt

  steps_kept : Kept 0 (stepped b t y x)
  unfolding stepped
  steps_kept = pick 0 _ _ _ (pick 0 _ _ _ (pick 0 _ _ _ tt (taken_kept _ (told b.store (b.threads t) (place_of (b.threads t).place) (d t) refl (all t)))) tt) tt

  starts_kept : (n : ℕ) (a : Action) → Kept (suc n) (started b t a y x)
  unfolding started
  starts_kept n a = pick (suc n) _ _ _ tt (pick (suc n) _ _ _ (pick (suc n) _ _ _ (tt, λ u. elim (u ==? t) [ yes q ↦ rw (eq-eqb u t q) refl | no q ↦ rw (ne_eqb u t q) (all u) ]) tt) tt)

  asks_kept : Kept 6 (asked b t y x)
  unfolding asked
  asks_kept = pick 6 _ _ _ tt (pick 6 _ _ _ tt (pick 6 _ _ _ tt (pick 6 _ _ _ (tt, λ u. elim (u ==? t) [ yes q ↦ rw (eq-eqb u t q) refl | no q ↦ rw (ne_eqb u t q) (all u) ]) tt)))

  acted_kept : (n : ℕ) → Kept n (acted n b t y x)
  acted_kept zero = steps_kept
  acted_kept (suc zero) = starts_kept 0 Lookup
  acted_kept (suc (suc zero)) = starts_kept 1 Insert
  acted_kept (suc (suc (suc zero))) = starts_kept 2 Remove
  acted_kept (suc (suc (suc (suc zero)))) = starts_kept 3 Split
  acted_kept (suc (suc (suc (suc (suc zero))))) = starts_kept 4 Join
  acted_kept (suc (suc (suc (suc (suc (suc zero)))))) = asks_kept
  acted_kept (suc (suc (suc (suc (suc (suc (suc _))))))) = tt

record_kept : (b : Bench) (d : ℕ → Bool) (all : All b d) (l x y z : ℕ) → Kept b d all (x / 16) y z (x % 16) (record_step b l x y z)
unfolding record_step
record_kept b d all l x y z = pick b d all (x / 16) y z (x % 16) _ _ _ tt (pick b d all (x / 16) y z (x % 16) _ _ _ tt (acted_kept b d all (x / 16) y z (x % 16)))

-- ---- every list

along : (rs : List Rec) (b : Bench) (d : ℕ → Bool) → All b d → ReasonsFrom rs b d
along [] b d all = tt
along (r ∷ rs) b d all = go (record_step b r.last r.first r.second r.extra) (record_kept b d all r.last r.first r.second r.extra) (λ b' d'. along rs b' d')
  where
    go : (res : Result) → Kept b d all (r.first / 16) r.second r.extra (r.first % 16) res → ((b' : Bench) (d' : ℕ → Bool) → All b' d' → ReasonsFrom rs b' d')
        → ReasonsOnward res b r d (λ b' d'. ReasonsFrom rs b' d')
    go (refused _) k ih = tt
    go (carried b' w) (k, all') ih = (k, ih b' _ all')

pub reasons_rule : ReasonsRule
reasons_rule on rs = along rs (fresh on) (λ _. false) (λ t. tt)
