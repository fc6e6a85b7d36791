-- What is counted along a run: every unset store has an owner among the four threads, and no thread has more than four frames.
use Rattle.std.specs.Prelude.{Option, Some, None}
use mathlib.Core.Path.{◌≡◌, refl, sym, ◌∙◌, ap, subst}
use mathlib.Core.Logic.{◌⊎◌, inl, inr}
use mathlib.Core.Bool.{Bool, true, false}
use mathlib.Core.List.{List, [], ◌∷◌}
use Prim.Native.Nat.{ℕ, suc, ◌<◌, ◌≤◌}
use native.Mathlib.Omega.{arith}
use lib.ListN.{length}
use borrow.Author.Tests.{eq-eqb, ne_eqb, eqb-true}
use Rattle.definitions.specs.declared.Spot.TheVariants.{Root, Under}
use Rattle.definitions.specs.declared.Effect.{Effect}
use Rattle.definitions.specs.declared.Effect.TheVariants.{Quiet, Mark, Settle, Invalid, Swing, Raise, Lower, Base, Fork, Commit, Ask, Fill}
use Rattle.definitions.specs.Bench.{Store, Bench, sight_of}
use Rattle.definitions.specs.Threads.{Frame, Thread, idle}
use Rattle.definitions.specs.Places.{Place, nowhere, p3, p62, swap, opening, place_of}
use Rattle.definitions.specs.Effects.{perform}
use Rattle.definitions.specs.Records.{is_idle}
use Rattle.definitions.specs.Steps.{is_query}
use Rattle.definitions.specs.Claim.{moment}
use Rattle.answers.proofs.Tools.{◌==?◌, clash}
use Rattle.answers.proofs.Memory.{Hist}
use Rattle.answers.proofs.Facts.{Replaceable}
use Rattle.answers.proofs.FrameFacts.{Own, PileOf, Opening, TopOf}
use Rattle.answers.proofs.Invariant.{Inv, after, Stands, seen}
use Rattle.answers.proofs.ReadPlaces.{know_now, here}
use Rattle.answers.proofs.Owners.{Bears, Owner, Owned, push_fits}
use Rattle.answers.proofs.Staying.{Shows, Sem}

pub record Counts (b : Bench) : Type 0 where
  pub owned : Owned b
  pub few : (t : ℕ) → length (b.threads t).frames ≤ 4

-- an unset store after an effect was one before, or the effect shows it
abbrev Was : Effect → Store → ℕ → Type 0
Was e s S = ((S < s.shown) × (s.stores S ≡ None)) ⊎ ((k : ℕ) × Shows e k × (S < suc k) × (s.stores S ≡ None))

was_before : (e : Effect) (s : Store) (S : ℕ) → S < (perform e s).shown → (perform e s).stores S ≡ None → Was e s S
was_before Quiet s S h q = inl (h, q)
was_before (Mark r l) s S h q = inl (h, q)
was_before (Settle m v) s S h q = inl (h, q)
was_before (Invalid r) s S h q = inl (h, q)
was_before (Swing Root x) s S h q = inl (h, q)
was_before (Swing (Under g d) x) s S h q = inl (h, q)
was_before Raise s S h q = inl (h, q)
was_before Lower s S h q = inl (h, q)
was_before (Base Root x k p c m) s S h q = inl (h, q)
was_before (Base (Under g d) x k p c m) s S h q = inl (h, q)
was_before (Fork Root x l r k y) s S h q = inl (h, q)
was_before (Fork (Under g d) x l r k y) s S h q = inl (h, q)
was_before (Commit m x p n g o) s S h q = inl (h, q)
was_before (Ask Root x p c l u k true) s S h q = inr (k, refl, h, q)
was_before (Ask (Under g d) x p c l u k true) s S h q = inr (k, refl, h, q)
was_before (Ask Root x p c l u k false) s S h q = inl (h, q)
was_before (Ask (Under g d) x p c l u k false) s S h q = inl (h, q)
was_before (Fill k c) s S h q = elim (S ==? k) [
  | yes z ↦ absurd (clash (let v : (perform (Fill k c) s).stores S ≡ Some c = rw (eq-eqb S k z) in cc))
  | no z ↦ inl (h, rw (ne_eqb S k z) at q)
]

module _ {b : Bench} {hist : Hist} {now : ℕ} {first : ℕ → Option ℕ} (inv : Inv b hist now first) (counts : Counts b) (t : ℕ) (small : t < 4) where
  abbrev th : Thread
  th = b.threads t

  owner_on : (s' : Store) (th' : Thread) (S : ℕ) → ((S : ℕ) → Owner th S → Owner th' S) → (o : ℕ) × (o < 4) × Owner (b.threads o) S → (o : ℕ) × (o < 4) × Owner ((after b t s' th').threads o) S
  owner_on s' th' S f (o, h, v) = elim (o ==? t) [
    | yes q ↦ (t, small, rw (eq-eqb t t refl) (f S (subst (λ u. Owner (b.threads u) S) q v)))
    | no q ↦ (o, h, rw (ne_eqb o t q) v)
  ]

  few_on : (s' : Store) (th' : Thread) → length th'.frames ≤ 4 → (u : ℕ) → length ((after b t s' th').threads u).frames ≤ 4
  few_on s' th' h u = elim (u ==? t) [ yes q ↦ rw (eq-eqb u t q) h | no q ↦ rw (ne_eqb u t q) (counts.few u) ]

  pub moves_count : (e : Effect) (th' : Thread) → ((S : ℕ) → Owner th S → Owner th' S) × (length th.frames ≤ 4 → length th'.frames ≤ 4) × ((k : ℕ) → Shows e k → (k ≡ b.store.shown) × Owner th' k)
      → Counts (after b t (perform e b.store) th')
  moves_count e th' (f, w, n) = record {
    owned = λ S h q. elim (was_before e b.store S h q) [
      | inl (h', q') ↦ owner_on (perform e b.store) th' S f (counts.owned S h' q')
      | inr (k, v, lt, q') ↦ (let (z, ow) = n k v in elim (S ==? k) [
        | yes y ↦ (t, small, rw (eq-eqb t t refl) (subst (λ u. Owner th' u) (sym y) ow))
        | no y ↦ owner_on (perform e b.store) th' S f (counts.owned S (omega arith) q')
      ])
    ];
    few = few_on (perform e b.store) th' (w (counts.few t));
  }

  -- a thread that ends owns no unset store
  pub ends_count : (e : Effect) → ((k : ℕ) → Shows e k → ⊥) → ((S : ℕ) → Owner th S → b.store.stores S ≡ None → ⊥) → Counts (after b t (perform e b.store) idle)
  ends_count e n none = record {
    owned = λ S h q. elim (was_before e b.store S h q) [
      | inl (h', q') ↦ (let (o, ho, v) = counts.owned S h' q' in elim (o ==? t) [ yes y ↦ absurd (none S (subst (λ u. Owner (b.threads u) S) y v) q') | no y ↦ (o, ho, rw (ne_eqb o t y) v) ])
      | inr (k, v, _, _) ↦ absurd (n k v)
    ];
    few = few_on (perform e b.store) idle (omega arith);
  }

  -- an idle thread has no frames
  bare : is_idle th ≡ true → th.frames ≡ []
  bare i = (know_now inv t nowhere (ap place_of (eqb-true th.place 0 i))).1

  pub starts_count : (th₀ : Thread) → is_idle th ≡ true → length th₀.frames ≤ 4 → Counts (after b t b.store th₀)
  starts_count th₀ i h = record {
    owned = λ S k q. let (o, ho, v) = counts.owned S k q in elim (o ==? t) [
      | yes y ↦ absurd (subst (λ l. Bears l S) (bare i) (subst (λ u. Owner (b.threads u) S) y v).1)
      | no y ↦ (o, ho, rw (ne_eqb o t y) v)
    ];
    few = few_on b.store th₀ h;
  }

  -- what `Stay` asks of the invariant
  pub sem_of : (p : Place) → Stands b t p → Sem p (sight_of b.store) th
  sem_of p e = record {
    unhelped = λ z _ _. rw (know_now inv t p3 (e ∙ z)).2 (omega arith);
    fits = λ z. push_fits inv counts.owned t small (e ∙ z);
    new = λ z. tops th.frames (know_now inv t p62 (e ∙ z)).0;
    single =
        λ q z f fs E. alone f fs E (subst (λ v. TopOf v (λ f. Opening (seen b.store.nodes b.store (here inv t).ghost now) f × Replaceable (seen b.store.nodes b.store (here inv t).ghost now) f.base)) E
        (know_now inv t (swap opening q) (e ∙ z)).0).0 (subst (λ v. PileOf (seen b.store.nodes b.store (here inv t).ghost now) hist (moment (first t)) th v) E ((here inv t).piles t));
  }
    where
      tops : (fs : List Frame) → TopOf fs (λ f. Opening (seen b.store.nodes b.store (here inv t).ghost now) f) → TopOf fs (λ f. f.begun ≡ false)
      tops [] k = tt
      tops (f ∷ fs) k = k.begun

      alone : (f : Frame) (fs : List Frame) → th.frames ≡ f ∷ fs → Opening (seen b.store.nodes b.store (here inv t).ghost now) f
          → PileOf (seen b.store.nodes b.store (here inv t).ghost now) hist (moment (first t)) th (f ∷ fs)
          → (f.begun ≡ false) × (fs ≡ []) × (is_query th.action ≡ true)
      alone f (g ∷ fs) E o ((S, a), _, _) = absurd (clash (let v = a.store in let u = o.free in cc))
      alone f [] E o p = (o.begun, refl, go (is_query th.action) p)
        where
          go : (c : Bool) → Own c (seen b.store.nodes b.store (here inv t).ghost now) hist (moment (first t)) th f → c ≡ true
          go true _ = refl
          go false (S, a) = absurd (clash (let v = a.store in let u = o.free in cc))
