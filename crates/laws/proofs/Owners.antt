-- A fact of every reachable state that needs no ghosts: a main that is preparing or completing has a thread that owns it and stands at 26
-- to 51 (`Tended`). It rests on Turned.antt.
use Rattle.std.specs.Prelude.{Option}
use mathlib.Core.Path.{◌≡◌, refl, sym, ◌∙◌, ap, subst}
use mathlib.Core.Logic.{◌⊎◌, inl, inr}
use mathlib.Core.Bool.{Bool, true, false, cond, true≢false, false≢true}
use Prim.Native.Nat.{ℕ, suc, ◌+◌, ◌<◌}
use borrow.Author.Tests.{eq-eqb, ne_eqb, eqb-true}
use Rattle.container.specs.Choice.{upd}
use Rattle.container.specs.Depths.{Container, merge}
use Rattle.definitions.specs.declared.Kind.TheVariants.{Main, Neighbour}
use Rattle.definitions.specs.declared.Stage.{Stage}
use Rattle.definitions.specs.declared.Stage.TheVariants.{Preparing, Completing, Aborted, Done}
use Rattle.definitions.specs.declared.Spot.{Spot}
use Rattle.definitions.specs.declared.Spot.TheVariants.{Root, Under}
use Rattle.definitions.specs.Threads.{Thread, Turn, Moves, Finishes, Finds, Full, NoStore}
use Rattle.definitions.specs.declared.Effect.{Effect}
use Rattle.definitions.specs.declared.Effect.TheVariants.{Quiet, Mark, Settle, Invalid, Swing, Raise, Lower, Base, Fork, Commit, Ask, Fill}
use Rattle.definitions.specs.Nodes.{Nodes, Entry, is_preparing, new_base, new_range}
use Rattle.definitions.specs.Bench.{Store, store, Bench, fresh}
use Rattle.definitions.specs.Effects.{hang, push, content_of, forked, perform}
use Rattle.definitions.specs.Places.{place_of}
use Rattle.definitions.specs.Records.{Row, Result, refused, carried, taken}
use Rattle.definitions.specs.Schedule.{Rec}
use Rattle.answers.proofs.Tools.{◌==?◌}
use Rattle.laws.proofs.Tending.{is_over, Tends, Apt, NewMain, Turned, normal_main, route_main, neighbour_main, range_main}
use Rattle.laws.proofs.Turned.{turned}
use Rattle.laws.proofs.OneRecord.{step_of, by_record}

-- ---- a write that leaves f of every node

upd_keeps : {A : Type 0} (f : Entry → A) (n : Nodes) (x y : ℕ) (v : Entry) → f v ≡ f (n x) → f (upd n x v y) ≡ f (n y)
upd_keeps f n x y v e = elim (y ==? x) [ yes q ↦ rw (eq-eqb y x q, q) e | no q ↦ rw (ne_eqb y x q) ]

hang_kind : (v : Spot) (x : ℕ) (s : Store) (y : ℕ) → ((hang v x s).nodes y).kind ≡ (s.nodes y).kind
hang_kind Root x s y = refl
hang_kind (Under r d) x s y = upd_keeps (λ n. n.kind) s.nodes r y _ refl

hang_stage : (v : Spot) (x : ℕ) (s : Store) (y : ℕ) → ((hang v x s).nodes y).stage ≡ (s.nodes y).stage
hang_stage Root x s y = refl
hang_stage (Under r d) x s y = upd_keeps (λ n. n.stage) s.nodes r y _ refl

pub hang_used : (v : Spot) (x : ℕ) (s : Store) → (hang v x s).used ≡ s.used
hang_used Root x s = refl
hang_used (Under r d) x s = refl

-- ---- Needs: x is a main, neither aborted nor done

pub record Needs (n : Nodes) (x : ℕ) : Type 0 where
  pub kind : (n x).kind ≡ Main
  pub stage : is_over (n x).stage ≡ false

as_before : (n n' : Nodes) (x : ℕ) → (n' x).kind ≡ (n x).kind → (n' x).stage ≡ (n x).stage → Needs n' x → Needs n x
as_before n n' x i j h = record { kind = sym i ∙ h.kind; stage = ap is_over (sym j) ∙ h.stage }

preparing_not : (v : Stage) → is_preparing v ≡ true → is_over v ≡ false
preparing_not Preparing e = refl
preparing_not Completing e = absurd (false≢true e)
preparing_not Aborted e = absurd (false≢true e)
preparing_not Done e = absurd (false≢true e)

-- the store with a split's three nodes, a commit's neighbour, and the store with a query's range base
abbrev trio : ℕ → ℕ → ℕ → ℕ → Container → Store → Store
trio x l r k c s = store (forked x l r k c s.nodes) s.root (x + 3) s.stores s.shown s.stop

abbrev united : Store → Option ℕ → ℕ → ℕ → Entry
united s p m n = new_base Neighbour p (merge (s.nodes m).container (s.nodes n).container) m

abbrev ranged : Store → ℕ → Option ℕ → ℕ → ℕ → ℕ → ℕ → Bool → Store
ranged s x p y l h k new = store (upd s.nodes x (new_range p (s.nodes y).container l h k)) s.root (suc x) s.stores (cond new (suc k) s.shown) s.stop

-- a main that needs its thread after an effect did so before it, or is new
needs_was : (s : Store) (e : Effect) → Apt s e → (y : ℕ) → Needs (perform e s).nodes y → Needs s.nodes y ⊎ NewMain e y
needs_was s Quiet a y h = inl h
needs_was s (Mark r l) a y h = inl (as_before _ _ y (upd_keeps (λ n. n.kind) s.nodes r y _ refl) (upd_keeps (λ n. n.stage) s.nodes r y _ refl) h)
needs_was s (Settle m v) a y h = elim (y ==? m) [
  | yes q ↦ absurd (false≢true (sym h.stage ∙ rw (eq-eqb y m q) a))
  | no q ↦ inl (as_before _ _ y (rw (ne_eqb y m q)) (rw (ne_eqb y m q)) h)
]
needs_was s (Invalid r) a y h = inl (as_before _ _ y (upd_keeps (λ n. n.kind) s.nodes r y _ refl) (upd_keeps (λ n. n.stage) s.nodes r y _ refl) h)
needs_was s (Swing v x) a y h = inl (as_before _ _ y (hang_kind v x s y) (hang_stage v x s y) h)
needs_was s Raise a y h = inl h
needs_was s Lower a y h = inl h
needs_was s (Base v x k p c m) a y h = elim (y ==? x) [
  | yes q ↦ inr (sym (hang_kind v x (push x (new_base k p (content_of c s.nodes) m) s) y ∙ rw (eq-eqb y x q)) ∙ h.kind, sym q)
  | no q ↦ inl (as_before _ _ y (hang_kind v x _ y ∙ rw (ne_eqb y x q)) (hang_stage v x _ y ∙ rw (ne_eqb y x q)) h)
]
needs_was s (Fork v x l r k b) a y h = elim (y ==? r) [
  | yes q ↦ absurd (normal_main (sym (hang_kind v x (trio x l r k (s.nodes b).container s) y ∙ rw (eq-eqb y r q)) ∙ h.kind))
  | no q ↦ elim (y ==? l) [
    | yes q' ↦ absurd (normal_main (sym (hang_kind v x (trio x l r k (s.nodes b).container s) y ∙ rw (ne_eqb y r q, eq-eqb y l q')) ∙ h.kind))
    | no q' ↦ elim (y ==? x) [
      | yes z ↦ absurd (route_main (sym (hang_kind v x (trio x l r k (s.nodes b).container s) y ∙ rw (ne_eqb y r q, ne_eqb y l q', eq-eqb y x z)) ∙ h.kind))
      | no z ↦ inl (as_before _ _ y (hang_kind v x (trio x l r k (s.nodes b).container s) y ∙ rw (ne_eqb y r q, ne_eqb y l q', ne_eqb y x z))
          (hang_stage v x (trio x l r k (s.nodes b).container s) y ∙ rw (ne_eqb y r q, ne_eqb y l q', ne_eqb y x z)) h)
    ]
  ]
]
needs_was s (Commit m x p n g o) a y h = elim (y ==? x) [
  | yes q ↦ absurd (neighbour_main (sym (upd_keeps (λ v. v.kind) (push x (united s p m n) s).nodes m y _ refl ∙ rw (eq-eqb y x q)) ∙ h.kind))
  | no q ↦ let k : ((perform (Commit m x p n g o) s).nodes y).kind ≡ (s.nodes y).kind = upd_keeps (λ v. v.kind) (push x (united s p m n) s).nodes m y _ refl ∙ rw (ne_eqb y x q) in
      elim (y ==? m) [
        | yes z ↦ inl (record { kind = sym k ∙ h.kind; stage = preparing_not (s.nodes y).stage (ap (λ v. is_preparing (s.nodes v).stage) z ∙ a) })
        | no z ↦ inl (as_before _ _ y k (rw (ne_eqb y m z, ne_eqb y x q)) h)
      ]
]
needs_was s (Ask v x p b l u k new) a y h = elim (y ==? x) [
  | yes q ↦ absurd (range_main (sym (hang_kind v x (ranged s x p b l u k new) y ∙ rw (eq-eqb y x q)) ∙ h.kind))
  | no q ↦ inl (as_before _ _ y (hang_kind v x (ranged s x p b l u k new) y ∙ rw (ne_eqb y x q)) (hang_stage v x (ranged s x p b l u k new) y ∙ rw (ne_eqb y x q)) h)
]
needs_was s (Fill k c) a y h = inl h

-- ---- at every reachable state

abbrev pub Tended : Bench → Type 0
Tended b = (x : ℕ) → Needs b.store.nodes x → (t : ℕ) × Tends (b.threads t) x

-- and only threads 0 to 3 are busy
pub record Sound (b : Bench) : Type 0 where
  pub tended : Tended b
  pub low : (t : ℕ) → (t < 4) ⊎ ((b.threads t).place ≡ 0)

abbrev SoundAfter : Result → Type 0
SoundAfter (refused _) = Unit {0}
SoundAfter (carried b w) = Sound b

still_low : (b : Bench) (t : ℕ) (th : Thread) → t < 4 → Sound b → (u : ℕ) → (u < 4) ⊎ ((upd b.threads t th u).place ≡ 0)
still_low b t th l z u = elim (u ==? t) [ yes q ↦ inl (rw q l) | no q ↦ rw (ne_eqb u t q) (z.low u) ]

sound_turn : (b : Bench) (t : ℕ) → t < 4 → Sound b → (o : Turn) → Turned b.store (place_of (b.threads t).place) (b.threads t) o → SoundAfter (taken b t o)
unfolding taken
sound_turn b t l z (Moves th' e) (a, n, k) = record {
  low = still_low b t th' l z;
  tended = λ x h. elim (needs_was b.store e a x h) [
    | inr i ↦ (t, rw (eq-eqb t t refl) (n x i))
    | inl i ↦ (let (u, v) = z.tended x i in elim (u ==? t) [ yes q ↦ (t, rw (eq-eqb t t refl) (mine u v q)) | no q ↦ (u, rw (ne_eqb u t q) v) ])
  ];
}
  where
    mine : {x : ℕ} (u : ℕ) → Tends (b.threads u) x → u ≡ t → Tends th' x
    mine {x} u v q = let v' : Tends (b.threads t) x = rw q at v in rw (← v'.main) (k v'.place v'.owner)
sound_turn b t l z (Finishes e a') (a, n, k) = record {
  low = still_low b t _ l z;
  tended = λ x h. elim (needs_was b.store e a x h) [
    | inr i ↦ absurd (n x i)
    | inl i ↦ (let (u, v) = z.tended x i in elim (u ==? t) [ yes q ↦ absurd (mine x u v q h.stage) | no q ↦ (u, rw (ne_eqb u t q) v) ])
  ];
}
  where
    mine : (x u : ℕ) → Tends (b.threads u) x → u ≡ t → is_over ((perform e b.store).nodes x).stage ≡ false → ⊥
    mine x u v q h = let v' : Tends (b.threads t) x = rw q at v in true≢false (sym (k v'.place) ∙ ap (λ y. is_over ((perform e b.store).nodes y).stage) v'.main ∙ h)
sound_turn b t l z (Finds c) h = record {
  low = still_low b t _ l z;
  tended = λ x i. let (u, v) = z.tended x i in elim (u ==? t) [ yes q ↦ absurd (mine x u v q) | no q ↦ (u, rw (ne_eqb u t q) v) ];
}
  where
    mine : (x u : ℕ) → Tends (b.threads u) x → u ≡ t → ⊥
    mine x u v q = let v' : Tends (b.threads t) x = rw q at v in h v'.place
sound_turn b t l z Full h = tt
sound_turn b t l z NoStore h = tt

-- an idle thread tends no main
pub idle_tends : (th : Thread) (x : ℕ) → th.place ≡ 0 → Tends th x → ⊥
idle_tends th x e v = false≢true (rw e at v.place)

sound_record : (b : Bench) (r : Rec) → Sound b → SoundAfter (step_of b r)
sound_record b r z = by_record b r SoundAfter (λ _. tt)
    (λ t th l i. record {
      low = still_low b t th l z;
      tended = λ m h. let (u, v) = z.tended m h in elim (u ==? t) [ yes q ↦ absurd (idle_tends _ m (eqb-true _ _ i) (rw q at v)) | no q ↦ (u, rw (ne_eqb u t q) v) ];
    })
    (λ t l. sound_turn b t l z _ (turned b.store (b.threads t) (place_of (b.threads t).place)))

pub sound_next : (b b' : Bench) (r : Rec) (w : Row) → Sound b → step_of b r ≡ carried b' w → Sound b'
sound_next b b' r w z e = subst SoundAfter e (sound_record b r z)

pub sound_fresh : (on : Bool) → Sound (fresh on)
sound_fresh on = record { tended = λ x h. absurd (normal_main h.kind); low = λ t. inr refl }
