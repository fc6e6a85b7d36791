-- The one-writer profile, over every list of records (definitions/specs/Profile.antt, `OneWriter`): only thread 0 writes, the others look up and
-- leave the store as it is.
use Rattle.std.specs.Prelude.{Option, None}
use mathlib.Core.Path.{◌≡◌, refl, sym, ◌∙◌, ap, subst}
use mathlib.Core.Logic.{◌≢◌}
use mathlib.Core.Bool.{Bool, true, false, ◌&&◌, ◌||◌, true≢false, false≢true}
use mathlib.Core.List.{List, [], ◌∷◌}
use Prim.Native.Nat.{ℕ, zero, suc, ◌/◌, ◌%◌, ◌<◌, ◌≤◌}
use native.Mathlib.Omega.{arith}
use lib.Dec.{eqb, leb}
use borrow.Author.Tests.{eq-eqb, ne_eqb, eqb-true, ltb-false, lt-ltb, le-leb}
use Rattle.container.specs.Choice.{ite, upd}
use Rattle.definitions.specs.declared.Action.{Action}
use Rattle.definitions.specs.declared.Action.TheVariants.{Lookup, Insert, Remove, Split, Join, Query}
use Rattle.definitions.specs.declared.Spot.TheVariants.{Root, Under}
use Rattle.definitions.specs.declared.Effect.{Effect}
use Rattle.definitions.specs.declared.Effect.TheVariants.{Quiet, Mark, Settle, Invalid, Swing, Raise, Lower, Base, Fork, Commit, Ask, Fill}
use Rattle.definitions.specs.Threads.{Thread, begun, Turn, Moves, Finishes, Finds, Full, NoStore}
use Rattle.definitions.specs.Nodes.{child_for, shape}
use Rattle.definitions.specs.Bench.{sight_of, Store, Bench, bench, fresh}
use Rattle.definitions.specs.Places.{Place, place_of, reading}
use Rattle.definitions.specs.Effects.{perform}
use Rattle.definitions.specs.Steps.{at_leaf, reached, one_more, followed, step}
use Rattle.definitions.specs.Answers.{shown}
use Rattle.definitions.specs.Records.{row, Result, refused, carried, taken, is_idle, stepped, started, acted, record_step}
use Rattle.definitions.specs.Schedule.{Rec}
use Rattle.definitions.specs.Plain.{Plain, empty, was_carried, feed}
use Rattle.definitions.specs.Claim.{row_added, moments}
use Rattle.definitions.specs.Profile.{outside, barred, profile_step}
use Rattle.profile.specs.Claim.{compares, fails, asides, among, Calm, counted, updates, Brief, Joined, Past, Throughout, OneWriter}
use Rattle.answers.proofs.Tools.{◌==?◌, clash}
use Rattle.answers.proofs.Memory.{Hist}
use Rattle.answers.proofs.Invariant.{Inv}
use Rattle.answers.proofs.Along.{Standing, firsts, Next, next, at_start}
use Rattle.profile.proofs.Mine.{Mine}
use Rattle.profile.proofs.EarlyPlaces.{OkTurn, neither}
use Rattle.profile.proofs.EveryTurn.{upright, turn, finds, brief}

-- ---- a thread that only looks up

data Roams (p : ℕ) : Type 0 where
  resting : p ≡ 0 → Roams p
  first : p ≡ 1 → Roams p
  walking : p ≡ 2 → Roams p

record Looks (th : Thread) : Type 0 where
  act : th.action ≡ Lookup
  place : Roams th.place

-- its turn writes nothing
abbrev Harmless : Store → Turn → Type 0
Harmless s (Moves th' e) = (perform e s ≡ s) × Looks th'
Harmless s (Finishes e a) = perform e s ≡ s
Harmless s (Finds r) = Unit {0}
Harmless s Full = Unit {0}
Harmless s NoStore = Unit {0}

either : (s : Store) (c : Bool) (o o' : Turn) → Harmless s o → Harmless s o' → Harmless s (ite c o o')
unfolding ite
either s true o o' p q = p
either s false o o' p q = q

looking : (s : Store) (th : Thread) → s.stop.on ≡ false → Looks th → Harmless s (step (place_of th.place) (sight_of s) th)
unfolding step reached followed
looking s th out k = go k.place
  where
    -- with i routes read where the stop is on
    read : ℕ → Thread
    read i = reading s.stop.on i th

    leaf : (i x : ℕ) (a : Action) → a ≡ Lookup → Harmless s (at_leaf a (λ z. shape (s.nodes z)) (read i) x)
    leaf i x Lookup e = refl
    leaf i x Insert e = absurd (clash (cc))
    leaf i x Remove e = absurd (clash (cc))
    leaf i x Split e = absurd (clash (cc))
    leaf i x Join e = absurd (clash (cc))
    leaf i x Query e = absurd (clash (cc))

    arrive : (i x : ℕ) → Harmless s (reached (λ z. shape (s.nodes z)) (read i) x)
    arrive i x = either s _ _ _ (refl, record { act = k.act; place = walking refl }) (leaf i x th.action k.act)

    follow : (i x : ℕ) → Harmless s (followed s.stop.on (λ z. shape (s.nodes z)) (read i) x)
    follow i x = subst (λ v. Harmless s (followed v (λ z. shape (s.nodes z)) (read i) x)) (sym out) (arrive i x)

    go : Roams th.place → Harmless s (step (place_of th.place) (sight_of s) th)
    go (resting e) = subst (λ p. Harmless s (step (place_of p) (sight_of s) th)) (sym e) (refl, k)
    go (first e) = subst (λ p. Harmless s (step (place_of p) (sight_of s) th)) (sym e) (arrive 0 s.root)
    go (walking e) = subst (λ p. Harmless s (step (place_of p) (sight_of s) th)) (sym e) (follow (one_more th.read) (child_for th.station (shape (s.nodes th.route))))

-- the stop stays on or off
same_switch : (e : Effect) (s : Store) → (perform e s).stop.on ≡ s.stop.on
same_switch Quiet s = refl
same_switch (Mark r l) s = refl
same_switch (Settle m v) s = refl
same_switch (Invalid r) s = refl
same_switch (Swing Root x) s = refl
same_switch (Swing (Under r d) x) s = refl
same_switch Raise s = refl
same_switch Lower s = refl
same_switch (Base Root x k p c m) s = refl
same_switch (Base (Under r d) x k p c m) s = refl
same_switch (Fork Root x l r k y) s = refl
same_switch (Fork (Under g d) x l r k y) s = refl
same_switch (Commit m x p n g o) s = refl
same_switch (Ask Root x p y l u k new) s = refl
same_switch (Ask (Under g d) x p y l u k new) s = refl
same_switch (Fill k c) s = refl

-- ---- the invariant; c is each thread's own steps

pub record Solo (b : Bench) (c : ℕ → ℕ) : Type 0 where
  pub out : b.store.stop.on ≡ false
  pub mine : Mine (place_of (b.threads 0).place) b.store (b.threads 0) (c 0)
  others : (t : ℕ) → t ≢ 0 → Looks (b.threads t)

fresh_solo : Solo (fresh false) (λ _. 0)
fresh_solo = record {
  out = refl;
  mine = record { mains = λ x e. absurd (clash (cc)); marks = λ r m e. absurd (clash (cc)); upright = λ x e. clash (cc); rangeless = λ x e. clash (cc) };
  others = λ t _. record { act = refl; place = resting refl };
}

-- a number whose place has a property that none of a list's places has
abbrev Shut : (Place → Type 0) → List ℕ → Type 0
Shut Q [] = Unit {0}
Shut Q (k ∷ l) = (Q (place_of k) → ⊥) × Shut Q l

not_among : (n : ℕ) (Q : Place → Type 0) (l : List ℕ) → Shut Q l → Q (place_of n) → among n l ≡ false
not_among n Q [] h q = refl
not_among n Q (k ∷ l) (h, h') q = rw (ne_eqb n k (λ i. h (subst (λ v. Q (place_of v)) i q))) (not_among n Q l h' q)

writer_shut : (s : Store) (th : Thread) (c : ℕ) → Shut (λ p. Mine p s th c) asides
writer_shut s th c = let i : ⊥ → ⊥ = λ q. q in
    (i, (i, (i, (i, (i, (i, (i, (i, (i, (i, (i, (i, (i, (i, (i, (i, (i, (i, (i, (i, (i, (i, (i, (i, (i, (i, (i, tt)))))))))))))))))))))))))))

roams_straight : (n : ℕ) → Roams n → among n asides ≡ false
roams_straight n (resting e) = rw e
roams_straight n (first e) = rw e
roams_straight n (walking e) = rw e

calm : {b : Bench} {hist : Hist} {now : ℕ} {f : ℕ → Option ℕ} (inv : Inv b hist now f) (c : ℕ → ℕ) → Solo b c → Calm b
unfolding fails compares
calm {b} inv c z = record {
  swaps = λ t. elim (t ==? 0) [
    | yes e ↦ subst (λ v. fails (place_of (b.threads v).place) (sight_of b.store) (b.threads v) ≡ false) (sym e) (finds inv (c 0) (place_of (b.threads 0).place) refl z.mine)
    | no e ↦ fine t (z.others t e).place
  ];
  straight = λ t. elim (t ==? 0) [
    | yes e ↦ subst (λ v. among (b.threads v).place asides ≡ false) (sym e)
        (not_among (b.threads 0).place (λ p. Mine p b.store (b.threads 0) (c 0)) asides (writer_shut b.store (b.threads 0) (c 0)) z.mine)
    | no e ↦ roams_straight (b.threads t).place (z.others t e).place
  ];
  mains = upright (place_of (b.threads 0).place) b.store (b.threads 0) (c 0) z.mine;
}
  where
    fine : (t : ℕ) → Roams (b.threads t).place → fails (place_of (b.threads t).place) (sight_of b.store) (b.threads t) ≡ false
    fine t (resting e) = rw e
    fine t (first e) = rw e
    fine t (walking e) = rw e

-- ---- one record

both_off : (a b : Bool) → a || b ≡ false → (a ≡ false) × (b ≡ false)
both_off true b e = absurd (true≢false e)
both_off false b e = (refl, e)

module _ {b : Bench} {hist : Hist} {now : ℕ} {f : ℕ → Option ℕ} (inv : Inv b hist now f) (c : ℕ → ℕ) (z : Solo b c) (y d : ℕ) where
  abbrev Kept : ℕ → ℕ → Result → Type 0
  Kept n t (refused _) = Unit {0}
  Kept n t (carried b' w) = Brief (b.threads t) (counted n t c t) × Joined w b.store (b.threads t) × Solo b' (counted n t c)

  pick : (n t : ℕ) (k : Bool) (r r' : Result) → (k ≡ true → Kept n t r) → (k ≡ false → Kept n t r') → Kept n t (ite k r r')
  unfolding ite
  pick n t true r r' p q = p refl
  pick n t false r r' p q = q refl

  -- ---- steps

  taken_mine : (o : Turn) → OkTurn b.store (b.threads 0) (c 0) o → (updates (b.threads 0).action ≡ true → suc (c 0) ≤ 68) → Kept 0 0 (taken b 0 o)
  unfolding taken
  taken_mine (Moves th' e) m h = (h, tt, record { out = same_switch e b.store ∙ z.out; mine = m; others = λ t i. rw (ne_eqb t 0 i) (z.others t i) })
  taken_mine (Finishes e a) (m, j) h = (h, j, record { out = same_switch e b.store ∙ z.out; mine = m; others = λ t i. rw (ne_eqb t 0 i) (z.others t i) })
  taken_mine (Finds r) m h = absurd m
  taken_mine Full m h = tt
  taken_mine NoStore m h = tt

  taken_other : (t : ℕ) → t ≢ 0 → (o : Turn) → Harmless b.store o → Kept 0 t (taken b t o)
  unfolding taken
  taken_other t h (Moves th' e) (s, l) = (
    no_update,
    tt,
    record {
      out = same_switch e b.store ∙ z.out;
      mine = rw (s, ne_eqb 0 t (λ i. h (sym i))) z.mine;
      others = λ u i. elim (u ==? t) [ yes j ↦ rw (eq-eqb u t j) l | no j ↦ rw (ne_eqb u t j) (z.others u i) ];
    },
  )
    where
      no_update : Brief (b.threads t) (counted 0 t c t)
      no_update a = absurd (false≢true (sym (ap updates (z.others t h).act) ∙ a))
  taken_other t h (Finishes e a) s = (
    no_update,
    no_join,
    record {
      out = same_switch e b.store ∙ z.out;
      mine = rw (s, ne_eqb 0 t (λ i. h (sym i))) z.mine;
      others = λ u i. elim (u ==? t) [ yes j ↦ rw (eq-eqb u t j) (record { act = refl; place = resting refl }) | no j ↦ rw (ne_eqb u t j) (z.others u i) ];
    },
  )
    where
      no_update : Brief (b.threads t) (counted 0 t c t)
      no_update a = absurd (false≢true (sym (ap updates (z.others t h).act) ∙ a))

      no_join : Joined (row (shown a) 0 0) b.store (b.threads t)
      no_join = neither b.store (b.threads t) (shown a) (λ e. clash (let i = (z.others t h).act in cc)) (λ e. clash (let i = (z.others t h).act in cc))
  taken_other t h (Finds r) s = (
    (λ a. absurd (false≢true (sym (ap updates (z.others t h).act) ∙ a))),
    neither b.store (b.threads t) _ (λ e. clash (let i = (z.others t h).act in cc)) (λ e. clash (let i = (z.others t h).act in cc)),
    record {
      out = z.out;
      mine = rw (ne_eqb 0 t (λ i. h (sym i))) z.mine;
      others = λ u i. elim (u ==? t) [ yes j ↦ rw (eq-eqb u t j) (record { act = refl; place = resting refl }) | no j ↦ rw (ne_eqb u t j) (z.others u i) ];
    },
  )
  taken_other t h Full s = tt
  taken_other t h NoStore s = tt

  steps : (t : ℕ) → Kept 0 t (stepped b t y d)
  unfolding stepped
  steps t = pick 0 t _ _ _
      (λ _. pick 0 t _ _ _ (λ _. pick 0 t _ _ _ (λ _. tt) (λ i. elim (t ==? 0) [ yes e ↦ at_0 t e i | no e ↦ taken_other t e _ (looking b.store (b.threads t) z.out (z.others t e)) ])) (λ _. tt))
      (λ _. tt)
    where
      at_0 : (t : ℕ) → t ≡ 0 → is_idle (b.threads t) ≡ false → Kept 0 t (taken b t (step (place_of (b.threads t).place) (sight_of b.store) (b.threads t)))
      at_0 t e i = let i' : is_idle (b.threads 0) ≡ false = rw e at i in
          subst (λ v. Kept 0 v (taken b v (step (place_of (b.threads v).place) (sight_of b.store) (b.threads v)))) (sym e)
          (taken_mine _ (turn inv (c 0) z.out (place_of (b.threads 0).place) refl i' z.mine) (brief inv (c 0) (place_of (b.threads 0).place) refl i' z.mine))

  -- ---- starts

  begins : (n t : ℕ) (a : Action) → (t ≢ 0 → a ≡ Lookup) → Kept (suc n) t (started b t a y d)
  unfolding started
  begins n t a h = pick (suc n) t _ _ _ (λ _. tt)
      (λ _. pick (suc n) t _ _ _ (λ _. pick (suc n) t _ _ _ (λ i. ((λ _. rw (eq-eqb t t refl) (omega arith)), tt, elim (t ==? 0) [ yes e ↦ at_0 e i | no e ↦ at_other_lem e ])) (λ _. tt)) (λ _. tt))
    where
      at_0 : t ≡ 0 → is_idle (b.threads t) ≡ true → Solo (bench b.store (upd b.threads t (begun a y d 1))) (counted (suc n) t c)
      at_0 e i = let i' : is_idle (b.threads 0) ≡ true = rw e at i in
          let q = subst (λ v. Mine (place_of v) b.store (b.threads 0) (c 0)) (eqb-true (b.threads 0).place 0 i') z.mine in
          subst (λ v. Solo (bench b.store (upd b.threads v (begun a y d 1))) (counted (suc n) v c)) (sym e) (record { out = z.out; mine = (q, refl); others = λ u j. rw (ne_eqb u 0 j) (z.others u j) })

      at_other_lem : t ≢ 0 → Solo (bench b.store (upd b.threads t (begun a y d 1))) (counted (suc n) t c)
      at_other_lem e = record {
        out = z.out;
        mine = rw (ne_eqb 0 t (λ i. e (sym i))) z.mine;
        others = λ u j. elim (u ==? t) [ yes i ↦ rw (eq-eqb u t i) (record { act = h e; place = first refl }) | no i ↦ rw (ne_eqb u t i) (z.others u j) ];
      }

  -- ---- by the record's action; threads 1 to 3 start lookups only, and no thread a query

  acts : (n t : ℕ) → eqb n 6 ≡ false → (t ≢ 0 → leb 2 n && leb n 5 ≡ false) → Kept n t (acted n b t y d)
  acts zero t q h = steps t
  acts (suc zero) t q h = begins 0 t Lookup (λ _. refl)
  acts (suc (suc zero)) t q h = begins 1 t Insert (λ e. absurd (true≢false (h e)))
  acts (suc (suc (suc zero))) t q h = begins 2 t Remove (λ e. absurd (true≢false (h e)))
  acts (suc (suc (suc (suc zero)))) t q h = begins 3 t Split (λ e. absurd (true≢false (h e)))
  acts (suc (suc (suc (suc (suc zero))))) t q h = begins 4 t Join (λ e. absurd (true≢false (h e)))
  acts (suc (suc (suc (suc (suc (suc zero)))))) t q h = absurd (true≢false q)
  acts (suc (suc (suc (suc (suc (suc (suc _))))))) t q h = tt

  pub one : (l x : ℕ) → (leb (x / 16) 3 && leb (x % 16) l) && outside (x / 16) (x % 16) ≡ false → Kept (x % 16) (x / 16) (record_step b l x y d)
  unfolding record_step
  one l x h = pick (x % 16) (x / 16) _ _ _ (λ _. tt) (λ i. pick (x % 16) (x / 16) _ _ _ (λ _. tt) (λ j.
      let (p, q) = both_off (eqb (x % 16) 6) _ (rw (le-leb (x / 16) 3 (ltb-false 3 (x / 16) i), le-leb (x % 16) l (ltb-false l (x % 16) j)) at h) in
      acts (x % 16) (x / 16) p (λ e. rw (lt-ltb 0 (x / 16) (positive (x / 16) e)) at q)))
    where
      positive : (t : ℕ) → t ≢ 0 → 0 < t
      positive zero e = absurd (e refl)
      positive (suc t) e = omega arith

-- ---- the list

module _ (H : Hist) (r : Rec) (rs : List Rec) (b : Bench) (P : Plain) (f : ℕ → Option ℕ) (k : ℕ) (c : ℕ → ℕ) (z : Standing H (r ∷ rs) b P f k) (s : Solo b c) where
  abbrev c' : ℕ → ℕ
  c' = counted (r.first % 16) (r.first / 16) c

  abbrev Onward : Type 0
  Onward = (b' : Bench) (P' : Plain) → Standing H rs b' P' (firsts r k f) (suc k) → Solo b' c' → Throughout rs b' c'

  past : (o : Result) → Next H r rs b P (firsts r k f) k o → Kept z.inv c s r.second r.extra (r.first % 16) (r.first / 16) o → Onward → Past o b (r.first / 16) c' (λ b'. Throughout rs b' c')
  past (refused _) _ _ ih = tt
  past (carried b' w) (_, z') (i, j, s') ih = (i, j, ih b' (feed r (was_carried (row_added w)) P) z' s')

  choose : (q : Bool) → barred r ≡ q → Onward → Past (ite q (refused 24) (record_step b r.last r.first r.second r.extra)) b (r.first / 16) c' (λ b'. Throughout rs b' c')
  unfolding ite
  choose true e ih = tt
  choose false e ih = past (record_step b r.last r.first r.second r.extra) (next H r rs b P f k z) (one z.inv c s r.second r.extra r.last r.first e) ih

through : (H : Hist) (rs : List Rec) (b : Bench) (P : Plain) (f : ℕ → Option ℕ) (k : ℕ) (c : ℕ → ℕ) → Standing H rs b P f k → Solo b c → Throughout rs b c
unfolding profile_step
through H [] b P f k c z s = calm z.inv c s
through H (r ∷ rs) b P f k c z s = (
  calm z.inv c s,
  choose H r rs b P f k c z s (barred r) refl (λ b' P' z' s'. through H rs b' P' (firsts r k f) (suc k) (counted (r.first % 16) (r.first / 16) c) z' s'),
)

-- request l
pub one_writer : OneWriter
one_writer rs = through (moments false rs) rs (fresh false) empty (λ _. None) 0 (λ _. 0) (at_start false rs) fresh_solo
