-- Record by record: a start, a step that goes on, a step that ends; then the induction over the list of records. Assumes nothing.
use Rattle.std.specs.Prelude.{Option, Some, None}
use mathlib.Core.Path.{◌≡◌, refl, sym, ◌∙◌, ap, subst, fun_ext}
use mathlib.Core.Logic.{◌≢◌, inl, inr}
use mathlib.Core.Bool.{Bool, true, false, not}
use mathlib.Core.List.{List, [], ◌∷◌, ◌++◌}
use Prim.Native.Nat.{ℕ, suc, ◌/◌, ◌%◌, ◌<◌, ◌≤◌}
use native.Mathlib.Omega.{arith}
use lib.Dec.{eqb}
use borrow.Author.Tests.{eq-eqb, ne_eqb, lt-ltb}
use Rattle.container.specs.Choice.{ite, upd}
use Rattle.definitions.specs.declared.Action.{Action}
use Rattle.definitions.specs.declared.Action.TheVariants.{Lookup, Insert, Remove, Split, Join, Query}
use Rattle.definitions.specs.Bench.{Bench}
use Rattle.definitions.specs.Records.{no_row, row, Result, refused, carried, record_step, action_number}
use Rattle.definitions.specs.Answers.{said}
use Rattle.definitions.specs.declared.Answer.{Answer}
use Rattle.definitions.specs.Schedule.{Rec}
use Rattle.definitions.specs.PlainSet.{Plain, doing, settled, settled_by, finish, start, carried_out}
use Rattle.definitions.specs.Claim.{first_steps, opened, moment}
use Rattle.definitions.specs.SetClaim.{Fits}
use Rattle.passing.proofs.Standing.{Hist, Standing, firsts, Next, next, now_is}
use Rattle.definitions.specs.History.{Event, Reading, noted, in_place}
use Rattle.definitions.specs.Judgement.{action_of, reply}
use Rattle.definitions.specs.Written.{finish_mark, event_of, events_by, events_from, OnlyThree, AllFinished}
use Rattle.passing.specs.Lists.{end_by, end_from}
use Rattle.passing.proofs.Did.{Did, did, Started, Moved, Ended}
use Rattle.passing.proofs.Tidy.{Tidy, tidy_begun, tidy_ended}
use Rattle.passing.proofs.Linked as L
use Rattle.passing.proofs.Linked.{Linked, Open, rested, linked_start, linked_moved, linked_ended}
use Rattle.passing.proofs.Pass.{Passed, noted_start, noted_finish, stops, on_start, on_move, on_update, on_lookup}

-- ---- a start is in place, and a finish
number_low : (a : Action) → 0 < action_number a
number_low Lookup = omega arith
number_low Insert = omega arith
number_low Remove = omega arith
number_low Split = omega arith
number_low Join = omega arith
number_low Query = omega arith

-- the answer of a lookup, an insert or a remove
mark_low : (a : Answer) (v : Bool) → a ≡ said v → finish_mark a < 3
mark_low a true e = rw e (omega arith)
mark_low a false e = rw e (omega arith)

mark_says : (a : Answer) (v : Bool) → a ≡ said v → eqb (finish_mark a) 2 ≡ v
mark_says a true e = rw e
mark_says a false e = rw e

module _ (e : Event) (R : Reading) (t : e.thread < 4) (a : 0 < e.action) (b : e.action ≤ 3) (s : e.station < 64) where
  start_in : e.mark ≡ 0 → R.busy e.thread ≡ None → in_place e R ≡ true
  unfolding in_place ite
  start_in m f = rw (lt-ltb e.thread 4 t, lt-ltb 0 e.action a, lt-ltb e.action 4 (omega arith), lt-ltb e.station 64 s, lt-ltb e.mark 3 (omega arith), eq-eqb e.mark 0 m, f)

  finish_in : (i : ℕ) → e.mark ≢ 0 → e.mark < 3 → R.busy e.thread ≡ Some i → e.action ≡ (R.all.operation i).action → e.station ≡ (R.all.operation i).station → in_place e R ≡ true
  unfolding in_place ite
  finish_in i m l d x y = rw (
    lt-ltb e.thread 4 t,
    lt-ltb 0 e.action a,
    lt-ltb e.action 4 (omega arith),
    lt-ltb e.station 64 s,
    lt-ltb e.mark 3 l,
    ne_eqb e.mark 0 m,
    d,
    eq-eqb e.action (R.all.operation i).action x,
    eq-eqb e.station (R.all.operation i).station y,
  )

-- ---- a start record by its action
carried_start : (a : Action) (t y : ℕ) (P : Plain) → carried_out (action_number a) t y false P ≡ start t a y P
carried_start Lookup t y P = refl
carried_start Insert t y P = refl
carried_start Remove t y P = refl
carried_start Split t y P = refl
carried_start Join t y P = refl
carried_start Query t y P = refl

first_start : (a : Action) (t k : ℕ) (f : ℕ → Option ℕ) → first_steps (action_number a) t k f ≡ upd f t None
first_start Lookup t k f = refl
first_start Insert t k f = refl
first_start Remove t k f = refl
first_start Split t k f = refl
first_start Join t k f = refl
first_start Query t k f = refl

abbrev start_event : Rec → Action → Event
start_event r a = record { thread = r.first / 16; action = action_number a; station = r.second; mark = 0 }

abbrev end_event : Rec → Bench → Answer → Event
end_event r b a = record { thread = r.first / 16; action = action_number (b.threads (r.first / 16)).action; station = (b.threads (r.first / 16)).station; mark = finish_mark a }

event_start : (a : Action) (b : Bench) (r : Rec) → event_of (action_number a) b r no_row ≡ start_event r a ∷ []
event_start Lookup b r = refl
event_start Insert b r = refl
event_start Remove b r = refl
event_start Split b r = refl
event_start Join b r = refl
event_start Query b r = refl

module _ (H : Hist) (r : Rec) (rs : List Rec) (b b' : Bench) (P : Plain) (f : ℕ → Option ℕ) (k : ℕ) (R : Reading) (z : Standing H (r ∷ rs) b P f k) (l : Linked b P R)
    (tidy : Tidy R) (small : r.first / 16 < 4) where
  abbrev Onward : Type 0
  Onward = (P' : Plain) (f' : ℕ → Option ℕ) (R' : Reading) → Standing H rs b' P' f' (suc k) → Linked b' P' R' → Tidy R' → OnlyThree (events_from rs b') → AllFinished (end_from rs b')
      → Passed H (events_from rs b') R' f' (suc k)

  abbrev t : ℕ
  t = r.first / 16

  -- the plain set at the two moments
  set_now : (s : ℕ) → H k s ≡ P.set s
  set_now = now_is H (r ∷ rs) b P f k z

  start_case : (n : ℕ) → Started b t r.second n b' → Standing H rs b' (carried_out n t r.second false P) (first_steps n t k f) (suc k)
      → OnlyThree (event_of n b r no_row ++ events_from rs b') → AllFinished (end_from rs b') → Onward → Passed H (event_of n b r no_row ++ events_from rs b') R f k
  start_case n s z' o fin ih = subst (λ v. Passed H (v ++ events_from rs b') R f k) (sym is)
      (on_start H e (events_from rs b') R f k tidy quiet refl small free (start_in e R small (number_low s.what) three.0 s.low refl free)
      (ih (start t s.what r.second P) (upd f t None) (noted e R) standing linked tidy' three.1 fin))
    where
      e : Event
      e = start_event r s.what

      is : event_of n b r no_row ≡ e ∷ []
      is = ap (λ v. event_of v b r no_row) s.number ∙ event_start s.what b r

      three : OnlyThree (e ∷ events_from rs b')
      three = subst (λ v. OnlyThree (v ++ events_from rs b')) is o

      free : R.busy t ≡ None
      free = rested b P R t l s.rested

      standing : Standing H rs b' (start t s.what r.second P) (upd f t None) (suc k)
      standing = subst (λ v. Standing H rs b' (start t s.what r.second P) v (suc k)) (ap (λ v. first_steps v t k f) s.number ∙ first_start s.what t k f)
          (subst (λ v. Standing H rs b' v (first_steps n t k f) (suc k)) (ap (λ v. carried_out v t r.second false P) s.number ∙ carried_start s.what t r.second P) z')

      quiet : H (suc k) ≡ H k
      quiet = fun_ext (λ v. now_is H rs b' (start t s.what r.second P) (upd f t None) (suc k) standing v ∙ sym (set_now v))

      linked : Linked b' (start t s.what r.second P) (noted e R)
      linked = subst (λ Q. Linked b' (start t s.what r.second P) Q) (sym (noted_start e R refl)) (linked_start b b' P R l tidy e r.second n s (sym s.number) refl)

      tidy' : Tidy (noted e R)
      tidy' = subst (λ Q. Tidy Q) (sym (noted_start e R refl)) (tidy_begun R e tidy small)

  move_case : (n : ℕ) → Moved b t n b' → Standing H rs b' (carried_out n t r.second false P) (first_steps n t k f) (suc k)
      → OnlyThree (event_of n b r no_row ++ events_from rs b') → AllFinished (end_from rs b') → Onward → Passed H (event_of n b r no_row ++ events_from rs b') R f k
  move_case n m z' o fin ih = subst (λ v. Passed H (event_of v b r no_row ++ events_from rs b') R f k) (sym m.number) (on_move H (events_from rs b') R f k t tidy quiet
      (ih P (upd f t (opened (f t) k)) R standing (linked_moved b b' P R l tidy t n m) tidy (subst (λ v. OnlyThree (event_of v b r no_row ++ events_from rs b')) m.number o) fin))
    where
      standing : Standing H rs b' P (upd f t (opened (f t) k)) (suc k)
      standing = subst (λ v. Standing H rs b' (carried_out v t r.second false P) (first_steps v t k f) (suc k)) m.number z'

      quiet : H (suc k) ≡ H k
      quiet = fun_ext (λ v. now_is H rs b' P (upd f t (opened (f t) k)) (suc k) standing v ∙ sym (set_now v))

  end_case : (n : ℕ) (a : Answer) (d c : ℕ) → Ended b t n b' → Standing H rs b' (carried_out n t r.second true P) (first_steps n t k f) (suc k)
      → Fits (P.operation t) (b.threads t).place P H (moment (first_steps n t k f t)) k a
      → OnlyThree (event_of n b r (row a d c) ++ events_from rs b') → AllFinished (end_from rs b') → Onward → Passed H (event_of n b r (row a d c) ++ events_from rs b') R f k
  end_case n a d c g z' fits o fin ih = subst (λ v. Passed H (event_of v b r (row a d c) ++ events_from rs b') R f k) (sym g.number) (by (b.threads t).action refl fits')
    where
      e : Event
      e = end_event r b a

      op : Open b P R t
      op = L.opened b P R t l g.busy

      i : ℕ
      i = op.number

      st : ℕ
      st = (b.threads t).station

      three : OnlyThree (e ∷ events_from rs b')
      three = subst (λ v. OnlyThree (event_of v b r (row a d c) ++ events_from rs b')) g.number o

      fits' : Fits (doing (b.threads t).action st) (b.threads t).place P H (moment (first_steps 0 t k f t)) k a
      fits' = subst (λ v. Fits v (b.threads t).place P H (moment (first_steps 0 t k f t)) k a) op.plain
          (subst (λ v. Fits (P.operation t) (b.threads t).place P H (moment (first_steps v t k f t)) k a) g.number fits)

      standing : Standing H rs b' (finish t P) (upd f t (opened (f t) k)) (suc k)
      standing = subst (λ v. Standing H rs b' (carried_out v t r.second true P) (first_steps v t k f) (suc k)) g.number z'

      some : e.mark ≢ 0
      some q = omega (arith, q)

      pl : e.mark < 3 → in_place e R ≡ true
      pl low = finish_in e R small (number_low (b.threads t).action) three.0 op.low i some low op.busy (sym op.action) (sym op.station)

      tail : Passed H (events_from rs b') (noted e R) (upd f t (opened (f t) k)) (suc k)
      tail = ih (finish t P) (upd f t (opened (f t) k)) (noted e R) standing
          (subst (λ Q. Linked b' (finish t P) Q) (sym (noted_finish e R i some op.busy)) (linked_ended b b' P R l tidy e n i g op.busy))
          (subst (λ Q. Tidy Q) (sym (noted_finish e R i some op.busy)) (tidy_ended R e tidy i op.busy)) three.1 fin

      after : (s : ℕ) → H (suc k) s ≡ settled (b.threads t).action st (H k) s
      after s = now_is H rs b' (finish t P) (upd f t (opened (f t) k)) (suc k) standing s ∙ ap (λ x. settled_by x P.set s) op.plain
          ∙ ap (λ S. settled (b.threads t).action st S s) (sym (fun_ext set_now))

      action_is : (act : Action) → (b.threads t).action ≡ act → (R.all.operation i).action ≡ action_number act
      action_is act q = op.action ∙ ap action_number q

      update : (act : Action) (v : Bool) → (b.threads t).action ≡ act → action_of (R.all.operation i).action ≡ act → a ≡ said v → v ≡ reply act st (H k) → Passed H (e ∷ events_from rs b') R f k
      update act v q x m y = on_update H e (events_from rs b') R f k i tidy v (mark_says a v m) some op.busy (pl (mark_low a v m)) tail
          (rw (x, op.station) y)
          (rw (x, op.station) (fun_ext (λ s. sym (after s ∙ ap (λ v. settled v st (H k) s) q))))

      by : (act : Action) → (b.threads t).action ≡ act → Fits (doing act st) (b.threads t).place P H (moment (first_steps 0 t k f t)) k a → Passed H (e ∷ events_from rs b') R f k
      by Lookup q (j, lo, hi, y) = on_lookup H e (events_from rs b') R f k i tidy (H j st) (mark_says a (H j st) y) some op.busy (pl (mark_low a (H j st) y)) tail
          (ap action_of (action_is Lookup q)) (fun_ext (λ s. after s ∙ ap (λ v. settled v st (H k) s) q)) j lo hi (ap (H j) (sym op.station))
      by Insert q y = update Insert (not (P.set st)) q (ap action_of (action_is Insert q)) y.0 (ap not (sym (set_now st)))
      by Remove q y = update Remove (P.set st) q (ap action_of (action_is Remove q)) y.0 (sym (set_now st))
      by Split q y = absurd (omega (arith, three.0, ap action_number q))
      by Join q y = absurd (omega (arith, three.0, ap action_number q))
      by Query q y = absurd (omega (arith, three.0, ap action_number q))

pub pass : (H : Hist) (rs : List Rec) (b : Bench) (P : Plain) (f : ℕ → Option ℕ) (k : ℕ) (R : Reading) → Standing H rs b P f k → Linked b P R → Tidy R
    → OnlyThree (events_from rs b) → AllFinished (end_from rs b) → Passed H (events_from rs b) R f k
pass H [] b P f k R z l tidy o fin = stops H b P R f k l tidy fin
pass H (r ∷ rs) b P f k R z l tidy o fin =
    go (record_step b r.last r.first r.second r.extra) (next H r rs b P f k z) (did b r.last r.first r.second r.extra) o fin (λ b' P' f' R'. pass H rs b' P' f' (suc k) R')
  where
    go : (res : Result) → Next H r rs b P (firsts r k f) k res → Did b (r.first / 16) r.second (r.first % 16) res
        → OnlyThree (events_by res b r (λ b'. events_from rs b')) → AllFinished (end_by res b (λ b'. end_from rs b'))
        → ((b' : Bench) (P' : Plain) (f' : ℕ → Option ℕ) (R' : Reading) → Standing H rs b' P' f' (suc k) → Linked b' P' R' → Tidy R' → OnlyThree (events_from rs b')
        → AllFinished (end_from rs b') → Passed H (events_from rs b') R' f' (suc k))
        → Passed H (events_by res b r (λ b'. events_from rs b')) R f k
    go (refused _) _ _ o fin ih = stops H b P R f k l tidy fin
    go (carried b' no_row) (_, z') (small, inl s) o fin ih = start_case H r rs b b' P f k R z l tidy small (r.first % 16) s z' o fin (ih b')
    go (carried b' no_row) (_, z') (small, inr m) o fin ih = move_case H r rs b b' P f k R z l tidy small (r.first % 16) m z' o fin (ih b')
    go (carried b' (row a d c)) (fits, z') (small, g) o fin ih = end_case H r rs b b' P f k R z l tidy small (r.first % 16) a d c g z' fits o fin (ih b')
