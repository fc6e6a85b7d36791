-- One event: whether it is in place, and what the code holds after it. Assumes nothing.
use mathlib.Core.Logic.{inl, inr}
use Rattle.std.proofs.Math.Bool.{and-false}
use Rattle.std.proofs.lemmas.Bool.{cases_Bool}
use Rattle.std.specs.Prelude.{Option, Some, None}
use mathlib.Core.Path.{◌≡◌, refl, sym, ◌∙◌, ap, subst, fun_ext}
use mathlib.Core.Logic.{◌≢◌}
use mathlib.Core.Bool.{Bool, true, false, not, ◌&&◌}
use mathlib.Core.List.{List}
use Prim.Native.Nat.{ℕ, suc, ◌+◌, ◌<◌, ◌≤◌}
use native.Mathlib.Omega.{arith}
use native.Mathlib.Numerals.{add-one}
use native.Mathlib.Decide.{dec_lt}
use lib.Dec.{eqb, ltb}
use lib.ListN.{get_or, length, set, length-set}
use lib.Seq.{get_or-set_same, get_or-set_other}
use borrow.Author.Tests.{eq-eqb, ne_eqb, lt-ltb, le-ltb}
use Rattle.container.specs.Choice.{ite, upd}
use Rattle.container.specs.Container.{has, insert}
use Rattle.container.proofs.Laws.{insert_same, insert_other}
use Rattle.definitions.specs.History.{Event, Operation, Reading, begun, ended_by, noted, is_open, in_range, closes, in_place}
use Rattle.judge.specs.Search.{number_of, mark_of, operation_of, blank, held_op}
use Rattle.judge.specs.Standing.{event_of, SlotOf, SlotsOf, Proper, Stands}
use Rattle.judge.specs.declared.Asked.{Asked}
use Rattle.judge.specs.declared.Asked.TheVariants.{Lookup, Insert, Remove}
use Rattle.judge.specs.declared.Mark.{Mark}
use Rattle.judge.specs.declared.Mark.TheVariants.{Start, Finish}
use Rattle.judge.specs.declared.Op.{Op}
use Rattle.judge.specs.declared.Open.{Open}
use Rattle.judge.specs.declared.Noted.{Noted}
use Rattle.judge.specs.declared as code
use Rattle.judge.proofs.Cases.{held_is}
use Rattle.judge.proofs.Tools.{◌==?◌}

-- ---- in_place
asked_in : (a : Asked) → (ltb 0 (number_of a) ≡ true) × (ltb (number_of a) 4 ≡ true)
asked_in Lookup = (refl, refl)
asked_in Insert = (refl, refl)
asked_in Remove = (refl, refl)

mark_range : (m : Mark) → ltb (mark_of m) 3 ≡ true
mark_range Start = refl
mark_range (Finish true) = refl
mark_range (Finish false) = refl

same_number : (a b : Asked) → number_of a ≡ number_of b → a ≡ b
same_number Lookup Lookup e = refl
same_number Lookup Insert e = absurd (omega (arith, e))
same_number Lookup Remove e = absurd (omega (arith, e))
same_number Insert Lookup e = absurd (omega (arith, e))
same_number Insert Insert e = refl
same_number Insert Remove e = absurd (omega (arith, e))
same_number Remove Lookup e = absurd (omega (arith, e))
same_number Remove Insert e = absurd (omega (arith, e))
same_number Remove Remove e = refl

module _ (e : code.Event.Event) (R : Reading) where
  ranged : in_range (event_of e) ≡ true
  ranged = rw (lt-ltb e.thread 4 e.a_thread, (asked_in e.asked).0, (asked_in e.asked).1, lt-ltb e.station 64 e.a_station, mark_range e.mark)

  pub place_start : e.mark ≡ Start → in_place (event_of e) R ≡ not (is_open (R.busy e.thread))
  unfolding in_place ite
  place_start q = rw (ranged, q)

  pub place_finish : (y : Bool) → e.mark ≡ Finish y → in_place (event_of e) R ≡ closes (R.busy e.thread) (event_of e) R
  unfolding in_place ite
  place_finish true q = rw (ranged, q)
  place_finish false q = rw (ranged, q)

  pub note_start : e.mark ≡ Start → noted (event_of e) R ≡ begun (event_of e) R
  unfolding ite
  note_start q = rw q

  pub note_finish : (y : Bool) → e.mark ≡ Finish y → noted (event_of e) R ≡ ended_by (R.busy e.thread) (event_of e) R
  unfolding ite
  note_finish true q = rw q
  note_finish false q = rw q

-- ---- what is proper stays so
pub proper_begun : (R : Reading) (e : Event) → e.station < 64 → Proper R → Proper (begun e R)
proper_begun R e h p = record {
  blank = λ i l. rw (ne_eqb i R.all.count (λ q. omega arith)) (p.blank i (omega arith));
  begun = λ j q. omega (arith, p.begun j q);
  lower = λ i j. elim (i ==? R.all.count) [ yes q ↦ rw (q, eq-eqb R.all.count R.all.count refl) (p.begun j) | no q ↦ rw (ne_eqb i R.all.count q) (p.lower i j) ];
  stations = λ i. elim (i ==? R.all.count) [ yes q ↦ rw (q, eq-eqb R.all.count R.all.count refl) h | no q ↦ rw (ne_eqb i R.all.count q) (p.stations i) ];
  busy = λ t k. elim (t ==? e.thread) [
    | yes q ↦ rw (q, eq-eqb e.thread e.thread refl) (λ z. let w : R.all.count ≡ k = cc in omega arith)
    | no q ↦ rw (ne_eqb t e.thread q) (λ z. omega (arith, p.busy t k z))
  ];
}

pub proper_ended : (R : Reading) (e : Event) (k : ℕ) → k < R.all.count → Proper R → Proper (ended_by (Some k) e R)
proper_ended R e k h p = record {
  blank = λ i l. rw (ne_eqb i k (λ q. omega arith)) (p.blank i l);
  begun = λ j. elim (j ==? k) [ yes q ↦ rw (q, eq-eqb k k refl) (λ _. h) | no q ↦ rw (ne_eqb j k q) (p.begun j) ];
  lower = λ i j. elim (i ==? k) [ yes q ↦ rw (q, eq-eqb k k refl) (p.lower k j) | no q ↦ rw (ne_eqb i k q) (p.lower i j) ];
  stations = λ i. elim (i ==? k) [ yes q ↦ rw (q, eq-eqb k k refl) (p.stations k) | no q ↦ rw (ne_eqb i k q) (p.stations i) ];
  busy = λ t j. elim (t ==? e.thread) [ yes q ↦ rw (q, eq-eqb e.thread e.thread refl) (λ z. cc) | no q ↦ rw (ne_eqb t e.thread q) (p.busy t j) ];
}

-- ---- a slot
slot_none : (f : ℕ → Operation) (k : Option ℕ) (o : Option Open) → o ≡ None → SlotOf f k o → k ≡ None
slot_none f None o e h = refl
slot_none f (Some k) o e h = absurd (rw e at h)

slot_some : (f : ℕ → Operation) (k : Option ℕ) (o : Option Open) (p : Open) → o ≡ Some p → SlotOf f k o
    → (k ≡ Some p.number) × (number_of p.asked ≡ (f p.number).action) × (p.station ≡ (f p.number).station)
slot_some f None o p e h = absurd (rw e at h)
slot_some f (Some k) o p e h = let w : SlotOf f (Some k) (Some p) = subst (SlotOf f (Some k)) e h in (ap Some (sym w.1.1), rw (w.1.1) w.0, rw (w.1.1) w.1.0)

slot_frame : (f g : ℕ → Operation) (k : Option ℕ) (o : Option Open) → ((j : ℕ) → k ≡ Some j → ((f j).action ≡ (g j).action) × ((f j).station ≡ (g j).station)) → SlotOf f k o → SlotOf g k o
slot_frame f g None None h e = e
slot_frame f g None (Some o) h e = e
slot_frame f g (Some j) None h e = e
slot_frame f g (Some j) (Some o) h (e, (d, r)) = (e ∙ (h j refl).0, (d ∙ (h j refl).1, r))

-- ---- an operation that the code holds
step_ltb : (i n : ℕ) → i ≢ n → ltb i (n + 1) ≡ ltb i n
step_ltb i n h = elim (dec_lt i n) [ yes l ↦ rw (lt-ltb i n l, lt-ltb i (n + 1) (omega arith)) | no l ↦ rw (le-ltb i n (omega arith), le-ltb i (n + 1) (omega arith)) ]

-- ---- the mask of those that have finished
module _ (done i : ℕ) (f : ℕ → Bool) (so : (j : ℕ) → has done j ≡ ltb j 12 && f j) (j : ℕ) where
  mark_in : {r : ℕ} → i < 12 → r ≡ insert done i → has r j ≡ ltb j 12 && upd f i true j
  mark_in h e = rw e (elim (j ==? i) [
    | yes q ↦ rw (q, eq-eqb i i refl, lt-ltb i 12 h) (insert_same done i (omega arith))
    | no q ↦ rw (ne_eqb j i q) (insert_other done i j q ∙ so j)
  ])

  mark_past : 12 ≤ i → has done j ≡ ltb j 12 && upd f i true j
  mark_past h = elim (j ==? i) [ yes q ↦ so j ∙ rw (le-ltb j 12 (omega arith)) | no q ↦ rw (ne_eqb j i q) (so j) ]

module _ (n : Noted) (e : code.Event.Event) (R : Reading) (st : Stands n R) where
  -- ---- a start
  abbrev pub opened : Open
  opened = record { asked = e.asked; station = e.station; number = n.count }

  abbrev pub started : Op
  started = record { asked = e.asked; station = e.station; yes = false; before = n.done }

  start_slots : SlotsOf (set n.slots e.thread (Some opened)) (begun (event_of e) R)
  start_slots v l = elim (v ==? e.thread) [
    | yes q ↦ rw (q, eq-eqb e.thread e.thread refl, get_or-set_same n.slots e.thread (Some opened) None (omega (arith, st.four)), eq-eqb R.all.count R.all.count refl) (refl, (refl, st.count))
    | no q ↦ rw (ne_eqb v e.thread q, get_or-set_other n.slots e.thread v (Some opened) None q)
        (slot_frame R.all.operation (begun (event_of e) R).all.operation (R.busy v) _ (λ j z. rw (ne_eqb j R.all.count (λ w. omega (arith, st.proper.busy v j z))) (refl, refl)) (st.slots v l))
  ]

  all_finished : R.all.count < 12 → has n.done ≡ R.finished
  all_finished h = fun_ext (λ j. st.done j ∙ elim (cases_Bool (R.finished j)) [ inl q ↦ rw (q, lt-ltb j 12 (omega (arith, st.proper.begun j q))) | inr q ↦ rw (q, and-false) ])

  start_held : (ops : List Op) → (n.count < 12 → get_or ops n.count blank ≡ started) → ((i : ℕ) → i ≢ n.count → get_or ops i blank ≡ get_or n.ops i blank) → (i : ℕ) → i < 12
      → held_op (n.count + 1) ops i ≡ (begun (event_of e) R).all.operation i
  start_held ops here others i l = elim (i ==? n.count) [
    | yes q ↦ rw (eq-eqb i R.all.count (q ∙ st.count), lt-ltb i (n.count + 1) (omega arith), ap (λ x. get_or ops x blank) q ∙ here (omega arith), all_finished (omega (arith, st.count)))
    | no q ↦ rw (ne_eqb i R.all.count (λ z. q (z ∙ sym st.count)), step_ltb i n.count q, others i q) (st.held i l)
  ]

  start_stands : (ops : List Op) → length ops ≡ 12 → ((i : ℕ) → i < 12 → held_op (n.count + 1) ops i ≡ (begun (event_of e) R).all.operation i)
      → Stands (record { slots = set n.slots e.thread (Some opened); done = n.done; count = n.count + 1; ops = ops }) (begun (event_of e) R)
  start_stands ops t h = record {
    proper = proper_begun R (event_of e) e.a_station st.proper;
    four = length-set n.slots e.thread (Some opened) ∙ st.four;
    twelve = t;
    slots = start_slots;
    count = add-one n.count ∙ ap suc st.count;
    held = h;
    done = st.done;
  }

  pub start_in : n.count < 12 → Stands (record { slots = set n.slots e.thread (Some opened); done = n.done; count = n.count + 1; ops = set n.ops n.count started }) (begun (event_of e) R)
  start_in h = start_stands (set n.ops n.count started) (length-set n.ops n.count started ∙ st.twelve)
      (start_held (set n.ops n.count started) (λ _. get_or-set_same n.ops n.count started blank (omega (arith, st.twelve))) (λ i q. get_or-set_other n.ops n.count i started blank q))

  pub start_past : 12 ≤ n.count → Stands (record { slots = set n.slots e.thread (Some opened); done = n.done; count = n.count + 1; ops = n.ops }) (begun (event_of e) R)
  start_past h = start_stands n.ops st.twelve (start_held n.ops (λ l. absurd (omega arith)) (λ i q. refl))

  -- ---- a finish
  module _ (k : ℕ) (y : Bool) (doing : R.busy e.thread ≡ Some k) (em : e.mark ≡ Finish y) where
    abbrev pub ended : Op
    ended = record (get_or n.ops k blank) { yes = y }

    says : eqb (mark_of e.mark) 2 ≡ y
    says = rw em (by y)
      where
        by : (b : Bool) → eqb (mark_of (Finish b)) 2 ≡ b
        by true = refl
        by false = refl

    keeps_asked : (j : ℕ) → ((R.all.operation j).action ≡ ((ended_by (Some k) (event_of e) R).all.operation j).action)
        × ((R.all.operation j).station ≡ ((ended_by (Some k) (event_of e) R).all.operation j).station)
    keeps_asked j = elim (j ==? k) [ yes q ↦ rw (q, eq-eqb k k refl) (refl, refl) | no q ↦ rw (ne_eqb j k q) (refl, refl) ]

    finish_slots : SlotsOf (set n.slots e.thread None) (ended_by (Some k) (event_of e) R)
    finish_slots v l = elim (v ==? e.thread) [
      | yes q ↦ rw (q, eq-eqb e.thread e.thread refl, get_or-set_same n.slots e.thread None None (omega (arith, st.four))) tt
      | no q ↦ rw (
        ne_eqb v e.thread q,
        get_or-set_other n.slots e.thread v None None q,
      ) (slot_frame R.all.operation (ended_by (Some k) (event_of e) R).all.operation (R.busy v) _ (λ j z. keeps_asked j) (st.slots v l))
    ]

    finish_held : (ops : List Op) → (k < 12 → get_or ops k blank ≡ ended) → ((i : ℕ) → i ≢ k → get_or ops i blank ≡ get_or n.ops i blank) → (i : ℕ) → i < 12
        → held_op n.count ops i ≡ (ended_by (Some k) (event_of e) R).all.operation i
    finish_held ops here others i l = elim (i ==? k) [
      | yes q ↦
          let low : k < n.count = omega (arith, st.count, st.proper.busy e.thread k doing) in
          let old : operation_of (get_or n.ops k blank) ≡ R.all.operation k = sym (held_is n.count n.ops k low) ∙ st.held k (omega arith) in
          rw (q, eq-eqb k k refl, lt-ltb k n.count low, here (omega arith), says, ← old)
      | no q ↦ rw (ne_eqb i k q, others i q) (st.held i l)
    ]

    finish_stands : (ops : List Op) (done : ℕ) → length ops ≡ 12 → ((i : ℕ) → i < 12 → held_op n.count ops i ≡ (ended_by (Some k) (event_of e) R).all.operation i)
        → ((j : ℕ) → has done j ≡ ltb j 12 && upd R.finished k true j)
        → Stands (record { slots = set n.slots e.thread None; done = done; count = n.count; ops = ops }) (ended_by (Some k) (event_of e) R)
    finish_stands ops done t h d = record {
      proper = proper_ended R (event_of e) k (st.proper.busy e.thread k doing) st.proper;
      four = length-set n.slots e.thread None ∙ st.four;
      twelve = t;
      slots = finish_slots;
      count = st.count;
      held = h;
      done = d;
    }

    pub finish_in : (done : ℕ) → k < 12 → done ≡ insert n.done k
        → Stands (record { slots = set n.slots e.thread None; done = done; count = n.count; ops = set n.ops k ended }) (ended_by (Some k) (event_of e) R)
    finish_in done h d = finish_stands (set n.ops k ended) done (length-set n.ops k ended ∙ st.twelve)
        (finish_held (set n.ops k ended) (λ _. get_or-set_same n.ops k ended blank (omega (arith, st.twelve))) (λ i q. get_or-set_other n.ops k i ended blank q))
        (λ j. mark_in n.done k R.finished st.done j h d)

    pub finish_past : 12 ≤ k → Stands (record { slots = set n.slots e.thread None; done = n.done; count = n.count; ops = n.ops }) (ended_by (Some k) (event_of e) R)
    finish_past h = finish_stands n.ops n.done st.twelve (finish_held n.ops (λ l. absurd (omega arith)) (λ i q. refl)) (λ j. mark_past n.done k R.finished st.done j h)

  -- ---- an event in its place, or out of it
  slot : SlotOf R.all.operation (R.busy e.thread) (get_or n.slots e.thread None)
  slot = st.slots e.thread e.a_thread

  pub idle_start : e.mark ≡ Start → get_or n.slots e.thread None ≡ None → in_place (event_of e) R ≡ true
  idle_start m q = place_start e R m ∙ ap (λ k. not (is_open k)) (slot_none R.all.operation (R.busy e.thread) _ q slot)

  pub idle_finish : (y : Bool) → e.mark ≡ Finish y → get_or n.slots e.thread None ≡ None → in_place (event_of e) R ≡ false
  idle_finish y m q = place_finish e R y m ∙ ap (λ k. closes k (event_of e) R) (slot_none R.all.operation (R.busy e.thread) _ q slot)

  module _ (p : Open) (q : get_or n.slots e.thread None ≡ Some p) where
    busy : (R.busy e.thread ≡ Some p.number) × (number_of p.asked ≡ (R.all.operation p.number).action) × (p.station ≡ (R.all.operation p.number).station)
    busy = slot_some R.all.operation (R.busy e.thread) _ p q slot

    pub busy_slot : R.busy e.thread ≡ Some p.number
    busy_slot = busy.0

    pub busy_start : e.mark ≡ Start → in_place (event_of e) R ≡ false
    busy_start m = place_start e R m ∙ ap (λ k. not (is_open k)) busy.0

    closing : (y : Bool) → e.mark ≡ Finish y → in_place (event_of e) R ≡ eqb (number_of e.asked) (number_of p.asked) && eqb e.station p.station
    closing y m = place_finish e R y m ∙ ap (λ k. closes k (event_of e) R) busy.0 ∙ rw (← busy.1, ← busy.2)

    pub finish_of : (y : Bool) → e.mark ≡ Finish y → p.asked ≡ e.asked → p.station ≡ e.station → in_place (event_of e) R ≡ true
    finish_of y m a s = closing y m ∙ rw (eq-eqb (number_of e.asked) (number_of p.asked) (ap number_of (sym a)), eq-eqb e.station p.station (sym s))

    pub finish_other : (y : Bool) → e.mark ≡ Finish y → (p.asked ≡ e.asked → p.station ≡ e.station → ⊥) → in_place (event_of e) R ≡ false
    finish_other y m h = closing y m ∙ elim (number_of e.asked ==? number_of p.asked) [
      | no a ↦ rw (ne_eqb (number_of e.asked) (number_of p.asked) a)
      | yes a ↦ rw (eq-eqb (number_of e.asked) (number_of p.asked) a) (ne_eqb e.station p.station (λ s. h (sym (same_number e.asked p.asked a)) (sym s)))
    ]
