-- The whole file: its form, all its events, and the report. Assumes nothing.
use mathlib.Core.Logic.{inl, inr}
use Rattle.std.proofs.lemmas.Bool.{cases_Bool}
use Rattle.std.specs.Prelude.{◌↔◌, Option, Some, None, is_some, IsSome, IfSome, IsNone, IsTrue, Result, Ok, Err, IsErrAnd, IfErr}
use Rattle.std.proofs.Math.Bool.{or-true, and-false}
use Rattle.std.proofs.lemmas.List.{get_or_default, get_or-replicate, get_or-take, get_or-drop, length-drop, take_all}
use Rattle.std.specs.Option.{unwrap_or}
use Rattle.std.specs.List.{Any}
use Rattle.std.specs.Simd.{first_chunks}
use mathlib.Core.Path.{◌≡◌, refl, sym, ◌∙◌, ap, subst, fun_ext}
use mathlib.Core.Logic.{◌≢◌}
use mathlib.Core.Bool.{Bool, true, false, ◌&&◌, ◌||◌, true≢false}
use mathlib.Core.List.{List, [], ◌∷◌}
use Prim.Native.Nat.{ℕ, zero, suc, ◌+◌, ◌-◌, ◌*◌, ◌/◌, ◌<◌, ◌≤◌}
use native.Mathlib.Omega.{arith}
use native.Mathlib.Numerals.{add-one}
use native.Mathlib.Decide.{dec_lt}
use lib.Dec.{ltb}
use lib.Pow.{pow_pos}
use lib.ListN.{get_or, length, replicate, take, drop}
use borrow.Author.Tests.{eq-eqb, ne_eqb, lt-ltb, le-ltb}
use Rattle.container.specs.Choice.{ite}
use Rattle.container.proofs.Laws.{has_none}
use Rattle.definitions.specs.Schedule.{count_of}
use Rattle.definitions.specs.History.{Event, Events, events_of, Operation, Operations, operations, Reading, unread, noted, is_open, in_range}
use Rattle.definitions.specs.History.{in_place, reading, reading_of, all_in_place, unfinished, form_refusal, events_refusal, history_refusal}
use Rattle.definitions.specs.Judgement.{Order, FirstOrder, padded, Verdict, accepts, rejects, Refused, Decided, JudgementBy, Judgement}
use Rattle.judge.specs.Search.{held_op, held_of, blank, Rest, Best, Entry, dead, alive, Filled}
use Rattle.judge.specs.Standing.{event, SlotOf, Proper, Stands}
use Rattle.definitions.specs.declared.Judged.{Judged}
use Rattle.definitions.specs.Refusal.{refusal_number}
use Rattle.definitions.specs.declared.Refusal.{Refusal}
use Rattle.judge.specs.declared.Next.{Next}
use Rattle.judge.specs.declared.Next.TheVariants.{Dead, Done, Go}
use Rattle.judge.specs.declared.Open.{Open}
use Rattle.judge.specs.declared.Noted.{Noted}
use Rattle.judge.proofs.Rest.{no_order}
use Rattle.judge.proofs.Table.{down_none}

-- ---- before the first event
pub unread_proper : Proper unread
unread_proper = record {
  blank = λ i l. refl;
  begun = λ j q. absurd (true≢false (sym q));
  lower = λ i j q. absurd (true≢false (sym q));
  stations = λ i. omega arith;
  busy = λ t k q. cc;
}

pub unread_stands : Stands (record { slots = replicate 4 None; done = 0; count = 0; ops = replicate 12 blank }) unread
unread_stands = record {
  proper = unread_proper;
  four = refl;
  twelve = refl;
  slots = λ t l. rw (get_or-replicate {A = Option Open} 4 t None None l) tt;
  count = refl;
  held = λ i l. rw (le-ltb i 0 (omega arith));
  done = λ j. has_none j ∙ sym (and-false (ltb j 12));
}

-- ---- all the events
pub read_start : (E : Events) (n : Noted) → Stands n unread → Stands n (reading E 0)
unfolding reading
read_start E n s = s

pub all_start : (E : Events) → all_in_place E 0 ≡ true
unfolding all_in_place
all_start E = refl

pub all_step : (E : Events) (k : ℕ) → all_in_place E k ≡ true → in_place (E k) (reading E k) ≡ true → all_in_place E (k + 1) ≡ true
unfolding all_in_place
all_step E k h q = rw (add-one k, h) q

pub read_step : (E : Events) (k : ℕ) (n : Noted) → Stands n (noted (E k) (reading E k)) → Stands n (reading E (k + 1))
unfolding reading
read_step E k n s = rw (add-one k) s

all_after : (E : Events) (k j : ℕ) → all_in_place E k ≡ false → all_in_place E (j + k) ≡ false
unfolding all_in_place
all_after E k zero h = let e : 0 + k ≡ k = omega arith in rw e h
all_after E k (suc j) h = let e : suc j + k ≡ suc (j + k) = omega arith in rw (e, all_after E k j h)

pub all_stop : (E : Events) (k n m : ℕ) → k < n → n ≡ m → in_place (E k) (reading E k) ≡ false → all_in_place E m ≡ false
unfolding all_in_place
all_stop E k n m h e q = subst (λ x. all_in_place E x ≡ false) (rest n h ∙ e) (all_after E (suc k) (n - suc k) (last (all_in_place E k)))
  where
    rest : (n : ℕ) → k < n → (n - suc k) + suc k ≡ n
    rest n h = omega arith

    last : (b : Bool) → b && in_place (E k) (reading E k) ≡ false
    last true = q
    last false = refl

pub out_of_range : (e : Event) (R : Reading) → in_range e ≡ false → in_place e R ≡ false
unfolding in_place
out_of_range e R h = rw h

-- ---- an event is a chunk of four bytes after the header
chunk_at : (n k : ℕ) (xs d : List ℕ) (j : ℕ) → k < n → j < 4 → get_or (get_or (first_chunks 4 n xs) k d) j 0 ≡ get_or xs (4 * k + j) 0
chunk_at zero k xs d j h l = absurd (omega arith)
chunk_at (suc n) zero xs d j h l = get_or-take 4 xs j 0 l ∙ ap (λ i. get_or xs i 0) (omega arith)
chunk_at (suc n) (suc k) xs d j h l = chunk_at n k (drop 4 xs) d j (omega arith) l ∙ get_or-drop 4 xs (4 * k + j) 0 ∙ ap (λ i. get_or xs i 0) (omega arith)

pub event_at : (file d : List ℕ) (es : List (List ℕ)) (n k : ℕ) → es ≡ first_chunks 4 n (drop 3 file) → k < n → let b = get_or es k d in
    event (get_or b 0 0) (get_or b 1 0) (get_or b 2 0) (get_or b 3 0) ≡ events_of file k
event_at file d es n k e h = rw e (rw (byte 0 (omega arith), byte 1 (omega arith), byte 2 (omega arith), byte 3 (omega arith)) refl)
  where
    byte : (j : ℕ) → j < 4 → get_or (get_or (first_chunks 4 n (drop 3 file)) k d) j 0 ≡ get_or file (3 + j + 4 * k) 0
    byte j l = chunk_at n k (drop 3 file) d j h l ∙ get_or-drop 3 file (4 * k + j) 0 ∙ ap (λ i. get_or file i 0) (omega arith)

-- the chunks of what stands after the header
pub chunks_of : (file rest : List ℕ) (es : List (List ℕ)) (n : ℕ) → rest ≡ take (length file - 3) (drop 3 file) → length rest ≡ 4 * n
    → es ≡ first_chunks 4 (length rest / 4) rest → length es ≡ length rest / 4 → (length es ≡ n) × (es ≡ first_chunks 4 n (drop 3 file))
chunks_of file rest es n r l e k = let m : length rest / 4 ≡ n = omega arith in (k ∙ m, e ∙ rw (m, r ∙ take_all (length file - 3) (drop 3 file) (omega (arith, length-drop 3 file))) refl)

-- ---- is_open
open_slot : (f : ℕ → Operation) (k : Option ℕ) (o : Option Open) → SlotOf f k o → is_open k ≡ is_some o
open_slot f None None e = refl
open_slot f None (Some o) e = absurd e
open_slot f (Some k) None e = absurd e
open_slot f (Some k) (Some o) e = refl

-- the four threads, one by one
of_four : (f : ℕ → Bool) (t : ℕ) → t < 4 → f t ≡ true → f 0 || (f 1 || (f 2 || f 3)) ≡ true
of_four f zero h e = rw e
of_four f (suc zero) h e = rw e (or-true (f 0))
of_four f (suc (suc zero)) h e = rw (e, or-true (f 1)) (or-true (f 0))
of_four f (suc (suc (suc zero))) h e = rw (e, or-true (f 2), or-true (f 1)) (or-true (f 0))
of_four f (suc (suc (suc (suc t)))) h e = absurd (omega arith)

module _ (n : Noted) (R : Reading) (st : Stands n R) where
  open_is : (t : ℕ) → t < 4 → is_open (R.busy t) ≡ is_some (get_or n.slots t None)
  open_is t h = open_slot R.all.operation (R.busy t) (get_or n.slots t None) (st.slots t h)

  pub open_of : (v : Bool) → (IsTrue v ↔ Any (λ slot. IsSome slot) n.slots) → v ≡ unfinished R
  unfolding unfinished
  open_of true h =
      let (t, o, l, e, some) = h.0 refl in
      let small : t < 4 = omega (arith, st.four, l) in
      sym (of_four (λ u. is_open (R.busy u)) t small (open_is t small ∙ ap is_some (get_or_default n.slots t None o l ∙ e) ∙ some))
  open_of false h = rw (closed 0 (omega arith), closed 1 (omega arith), closed 2 (omega arith), closed 3 (omega arith))
    where
      closed : (t : ℕ) → t < 4 → is_open (R.busy t) ≡ false
      closed t l = open_is t l ∙ elim (cases_Bool (is_some (get_or n.slots t None))) [
        | inl q ↦ absurd (true≢false (sym (h.1 (t, get_or n.slots t None, omega (arith, st.four), get_or_default n.slots t _ _ (omega (arith, st.four)), q))))
        | inr q ↦ q
      ]

-- ---- the form
module _ (file : List ℕ) where
  pub form_short : length file < 3 → form_refusal file ≡ 1
  unfolding form_refusal ite
  form_short h = simp (lt-ltb _ _ h)

  pub form_version : 3 ≤ length file → get_or file 0 0 ≢ 1 → form_refusal file ≡ 2
  unfolding form_refusal ite
  form_version h k = simp (le-ltb _ _ h, ne_eqb _ _ k)

  pub form_length : 3 ≤ length file → get_or file 0 0 ≡ 1 → (length file ≡ 3 + 4 * count_of file → ⊥) → form_refusal file ≡ 4
  unfolding form_refusal ite
  form_length h k m = simp (le-ltb _ _ h, eq-eqb _ _ k, ne_eqb _ _ m)

  pub form_right : 3 ≤ length file → get_or file 0 0 ≡ 1 → length file ≡ 3 + 4 * count_of file → form_refusal file ≡ 0
  unfolding form_refusal ite
  form_right h k m = simp (le-ltb _ _ h, eq-eqb _ _ k, eq-eqb _ _ m)

-- ---- the refusal
refused_number : (w : Refusal) → refusal_number w ≢ 0
refused_number = grind arith

module _ (file : List ℕ) where
  pub refusal_form : (why : Refusal) → form_refusal file ≡ refusal_number why → history_refusal file ≡ refusal_number why
  unfolding history_refusal ite
  refusal_form why e = rw (ne_eqb (form_refusal file) 0 (λ z. refused_number why (sym e ∙ z))) e

  module _ (z : form_refusal file ≡ 0) where
    pub refusal_place : all_in_place (events_of file) (count_of file) ≡ false → history_refusal file ≡ 21
    unfolding history_refusal events_refusal ite
    refusal_place p = rw (eq-eqb (form_refusal file) 0 z, p)

    module _ (p : all_in_place (events_of file) (count_of file) ≡ true) where
      pub refusal_many : 12 < (reading_of file).all.count → history_refusal file ≡ 22
      unfolding history_refusal events_refusal ite
      refusal_many h = rw (eq-eqb (form_refusal file) 0 z, p, lt-ltb 12 (reading_of file).all.count h)

      module _ (few : (reading_of file).all.count ≤ 12) where
        pub refusal_open : unfinished (reading_of file) ≡ true → history_refusal file ≡ 23
        unfolding history_refusal events_refusal ite
        refusal_open o = rw (eq-eqb (form_refusal file) 0 z, p, le-ltb 12 (reading_of file).all.count few, o)

        pub refusal_none : unfinished (reading_of file) ≡ false → history_refusal file ≡ 0
        unfolding history_refusal events_refusal ite
        refusal_none o = rw (eq-eqb (form_refusal file) 0 z, p, le-ltb 12 (reading_of file).all.count few, o)

-- ---- decide
module _ (R : Operations) (table : List Next) (filled : Filled R table 0) where
  entry : Entry R 0 (get_or table 0 Dead)
  entry = filled 0 (omega arith) (pow_pos R.count) (down_none R)

  pub decide_no : get_or table 0 Dead ≡ Dead → (l : List ℕ) → Order R l → ⊥
  decide_no z = no_order R (go entry)
    where
      go : Entry R 0 (get_or table 0 Dead) → (l : List ℕ) → Rest R 0 l → ⊥
      go (dead h _) = h
      go (alive [] _ v) = let w : Dead ≡ Done = sym z ∙ v in cc
      go (alive (k ∷ l) _ v) = let w : Dead ≡ Go k = sym z ∙ v in cc

  pub decide_yes : get_or table 0 Dead ≢ Dead → (l : List ℕ) × Best R 0 l
  decide_yes z = go entry
    where
      go : Entry R 0 (get_or table 0 Dead) → (l : List ℕ) × Best R 0 l
      go (dead _ v) = absurd (z v)
      go (alive l b _) = (l, b)

-- the report on the first order, or on the lack of one
pub decided : (R : Operations) (first : Option (List ℕ)) (r : Judged) → IfSome first (λ order. (l : List ℕ) × FirstOrder R l × (order ≡ padded l))
    → (IsNone first → (l : List ℕ) → Order R l → ⊥) → r.accepted ≡ is_some first → r.order ≡ unwrap_or first (padded []) → Verdict R r
decided R None r some none a o = rejects (none refl) a o
decided R (Some order) r (l, first, is) none a o = accepts l first a (o ∙ is)

-- ---- what the code holds at the end
module _ (n : Noted) (R : Reading) (st : Stands n R) (few : R.all.count ≤ 12) where
  same_op : (i : ℕ) → held_op n.count n.ops i ≡ R.all.operation i
  same_op i = elim (dec_lt i 12) [
    | yes h ↦ st.held i h
    | no h ↦ rw (le-ltb i n.count (omega (arith, st.count))) (sym (st.proper.blank i (omega arith)))
  ]

  pub same_ops : held_of n.count n.ops ≡ R.all
  same_ops = ap (λ f. operations n.count f) (fun_ext same_op) ∙ ap (λ c. operations c R.all.operation) st.count

-- ---- a refusal that `?` hands on
pub passed : {T : Type 0} (r : Result T Refusal) (e : Refusal) {k : ℕ} → IsErrAnd r (λ why. why ≡ e) → k ≡ refusal_number e → IfErr r (λ why. k ≡ refusal_number why)
passed (Ok v) e h q = tt
passed (Err w) e h q = q ∙ ap refusal_number (sym h)

-- ---- the report
module _ (file : List ℕ) (r : Judged) where
  report_by : (n : ℕ) → n ≢ 0 → Refused n r → JudgementBy n file r
  report_by zero h x = absurd (h refl)
  report_by (suc n) h x = x

  pub report_refused : (why : Refusal) → history_refusal file ≡ refusal_number why → Refused (refusal_number why) r → Judgement file r
  report_refused why e x = rw e (report_by (refusal_number why) (refused_number why) x)

  pub report_decided : {R : Operations} → history_refusal file ≡ 0 → R ≡ (reading_of file).all → Decided R r → Judgement file r
  report_decided z e x = rw (z, ← e) x
