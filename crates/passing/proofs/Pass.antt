-- By induction over the records, from the end: each record's part of the order. Assumes nothing.
use Rattle.std.specs.Prelude.{Option, Some, None}
use mathlib.Core.Path.{◌≡◌, refl, sym, ◌∙◌, ap, subst}
use mathlib.Core.Logic.{◌≢◌}
use mathlib.Core.Bool.{Bool, true, false, true≢false}
use mathlib.Core.List.{List, [], ◌∷◌}
use Prim.Native.Nat.{ℕ, suc, ◌<◌, ◌≤◌}
use native.Mathlib.Omega.{arith}
use native.Mathlib.Decide.{dec_lt}
use lib.Dec.{eqb}
use borrow.Author.Tests.{eq-eqb, ne_eqb}
use Rattle.container.specs.Choice.{ite, upd}
use Rattle.definitions.specs.declared.Action.TheVariants.{Lookup}
use Rattle.definitions.specs.Bench.{Bench}
use Rattle.definitions.specs.PlainSet.{Plain, settled}
use Rattle.definitions.specs.Claim.{opened, moment}
use Rattle.passing.proofs.Standing.{Hist}
use Rattle.definitions.specs.History.{Event, Operations, Reading, begun, ended_by, noted, in_place}
use Rattle.definitions.specs.Judgement.{times, action_of, reply, Answers}
use Rattle.judge.proofs.Tools.{◌==?◌}
use Rattle.definitions.specs.Written.{AllFinished}
use Rattle.passing.proofs.Fold.{read_all, SameAsk, Closed, all_count, all_ask, all_closed}
use Rattle.passing.proofs.Tidy.{Tidy, closed_then}
use Rattle.passing.proofs.Linked.{Linked, rested}
use Rattle.passing.proofs.Part.{Status, placed, now, past, Part, part_end, prepend, settle_all, status_back}

abbrev pub AllPlaced : List Event → Reading → Type 0
AllPlaced [] R = Unit {0}
AllPlaced (e ∷ es) R = (in_place e R ≡ true) × AllPlaced es (noted e R)

-- what is shown of the events es that follow the reading R, from moment k on
pub record Passed (H : Hist) (es : List Event) (R : Reading) (f : ℕ → Option ℕ) (k : ℕ) : Type 0 where
  pub list : List ℕ
  pub part : Part H (read_all es R).all k 4 R f (H k) list
  pub in_place : AllPlaced es R
  pub ended : (t : ℕ) → (read_all es R).busy t ≡ None

pub noted_start : (e : Event) (R : Reading) → e.mark ≡ 0 → noted e R ≡ begun e R
unfolding ite
noted_start e R z = rw (eq-eqb e.mark 0 z)

pub noted_finish : (e : Event) (R : Reading) (k : ℕ) → e.mark ≢ 0 → R.busy e.thread ≡ Some k → noted e R ≡ ended_by (Some k) e R
unfolding ite
noted_finish e R k z d = rw (ne_eqb e.mark 0 z, d)

-- ---- the first steps
first_same : (ft : Option ℕ) (k m : ℕ) → opened ft k ≡ Some m → m ≤ k → ft ≡ Some m
first_same None k m e h = let w : suc k ≡ m = cc in absurd (omega arith)
first_same (Some j) k m e h = e

first_back : (f : ℕ → Option ℕ) (t v k m : ℕ) → upd f t (opened (f t) k) v ≡ Some m → m ≤ k → f v ≡ Some m
first_back f t v k m = elim (v ==? t) [ yes q ↦ rw (q, eq-eqb t t refl) (first_same (f t) k m) | no q ↦ rw (ne_eqb v t q) (λ e _. e) ]

module _ (H : Hist) where
  -- ---- the end
  pub stops : (b : Bench) (P : Plain) (R : Reading) (f : ℕ → Option ℕ) (k : ℕ) → Linked b P R → Tidy R → AllFinished b → Passed H [] R f k
  stops b P R f k l tidy fin = record { list = []; part = part_end H R.all k R f (H k) refl none; in_place = tt; ended = none }
    where
      by : (t : ℕ) (x : Option ℕ) → R.busy t ≡ x → R.busy t ≡ None
      by t None e = e
      by t (Some i) e = rested b P R t l (fin t (tidy.small t i e))

      none : (t : ℕ) → R.busy t ≡ None
      none t = by t (R.busy t) refl

  -- ---- a start
  module _ (e : Event) (es : List Event) (R : Reading) (f : ℕ → Option ℕ) (k : ℕ) (tidy : Tidy R) (quiet : H (suc k) ≡ H k) where
    abbrev ops : Operations
    ops = (read_all (e ∷ es) R).all

    pub on_start : e.mark ≡ 0 → e.thread < 4 → R.busy e.thread ≡ None → in_place e R ≡ true → Passed H es (noted e R) (upd f e.thread None) (suc k) → Passed H (e ∷ es) R f k
    on_start z small free pl ih = let s = settle_all H ops k R f tidy (all_ask (e ∷ es) R) (all_count (e ∷ es) R) ih.list before in
        record { list = s.0; part = s.1; in_place = (pl, ih.in_place); ended = ih.ended }
      where
        q : noted e R ≡ begun e R
        q = noted_start e R z

        p : Part H ops (suc k) 4 (noted e R) (upd f e.thread None) (H (suc k)) ih.list
        p = ih.part

        new_busy : (noted e R).busy e.thread ≡ Some R.all.count
        new_busy = ap (λ Q. Q.busy e.thread) q ∙ rw (eq-eqb e.thread e.thread refl)

        new_in : Status H ops (suc k) 4 e.thread R.all.count (upd f e.thread None e.thread) ih.list → times R.all.count ih.list ≡ 1
        new_in (placed a) = a
        new_in (now a b c d) = absurd (omega arith)
        new_in (past m j a b c d l y) = let w : None ≡ Some m = sym (rw (eq-eqb e.thread e.thread refl)) ∙ a in cc

        old_busy : (v i : ℕ) → R.busy v ≡ Some i → (v ≢ e.thread) × ((noted e R).busy v ≡ Some i)
        old_busy v i d = elim (v ==? e.thread) [
          | yes w ↦ (let c : None ≡ Some i = sym free ∙ ap R.busy (sym w) ∙ d in cc)
          | no w ↦ (w, ap (λ Q. Q.busy v) q ∙ rw (ne_eqb v e.thread w) d)
        ]

        before : Part H ops k 0 R f (H k) ih.list
        before = record {
          answers = subst (λ S. Answers ops S ih.list) quiet p.answers;
          keeps = p.keeps;
          within = λ i h. sym (ap (λ Q. Q.finished i) q) ∙ p.within i h;
          future = λ i a b. elim (i ==? R.all.count) [
            | yes w ↦ rw w (new_in (p.opens e.thread R.all.count new_busy))
            | no w ↦ p.future i (omega (arith, ap (λ Q. Q.all.count) q)) b
          ];
          beyond = p.beyond;
          opens = λ v i d. let o = old_busy v i d in
              status_back H ops k R f tidy (all_ask (e ∷ es) R) (all_count (e ∷ es) R) v i (upd f e.thread None v) ih.list (tidy.small v i d)
              (λ m. rw (ne_eqb v e.thread o.0) (λ a _. a)) (p.opens v i o.1);
        }

  -- ---- a step that goes on
  pub on_move : (es : List Event) (R : Reading) (f : ℕ → Option ℕ) (k t : ℕ) → Tidy R → H (suc k) ≡ H k → Passed H es R (upd f t (opened (f t) k)) (suc k) → Passed H es R f k
  on_move es R f k t tidy quiet ih = let s = settle_all H (read_all es R).all k R f tidy (all_ask es R) (all_count es R) ih.list before in
      record { list = s.0; part = s.1; in_place = ih.in_place; ended = ih.ended }
    where
      p : Part H (read_all es R).all (suc k) 4 R (upd f t (opened (f t) k)) (H (suc k)) ih.list
      p = ih.part

      before : Part H (read_all es R).all k 0 R f (H k) ih.list
      before = record {
        answers = subst (λ S. Answers (read_all es R).all S ih.list) quiet p.answers;
        keeps = p.keeps;
        within = p.within;
        future = p.future;
        beyond = p.beyond;
        opens = λ v i d. status_back H (read_all es R).all k R f tidy (all_ask es R) (all_count es R) v i (upd f t (opened (f t) k) v) ih.list (tidy.small v i d) (first_back f t v k) (p.opens v i d);
      }

  -- ---- a step that ends its operation i
  module _ (e : Event) (es : List Event) (R : Reading) (f : ℕ → Option ℕ) (k i : ℕ) (tidy : Tidy R) (said : Bool) (mark : eqb e.mark 2 ≡ said) (some : e.mark ≢ 0)
      (doing : R.busy e.thread ≡ Some i) (pl : in_place e R ≡ true)
      (ih : Passed H es (noted e R) (upd f e.thread (opened (f e.thread) k)) (suc k)) where
    abbrev ops_e : Operations
    ops_e = (read_all (e ∷ es) R).all

    abbrev f' : ℕ → Option ℕ
    f' = upd f e.thread (opened (f e.thread) k)

    q_e : noted e R ≡ ended_by (Some i) e R
    q_e = noted_finish e R i some doing

    p_e : Part H ops_e (suc k) 4 (noted e R) f' (H (suc k)) ih.list
    p_e = ih.part

    -- its answer stays
    closed : Closed i (noted e R)
    closed = record { low = subst (λ Q. i < Q.all.count) (sym q_e) (tidy.low e.thread i doing); free = λ t z. closed_then R e tidy i doing t (ap (λ Q. Q.busy t) (sym q_e) ∙ z) }

    answer : (ops_e.operation i).yes ≡ said
    answer = ap (λ o. o.yes) (all_closed es (noted e R) i closed ∙ ap (λ Q. Q.all.operation i) q_e) ∙ rw (eq-eqb i i refl) mark

    -- it is not in what follows
    out : times i ih.list ≡ 0
    out = elim (times i ih.list ==? 0) [ yes w ↦ w | no w ↦ absurd (true≢false (sym (ap (λ Q. Q.finished i) q_e ∙ rw (eq-eqb i i refl)) ∙ p_e.within i w)) ]

    within : (j : ℕ) → times j ih.list ≢ 0 → R.finished j ≡ false
    within j h = elim (j ==? i) [ yes w ↦ absurd (h (rw w out)) | no w ↦ sym (ap (λ Q. Q.finished j) q_e ∙ rw (ne_eqb j i w)) ∙ p_e.within j h ]

    future : (j : ℕ) → R.all.count ≤ j → j < ops_e.count → times j ih.list ≡ 1
    future j a b = p_e.future j (omega (arith, ap (λ Q. Q.all.count) q_e)) b

    others : (v j : ℕ) → v ≢ e.thread → R.busy v ≡ Some j → Status H ops_e k 0 v j (f v) ih.list
    others v j w d = status_back H ops_e k R f tidy (all_ask (e ∷ es) R) (all_count (e ∷ es) R) v j (f' v) ih.list (tidy.small v j d) (first_back f e.thread v k)
        (p_e.opens v j (ap (λ Q. Q.busy v) q_e ∙ rw (ne_eqb v e.thread w) d))

    finished_by : (l : List ℕ) → Part H ops_e k 0 R f (H k) l → Passed H (e ∷ es) R f k
    finished_by l p = let s = settle_all H ops_e k R f tidy (all_ask (e ∷ es) R) (all_count (e ∷ es) R) l p in
        record { list = s.0; part = s.1; in_place = (pl, ih.in_place); ended = ih.ended }

    ask : SameAsk (ops_e.operation i) (R.all.operation i)
    ask = all_ask (e ∷ es) R i (tidy.low e.thread i doing)

    -- an insert or a remove acts at its last step
    pub on_update : said ≡ reply (action_of (R.all.operation i).action) (R.all.operation i).station (H k)
        → settled (action_of (R.all.operation i).action) (R.all.operation i).station (H k) ≡ H (suc k) → Passed H (e ∷ es) R f k
    on_update r s = finished_by (i ∷ ih.list) (prepend H ops_e k R f tidy (all_ask (e ∷ es) R) (all_count (e ∷ es) R) 0 e.thread i (H k) (H (suc k)) ih.list doing out
        (answer ∙ r ∙ sym (ap (λ a. reply (action_of a) (ops_e.operation i).station (H k)) ask.action ∙ ap (λ x. reply (action_of (R.all.operation i).action) x (H k)) ask.station))
        (ap (λ a. settled (action_of a) (ops_e.operation i).station (H k)) ask.action ∙ ap (λ x. settled (action_of (R.all.operation i).action) x (H k)) ask.station ∙ s)
        p_e.answers p_e.keeps within future p_e.beyond others)

    -- a lookup acts at a moment of its span
    pub on_lookup : action_of (R.all.operation i).action ≡ Lookup → H (suc k) ≡ H k
        → (j : ℕ) → moment (f' e.thread) ≤ j → j ≤ suc k → said ≡ H j (R.all.operation i).station → Passed H (e ∷ es) R f k
    on_lookup lk quiet j lo hi a = finished_by ih.list (record {
      answers = subst (λ S. Answers ops_e S ih.list) quiet p_e.answers;
      keeps = p_e.keeps;
      within = within;
      future = future;
      beyond = p_e.beyond;
      opens = λ v n d. elim (v ==? e.thread) [ yes w ↦ mine v n w d | no w ↦ others v n w d ];
    })
      where
        is_lookup : action_of (ops_e.operation i).action ≡ Lookup
        is_lookup = ap action_of ask.action ∙ lk

        at : (m : ℕ) → H j ≡ H m → (ops_e.operation i).yes ≡ H m (ops_e.operation i).station
        at m c = answer ∙ a ∙ ap (λ S. S (R.all.operation i).station) c ∙ ap (H m) (sym ask.station)

        early : (ft : Option ℕ) → f e.thread ≡ ft → moment (opened ft k) ≤ j → j < k → Status H ops_e k 0 e.thread i (f e.thread) ih.list
        early None c b l = absurd (omega arith)
        early (Some m) c b l = past m j c b l out is_lookup (at j refl)

        late : k ≤ j → H j ≡ H k
        late l = elim (j ==? k) [ yes w ↦ ap H w | no w ↦ ap H (let u : j ≡ suc k = omega arith in u) ∙ quiet ]

        status : Status H ops_e k 0 e.thread i (f e.thread) ih.list
        status = elim (dec_lt j k) [
          | yes l ↦ early (f e.thread) refl (rw (eq-eqb e.thread e.thread refl) at lo) l
          | no l ↦ now (omega arith) out is_lookup (at k (late (omega arith)))
        ]

        mine : (v n : ℕ) → v ≡ e.thread → R.busy v ≡ Some n → Status H ops_e k 0 v n (f v) ih.list
        mine v n w d = let c : Some i ≡ Some n = sym doing ∙ ap R.busy (sym w) ∙ d in let u : i ≡ n = cc in
            subst (λ x. Status H ops_e k 0 x n (f x) ih.list) (sym w) (subst (λ x. Status H ops_e k 0 e.thread x (f e.thread) ih.list) u status)
