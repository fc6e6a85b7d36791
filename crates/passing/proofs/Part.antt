-- The part of an order that is still to come at a moment of a run, built from the run's end back to its start. Assumes nothing.
use mathlib.Core.Logic.{inl, inr}
use Rattle.std.proofs.lemmas.Bool.{cases_Bool}
use Rattle.std.specs.Prelude.{Option, Some, None}
use mathlib.Core.Path.{◌≡◌, refl, sym, ◌∙◌, ap, subst}
use mathlib.Core.Logic.{◌≢◌}
use mathlib.Core.Bool.{Bool, false, true≢false}
use mathlib.Core.List.{List, [], ◌∷◌}
use Prim.Native.Nat.{ℕ, suc, ◌<◌, ◌≤◌}
use native.Mathlib.Omega.{arith}
use borrow.Author.Tests.{eq-eqb, ne_eqb}
use Rattle.definitions.specs.declared.Action.TheVariants.{Lookup}
use Rattle.definitions.specs.PlainSet.{settled}
use Rattle.definitions.specs.History.{Operations, Reading}
use Rattle.definitions.specs.Judgement.{times, Keeps, action_of, reply, Answers}
use Rattle.judge.proofs.Tools.{◌==?◌}
use Rattle.passing.proofs.Fold.{SameAsk}
use Rattle.passing.proofs.Tidy.{Tidy}

-- ops: all operations of the run; H: the plain set at every moment
module _ (H : ℕ → ℕ → Bool) (ops : Operations) where
  abbrev IsLookup : ℕ → Type 0
  IsLookup i = action_of (ops.operation i).action ≡ Lookup

  abbrev AnsweredAt : ℕ → ℕ → Type 0
  AnsweredAt i j = (ops.operation i).yes ≡ H j (ops.operation i).station

  -- thread t has i open at moment k; ft is its first step: i is in the list; or it is a lookup that acts at this moment (only if
  -- T ≤ t), or acted at an earlier one
  pub data Status (k T t i : ℕ) (ft : Option ℕ) (list : List ℕ) : Type 0 where
    placed : times i list ≡ 1 → Status k T t i ft list
    now : T ≤ t → times i list ≡ 0 → IsLookup i → AnsweredAt i k → Status k T t i ft list
    past : (m j : ℕ) → ft ≡ Some m → m ≤ j → j < k → times i list ≡ 0 → IsLookup i → AnsweredAt i j → Status k T t i ft list

  pub record Part (k T : ℕ) (R : Reading) (f : ℕ → Option ℕ) (S : ℕ → Bool) (list : List ℕ) : Type 0 where
    pub answers : Answers ops S list
    pub keeps : Keeps ops list
    pub within : (i : ℕ) → times i list ≢ 0 → R.finished i ≡ false
    pub future : (i : ℕ) → R.all.count ≤ i → i < ops.count → times i list ≡ 1
    pub beyond : (i : ℕ) → ops.count ≤ i → times i list ≡ 0
    pub opens : (t i : ℕ) → R.busy t ≡ Some i → Status k T t i (f t) list

  -- the end: nothing is open
  pub part_end : (k : ℕ) (R : Reading) (f : ℕ → Option ℕ) (S : ℕ → Bool) → R.all.count ≡ ops.count → ((t : ℕ) → R.busy t ≡ None) → Part k 4 R f S []
  part_end k R f S e n = record {
    answers = tt;
    keeps = tt;
    within = λ i h. absurd (h refl);
    future = λ i a b. absurd (omega arith);
    beyond = λ i h. refl;
    opens = λ t i z. let w : None ≡ Some i = sym (n t) ∙ z in cc;
  }

  module _ (k : ℕ) (R : Reading) (f : ℕ → Option ℕ) (tidy : Tidy R) (same : (i : ℕ) → i < R.all.count → SameAsk (ops.operation i) (R.all.operation i)) (more : R.all.count ≤ ops.count) where
    -- an open operation put in front
    pub prepend : (T t i : ℕ) (S S' : ℕ → Bool) (list : List ℕ) → R.busy t ≡ Some i → times i list ≡ 0
        → (ops.operation i).yes ≡ reply (action_of (ops.operation i).action) (ops.operation i).station S
        → settled (action_of (ops.operation i).action) (ops.operation i).station S ≡ S'
        → Answers ops S' list → Keeps ops list → ((j : ℕ) → times j list ≢ 0 → R.finished j ≡ false)
        → ((j : ℕ) → R.all.count ≤ j → j < ops.count → times j list ≡ 1) → ((j : ℕ) → ops.count ≤ j → times j list ≡ 0)
        → ((v j : ℕ) → v ≢ t → R.busy v ≡ Some j → Status k T v j (f v) list)
        → Part k T R f S (i ∷ list)
    prepend T t i S S' list doing out fits then answers keeps within future beyond opens = record {
      answers = (fits, subst (λ x. Answers ops x list) (sym then) answers);
      keeps = (no_before, keeps);
      within = λ j. elim (j ==? i) [ yes q ↦ λ _. rw q (tidy.running t i doing) | no q ↦ rw (ne_eqb j i q) (within j) ];
      future = λ j a b. rw (ne_eqb j i (λ q. omega (arith, tidy.low t i doing))) (future j a b);
      beyond = λ j a. rw (ne_eqb j i (λ q. omega (arith, tidy.low t i doing))) (beyond j a);
      opens = λ v j z. elim (v ==? t) [ yes q ↦ here v j q z | no q ↦ there v j q z ];
    }
      where
        no_before : (j : ℕ) → times j list ≢ 0 → (ops.operation i).finished_before j ≡ false
        no_before j h = elim (cases_Bool ((ops.operation i).finished_before j)) [
          | inl q ↦ absurd (true≢false (sym (tidy.before i j (tidy.low t i doing) (sym ((same i (tidy.low t i doing)).before j) ∙ q)) ∙ within j h))
          | inr q ↦ q
        ]

        here : (v j : ℕ) → v ≡ t → R.busy v ≡ Some j → Status k T v j (f v) (i ∷ list)
        here v j q z = let e : Some j ≡ Some i = sym z ∙ ap R.busy q ∙ doing in let w : j ≡ i = cc in placed (subst (λ x. times x (i ∷ list) ≡ 1) (sym w) (rw (eq-eqb i i refl, out)))

        lift : (v j : ℕ) → j ≢ i → Status k T v j (f v) list → Status k T v j (f v) (i ∷ list)
        lift v j q (placed a) = placed (rw (ne_eqb j i q) a)
        lift v j q (now a b c d) = now a (rw (ne_eqb j i q) b) c d
        lift v j q (past m u a b c d l y) = past m u a b c (rw (ne_eqb j i q) d) l y

        there : (v j : ℕ) → v ≢ t → R.busy v ≡ Some j → Status k T v j (f v) (i ∷ list)
        there v j q z = lift v j (λ w. q (tidy.apart v t i (z ∙ ap Some w) doing)) (opens v j q z)

    raise : (T t i : ℕ) (list : List ℕ) → T ≢ t → Status k T t i (f t) list → Status k (suc T) t i (f t) list
    raise T t i list h (placed a) = placed a
    raise T t i list h (now a b c d) = now (omega arith) b c d
    raise T t i list h (past m j a b c d l y) = past m j a b c d l y

    abbrev SomePart : ℕ → Type 0
    SomePart T = (list : List ℕ) × Part k T R f (H k) list

    -- the lookup of thread T that acts at this moment comes to stand in front
    settle_one : (T : ℕ) (list : List ℕ) → Part k T R f (H k) list → SomePart (suc T)
    settle_one T list p = by (R.busy T) refl
      where
        same_list : ((i : ℕ) → R.busy T ≡ Some i → Status k (suc T) T i (f T) list) → SomePart (suc T)
        same_list h = (
          list,
          record {
            answers = p.answers;
            keeps = p.keeps;
            within = p.within;
            future = p.future;
            beyond = p.beyond;
            opens = λ t i z. elim (t ==? T) [ yes q ↦ subst (λ x. Status k (suc T) x i (f x) list) (sym q) (h i (ap R.busy (sym q) ∙ z)) | no q ↦ raise T t i list (λ w. q (sym w)) (p.opens t i z) ];
          },
        )

        by_status : (i : ℕ) → R.busy T ≡ Some i → Status k T T i (f T) list → SomePart (suc T)
        by_status i e (placed a) = same_list (λ j z. let d : Some i ≡ Some j = sym e ∙ z in let w : i ≡ j = cc in subst (λ x. Status k (suc T) T x (f T) list) w (placed a))
        by_status i e (past m u a b c d l y) = same_list (λ j z. let g : Some i ≡ Some j = sym e ∙ z in let w : i ≡ j = cc in subst (λ x. Status k (suc T) T x (f T) list) w (past m u a b c d l y))
        by_status i e (now a b c d) = (
          i ∷ list,
          prepend (suc T) T i (H k) (H k) list e b (d ∙ rw c) (rw c) p.answers p.keeps p.within p.future p.beyond (λ v j q z. raise T v j list (λ w. q (sym w)) (p.opens v j z)),
        )

        by : (l : Option ℕ) → R.busy T ≡ l → SomePart (suc T)
        by None e = same_list (λ i z. let w : None ≡ Some i = sym e ∙ z in cc)
        by (Some i) e = by_status i e (p.opens T i e)

    pub settle_all : (list : List ℕ) → Part k 0 R f (H k) list → SomePart 4
    settle_all list p = let (l1, p1) = settle_one 0 list p in let (l2, p2) = settle_one 1 l1 p1 in let (l3, p3) = settle_one 2 l2 p2 in settle_one 3 l3 p3

    -- a status at the next moment, seen from this one: f' is the first step then
    pub status_back : (t i : ℕ) (ft' : Option ℕ) (list : List ℕ) → t < 4 → ((m : ℕ) → ft' ≡ Some m → m ≤ k → f t ≡ Some m) → Status (suc k) 4 t i ft' list → Status k 0 t i (f t) list
    status_back t i ft' list h back (placed a) = placed a
    status_back t i ft' list h back (now a b c d) = absurd (omega arith)
    status_back t i ft' list h back (past m j a b c d l y) = elim (j ==? k) [ yes q ↦ now (omega arith) d l (rw q at y) | no q ↦ past m j (back m a (omega arith)) b (omega arith) d l y ]
