-- The rest of an order: what can still follow once the operations of a mask are done. The plain set after them is fixed by the
-- mask alone, since each insert or remove with yes turns its station over and nothing else does. Assumes nothing.
use Rattle.std.proofs.Math.Bool.{and-false, and-true}
use Rattle.std.proofs.lemmas.Bool.{not-true, cases_Bool, and_parts}
use mathlib.Core.Path.{◌≡◌, refl, sym, ◌∙◌, ap, subst, fun_ext}
use mathlib.Core.Logic.{inl, inr, ◌≢◌}
use mathlib.Core.Bool.{Bool, true, false, not, ◌&&◌, true≢false}
use mathlib.Core.List.{List, [], ◌∷◌}
use Prim.Native.Nat.{ℕ, zero, suc, ◌<◌, ◌≤◌}
use native.Mathlib.Omega.{arith}
use native.Mathlib.Decide.{dec_lt}
use lib.Dec.{eqb, ltb}
use borrow.Author.Tests.{eq-eqb, ne_eqb, eqb-true, lt-ltb, le-ltb, ltb-true}
use Rattle.container.specs.Container.{has, insert}
use Rattle.container.proofs.Laws.{insert_same, insert_other, has_none}
use Rattle.definitions.specs.PlainSet.{settled}
use Rattle.definitions.specs.declared.Action.{Action}
use Rattle.definitions.specs.declared.Action.TheVariants.{Lookup, Insert, Remove, Split, Join, Query}
use Rattle.definitions.specs.History.{Operations}
use Rattle.definitions.specs.Judgement.{times, once, action_of, reply, Answers, Order, First, FirstOrder}
use Rattle.judge.specs.Search.{flip, changes, turns, state_to, state, Fitting, Before, undone, Rest, Best, Sound}
use Rattle.judge.proofs.Tools.{◌==?◌, flip_swap}

-- ---- the plain set after the operations of a mask

-- an answer that fits turns the station over, or leaves it
turned : (a : Action) (y : Bool) (st : ℕ) (S : ℕ → Bool) → y ≡ reply a st S → (s : ℕ) → settled a st S s ≡ flip (changes a y && eqb s st) (S s)
turned Lookup y st S e s = refl
turned Split y st S e s = refl
turned Join y st S e s = refl
turned Query y st S e s = refl
turned Insert y st S e s = elim (cases_Bool (eqb s st)) [ inl q ↦ rw (q, eqb-true s st q, e) (put (S st)) | inr q ↦ rw (q, e) (leave (not (S st)) (S s)) ]
  where
    put : (b : Bool) → true ≡ flip (not b && true) b
    put true = refl
    put false = refl

    leave : (b c : Bool) → c ≡ flip (b && false) c
    leave true c = refl
    leave false c = refl
turned Remove y st S e s = elim (cases_Bool (eqb s st)) [ inl q ↦ rw (q, eqb-true s st q, e) (take (S st)) | inr q ↦ rw (q, e) (leave (S st) (S s)) ]
  where
    take : (b : Bool) → false ≡ flip (b && true) b
    take true = refl
    take false = refl

    leave : (b c : Bool) → c ≡ flip (b && false) c
    leave true c = refl
    leave false c = refl

module _ (R : Operations) (M i : ℕ) (small : i < 64) (out : has M i ≡ false) where
  state_under : (k s : ℕ) → k ≤ i → state_to R (insert M i) k s ≡ state_to R M k s
  unfolding state_to
  state_under zero s h = refl
  state_under (suc k) s h = rw (insert_other M i k (λ e. omega arith), state_under k s (omega arith))

  state_over : (k s : ℕ) → i < k → state_to R (insert M i) k s ≡ flip (turns (R.operation i) s) (state_to R M k s)
  unfolding state_to
  state_over zero s h = absurd (omega arith)
  state_over (suc k) s h = elim (k ==? i) [
    | yes e ↦ rw (e, insert_same M i small, out, state_under i s (omega arith))
    | no e ↦ rw (insert_other M i k e, state_over k s (omega arith)) (flip_swap (has M k && turns (R.operation k) s) (turns (R.operation i) s) (state_to R M k s))
  ]

  -- one operation more
  pub state_more : i < R.count → Fitting R M i → settled (action_of (R.operation i).action) (R.operation i).station (state R M) ≡ state R (insert M i)
  state_more h fit = fun_ext (λ s. turned (action_of (R.operation i).action) (R.operation i).yes (R.operation i).station (state R M) fit s ∙ sym (state_over R.count s h))

pub state_none : (R : Operations) → state R 0 ≡ (λ _. false)
unfolding state_to
state_none R = fun_ext (λ s. go R.count s)
  where
    go : (k s : ℕ) → state_to R 0 k s ≡ false
    go zero s = refl
    go (suc k) s = rw (has_none k, go k s)

-- ---- the rest of an order

one_of : (b : Bool) (n : ℕ) → suc n ≡ once b → (b ≡ true) × (n ≡ 0)
one_of true n e = (refl, omega arith)
one_of false n e = absurd (omega arith)

some_of : (b : Bool) → once b ≢ 0 → b ≡ true
some_of true h = refl
some_of false h = absurd (h refl)

module _ (R : Operations) (sound : Sound R) (M : ℕ) where
  is_undone : (i : ℕ) → i < R.count → has M i ≡ false → undone R M i ≡ true
  is_undone i h e = rw (lt-ltb i R.count h, e)

  -- ---- no operation is left
  pub rest_nil : ((i : ℕ) → i < R.count → has M i ≡ true) → Best R M []
  rest_nil all = record { rest = record { each = none; keeps = tt; answers = tt }; first = λ _ _. tt }
    where
      none : (i : ℕ) → 0 ≡ once (undone R M i)
      none i = elim (dec_lt i R.count) [ yes h ↦ rw (lt-ltb i R.count h, all i h) | no h ↦ rw (le-ltb i R.count (omega arith)) ]

  -- ---- the first of the rest
  module _ (i : ℕ) (l : List ℕ) (rest : Rest R M (i ∷ l)) where
    at_head : (undone R M i ≡ true) × (times i l ≡ 0)
    at_head = one_of (undone R M i) (times i l) (rw (eq-eqb i i refl) at (rest.each i))

    pub head_undone : (i < R.count) × (has M i ≡ false)
    head_undone = let p = and_parts (ltb i R.count) (not (has M i)) at_head.0 in (ltb-true i R.count p.0, not-true (has M i) p.1)

    small : i < 64
    small = omega (arith, head_undone.0, sound.few)

    others : (j : ℕ) → j ≢ i → times j l ≡ once (undone R M j)
    others j h = rw (ne_eqb j i h) at (rest.each j)

    pub head_fits : Fitting R M i
    head_fits = rest.answers.0

    pub head_before : Before R M i
    head_before j e = elim (cases_Bool (has M j)) [ inl q ↦ q | inr q ↦ absurd (true≢false (sym e ∙ rest.keeps.0 j (λ z. one z q))) ]
      where
        lo : (j < R.count) × (j ≢ i)
        lo = sound.lower i j head_undone.0 e

        one : times j l ≡ 0 → has M j ≡ false → ⊥
        one z q = let w : times j l ≡ 1 = others j lo.1 ∙ rw (is_undone j lo.0 q) in omega arith

    pub tail_rest : Rest R (insert M i) l
    tail_rest = record { each = tail_each; keeps = rest.keeps.1; answers = subst (λ S. Answers R S l) (state_more R M i small head_undone.1 head_undone.0 head_fits) rest.answers.1 }
      where
        tail_each : (j : ℕ) → times j l ≡ once (undone R (insert M i) j)
        tail_each j = elim (j ==? i) [
          | yes e ↦ rw (e, insert_same M i small) (at_head.1 ∙ rw and-false)
          | no e ↦ rw (insert_other M i j e) (others j e)
        ]

  -- ---- an operation in front of a rest
  module _ (i : ℕ) (l : List ℕ) (here : i < R.count) (out : has M i ≡ false) (fit : Fitting R M i) (before : Before R M i) where
    cons_small : i < 64
    cons_small = omega (arith, here, sound.few)

    pub rest_cons : Rest R (insert M i) l → Rest R M (i ∷ l)
    rest_cons rest = record { each = cons_each; keeps = (cons_keeps, rest.keeps); answers = (fit, subst (λ S. Answers R S l) (sym (state_more R M i cons_small out here fit)) rest.answers) }
      where
        cons_each : (j : ℕ) → times j (i ∷ l) ≡ once (undone R M j)
        cons_each j = elim (j ==? i) [
          | yes e ↦ subst (λ x. times x (i ∷ l) ≡ once (undone R M x)) (sym e) (rw (eq-eqb i i refl, is_undone i here out, rest.each i, insert_same M i cons_small, and-false))
          | no e ↦ rw (ne_eqb j i e, rest.each j, insert_other M i j e)
        ]

        cons_keeps : (j : ℕ) → times j l ≢ 0 → (R.operation i).finished_before j ≡ false
        cons_keeps j h = elim (cases_Bool ((R.operation i).finished_before j)) [ inl e ↦ absurd (bad e) | inr e ↦ e ]
          where
            left : undone R (insert M i) j ≡ true
            left = some_of (undone R (insert M i) j) (λ z. h (rest.each j ∙ z))

            bad : (R.operation i).finished_before j ≡ true → ⊥
            bad e = let q = (sound.lower i j here e).1 in
                true≢false (sym (and_parts (ltb j R.count) (not (has (insert M i) j)) left).1 ∙ ap not (insert_other M i j q ∙ before j e))

    pub best_cons : ((k : ℕ) → k < i → (m : List ℕ) → Rest R M (k ∷ m) → ⊥) → Best R (insert M i) l → Best R M (i ∷ l)
    best_cons lower best = record { rest = rest_cons best.rest; first = go }
      where
        go : (m : List ℕ) → Rest R M m → First (i ∷ l) m
        go [] r = let w : ◌≡◌ {A = ℕ} 0 1 = r.each i ∙ rw (is_undone i here out) in omega (arith, w)
        go (k ∷ m) r = elim (dec_lt k i) [
          | yes h ↦ absurd (lower k h m r)
          | no h ↦ elim (k ==? i) [ yes e ↦ inr (sym e, best.first m (subst (λ x. Rest R (insert M x) m) e (tail_rest k m r))) | no e ↦ inl (omega arith) ]
        ]

  -- the rest of a best rest
  pub best_tail : (i : ℕ) (l : List ℕ) → Best R M (i ∷ l) → Best R (insert M i) l
  best_tail i l best = record { rest = tail_rest i l best.rest; first = go }
    where
      go : (m : List ℕ) → Rest R (insert M i) m → First l m
      go m r = let u = head_undone i l best.rest in
          elim (best.first (i ∷ m) (rest_cons i m u.0 u.1 (head_fits i l best.rest) (head_before i l best.rest) r)) [ inl h ↦ absurd (omega arith) | inr p ↦ p.1 ]

  -- no operation can come next
  pub rest_stuck : (i : ℕ) → i < R.count → has M i ≡ false → ((k : ℕ) → k < R.count → (m : List ℕ) → Rest R M (k ∷ m) → ⊥) → (l : List ℕ) → Rest R M l → ⊥
  rest_stuck i here out none [] r = let w : ◌≡◌ {A = ℕ} 0 1 = r.each i ∙ rw (is_undone i here out) in omega (arith, w)
  rest_stuck i here out none (k ∷ l) r = none k (head_undone k l r).0 l r

-- ---- the whole order

pub from_order : (R : Operations) (l : List ℕ) → Order R l → Rest R 0 l
from_order R l o = record { each = λ i. o.each i ∙ rw (has_none i, and-true); keeps = o.keeps; answers = subst (λ S. Answers R S l) (sym (state_none R)) o.answers }

pub to_order : (R : Operations) (l : List ℕ) → Rest R 0 l → Order R l
to_order R l o = record { each = λ i. rw (has_none i, and-true) at (o.each i); keeps = o.keeps; answers = subst (λ S. Answers R S l) (state_none R) o.answers }

pub first_order : (R : Operations) (l : List ℕ) → Best R 0 l → FirstOrder R l
first_order R l b = record { order = to_order R l b.rest; first = λ m o. b.first m (from_order R m o) }

pub no_order : (R : Operations) → ((l : List ℕ) → Rest R 0 l → ⊥) → (l : List ℕ) → Order R l → ⊥
no_order R h l o = h l (from_order R l o)

-- two that each come first are one
pub first_both : (l m : List ℕ) → First l m → First m l → l ≡ m
first_both [] [] p q = refl
first_both [] (j ∷ m) p q = absurd q
first_both (i ∷ l) [] p q = absurd p
first_both (i ∷ l) (j ∷ m) (inl h) (inl k) = absurd (omega arith)
first_both (i ∷ l) (j ∷ m) (inl h) (inr (e, k)) = absurd (omega arith)
first_both (i ∷ l) (j ∷ m) (inr (e, h)) (inl k) = absurd (omega arith)
first_both (i ∷ l) (j ∷ m) (inr (e, h)) (inr (_, k)) = rw (e, first_both l m h k)

pub best_one : {R : Operations} {M : ℕ} {l m : List ℕ} → Best R M l → Best R M m → l ≡ m
best_one {l = l} {m = m} a b = first_both l m (a.first m b.rest) (b.first l a.rest)
