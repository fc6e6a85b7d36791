-- The loops of Merge, one record more at a time, each with the code's own facts as premises. Assumes nothing.
use mathlib.Core.Path.{◌≡◌, refl, sym, ap, ◌∙◌}
use mathlib.Core.Bool.{Bool, true, false, not, ◌||◌}
use mathlib.Core.List.{List, [], ◌∷◌}
use Prim.Native.Nat.{ℕ, ◌+◌, ◌*◌, ◌/◌, ◌≤◌, ◌<◌}
use native.Mathlib.Numerals.{add-one}
use native.Mathlib.Omega.{arith}
use lib.Dec.{eqb}
use lib.ListN.{length, get_or}
use Rattle.container.specs.Choice.{ite}
use Rattle.buffer.specs.Page.{Page, page, put_all}
use Rattle.buffer.proofs.Laws.{at_mid, joined}
use borrow.Rule.Slice.PartMut.{put_mid}
use Rattle.std.specs.List.{enumerate_from, zip}
use Rattle.std.proofs.lemmas.List.{get_or_default}
use Rattle.std.proofs.lemmas.List.FromFn.{length-enumerate_from, get_or-enumerate_from}
use Rattle.std.proofs.lemmas.Slice.Zip.{length-zip, get_or-zip}
use Rattle.definitions.specs.Merge.{first_byte, second_byte, foreign, turns, needed}
use Rattle.schedule.specs.Records.{Pairs}

-- ---- threads that are not the file's

module _ (f : ℕ) (file : List ℕ) where
  pub foreign_none : foreign f file 0 ≡ ite false 17 0
  unfolding foreign ite
  foreign_none = refl

  -- whether one record more is
  pub foreign_more : (k : ℕ) (o : Bool) → foreign f file k ≡ ite o 17 0 → foreign f file (k + 1) ≡ ite (o || not (eqb (first_byte file k / 16 / 2) f)) 17 0
  unfolding foreign ite
  foreign_more k o e = rw (add-one, e) (by o (eqb (first_byte file k / 16 / 2) f))
    where
      by : (o t : Bool) → ◌≡◌ {A = ℕ} (ite t (ite o 17 0) 17) (ite (o || not t) 17 0)
      by true true = refl
      by true false = refl
      by false true = refl
      by false false = refl

  -- after all of them
  pub foreign_all : {k n : ℕ} (o b : Bool) → k ≤ n → n ≤ k → foreign f file k ≡ ite o 17 0 → o ≡ b → ite b 17 0 ≡ foreign f file n
  foreign_all {k} {n} o b h i e z = let same : k ≡ n = omega arith in rw (← same, ← z) (sym e)

-- ---- records in turns

-- what turn n of both files' records is
pub record Turn (ones others : List (List ℕ)) (n : ℕ) (p : ℕ × (List ℕ × List ℕ)) : Type 0 where
  pub place : p.0 ≡ n
  pub in-one : n < length ones
  pub in-other : n < length others
  pub one : p.1.0 ≡ get_or ones n []
  pub other : p.1.1 ≡ get_or others n []

pub turn_is : (ones others : List (List ℕ)) (n : ℕ) (p : ℕ × (List ℕ × List ℕ)) → n < length (enumerate_from 0 (zip ones others)) → p ≡ get_or (enumerate_from 0 (zip ones others)) n p
    → Turn ones others n p
turn_is ones others n p h e =
    let z : n < length (zip ones others) = omega (arith, length-enumerate_from 0 (zip ones others)) in
    let i : n < length ones = omega (arith, length-zip ones others) in
    let j : n < length others = omega (arith, length-zip ones others) in
    let f : p ≡ (0 + n, get_or (zip ones others) n p.1) = e ∙ get_or-enumerate_from 0 (zip ones others) n p z in
    let g : p.1 ≡ (get_or ones n p.1.0, get_or others n p.1.1) = ap (λ (q : ℕ × (List ℕ × List ℕ)). q.1) f ∙ get_or-zip ones others n p.1 i j in
    record {
      place = ap (λ (q : ℕ × (List ℕ × List ℕ)). q.0) f ∙ omega arith;
      in-one = i;
      in-other = j;
      one = ap (λ (q : List ℕ × List ℕ). q.0) g ∙ get_or_default ones n _ _ i;
      other = ap (λ (q : List ℕ × List ℕ). q.1) g ∙ get_or_default others n _ _ j;
    }

module _ (first second : List ℕ) where
  pub turns_none : (p : Page) → p ≡ put_all p (turns first second 0)
  unfolding turns put_all
  turns_none p = refl

  pub turns_more : (k : ℕ) (p : Page) {q r : Page} → q ≡ put_all p (turns first second k)
      → r ≡ put_all q (first_byte first k ∷ second_byte first k ∷ first_byte second k ∷ second_byte second k ∷ []) → r ≡ put_all p (turns first second (k + 1))
  unfolding turns
  turns_more k p u v = rw add-one (joined p _ _ u v)

  -- one turn more, written over a part of the buffer; m is the number of turns then
  module _ {ones others : List (List ℕ)} (o : Pairs first ones) (u : Pairs second others) {n j : ℕ} {x y : List ℕ} (t : Turn ones others n (j, (x, y))) where
    turn_bytes : {w : List ℕ} → w ≡ get_or x 0 0 ∷ get_or x 1 0 ∷ get_or y 0 0 ∷ get_or y 1 0 ∷ [] → w ≡ first_byte first n ∷ second_byte first n ∷ first_byte second n ∷ second_byte second n ∷ []
    turn_bytes e = e ∙ rw (t.one, t.other, o.first n t.in-one, o.second n t.in-one, u.first n t.in-other, u.second n t.in-other)

    pub turn_room : {r : ℕ} → needed first second ≤ r → 3 + 4 * j + 4 ≤ r
    turn_room h = omega (arith, t.place, t.in-one, t.in-other, o.many, u.many)

    pub turn_put : (l : List ℕ) (p : Page) (k m : ℕ) {w : List ℕ} → page l (3 + 4 * n) ≡ put_all p (turns first second n) → w ≡ get_or x 0 0 ∷ get_or x 1 0 ∷ get_or y 0 0 ∷ get_or y 1 0 ∷ []
        → k ≡ 4 → m ≡ n + 1 → needed first second ≤ length l → page (put_mid (3 + 4 * j) k l w) (3 + 4 * m) ≡ put_all p (turns first second m)
    turn_put l p k m {w} i e f g h =
        let b : w ≡ first_byte first n ∷ second_byte first n ∷ first_byte second n ∷ second_byte second n ∷ [] = turn_bytes e in
        let a : 3 + 4 * n + 4 ≤ length l = rw t.place at (turn_room h) in
        let q : 3 + 4 * (n + 1) ≡ 3 + 4 * n + 4 = omega arith in
        rw (t.place, f, g) (turns_more n p i (rw (q, b) (at_mid l (3 + 4 * n) 4 (first_byte first n ∷ second_byte first n ∷ first_byte second n ∷ second_byte second n ∷ []) refl a)))
