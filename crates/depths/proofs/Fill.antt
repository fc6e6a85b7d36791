-- What stores of depths do to the rows: one store, a row copied or cleared, and a loop that fills a row from the first station up. Assumes
-- nothing.
use mathlib.Core.Path.{◌≡◌, refl, sym, ap, ◌∙◌, fun_ext}
use mathlib.Core.Logic.{◌≢◌}
use mathlib.Core.Bool.{Bool, true, false}
use mathlib.Core.List.{List, ◌++◌}
use Prim.Native.Nat.{ℕ, ◌+◌, ◌-◌, ◌*◌, ◌%◌, ◌<◌, ◌≤◌}
use native.Mathlib.Omega.{arith}
use native.Mathlib.Decide.{ℕ_discrete, dec_lt}
use lib.ListN.{get_or, set, length, take, drop, replicate, length-drop, length-replicate, get_or-eq_default}
use lib.Seq.{get_or-set_same, get_or-set_other, length-take-le}
use borrow.Rule.Slice.PartMut.{mid_of, put_mid}
use borrow.Author.Tests.{eq-eqb, ne_eqb, lt-ltb, le-ltb}
use Rattle.std.specs.List.{CopiedTo, SameBelow, SameFrom}
use Rattle.std.proofs.lemmas.List.{get_or_append_left, get_or-append_right, get_or-take, get_or-drop, get_or-replicate}
use Rattle.container.specs.Choice.{ite, upd}
use Rattle.container.specs.Container.{has}
use Rattle.depths.specs.Rows.{rows, changed, selected}

-- ---- one store

row_in : (c : List ℕ) (j m : ℕ) → m < 64 → rows c j m ≡ get_or c (j * 64 + m) 0
unfolding rows
row_in c j m l = rw (lt-ltb m 64 l)

row_out : (c : List ℕ) (j m : ℕ) → 64 ≤ m → rows c j m ≡ 0
unfolding rows
row_out c j m l = rw (le-ltb m 64 l)

stored_at : (c : List ℕ) (i k v : ℕ) → i * 64 + k < length c → k < 64 → rows (set c (i * 64 + k) v) i k ≡ v
stored_at c i k v h l = row_in _ i k l ∙ get_or-set_same c (i * 64 + k) v 0 h

stored_else : (c : List ℕ) (i k v j m : ℕ) → k < 64 → ((j ≡ i) → m ≢ k) → rows (set c (i * 64 + k) v) j m ≡ rows c j m
stored_else c i k v j m l h = elim (dec_lt m 64) [
  | yes y ↦ row_in _ j m y ∙ get_or-set_other c (i * 64 + k) (j * 64 + m) v 0 (λ e. elim (ℕ_discrete j i) [ yes q ↦ h q (omega arith) | no q ↦ q (omega arith) ]) ∙ sym (row_in c j m y)
  | no y ↦ row_out _ j m (omega arith) ∙ sym (row_out c j m (omega arith))
]

-- ---- a row filled up to k: the stations below k have their g

pub record Filled (c c' : List ℕ) (to : ℕ) (g : ℕ → ℕ) (k : ℕ) : Type 0 where
  pub low : (m : ℕ) → m < k → rows c' to m ≡ g m
  pub high : (m : ℕ) → k ≤ m → rows c' to m ≡ rows c to m
  pub other : (j m : ℕ) → j ≢ to → rows c' j m ≡ rows c j m

pub begun : (c : List ℕ) (to : ℕ) (g : ℕ → ℕ) → Filled c c to g 0
begun c to g = record { low = λ m l. absurd (omega arith); high = λ m l. refl; other = λ j m h. refl }

-- what is read at k is what stood there
kept : {c c' : List ℕ} {to : ℕ} {g : ℕ → ℕ} {k : ℕ} → Filled c c' to g k → (from : ℕ) → rows c' from k ≡ rows c from k
kept {c} {c'} {to} {g} {k} f from = elim (ℕ_discrete from to) [ yes e ↦ rw e (f.high k (omega arith)) | no e ↦ f.other from k e ]

pub filled : {c c' : List ℕ} {to : ℕ} {g : ℕ → ℕ} {k : ℕ} → Filled c c' to g k → (v : ℕ) → to * 64 + k < length c' → k < 64 → v ≡ g k → Filled c (set c' (to * 64 + k) v) to g (k + 1)
filled {c} {c'} {to} {g} {k} f v t l e = record {
  low = λ m h. elim (ℕ_discrete m k) [
    | yes q ↦ rw q (stored_at c' to k v t l ∙ e)
    | no q ↦ stored_else c' to k v to m l (λ _. q) ∙ f.low m (omega arith)
  ];
  high = λ m h. stored_else c' to k v to m l (λ _ q. absurd (omega arith)) ∙ f.high m (omega arith);
  other = λ j m h. stored_else c' to k v j m l (λ q. absurd (h q)) ∙ f.other j m h;
}

-- the whole row, where g has nothing past the last station
pub whole_row : {c c' : List ℕ} {to : ℕ} {g : ℕ → ℕ} {k : ℕ} → Filled c c' to g k → 64 ≤ k → k ≤ 64 → ((m : ℕ) → 64 ≤ m → g m ≡ 0) → rows c' ≡ upd (rows c) to g
whole_row {c} {c'} {to} {g} {k} f h i z = fun_ext (λ j. elim (ℕ_discrete j to) [
  | yes e ↦ rw (e, eq-eqb to to refl) (fun_ext (λ m. elim (dec_lt m 64) [ yes l ↦ f.low m (omega arith) | no l ↦ row_out c' to m (omega arith) ∙ sym (z m (omega arith)) ]))
  | no e ↦ rw (ne_eqb j to e) (fun_ext (λ m. f.other j m e))
])

-- ---- the functions

-- 64 numbers from b on become g's, and the others are as they were
block : {c c' : List ℕ} {to b : ℕ} {g : ℕ → ℕ} → b ≡ to * 64 + 0 → ((m : ℕ) → m < 64 → get_or c' (b + m) 0 ≡ g m) → ((i : ℕ) → i < b → get_or c' i 0 ≡ get_or c i 0)
    → ((i : ℕ) → b + 64 ≤ i → get_or c' i 0 ≡ get_or c i 0) → Filled c c' to g 64
block {c} {c'} {to} {b} {g} e u v w = record {
  low = λ m l. row_in c' to m l ∙ ap (λ i. get_or c' i 0) (omega arith) ∙ u m l;
  high = λ m l. row_out c' to m l ∙ sym (row_out c to m l);
  other = λ j m h. elim (dec_lt m 64) [
    | yes l ↦ row_in c' j m l ∙ elim (dec_lt j to) [ yes i ↦ v (j * 64 + m) (omega arith) | no i ↦ let o : to < j = omega (arith, h) in w (j * 64 + m) (omega arith) ] ∙ sym (row_in c j m l)
    | no l ↦ row_out c' j m (omega arith) ∙ sym (row_out c j m (omega arith))
  ];
}

-- n numbers from a on stand from b on too, and the others are as they were
pub copied : (c c' : List ℕ) (from to : ℕ) {a b n : ℕ} → a ≡ from * 64 + 0 → b ≡ to * 64 + 0 → n ≡ 64 → CopiedTo c c' a b n → SameBelow c c' b → SameFrom c c' (b + n)
    → rows c' ≡ upd (rows c) to (rows c from)
copied c c' from to {a} {b} {n} e f g u v w =
    whole_row
    (block f (λ m l. u (b + m) 0 (omega arith) (omega arith) ∙ ap (λ i. get_or c i 0) (omega arith) ∙ sym (row_in c from m l)) (λ i. v i 0) (λ i l. w i 0 (omega arith)))
    (omega arith)
    (omega arith)
    (row_out c from)

-- a row past the numbers holds 0
row_past : (c : List ℕ) (x : ℕ) → length c % 64 ≡ 0 → length c < x * 64 + 64 → (m : ℕ) → rows c x m ≡ 0
row_past c x e l m = elim (dec_lt m 64) [ yes i ↦ row_in c x m i ∙ get_or-eq_default c 0 (omega arith) | no i ↦ row_out c x m (omega arith) ]

-- the n numbers z are put from b on
module _ (c z : List ℕ) (b n : ℕ) (h : b + n ≤ length c) (s : length z ≡ n) where
  abbrev rest : List ℕ
  rest = drop n (drop b c)

  front : length (take b c) ≡ b
  front = length-take-le b c (omega arith)

  put_below : (i : ℕ) → i < b → get_or (put_mid b n c z) i 0 ≡ get_or c i 0
  put_below i l = get_or_append_left (take b c) (z ++ rest) 0 i (omega (arith, front)) ∙ get_or-take b c i 0 l

  put_in : (m : ℕ) → m < n → get_or (put_mid b n c z) (b + m) 0 ≡ get_or z m 0
  put_in m l =
      get_or-append_right (take b c) (z ++ rest) b (b + m) 0 front (omega arith)
      ∙ get_or_append_left z rest 0 (b + m - b) (omega arith)
      ∙ ap (λ i. get_or z i 0) (omega arith)

  put_past : (i : ℕ) → b + n ≤ i → get_or (put_mid b n c z) i 0 ≡ get_or c i 0
  put_past i l =
      get_or-append_right (take b c) (z ++ rest) b i 0 front (omega arith)
      ∙ get_or-append_right z rest n (i - b) 0 s (omega arith)
      ∙ get_or-drop n (drop b c) (i - b - n) 0
      ∙ get_or-drop b c (n + (i - b - n)) 0
      ∙ ap (λ k. get_or c k 0) (omega arith)

-- 64 zeros, for a row past the numbers
pub cleared : (c : List ℕ) (from to : ℕ) {a b n : ℕ} {z : List ℕ} → length c % 64 ≡ 0 → a ≡ from * 64 + 0 → b ≡ to * 64 + 0 → n ≡ 64
    → length c < a + 64 → b + 64 ≤ length c → z ≡ replicate (length (mid_of b n c)) 0 → rows (put_mid b n c z) ≡ upd (rows c) to (rows c from)
cleared c from to {a} {b} {n} {z} r e f g h i q =
    let k : ℕ = length (mid_of b n c) in
    let size : length z ≡ n = ap length q ∙ length-replicate k 0 ∙ length-take-le n (drop b c) (omega (arith, length-drop b c)) in
    let fits : b + n ≤ length c = omega arith in
    let zero : (m : ℕ) → m < 64 → get_or (put_mid b n c z) (b + m) 0 ≡ 0 =
    λ m l. put_in c z b n fits size m (omega arith) ∙ rw q (get_or-replicate k m 0 0 (omega (arith, ap length q, length-replicate {A = ℕ} k 0))) in
    whole_row (block f zero (put_below c z b n fits size) (λ j l. put_past c z b n fits size j (omega arith))) (omega arith) (omega arith) (λ m l. refl)
    ∙ ap (upd (rows c) to) (fun_ext (λ m. sym (row_past c from r (omega arith) m)))

pub chosen : {c c' : List ℕ} {to k : ℕ} (a b s : ℕ) → Filled c c' to (selected s (rows c a) (rows c b)) k → 64 ≤ k → k ≤ 64 → rows c' ≡ upd (rows c) to (selected s (rows c a) (rows c b))
unfolding ite
chosen {c} {c'} {to} {k} a b s f h i = whole_row f h i (λ m l. rw (row_out c a m l, row_out c b m l) (both (has s m)))
  where
    both : (t : Bool) → ◌≡◌ {A = ℕ} (ite t 0 0) 0
    both true = refl
    both false = refl

pub set_in : (c : List ℕ) (x s d : ℕ) → x * 64 + s < length c → s < 64 → rows (set c (x * 64 + s) d) ≡ upd (rows c) x (changed (rows c x) s d)
unfolding ite
set_in c x s d h l = rw (lt-ltb s 64 l) (fun_ext (λ j. elim (ℕ_discrete j x) [
  | yes e ↦ rw (e, eq-eqb x x refl) (fun_ext (λ m. elim (ℕ_discrete m s) [
    | yes q ↦ rw (q, eq-eqb s s refl) (stored_at c x s d h l)
    | no q ↦ rw (ne_eqb m s q) (stored_else c x s d x m l (λ _. q))
  ]))
  | no e ↦ rw (ne_eqb j x e) (fun_ext (λ m. stored_else c x s d j m l (λ q. absurd (e q))))
]))

pub set_out : (c : List ℕ) (x s d : ℕ) → 64 ≤ s → rows c ≡ upd (rows c) x (changed (rows c x) s d)
unfolding ite
set_out c x s d l = rw (le-ltb s 64 l) (fun_ext (λ j. elim (ℕ_discrete j x) [ yes e ↦ rw (e, eq-eqb x x refl) | no e ↦ rw (ne_eqb j x e) ]))

pub read_in : (c : List ℕ) (x s : ℕ) → s < 64 → get_or c (x * 64 + s) 0 ≡ rows c x s
read_in c x s l = sym (row_in c x s l)

pub read_out_lem : (c : List ℕ) (x s : ℕ) → 64 ≤ s → 0 ≡ rows c x s
read_out_lem c x s l = sym (row_out c x s l)

pub read_past : (c : List ℕ) (x s : ℕ) → s < 64 → length c ≤ x * 64 + s → 0 ≡ rows c x s
read_past c x s l h = sym (row_in c x s l ∙ get_or-eq_default c 0 h)

-- what is written at station k: the depth of node f, which is a where the set has k, else b; t says whether it has
module _ {c c' : List ℕ} {to k : ℕ} {t : Bool} {f : ℕ} {g : ℕ → ℕ} (a b s : ℕ) where
  pub chosen_in : Filled c c' to g k → t ≡ has s k → t ≡ true → f ≡ a → rows c' f k ≡ selected s (rows c a) (rows c b) k
  unfolding ite
  chosen_in F e h i = kept F f ∙ rw (i, ← e, h)

  pub chosen_out : Filled c c' to g k → t ≡ has s k → t ≡ false → f ≡ b → rows c' f k ≡ selected s (rows c a) (rows c b) k
  unfolding ite
  chosen_out F e h i = kept F f ∙ rw (i, ← e, h)

pub ruleset cases = (set_in, set_out, read_in, read_past, read_out_lem)
