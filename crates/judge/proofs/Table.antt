-- The table of masks: what each way out of the code says of its entry. Assumes nothing.
use Rattle.std.specs.Prelude.{◌↔◌, IsTrue}
use Rattle.std.proofs.lemmas.Bool.{or_left}
use mathlib.Core.Path.{◌≡◌, refl, sym, ◌∙◌, ap, subst, fun_ext}
use mathlib.Core.Bool.{Bool, true, false, ◌||◌, true≢false}
use mathlib.Core.List.{List, [], ◌∷◌}
use Prim.Native.Nat.{ℕ, suc, ◌+◌, ◌<◌, ◌≤◌, ◌^◌, ◌*◌, ◌%◌}
use native.Mathlib.Omega.{arith}
use lib.Dec.{lit<}
use lib.Pow.{pow_mono, pow_pos, pow-lt, shl_exact}
use native.Mathlib.Nat.{one-mul}
use lib.Bits.{or_lt}
use lib.ListN.{get_or, length, set}
use lib.Seq.{get_or-set_same, get_or-set_other}
use borrow.Author.Tests.{lt-ltb}
use Rattle.container.specs.Choice.{ite}
use Rattle.container.specs.Container.{has, insert, remove, union}
use Rattle.container.proofs.Laws.{has_none, insert_same, insert_other, remove_same, remove_other, remove_on, has_union, ext_all}
use Rattle.container.proofs.Digits.{has_is, bit_le}
use Rattle.definitions.specs.History.{Operations}
use Rattle.definitions.specs.Judgement.{action_of, reply}
use Rattle.judge.specs.declared.Next.{Next}
use Rattle.judge.specs.declared.Next.TheVariants.{Dead, Done, Go}
use Rattle.judge.specs.declared.Op.{Op}
use Rattle.judge.specs.Search.{number_of, operation_of, state, Fitting, Before, Rest, Best, Sound, Down, Entry, dead, alive, Filled}
use Rattle.judge.proofs.Tools.{◌==?◌}
use Rattle.judge.proofs.Rest.{rest_nil, head_undone, head_fits, head_before, tail_rest, best_cons, rest_stuck}

-- ---- a mask with one operation more

pub insert_plus : (M i : ℕ) → i < 64 → has M i ≡ false → insert M i ≡ M + 2 ^ i
insert_plus M i h e = let q = insert_same M i h in let le = bit_le i (insert M i) (sym (has_is (insert M i) i) ∙ q) in
    let p = sym (remove_on (insert M i) i q) ∙ ext_all (remove (insert M i) i) M back in omega arith
  where
    back : (s : ℕ) → has (remove (insert M i) i) s ≡ has M s
    back s = elim (s ==? i) [ yes p ↦ rw p (remove_same (insert M i) i ∙ sym e) | no p ↦ remove_other (insert M i) i s p ∙ insert_other M i s p ]

pub insert_below : (M i n : ℕ) → i < n → n ≤ 12 → M < 2 ^ n → insert M i < 2 ^ n
unfolding insert ite
insert_below M i n h k l = rw (lt-ltb i 64 (omega arith)) (or_lt n M (2 ^ i) l (pow-lt h))

pub masks_few : (M n : ℕ) → n ≤ 12 → M < 2 ^ n → M < 4096
masks_few M n h l = let p : 2 ^ n ≤ 4096 = pow_mono {i = n} {j = 12} h in omega arith

pub insert_above : (M i : ℕ) → i < 64 → has M i ≡ false → M < insert M i
insert_above M i h e = omega (arith, insert_plus M i h e, pow_pos i)

has_more : (M i j : ℕ) → i < 64 → has M j ≡ true → has (insert M i) j ≡ true
has_more M i j h e = elim (j ==? i) [ yes q ↦ rw q (insert_same M i h) | no q ↦ insert_other M i j q ∙ e ]

pub down_none : (R : Operations) → Down R 0
down_none R i h e = absurd (true≢false (sym e ∙ has_none i))

pub down_more : (R : Operations) (M i : ℕ) → i < 64 → Down R M → Before R M i → Down R (insert M i)
down_more R M i s down before j h e k q = has_more M i k s (by (j ==? i))
  where
    by : Dec (j ≡ i) → has M k ≡ true
    by (yes w) = before k (subst (λ x. (R.operation x).finished_before k ≡ true) w q)
    by (no w) = down j h (sym (insert_other M i j w) ∙ e) k q

-- ---- can_go
or_under : (a b : Bool) → (a ≡ true → b ≡ true) → a || b ≡ b
or_under true b h = sym (h refl)
or_under false b h = refl

abbrev pub Goes : Operations → ℕ → ℕ → Bool → Type 0
Goes R M i r = (r ≡ true → Fitting R M i × (Before R M i × ((l : List ℕ) × Best R (insert M i) l))) × (r ≡ false → (l : List ℕ) → Rest R M (i ∷ l) → ⊥)

module _ (R : Operations) (M i b : ℕ) (table : List Next) (sound : Sound R) (here : i < R.count) (out : has M i ≡ false) (low : M < 2 ^ R.count) (down : Down R M)
    (filled : Filled R table (suc M)) (is : (j : ℕ) → (R.operation i).finished_before j ≡ has b j) {u : ℕ} (e : u ≡ union b M) where
  pub goes_late : (u ≡ M → ⊥) → Goes R M i false
  goes_late h = (λ q. absurd (true≢false (sym q)), λ _ l r. h (e ∙ ext_all (union b M) M (λ s. has_union b M s ∙ or_under (has b s) (has M s) (λ q. head_before R sound M i l r s (is s ∙ q)))))

  before_of : u ≡ M → Before R M i
  before_of q j p = sym (ap (λ x. has x j) (sym e ∙ q)) ∙ has_union b M j ∙ or_left (has b j) (has M j) (sym (is j) ∙ p)

  entry_of : u ≡ M → (t : ℕ) → t ≡ insert M i → Entry R (insert M i) (get_or table t Dead)
  entry_of p t q = rw q
      (filled (insert M i) (insert_above M i (omega (arith, sound.few, here)) out) (insert_below M i R.count here sound.few low) (down_more R M i (omega (arith, sound.few, here)) down (before_of p)))

  pub goes_dead : (t : ℕ) → u ≡ M → t ≡ insert M i → get_or table t Dead ≡ Dead → Goes R M i false
  goes_dead t b' q z = (λ p. absurd (true≢false (sym p)), λ _ l r. go (entry_of b' t q) (tail_rest R sound M i l r))
    where
      go : Entry R (insert M i) (get_or table t Dead) → {l : List ℕ} → Rest R (insert M i) l → ⊥
      go (dead h _) {l} r = h l r
      go (alive [] _ v) r = let w : Dead ≡ Done = sym z ∙ v in cc
      go (alive (k ∷ l) _ v) r = let w : Dead ≡ Go k = sym z ∙ v in cc

  pub goes_asked : (t : ℕ) (r : Bool) → u ≡ M → t ≡ insert M i → (get_or table t Dead ≡ Dead → ⊥)
      → (r ≡ true → Fitting R M i) × (r ≡ false → Fitting R M i → ⊥) → Goes R M i r
  goes_asked t r p q z f = (λ y. (f.0 y, (before_of p, go (entry_of p t q))), λ n l s. f.1 n (head_fits R sound M i l s))
    where
      go : Entry R (insert M i) (get_or table t Dead) → (l : List ℕ) × Best R (insert M i) l
      go (dead _ v) = absurd (z v)
      go (alive l b _) = (l, b)

-- an operation of the code that fits
pub fits_of : (o : Op) (R : Operations) (M i set : ℕ) {r : Bool} → R.operation i ≡ operation_of o → ((x : ℕ) → has set x ≡ state R M x)
    → (IsTrue r ↔ (o.yes ≡ reply (action_of (number_of o.asked)) o.station (has set))) → (r ≡ true → Fitting R M i) × (r ≡ false → Fitting R M i → ⊥)
fits_of o R M i set {r} e s h = rw (e, ← q) (h.0, λ n y. true≢false (sym (h.1 y) ∙ n))
  where
    q : has set ≡ state R M
    q = fun_ext s

-- ---- choose
abbrev pub Lower : Operations → ℕ → ℕ → Type 0
Lower R M i = (k : ℕ) → k < i → (m : List ℕ) → Rest R M (k ∷ m) → ⊥

-- whether some operation below i is not done
abbrev pub Left : Operations → ℕ → ℕ → Bool → Type 0
Left R M i left = (left ≡ true → (k : ℕ) × (k < R.count) × (has M k ≡ false)) × (left ≡ false → (k : ℕ) → k < i → has M k ≡ true)

module _ (R : Operations) (M : ℕ) (sound : Sound R) where
  pub choose_here : (i : ℕ) → i < R.count → has M i ≡ false → Lower R M i → {r : Bool} → Goes R M i r → r ≡ true → Entry R M (Go i)
  choose_here i here out lower g e = let (f, (b, (l, best))) = g.0 e in alive (i ∷ l) (best_cons R sound M i l here out f b lower best) refl

  pub lower_none : Lower R M 0
  lower_none k h = absurd (omega arith)

  pub lower_done : (i : ℕ) → Lower R M i → {v : Bool} → v ≡ has M i → v ≡ true → Lower R M (i + 1)
  lower_done i lower e q k h m r = elim (k ==? i) [ yes p ↦ true≢false (sym q ∙ e ∙ ap (has M) (sym p) ∙ (head_undone R sound M k m r).1) | no p ↦ lower k (omega arith) m r ]

  pub lower_stuck : (i : ℕ) → Lower R M i → {r : Bool} → Goes R M i r → r ≡ false → Lower R M (i + 1)
  lower_stuck i lower g q k h m r = elim (k ==? i) [ yes p ↦ g.1 q m (subst (λ x. Rest R M (x ∷ m)) p r) | no p ↦ lower k (omega arith) m r ]

  pub left_none : Left R M 0 false
  left_none = (λ q. absurd (true≢false (sym q)), λ _ k h. absurd (omega arith))

  pub left_done : (i : ℕ) (left : Bool) → Left R M i left → {v : Bool} → v ≡ has M i → v ≡ true → Left R M (i + 1) left
  left_done i left l e q = (l.0, λ z k h. elim (k ==? i) [ yes p ↦ rw p (sym e ∙ q) | no p ↦ l.1 z k (omega arith) ])

  pub left_some : (i : ℕ) → i < R.count → has M i ≡ false → Left R M (i + 1) true
  left_some i here out = (λ _. (i, here, out), λ z. absurd (true≢false z))

  pub entry_dead : (i : ℕ) (left : Bool) → R.count ≤ i → Lower R M i → Left R M i left → left ≡ true → Entry R M Dead
  entry_dead i left all lower l q = let (k, here, out) = l.0 q in dead (rest_stuck R sound M k here out (λ j h. lower j (omega arith))) refl

  pub entry_full : (i : ℕ) (left : Bool) → R.count ≤ i → Left R M i left → left ≡ false → Entry R M Done
  entry_full i left all l q = alive [] (rest_nil R sound M (λ k h. l.1 q k (omega arith))) refl

-- ---- fill
pub fill_start : (R : Operations) (table : List Next) (n : ℕ) → n ≡ R.count → n ≤ 12 → ((1 * 2 ^ n) % 2 ^ 64 ≤ 2 ^ n) × Filled R table ((1 * 2 ^ n) % 2 ^ 64)
fill_start R table n q h =
    let e : (1 * 2 ^ n) % 2 ^ 64 ≡ 2 ^ n = shl_exact 1 n 64 (lit< tt) (omega arith) ∙ one-mul (2 ^ n) in
    (omega arith, λ M a b _. absurd (omega (arith, ap (λ k. 2 ^ k) q)))

pub fill_step : (R : Operations) (table : List Next) (m : ℕ) (v : Next) → m < length table → Filled R table (suc m) → Entry R m v → Filled R (set table m v) m
fill_step R table m v h f e M a b d = elim (M ==? m) [ yes p ↦ rw (p, get_or-set_same table m v Dead h) e | no p ↦ rw (get_or-set_other table m M v Dead p) (f M (omega arith) b d) ]

pub fill_skip : (R : Operations) (table : List Next) (m : ℕ) {r : Bool} → (IsTrue r ↔ Down R m) → r ≡ false → Filled R table (suc m) → Filled R table m
fill_skip R table m n q f M a b d = elim (M ==? m) [ yes p ↦ absurd (true≢false (sym (n.1 (subst (λ x. Down R x) p d)) ∙ q)) | no p ↦ f M (omega arith) b d ]

-- ---- is_down
abbrev pub DownFrom : Operations → ℕ → ℕ → Type 0
DownFrom R M i = (j : ℕ) → i ≤ j → j < R.count → has M j ≡ true → Before R M j

module _ (R : Operations) (M i b : ℕ) (is : (j : ℕ) → (R.operation i).finished_before j ≡ has b j) {v : Bool} (e : v ≡ has M i) where
  pub down_skip : v ≡ false → DownFrom R M (i + 1) → DownFrom R M i
  down_skip q d j a b h = elim (j ==? i) [ yes p ↦ absurd (true≢false (sym h ∙ ap (has M) p ∙ sym e ∙ q)) | no p ↦ d j (omega arith) b h ]

  module _ {u : ℕ} (g : u ≡ union b M) where
    pub down_keep : u ≡ M → DownFrom R M (i + 1) → DownFrom R M i
    down_keep p d j a c h = by (j ==? i)
      where
        mine : Before R M i
        mine k w = sym (ap (λ x. has x k) (sym g ∙ p)) ∙ has_union b M k ∙ or_left (has b k) (has M k) (sym (is k) ∙ w)

        by : Dec (j ≡ i) → Before R M j
        by (yes w) = subst (λ x. Before R M x) (sym w) mine
        by (no w) = d j (omega arith) c h

    pub down_broken : (u ≡ M → ⊥) → v ≡ true → i < R.count → Down R M → ⊥
    down_broken n q h d = n (g ∙ ext_all (union b M) M (λ s. has_union b M s ∙ or_under (has b s) (has M s) (λ w. d i h (sym e ∙ q) s (is s ∙ w))))
