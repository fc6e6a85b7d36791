-- What every store of a run fits in: 256 numbers, 64 stores, and a route's number is followed by two bases, so routes are three apart
-- (01: "Numbers: route, left, right"). Here: what the effects make of that, each under its test for room. Assumes nothing.
use mathlib.Core.Path.{◌≡◌, refl, sym, ◌∙◌}
use mathlib.Core.Logic.{◌≢◌}
use Prim.Native.Nat.{ℕ, suc, ◌+◌, ◌<◌, ◌≤◌}
use native.Mathlib.Omega.{arith}
use borrow.Author.Tests.{eq-eqb, ne_eqb}
use Rattle.container.specs.Choice.{upd}
use Rattle.container.specs.Depths.{Container}
use Rattle.definitions.specs.declared.Kind.TheVariants.{Route}
use Rattle.definitions.specs.declared.Spot.{Spot}
use Rattle.definitions.specs.declared.Spot.TheVariants.{Root, Under}
use Rattle.definitions.specs.Nodes.{Nodes, Entry}
use Rattle.definitions.specs.Bench.{Store}
use Rattle.definitions.specs.Effects.{hang, forked}
use Rattle.answers.proofs.Tools.{◌==?◌, clash}

-- the route x and the two numbers after it
pub record Gap (n : Nodes) (u x : ℕ) : Type 0 where
  pub some : 0 < x
  pub room : suc (suc x) < u
  pub next : (n (suc x)).kind ≢ Route
  pub last : (n (suc (suc x))).kind ≢ Route

-- u numbers are used and j stores shown
pub record FitsIn (n : Nodes) (u j : ℕ) : Type 0 where
  pub numbers : u ≤ 256
  pub stores : j ≤ 64
  pub some : 0 < u
  pub gap : (x : ℕ) → x < u → (n x).kind ≡ Route → Gap n u x

abbrev pub Fits : Store → Type 0
Fits s = FitsIn s.nodes s.used s.shown

-- ---- no node is new

-- a write that leaves a node's kind
pub kind_keeps : (n : Nodes) (x y : ℕ) (v : Entry) → v.kind ≡ (n x).kind → (upd n x v y).kind ≡ (n y).kind
kind_keeps n x y v e = elim (y ==? x) [ yes q ↦ rw (eq-eqb y x q, q) e | no q ↦ rw (ne_eqb y x q) ]

pub same_fits : (n n' : Nodes) (u j : ℕ) → ((x : ℕ) → (n' x).kind ≡ (n x).kind) → FitsIn n u j → FitsIn n' u j
same_fits n n' u j k g = record {
  numbers = g.numbers;
  stores = g.stores;
  some = g.some;
  gap = λ x l e. let o = g.gap x l (sym (k x) ∙ e) in record {
    some = o.some;
    room = o.room;
    next = λ z. o.next (sym (k (suc x)) ∙ z);
    last = λ z. o.last (sym (k (suc (suc x))) ∙ z);
  };
}

pub write_fits : (n : Nodes) (u j x : ℕ) (v : Entry) → v.kind ≡ (n x).kind → FitsIn n u j → FitsIn (upd n x v) u j
write_fits n u j x v e g = same_fits n (upd n x v) u j (λ y. kind_keeps n x y v e) g

pub hang_fits : (v : Spot) (x : ℕ) (s : Store) → Fits s → Fits (hang v x s)
hang_fits Root x s g = g
hang_fits (Under r d) x s g = write_fits s.nodes s.used s.shown r _ refl g

-- ---- new nodes

-- one that is no route
pub push_fits : (n : Nodes) (u j j' : ℕ) (v : Entry) → u + 1 ≤ 256 → j' ≤ 64 → v.kind ≢ Route → FitsIn n u j → FitsIn (upd n u v) (suc u) j'
push_fits n u j j' v l k h g = record {
  numbers = omega arith;
  stores = k;
  some = omega arith;
  gap = λ x i. elim (x ==? u) [
    | yes q ↦ rw (eq-eqb x u q) (λ e. absurd (h e))
    | no q ↦ rw (ne_eqb x u q) (λ e. let o = g.gap x (omega arith) e in record {
      some = o.some;
      room = omega (arith, o.room);
      next = rw (ne_eqb (suc x) u (λ z. omega (arith, o.room))) o.next;
      last = rw (ne_eqb (suc (suc x)) u (λ z. omega (arith, o.room))) o.last;
    })
  ];
}

-- a split's three: a route, and two bases after it
pub fork_fits : (n : Nodes) (u j l r k : ℕ) (c : Container) → l ≡ u + 1 → r ≡ u + 2 → u + 3 ≤ 256 → FitsIn n u j → FitsIn (forked u l r k c n) (u + 3) j
fork_fits n u j l r k c el er h g = record {
  numbers = h;
  stores = g.stores;
  some = omega arith;
  gap = λ x i. elim (x ==? r) [
    | yes q ↦ rw (eq-eqb x r q) (λ e. absurd (clash (cc)))
    | no q ↦ elim (x ==? l) [
      | yes q' ↦ rw (ne_eqb x r q, eq-eqb x l q') (λ e. absurd (clash (cc)))
      | no q' ↦ elim (x ==? u) [
        | yes z ↦ (λ e. record { some = omega (arith, g.some); room = omega arith; next = after_l x z; last = after_r x z })
        | no z ↦ rw (ne_eqb x r q, ne_eqb x l q', ne_eqb x u z) (λ e. let o = g.gap x (omega arith) e in record {
          some = o.some;
          room = omega (arith, o.room);
          next = rw (old (suc x) (omega (arith, o.room))) o.next;
          last = rw (old (suc (suc x)) (omega (arith, o.room))) o.last;
        })
      ]
    ]
  ];
}
  where
    old : (y : ℕ) → y < u → forked u l r k c n y ≡ n y
    old y i = rw (ne_eqb y r (λ z. omega arith), ne_eqb y l (λ z. omega arith), ne_eqb y u (λ z. omega arith))

    after_l : (x : ℕ) → x ≡ u → (forked u l r k c n (suc x)).kind ≢ Route
    after_l x z = rw (ne_eqb (suc x) r (λ v. omega arith), eq-eqb (suc x) l (omega arith)) (λ e. clash (cc))

    after_r : (x : ℕ) → x ≡ u → (forked u l r k c n (suc (suc x))).kind ≢ Route
    after_r x z = rw (eq-eqb (suc (suc x)) r (omega arith)) (λ e. clash (cc))
