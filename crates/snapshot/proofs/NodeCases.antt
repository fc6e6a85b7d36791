-- What each function of module node has written, one law for each way out; p is the page before. Assumes nothing.
use Rattle.std.specs.Prelude.{Option}
use mathlib.Core.Path.{◌≡◌, refl, sym, ap, ◌∙◌, fun_ext}
use mathlib.Core.Bool.{Bool, true, false, true≢false}
use mathlib.Core.List.{List, [], ◌∷◌, ◌++◌, append_assoc}
use Prim.Native.Nat.{ℕ, zero, suc, ◌+◌, ◌-◌, ◌*◌, ◌<◌, ◌≤◌}
use native.Mathlib.Numerals.{add-one}
use native.Mathlib.Omega.{arith}
use native.Mathlib.Decide.{dec_lt}
use borrow.Author.Tests.{ne_eqb}
use lib.Dec.{eqb}
use Rattle.container.specs.Choice.{ite}
use Rattle.container.specs.Container.{has, from, least}
use Rattle.container.specs.Depths.{container, blank, find}
use Rattle.container.proofs.Laws.{from_in, from_out, least_le, least_has, least_none}
use Rattle.container.proofs.DepthLaws.{find_none}
use Rattle.buffer.specs.Page.{Page, put_all}
use Rattle.buffer.proofs.Laws.{joined}
use Rattle.depths.specs.Rows.{Rows, full}
use Rattle.definitions.specs.Nodes.{Shapes, entry, is_route}
use Rattle.definitions.specs.Run.{bytes_of}
use Rattle.definitions.specs.declared.Kind.{Kind}
use Rattle.definitions.specs.declared.Kind.TheVariants.{Normal, Route, Main, Neighbour, Range}
use Rattle.definitions.specs.declared.Stage.{Stage}
use Rattle.definitions.specs.declared.Stage.TheVariants.{Preparing, Completing, Aborted, Done}
use Rattle.definitions.specs.declared.Node.{Node}
use Rattle.snapshot.specs.Layout.{zeros, shared_bytes, each, kind_number, route_bytes, base_bytes, agreed_bytes, own_bytes, depth_bytes, holding, node_bytes}
use Rattle.snapshot.specs.Fields.{plain, based, field_bytes}

-- ---- the fields of the node n

-- a base's fields, and ys after them, where the kind is k
of_kind : (n : Node) (k : Kind) → n.kind ≡ k → route_bytes k (plain n) ++ (base_bytes k (plain n) ++ own_bytes k (plain n)) ≡ field_bytes (plain n)
of_kind n k h = ap (λ (j : Kind). route_bytes j (plain n) ++ (base_bytes j (plain n) ++ own_bytes j (plain n))) (sym h)

pub fields_neighbour : (n : Node) → n.kind ≡ Neighbour → based n ++ (zeros 10 ++ ((1 ∷ n.main ∷ []) ++ zeros 4)) ≡ field_bytes (plain n)
fields_neighbour n h = of_kind n Neighbour h

pub fields_range : (n : Node) → n.kind ≡ Range → based n ++ (zeros 12 ++ n.lower ∷ n.upper ∷ 1 ∷ n.store ∷ []) ≡ field_bytes (plain n)
fields_range n h = of_kind n Range h

-- ---- depths, in version v: those of the container with the set c

-- no station has one
none_deep : (f : ℕ → List ℕ) → ((s : ℕ) → f s ≡ 0 ∷ 0 ∷ []) → zeros 128 ≡ each f 64
unfolding each
none_deep f h = ap (λ (g : ℕ → List ℕ). each g 64) (sym (fun_ext h))

-- the least station from s on
pub next_past : (s c : ℕ) {rest low : ℕ} → s < 64 → rest ≡ from s c → low ≡ least rest → s ≤ low
next_past s c {rest} {low} l i j =
    elim (dec_lt low s) [
      | yes g ↦ absurd (true≢false (sym (least_has rest (omega arith)) ∙ (ap (λ (x : ℕ). has x (least rest)) i ∙ from_out s c (least rest) (omega arith))))
      | no g ↦ omega arith
    ]

pub next_le : (c : ℕ) {low : ℕ} → low ≡ least c → low ≤ 64
next_le c e = rw e (least_le c)

pub next_there : (s c : ℕ) {rest low : ℕ} → s < 64 → rest ≡ from s c → low ≡ least rest → low < 64 → has c low ≡ true
next_there s c {rest} {low} l i j h =
    sym (from_in s c low (next_past s c l i j)) ∙ (ap (λ (x : ℕ). has x low) (sym i) ∙ (ap (has rest) j ∙ least_has rest (omega arith)))

module _ (p : Page) (v c : ℕ) (d : ℕ → ℕ) where
  pub depths_flat : {q : Page} → v ≡ 1 → q ≡ put_all p (zeros 128) → q ≡ put_all p (each (depth_bytes (v ∷ []) (container c d)) 64)
  unfolding bytes_of ite
  depths_flat h e = e ∙ ap (put_all p) (none_deep _ (λ s. rw h))

  pub depths_empty : {q : Page} → c ≡ 0 → q ≡ put_all p (zeros 128) → q ≡ put_all p (each (depth_bytes (v ∷ []) (container c d)) 64)
  unfolding bytes_of ite
  depths_empty h e = e ∙ ap (put_all p) (none_deep _ (λ s. rw (h, find_none d s) (by (eqb v 1))))
    where
      by : (b : Bool) → bytes_of 2 (ite b 0 0) ≡ 0 ∷ 0 ∷ []
      by true = refl
      by false = refl

  pub depths_start : p ≡ put_all p (each (depth_bytes (v ∷ []) (container c d)) 0)
  unfolding each put_all
  depths_start = refl

  pub depths_there : (s : ℕ) {t : Bool} {y : ℕ} {q r : Page} → (v ≡ 1 → ⊥) → t ≡ has c s → t ≡ true → y ≡ d s → q ≡ put_all p (each (depth_bytes (v ∷ []) (container c d)) s)
      → r ≡ put_all q (bytes_of 2 y)
      → r ≡ put_all p (each (depth_bytes (v ∷ []) (container c d)) (s + 1))
  unfolding each find ite
  depths_there s {y = y} n h i j e f = rw (add-one s) (joined p (each (depth_bytes (v ∷ []) (container c d)) s) (bytes_of 2 y) e f ∙ rw (ne_eqb v 1 n, ← h, i, j))

  depths_absent : (s : ℕ) {q r : Page} → (v ≡ 1 → ⊥) → has c s ≡ false → q ≡ put_all p (each (depth_bytes (v ∷ []) (container c d)) s) → r ≡ put_all q (0 ∷ 0 ∷ [])
      → r ≡ put_all p (each (depth_bytes (v ∷ []) (container c d)) (s + 1))
  unfolding each find ite bytes_of
  depths_absent s n i e f = rw (add-one s) (joined p (each (depth_bytes (v ∷ []) (container c d)) s) (0 ∷ 0 ∷ []) e f ∙ rw (ne_eqb v 1 n, i))

  -- k stations from s on that are not there
  depths_skipped : (k s : ℕ) {q r : Page} → (v ≡ 1 → ⊥) → ((j : ℕ) → s ≤ j → j < s + k → has c j ≡ false) → q ≡ put_all p (each (depth_bytes (v ∷ []) (container c d)) s)
      → r ≡ put_all q (zeros (2 * k))
      → r ≡ put_all p (each (depth_bytes (v ∷ []) (container c d)) (s + k))
  unfolding put_all
  depths_skipped zero s n h e f = let same : s + 0 ≡ s = omega arith in rw same (f ∙ e)
  depths_skipped (suc k) s {q} {r} n h e f =
      let twice : 2 * suc k ≡ suc (suc (2 * k)) = omega arith in
      let past : s + suc k ≡ s + 1 + k = omega arith in
      let g : r ≡ put_all (put_all q (0 ∷ 0 ∷ [])) (zeros (2 * k)) = f ∙ ap (λ (m : ℕ). put_all q (zeros m)) twice in
      rw past (depths_skipped k (s + 1) n (λ j a b. h j (omega arith) (omega arith)) (depths_absent s n (h s (omega arith) (omega arith)) e refl) g)

  -- up to the next station that is there, or to the end
  pub depths_next : (s : ℕ) {rest low gap : ℕ} {q r : Page} → (v ≡ 1 → ⊥) → s < 64 → rest ≡ from s c → low ≡ least rest → gap ≡ low - s → q ≡ put_all p (each (depth_bytes (v ∷ []) (container c d)) s)
      → r ≡ put_all q (zeros (2 * gap))
      → r ≡ put_all p (each (depth_bytes (v ∷ []) (container c d)) low)
  depths_next s {rest} {low} n l i j g e f =
      let past : s ≤ low = next_past s c l i j in
      let up : s + (low - s) ≡ low = omega arith in
      rw (← up) (depths_skipped (low - s) s n (λ k a b. sym (from_in s c k a) ∙ ap (λ (x : ℕ). has x k) (sym i) ∙ least_none rest k (omega arith)) e (f ∙ rw g))

  pub depths_done : (s : ℕ) {q : Page} → s ≤ 64 → 64 ≤ s → q ≡ put_all p (each (depth_bytes (v ∷ []) (container c d)) s) → q ≡ put_all p (each (depth_bytes (v ∷ []) (container c d)) 64)
  depths_done s l m e = let same : s ≡ 64 = omega arith in e ∙ ap (λ (k : ℕ). put_all p (each (depth_bytes (v ∷ []) (container c d)) k)) same

-- ---- the whole node

same_agreed : (s : Stage) (n : Node) (d : ℕ → ℕ) → agreed_bytes s (plain n) ≡ agreed_bytes s (entry n d)
same_agreed Preparing n d = refl
same_agreed Completing n d = refl
same_agreed Aborted n d = refl
same_agreed Done n d = refl

-- no field is a depth
same_fields : (k : Kind) (n : Node) (d : ℕ → ℕ)
    → route_bytes k (plain n) ++ (base_bytes k (plain n) ++ own_bytes k (plain n)) ≡ route_bytes k (entry n d) ++ (base_bytes k (entry n d) ++ own_bytes k (entry n d))
same_fields Normal n d = refl
same_fields Route n d = refl
same_fields Main n d = rw (same_agreed n.stage n d)
same_fields Neighbour n d = refl
same_fields Range n d = refl

-- a route holds nothing
same_held : (file : List ℕ) (b : Bool) (c : ℕ) (d : ℕ → ℕ) → depth_bytes file (container (ite b 0 c) d) ≡ depth_bytes file (ite b blank (container c d))
unfolding ite
same_held file true c d = fun_ext (λ s. rw (find_none d s, find_none (λ _. 0) s))
same_held file false c d = refl

pub all_bytes : (file : List ℕ) (range : Option ℕ) (n : Node) (d : ℕ → ℕ)
    → kind_number n.kind ∷ (shared_bytes range ++ (field_bytes (plain n) ++ (zeros 6 ++ each (depth_bytes file (container (ite (is_route n.kind) 0 n.container) d)) 64)))
    ≡ node_bytes file range (entry n d)
unfolding node_bytes
all_bytes file range n d =
    let e = entry n d in
    let deep = zeros 6 ++ each (depth_bytes file (holding e)) 64 in
    ap (λ (f : ℕ → List ℕ). kind_number n.kind ∷ (shared_bytes range ++ (field_bytes (plain n) ++ (zeros 6 ++ each f 64))))
    (same_held file (is_route n.kind) n.container d)
    ∙ (ap (λ (l : List ℕ). kind_number n.kind ∷ (shared_bytes range ++ (l ++ deep))) (same_fields n.kind n d)
    ∙ ap (λ (l : List ℕ). kind_number n.kind ∷ (shared_bytes range ++ l))
    (append_assoc (route_bytes n.kind e) (base_bytes n.kind e ++ own_bytes n.kind e) deep
    ∙ ap (λ (l : List ℕ). route_bytes n.kind e ++ l) (append_assoc (base_bytes n.kind e) (own_bytes n.kind e) deep)))

-- node x in version v
pub node_parts : (v : ℕ) (range : Option ℕ) (t : Shapes) (d : Rows) (x : ℕ) {n : Node} {k held : ℕ} → n ≡ t x → k ≡ kind_number n.kind → held ≡ ite (is_route n.kind) 0 n.container
    → (k ∷ []) ++ (shared_bytes range ++ (field_bytes (plain n) ++ (zeros 6 ++ each (depth_bytes (v ∷ []) (container held (d x))) 64))) ≡ node_bytes (v ∷ []) range (full t d x)
node_parts v range t d x {n} i j h = rw (j, h) (all_bytes (v ∷ []) range n (d x) ∙ ap (λ (m : Node). node_bytes (v ∷ []) range (entry m (d x))) i)

pub holding_route : (n : Node) {c : Bool} → c ≡ is_route n.kind → c ≡ true → 0 ≡ ite (is_route n.kind) 0 n.container
unfolding ite
holding_route n e h = rw (← e, h)

pub holding_base : (n : Node) {c : Bool} → c ≡ is_route n.kind → c ≡ false → n.container ≡ ite (is_route n.kind) 0 n.container
unfolding ite
holding_base n e h = rw (← e, h)

pub ruleset node_cases = (holding_route, holding_base)
