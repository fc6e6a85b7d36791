-- What List's text depends on: the version of the file, and of a container its stations and, from version 2 on, their depths. Assumes nothing.
use mathlib.Core.Path.{◌≡◌, refl, sym, ap₂, ◌∙◌}
use mathlib.Core.Bool.{true, true≢false}
use mathlib.Core.List.{List, ◌++◌}
use Prim.Native.Nat.{ℕ, zero, suc}
use borrow.Author.Tests.{eq-eqb, eqb-true}
use lib.Dec.{eqb}
use Rattle.container.specs.Choice.{ite}
use Rattle.container.specs.Container.{has, all}
use Rattle.container.specs.Depths.{Container}
use Rattle.container.proofs.Digits.{on, off, test}
use Rattle.definitions.specs.Nodes.{Nodes, Shapes}
use Rattle.definitions.specs.Bench.{Bench}
use Rattle.definitions.specs.Tree.{held_below, tree_held}
use Rattle.definitions.specs.Schedule.{version}
use Rattle.definitions.specs.Listing.{stations_to, stations_text, route_line, base_line, subtree_text, set_line, listing}
use Rattle.tree.specs.Below.{set_below}
use Rattle.tree.proofs.Held.{held_set, held_depth}
use Rattle.depths.specs.Rows.{Rows, full}
use Rattle.listing.specs.Texts.{headed, shown}

-- ---- containers with the same stations at the same depths

module _ (file : List ℕ) (a b : Container) (e : a.set ≡ b.set) (h : (s : ℕ) → has b.set s ≡ true → a.depth s ≡ b.depth s) where
  same_to : (k : ℕ) → stations_to file k a ≡ stations_to file k b
  unfolding stations_to ite
  same_to zero = refl
  same_to (suc k) = rw (same_to k, e) (elim (test (has b.set k)) [ on i ↦ rw (i, h k i) | off i ↦ rw i ])

  same_set : set_line file a ≡ set_line file b
  unfolding set_line stations_text
  same_set = rw (same_to 64, e)

-- the set of the tree, at the depths where its stations lead to
pub set_held : (file : List ℕ) (t : Shapes) (d : ℕ → ℕ → ℕ) (x c : ℕ) → c ≡ set_below 63 t x all → set_line file (shown c 63 (full t d) x) ≡ set_line file (held_below 63 (full t d) x all)
set_held file t d x c e = same_set file (shown c 63 (full t d) x) (held_below 63 (full t d) x all) (e ∙ sym (held_set 63 (full t d) x all)) (λ s i. sym (held_depth 63 (full t d) x all s i))

-- ---- files of the same version

module _ (f g : List ℕ) (e : version f ≡ version g) where
  version_to : (k : ℕ) (c : Container) → stations_to f k c ≡ stations_to g k c
  unfolding stations_to
  version_to zero c = refl
  version_to (suc k) c = rw (version_to k c, e)

  version_text : (c : Container) → stations_text f c ≡ stations_text g c
  unfolding stations_text
  version_text c = rw (version_to 64 c)

  version_subtree : (k : ℕ) (n : Nodes) (x : ℕ) → subtree_text f k n x ≡ subtree_text g k n x
  unfolding subtree_text base_line
  version_subtree zero n x = rw (version_text (n x).container)
  version_subtree (suc k) n x = rw (version_text (n x).container, version_subtree k n (n x).left, version_subtree k n (n x).right)

  version_set : (c : Container) → set_line f c ≡ set_line g c
  unfolding set_line
  version_set c = rw (version_text c)

  pub version_listing : (b : Bench) → listing f b ≡ listing g b
  unfolding listing
  version_listing b = ap₂ (λ (a b : List ℕ). a ++ b) (version_subtree 63 b.store.nodes b.store.root) (version_set (tree_held b))

-- ---- a file of version 1 shows no depths

module _ (file : List ℕ) (e : version file ≡ 1) where
  plain_to : (k : ℕ) (a b : Container) → a.set ≡ b.set → stations_to file k a ≡ stations_to file k b
  unfolding stations_to ite
  plain_to zero a b h = refl
  plain_to (suc k) a b h = rw (plain_to k a b h, h, e)

  plain_text : (a b : Container) → a.set ≡ b.set → stations_text file a ≡ stations_text file b
  unfolding stations_text
  plain_text a b h = rw (plain_to 64 a b h, h)

  module _ (t : Shapes) (c d : Rows) where
    plain_subtree : (k x : ℕ) → subtree_text file k (full t c) x ≡ subtree_text file k (full t d) x
    unfolding subtree_text base_line route_line
    plain_subtree zero x = rw (plain_text (full t c x).container (full t d x).container refl)
    plain_subtree (suc k) x = rw (plain_text (full t c x).container (full t d x).container refl, plain_subtree k (t x).left, plain_subtree k (t x).right)

    plain_set : (x : ℕ) → set_line file (held_below 63 (full t c) x all) ≡ set_line file (held_below 63 (full t d) x all)
    unfolding set_line
    plain_set x = rw (plain_text (held_below 63 (full t c) x all) (held_below 63 (full t d) x all) (held_set 63 (full t c) x all ∙ sym (held_set 63 (full t d) x all)))

-- ---- what `write_tree` has written is the listing of the bench whose table it read; version 1 may be lent other depths than the bench's

abbrev text_of : List ℕ → Shapes → Rows → ℕ → List ℕ
text_of file t d x = subtree_text file 63 (full t d) x ++ set_line file (held_below 63 (full t d) x all)

same_depths : (file : List ℕ) (t : Shapes) (c d : Rows) (x : ℕ) → ((version file ≡ 1 → ⊥) → c ≡ d) → text_of file t c x ≡ text_of file t d x
same_depths file t c d x h = elim (test (eqb (version file) 1)) [
  | on e ↦ (let one : version file ≡ 1 = eqb-true _ _ e in ap₂ (λ (a b : List ℕ). a ++ b) (plain_subtree file one t c d 63 x) (plain_set file one t c d x))
  | off e ↦ rw (h (λ z. true≢false (sym (eq-eqb _ _ z) ∙ e)))
]

pub written : (file : List ℕ) (v : ℕ) (t : Shapes) (c d : Rows) (root : ℕ) (b : Bench) → v ≡ version file → ((version file ≡ 1 → ⊥) → c ≡ d) → full t d ≡ b.store.nodes → root ≡ b.store.root
    → subtree_text (headed v) 63 (full t c) root ++ set_line (headed v) (held_below 63 (full t c) root all) ≡ listing file b
unfolding listing tree_held
written file v t c d root b e h i j = same_depths (headed v) t c d root (λ n. h (λ z. n (e ∙ z))) ∙ rw (i, j) (version_listing (headed v) file e b)
