-- What holds at each place of the one writer (`Mine`): the memory is tidy but for what its own operation has written, and each comparison to come
-- finds what it looks for. No ghosts: other threads' steps leave the store as it is, so nothing has to be shown to outlive them.
use Rattle.std.specs.Prelude.{Option, Some, None}
use mathlib.Core.Path.{◌≡◌, refl, sym, ◌∙◌}
use mathlib.Core.Logic.{◌≢◌}
use mathlib.Core.Bool.{Bool, true, false, false≢true}
use Prim.Native.Nat.{ℕ, suc, ◌+◌, ◌<◌, ◌≤◌}
use native.Mathlib.Omega.{arith}
use lib.Dec.{eqb}
use borrow.Author.Tests.{eq-eqb, ne_eqb, eqb-true, eqb-false}
use Rattle.container.specs.Choice.{ite, upd}
use Rattle.definitions.specs.declared.Kind.TheVariants.{Route, Main}
use Rattle.definitions.specs.declared.Stage.TheVariants.{Preparing, Completing}
use Rattle.definitions.specs.declared.Action.{Action}
use Rattle.definitions.specs.declared.Action.TheVariants.{Join}
use Rattle.definitions.specs.declared.Quarter.{Quarter}
use Rattle.definitions.specs.declared.Quarter.TheVariants.{ReadLeft, SwapLeft, ReadRight, SwapRight}
use Rattle.definitions.specs.declared.Spot.{Spot}
use Rattle.definitions.specs.declared.Spot.TheVariants.{Root, Under}
use Rattle.definitions.specs.declared.Probe.{Probe}
use Rattle.definitions.specs.declared.Probe.TheVariants.{Hit, Next}
use Rattle.definitions.specs.Threads.{Thread}
use Rattle.definitions.specs.Nodes.{Entry, shape, over, with_kid}
use Rattle.definitions.specs.Bench.{Store}
use Rattle.definitions.specs.Places.{Place, nowhere, p1, p2, p3, p4, p5, p15, p16, p19, p20, p21, p22, p23, p24, p25, p30, p31}
use Rattle.definitions.specs.Places.{p32, p33, p34, p35, p36, p37, p38, p40, p45, p46, p47, p48, p49, p50, p51, p60, p61, p62, p70}
use Rattle.definitions.specs.Places.{p71, p72, p73, p74, p76, p81, p82, swap, own, found, united, opening, next as next_of}
use Rattle.definitions.specs.Effects.{hang, push}
use Rattle.definitions.specs.Steps.{probe}
use Rattle.answers.specs.Reachable.{Reached}
use Rattle.answers.proofs.Memory.{kid_at}
use Rattle.answers.proofs.Tools.{on, off, test, ◌==?◌}
use Rattle.profile.proofs.Tidy.{Tidy, Quiet, alike_hang, used_hang}
use Rattle.profile.proofs.Alone.{At}

-- ---- the four-step swap

-- what is known of the spot at each of its steps, and the steps that are left at most
abbrev pub Here : Quarter → Spot → Type 0
Here ReadLeft v = Unit {0}
Here SwapLeft Root = ⊥
Here SwapLeft (Under p f) = f ≡ true
Here ReadRight Root = ⊥
Here ReadRight (Under p f) = f ≡ false
Here SwapRight Root = ⊥
Here SwapRight (Under p f) = f ≡ false

abbrev pub steps_left : Quarter → ℕ
steps_left ReadLeft = 3
steps_left SwapLeft = 1
steps_left ReadRight = 2
steps_left SwapRight = 1

abbrev pub Sits : Store → Spot → ℕ → Type 0
Sits s v x = At s.nodes s.root s.used v x

pub data Probed (s : Store) (x : ℕ) (q : Quarter) : Probe → Type 0 where
  struck : (v : Spot) → Sits s v x → Probed s x q (Hit v)
  onward : (q' : Quarter) (v : Spot) → Sits s v x → Here q' v → suc (steps_left q') ≤ steps_left q → Probed s x q (Next q')

-- a base that sits at a spot is found there
pub probed : (s : Store) (x : ℕ) (q : Quarter) (v : Spot) → Sits s v x → Here q v → Probed s x q (probe q (s.nodes x).parent (λ z. shape (s.nodes z)) s.root x)
unfolding probe ite
probed s x ReadLeft Root (e, i) h = rw (e, eq-eqb s.root x i) (struck Root (e, i))
probed s x ReadLeft (Under p f) (e, i, l) h = rw e (elim (test (eqb (s.nodes p).left x)) [
  | on z ↦ rw z (onward SwapLeft (Under p true) (e, eqb-true _ _ z, l) refl (omega arith))
  | off z ↦ rw z (onward ReadRight (Under p false) (e, other f i (eqb-false _ _ z), l) refl (omega arith))
])
  where
    other : (f : Bool) → kid_at f (s.nodes p) ≡ x → ((s.nodes p).left ≡ x → ⊥) → (s.nodes p).right ≡ x
    other true i z = absurd (z i)
    other false i z = i
probed s x SwapLeft Root (e, i) h = absurd h
probed s x SwapLeft (Under p true) (e, i, l) h = rw (e, eq-eqb (s.nodes p).left x i) (struck (Under p true) (e, i, l))
probed s x SwapLeft (Under p false) (e, i, l) h = absurd (false≢true h)
probed s x ReadRight Root (e, i) h = absurd h
probed s x ReadRight (Under p true) (e, i, l) h = absurd (false≢true (sym h))
probed s x ReadRight (Under p false) (e, i, l) h = rw (e, eq-eqb (s.nodes p).right x i) (onward SwapRight (Under p false) (e, i, l) refl (omega arith))
probed s x SwapRight Root (e, i) h = absurd h
probed s x SwapRight (Under p true) (e, i, l) h = absurd (false≢true (sym h))
probed s x SwapRight (Under p false) (e, i, l) h = rw (e, eq-eqb (s.nodes p).right x i) (struck (Under p false) (e, i, l))

-- ---- a spot after a write

abbrev pub occupant : Spot → Store → ℕ
occupant Root s = s.root
occupant (Under p d) s = kid_at d (s.nodes p)

pub sits_occupant : (s : Store) (v : Spot) (x : ℕ) → Sits s v x → occupant v s ≡ x
sits_occupant s Root x (_, i) = i
sits_occupant s (Under p d) x (_, i, _) = i

-- who is not displaced stays
pub keep_kid : (v : Spot) (c : ℕ) (s : Store) (f : Bool) (p x : ℕ) → occupant v s ≢ x → kid_at f (s.nodes p) ≡ x → kid_at f ((hang v c s).nodes p) ≡ x
keep_kid Root c s f p x h i = i
keep_kid (Under r d) c s f p x h i = elim (p ==? r) [ yes e ↦ rw (eq-eqb p r e) (go d f h (rw e at i)) | no e ↦ rw (ne_eqb p r e) i ]
  where
    go : (d f : Bool) → kid_at d (s.nodes r) ≢ x → kid_at f (s.nodes r) ≡ x → kid_at f (over (with_kid d c) (s.nodes r)) ≡ x
    go true true h i = absurd (h i)
    go true false h i = i
    go false true h i = i
    go false false h i = absurd (h i)

pub keep_root : (v : Spot) (c : ℕ) (s : Store) (x : ℕ) → occupant v s ≢ x → s.root ≡ x → (hang v c s).root ≡ x
keep_root Root c s x h i = absurd (h i)
keep_root (Under r d) c s x h i = i

pub keep_sits : (v : Spot) (c : ℕ) (s : Store) (v' : Spot) (x : ℕ) → occupant v s ≢ x → Sits s v' x → Sits (hang v c s) v' x
keep_sits v c s Root x h (e, i) = ((alike_hang v c s x).parent ∙ e, keep_root v c s x h i)
keep_sits v c s (Under p f) x h (e, i, l) = ((alike_hang v c s x).parent ∙ e, keep_kid v c s f p x h i, rw (used_hang v c s) l)

-- x takes the place of y, whose parent it has
pub new_sits : (v : Spot) (s : Store) (x y : ℕ) → (s.nodes x).parent ≡ (s.nodes y).parent → Sits s v y → Sits (hang v x s) v x
new_sits Root s x y p (e, i) = (p ∙ e, refl)
new_sits (Under r d) s x y p (e, i, l) = ((alike_hang (Under r d) x s x).parent ∙ p ∙ e, go d, l)
  where
    go : (d : Bool) → kid_at d (upd s.nodes r (over (with_kid d x) (s.nodes r)) r) ≡ x
    go true = rw (eq-eqb r r refl)
    go false = rw (eq-eqb r r refl)

pub push_sits : (s : Store) (v : Spot) (x : ℕ) (k : Entry) → x < s.used → Sits s v x → Sits (push s.used k s) v x
push_sits s Root x k h (e, i) = (rw (ne_eqb x s.used (omega arith)) e, i)
push_sits s (Under p f) x k h (e, i, l) = (rw (ne_eqb x s.used (omega arith)) e, rw (ne_eqb p s.used (omega arith)) i, omega arith)

-- ---- facts

-- reachable
pub record Spotted (s : Store) (x : ℕ) : Type 0 where
  pub depth : ℕ
  pub lo : ℕ
  pub hi : ℕ
  pub path : Reached s.nodes s.root depth x lo hi

-- 20-25: a join's base on side f of its reachable parent
pub record Seek (s : Store) (a : Action) (par base : ℕ) (f : Bool) : Type 0 where
  pub act : a ≡ Join
  pub quiet : Quiet s
  pub reach : Spotted s par
  pub route : (s.nodes par).kind ≡ Route
  pub here : kid_at f (s.nodes par) ≡ base

-- 26-35: its main m under P is preparing, all others are done; g is the grandparent that it has marked
pub record Work (s : Store) (a : Action) (o : Bool) (m P : ℕ) (g : Option ℕ) : Type 0 where
  pub act : a ≡ Join
  pub owner : o ≡ true
  pub tidy : Tidy s.nodes s.used (Some m) g
  pub kind : (s.nodes m).kind ≡ Main
  pub stage : (s.nodes m).stage ≡ Preparing
  pub parent : (s.nodes m).parent ≡ Some P
  pub route : (s.nodes P).kind ≡ Route
  pub low : P < s.used

-- 26-30: no route bears its mark
abbrev pub Unmarked : Store → ℕ → Type 0
Unmarked s m = (r : ℕ) → (s.nodes r).mark ≢ Some m

-- a base that sits where its parent says; 30-41
pub record Hung (s : Store) (x : ℕ) : Type 0 where
  pub spot : Spot
  pub sits : Sits s spot x
  pub low : x < s.used
  pub base : (s.nodes x).kind ≢ Route

-- 32: on the way to P
pub record Climb (s : Store) (x P : ℕ) : Type 0 where
  pub reach : Spotted s x
  pub route : (s.nodes x).kind ≡ Route
  pub apart : x ≢ P
  pub from_lo : reach.lo < (s.nodes P).key
  pub to_hi : (s.nodes P).key < reach.hi

-- 33: the grandparent G
pub record Grand (s : Store) (G P : ℕ) : Type 0 where
  pub reach : Spotted s G
  pub route : (s.nodes G).kind ≡ Route
  pub apart : G ≢ P
  pub side : Bool
  pub here : kid_at side (s.nodes G) ≡ P

-- 34-46: where P hangs; 47-49: on which side
abbrev pub OnSide : Store → ℕ → ℕ → ℕ → Bool → Type 0
OnSide s m P G f = (kid_at f (s.nodes G) ≡ P) × ((s.nodes G).mark ≡ Some m) × (G < s.used)

abbrev pub Over : Store → ℕ → ℕ → Option ℕ → Type 0
Over s m P None = s.root ≡ P
Over s m P (Some G) = (f : Bool) × OnSide s m P G f

-- 40-49: its main is a node number
pub record Close (s : Store) (a : Action) (o : Bool) (m P : ℕ) : Type 0 where
  pub act : a ≡ Join
  pub owner : o ≡ true
  pub tidy : Tidy s.nodes s.used (Some m) (s.nodes m).grandparent
  pub kind : (s.nodes m).kind ≡ Main
  pub stage : (s.nodes m).stage ≡ Completing
  pub parent : (s.nodes m).parent ≡ Some P
  pub route : (s.nodes P).kind ≡ Route

-- 50
pub record Leaves (s : Store) (a : Action) (o : Bool) (m G : ℕ) : Type 0 where
  pub act : a ≡ Join
  pub owner : o ≡ true
  pub tidy : Tidy s.nodes s.used (Some m) (Some G)
  pub kind : (s.nodes m).kind ≡ Main
  pub grand : (s.nodes m).grandparent ≡ Some G
  pub mark : (s.nodes G).mark ≡ Some m

-- 51
pub record Ends (s : Store) (a : Action) (o : Bool) (m : ℕ) : Type 0 where
  pub act : a ≡ Join
  pub owner : o ≡ true
  pub tidy : Tidy s.nodes s.used (Some m) None

abbrev WorkOf : Store → Thread → Option ℕ → Type 0
WorkOf s th g = Work s th.action th.owner th.main th.parent g

abbrev SeekOf : Store → Thread → Bool → Type 0
SeekOf s th f = Seek s th.action th.parent th.base f

abbrev CloseOf : Store → Thread → ℕ → Type 0
CloseOf s th P = Close s th.action th.owner th.main P

-- c is the number of own steps taken
abbrev pub Mine : Place → Store → Thread → ℕ → Type 0
Mine nowhere s th c = Quiet s
Mine p1 s th c = Quiet s × (c ≡ 0)
Mine p2 s th c = Quiet s × (q : Spotted s th.route) × (c ≡ suc q.depth) × ((s.nodes th.route).kind ≡ Route)
Mine p3 s th c = Quiet s × (q : Spotted s th.base) × (c ≡ suc q.depth) × ((s.nodes th.base).kind ≢ Route)
Mine (swap own q) s th c = Quiet s × (v : Spot) × Sits s v th.base × Here q v × (c + steps_left q ≤ 68)
Mine p4 s th c = ⊥
Mine p5 s th c = ⊥
Mine p15 s th c = ⊥
Mine p16 s th c = ⊥
Mine p19 s th c = ⊥
Mine p20 s th c = (f : Bool) × SeekOf s th f
Mine p21 s th c = SeekOf s th false
Mine p22 s th c = SeekOf s th th.left
Mine p23 s th c = SeekOf s th th.left × Spotted s th.route × ((s.nodes th.route).kind ≡ Route)
Mine p24 s th c = SeekOf s th th.left × Spotted s th.found × ((s.nodes th.found).kind ≢ Route)
Mine p25 s th c = SeekOf s th th.left × Spotted s th.found × ((s.nodes th.found).kind ≢ Route)
Mine (swap found q) s th c = WorkOf s th None × Unmarked s th.main × (v : Spot) × Sits s v th.found × Here q v × (th.found < s.used) × ((s.nodes th.found).kind ≢ Route)
Mine p30 s th c = WorkOf s th None × Unmarked s th.main × Hung s th.neighbour
Mine p31 s th c = WorkOf s th None × Hung s th.neighbour
Mine p32 s th c = WorkOf s th None × Hung s th.neighbour × Climb s th.route th.parent
Mine p33 s th c = WorkOf s th None × Hung s th.neighbour × (G : ℕ) × (th.grandparent ≡ Some G) × Grand s G th.parent
Mine p34 s th c = WorkOf s th th.grandparent × Hung s th.neighbour × Over s th.main th.parent th.grandparent
Mine p35 s th c = WorkOf s th th.grandparent × Hung s th.neighbour × Over s th.main th.parent th.grandparent
Mine p36 s th c = ⊥
Mine p37 s th c = ⊥
Mine p38 s th c = ⊥
Mine p40 s th c = (P : ℕ) × CloseOf s th P × Over s th.main P (s.nodes th.main).grandparent × Hung s (s.nodes th.main).neighbour
Mine (swap united q) s th c = (P : ℕ) × CloseOf s th P × Over s th.main P (s.nodes th.main).grandparent
    × (v : Spot) × Sits s v (s.nodes th.main).neighbour × Here q v × ((s.nodes (s.nodes th.main).neighbour).kind ≢ Route)
Mine p45 s th c = (P : ℕ) × CloseOf s th P × Over s th.main P (s.nodes th.main).grandparent
Mine p46 s th c = (P : ℕ) × CloseOf s th P × Over s th.main P (s.nodes th.main).grandparent
Mine p47 s th c = (P G : ℕ) × CloseOf s th P × ((s.nodes th.main).grandparent ≡ Some G) × OnSide s th.main P G true
Mine p48 s th c = (P G : ℕ) × CloseOf s th P × ((s.nodes th.main).grandparent ≡ Some G) × OnSide s th.main P G false
Mine p49 s th c = (P G : ℕ) × CloseOf s th P × ((s.nodes th.main).grandparent ≡ Some G) × OnSide s th.main P G false
Mine p50 s th c = (G : ℕ) × Leaves s th.action th.owner th.main G
Mine p51 s th c = Ends s th.action th.owner th.main
Mine p60 s th c = ⊥
Mine p61 s th c = ⊥
Mine p62 s th c = ⊥
Mine p70 s th c = ⊥
Mine p71 s th c = ⊥
Mine p72 s th c = ⊥
Mine p73 s th c = ⊥
Mine p74 s th c = ⊥
Mine p76 s th c = ⊥
Mine p81 s th c = ⊥
Mine p82 s th c = ⊥
Mine (swap opening q) s th c = ⊥
Mine (swap next_of q) s th c = ⊥
