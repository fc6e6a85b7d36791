-- What is shown of a split's or join's reasons (definitions/specs/Reasons.antt). A thread's own notes are enough: `Stand` is what they say at
-- each part of an operation, and `Told` what is shown of a step. Nothing of the memory is needed.
use mathlib.Core.Path.{◌≡◌, refl}
use mathlib.Core.Logic.{◌⊎◌, inl, inr}
use mathlib.Core.Bool.{Bool, true, false, not, ◌||◌, ◌&&◌, false≢true}
use Prim.Native.Nat.{ℕ}
use lib.Dec.{eqb, ltb, leb}
use Rattle.container.specs.Choice.{ite}
use Rattle.definitions.specs.declared.Action.{Action}
use Rattle.definitions.specs.declared.Action.TheVariants.{Lookup, Insert, Remove, Split, Join, Query}
use Rattle.definitions.specs.declared.Effect.{Effect}
use Rattle.definitions.specs.declared.Effect.TheVariants.{Quiet}
use Rattle.definitions.specs.declared.Answer.TheVariants.{No, Yes, At}
use Rattle.definitions.specs.Threads.{Thread, Turn, Moves, Finishes, Finds, Full, NoStore}
use Rattle.definitions.specs.Bench.{Store}
use Rattle.definitions.specs.Places.{own, found, united, opening, next, Place, nowhere, p1, p2, p3, p4, p5, p15, p16, p19, p20}
use Rattle.definitions.specs.Places.{p21, p22, p23, p24, p25, p30, p31, p32, p33, p34, p35, p36, p37, p38, p40, p45, p46, p47, p48}
use Rattle.definitions.specs.Places.{p49, p50, p51, p60, p61, p62, p70, p71, p72, p73, p74, p76, p81, p82, swap, place_of}
use Rattle.definitions.specs.Answers.{said, shown}
use Rattle.definitions.specs.Reasons.{changes, Reason}

-- ---- the parts of an operation

pub data Part : Type 0 where
  -- none; 1-16 and 60-82; 19-25; 26-38; 40-51
  idle free seeking holding helping : Part

abbrev pub part_of : Place → Part
part_of nowhere = idle
part_of p1 = free
part_of p2 = free
part_of p3 = free
part_of p4 = free
part_of p5 = free
part_of (swap own q) = free
part_of p15 = free
part_of p16 = free
part_of p19 = seeking
part_of p20 = seeking
part_of p21 = seeking
part_of p22 = seeking
part_of p23 = seeking
part_of p24 = seeking
part_of p25 = seeking
part_of (swap found q) = holding
part_of p30 = holding
part_of p31 = holding
part_of p32 = holding
part_of p33 = holding
part_of p34 = holding
part_of p35 = holding
part_of p36 = holding
part_of p37 = holding
part_of p38 = holding
part_of p40 = helping
part_of (swap united q) = helping
part_of p45 = helping
part_of p46 = helping
part_of p47 = helping
part_of p48 = helping
part_of p49 = helping
part_of p50 = helping
part_of p51 = helping
part_of p60 = free
part_of p61 = free
part_of p62 = free
part_of (swap opening q) = free
part_of p70 = free
part_of p71 = free
part_of p72 = free
part_of p73 = free
part_of p74 = free
part_of p76 = free
part_of (swap next q) = free
part_of p81 = free
part_of p82 = free

-- d: the thread's operation has made its change. From 40 on the owner's has, a helper's has not
abbrev pub Stand : Part → Thread → Bool → Type 0
Stand idle th d = Unit {0}
Stand free th d = d ≡ false
Stand seeking th d = (th.action ≡ Join) × (d ≡ false)
Stand holding th d = (th.action ≡ Join) × (th.owner ≡ true) × (d ≡ false)
Stand helping th d = d ≡ th.owner

abbrev pub Stands : Thread → Bool → Type 0
Stands th d = Stand (part_of (place_of th.place)) th d

-- what is shown of a step of thread th at place number n: f is d after it, by its effect
abbrev pub Told : Thread → ℕ → (Effect → Bool) → Turn → Type 0
Told th n f (Moves th' e) = Stands th' (f e)
Told th n f (Finishes e a) = Reason th.action n (f e) (shown a)
Told th n f (Finds c) = Reason th.action n (f Quiet) (said (not (eqb c 0)))
Told th n f Full = Unit {0}
Told th n f NoStore = Unit {0}

pub same : (th : Thread) (n : ℕ) (f : Effect → Bool) (c : Bool) (o : Turn) → ((e : Effect) → f e ≡ c) → Told th n (λ _. c) o → Told th n f o
same th n f c (Moves th' e) h k = rw (h e) k
same th n f c (Finishes e a) h k = rw (h e) k
same th n f c (Finds c') h k = rw (h Quiet) k
same th n f c Full h k = tt
same th n f c NoStore h k = tt

pub either : (th : Thread) (n : ℕ) (f : Effect → Bool) (c : Bool) (o o' : Turn) → (c ≡ true → Told th n f o) → (c ≡ false → Told th n f o') → Told th n f (ite c o o')
unfolding ite
either th n f true o o' p q = p refl
either th n f false o o' p q = q refl

pub one_of : (v : Bool) → (said v ≡ No) ⊎ (said v ≡ Yes)
one_of true = inr refl
one_of false = inl refl

pub one_shown : (v : Bool) → (shown (said v) ≡ No) ⊎ (shown (said v) ≡ Yes)
one_shown true = inr refl
one_shown false = inl refl

-- a lookup's answer at the base x
pub one_looked : (v : Bool) (x : ℕ) → (shown (ite v (At x) No) ≡ No) ⊎ (shown (ite v (At x) No) ≡ Yes)
unfolding ite
one_looked true x = inr refl
one_looked false x = inl refl

-- ---- at other places than 10-13 and 35 no change is made

pub or_off : (b : Bool) → b || false ≡ b
or_off true = refl
or_off false = refl

-- a place number that is none of theirs
abbrev pub apart : ℕ → Bool
apart n = ltb 0 n && (not (leb 10 n && leb n 13) && not (eqb n 35))

pub all_of : (a b c : Bool) → a && (not b && not c) ≡ true → (a ≡ true) × (b ≡ false) × (c ≡ false)
all_of true false false h = (refl, refl, refl)
all_of true false true h = absurd (false≢true h)
all_of true true c h = absurd (false≢true h)
all_of false b c h = absurd (false≢true h)

pub none : (a : Action) (n : ℕ) (s s' : Store) (th : Thread) → leb 10 n && leb n 13 ≡ false → eqb n 35 ≡ false → changes a n s s' th ≡ false
none Lookup n s s' th h i = refl
none Insert n s s' th h i = refl
none Remove n s s' th h i = refl
none Split n s s' th h i = rw h
none Join n s s' th h i = rw i
none Query n s s' th h i = refl
