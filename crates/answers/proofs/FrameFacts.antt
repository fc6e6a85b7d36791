-- What is known of a thread's frames: of each, whatever the place (`Pile`), and of the one that is carried on, at the places 60 to 82.
use Rattle.std.specs.Prelude.{Option, Some, None}
use mathlib.Core.Path.{◌≡◌, refl}
use native.Mathlib.Omega.{arith}
use mathlib.Core.Logic.{◌≢◌, ◌⊎◌, inl, inr}
use mathlib.Core.Bool.{Bool, true, false}
use mathlib.Core.List.{List, [], ◌∷◌}
use Prim.Native.Nat.{ℕ, suc, ◌<◌, ◌≤◌}
use lib.ListN.{length}
use Rattle.container.specs.Depths.{is_in}
use Rattle.container.specs.Container.{has}
use Rattle.definitions.specs.declared.Kind.TheVariants.{Route}
use Rattle.definitions.specs.Threads.{Frame, Thread}
use Rattle.definitions.specs.Frames.{top_of, tail_of, reaches}
use Rattle.definitions.specs.Steps.{is_query}
use Rattle.answers.proofs.Memory.{World, Hist, Live, Born, In, kind_of, IsBase, key_of, kid, Waits, Of}
use Rattle.answers.proofs.Facts.{Fresh, AtBase}

-- routes ever linked
abbrev pub Routed : World → ℕ → Type 0
Routed w x = (kind_of w x ≡ Route) × Born w x

-- x is in the stack
abbrev pub Member : ℕ → List ℕ → Type 0
Member x [] = ⊥
Member x (y ∷ s) = (x ≡ y) ⊎ Member x s

-- the route that a link names, if any, is in the stack
abbrev pub Hung : Option ℕ → List ℕ → Type 0
Hung None s = Unit {0}
Hung (Some r) s = Member r s

-- the stack's top, if any, has a lower number
abbrev pub Over : ℕ → List ℕ → Type 0
Over x [] = Unit {0}
Over x (y ∷ s) = y < x

-- K: a stack of routes ever linked, their numbers rising to the top; what is above each of them (of a dead one: was, when it died) is lower in the stack
abbrev pub Climb : World → List ℕ → Type 0
Climb w [] = Unit {0}
Climb w (x ∷ s) = Routed w x × Hung (w.up x) s × Over x s × Climb w s

-- a station of base x that the stack's top has in its range, and each live entry
pub record Sight (w : World) (x : ℕ) (s : List ℕ) : Type 0 where
  pub at : ℕ
  pub mine : In w at x
  pub tops : s ≢ [] → In w at (top_of s)
  pub entries : (z : ℕ) → Member z s → Live w z → In w at z

-- the base added last, on top of the backup
abbrev pub prev_of : Frame → ℕ
prev_of f = top_of f.backup

-- the base added last is a range base of the store, over routes; while the store is unset, done is the plain set from `start` to that base's end
pub record Added (w : World) (hist : Hist) (f : Frame) (S : ℕ) : Type 0 where
  pub of : Of w S (prev_of f)
  pub born : Born w (prev_of f)
  pub climb : Climb w (tail_of f.backup)
  pub agrees : Waits w S → (s : ℕ) → (w.tale S).start ≤ s → s < w.hi (prev_of f) → has f.done s ≡ is_in (hist w.now s)
  pub within : Waits w S → (s : ℕ) → has f.done s ≡ true → s < w.hi (prev_of f)
  pub whole : Waits w S → tail_of f.backup ≡ [] → w.hi (prev_of f) ≡ 64
  pub hung : Waits w S → Hung (w.up (prev_of f)) (tail_of f.backup)
  pub sight : Waits w S → Sight w (prev_of f) (tail_of f.backup)

-- a frame with a store has its ends
pub record Asks (w : World) (hist : Hist) (f : Frame) (S : ℕ) : Type 0 where
  pub store : f.store ≡ Some S
  pub low : S < w.shown
  pub lower : f.lower ≡ (w.tale S).lower
  pub upper : f.upper ≡ (w.tale S).upper
  pub small : f.upper < 64
  pub added : f.begun ≡ true → Added w hist f S
  pub empty : f.begun ≡ false → f.done ≡ 0

-- a query's own frame; t is the query's first moment
pub data Bottom (w : World) (hist : Hist) (t : ℕ) (th : Thread) (f : Frame) : Type 0 where
  free : f.store ≡ None → f.begun ≡ false → f.done ≡ 0 → f.lower ≡ th.station → f.upper ≡ th.extra → th.station ≤ th.extra → th.extra < 64 → Bottom w hist t th f
  rides : (S : ℕ) → Asks w hist f S → (w.tale S).start ≤ th.station → th.extra ≤ (w.tale S).upper → 0 < t
      → ((c : ℕ) → w.stores S ≡ Some c → t ≤ (w.tale S).time) → Bottom w hist t th f

-- the frame that a thread started with, by its action
abbrev pub Own : Bool → World → Hist → ℕ → Thread → Frame → Type 0
Own true w hist t th f = Bottom w hist t th f
Own false w hist t th f = (S : ℕ) × Asks w hist f S

-- the base added last has no station at or above the upper end
abbrev pub Short : World → Frame → Type 0
Short w f = f.begun ≡ true → reaches (w.nodes (prev_of f)).container.set f.upper ≡ false

-- g waits for the frame f above it: a query's own frame with no store yet; or it is short and, while f's store is unset, so is its own, up to where f's starts
pub data Waiting (w : World) (f g : Frame) : Type 0 where
  own_free : g.store ≡ None → g.begun ≡ false → Waiting w f g
  blocked : g.begun ≡ true → reaches (w.nodes (prev_of g)).container.set g.upper ≡ false
      → ((S Z : ℕ) → f.store ≡ Some S → g.store ≡ Some Z → Waits w S → Waits w Z × (w.hi (prev_of g) ≡ (w.tale S).start)) → Waiting w f g

-- 15: the base x is in the way of the frame f; the same, for the frame that a new one may be put on
pub data Blocks (w : World) (x : ℕ) (f : Frame) : Type 0 where
  first_base : f.store ≡ None → f.begun ≡ false → Blocks w x f
  stands : f.begun ≡ true → reaches (w.nodes (prev_of f)).container.set f.upper ≡ false
      → ((S Z : ℕ) → Of w S x → f.store ≡ Some Z → Waits w S → (S < w.shown) × Waits w Z × (w.hi (prev_of f) ≡ (w.tale S).start)) → Blocks w x f

abbrev pub PileOf : World → Hist → ℕ → Thread → List Frame → Type 0
PileOf w hist t th [] = Unit {0}
PileOf w hist t th (f ∷ []) = Own (is_query th.action) w hist t th f
PileOf w hist t th (f ∷ g ∷ fs) = ((S : ℕ) × Asks w hist f S) × Waiting w f g × PileOf w hist t th (g ∷ fs)

abbrev pub Pile : World → Hist → ℕ → Thread → Type 0
Pile w hist t th = PileOf w hist t th th.frames

-- ---- the frame that is carried on

-- while the frame's store is unset
abbrev pub Unless : World → Frame → (ℕ → Type 0) → Type 0
Unless w f Q = (S : ℕ) → f.store ≡ Some S → Waits w S → Q S

-- 61: the route reached has the lower end in its range, and has not died since the store was shown
pub record Downward (w : World) (f : Frame) : Type 0 where
  pub begun : f.begun ≡ false
  pub climb : Climb w f.stack
  pub some : f.stack ≢ []
  pub range : In w f.lower (top_of f.stack)
  pub entries : (z : ℕ) → Member z f.stack → In w f.lower z
  pub fresh : Unless w f (λ S. Fresh w (w.tale S).birth (top_of f.stack))

-- 62, 64-67: the first base, with no store yet; if it was the root, it has no parent
pub record Opening (w : World) (f : Frame) : Type 0 where
  pub begun : f.begun ≡ false
  pub free : f.store ≡ None
  pub at : AtBase w f.lower f.base
  pub climb : Climb w (tail_of f.stack)
  pub alone : tail_of f.stack ≡ [] → (w.nodes f.base).parent ≡ None
  pub entries : (z : ℕ) → Member z (tail_of f.stack) → In w f.lower z
  pub hung : Live w f.base → Hung (w.up f.base) (tail_of f.stack)

-- 70-73: a stack of routes
pub record Upward (w : World) (f : Frame) : Type 0 where
  pub begun : f.begun ≡ true
  pub climb : Climb w f.stack
  pub some : f.stack ≢ []
  pub short : reaches (w.nodes (prev_of f)).container.set f.upper ≡ false

-- 70-72: the stack is a part of the backup
abbrev pub Within : Frame → Type 0
Within f = (z : ℕ) → Member z f.stack → Member z (tail_of f.backup)

-- 72: the live route that the base added last ends at is in the stack; the key noted is that of the route under that base, whose left child it is not
abbrev pub Ahead : World → Frame → Type 0
Ahead w f = Unless w f (λ S. w.hi (prev_of f) < 64 → (X : ℕ) × (kind_of w X ≡ Route) × Live w X × (key_of w X ≡ w.hi (prev_of f)) × Member X f.stack)

pub record Beside (w : World) (f : Frame) : Type 0 where
  pub some : tail_of f.backup ≢ []
  pub key : f.key ≡ key_of w (top_of (tail_of f.backup))
  pub off : Unless w f (λ S. kid w true (top_of (tail_of f.backup)) ≢ prev_of f)

-- 71: the top is the live route whose key the base added last ends at
abbrev pub Turns : World → Frame → Type 0
Turns w f = Unless w f (λ S. Live w (top_of f.stack) × (key_of w (top_of f.stack) ≡ w.hi (prev_of f)))

-- 73: the top is below that route, and has its key in its range
abbrev pub Nearing : World → Frame → Type 0
Nearing w f = Unless w f (λ S. (X : ℕ) × (kind_of w X ≡ Route) × Live w X × (key_of w X ≡ w.hi (prev_of f)) × (X < top_of f.stack) × In w (w.hi (prev_of f)) (top_of f.stack)
    × ((z : ℕ) → Member z f.stack → Live w z → In w (w.hi (prev_of f)) z))

-- 74, 76-80: the next base, above routes
pub record Nexts (w : World) (f : Frame) : Type 0 where
  pub begun : f.begun ≡ true
  pub kind : IsBase w f.base
  pub born : Born w f.base
  pub top : top_of f.stack ≡ f.base
  pub climb : Climb w (tail_of f.stack)
  pub some : tail_of f.stack ≢ []
  pub beyond : Unless w f (λ S. In w (w.hi (prev_of f)) f.base × In w (w.hi (prev_of f)) (top_of (tail_of f.stack)) × ((z : ℕ) → Member z (tail_of f.stack) → Live w z → In w (w.hi (prev_of f)) z))
  pub hung : Live w f.base → Hung (w.up f.base) (tail_of f.stack)
  pub short : reaches (w.nodes (prev_of f)).container.set f.upper ≡ false

-- 76: the base in hand is no range base of the store; if it is live, the store is unset
pub record Outside (w : World) (f : Frame) : Type 0 where
  pub other : (S : ℕ) → f.store ≡ Some S → Of w S f.base → ⊥
  pub waits : (S : ℕ) → f.store ≡ Some S → Live w f.base → Waits w S

-- 81: the base added last passes the upper end
pub record Complete (w : World) (f : Frame) : Type 0 where
  pub begun : f.begun ≡ true
  pub passed : Unless w f (λ S. f.upper < w.hi (prev_of f))
  pub full : Unless w f (λ S. (reaches (w.nodes (prev_of f)).container.set f.upper ≡ true) ⊎ (w.hi (prev_of f) ≡ 64))

-- 82: the result is set
abbrev pub Ready : World → Frame → Type 0
Ready w f = (S c : ℕ) × (f.store ≡ Some S) × (w.stores S ≡ Some c)

abbrev pub TopOf : List Frame → (Frame → Type 0) → Type 0
TopOf [] Q = Unit {0}
TopOf (f ∷ fs) Q = Q f

abbrev pub Top : Thread → (Frame → Type 0) → Type 0
Top th Q = TopOf th.frames Q

-- ---- of stacks

pub top_routed : (w : World) (s : List ℕ) → Climb w s → s ≢ [] → Routed w (top_of s)
top_routed w [] c h = absurd (h refl)
top_routed w (x ∷ s) (a, _, _, _) h = a

pub tail_climb : (w : World) (s : List ℕ) → Climb w s → Climb w (tail_of s)
tail_climb w [] c = tt
tail_climb w (x ∷ s) (_, _, _, c) = c

pub top_member : (s : List ℕ) → s ≢ [] → Member (top_of s) s
top_member [] h = absurd (h refl)
top_member (x ∷ s) h = inl refl

pub tail_member : (z : ℕ) (s : List ℕ) → Member z (tail_of s) → Member z s
tail_member z [] m = m
tail_member z (x ∷ s) m = inr m

pub hung_more : (l : Option ℕ) (x : ℕ) (s : List ℕ) → Hung l s → Hung l (x ∷ s)
hung_more None x s h = tt
hung_more (Some r) x s h = inr h

pub member_routed : (w : World) (z : ℕ) (s : List ℕ) → Climb w s → Member z s → Routed w z
member_routed w z [] c m = absurd m
member_routed w z (x ∷ s) (a, _, _, c) (inl q) = rw q a
member_routed w z (x ∷ s) (a, _, _, c) (inr m) = member_routed w z s c m

-- what is above an entry is in the stack
pub member_hung : (w : World) (z : ℕ) (s : List ℕ) → Climb w s → Member z s → Hung (w.up z) s
member_hung w z [] c m = absurd m
member_hung w z (x ∷ s) (_, h, _, c) (inl q) = hung_more (w.up z) x s (rw q h)
member_hung w z (x ∷ s) (_, _, _, c) (inr m) = hung_more (w.up z) x s (member_hung w z s c m)

-- an entry below the top has a lower number
pub below_top : (w : World) (x z : ℕ) (s : List ℕ) → Climb w (x ∷ s) → Member z s → z < x
below_top w x z [] c m = absurd m
below_top w x z (y ∷ s) (_, _, o, c) (inl q) = rw q o
below_top w x z (y ∷ s) (_, _, o, c) (inr m) = let h = below_top w y z s c m in omega arith

pub top_or_below : (w : World) (z : ℕ) (s : List ℕ) → Climb w s → Member z s → (z ≡ top_of s) ⊎ (z < top_of s)
top_or_below w z [] c m = absurd m
top_or_below w z (x ∷ s) c (inl q) = inl q
top_or_below w z (x ∷ s) c (inr m) = inr (below_top w x z s c m)

-- numbers rise to the top, so a stack is no longer than its top's number, and one
pub climb_length : (w : World) (s : List ℕ) → Climb w s → length s ≤ suc (top_of s)
climb_length w [] c = omega arith
climb_length w (x ∷ []) c = omega arith
climb_length w (x ∷ y ∷ s) (_, _, o, c) = let h = climb_length w (y ∷ s) c in omega arith
