-- What a step at a place from 60 on writes, what it leaves, what else changes frames, and the row of a query.
use Rattle.std.specs.Prelude.{ℕ, ◌+◌, ◌%◌, ◌≤◌, ◌<◌, ◌≡◌, not, List, [], ◌∷◌, eqb, length, Some, None, Option, Result as Outcome, Ok, Err}
use Rattle.container.specs.Choice.{upd}
use Rattle.depths.specs.Rows.{Rows, rows, Holds, full}
use Rattle.effects.specs.Used.{used_after, shown_after, within, deepened}
use Rattle.machine.specs.Enacted.{Enacted}
use Rattle.frames.specs.View.{held, frames_of}
use Rattle.frames.specs.Turns.{Backs}
use Rattle.frames.specs.Outcomes.{Opens, Room}
use Rattle.definitions.specs.Nodes.{Shapes, Stores}
use Rattle.definitions.specs.Threads.{Frame, new_frame, idle}
use Rattle.definitions.specs.Bench.{Bench, bench, store, sight_of}
use Rattle.definitions.specs.Answers.{said, answer_number}
use Rattle.definitions.specs.Places.{place_of, to_base}
use Rattle.definitions.specs.Steps.{step}
use Rattle.definitions.specs.Records.{no_row, row, Result, refused, carried, taken}
use Rattle.definitions.specs.Refusal.{refusal_number}
use Rattle.definitions.specs.Run.{row_bytes}
use Rattle.definitions.specs.declared.Node.{Node}
use Rattle.definitions.specs.declared.Refusal.{Refusal}
use Rattle.definitions.specs.declared.Stop.{Stop}
use Rattle.definitions.specs.declared.Effect.{Effect}
use Rattle.definitions.specs.declared.Effect.TheVariants.{Quiet, Mark, Settle, Invalid, Swing, Raise, Lower, Base, Fork, Commit, Ask, Fill}
use Rattle.steps.specs.declared.Notes.{Notes}
use Rattle.steps.specs.Decision.{thread}
use Rattle.run.specs.Standing.{Sizes}
use Rattle.run.specs.declared.query.Counts.{Counts}
use Rattle.run.specs.declared.query.Left.{Left}
use Rattle.run.specs.declared.query.Left.TheVariants.{Goes, Found}
use Rattle.run.specs.declared.query.Task.{Task}
use Rattle.run.specs.declared.query.Task.TheVariants.{Start, Help, Back, Step, Refuse}
use Rattle.frames.specs.declared.frame.Frame.{Frame as Kept}

-- ---- what is written

-- nothing, a range base, or the result of a store
abbrev pub Ranged : Effect → Type 0
Ranged Quiet = Unit {0}
Ranged (Mark r l) = ⊥
Ranged (Settle m v) = ⊥
Ranged (Invalid r) = ⊥
Ranged (Swing v x) = ⊥
Ranged Raise = ⊥
Ranged Lower = ⊥
Ranged (Base v x k p c m) = ⊥
Ranged (Fork v x l r k y) = ⊥
Ranged (Commit m x p n g o) = ⊥
Ranged (Ask v x p y l h k new) = Unit {0}
Ranged (Fill k c) = Unit {0}

-- the depths l become l': those of node y are those of x, where those of y are lent
pub record Laid (l : List ℕ) (x y : ℕ) (l' : List ℕ) : Type 0 where
  pub whole : length l ≡ 16384 → rows l' ≡ upd (rows l) y (rows l x)
  pub rows : Holds (length l) (y + 1) → rows l' ≡ upd (rows l) y (rows l x)

-- the effect e takes the nodes t, the depths l and the stores k, with root o, u numbers used and j stores shown, to t', l', k' and r
pub record Wrote (t : Shapes) (l : List ℕ) (k : Stores) (o u j : ℕ) (e : Effect) (t' : Shapes) (l' : List ℕ) (k' : Stores) (r : Counts) : Type 0 where
  pub enacted : Enacted t l o u k j e t' l' r.root k'
  pub used : r.used ≡ used_after u e
  pub shown : r.shown ≡ shown_after j e
  pub whole : length l ≡ 16384 → rows l' ≡ deepened e t (rows l)

-- ---- a new frame

-- that which helps the range base b
abbrev pub helping : Node → Frame
helping b = new_frame b.lower b.upper (Some b.store)

-- ---- a step

-- the bench b once thread i, with the notes th, has left r: the nodes t with the depths d, the stores k, the stop z; h holds the frames
abbrev pub left_of : Shapes → Rows → Stores → Stop → (ℕ → Frame) → Bench → ℕ → Notes → Outcome Left Refusal → Result
left_of t d k z h b i th (Ok (Goes c p x n)) = carried (bench (store (full t d) c.root c.used k c.shown z) (upd b.threads i (to_base p x (thread th (frames_of h i n))))) no_row
left_of t d k z h b i th (Ok (Found c s)) = carried (bench (store (full t d) c.root c.used k c.shown z) (upd b.threads i idle)) (row (said (not (eqb s 0))) 0 s)
left_of t d k z h b i th (Err f) = refused (refusal_number f)

abbrev pub IsRefused : Outcome Left Refusal → Type 0
IsRefused (Ok v) = ⊥
IsRefused (Err f) = Unit {0}

-- the numbers used once it has left r, where u are used before
abbrev pub used_in : ℕ → Outcome Left Refusal → ℕ
used_in u (Ok (Goes c p x n)) = c.used
used_in u (Ok (Found c s)) = c.used
used_in u (Err f) = u

-- thread i has the notes th and n frames, which h holds. Its step, whatever the depths and the stop, takes the nodes t, the stores k and their counts to t', k'
-- and the counts in r, and the thread to what r has and h' holds; the frames of the others stay. What holds the depths of all nodes then
-- used holds those of its new nodes, and of those used before. A refused step leaves nodes, depths, stores and frames
pub record Leaves (t : Shapes) (l : List ℕ) (k : Stores) (o u j : ℕ) (h : ℕ → Frame) (i n : ℕ) (th : Notes) (t' : Shapes) (l' : List ℕ) (k' : Stores) (h' : ℕ → Frame) (r : Outcome Left Refusal) : Type 0 where
  pub effect : Effect
  pub turn : (b : Bench) (d : Rows) (z : Stop) → b.store ≡ store (full t d) o u k j z → b.threads i ≡ thread th (frames_of h i n)
      → taken b i (step (place_of (b.threads i).place) (sight_of b.store) (b.threads i)) ≡ left_of t' (deepened effect t d) k' z h' b i th r
  pub depths : within effect (length l) → rows l' ≡ deepened effect t (rows l)
  pub inside : Holds (length l) (used_in u r) → within effect (length l) × Holds (length l) u
  pub whole : length l ≡ 16384 → rows l' ≡ deepened effect t (rows l)
  pub others : (v m : ℕ) → m ≤ 4 → (v ≡ i → ⊥) → frames_of h' v m ≡ frames_of h v m
  pub same : IsRefused r → (t' ≡ t) × ((l' ≡ l) × ((k' ≡ k) × (h' ≡ h)))

-- ---- what has to do with frames

-- a thread goes on at the place p, with the base b and n frames; the root and the counts are o, u and j
abbrev pub goes_to : ℕ → ℕ → ℕ → ℕ → ℕ → ℕ → Outcome Left Refusal
goes_to o u j p b n = Ok (Goes (record { root = o; used = u; shown = j }) p b n)

-- a refusal, and the way back without frames, need none of the memory
abbrev pub Bare : Task → ℕ → Type 0
Bare Start n = ⊥
Bare Help n = ⊥
Bare Back n = n ≡ 0
Bare Step n = ⊥
Bare (Refuse f) n = Unit {0}

-- what v relies on, of thread i with the notes th and n frames, which h holds: for a new frame to help in, room for it; for a step, a place from 60
-- on and room on its stack
pub record Able (v : Task) (i n : ℕ) (th : Notes) (h : ℕ → Frame) : Type 0 where
  pub more : v ≡ Help → n < 4
  pub room : v ≡ Step → (60 ≤ th.place) × Room th.place (frames_of h i n)

-- the same over the memory that is lent
pub record Due (v : Task) (i n : ℕ) (th : Notes) (results : List (Option ℕ)) (lent : List Kept) : Type 0 where
  pub thread : i < 4
  pub frames : n ≤ 4
  pub memory : (Bare v n → ⊥) → Sizes 256 16 results lent
  pub able : Able v i n th (held lent)

-- nodes, depths and stores stay
pub record Still (t : Shapes) (l : List ℕ) (k : Stores) (t' : Shapes) (l' : List ℕ) (k' : Stores) : Type 0 where
  pub nodes : t' ≡ t
  pub depths : l' ≡ l
  pub stores : k' ≡ k

-- the way back of thread i with n frames, to a place; o, u, j and the base b stay
pub record Backing (o u j : ℕ) (h h' : ℕ → Frame) (i n b : ℕ) (r : Outcome Left Refusal) : Type 0 where
  pub place : ℕ
  pub backs : Backs h h' i n place
  pub goes : r ≡ goes_to o u j place b n

-- what is done and left: a query's own frame; one for the range base that is helped; the way back; a step; a refusal
abbrev pub Rounds : Task → Shapes → List ℕ → Stores → ℕ → ℕ → ℕ → (ℕ → Frame) → ℕ → ℕ → Notes → Shapes → List ℕ → Stores → (ℕ → Frame) → Outcome Left Refusal → Type 0
Rounds Start t l k o u j h i n th t' l' k' h' r = Opens h h' i 0 (new_frame th.station (th.extra % 256) None) × (Still t l k t' l' k' × (r ≡ goes_to o u j th.place th.base 1))
Rounds Help t l k o u j h i n th t' l' k' h' r = Opens h h' i n (helping (t th.base)) × (Still t l k t' l' k' × (r ≡ goes_to o u j th.place th.base (n + 1)))
Rounds Back t l k o u j h i n th t' l' k' h' r = Still t l k t' l' k' × Backing o u j h h' i n th.base r
Rounds Step t l k o u j h i n th t' l' k' h' r = Leaves t l k o u j h i n th t' l' k' h' r
Rounds (Refuse f) t l k o u j h i n th t' l' k' h' r = (h' ≡ h) × (Still t l k t' l' k' × (r ≡ Err f))

-- ---- its row

-- "answer 1 if that set has a station, else 0"
abbrev pub found_number : ℕ → ℕ
found_number c = answer_number (said (not (eqb c 0)))

-- the row of a query that found the set c, in a file of version v
abbrev pub found_row : ℕ → ℕ → Notes → ℕ → List ℕ
found_row v t th c = row_bytes (v ∷ []) t (thread th []) (row (said (not (eqb c 0))) 0 c)
