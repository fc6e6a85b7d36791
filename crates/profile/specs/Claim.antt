-- What is claimed of every profile run (02, request l), a run being a list of records from the fresh bench. There is a moment at the start and
-- one after each record. `OneWriter` is of lists (proofs/OneWriter.antt), `OneWriterFiles` of files (proofs/ProfileRun.antt).
use Rattle.std.specs.Prelude.{ℕ, zero, suc, ◌+◌, ◌*◌, ◌/◌, ◌%◌, ◌<◌, ◌≤◌, ◌≡◌, ◌≢◌, ◌⊎◌, Bool, true, false, not, ◌||◌, List, [], ◌∷◌, eqb, length, get_or, Option, Some, None}
use Rattle.container.specs.Choice.{upd}
use Rattle.container.specs.Container.{size}
use Rattle.definitions.specs.Nodes.{kid_of, is_preparing}
use Rattle.definitions.specs.Bench.{Store, Sight, sight_of, Bench, fresh}
use Rattle.definitions.specs.Places.{Place, nowhere, p1, p2, p3, p4, p5, p15, p16, p19, p20, p21, p22, p23, p24, p25, p30, p31, p32, p33, p34, p35, p36, p37, p38, p40, p45, p46, p47, p48, p49, p50, p51, p60, p61, p62, p70, p71, p72, p73, p74, p76, p81, p82, swap, own, found, united, opening, next as next_of, place_of, at}
use Rattle.definitions.specs.Frames.{back}
use Rattle.definitions.specs.Steps.{goes, says, lost, back_out, probe, is_nil, names, step}
use Rattle.definitions.specs.Records.{Row, no_row, row, Result, refused, carried}
use Rattle.definitions.specs.Schedule.{Rec, count_of, record_at, records_of}
use Rattle.definitions.specs.Run.{Progress, after, row_width, report_of, overlay}
use Rattle.profile.specs.Cut.{stopped_run}
use Rattle.definitions.specs.Profile.{barred, profile_step, profile_after, profile_refusal, profile_report, profile_buffer}
use Rattle.definitions.specs.declared.Stage.TheVariants.{Aborted}
use Rattle.definitions.specs.declared.Quarter.{Quarter}
use Rattle.definitions.specs.declared.Effect.TheVariants.{Quiet}
use Rattle.definitions.specs.declared.Node.{Node}
use Rattle.definitions.specs.declared.Answer.TheVariants.{Yes, Lacking, Lost}
use Rattle.definitions.specs.declared.Action.{Action}
use Rattle.definitions.specs.declared.Action.TheVariants.{Lookup, Insert, Remove, Split, Join, Query}
use Rattle.definitions.specs.declared.Probe.{Probe}
use Rattle.definitions.specs.declared.Probe.TheVariants.{Hit, Next, Miss}
use Rattle.definitions.specs.Threads.{Thread, Turn}

-- ---- a swap that fails

-- of the four-step swaps: the root is another, a side swapped or the right side read is another. Left read and another found is no failure: right is read next
abbrev pub missed : Probe → Bool
missed (Hit _) = false
missed (Next _) = false
missed Miss = true

-- 33: the grandparent's join mark is not none; 46, with no grandparent: the root is not the parent;
-- 47 to 49: that side of the grandparent is not the parent; 50: its join mark is not this main
abbrev pub grand_taken : Option ℕ → Sight → Bool
grand_taken None s = true
grand_taken (Some g) s = not (is_nil (s.nodes g).mark)

abbrev pub root_lost : Option ℕ → Node → Sight → Bool
root_lost None m s = not (names m.parent s.root)
root_lost (Some g) m s = false

abbrev pub side_lost : Bool → Option ℕ → Node → Sight → Bool
side_lost d None m s = true
side_lost d (Some g) m s = not (names m.parent (kid_of d (s.nodes g)))

abbrev pub mark_lost : Option ℕ → ℕ → Sight → Bool
mark_lost None x s = true
mark_lost (Some g) x s = not (names (s.nodes g).mark x)

-- 47 to 49: "then 50"; no thread comes there without a grandparent
abbrev pub cut_to : Option ℕ → Place
cut_to None = p46
cut_to (Some _) = p50

-- what the step that is taken next compares: nothing, or something, and then whether that fails and the step that 01 names for it, its way out
pub data Comparison : Type 0 where
  none : Comparison
  some : Bool → Turn → Comparison

-- which comparisons there are, by the place of thread th: at a swap, the value to be replaced is there (10 to 13, 16, 25 to 30, 33, 35, 41 to 44,
-- 46, 47, 49, 50); at 12, 21, 28, 43 and 48, the node that was not on the left is on the right. They fail where it is not. Of a query's places, 60
-- to 82, nothing is said here: no thread comes there (`asides`)
unfoldable pub compares : Place → Sight → Thread → Comparison
compares (swap own q) s th = some (missed (probe q (s.nodes th.base).parent s.nodes s.root th.base)) (lost th)
compares p16 s th = some (not (is_preparing (s.nodes th.main).stage)) (back Quiet th)
compares p21 s th = some (not (eqb (s.nodes th.parent).right th.base)) (says Lost)
compares p25 s th = some (not (eqb (kid_of th.left (s.nodes th.parent)) th.base)) (says Lost)
compares (swap found q) s th = some (missed (probe q (s.nodes th.found).parent s.nodes s.root th.found)) (goes (at p38 th))
compares p30 s th = some (not (is_nil (s.nodes th.parent).mark)) (goes (at p38 th))
compares p33 s th = some (grand_taken th.grandparent s) (goes (at p37 th))
compares p35 s th = some (not (is_preparing (s.nodes th.main).stage)) (goes (at (back_out th.grandparent) th))
compares (swap united q) s th = some (missed (probe q (s.nodes (s.nodes th.main).neighbour).parent s.nodes s.root (s.nodes th.main).neighbour)) (goes (at p45 th))
compares p46 s th = some (root_lost (s.nodes th.main).grandparent (s.nodes th.main) s) (goes (at p51 th))
compares p47 s th = some (side_lost true (s.nodes th.main).grandparent (s.nodes th.main) s) (goes (at (cut_to (s.nodes th.main).grandparent) th))
compares p48 s th = some (side_lost false (s.nodes th.main).grandparent (s.nodes th.main) s) (goes (at (cut_to (s.nodes th.main).grandparent) th))
compares p49 s th = some (side_lost false (s.nodes th.main).grandparent (s.nodes th.main) s) (goes (at (cut_to (s.nodes th.main).grandparent) th))
compares p50 s th = some (mark_lost (s.nodes th.main).grandparent th.main s) (goes (at p51 th))
compares nowhere s th = none
compares p1 s th = none
compares p2 s th = none
compares p3 s th = none
compares p4 s th = none
compares p5 s th = none
compares p15 s th = none
compares p19 s th = none
compares p20 s th = none
compares p22 s th = none
compares p23 s th = none
compares p24 s th = none
compares p31 s th = none
compares p32 s th = none
compares p34 s th = none
compares p36 s th = none
compares p37 s th = none
compares p38 s th = none
compares p40 s th = none
compares p45 s th = none
compares p51 s th = none
compares p60 s th = none
compares p61 s th = none
compares p62 s th = none
compares p70 s th = none
compares p71 s th = none
compares p72 s th = none
compares p73 s th = none
compares p74 s th = none
compares p76 s th = none
compares p81 s th = none
compares p82 s th = none
compares (swap opening q) s th = none
compares (swap next_of q) s th = none

abbrev pub failed : Comparison → Bool
failed none = false
failed (some f out) = f

unfoldable pub fails : Place → Sight → Thread → Bool
fails p s th = failed (compares p s th)

-- the step o is a comparison's way out
abbrev pub TakesOut : Comparison → Turn → Type 0
TakesOut none o = ⊥
TakesOut (some f out) o = o ≡ out

-- a query has no step at 10 to 13
abbrev pub HasStep : Place → Thread → Type 0
HasStep p th = (q : Quarter) → p ≡ swap own q → th.action ≢ Query

-- failing is exactly the way out that 01 names: at every place, of every store and thread, and not only of those that a run comes to (proofs/Faithful.antt)
abbrev pub FailsExactly : Type 0
FailsExactly = (p : Place) (s : Sight) (th : Thread)
    → (fails p s th ≡ true → TakesOut (compares p s th) (step p s th)) × (HasStep p th → TakesOut (compares p s th) (step p s th) → fails p s th ≡ true)

-- ---- what is claimed at every moment, and of every record

-- where others help a join or kill it (15, 16), where a join backs out and stands down (36 to 38), and the places of the stop and of a query
abbrev pub asides : List ℕ
asides = 4 ∷ 5 ∷ 15 ∷ 16 ∷ 19 ∷ 36 ∷ 37 ∷ 38 ∷ 60 ∷ 61 ∷ 62 ∷ 64 ∷ 65 ∷ 66 ∷ 67 ∷ 70 ∷ 71 ∷ 72 ∷ 73 ∷ 74 ∷ 76 ∷ 77 ∷ 78 ∷ 79 ∷ 80 ∷ 81 ∷ 82 ∷ []

abbrev pub among : ℕ → List ℕ → Bool
among n [] = false
among n (k ∷ l) = eqb n k || among n l

-- "no swap fails", whichever thread steps next and whether or not numbers suffice; "no join is killed": no thread comes to 16, nor to 38,
-- and no main is ever aborted
pub record Calm (b : Bench) : Type 0 where
  pub swaps : (t : ℕ) → fails (place_of (b.threads t).place) (sight_of b.store) (b.threads t) ≡ false
  pub straight : (t : ℕ) → among (b.threads t).place asides ≡ false
  pub mains : (x : ℕ) → (b.store.nodes x).stage ≢ Aborted

-- each thread's own steps since its start; a is the record's action
abbrev pub counted : ℕ → ℕ → (ℕ → ℕ) → ℕ → ℕ
counted zero t c = upd c t (suc (c t))
counted (suc _) t c = upd c t 0

abbrev pub updates : Action → Bool
updates Lookup = false
updates Insert = true
updates Remove = true
updates Split = false
updates Join = false
updates Query = false

-- "an insert or remove takes at most 68 own steps": n of them, the one just taken among them
abbrev pub Brief : Thread → ℕ → Type 0
Brief th n = updates th.action ≡ true → n ≤ 68

-- "a join that finishes and had a parent says yes": its only other answer is 2, at place 3, without a parent. A split's only other answer
-- is 2, at place 3, of a base with fewer than two stations
abbrev pub Joined : Row → Store → Thread → Type 0
Joined no_row s th = Unit {0}
Joined (row a d c) s th =
    (th.action ≡ Join → (a ≡ Yes) ⊎ ((a ≡ Lacking) × (th.place ≡ 3) × ((s.nodes th.base).parent ≡ None)))
    × (th.action ≡ Split → (a ≡ Yes) ⊎ ((a ≡ Lacking) × (th.place ≡ 3) × (size (s.nodes th.base).container.set < 2)))

-- c is each thread's own steps after the record
abbrev pub Past : Result → Bench → ℕ → (ℕ → ℕ) → (Bench → Type 0) → Type 0
Past (refused _) b t c C = Unit {0}
Past (carried b' w) b t c C = Brief (b.threads t) (c t) × Joined w b.store (b.threads t) × C b'

abbrev pub Throughout : List Rec → Bench → (ℕ → ℕ) → Type 0
Throughout [] b c = Calm b
Throughout (r ∷ rs) b c =
    Calm b
    × Past (profile_step b r) b (r.first / 16) (counted (r.first % 16) (r.first / 16) c)
    (λ b'. Throughout rs b' (counted (r.first % 16) (r.first / 16) c))

-- request l, of every list of records; the stop is off: "version 1 or 2"
abbrev pub OneWriter : Type 0
OneWriter = (rs : List Rec) → Throughout rs (fresh false) (λ _. 0)

-- ---- the same of a file's profile run

-- each thread's own steps after a list of records, c of them before it
abbrev pub steps_by : List Rec → (ℕ → ℕ) → ℕ → ℕ
steps_by [] c = c
steps_by (r ∷ rs) c = steps_by rs (counted (r.first % 16) (r.first / 16) c)

-- at the moment after its first k records, and of record k where no earlier one was refused
pub record Sound (file : List ℕ) (k : ℕ) : Type 0 where
  pub calm : Calm (profile_after file k).bench
  pub past : (profile_after file k).refusal ≡ 0 → Past (profile_step (profile_after file k).bench (record_at file k)) (profile_after file k).bench ((record_at file k).first / 16)
      (counted ((record_at file k).first % 16) ((record_at file k).first / 16) (steps_by (records_of file k) (λ _. 0))) (λ _. Unit {0})

-- p is Run's after k records, or Run's after the j before a barred one, stopped there
pub data Behind (file : List ℕ) (k : ℕ) (p : Progress) : Type 0 where
  same : p ≡ after file k → Behind file k p
  halted : (j : ℕ) → j < k → (after file j).refusal ≡ 0 → barred (record_at file j) ≡ true → p ≡ stopped_run (after file j) → Behind file k p

-- byte j of row i in a file's row buffer
abbrev pub row_byte : List ℕ → List ℕ → ℕ → ℕ → ℕ
row_byte file rows i j = get_or rows (row_width file * i + j) 0

-- a row of a split (4) or join (5) says 1, or 2
abbrev pub Says : ℕ → ℕ → Type 0
Says action answer = 4 ≤ action → action ≤ 5 → (answer ≡ 1) ⊎ (answer ≡ 2)

-- what a profile run hands back, of a file and a buffer that are not refused: the report and the rows of a run for which all this holds at every moment and
-- of every record, and which is Run's up to the first barred record; and what can be read off the rows' own bytes
pub record Handed (file buffer : List ℕ) : Type 0 where
  pub report : profile_report file (length buffer) ≡ report_of (profile_after file (count_of file))
  pub rows : profile_buffer file buffer ≡ overlay (profile_after file (count_of file)).rows buffer
  pub held : (k : ℕ) → Sound file k
  pub behind : Behind file (count_of file) (profile_after file (count_of file))
  pub said : (i : ℕ) → i < (profile_report file (length buffer)).rows → Says (row_byte file (profile_buffer file buffer) i 1) (row_byte file (profile_buffer file buffer) i 3)

-- request l, of every file and buffer
abbrev pub OneWriterFiles : Type 0
OneWriterFiles = (file buffer : List ℕ) → profile_refusal file (length buffer) ≡ 0 → Handed file buffer
