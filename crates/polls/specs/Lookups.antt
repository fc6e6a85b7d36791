-- Request i (02, "Lookups that end"): what is claimed of the lookups of every list of records, and of every file that Run carries out. Steps are
-- counted along the records, by which of them were accepted and which of those added a row, and by nothing else. Bound.antt has a sharper bound.
use Rattle.std.specs.Prelude.{ℕ, zero, suc, ◌*◌, ◌/◌, ◌%◌, ◌<◌, ◌≡◌, Bool, cond, List, [], ◌∷◌, eqb}
use Rattle.container.specs.Choice.{ite, upd}
use Rattle.definitions.specs.Bench.{Bench, fresh}
use Rattle.definitions.specs.Records.{Row, no_row, row, Result, refused, carried, record_step}
use Rattle.definitions.specs.Schedule.{Rec, record_at, stop_of}
use Rattle.definitions.specs.Run.{after}

-- ---- a lookup's own steps

-- what the records say of one thread: it has no lookup open, or one that has made k accepted steps since its start and has no row yet
pub data Poll : Type 0 where
  none : Poll
  made : ℕ → Poll

-- after an accepted record of that thread, by its action: 1 starts a lookup, over 1 something else; 0 is a step, which makes one more or, with the row,
-- ends it
abbrev pub heard : ℕ → Row → Poll → Poll
heard zero w none = none
heard zero no_row (made k) = made (suc k)
heard zero (row _ _ _) (made k) = none
heard (suc zero) w p = made 0
heard (suc (suc _)) w p = none

-- of all threads, after an accepted record r that added w, a row or none: only the record's own thread is told ("First byte: 16 × thread + action")
abbrev pub counted : Rec → Row → (ℕ → Poll) → ℕ → Poll
counted r w c = upd c (r.first / 16) (heard (r.first % 16) w (c (r.first / 16)))

-- ---- a moment

abbrev pub Accepted : Result → Type 0
Accepted (refused _) = ⊥
Accepted (carried _ _) = Unit {0}

-- at bench b, where c t is what the records say of thread t: a lookup that has no row yet has made fewer than n steps, and its next step is not
-- refused, whatever the last action of its version
abbrev pub Prompt : ℕ → Bench → (ℕ → Poll) → Type 0
Prompt n b c = (t k : ℕ) → c t ≡ made k → (k < n) × ((last : ℕ) → Accepted (record_step b last (16 * t) 0 0))

-- ---- every list of records: before its first, and after each that is accepted; "the first one refused ends the run"

abbrev pub Onward : Result → (Bench → Row → Type 0) → Type 0
Onward (refused _) C = Unit {0}
Onward (carried b w) C = C b w

abbrev pub Within : ℕ → List Rec → Bench → (ℕ → Poll) → Type 0
Within n [] b c = Prompt n b c
Within n (r ∷ rs) b c = Prompt n b c × Onward (record_step b r.last r.first r.second r.extra) (λ b' w. Within n rs b' (counted r w c))

-- ---- every file: after the first k records, as Run carries them out (definitions/specs/Run.antt)

abbrev pub told : Result → Rec → (ℕ → Poll) → ℕ → Poll
told (refused _) r c = c
told (carried _ w) r c = counted r w c

unfoldable pub polls_of : List ℕ → ℕ → ℕ → Poll
polls_of file zero = λ _. none
polls_of file (suc k) =
    ite (eqb (after file k).refusal 0)
    (told (record_step (after file k).bench (record_at file k).last (record_at file k).first (record_at file k).second (record_at file k).extra) (record_at file k) (polls_of file k))
    (polls_of file k)

-- ---- the claims

-- every lookup has its row by its n-th own step at the latest; n is told whether the stop is on, as it is in version 3
abbrev pub LookupsWithin : (Bool → ℕ) → Type 0
LookupsWithin n =
    ((on : Bool) (rs : List Rec) → Within (n on) rs (fresh on) (λ _. none))
    × ((file : List ℕ) (k : ℕ) → Prompt (n (stop_of file)) (after file k).bench (polls_of file k))

-- "a lookup finishes within 86 of its own steps, however the other threads' accepted turns fall, and within 88 in version 3"
abbrev pub limit : Bool → ℕ
limit on = cond on 88 86

-- request i
abbrev pub LookupsEnd : Type 0
LookupsEnd = LookupsWithin limit
