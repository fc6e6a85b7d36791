-- The invariant of crate answers at every reachable state, free of the list that led there: whatever the plain table will be later.
use Rattle.std.specs.Prelude.{Option, None}
use mathlib.Core.Path.{◌≡◌, refl, ◌∙◌, subst}
use mathlib.Core.Bool.{Bool, not, cond}
use Prim.Native.Nat.{ℕ, suc, ◌/◌, ◌%◌, ◌<◌, ◌≤◌}
use native.Mathlib.Omega.{arith}
use lib.Dec.{leb}
use borrow.Author.Tests.{le-leb, lt-leb}
use Rattle.container.specs.Depths.{Found, absent, is_in, find}
use Rattle.definitions.specs.declared.Action.TheVariants.{Lookup, Insert, Remove, Split, Join, Query}
use Rattle.definitions.specs.declared.Answer.{Answer}
use Rattle.definitions.specs.Answers.{said}
use Rattle.definitions.specs.Bench.{Bench, fresh}
use Rattle.definitions.specs.Records.{Row, no_row, row, Result, refused, carried}
use Rattle.definitions.specs.Schedule.{Rec}
use Rattle.definitions.specs.Tree.{tree_held}
use Rattle.definitions.specs.Plain.{Operation, no_operation, doing, Plain, empty, carried_out}
use Rattle.definitions.specs.Claim.{row_added, first_steps, moment, Answered}
use Rattle.answers.proofs.Memory.{Hist}
use Rattle.answers.proofs.Invariant.{Inv, Held}
use Rattle.answers.proofs.OneRecord.{Tied, Ok, step_ok, fresh_ok, fresh_tied, fresh_counts}
use Rattle.answers.proofs.Counting.{Counts}
use Rattle.answers.proofs.Along.{same_set}
use Rattle.laws.proofs.OneRecord.{step_of}

-- the answer of an update's row
abbrev pub Says : Operation → Plain → Answer → Type 0
Says no_operation P a = Unit {0}
Says (doing Lookup st d) P a = Unit {0}
Says (doing Insert st d) P a = a ≡ said (not (is_in (P.table st)))
Says (doing Remove st d) P a = a ≡ said (is_in (P.table st))
Says (doing Split st d) P a = Unit {0}
Says (doing Join st d) P a = Unit {0}
Says (doing Query st d) P a = Unit {0}

abbrev pub Said : Row → Operation → Plain → Type 0
Said no_row o P = Unit {0}
Said (row a _ _) o P = Says o P a

said_of : (w : Row) (o : Operation) (place : ℕ) (P : Plain) (H : Hist) (f k : ℕ) → Answered w o place P H f k → Said w o P
said_of no_row o place P H f k h = tt
said_of (row a d' c') no_operation place P H f k h = tt
said_of (row a d' c') (doing Lookup st d) place P H f k h = tt
said_of (row a d' c') (doing Insert st d) place P H f k h = h.0
said_of (row a d' c') (doing Remove st d) place P H f k h = h.0
said_of (row a d' c') (doing Split st d) place P H f k h = tt
said_of (row a d' c') (doing Join st d) place P H f k h = tt
said_of (row a d' c') (doing Query st d) place P H f k h = tt

-- `past` is the plain table up to the moment `now`
pub record Kept (b : Bench) (P : Plain) : Type 0 where
  pub past : Hist
  pub now : ℕ
  pub first : ℕ → Option ℕ
  pub inv : (H : Hist) → ((j s : ℕ) → j ≤ now → H j s ≡ past j s) → Inv b H now first
  pub tied : Tied b P
  pub counts : Counts b
  pub table : (s : ℕ) → past now s ≡ P.table s

-- the invariant as it stands
pub kept_inv : {b : Bench} {P : Plain} (z : Kept b P) → Inv b z.past z.now z.first
kept_inv z = z.inv z.past (λ j s _. refl)

pub kept_held : {b : Bench} {P : Plain} (z : Kept b P) → Held b.store.nodes b z.past z.now z.first
kept_held {b} z = (kept_inv z).held b.store.nodes (λ _ _. refl)

-- the tree's table is the plain table
pub kept_table : {b : Bench} {P : Plain} → Kept b P → (s : ℕ) → s < 64 → find (tree_held b) s ≡ P.table s
kept_table {b} {P} z = same_set b P z.past z.now z.first (kept_inv z) z.table

-- the plain table past a record that is carried out
abbrev pub fed : Rec → Row → Plain → Plain
fed r w P = carried_out (r.first % 16) (r.first / 16) r.second r.extra (row_added w) P

-- past one record
abbrev pub KeptAfter : Plain → Rec → Result → Type 0
KeptAfter P r (refused _) = Unit {0}
KeptAfter P r (carried b' w) = Kept b' (fed r w P) × Said w (P.operation (r.first / 16)) P

-- `past` with one moment more, at which the plain table is S
abbrev longer : Hist → ℕ → (ℕ → Found) → Hist
longer h k S j s = cond (leb j k) (h j s) (S s)

kept_record : (b : Bench) (P : Plain) (r : Rec) → Kept b P → KeptAfter P r (step_of b r)
kept_record b P r z = go (step_of b r) (λ H e. step_ok P (z.inv H e) z.tied (now_is H e) z.counts r.last r.first r.second r.extra)
  where
    now_is : (H : Hist) → ((j s : ℕ) → j ≤ z.now → H j s ≡ z.past j s) → (s : ℕ) → H z.now s ≡ P.table s
    now_is H e s = e z.now s (omega arith) ∙ z.table s

    go : (res : Result) → ((H : Hist) (e : (j s : ℕ) → j ≤ z.now → H j s ≡ z.past j s)
        → Ok P (z.inv H e) z.tied (now_is H e) z.counts (r.first / 16) r.second r.extra (r.first % 16) res) → KeptAfter P r res
    go (refused k) f = tt
    go (carried b' w) f = let o = at past' (λ j s _. refl) in
        (record { past = past'; now = suc z.now; first = firsts; inv = λ H e. (at H e).0; tied = o.1; counts = o.3; table = λ s. new s }, said_of w _ _ P past' _ _ o.2)
      where
        firsts : ℕ → Option ℕ
        firsts = first_steps (r.first % 16) (r.first / 16) z.now z.first

        past' : Hist
        past' = longer z.past z.now (fed r w P).table

        new : (s : ℕ) → past' (suc z.now) s ≡ (fed r w P).table s
        new s = rw (lt-leb (suc z.now) z.now (omega arith))

        old : (j s : ℕ) → j ≤ z.now → past' j s ≡ z.past j s
        old j s h = rw (le-leb j z.now h)

        at : (H : Hist) → ((j s : ℕ) → j ≤ suc z.now → H j s ≡ past' j s)
            → Inv b' H (suc z.now) firsts × Tied b' (fed r w P)
            × Answered w (P.operation (r.first / 16)) (b.threads (r.first / 16)).place P H (moment (firsts (r.first / 16))) z.now
            × Counts b'
        at H e = f H (λ j s h. e j s (omega arith) ∙ old j s h) (λ s. e (suc z.now) s (omega arith) ∙ new s)

pub kept_next : (b b' : Bench) (P : Plain) (r : Rec) (w : Row) → Kept b P → step_of b r ≡ carried b' w → Kept b' (fed r w P) × Said w (P.operation (r.first / 16)) P
kept_next b b' P r w z e = subst (KeptAfter P r) e (kept_record b P r z)

pub kept_fresh : (on : Bool) → Kept (fresh on) empty
kept_fresh on = record { past = λ _ _. absent; now = 0; first = λ _. None; inv = λ H e. fresh_ok on H (λ s. e 0 s (omega arith)); tied = fresh_tied on; counts = fresh_counts on; table = λ s. refl }
