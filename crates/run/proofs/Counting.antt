-- A tally that is lent and the own steps of the four threads while a run goes on (`Counting`): what one record more makes of them, by what it asks of its
-- thread, and what they come to where the records end; what a file adds, by whether it is refused before its first record. Rests on Turn.antt, by what
-- is known of the record that the loop is at, on crate machine, by what its first byte says of what it asks, and on crate passing, by the laws of one
-- record more of `tallied`.
use Rattle.std.specs.Prelude.{Result as Outcome, Ok, Err}
use mathlib.Core.Path.{◌≡◌, refl, sym, ap, ◌∙◌}
use mathlib.Core.Logic.{◌≢◌}
use mathlib.Core.Bool.{Bool, true, false}
use mathlib.Core.List.{List, [], ◌∷◌}
use Prim.Native.Nat.{ℕ, zero, suc, ◌+◌, ◌/◌, ◌%◌, ◌≤◌, ◌<◌}
use native.Mathlib.Numerals.{add-one}
use native.Mathlib.Omega.{arith}
use native.Mathlib.Decide.{ℕ_discrete}
use borrow.Author.Tests.{eq-eqb, ne_eqb}
use lib.Dec.{eqb}
use lib.ListN.{length, get_or, set, length-set}
use lib.Seq.{get_or-set_same, get_or-set_other}
use Rattle.container.specs.Choice.{ite, upd}
use Rattle.definitions.specs.Answers.{answer_number, said, shown as shownAs}
use Rattle.definitions.specs.Nodes.{Shapes, Stores}
use Rattle.definitions.specs.Threads.{Frame, Thread}
use Rattle.definitions.specs.Records.{action_number}
use Rattle.definitions.specs.Versions.{last_action}
use Rattle.definitions.specs.Schedule.{record_at, count_of}
use Rattle.definitions.specs.Run.{after, ended, run_refusal}
use Rattle.definitions.proofs.Refusals.{refused}
use Rattle.definitions.specs.declared.Action.{Action}
use Rattle.definitions.specs.declared.Answer.{Answer}
use Rattle.definitions.specs.declared.Answer.TheVariants.{No, Yes, At, Lacking, Blocked, Lost, NeighbourBlocked, StoodDown, Stopped}
use Rattle.definitions.specs.declared.Refusal.{Refusal}
use Rattle.definitions.specs.declared.Stop.{Stop}
use Rattle.machine.specs.declared.Asked.{Asked}
use Rattle.machine.specs.declared.Asked.TheVariants.{Step, Start}
use Rattle.machine.proofs.Asks.{asks_step, asks_start}
use Rattle.passing.proofs.RunRows.{advance_on}
use Rattle.passing.proofs.Tallied.{tallied, byte_at, thread_at, action_at, steps_at, Opened, Kept, Answered, opened, moved}
use Rattle.passing.proofs.Tallied.{answered, kept_on, none_counted, none_own, own_most, tallied_most, number_some}
use Rattle.season.specs.Tally.{Field, unfinished, place, Tally, empty, just, sum, taken, column, ledger, left_busy, records_tally, numbers}
use Rattle.season.proofs.Sums.{join_most, sum_at, sum_none, sum_assoc, join_sum, just_same}
use Rattle.steps.specs.declared.Notes.{Notes}
use Rattle.run.specs.Standing.{Stands}
use Rattle.run.specs.Tallying.{Room, opened as begins, Told, Closed, Added}
use Rattle.run.proofs.Turn.{Asking, Said, stand, last_few, started_on, refused_on}

-- ---- own steps
own_set : (own : List ℕ) (f : ℕ → ℕ) (t v : ℕ) → length own ≡ 4 → ((u : ℕ) → u < 4 → u ≢ t → get_or own u 0 ≡ f u) → (u : ℕ) → u < 4 → get_or (set own t v) u 0 ≡ upd f t v u
unfolding ite
own_set own f t v n g u l = elim (ℕ_discrete u t) [
  | yes q ↦ rw (q, eq-eqb t t refl) (get_or-set_same own t v 0 (omega arith))
  | no q ↦ rw (ne_eqb u t q) (get_or-set_other own t u v 0 q ∙ g u l q)
]

-- one more of thread t: its record counts
abbrev own_more : List ℕ → ℕ → List ℕ
own_more own t = set own t (get_or own t 0 + 1)

four_more : (own : List ℕ) (t : ℕ) → length own ≡ 4 → length (own_more own t) ≡ 4
four_more own t n = length-set own t (get_or own t 0 + 1) ∙ n

-- ---- a tally that was `first` before the first record, and own steps, after k records
pub record Counting (file : List ℕ) (k : ℕ) (first tally steps : List ℕ) : Type 0 where
  pub four : length steps ≡ 4
  pub long : length tally ≡ length first
  pub own : (t : ℕ) → t < 4 → get_or steps t 0 ≡ (ledger file k).own t
  pub counts : length first ≡ 65 → numbers tally ≡ sum (numbers first) (tallied file k)

pub none_counting : (file first : List ℕ) → Counting file 0 first first (0 ∷ 0 ∷ 0 ∷ 0 ∷ [])
none_counting file first = record {
  four = refl;
  long = refl;
  own = λ t h. zeros t h ∙ ap (λ (f : ℕ → ℕ). f t) (sym (none_own file));
  counts = λ _. rw (none_counted file) (sym (sum_none (numbers first)));
}
  where
    zeros : (t : ℕ) → t < 4 → ◌≡◌ {A = ℕ} (get_or (0 ∷ 0 ∷ 0 ∷ 0 ∷ []) t 0) 0
    zeros zero h = refl
    zeros (suc zero) h = refl
    zeros (suc (suc zero)) h = refl
    zeros (suc (suc (suc zero))) h = refl
    zeros (suc (suc (suc (suc t)))) h = absurd (omega arith)

-- none is lent
pub none_lent : Room [] 33554432
none_lent = record { at = λ i h. omega arith }

pub one_more : {l : List ℕ} → Room l 4096 → Room l 1
one_more r = record { at = λ i h. omega (arith, r.at i h) }

-- its numbers have room
module _ {file : List ℕ} {k : ℕ} {first tally own : List ℕ} (c : Counting file k first tally own) (few : k < 4097) (long : length tally ≡ 65) where
  pub most : Room first 33554432 → Room tally 4096
  most r = record {
    at = λ i h. let t = ap (λ (f : Tally). f i) (c.counts (sym c.long ∙ long)) in
        omega (arith, r.at i h, t, sum_at (numbers first) (tallied file k) i, join_most i (get_or first i 0) (tallied file k i), tallied_most file k i (omega arith), few);
  }

-- ---- a row's column, by what the code tests
pub column_so : (m : Answer) → ite (eqb (answer_number m) 1) Field.yes Field.no ≡ column (shownAs m)
unfolding ite
column_so No = refl
column_so Yes = refl
column_so (At x) = refl
column_so Lacking = refl
column_so Blocked = refl
column_so Lost = refl
column_so NeighbourBlocked = refl
column_so StoodDown = refl
column_so Stopped = refl

pub column_found : (b : Bool) → ite b Field.yes Field.no ≡ column (said b)
unfolding ite
column_found true = refl
column_found false = refl

upd_own : (f : ℕ → ℕ) (t v : ℕ) → upd f t v t ≡ v
unfolding ite
upd_own f t v = rw (eq-eqb t t refl)

-- a record with an answer is not refused
answered_on : (file : List ℕ) (k : ℕ) {m : Answer} → (after file k).refusal ≡ 0 → Said file k m → (after file (suc k)).refusal ≡ 0
unfolding after
answered_on file k z w = rw (advance_on file (after file k) (record_at file k) z, w.3) refl

-- ---- one record more
module _ {file : List ℕ} {k x y e : ℕ} {n : Shapes} {l : List ℕ} {s : Stores} {threads : List Notes} {counts : List ℕ} {h : ℕ → Frame} {count root used shown finished at : ℕ}
    {start buffer : List ℕ} {a : Outcome Asked Refusal} {end : Notes} (q : Asking file k x y e n l s threads counts h count root used shown finished at start buffer a end)
  where
    now : (after file k).refusal ≡ 0
    now = sym q.stands.refusal

    byte : byte_at file k ≡ x
    byte = sym q.reads.0

    refused_so : (v : Refusal) → a ≡ Err v → (after file (suc k)).refusal ≢ 0
    refused_so v z i = refused v ((rw add-one at (refused_on q z)).refusal ∙ i)

    mine : thread_at file k < 4 → x / 16 % 4 ≡ thread_at file k
    mine low = omega (arith, byte)

    row_of : {m : Answer} → Said file k m → Answered file k m
    row_of {m} w = answered file k w.0 m w.1 w.2 now w.3

    -- own steps after a step
    step_own : {first tally own : List ℕ} (c : Counting file k first tally own) (own' : List ℕ) → own' ≡ own_more own (x / 16 % 4) → thread_at file k < 4
        → (ledger file (suc k)).own ≡ upd (ledger file k).own (thread_at file k) (steps_at file k) → (t : ℕ) → t < 4 → get_or own' t 0 ≡ (ledger file (suc k)).own t
    step_own {own = own} c own' d low w t h =
        let next : get_or own (x / 16 % 4) 0 + 1 ≡ steps_at file k = omega (arith, c.own (x / 16 % 4) (omega arith), ap (ledger file k).own (mine low)) in
        rw (d, w, next, mine low) (own_set own (ledger file k).own (thread_at file k) (steps_at file k) c.four (λ u l _. c.own u l) t h)

    module _ {first tally own : List ℕ} (c : Counting file k first tally own) (tally' own' : List ℕ)
        (told : Told a (x / 16 % 4) tally (own_more own (x / 16 % 4)) tally' own') (long : length tally' ≡ length tally) where
      pub going : (after file (suc k)).refusal ≡ 0 → (after file (suc k)).finished ≡ (after file k).finished → Counting file (suc k) first tally' own'
      going z f = by a refl told
        where
          by : (m : Outcome Asked Refusal) → a ≡ m → Told m (x / 16 % 4) tally (own_more own (x / 16 % 4)) tally' own' → Counting file (suc k) first tally' own'
          by (Ok Step) i d =
              let o : Kept file k = moved file k now z f (rw byte (asks_step _ x y e _ (sym q.asks ∙ i))) in
              record {
                four = rw d.0 (four_more own (x / 16 % 4) c.four);
                long = long ∙ c.long;
                own = step_own c own' d.0 o.low o.own;
                counts = λ w. rw (d.1, o.counts) (c.counts w);
              }
          by (Ok (Start b)) i d =
              let g : byte_at file k % 16 ≡ action_number b = rw byte (asks_start (last_action file) x y e _ b (last_few file) (sym q.asks ∙ i)) in
              let o : Opened file k = opened file k now z (λ u. number_some b (sym g ∙ u)) in
              record {
                four = rw d.0 (length-set (own_more own (x / 16 % 4)) (x / 16 % 4) 0 ∙ four_more own (x / 16 % 4) c.four);
                long = long ∙ c.long;
                own = λ t w. rw (d.0, o.own, mine o.low) (own_set (own_more own (thread_at file k)) (ledger file k).own (thread_at file k) 0 (four_more own (thread_at file k) c.four)
                    (λ u l q. get_or-set_other own (thread_at file k) u _ 0 q ∙ c.own u l) t w);
                counts = λ w. d.1 (c.long ∙ w) ∙ (ap (λ (u : Tally). sum u (begins (action_number b))) (c.counts w) ∙ (sum_assoc (numbers first) (tallied file k) (begins (action_number b))
                    ∙ ap (sum (numbers first)) (ap (λ (u : ℕ). sum (tallied file k) (begins u)) (sym g) ∙ sym o.counts)));
              }
          by (Err v) i d = absurd (refused_so v i z)

      pub going_on : {n' : Shapes} {l' : List ℕ} {s' : Stores} {v : Stop} {threads' : ℕ → Thread} {root' used' shown' at' : ℕ} {buffer' : List ℕ}
          → Stands n' l' s' v threads' (stand root' used' shown' (Ok tt) (k + 1) finished at') start buffer' (after file (k + 1)) → Counting file (k + 1) first tally' own'
      going_on r = rw add-one (going (rw add-one at (sym r.refusal)) (rw add-one at (sym r.finished ∙ q.stands.finished)))

      -- an answer comes of a step
      module _ {m : Answer} (w : Said file k m) where
        row_asked : (o : Outcome Asked Refusal) → a ≡ o → Told o (x / 16 % 4) tally (own_more own (x / 16 % 4)) tally' own' → (own' ≡ own_more own (x / 16 % 4)) × (tally' ≡ tally)
        row_asked (Ok Step) i d = d
        row_asked (Ok (Start b)) i d =
            absurd (number_some b (sym (asks_start (last_action file) x y e _ b (last_few file) (sym q.asks ∙ i)) ∙ (ap (λ (u : ℕ). u % 16) (sym byte) ∙ (row_of w).step)))
        row_asked (Err v) i d = absurd (refused_so v i (answered_on file k now w))

        row_told : (own' ≡ own_more own (x / 16 % 4)) × (tally' ≡ tally)
        row_told = row_asked a refl told

        row_own : (t : ℕ) → t < 4 → get_or own' t 0 ≡ (ledger file (suc k)).own t
        row_own = step_own c own' row_told.0 (row_of w).low (row_of w).own

        pub row_steps : get_or own' (x / 16 % 4) 0 ≡ steps_at file k
        row_steps = row_own (x / 16 % 4) (omega arith)
            ∙ (ap (ledger file (suc k)).own (mine (row_of w).low) ∙ (ap (λ (f : ℕ → ℕ). f (thread_at file k)) (row_of w).own ∙ upd_own (ledger file k).own (thread_at file k) (steps_at file k)))

        pub row_open : length tally' ≡ 65 → 0 < get_or tally' (place unfinished (action_at file k)) 0
        row_open z = rw row_told.1 (omega (
          arith,
          ap (λ (f : Tally). f (place unfinished (action_at file k))) (c.counts (sym c.long ∙ (sym long ∙ z))),
          sum_at (numbers first) (tallied file k) (place unfinished (action_at file k)),
          join_sum (place unfinished (action_at file k)) (get_or first (place unfinished (action_at file k)) 0) (tallied file k (place unfinished (action_at file k))) (omega (arith, (row_of w).kind)),
          ap (λ (f : Tally). f (place unfinished (action_at file k))) (row_of w).before,
          sum_at (row_of w).rest (just (place unfinished (action_at file k)) 1) (place unfinished (action_at file k)),
          join_sum (place unfinished (action_at file k)) ((row_of w).rest (place unfinished (action_at file k)))
              (just (place unfinished (action_at file k)) 1 (place unfinished (action_at file k))) (omega (arith, (row_of w).kind)),
          just_same (place unfinished (action_at file k)) 1,
        ))

        pub row_action : {b : Action} → (x / 16 < 4 → b ≡ ((after file k).bench.threads (x / 16)).action) → action_number b ≡ action_at file k
        row_action f =
            ap action_number (f (omega (arith, byte, (row_of w).low))) ∙ ap (λ (u : ℕ). action_number ((after file k).bench.threads (u / 16)).action) (sym byte)

        pub row_few : get_or own' (x / 16 % 4) 0 ≤ k + 1
        row_few = omega (arith, row_steps, own_most file k (thread_at file k))

        pub row_needs : {b : Action} → k < 4096 → Room first 33554432 → (x / 16 < 4 → b ≡ ((after file k).bench.threads (x / 16)).action)
            → (get_or own' (x / 16 % 4) 0 ≤ 4096) × (length tally' ≡ 65 → Room tally' 4096 × (0 < get_or tally' (place unfinished (action_number b)) 0))
        row_needs few room f =
            (omega (arith, row_few, few), λ z. (rw row_told.1 (most c (omega (arith, few)) (sym long ∙ z) room), rw (row_action f) (row_open z)))

        pub answering : (b v : ℕ) (y : Bool) {tally'' : List ℕ} → b ≡ action_at file k → v ≡ steps_at file k → ite y Field.yes Field.no ≡ column m → length tally'' ≡ length tally'
            → Closed b y v tally' tally''
            → Counting file (k + 1) first tally'' own'
        answering b v y ba vs col same closed = rw add-one (record {
          four = rw row_told.0 (four_more own (x / 16 % 4) c.four);
          long = same ∙ (long ∙ c.long);
          own = row_own;
          counts = λ z.
              let rest : Tally = sum (numbers first) (row_of w).rest in
              let before : numbers tally' ≡ sum rest (just (place unfinished b) 1) =
              rw (row_told.1, ba) (c.counts z ∙ (ap (sum (numbers first)) (row_of w).before ∙ sym (sum_assoc (numbers first) (row_of w).rest (just (place unfinished (action_at file k)) 1)))) in
              closed (long ∙ (c.long ∙ z)) rest before
              ∙ rw (ba, vs, col) (ap (λ (u : Tally). sum u (taken (action_at file k) (steps_at file k))) (sum_assoc (numbers first) (row_of w).rest (just (place (column m) (action_at file k)) 1))
              ∙ (sum_assoc (numbers first) (sum (row_of w).rest (just (place (column m) (action_at file k)) 1)) (taken (action_at file k) (steps_at file k))
              ∙ ap (sum (numbers first)) (sym (row_of w).counts)));
        })

      -- a record that is refused ends the run
      ending : (after file (suc k)).refusal ≢ 0 → k < count_of file → Added file first tally'
      ending z i = by a refl told
        where
          same : (tally' ≡ tally) → Added file first tally'
          same d w = rw d (c.counts w ∙ ap (sum (numbers first)) (sym (kept_on file k now z (count_of file) (omega arith))))

          by : (m : Outcome Asked Refusal) → a ≡ m → Told m (x / 16 % 4) tally (own_more own (x / 16 % 4)) tally' own' → Added file first tally'
          by (Ok Step) i d = same d.1
          by (Ok (Start b)) i d = absurd (z (rw add-one at (started_on q i)))
          by (Err v) i d = same d.1

      pub ending_on : {n' : Shapes} {l' : List ℕ} {s' : Stores} {v : Stop} {threads' : ℕ → Thread} {root' used' shown' finished' at' : ℕ} {buffer' : List ℕ} {f : Refusal}
          → Stands n' l' s' v threads' (stand root' used' shown' (Err f) k finished' at') start buffer' (after file (k + 1)) → k < count_of file → Added file first tally'
      ending_on {f = f} r = ending (λ i. refused f ((rw add-one at r.refusal) ∙ i))

-- after the last record
pub all_counted : (file : List ℕ) {k : ℕ} {first tally own : List ℕ} → k ≡ count_of file → Counting file k first tally own → Added file first tally
all_counted file i c w = rw (← i) (c.counts w)

-- ---- what a file adds: its records, where it is not refused before the first
module _ (file : List ℕ) (n : ℕ) where
  pub records_on : run_refusal file n ≡ 0 → records_tally file n ≡ sum (ledger file (count_of file)).counts (left_busy (ended file).bench.threads)
  unfolding records_tally ite
  records_on z = rw (eq-eqb (run_refusal file n) 0 z)

  pub records_off : run_refusal file n ≢ 0 → records_tally file n ≡ empty
  unfolding records_tally ite
  records_off z = rw (ne_eqb (run_refusal file n) 0 z)

  module _ (l l' : List ℕ) where
    pub some_added : 0 ≡ run_refusal file n → Added file l l' → length l ≡ 65 → numbers l' ≡ sum (numbers l) (records_tally file n)
    some_added z h w = h w ∙ ap (sum (numbers l)) (sym (records_on (sym z)))

  pub none_added : (l : List ℕ) → run_refusal file n ≢ 0 → numbers l ≡ sum (numbers l) (records_tally file n)
  none_added l z = sym (ap (sum (numbers l)) (records_off z) ∙ sum_none (numbers l))
