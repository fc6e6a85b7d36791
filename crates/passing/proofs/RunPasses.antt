-- A version 1 run that has only lookups, inserts and removes, at most 12, all finished, is accepted by Judge (02, j), from the answers
-- rule over the plain set. Assumes nothing.
use Rattle.std.specs.Prelude.{None}
use mathlib.Core.Path.{◌≡◌, sym, ◌∙◌, subst, fun_ext}
use mathlib.Core.Bool.{Bool, true, false}
use mathlib.Core.List.{List}
use Prim.Native.Nat.{ℕ, ◌+◌, ◌*◌, ◌≤◌, ◌<◌}
use native.Mathlib.Omega.{arith}
use native.Mathlib.Decide.{dec_lt}
use lib.ListN.{get_or, length}
use borrow.Author.Tests.{lt-ltb, le-ltb}
use Rattle.definitions.specs.Bench.{fresh}
use Rattle.definitions.specs.PlainSet.{empty}
use Rattle.definitions.specs.Schedule.{Rec, stop_of, records_of, count_of}
use Rattle.definitions.specs.SetClaim.{moments}
use Rattle.answers.proofs.SetRule.{set_rule}
use Rattle.passing.proofs.Standing.{at_start, now_is}
use Rattle.definitions.specs.History.{Event, unread, reading_of, history_refusal}
use Rattle.definitions.specs.Judgement.{Answers, Order, Verdict, accepts, rejects, Decided, JudgementBy, Judgement}
use Rattle.definitions.specs.declared.Judged.{Judged}
use Rattle.definitions.specs.Written.{events_from, AllFinished, run_events, history_of, written, RunsPass}
use Rattle.passing.specs.Lists.{Eligible, Enough}
use Rattle.passing.proofs.RunRows.{records_length, run_rows, run_bench, events_few}
use Rattle.passing.proofs.Fold.{read_all}
use Rattle.passing.proofs.Tidy.{tidy_unread}
use Rattle.passing.proofs.Linked.{linked_fresh}
use Rattle.passing.proofs.Pass.{Passed}
use Rattle.passing.proofs.Course.{pass}
use Rattle.passing.proofs.Bytes.{bytes_length, reading_back, not_refused, file_bytes}

module _ (on : Bool) (rs : List Rec) (ok : Eligible on rs) where
  abbrev es : List Event
  es = events_from rs (fresh on)

  abbrev file : List ℕ
  file = history_of (events_from rs (fresh on))

  pub passed : Passed (moments on rs) es unread (λ _. None) 0
  passed = pass (moments on rs) rs (fresh on) empty (λ _. None) 0 unread (at_start on rs (set_rule.0 on rs)) (linked_fresh on) tidy_unread ok.three ok.finished

  nothing_in : moments on rs 0 ≡ (λ _. false)
  nothing_in = fun_ext (λ s. now_is (moments on rs) rs (fresh on) empty (λ _. None) 0 (at_start on rs (set_rule.0 on rs)) s)

  pub run_order : Order (read_all es unread).all passed.list
  run_order = record {
    each = λ i. elim (dec_lt i (read_all es unread).all.count) [
      | yes h ↦ passed.part.future i (omega arith) h ∙ rw (lt-ltb i (read_all es unread).all.count h)
      | no h ↦ passed.part.beyond i (omega arith) ∙ rw (le-ltb i (read_all es unread).all.count (omega arith))
    ];
    keeps = passed.part.keeps;
    answers = subst (λ S. Answers (read_all es unread).all S passed.list) nothing_in passed.part.answers;
  }

  pub run_in_form : history_refusal file ≡ 0
  run_in_form = not_refused es passed.in_place ok.few passed.ended

  -- the history has an order
  pub run_has_order : Order (reading_of file).all passed.list
  run_has_order = subst (λ R. Order R.all passed.list) (sym (reading_back es passed.in_place ok.few passed.ended)) run_order

  -- "A version 1 run of ours [..] must pass": whatever report the definition gives of its history
  pub run_passes : (r : Judged) → Judgement file r → (r.refusal ≡ 0) × (r.accepted ≡ true)
  run_passes r p = go (subst (λ k. JudgementBy k file r) run_in_form p)
    where
      by : Verdict (reading_of file).all r → r.accepted ≡ true
      by (accepts l o a u) = a
      by (rejects h a u) = absurd (h passed.list run_has_order)

      go : Decided (reading_of file).all r → (r.refusal ≡ 0) × (r.accepted ≡ true)
      go d = (d.number, by d.verdict)

  -- its numbers are bytes, where the list is no longer than a schedule can be
  pub run_bytes : length rs ≤ 4096 → (j : ℕ) → get_or file j 0 < 256
  run_bytes h = file_bytes es passed.in_place (omega (arith, events_few rs (fresh on)))

-- ---- the run of a schedule file
pub runs_pass : RunsPass
unfolding written
runs_pass file one three few fin =
    let rs = records_of file (count_of file) in
    let ok : Eligible (stop_of file) rs = record { three = three; few = few; finished = subst (λ b. AllFinished b) (run_bench file) fin } in
    record { rows = run_rows file one; judged = run_passes (stop_of file) rs ok }

-- the history of every run has room
pub room_enough : (count : ℕ) → Enough count (3 + 4 * count)
unfolding written
room_enough count file e = omega (arith, bytes_length (run_events file), events_few (records_of file (count_of file)) (fresh (stop_of file)), records_length file (count_of file), e)
