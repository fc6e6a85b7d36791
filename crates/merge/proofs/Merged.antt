-- Two schedules into one: the merged file has every record of both, in turns, and each thread's in their order. Assumes nothing.
use mathlib.Core.Path.{◌≡◌, refl, sym, ap, ap₂, ◌∙◌}
use mathlib.Core.List.{List, ◌∷◌, ◌++◌}
use Prim.Native.Nat.{ℕ, ◌+◌, ◌-◌, ◌*◌, ◌≤◌, ◌<◌, min}
use native.Mathlib.Omega.{arith}
use native.Mathlib.Decide.{dec_lt}
use borrow.Author.Tests.{eq-eqb, lt-ltb, le-ltb}
use lib.Dec.{ltb}
use lib.ListN.{length, get_or, drop, length-append, length-drop}
use lib.Seq.{take_at, drop_at, take_all}
use Rattle.container.specs.Choice.{ite}
use Rattle.schedule.proofs.Laws.{right_one, fault_file}
use Rattle.definitions.specs.Schedule.{Rec, count_of, file_refusal}
use Rattle.definitions.specs.Run.{overlay}
use Rattle.definitions.specs.Merge.{fault, total, smaller, needed, merge_bytes, merge_buffer, left_over, merge_report, part_of}
use Rattle.definitions.specs.Merged.{merged_file, all_of, in_turns, kept, is_of, MergedRight, MergeRule}
use Rattle.merge.specs.Accepted.{Accepted}
use Rattle.merge.proofs.Refusals.{accepted}
use Rattle.merge.proofs.Taken.{run_accepts, run_carries}
use Rattle.merge.proofs.Output.{bytes_length, rest_first, rest_second}
use Rattle.merge.proofs.Sorted.{longer_first, longer_second, kept_first, kept_second, kept_both}
use Rattle.merge.proofs.Decoded.{plain_of, records_plain, pairs, records_length, records_from, pairs_turns, none_of}

abbrev pub part : List ℕ → List ℕ → List ℕ
part first second = part_of first second (left_over first second)

-- the output's bytes with the part after them
abbrev whole : List ℕ → List ℕ → List ℕ
whole first second = merge_bytes first second ++ part first second

-- ---- the part

-- it makes the records complete
pub record Completes (first second rest : List ℕ) : Type 0 where
  pub size : length rest + 4 * smaller first second ≡ 2 * total first second
  pub records : in_turns (plain_of first (smaller first second)) (plain_of second (smaller first second)) ++ pairs rest ≡ in_turns (plain_of first (count_of first)) (plain_of second (count_of second))

same_length : (first second : List ℕ) (k : ℕ) → length (plain_of first k) ≡ length (plain_of second k)
same_length first second k = records_length first k ∙ sym (records_length second k)

module _ (first second : List ℕ) {room : ℕ} (h : Accepted first second room) where
  of_second : count_of first < count_of second → Completes first second (part first second)
  of_second l =
      let n : min (count_of first) (count_of second) ≡ count_of first = omega arith in
      let tail = drop (3 + 2 * count_of first) second in
      let e : part first second ≡ tail =
      sym (rest_second first second (h.one, h.other) refl refl l) ∙ take_all (length second - (3 + 2 * count_of first)) tail (omega (arith, length-drop (3 + 2 * count_of first) second)) in
      record {
        size = rw (e, n) (omega (arith, length-drop (3 + 2 * count_of first) second, h.other.whole));
        records =
            rw (e, n, ← records_from second (count_of second - count_of first) (count_of first) (count_of second) (omega arith) h.other.whole)
            (sym (longer_second (plain_of first (count_of first)) (plain_of second (count_of first)) (pairs tail) (same_length first second (count_of first))));
      }

  of_first : count_of second ≤ count_of first → Completes first second (part first second)
  of_first l =
      let n : min (count_of first) (count_of second) ≡ count_of second = omega arith in
      let tail = drop (3 + 2 * count_of second) first in
      let e : part first second ≡ tail =
      sym (rest_first first second (h.one, h.other) refl refl l) ∙ take_all (length first - (3 + 2 * count_of second)) tail (omega (arith, length-drop (3 + 2 * count_of second) first)) in
      record {
        size = rw (e, n) (omega (arith, length-drop (3 + 2 * count_of second) first, h.one.whole));
        records =
            rw (e, n, ← records_from first (count_of first - count_of second) (count_of second) (count_of first) (omega arith) h.one.whole)
            (sym (longer_first (plain_of first (count_of second)) (plain_of second (count_of second)) (pairs tail) (same_length first second (count_of second))));
      }

  pub completes : Completes first second (part first second)
  completes = elim (dec_lt (count_of first) (count_of second)) [ yes l ↦ of_second l | no l ↦ of_first (omega arith) ]

-- ---- the file

headed : (x y z : ℕ) (l : List ℕ) → count_of (x ∷ y ∷ z ∷ l) ≡ y * 256 + z
unfolding count_of
headed x y z l = refl

whole_version : (first second : List ℕ) → get_or (whole first second) 0 0 ≡ 1
unfolding merge_bytes
whole_version first second = refl

whole_count : (first second : List ℕ) → count_of (whole first second) ≡ total first second
unfolding merge_bytes
whole_count first second = headed _ _ _ _ ∙ omega arith

module _ (first second : List ℕ) {room : ℕ} (h : Accepted first second room) where
  whole_length : length (whole first second) ≡ 3 + 2 * total first second
  whole_length = length-append (merge_bytes first second) (part first second) ∙ omega (arith, bytes_length first second, (completes first second h).size)

  whole_proper : file_refusal (whole first second) ≡ 0
  whole_proper =
      let n = whole_length in
      let c = whole_count first second in
      sym (right_one (whole first second) (omega arith) (whole_version first second) (omega (arith, h.few)) (omega arith))

  plain_records : plain_of (whole first second) (count_of (whole first second)) ≡ in_turns (plain_of first (count_of first)) (plain_of second (count_of second))
  unfolding plain_of merge_bytes
  plain_records =
      ap (plain_of (whole first second)) (whole_count first second)
      ∙ (sym (records_from (whole first second) (total first second) 0 (total first second) (omega arith) whole_length)
      ∙ (pairs_turns first second (part first second) (smaller first second) ∙ (completes first second h).records))

  whole_records : all_of (whole first second) ≡ in_turns (all_of first) (all_of second)
  whole_records =
      records_plain (whole first second) (whole_version first second) (count_of (whole first second))
      ∙ (plain_records
      ∙ ap₂ in_turns (sym (records_plain first h.one.version (count_of first))) (sym (records_plain second h.other.version (count_of second))))

  -- each thread's records come from its own file
  own_records : (t : ℕ) → kept (is_of t) (in_turns (all_of first) (all_of second)) ≡ kept (is_of t) (all_of (ite (ltb t 2) first second))
  unfolding ite
  own_records t = elim (dec_lt t 2) [
    | yes l ↦ rw (lt-ltb t 2 l) (kept_first (is_of t) (all_of first) (all_of second)
        (ap (kept (is_of t)) (records_plain second h.other.version (count_of second)) ∙ none_of 1 second t (λ e. omega arith) (count_of second) h.own_other))
    | no l ↦ rw (le-ltb t 2 (omega arith)) (kept_second (is_of t) (all_of first) (all_of second)
        (ap (kept (is_of t)) (records_plain first h.one.version (count_of first)) ∙ none_of 0 first t (λ e. omega arith) (count_of first) h.own_one))
  ]

  shown : (out after file : List ℕ) → needed first second ≤ length out → after ≡ overlay (merge_bytes first second) out → file ≡ whole first second → MergedRight first second file out after
  shown out after file r f g =
      let n : length (merge_bytes first second) ≡ needed first second = bytes_length first second in
      let all : all_of file ≡ in_turns (all_of first) (all_of second) = ap (λ (l : List ℕ). all_of l) g ∙ whole_records in
      record {
        plain = ap fault g ∙ (sym (fault_file (whole first second) (omega (arith, whole_length)) (whole_version first second) refl) ∙ whole_proper);
        proper = ap file_refusal g ∙ whole_proper;
        count = ap count_of g ∙ whole_count first second;
        records = all;
        threads = λ t. ap (kept (is_of t)) all ∙ own_records t;
        same = λ p. ap (λ (l : List Rec). length (kept p l)) all ∙ kept_both p (all_of first) (all_of second);
        accepted = run_accepts file (ap file_refusal g ∙ whole_proper);
        carried = λ m l. run_carries file (ap file_refusal g ∙ whole_proper) (ap (λ (l : List ℕ). get_or l 0 0) g ∙ whole_version first second) m (rw (ap count_of g ∙ whole_count first second) l);
        untouched = rw f (drop_at (merge_bytes first second) _ (needed first second) n ∙ rw n);
        long = ap length f ∙ (length-append (merge_bytes first second) _ ∙ rw (length-drop, n) (omega arith));
      }

-- ---- what Merge hands back

pub merge_rule : MergeRule
unfolding merge_buffer merge_report ite
merge_rule first second out z =
    let h = accepted first second (length out) z in
    let after : merge_buffer first second out ≡ overlay (merge_bytes first second) out = rw (eq-eqb _ _ z) in
    let file : merged_file first second out ≡ whole first second =
    rw (eq-eqb _ _ z) (ap (λ (l : List ℕ). l ++ part first second) (take_at (merge_bytes first second) _ (needed first second) (bytes_length first second))) in
    shown first second h out (merge_buffer first second out) (merged_file first second out) h.room after file
