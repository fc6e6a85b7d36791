-- The output's bytes, the part that comes back, and both as the definition has them, from what the code holds. Assumes nothing.
use mathlib.Core.Path.{◌≡◌, refl, sym, ap, ◌∙◌}
use mathlib.Core.List.{List, [], ◌∷◌, ◌++◌}
use Prim.Native.Nat.{ℕ, zero, suc, ◌+◌, ◌-◌, ◌*◌, ◌/◌, ◌%◌, ◌≤◌, ◌<◌}
use native.Mathlib.Omega.{arith}
use borrow.Author.Tests.{ne_eqb, lt-ltb, le-ltb}
use lib.ListN.{length, get_or, take, drop, length-append}
use Rattle.std.specs.Prelude.{Result, IsErrAnd}
use Rattle.std.specs.Borrow.{Bor}
use Rattle.std.proofs.lemmas.Result.{err_from_is_err_and}
use Rattle.container.specs.Choice.{ite}
use Rattle.buffer.specs.Page.{Page, page, put_all}
use Rattle.buffer.proofs.Laws.{put_fits}
use Rattle.definitions.specs.declared.Refusal.{Refusal}
use Rattle.definitions.specs.Refusal.{refusal_number, code_of}
use Rattle.definitions.proofs.Refusals.{refused as not_0}
use Rattle.definitions.specs.Schedule.{count_of}
use Rattle.definitions.specs.Run.{overlay}
use Rattle.definitions.specs.Merge.{total, smaller, needed, turns, merge_refusal, merge_bytes, merge_buffer, left_over, merge_report, part_of}
use Rattle.schedule.specs.Proper.{Plain}
use Rattle.merge.specs.Accepted.{Accepted}
use Rattle.merge.specs.Merging.{Merging, rest_of}

-- ---- the bytes

pub turns_length : (first second : List ℕ) (k : ℕ) → length (turns first second k) ≡ 4 * k
unfolding turns
turns_length first second zero = refl
turns_length first second (suc k) = length-append (turns first second k) _ ∙ rw (turns_length first second k) (omega arith)

pub bytes_length : (first second : List ℕ) → length (merge_bytes first second) ≡ needed first second
unfolding merge_bytes
bytes_length first second = rw (turns_length first second (smaller first second)) (omega arith)

module _ (first second out : List ℕ) (h : Accepted first second (length out)) {a b : ℕ} {bytes w : List ℕ} (c : a ≡ count_of first) (d : b ≡ count_of second) where
  -- the version and the count, side by side
  head_is : bytes ≡ (a + b) / 256 % 256 ∷ (a + b) % 256 ∷ [] → w ≡ 1 ∷ get_or bytes 0 0 ∷ get_or bytes 1 0 ∷ [] → w ≡ 1 ∷ total first second / 256 ∷ total first second % 256 ∷ []
  head_is e f =
      let small : (a + b) / 256 % 256 ≡ (a + b) / 256 = omega (arith, c, d, h.few) in
      f ∙ rw (e, small, c, d)

  -- and the records, one after the other
  pub output_put : {after : List ℕ} → bytes ≡ (a + b) / 256 % 256 ∷ (a + b) % 256 ∷ [] → w ≡ 1 ∷ get_or bytes 0 0 ∷ get_or bytes 1 0 ∷ []
      → page after (needed first second) ≡ put_all (page (w ++ drop 3 out) 3) (turns first second (smaller first second)) → after ≡ overlay (merge_bytes first second) out
  unfolding merge_bytes put_all
  output_put {after} e f i =
      let head = put_fits (1 ∷ total first second / 256 ∷ total first second % 256 ∷ []) out (omega (arith, h.room)) in
      let all : page after (needed first second) ≡ put_all (page out 0) (merge_bytes first second) =
      i ∙ rw (head_is e f) (ap (λ q. put_all q (turns first second (smaller first second))) (sym head)) in
      ap (λ (s : Page). s.bytes) (all ∙ put_fits (merge_bytes first second) out (omega (arith, bytes_length first second, h.room)))

-- ---- the part

module _ (first second : List ℕ) {a b : ℕ} (h : Plain first × Plain second) (c : a ≡ count_of first) (d : b ≡ count_of second) where
  pub rest_second : a < b → take (length second - (3 + 2 * a)) (drop (3 + 2 * a) second) ≡ part_of first second (left_over first second)
  unfolding part_of ite
  rest_second l =
      let n : length second - (3 + 2 * a) ≡ 2 * (b - a) = omega (arith, h.1.whole) in
      rw (← c, ← d, lt-ltb a b l, ite) (rw n)

  pub rest_first : b ≤ a → take (length first - (3 + 2 * b)) (drop (3 + 2 * b) first) ≡ part_of first second (left_over first second)
  unfolding part_of ite
  rest_first l =
      let n : length first - (3 + 2 * b) ≡ 2 * (a - b) = omega (arith, h.0.whole) in
      rw (← c, ← d, le-ltb a b l, ite) (rw n)

-- ---- both

module _ (first second out : List ℕ) where
  -- where `?` hands on the refusal k
  pub refused : (k : Refusal) (r : Result (Bor (List ℕ)) Refusal) → refusal_number k ≡ merge_refusal first second (length out) → IsErrAnd r (λ e. e ≡ k)
      → Merging first second out (code_of r) out (rest_of r)
  unfolding merge_buffer merge_report part_of ite
  refused k r e h =
      let p = err_from_is_err_and r h in
      rw (p.1, p.2) (record { refused = e; output = rw (← e, ne_eqb _ _ (not_0 k)); rest = rw (← e, ne_eqb _ _ (not_0 k)) })

  pub merged : {w s : List ℕ} → 0 ≡ merge_refusal first second (length out) → w ≡ overlay (merge_bytes first second) out → s ≡ part_of first second (left_over first second)
      → Merging first second out 0 w s
  unfolding merge_buffer merge_report ite
  merged e f g = record { refused = e; output = rw (← e) f; rest = rw (← e) g }
