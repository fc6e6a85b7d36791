-- The printed run of every file fits 65,536 bytes, so that a buffer of that length holds it whole. Assumes nothing.
use mathlib.Core.Path.{◌≡◌, refl, ap, ◌∙◌}
use mathlib.Core.Bool.{Bool, true, false}
use mathlib.Core.List.{List, [], ◌∷◌, ◌++◌}
use Prim.Native.Nat.{ℕ, zero, suc, ◌+◌, ◌/◌, ◌*◌, ◌≤◌}
use native.Mathlib.Omega.{arith}
use borrow.Author.Tests.{eqb-true}
use lib.Dec.{eqb, ltb}
use lib.ListN.{length, drop, get_or, length-append}
use Rattle.container.specs.Choice.{ite}
use Rattle.buffer.specs.Page.{Page, page, put_all}
use Rattle.buffer.proofs.Laws.{put_fits}
use Rattle.answers.proofs.Reach.{reach_fits}
use Rattle.definitions.specs.Tree.{stored}
use Rattle.definitions.specs.Schedule.{version, count_of, file_refusal}
use Rattle.definitions.specs.Run.{Progress, row_width, ended, overlay}
use Rattle.definitions.specs.Answers.{rendered, answer_of, answer_word}
use Rattle.definitions.specs.Listing.{digit, decimal}
use Rattle.definitions.specs.Printed.{action_word, first_line, depth_text, row_line, row_lines, last_line, printed_at, printed}
use Rattle.definitions.specs.declared.Answer.{Answer}
use Rattle.definitions.specs.declared.Answer.TheVariants.{No, Yes, At, Lacking, Blocked, Lost, NeighbourBlocked, StoodDown, Stopped}
use Rattle.run.proofs.Rows.{finished_half}

-- ---- words and numbers
one_of : (c : Bool) (xs ys : List ℕ) (n : ℕ) → length xs ≤ n → length ys ≤ n → length (ite c xs ys) ≤ n
unfolding ite
one_of true xs ys n p q = p
one_of false xs ys n p q = q

decimal_few : (n : ℕ) → length (decimal n) ≤ 4
unfolding decimal
decimal_few n = rw (length-append, length-append, length-append) (omega (
  arith,
  one_of (ltb n 1000) [] (digit (n / 1000) ∷ []) 1 (omega arith) (omega arith),
  one_of (ltb n 100) [] (digit (n / 100) ∷ []) 1 (omega arith) (omega arith),
  one_of (ltb n 10) [] (digit (n / 10) ∷ []) 1 (omega arith) (omega arith),
))

action_few : (a : ℕ) → length (action_word a) ≤ 6
unfolding action_word
action_few a = one_of (eqb a 1) _ _ 6 (omega arith)
    (one_of (eqb a 2) _ _ 6 (omega arith) (one_of (eqb a 3) _ _ 6 (omega arith) (one_of (eqb a 4) _ _ 6 (omega arith) (one_of (eqb a 5) _ _ 6 (omega arith) (omega arith)))))

word_few : (a : Answer) → length (rendered a).1 ≤ 3
word_few No = omega arith
word_few Yes = omega arith
word_few (At x) = omega arith
word_few Lacking = omega arith
word_few Blocked = omega arith
word_few Lost = omega arith
word_few NeighbourBlocked = omega arith
word_few StoodDown = omega arith
word_few Stopped = omega arith

answer_few : (y : ℕ) → length (answer_word y) ≤ 3
answer_few y = word_few (answer_of y)

-- ---- lines
first_few : (done count refusal : ℕ) → length (first_line done count refusal) ≤ 34
unfolding first_line
first_few done count refusal = rw (length-append, length-append, length-append, length-append, length-append, length-append) (omega (arith, decimal_few done, decimal_few count, decimal_few refusal))

last_few : (held used : ℕ) → length (last_line held used) ≤ 22
unfolding last_line
last_few held used = rw (length-append, length-append, length-append, length-append) (omega (arith, decimal_few held, decimal_few used))

-- " 9999"
depth_few : (file rows : List ℕ) → length (depth_text file rows) ≤ 5
unfolding depth_text
depth_few file rows = one_of (eqb (version file) 1) _ _ 5 (omega arith)
    (one_of (eqb (get_or rows 1 0) 1) _ _ 5 (one_of (eqb (get_or rows 3 0) 1) _ _ 5 (omega (arith, decimal_few (get_or rows 4 0 * 256 + get_or rows 5 0))) (omega arith)) (omega arith))

row_few : (file rows : List ℕ) → length (row_line file rows) ≤ 27
unfolding row_line
row_few file rows = rw (length-append, length-append, length-append, length-append, length-append)
    (omega (arith, decimal_few (get_or rows 0 0), action_few (get_or rows 1 0), decimal_few (get_or rows 2 0), answer_few (get_or rows 3 0), depth_few file rows))

rows_few : (file : List ℕ) (k : ℕ) (rows : List ℕ) → length (row_lines file k rows) ≤ 27 * k
rows_few file zero rows = omega arith
rows_few file (suc k) rows = rw (length-append (row_line file rows) (row_lines file k (drop (row_width file) rows))) (omega (arith, row_few file rows, rows_few file k (drop (row_width file) rows)))

-- ---- the whole
at_few : (file : List ℕ) → count_of file ≤ 4096 → length (printed_at file (ended file)) ≤ 65536
at_few file few =
    let p : Progress = ended file in
    rw (length-append, length-append, length-append)
    (omega (
      arith,
      first_few p.done (count_of file) p.refusal,
      rows_few file p.finished p.rows,
      finished_half file (count_of file),
      reach_fits file (count_of file),
      last_few (stored p.bench) p.bench.store.used,
    ))

printed_few : (file : List ℕ) → (file_refusal file ≡ 0 → count_of file ≤ 4096) → length (printed file) ≤ 65536
unfolding printed ite
printed_few file few = by (eqb (file_refusal file) 0) (eqb-true (file_refusal file) 0)
  where
    by : (c : Bool) → (c ≡ true → file_refusal file ≡ 0) → length (ite c (printed_at file (ended file)) (first_line 0 0 (file_refusal file))) ≤ 65536
    by true z = at_few file (few (z refl))
    by false z = omega (arith, first_few 0 0 (file_refusal file))

pub stands_whole : (file out : List ℕ) {out' : List ℕ} {r : ℕ} → (file_refusal file ≡ 0 → count_of file ≤ 4096) → page out' r ≡ put_all (page out 0) (printed file)
    → 65536 ≤ length out → (r ≡ length (printed file)) × (out' ≡ overlay (printed file) out)
stands_whole file out few e h =
    let whole : page _ _ ≡ page (printed file ++ drop (length (printed file)) out) (length (printed file)) = e ∙ put_fits (printed file) out (omega (arith, printed_few file few)) in
    (ap (λ (p : Page). p.at) whole, ap (λ (p : Page). p.bytes) whole)
