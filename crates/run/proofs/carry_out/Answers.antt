-- `run::carry_out` meets its contract: each way round the loop, by what its record leaves to do (Ways.antt), and the loop's ends. Assumes nothing.
mod Ways
use Rattle.frames.specs.View.{held}
use Rattle.std.proofs.Common.{◌+◌, ◌-◌, ◌*◌, ◌/◌, ◌%◌, ◌<◌, refl, sym, length, ap, ◌∙◌, arith, get_or, set, ◌≡◌, ℕ}
use Rattle.std.specs.Slice.Iter.{chunks_exact_rest, chunks_exact_size}
use Rattle.std.specs.Iterator.Adapters.{enumerate_source, enumerate_count}
use mathlib.Core.Bool.{not}
use lib.Dec.{eqb}
use lib.ListN.{take, drop, length-set, length-drop}
use native.Mathlib.Nat.{mul-zero}
use lib.Seq.{get_or-set_same, take-length}
use Rattle.steps.specs.declared.Notes.{Notes}
use Rattle.steps.specs.Decision.{thread}
use Rattle.definitions.specs.Places.{to_base}
use Rattle.definitions.specs.Versions.{width}
use Rattle.definitions.specs.Run.{after}
use Rattle.passing.proofs.Tallied.{own_most}
use Rattle.run.proofs.Rows.{finished_few}
use Rattle.run.proofs.Reading.{wide_plain, wide_more, at_end}
use Rattle.run.proofs.Threads.{all_kept, kept_deep, kept_on}
use Rattle.run.proofs.Noting.{placed}
use Rattle.run.proofs.Turn.{seen, count_few, count_some_lem}
use Rattle.run.proofs.Lending.{lent_to}
use Rattle.run.proofs.Staged.{going, finding_set}
use Rattle.run.proofs.Ended.{none_yet, all_done, stopped}
use Rattle.run.proofs.Counting.{none_counting, most, one_more, row_needs, row_action, row_steps, answering, column_so, column_found, going_on, ending_on, all_counted}
use Rattle.run.proofs.carry_out.Goals as goal
use Rattle.run.proofs.carry_out.Goals.{Joined-v-eq1-2, then-v-eq1, else-v-eq1}
use Rattle.run.proofs.carry_out.Answers.Ways.{number, numbered, next_number, next_wide, next_rest, few, asking, sizes, past, staged}

pub loop-k-init : goal.loop-k-init
loop-k-init c =
    let s = c.args.schedule.now in
    let gives = c.into_iter-k-iterator.ensures.into_iter_gives in
    let none : enumerate_count c.into_iter-k-iterator.result ≡ 0 = ap enumerate_count gives ∙ c.enumerate-k-items.ensures.count in
    let all = ap enumerate_source gives ∙ c.enumerate-k-items.ensures.source in
    let broad : c.if-v-eq1.width ≡ width s =
    elim c.if-v-eq1.branch [
      | then-v-eq1 w ↦ wide_plain s c.version_of-v.ensures w.if-v-eq1.true w.width-is
      | else-v-eq1 w ↦ wide_more s c.version_of-v.ensures w.if-v-eq1.false w.width-is
    ] in
    let whole : take (length s - 3) (drop 3 s) ≡ drop 3 s = ap (λ (n : ℕ). take n (drop 3 s)) (sym (length-drop 3 s)) ∙ take-length (drop 3 s) in
    let size = ap chunks_exact_size all ∙ c.chunks_exact.ensures.size ∙ broad in
    record {
      few = omega (arith, none);
      wide = size;
      rest = ap chunks_exact_rest all ∙ c.chunks_exact.ensures.rest ∙ (whole ∙ rw (none, mul-zero (width s)) refl);
      kept = all_kept;
      four = refl;
      each = refl;
      stands = rw none (none_yet _ _ (held c.args.lent.now) c.requires.1.0 c.requires.1.1.0 (λ _. c.requires.1.1.1.0.blank) c.idle_notes-threads.ensures);
      counting = rw none (none_counting s c.args.tally.now);
    }

pub overflow_add-own : goal.overflow_add-own
overflow_add-own c =
    let i = c.loop-k.invariant in
    let t = get_or c.in-Some.bytes.now 0 0 / 16 % 4 in
    omega (arith, i.counting.own t (omega arith), own_most c.args.schedule.now (enumerate_count c.loop-k.k-iterator) t, i.few, c.requires.0.few)

pub count_asked-requires : goal.count_asked-requires
count_asked-requires c =
    let j = (goal.at.count_asked-requires c).Joined-v-eq1-2 in
    (omega arith, λ w. one_more (most c.loop-k.invariant.counting (omega (arith, few j, c.requires.0.few)) w c.requires.1.1.1.1.1))

pub count_row-requires : goal.count_row-requires
count_row-requires c =
    let h = goal.at.count_row-requires c in
    let j = h.Joined-v-eq1-2 in
    let r = rw c.in-Row.is at (staged h.Joined-asked (asking j)).stage in
    row_needs (asking j) c.loop-k.invariant.counting _ _ c.count_asked.ensures c.count_asked.auto.tally r.said
    (omega (arith, few j, c.requires.0.few)) c.requires.1.1.1.1.1 r.acts

pub count_row-requires-in-Ok-Found : goal.count_row-requires-in-Ok-Found
count_row-requires-in-Ok-Found c =
    let h = goal.at.count_row-requires-in-Ok-Found c in
    let j = h.Joined-v-eq1-2 in
    let r = rw c.in-Task.is at (staged h.Joined-asked (asking j)).stage in
    let finds = finding_set _ _ _ _ _ _ _ _ _ _ _ _ _ _ _ _ _ _ _ _ _ _ {c = c.in-Ok-Found.counts} {d = c.in-Ok-Found.set} c.in-Ok-Found.is
    (rw c.in-Ok-Found.is at c.in-Ok-Found.field-0-is) (r.on _ _ _ _ _ c.round-left.auto.depths c.round-left.ensures) in
    row_needs (asking j) c.loop-k.invariant.counting _ _ c.count_asked.ensures c.count_asked.auto.tally finds.said
    (omega (arith, few j, c.requires.0.few)) c.requires.1.1.1.1.1 finds.acts

pub recount-count-requires : goal.recount-count-requires
recount-count-requires c =
    let q = asking (goal.at.recount-count-requires c).Joined-v-eq1-2 in
    (omega (arith, count_few q), count_some_lem q)

pub overflow_add-finished : goal.overflow_add-finished
overflow_add-finished c =
    let j = (goal.at.overflow_add-finished c).Joined-v-eq1-2 in
    omega (arith, c.loop-k.invariant.stands.finished, finished_few c.args.schedule.now (number j), few j, c.requires.0.few)

pub overflow_add-finished-in-Ok-Found : goal.overflow_add-finished-in-Ok-Found
overflow_add-finished-in-Ok-Found c =
    let j = (goal.at.overflow_add-finished-in-Ok-Found c).Joined-v-eq1-2 in
    omega (arith, c.loop-k.invariant.stands.finished, finished_few c.args.schedule.now (number j), few j, c.requires.0.few)

pub round-left-requires : goal.round-left-requires
round-left-requires c =
    let h = goal.at.round-left-requires c in
    let j = h.Joined-v-eq1-2 in
    let r = rw c.in-Task.is at (staged h.Joined-asked (asking j)).stage in
    record { thread = omega arith; frames = r.frames; memory = λ u. sizes j (r.wide u); able = record { more = r.more; room = r.room } }

pub returns-in-Err-left : goal.returns-in-Err-left
returns-in-Err-left c =
    let h = goal.at.returns-in-Err-left c in
    let j = h.Joined-v-eq1-2 in
    let r = rw c.in-Task.is at (staged h.Joined-asked (asking j)).stage in
    let e = rw c.in-Err-left.is at (r.on _ _ _ _ _ c.round-left.auto.depths c.round-left.ensures) in
    let counts = ending_on (asking j) c.loop-k.invariant.counting _ _ c.count_asked.ensures c.count_asked.auto.tally e (few j) in
    rw (numbered j) (let o = stopped _ _ _ (few j) e in (o.0, (o.1, counts)))

pub loop-k-preserved-in-Nothing : goal.loop-k-preserved-in-Nothing
loop-k-preserved-in-Nothing c =
    let h = goal.at.loop-k-preserved-in-Nothing c in
    let j = h.Joined-v-eq1-2 in
    let g = staged h.Joined-asked (asking j) in
    record {
      few = omega (arith, next_number j, few j);
      wide = next_wide j;
      rest = next_rest j;
      kept = kept_deep c.loop-k.invariant.kept g.same;
      four = g.four;
      each = g.each;
      stands = rw (next_number j) (rw c.in-Nothing.is at g.stage);
      counting = rw (next_number j) (going_on (asking j) c.loop-k.invariant.counting _ _ c.count_asked.ensures c.count_asked.auto.tally (rw c.in-Nothing.is at g.stage));
    }

pub loop-k-preserved-in-Row : goal.loop-k-preserved-in-Row
loop-k-preserved-in-Row c =
    let h = goal.at.loop-k-preserved-in-Row c in
    let j = h.Joined-v-eq1-2 in
    let g = staged h.Joined-asked (asking j) in
    let r = rw c.in-Row.is at g.stage in
    record {
      few = omega (arith, next_number j, few j);
      wide = next_wide j;
      rest = next_rest j;
      kept = kept_deep c.loop-k.invariant.kept g.same;
      four = length-set c.match-asked.threads _ _ ∙ g.four;
      each = length-set c.match-asked.frames _ _ ∙ g.each;
      stands = rw (next_number j) (r.on _ c.idle_notes.ensures (omega arith) c.version_of-v.ensures
          (λ z. lent_to _ (number j) (few j) (g.same ∙ c.loop-k.invariant.kept.depths) (c.requires.1.1.1.0.whole z)) c.put_row-at.ensures);
      counting = rw (next_number j) (answering (asking j) c.loop-k.invariant.counting _ _ c.count_asked.ensures c.count_asked.auto.tally r.said _ _ _
          (row_action (asking j) c.loop-k.invariant.counting _ _ c.count_asked.ensures c.count_asked.auto.tally r.said r.acts)
          (row_steps (asking j) c.loop-k.invariant.counting _ _ c.count_asked.ensures c.count_asked.auto.tally r.said)
          (rw c.from-in-Row.ensures (column_so c.in-Row.answer)) c.count_row.auto.tally c.count_row.ensures);
    }

pub loop-k-preserved-in-Ok-Goes : goal.loop-k-preserved-in-Ok-Goes
loop-k-preserved-in-Ok-Goes c =
    let h = goal.at.loop-k-preserved-in-Ok-Goes c in
    let j = h.Joined-v-eq1-2 in
    let g = staged h.Joined-asked (asking j) in
    let r = rw c.in-Task.is at g.stage in
    let goes = going _ _ _ _ _ _ _ _ _ _ _ _ _ _ _ _ _ _ _ _ _ _ {c = c.in-Ok-Goes.counts} {p = c.in-Ok-Goes.to} {b = c.in-Ok-Goes.base}
    {m = c.in-Ok-Goes.depth} c.in-Ok-Goes.is (rw c.in-Ok-Goes.is at c.in-Ok-Goes.field-0-is) (r.on _ _ _ _ _ c.round-left.auto.depths c.round-left.ensures) in
    let o = c.round-left.auto in
    let threads = c.match-asked.threads in
    let x = get_or c.in-Some.bytes.now 0 0 in
    let first = placed c.in-Ok-Goes.to (seen threads x past) in
    let kept = get_or-set_same threads (x / 16 % 4) first past (omega (arith, g.four)) in
    record {
      few = omega (arith, next_number j, few j);
      wide = next_wide j;
      rest = next_rest j;
      kept = kept_on c.loop-k.invariant.kept (record { depths = o.depths ∙ g.same; results = o.results; frames = o.lent });
      four = length-set (set threads (x / 16 % 4) first) _ _ ∙ (length-set threads (x / 16 % 4) first ∙ g.four);
      each = length-set c.match-asked.frames _ _ ∙ g.each;
      stands = rw (next_number j) (goes.on first (λ fs. ap (λ (v : Notes). to_base v.place c.in-Ok-Goes.base (thread v fs)) kept));
      counting = rw (next_number j) (going_on (asking j) c.loop-k.invariant.counting _ _ c.count_asked.ensures c.count_asked.auto.tally
          (goes.on first (λ fs. ap (λ (v : Notes). to_base v.place c.in-Ok-Goes.base (thread v fs)) kept)));
    }

pub loop-k-preserved : goal.loop-k-preserved
loop-k-preserved c =
    let h = goal.at.loop-k-preserved c in
    let j = h.Joined-v-eq1-2 in
    let g = staged h.Joined-asked (asking j) in
    let r = rw c.in-Task.is at g.stage in
    let finds = finding_set _ _ _ _ _ _ _ _ _ _ _ _ _ _ _ _ _ _ _ _ _ _ {c = c.in-Ok-Found.counts} {d = c.in-Ok-Found.set} c.in-Ok-Found.is
    (rw c.in-Ok-Found.is at c.in-Ok-Found.field-0-is) (r.on _ _ _ _ _ c.round-left.auto.depths c.round-left.ensures) in
    let o = c.round-left.auto in
    record {
      few = omega (arith, next_number j, few j);
      wide = next_wide j;
      rest = next_rest j;
      kept = kept_on c.loop-k.invariant.kept (record { depths = o.depths ∙ g.same; results = o.results; frames = o.lent });
      four = length-set c.match-asked.threads _ _ ∙ g.four;
      each = length-set c.match-asked.frames _ _ ∙ g.each;
      stands = rw (next_number j) (finds.on _ c.idle_notes-in-Ok-Found.ensures (omega arith) c.version_of-v.ensures c.put_found-at.ensures);
      counting = rw (next_number j) (answering (asking j) c.loop-k.invariant.counting _ _ c.count_asked.ensures c.count_asked.auto.tally finds.said _ _ _
          (row_action (asking j) c.loop-k.invariant.counting _ _ c.count_asked.ensures c.count_asked.auto.tally finds.said finds.acts)
          (row_steps (asking j) c.loop-k.invariant.counting _ _ c.count_asked.ensures c.count_asked.auto.tally finds.said)
          (column_found (not (eqb c.in-Ok-Found.set 0))) c.count_row-in-Ok-Found.auto.tally c.count_row-in-Ok-Found.ensures);
    }

pub returns : goal.returns
returns c =
    let s = c.args.schedule.now in
    let i = c.loop-k.invariant in
    let all : enumerate_count c.loop-k.k-iterator ≡ c.count_of.result = at_end s c.requires.0 _ i.rest i.few (omega (arith, c.in-None.ensures.steps.0.1.0, i.wide)) ∙ sym c.count_of.ensures in
    let o = all_done _ _ _ (ap (after _) c.count_of.ensures) (rw all at i.stands) in
    (o.0, (o.1, all_counted s (all ∙ c.count_of.ensures) i.counting))
