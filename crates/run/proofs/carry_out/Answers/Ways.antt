-- The record that the loop of `run::carry_out` is at and what it asks; and what is left to do where the ways of a record meet (Staged.antt), by each
-- way through the loop's body. Rests on crate answers by the laws of one record more.
use Rattle.frames.specs.View.{held}
use Rattle.std.proofs.Common.{◌+◌, ◌*◌, ◌/◌, ◌%◌, ◌<◌, List, ◌++◌, refl, ap, ◌∙◌, arith, get_or, length, false, None, Result, Ok, ◌≡◌, ℕ}
use Rattle.std.specs.Slice.Iter.{chunks_exact_rest, chunks_exact_size}
use Rattle.std.specs.Iterator.Adapters.{enumerate_source, enumerate_count}
use borrow.Author.Tests.{eq-eqb, ne_eqb}
use lib.Dec.{eqb}
use lib.ListN.{drop, length-set}
use Rattle.answers.specs.Reachable.{Unasked}
use Rattle.nodes.specs.Table.{table}
use Rattle.nodes.specs.Stores.{stores}
use Rattle.steps.specs.declared.Notes.{Notes}
use Rattle.steps.specs.declared.Decision.{Decision}
use Rattle.steps.specs.Decision.{Decides, finding}
use Rattle.definitions.specs.Places.{own, found, united}
use Rattle.steps.proofs.DecideLaws.{at_swap}
use Rattle.machine.specs.declared.Asked.{Asked}
use Rattle.machine.specs.declared.Asked.TheVariants.{Start}
use Rattle.definitions.specs.declared.Refusal.{Refusal}
use Rattle.definitions.specs.declared.Action.TheVariants.{Lookup}
use Rattle.definitions.specs.Bench.{stop, sight}
use Rattle.definitions.specs.Versions.{stop_of, width}
use Rattle.definitions.specs.Schedule.{count_of}
use Rattle.run.specs.Standing.{Sizes}
use Rattle.run.proofs.Reading.{before_end, left_on, Read, read_plain, read_wide}
use Rattle.run.proofs.Threads.{kept_sizes}
use Rattle.run.proofs.Changed.{Begun, begun_off, begun_on, place_on}
use Rattle.run.proofs.Chosen.{finding_one, finding_two, chosen_find, chosen_three, chosen_ten, chosen_count}
use Rattle.run.proofs.Turn.{Asking, seen, awake, start_on, refused_on}
use Rattle.run.proofs.Staged.{Staged, restaged, round_refused, round_step, round_start}
use Rattle.run.proofs.Settled.{settled}
use Rattle.run.proofs.carry_out.Goals.{Joined-v-eq1-2, Joined-asked, then-v-eq1-2, else-v-eq1-2, then-on, else-on, then-on-2, else-on-2}
use Rattle.run.proofs.carry_out.Goals.{in-Ok+in-Step+in-1, in-Ok+in-Step+in-2, in-Ok+in-Step+in-3, in-Ok+in-Step+in-4-to-9, in-Ok+in-Step+in-10-to-13}
use Rattle.run.proofs.carry_out.Goals.{in-Ok+in-Step+in-14-to-18, in-Ok+in-Step+in-19-to-25, in-Ok+in-Step+in-26-to-29, in-Ok+in-Step+in-30-to-39}
use Rattle.run.proofs.carry_out.Goals.{in-Ok+in-Step+in-40, in-Ok+in-Step+in-41-to-44, in-Ok+in-Step+in-45-to-59, in-Ok+in-Step+in_default}
use Rattle.run.proofs.carry_out.Goals.{in-Ok+in-Step+in_default-2, in-Ok+in-Start+in-Query, in-Ok+in-Start+in_default-action, in-Err}

-- what the code would read past the thread table's end
abbrev pub past : Notes
past = record {
  action = Lookup;
  station = 0;
  extra = 0;
  place = 0;
  route = 0;
  read = 0;
  base = 0;
  parent = 0;
  left = false;
  found = 0;
  neighbour = 0;
  main = 0;
  owner = false;
  grandparent = None;
  other = 0;
}

-- its number
abbrev pub number : Joined-v-eq1-2 → ℕ
number c = enumerate_count c.loop-k.k-iterator

-- its bytes are the first of those that were left
cut : (c : Joined-v-eq1-2) → chunks_exact_rest (enumerate_source c.loop-k.k-iterator) ≡ c.in-Some.bytes.now ++ chunks_exact_rest (enumerate_source c.next.new.self)
cut c = c.in-Some.ensures.steps.0.1.0

wide : (c : Joined-v-eq1-2) → length c.in-Some.bytes.now ≡ width c.args.schedule.now
wide c = c.in-Some.ensures.steps.0.1.1 ∙ c.loop-k.invariant.wide

-- then comes the next one
pub numbered : (c : Joined-v-eq1-2) → c.in-Some.k ≡ number c
numbered c = c.in-Some.ensures.steps.1

pub next_number : (c : Joined-v-eq1-2) → enumerate_count c.next.new.self ≡ number c + 1
next_number c = c.in-Some.ensures.steps.2

pub next_wide : (c : Joined-v-eq1-2) → chunks_exact_size (enumerate_source c.next.new.self) ≡ width c.args.schedule.now
next_wide c = c.in-Some.ensures.steps.0.0 ∙ c.loop-k.invariant.wide

pub next_rest : (c : Joined-v-eq1-2) → chunks_exact_rest (enumerate_source c.next.new.self) ≡ drop (3 + width c.args.schedule.now * enumerate_count c.next.new.self) c.args.schedule.now
next_rest c = rw (next_number c) (left_on c.args.schedule.now c.requires.0 (number c) c.loop-k.invariant.rest _ _ (cut c) (wide c))

-- a record is left
pub few : (c : Joined-v-eq1-2) → number c < count_of c.args.schedule.now
few c = before_end c.args.schedule.now c.requires.0 (number c) c.loop-k.invariant.rest _ _ (cut c) (wide c)

-- what it has, and what it asks
pub read : (c : Joined-v-eq1-2) → Read c.args.schedule.now (number c) (get_or c.in-Some.bytes.now 0 0) (get_or c.in-Some.bytes.now 1 0) c.if-v-eq1-2.extra c.if-v-eq1-2.asked
    (seen c.loop-k.threads (get_or c.in-Some.bytes.now 0 0) past).place
read c =
    let s = c.args.schedule.now in
    let i = c.loop-k.invariant in
    elim c.if-v-eq1-2.branch [
      | then-v-eq1-2 w ↦ read_plain s c.requires.0 (number c) i.rest _ _ (cut c) (wide c) _ c.version_of-v.ensures _ w.if-v-eq1-2.true w.extra-is (w.asked-is ∙ w.ask-asked.ensures)
      | else-v-eq1-2 w ↦ read_wide s c.requires.0 (number c) i.rest _ _ (cut c)
          (wide c) _ c.version_of-v.ensures _ w.if-v-eq1-2.false w.extra-is w.extra_of-extra.ensures (w.asked-is ∙ w.ask-asked-else-v-eq1-2.ensures)
    ]

-- what it asks of the run that stands so
pub asking : (c : Joined-v-eq1-2) →
    let l = c.loop-k in
    let s = c.args.schedule.now in
    let b = c.in-Some.bytes.now in
    Asking s (number c) (get_or b 0 0) (get_or b 1 0) c.if-v-eq1-2.extra (table l.nodes) l.depths (stores l.results) l.threads l.frames
    (held l.lent) l.count l.root l.used l.shown l.finished l.at c.args.rows.now l.rows c.if-v-eq1-2.asked past
asking c =
    let i = c.loop-k.invariant in
    record { four = i.four; each = i.each; reads = (read c).0; stands = i.stands; asks = (read c).1 }

-- the memory for queries, where it is lent
pub sizes : (c : Joined-v-eq1-2) → (Unasked c.args.schedule.now → ⊥)
    → Sizes 256 16 c.loop-k.results c.loop-k.lent
sizes c v = kept_sizes c.loop-k.invariant.kept c.args.schedule.now c.requires.1.1.1.1.0 v

-- a step is asked, or a start
pub is_asked : {a : Result Asked Refusal} {v w : Asked} → a ≡ Ok v → v ≡ w → a ≡ Ok w
is_asked e f = e ∙ ap Ok f

-- ---- where the ways of a record meet

abbrev pub Here : Joined-asked → Type 0
Here c =
    let l = c.loop-k in
    let s = c.args.schedule.now in
    let b = c.in-Some.bytes.now in
    Asking s (enumerate_count l.k-iterator) (get_or b 0 0) (get_or b 1 0) c.if-v-eq1-2.extra (table l.nodes) l.depths (stores l.results) l.threads l.frames
    (held l.lent) l.count l.root l.used l.shown l.finished l.at c.args.rows.now l.rows c.if-v-eq1-2.asked past

abbrev pub Left : Joined-asked → Type 0
Left c =
    let l = c.loop-k in
    let s = c.args.schedule.now in
    let m = c.match-asked in
    Staged s (enumerate_count l.k-iterator) (get_or c.in-Some.bytes.now 0 0) (table m.nodes) m.depths (stores l.results) m.threads m.frames (held l.lent)
    m.count m.root m.used l.shown l.finished l.at c.args.rows.now l.rows past l.depths m.job

-- 1 and 2 decide once the routes read are noted
abbrev Begins : Joined-asked → List Notes → Decision → Type 0
Begins c threads d =
    let l = c.loop-k in
    Begun (sight (table l.nodes) l.root l.used (stores l.results) l.shown (stop (stop_of c.args.schedule.now) l.count)) (get_or c.in-Some.bytes.now 0 0 / 16 % 4) past l.threads threads d

pub staged : (c : Joined-asked) → Here c → Left c
staged c q =
    let l = c.loop-k in
    let on = ap (λ v. eqb v 3) c.version_of-v.ensures in
    let x = get_or c.in-Some.bytes.now 0 0 in
    elim c.match-asked.branch [
      -- 1 and 2
      | in-Ok+in-Step+in-1 w ↦
          let z = is_asked w.in-Ok.is w.in-Step.is in
          let p : (seen l.threads x past).place ≡ 1 = omega (arith, w.in-1) in
          let r : (seen w.if-on.threads x past).place ≡ 1 =
          elim w.if-on.branch [
            | then-on v ↦ place_on (x / 16 % 4) past l.threads _ (omega (arith, q.four)) v.threads-is ∙ p
            | else-on v ↦ rw v.threads-is p
          ] in
          let i : Decides (seen w.if-on.threads x past) w.reach-d.result (finding (seen w.if-on.threads x past).place (eqb c.version_of-v.result 3) (table l.nodes) l.root) =
          finding_one _ _ _ r w.reach-d.ensures in
          let b : Begins c w.if-on.threads w.reach-d.result =
          elim w.if-on.branch [
            | then-on v ↦ rw (← c.version_of-v.ensures)
                (begun_on _ _ _ _ _ _ _ _ _ _ (awake q z) (omega (arith, p)) i (eq-eqb _ _ v.if-on.true) (omega (arith, q.four)) v.read_after.ensures v.threads-is)
            | else-on v ↦ rw (← c.version_of-v.ensures) (begun_off _ _ _ _ _ _ _ _ _ _ (awake q z) (omega (arith, p)) i (ne_eqb _ _ v.if-on.false) v.threads-is)
          ] in
          restaged (ap table w.nodes-is) w.depths-is w.threads-is w.frames-is w.count-is w.root-is w.used-is w.job-is
          (settled q z (omega (arith, p)) _ (chosen_find q _ z (omega (arith, p)) b i) _ _ _ _ _ w.settle.auto.depths w.settle.ensures)
      | in-Ok+in-Step+in-2 w ↦
          let z = is_asked w.in-Ok.is w.in-Step.is in
          let p : (seen l.threads x past).place ≡ 2 = omega (arith, w.in-2) in
          let r : (seen w.if-on-2.threads x past).place ≡ 2 =
          elim w.if-on-2.branch [
            | then-on-2 v ↦ place_on (x / 16 % 4) past l.threads _ (omega (arith, q.four)) v.threads-is ∙ p
            | else-on-2 v ↦ rw v.threads-is p
          ] in
          let i : Decides (seen w.if-on-2.threads x past) w.descend-d.result (finding (seen w.if-on-2.threads x past).place (eqb c.version_of-v.result 3) (table l.nodes) l.root) =
          finding_two _ _ _ r w.descend-d.ensures in
          let b : Begins c w.if-on-2.threads w.descend-d.result =
          elim w.if-on-2.branch [
            | then-on-2 v ↦ rw (← c.version_of-v.ensures)
                (begun_on _ _ _ _ _ _ _ _ _ _ (awake q z) (omega (arith, p)) i (eq-eqb _ _ v.if-on-2.true) (omega (arith, q.four)) v.read_after-then-on-2.ensures v.threads-is)
            | else-on-2 v ↦ rw (← c.version_of-v.ensures) (begun_off _ _ _ _ _ _ _ _ _ _ (awake q z) (omega (arith, p)) i (ne_eqb _ _ v.if-on-2.false) v.threads-is)
          ] in
          restaged (ap table w.nodes-is) w.depths-is w.threads-is w.frames-is w.count-is w.root-is w.used-is w.job-is
          (settled q z (omega (arith, p)) _ (chosen_find q _ z (omega (arith, p)) b i) _ _ _ _ _ w.settle-in-2.auto.depths w.settle-in-2.ensures)
      | in-Ok+in-Step+in-3 w ↦
          let z = is_asked w.in-Ok.is w.in-Step.is in
          restaged (ap table w.nodes-is) w.depths-is w.threads-is w.frames-is w.count-is w.root-is w.used-is w.job-is
          (settled q z (omega (arith, w.in-3)) _ (chosen_three q (omega (arith, w.in-3)) on w.examine-d.ensures) _ _ _ _ _ w.settle-in-3.auto.depths w.settle-in-3.ensures)
      | in-Ok+in-Step+in-4-to-9 w ↦
          let z = is_asked w.in-Ok.is w.in-Step.is in
          restaged (ap table w.nodes-is) w.depths-is w.threads-is w.frames-is w.count-is w.root-is w.used-is w.job-is
          (settled q z (omega (arith, w.in-4-to-9)) _ (chosen_count q z (omega (arith, w.in-4-to-9)) (omega (arith, w.in-4-to-9)) w.recount-count.ensures w.count-d.ensures) _ _ _ _ _
          w.settle-in-4-to-9.auto.depths w.settle-in-4-to-9.ensures)
      | in-Ok+in-Step+in-10-to-13 w ↦
          let z = is_asked w.in-Ok.is w.in-Step.is in
          restaged (ap table w.nodes-is) w.depths-is w.threads-is w.frames-is w.count-is w.root-is w.used-is w.job-is
          (settled q z (omega (arith, w.in-10-to-13)) _ (chosen_ten q (omega (arith, w.in-10-to-13)) on
          (at_swap own _ _ (omega (arith, w.in-10-to-13)) (omega (arith, w.in-10-to-13)) w.from.ensures w.own-d.ensures)) _ _ _ _ _ w.settle-in-10-to-13.auto.depths w.settle-in-10-to-13.ensures)
      | in-Ok+in-Step+in-14-to-18 w ↦
          let z = is_asked w.in-Ok.is w.in-Step.is in
          restaged (ap table w.nodes-is) w.depths-is w.threads-is w.frames-is w.count-is w.root-is w.used-is w.job-is
          (settled q z (omega (arith, w.in-14-to-18)) _ (chosen_ten q (omega (arith, w.in-14-to-18)) on w.unblock-d.ensures) _ _ _ _ _ w.settle-in-14-to-18.auto.depths w.settle-in-14-to-18.ensures)
      | in-Ok+in-Step+in-19-to-25 w ↦
          let z = is_asked w.in-Ok.is w.in-Step.is in
          restaged (ap table w.nodes-is) w.depths-is w.threads-is w.frames-is w.count-is w.root-is w.used-is w.job-is
          (settled q z (omega (arith, w.in-19-to-25)) _ (chosen_ten q (omega (arith, w.in-19-to-25)) on w.approach-d.ensures) _ _ _ _ _ w.settle-in-19-to-25.auto.depths w.settle-in-19-to-25.ensures)
      | in-Ok+in-Step+in-26-to-29 w ↦
          let z = is_asked w.in-Ok.is w.in-Step.is in
          restaged (ap table w.nodes-is) w.depths-is w.threads-is w.frames-is w.count-is w.root-is w.used-is w.job-is
          (settled q z (omega (arith, w.in-26-to-29)) _
          (chosen_ten q (omega (arith, w.in-26-to-29)) on (at_swap found _ _ (omega (arith, w.in-26-to-29)) (omega (arith, w.in-26-to-29)) w.from-in-26-to-29.ensures w.found-d.ensures)) _ _ _ _ _
          w.settle-in-26-to-29.auto.depths w.settle-in-26-to-29.ensures)
      | in-Ok+in-Step+in-30-to-39 w ↦
          let z = is_asked w.in-Ok.is w.in-Step.is in
          restaged (ap table w.nodes-is) w.depths-is w.threads-is w.frames-is w.count-is w.root-is w.used-is w.job-is
          (settled q z (omega (arith, w.in-30-to-39)) _ (chosen_ten q (omega (arith, w.in-30-to-39)) on w.prepare-d.ensures) _ _ _ _ _ w.settle-in-30-to-39.auto.depths w.settle-in-30-to-39.ensures)
      | in-Ok+in-Step+in-40 w ↦
          let z = is_asked w.in-Ok.is w.in-Step.is in
          restaged (ap table w.nodes-is) w.depths-is w.threads-is w.frames-is w.count-is w.root-is w.used-is w.job-is
          (settled q z (omega (arith, w.in-40)) _ (chosen_ten q (omega (arith, w.in-40)) on w.begin-d.ensures) _ _ _ _ _ w.settle-in-40.auto.depths w.settle-in-40.ensures)
      | in-Ok+in-Step+in-41-to-44 w ↦
          let z = is_asked w.in-Ok.is w.in-Step.is in
          restaged (ap table w.nodes-is) w.depths-is w.threads-is w.frames-is w.count-is w.root-is w.used-is w.job-is
          (settled q z (omega (arith, w.in-41-to-44)) _ (chosen_ten q (omega (arith, w.in-41-to-44)) on (at_swap united _ _ (omega (arith, w.in-41-to-44))
          (omega (arith, w.in-41-to-44)) w.from-in-41-to-44.ensures w.united-d.ensures)) _ _ _ _ _ w.settle-in-41-to-44.auto.depths w.settle-in-41-to-44.ensures)
      | in-Ok+in-Step+in-45-to-59 w ↦
          let z = is_asked w.in-Ok.is w.in-Step.is in
          restaged (ap table w.nodes-is) w.depths-is w.threads-is w.frames-is w.count-is w.root-is w.used-is w.job-is
          (settled q z (omega (arith, w.in-45-to-59)) _ (chosen_ten q (omega (arith, w.in-45-to-59)) on w.finish-d.ensures) _ _ _ _ _ w.settle-in-45-to-59.auto.depths w.settle-in-45-to-59.ensures)
      -- a place from 60 on
      | in-Ok+in-Step+in_default w ↦
          let z = is_asked w.in-Ok.is w.in-Step.is in
          restaged (ap table w.nodes-is) w.depths-is w.threads-is w.frames-is w.count-is w.root-is w.used-is w.job-is
          (record { four = q.four; each = q.each; same = refl; stage = round_step q z (omega (arith, w.in_default, awake q z)) })
      | in-Ok+in-Step+in_default-2 w ↦
          let z = is_asked w.in-Ok.is w.in-Step.is in
          restaged (ap table w.nodes-is) w.depths-is w.threads-is w.frames-is w.count-is w.root-is w.used-is w.job-is
          (record { four = q.four; each = q.each; same = refl; stage = round_step q z (omega (arith, w.in_default, awake q z)) })
      -- a query's start
      | in-Ok+in-Start+in-Query w ↦
          restaged (ap table w.nodes-is) w.depths-is w.threads-is w.frames-is w.count-is w.root-is w.used-is w.job-is (record {
            four = length-set l.threads _ _ ∙ q.four;
            each = length-set l.frames _ _ ∙ q.each;
            same = refl;
            stage = round_start q (is_asked w.in-Ok.is (w.in-Start.is ∙ ap Start w.in-Query.is)) (rw w.in-Query.is at w.start.ensures);
          })
      -- another start
      | in-Ok+in-Start+in_default-action w ↦
          restaged (ap table w.nodes-is) w.depths-is w.threads-is w.frames-is w.count-is w.root-is w.used-is w.job-is (record {
            four = length-set l.threads _ _ ∙ q.four;
            each = length-set l.frames _ _ ∙ q.each;
            same = refl;
            stage = start_on q (is_asked w.in-Ok.is w.in-Start.is) w.in_default-action.not-Query w.start.ensures;
          })
      -- a refusal
      | in-Err w ↦
          restaged (ap table w.nodes-is) w.depths-is w.threads-is w.frames-is w.count-is w.root-is w.used-is w.job-is
          (record { four = q.four; each = q.each; same = refl; stage = round_refused q refl refl _ (refused_on q w.in-Err.is) })
    ]
