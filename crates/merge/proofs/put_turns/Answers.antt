-- `merge::put_turns` meets its contract. Assumes nothing.
use mathlib.Core.Path.{◌≡◌, refl, ◌∙◌}
use Prim.Native.Nat.{◌+◌, ◌-◌, ◌*◌, ◌≤◌, min}
use native.Mathlib.Omega.{arith}
use lib.ListN.{length, length-append}
use Rattle.std.specs.List.{zip}
use Rattle.std.proofs.lemmas.Iterator.{YieldsList-from_slice, YieldsList-from_zip}
use Rattle.std.proofs.lemmas.Iterator.Consumers.{YieldsList-from_enumerate, YieldsList-turn, YieldsList-end}
use Rattle.std.proofs.lemmas.List.FromFn.{length-enumerate_from}
use Rattle.std.proofs.lemmas.Slice.Zip.{length-zip}
use Rattle.definitions.specs.Schedule.{count_of}
use Rattle.definitions.specs.Merge.{needed}
use Rattle.merge.proofs.Cases.{Turn, turn_is, turns_none, turn_put}
use Rattle.merge.proofs.put_turns.Goals as goal

pub loop-k-init : goal.loop-k-init
loop-k-init c = turns_none _ _ _

pub loop-k-preserved : goal.loop-k-preserved
loop-k-preserved c =
    let four : 3 + 4 * c.in-Some.k + 4 - (3 + 4 * c.in-Some.k) ≡ 4 = omega arith in
    let room : needed c.args.first.now c.args.second.now ≤ length c.loop-k.out = omega (arith, c.requires.2, c.loop-k.auto.out) in
    let road = YieldsList-from_enumerate (YieldsList-from_zip (YieldsList-from_slice c.records.result.now (cc)) (YieldsList-from_slice c.records-2.result.now (cc))) (cc) in
    let h = YieldsList-turn road c.loop-k.yielded c.loop-k.k-iterator c.loop-k.yielded_by _ c.next.new.self (c.in-Some.k, (c.in-Some.one, c.in-Some.other)) refl c.in-Some.ensures.steps in
    let t : Turn c.records.result.now c.records-2.result.now (length c.loop-k.yielded) (c.in-Some.k, (c.in-Some.one.now, c.in-Some.other.now)) = turn_is _ _ _ _ h.0 h.1 in
    turn_put _ _ c.records.ensures c.records-2.ensures t _ _ _ _ c.loop-k.invariant c.copy_from_slice.ensures.after four (length-append c.loop-k.yielded _) room

pub returns : goal.returns
returns c =
    let road = YieldsList-from_enumerate (YieldsList-from_zip (YieldsList-from_slice c.records.result.now (cc)) (YieldsList-from_slice c.records-2.result.now (cc))) (cc) in
    let e = YieldsList-end road c.loop-k.yielded c.loop-k.k-iterator c.loop-k.yielded_by _ c.next.new.self refl c.in-None.ensures.steps in
    let n : length c.loop-k.yielded ≡ min (count_of c.args.first.now) (count_of c.args.second.now) = e.1 ∙ length-enumerate_from 0 (zip c.records.result.now c.records-2.result.now)
    ∙ length-zip c.records.result.now c.records-2.result.now ∙ rw (c.records.ensures.many, c.records-2.ensures.many) in
    rw n at c.loop-k.invariant
