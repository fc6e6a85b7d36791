-- `queries::query` meets its contract. Assumes nothing.
use Rattle.frames.proofs.Threads.{takes_top, top_room}
use Rattle.queries.proofs.Dispatch.{bare_takes, ends}
use Rattle.queries.proofs.query.Goals as goal

pub returns-in_default : goal.returns-in_default
returns-in_default c = bare_takes _ _ _ _ _ _ _ _ c.top.ensures.row c.in_default.not-Some c.bare.ensures

pub returns-then-th-eq82 : goal.returns-then-th-eq82
returns-then-th-eq82 c =
    ends _ _ _ _ _ _ _ c.told-frames c.args.owner.four c.args.owner.few c.top.ensures.row c.in-Some.is c.if-th-eq82.true c.store_number-store.ensures c.result_at-found.ensures c.finish.ensures

pub returns : goal.returns
returns c = takes_top _ _ _ _ _ _ _ _ _ _ _ c.told-frames c.args.owner.four c.args.owner.few c.top.ensures.row c.in-Some.is c.act.ensures

pub act-requires-clause-room : goal.act-requires-clause-room
act-requires-clause-room c = top_room _ _ _ _ _ _ c.told-frames c.args.owner.four c.args.owner.few c.top.ensures.row c.in-Some.is c.requires.room
