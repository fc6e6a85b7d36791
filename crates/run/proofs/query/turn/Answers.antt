-- `run::query::turn` meets its contract. Assumes nothing.
use Rattle.run.proofs.Left.{turn_ranged, turn_on, turn_blocked, turn_back, turn_found, turn_short}
use Rattle.run.proofs.query.turn.Goals as goal

pub write-counts-requires : goal.write-counts-requires
write-counts-requires c = turn_ranged _ _ _ _ _ _ _ _ _ c.args.th c.query-outcome.ensures c.requires.place c.in_ok-r.was c.in-Onward.is

pub returns-in-Onward : goal.returns-in-Onward
returns-in-Onward c = turn_on _ _ _ _ _ _ _ _ _ _ c.query-outcome.ensures c.requires.place _ c.in_ok-r.was c.in-Onward.is c.frames_after-left.ensures c.write-counts.ensures

pub returns-in-Blocked : goal.returns-in-Blocked
returns-in-Blocked c = turn_blocked _ _ _ _ _ _ _ _ _ _ c.query-outcome.ensures c.requires.place _ c.in_ok-r.was c.frames_after-left.ensures c.in-Blocked.is

pub returns-in-Back : goal.returns-in-Back
returns-in-Back c = turn_back _ _ _ _ _ _ _ _ _ _ c.query-outcome.ensures c.requires.place _ c.in_ok-r.was c.frames_after-left.ensures c.in-Back.is

pub returns-in-Found : goal.returns-in-Found
returns-in-Found c = turn_found _ _ _ _ _ _ _ _ _ _ c.query-outcome.ensures c.requires.place _ c.in_ok-r.was c.in-Found.is

pub returns-in_err-r : goal.returns-in_err-r
returns-in_err-r c = turn_short _ _ _ _ _ _ _ _ _ c.args.th c.query-outcome.ensures c.requires.place _ c.in_err-r.was _ c.from_residual.ensures.1
