-- `history::history` meets its contract. Assumes nothing.
use mathlib.Core.Path.{refl, ap, ◌∙◌}
use lib.ListN.{replicate}
use Rattle.definitions.proofs.Refusals.{refused, refused_as}
use Rattle.history.proofs.Whole.{told, records_fit, rows_fit, refusal_is, refused_report_lem, refused_buffer, ended_report, ended_buffer}
use Rattle.history.proofs.history.Goals as goal

pub returns-in-Err : goal.returns-in-Err
returns-in-Err c =
    let e = c.in-Err.ensures.refusal in (
      ap (λ n. record { refusal = c.from.result.refusal; length = n }) c.from.ensures.1 ∙ refused_report_lem _ c.args.events.now (c.from.ensures.0 ∙ e) (refused_as _ c.from.ensures.0),
      refused_buffer _ _ e (refused _),
    )

pub slice_bounds-ran-end : goal.slice_bounds-ran-end
slice_bounds-ran-end c = records_fit _ (replicate 8192 0) _ c.in_default.ensures.refusal refl c.in_default.ensures.plain refl c.run-r.ensures.0 c.records.ensures

pub slice_bounds-ran-end-2 : goal.slice_bounds-ran-end-2
slice_bounds-ran-end-2 c =
    rows_fit _ (replicate 8192 0) _ c.in_default.ensures.refusal refl c.in_default.ensures.plain refl _ c.run-r.ensures.0 c.run-r.ensures.1 c.as_chunks.ensures.front_len

pub invariant_of-ran : goal.invariant_of-ran
invariant_of-ran c =
    record {
      told = told _ (replicate 8192 0) _ c.in_default.ensures.refusal refl c.in_default.ensures.plain refl c.run-r.ensures.0 c.run-r.ensures.1
          c.records.ensures c.as_chunks.ensures.front c.as_chunks.ensures.front_len;
    }

pub returns : goal.returns
returns c =
    let e = c.in_default.ensures.refusal in
    let p = c.in_default.ensures.plain in
    let g = c.write-end.ensures in
    (ended_report _ _ e refl g (refusal_is _ (replicate 8192 0) _ e refl p refl c.run-r.ensures.0), ended_buffer _ _ e refl g)
