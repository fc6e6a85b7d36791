-- `tally::tally` meets its contract. Assumes nothing.
use mathlib.Core.Path.{◌≡◌, sym, ap, ◌∙◌}
use mathlib.Core.Bool.{true, false}
use borrow.Author.Rules.{rules}
use lib.ListN.{length}
use Rattle.season.specs.Tally.{Tally, sum, file_tally, fits, numbers}
use Rattle.tally.proofs.Files.{fits_report, past_report, fits_numbers, past_numbers, words_fit, none_low, none_numbers}
use Rattle.tally.proofs.tally.Goals as goal
use Rattle.tally.proofs.tally.Goals.{After-count_file-report-2}

-- the file counted apart
apart : (c : After-count_file-report-2) → numbers c.count_file-report-2.new.tally ≡ file_tally c.args.schedule.now (length c.args.rows.now)
apart c = c.count_file-report-2.ensures.1.1 ∙ none_numbers (file_tally c.args.schedule.now (length c.args.rows.now))

pub count_file-report-requires : goal.count_file-report-requires
count_file-report-requires c = c.is_roomy.ensures c.if-is_roomy.true

pub returns-then-is_roomy : goal.returns-then-is_roomy
returns-then-is_roomy c =
    let m = c.count_file-report.new.tally in
    let (p, (q, e)) = c.count_file-report.ensures in
    let h = words_fit c.args.schedule.now (length c.args.rows.now) c.args.tally.now c.count_file-report.result p m c.words.ensures e in (
      fits_report c.args.schedule.now (length c.args.rows.now) c.args.tally.now c.count_file-report.result p h,
      (q, fits_numbers c.args.schedule.now (length c.args.rows.now) c.args.tally.now c.count_file-report.result p m (search rules) e h),
    )

pub count_file-report-requires-2 : goal.count_file-report-requires-2
count_file-report-requires-2 c = none_low

pub returns-in-Some : goal.returns-in-Some
returns-in-Some c =
    let m = c.in-Some.both in
    let (p, (q, _)) = c.count_file-report-2.ensures in
    let o = apart (goal.at.returns-in-Some c).After-count_file-report-2 in
    let e : numbers m ≡ sum (numbers c.args.tally.now) (file_tally c.args.schedule.now (length c.args.rows.now)) = c.in-Some.ensures.some.1 ∙ ap (sum (numbers c.args.tally.now)) o in
    let h : fits (sum (numbers c.args.tally.now) (file_tally c.args.schedule.now (length c.args.rows.now))) ≡ true =
    ap (λ (z : Tally). fits (sum (numbers c.args.tally.now) z)) (sym o) ∙ c.in-Some.ensures.some.0 in (
      fits_report c.args.schedule.now (length c.args.rows.now) c.args.tally.now c.count_file-report-2.result p h,
      (q, fits_numbers c.args.schedule.now (length c.args.rows.now) c.args.tally.now c.count_file-report-2.result p m (search rules) e h),
    )

pub returns-in-None : goal.returns-in-None
returns-in-None c =
    let (p, (q, _)) = c.count_file-report-2.ensures in
    let h : fits (sum (numbers c.args.tally.now) (file_tally c.args.schedule.now (length c.args.rows.now))) ≡ false =
    ap (λ (z : Tally). fits (sum (numbers c.args.tally.now) z)) (sym (apart (goal.at.returns-in-None c).After-count_file-report-2)) ∙ c.in-None.ensures.none in (
      past_report c.args.schedule.now (length c.args.rows.now) c.args.tally.now c.count_file-report-2.result p h,
      (q, past_numbers c.args.schedule.now (length c.args.rows.now) c.args.tally.now c.count_file-report-2.result p (search rules) h),
    )
