use Rattle.program_points.specs.numbering.Kind.{never_first_of}
use Rattle.pending_returns.proofs.Limits.{is-summary, main-first, ranges-rise}
use Rattle.pending_returns.proofs.summary.summarise.Goals as goal

pub summary_of-requires-clause-main : goal.summary_of-requires-clause-main
summary_of-requires-clause-main c = main-first c.args.program.now c.in_ok-table.table c.in_ok-ranges.ranges.items c.in_ok-table.ensures.ranges c.in_ok-ranges.ensures

pub summary_of-requires-clause-rising : goal.summary_of-requires-clause-rising
summary_of-requires-clause-rising c = ranges-rise c.args.program.now c.in_ok-table.table c.in_ok-ranges.ranges.items c.in_ok-table.ensures.ranges c.in_ok-ranges.ensures

pub returns-clause-summary : goal.returns-clause-summary
returns-clause-summary c = is-summary (never_first_of c.args.program.now.files) c.args.program.now c.in_ok-table.table c.in_ok-summary.summary c.in_ok-table.ensures.table c.in_ok-table.ensures.starts c.in_ok-summary.ensures.summary
