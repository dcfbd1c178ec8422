use Rattle.std.proofs.Common.{sym, ap, ◌∙◌}
use Rattle.struct_form.specs.Stops.{is_stop}
use Rattle.struct_form.proofs.Stopping.{stops-by_last, not-stop}
use Rattle.struct_form.proofs.stops.ends_in_stop.Goals as goal

pub returns-in-StopRun : goal.returns-in-StopRun
returns-in-StopRun c = sym (ap is_stop c.in-StopRun.is) ∙ stops-by_last c.args.stmts.now c.in-Some.stmt.now c.in-Some.ensures.value

pub returns-in_default : goal.returns-in_default
returns-in_default c = not-stop c.in-Some.stmt.now c.in_default.not-StopRun ∙ stops-by_last c.args.stmts.now c.in-Some.stmt.now c.in-Some.ensures.value
