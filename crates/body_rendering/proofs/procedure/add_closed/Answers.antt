use Rattle.std.proofs.Common.{if◌then◌else◌, refl, ap, sym, ◌∙◌}
use Rattle.std.proofs.lemmas.Result.{on_ok_weaker}
use Rattle.control_flow_theory.specs.language.Language.{StopRun, none, Stmts}
use Rattle.control_flow_theory.specs.graph_rules.Shapes.{alone}
use Rattle.body_rendering.proofs.BodyRows.{none_added}
use Rattle.body_rendering.proofs.ProcedureRows.{closed_row}
use Rattle.body_rendering.proofs.procedure.add_closed.Goals as goal

pub returns-then-ends_run : goal.returns-then-ends_run
returns-then-ends_run c =
    on_ok_weaker c.add_stop.result
    (λ e. closed_row c.args.cells.now c.args.places.now c.args.is_main c.args.tree.now c.make_contiguous.result.now (alone StopRun) c.args.made.now c.add_body.new.made c.add_stop.new.made
    c.make_contiguous.ensures.value c.in_ok-add_body.ensures (ap (λ ends. (let s : Stmts = if ends then alone StopRun else none in s)) (sym c.ends_run.ensures ∙ c.if-ends_run.true)) e)
    c.add_stop.ensures

pub returns-else-ends_run : goal.returns-else-ends_run
returns-else-ends_run c =
    closed_row c.args.cells.now c.args.places.now c.args.is_main c.args.tree.now c.make_contiguous.result.now none c.args.made.now c.add_body.new.made c.add_body.new.made
    c.make_contiguous.ensures.value c.in_ok-add_body.ensures (ap (λ ends. (let s : Stmts = if ends then alone StopRun else none in s)) (sym c.ends_run.ensures ∙ c.if-ends_run.false))
    (none_added c.add_body.new.made none refl)
