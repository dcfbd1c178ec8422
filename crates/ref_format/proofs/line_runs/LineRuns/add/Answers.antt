use Rattle.std.proofs.Common.{◌++◌, replicate, ap, ◌∙◌}
use Rattle.ref_format.proofs.TextLemmas.{run_added}
use Rattle.ref_format.proofs.line_runs.LineRuns.add.Goals as goal

pub returns-clause-ok : goal.returns-clause-ok
returns-clause-ok c =
    run_added c.self.inside.runs.items c.push.new.self.items (record { line = c.args.line; count = c.args.count }) c.in_ok-push.ensures.items
    ∙ ap (λ lines. lines ++ replicate c.args.count c.args.line) c.self.view_is
