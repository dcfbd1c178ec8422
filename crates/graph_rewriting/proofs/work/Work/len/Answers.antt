use Rattle.std.proofs.Common.{◌∙◌}
use Rattle.graph_rewriting.proofs.FindRows.{size_seen}
use Rattle.graph_rewriting.proofs.work.Work.len.Goals as goal

pub returns : goal.returns
returns c = c.len.ensures.len ∙ size_seen c.self.inside c.self.invariant c.args.self.now c.self.view_is
