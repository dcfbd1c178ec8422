use Rattle.graph_rewriting.proofs.FindRows.{source_seen, any_seen}
use Rattle.graph_rewriting.proofs.work.Work.source.Goals as goal

pub returns-in-Some : goal.returns-in-Some
returns-in-Some c =
    source_seen c.self.inside c.self.invariant c.args.self.now c.self.view_is c.in-Some.from c.args.label c.in-Some.ensures

pub returns-in-None : goal.returns-in-None
returns-in-None c =
    any_seen c.self.inside c.self.invariant c.args.self.now c.self.view_is c.any_source.result c.args.label c.any_source.ensures
