use Rattle.std.proofs.Common.{ap, sym, ◌∙◌}
use Rattle.control_flow_theory.specs.language.Control.{seen}
use Rattle.control_flow_theory.specs.semantics.Graph as graph
use Rattle.branch_tree.specs.Tree.{seen_body}
use Rattle.branch_tree.proofs.TreeRows.{seen_stop, seen_dead}
use Rattle.lowering_labels.specs.loop_nodes.Loops.{before}
use Rattle.statement_lowering.specs.declared.escape_free.StmtKind.TheVariants as kind
use Rattle.statement_lowering.specs.LowerList.{flow_facts_by}
use Rattle.statement_lowering.proofs.Bodies.{ends_by}
use Rattle.statement_lowering.proofs.EscapeFreeRows.{built_by, stands_on, stands_dead}
use Rattle.statement_lowering.proofs.escape_free.run_whole.Goals as goal

pub returns-in-Nothing : goal.returns-in-Nothing
returns-in-Nothing c = λ last place_of place leaving after behind.
    let stmt = seen last c.args.stmt.now in
    ap (before (seen_body c.args.body.now.items))
    (built_by (flow_facts_by c.args.telling.now) place_of stmt place leaving after behind c.kind_of.result kind.Nothing
    (c.requires.whole last) (c.kind_of.ensures c.args.telling.now.files.now c.args.telling.now.returning.now last) c.in-Nothing.is)

pub returns-in-Stops : goal.returns-in-Stops
returns-in-Stops c = λ last place_of place leaving after behind.
    let stmt = seen last c.args.stmt.now in
    ends_by (seen_body c.args.body.now.items) _ graph.Stop _
    (built_by (flow_facts_by c.args.telling.now) place_of stmt place leaving after behind c.kind_of.result kind.Stops
    (c.requires.whole last) (c.kind_of.ensures c.args.telling.now.files.now c.args.telling.now.returning.now last) c.in-Stops.is)
    seen_stop

pub returns-then-completes : goal.returns-then-completes
returns-then-completes c = λ last place_of place leaving after behind.
    stands_on (flow_facts_by c.args.telling.now) place_of (seen last c.args.stmt.now) place leaving after c.kind_of.result
    (seen_body c.args.body.now.items) (seen_body c.push_cut.new.body.items) behind
    (c.requires.whole last) (c.kind_of.ensures c.args.telling.now.files.now c.args.telling.now.returning.now last) c.in-Stands.is
    (sym (c.requires.completes last) ∙ c.if-completes.true) (c.in_ok-push_cut-in-Stands.ensures last)

pub returns-else-completes : goal.returns-else-completes
returns-else-completes c = λ last place_of place leaving after behind.
    stands_dead (flow_facts_by c.args.telling.now) place_of (seen last c.args.stmt.now) place leaving after c.kind_of.result
    (seen_body c.args.body.now.items) (seen_body c.push_cut.new.body.items) behind
    (c.requires.whole last) (c.kind_of.ensures c.args.telling.now.files.now c.args.telling.now.returning.now last) c.in-Stands.is
    (sym (c.requires.completes last) ∙ c.if-completes.false) (c.in_ok-push_cut-in-Stands.ensures last)
    ∙ ap (graph.tree (seen_body c.push_cut.new.body.items)) (sym seen_dead)
