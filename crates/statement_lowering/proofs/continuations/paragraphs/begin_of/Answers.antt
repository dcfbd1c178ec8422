use Rattle.std.proofs.Common.{ap, ◌∙◌, subst}
use Rattle.lowering_labels.specs.points.JumpTarget.{IsJumpTarget}
use Rattle.statement_lowering.specs.continuations.Successors.{begun}
use Rattle.statement_lowering.proofs.continuations.paragraphs.begin_of.Goals as goal

pub returns : goal.returns
returns c = record {
  after = subst (λ l. IsJumpTarget c.args.telling.now.layout.now.places.items c.args.telling.now.layout.now.end l c.args.place c.args.next.now.after c.jump_target_of.result) c.as_slice-stmts.ensures c.jump_target_of.ensures;
  behind = c.begun.ensures ∙ ap (λ l. begun l c.args.place c.args.next.now.behind) c.as_slice-stmts.ensures;
}
