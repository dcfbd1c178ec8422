use Rattle.std.proofs.Common.{subst}
use Rattle.statement_lowering.specs.continuations.Paragraphs.{IsBegin}
use Rattle.statement_lowering.proofs.continuations.paragraphs.push_begin.Goals as goal

pub returns : goal.returns
returns c = λ next others is. (
  c.begin_of-begin.result,
  subst (λ n. IsBegin c.args.telling.now.layout.now c.args.sentence.now.stmts c.args.place n c.begin_of-begin.result) (c.top-next.ensures next others is) c.begin_of-begin.ensures,
  c.in_ok-stack.ensures,
)
