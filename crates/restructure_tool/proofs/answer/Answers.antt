use Rattle.std.proofs.Common.{rules}
use Rattle.restructure_asks.specs.declared.status.Status.TheVariants as status
use Rattle.restructure_tool.proofs.AnsweredLemmas.{answers-of}
use Rattle.restructure_tool.proofs.answer.Goals as goal

pub returns-in-Err-clause-words : goal.returns-in-Err-clause-words
returns-in-Err-clause-words g c =
    answers-of _ _ _ c.args.words _ _ c.note.result c.exit_code-in-Err.ensures (search rules)
