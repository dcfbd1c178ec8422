use Rattle.cobol_lex.proofs.LexemeLengthLemmas.{answer_takes}
use Rattle.cobol_lex.proofs.lexeme.next_lexeme.Goals as goal
use Rattle.std.proofs.Common.{rules}

pub returns-else-awaits_picture-clause-within : goal.returns-else-awaits_picture-clause-within
returns-else-awaits_picture-clause-within c =
    answer_takes c.args.awaits c.args.before c.args.line c.args.bytes.now c.plain_lexeme.result (search rules)
