use Rattle.std.proofs.Common.{arith}
use Rattle.statement_lowering.proofs.continuations_lemmas.ProgramContinuations.{section_on}
use Rattle.statement_lowering.proofs.continuations.paragraphs.section_end.Goals as goal

pub returns-then-number-last : goal.returns-then-number-last
returns-then-number-last c = section_on c.args.paragraphs.now c.args.number c.args.last c.requires.there c.requires.before (omega arith) (omega arith)
