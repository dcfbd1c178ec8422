use Rattle.cobol_grammar.proofs.stmt_levels_lemmas.NestingLevels as nesting
use Rattle.cobol_grammar.proofs.stmt_levels.levels_only_add.Goals as goal

pub returns : goal.returns
returns g c = λ lawful m n h scope. (nesting.stmts lawful m n h scope).goes
