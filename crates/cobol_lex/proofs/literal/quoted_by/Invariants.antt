use Rattle.std.proofs.Common.{length, ◌-◌, ◌≡◌, drop}
use Rattle.cobol_lex.specs.Literal.{quoted_by}
use Rattle.cobol_lex.proofs.LiteralLemmas.{quoted_behind}
use Rattle.cobol_lex.proofs.literal.quoted_by.Given as goal

abbrev pub invariant-loop-at : goal.invariant-loop-at
invariant-loop-at l = quoted_behind l.value l.at (quoted_by l.mark (drop l.at l.rest)) ≡ quoted_by l.mark l.rest

abbrev pub decreases-loop-at : goal.decreases-loop-at
decreases-loop-at l = length l.rest - l.at
