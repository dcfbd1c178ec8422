use Rattle.std.proofs.Common.{length, ◌-◌, ◌≡◌, ◌≤◌, drop}
use Rattle.ref_format.specs.Placed.{lines_of}
use Rattle.cobol_lex.specs.Token.{tokens_of, tokens_from}
use Rattle.cobol_lex.proofs.TokenLemmas.{tokens_behind}
use Rattle.cobol_lex.proofs.tokens.Given as goal

abbrev pub invariant-loop-at : goal.invariant-loop-at
invariant-loop-at l = record {
  within : l.at ≤ length l.text;
  lines : l.lines ≡ lines_of (drop l.at l.text);
  tokens : tokens_behind l.tokens (tokens_from 0 l.awaits l.before (drop l.at l.text)) ≡ tokens_of l.text;
}

abbrev pub decreases-loop-at : goal.decreases-loop-at
decreases-loop-at l = length l.text - l.at
