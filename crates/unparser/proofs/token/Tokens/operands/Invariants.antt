use Rattle.std.proofs.Common.{◌≡◌, ◌++◌, drop}
use Rattle.unparser.specs.Place.{operands_tokens}
use Rattle.unparser.proofs.token.Tokens.operands.Given as goal

abbrev pub invariant-loop-operand : goal.invariant-loop-operand
invariant-loop-operand l =
    l.self ++ operands_tokens l.program (drop l.operand-index l.operands)
    ≡ l.initial.self ++ operands_tokens l.program l.operands
