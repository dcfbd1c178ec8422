use Rattle.std.proofs.Common.{◌≡◌, ◌++◌, drop}
use Rattle.unparser.specs.Arithmetic.{targets_tokens}
use Rattle.unparser.proofs.token.Tokens.targets.Given as goal

abbrev pub invariant-loop-target : goal.invariant-loop-target
invariant-loop-target l =
    l.self ++ targets_tokens l.program (drop l.target-index l.targets)
    ≡ l.initial.self ++ targets_tokens l.program l.targets
