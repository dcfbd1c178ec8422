use Rattle.std.proofs.Common.{◌≡◌, ◌++◌, drop}
use Rattle.unparser.specs.File.{labels_tokens}
use Rattle.unparser.proofs.token.Tokens.labels.Given as goal

abbrev pub invariant-loop-number : goal.invariant-loop-number
invariant-loop-number l =
    l.self ++ labels_tokens l.program (drop l.number-index l.numbers)
    ≡ l.initial.self ++ labels_tokens l.program l.numbers
