use Rattle.std.proofs.Common.{◌≡◌, ◌++◌, drop}
use Rattle.unparser.specs.File.{files_tokens}
use Rattle.unparser.proofs.token.Tokens.files.Given as goal

abbrev pub invariant-loop-number : goal.invariant-loop-number
invariant-loop-number l =
    l.self ++ files_tokens l.program (drop l.number-index l.numbers)
    ≡ l.initial.self ++ files_tokens l.program l.numbers
