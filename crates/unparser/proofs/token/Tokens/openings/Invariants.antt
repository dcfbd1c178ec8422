use Rattle.std.proofs.Common.{◌≡◌, ◌++◌, drop}
use Rattle.unparser.specs.File.{openings_tokens}
use Rattle.unparser.proofs.token.Tokens.openings.Given as goal

abbrev pub invariant-loop-opening : goal.invariant-loop-opening
invariant-loop-opening l =
    l.self ++ openings_tokens l.program l.before (drop l.opening-index l.openings)
    ≡ l.initial.self ++ openings_tokens l.program l.initial.before l.openings
