use Rattle.std.proofs.Common.{◌≡◌, ◌++◌, drop}
use Rattle.unparser.specs.Place.{of_tokens}
use Rattle.unparser.proofs.token.Tokens.qualification.Given as goal

abbrev pub invariant-loop-name : goal.invariant-loop-name
invariant-loop-name l =
    l.self ++ of_tokens (drop l.name-index l.names) ≡ l.initial.self ++ of_tokens l.names
