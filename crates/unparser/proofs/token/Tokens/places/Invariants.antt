use Rattle.std.proofs.Common.{◌≡◌, ◌++◌, drop}
use Rattle.unparser.specs.Head.{places_tokens}
use Rattle.unparser.proofs.token.Tokens.places.Given as goal

abbrev pub invariant-loop-place : goal.invariant-loop-place
invariant-loop-place l =
    l.self ++ places_tokens l.program (drop l.place-index l.places)
    ≡ l.initial.self ++ places_tokens l.program l.places
