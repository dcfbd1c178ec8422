use Rattle.std.proofs.Common.{◌≡◌, ◌++◌, drop, map}
use Rattle.unparser.specs.Token.{joined}
use Rattle.unparser.specs.Place.{sub_tokens}
use Rattle.unparser.proofs.token.Tokens.+place.Given as goal

abbrev pub invariant-subs-loop-sub : goal.invariant-subs-loop-sub
invariant-subs-loop-sub l =
    l.self ++ joined (map (sub_tokens l.program) (drop l.sub-index l.sub-items))
    ≡ l.initial.self ++ joined (map (sub_tokens l.program) l.sub-items)
