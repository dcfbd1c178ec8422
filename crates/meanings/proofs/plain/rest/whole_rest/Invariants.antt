use Rattle.std.proofs.Common.{◌≡◌, ◌++◌, drop}
use Rattle.std.specs.List.{flat_map}
use Rattle.meanings.specs.plain.Stepped.{sentence_items}
use Rattle.meanings.proofs.plain.rest.whole_rest.Given as goal

abbrev pub invariant-loop-sentence : goal.invariant-loop-sentence
invariant-loop-sentence l = l.rest ++ flat_map sentence_items (drop l.sentence-index l.sentence-items) ≡ flat_map sentence_items l.sentence-items
