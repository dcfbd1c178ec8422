use Rattle.std.proofs.Common.{◌≡◌, ◌+◌, ◌-◌, List, ◌∷◌, drop, length, reverse}
use Rattle.statement_lowering.specs.declared.continuations.paragraphs.Begin.{Begin}
use Rattle.statement_lowering.specs.continuations.Paragraphs.{AreBegins, sentence_sizes}
use Rattle.statement_lowering.proofs.continuations.paragraphs.begins_of.Given as goal

abbrev pub invariant-loop-number : goal.invariant-loop-number
invariant-loop-number l =
    (l.place + sentence_sizes (drop (length l.sentences - l.number) l.sentences) ≡ l.end)
    × ((begin : Begin) × (found : List Begin) × (l.begins.items ≡ reverse (begin ∷ found))
    × AreBegins l.telling.layout.now l.place (drop (length l.sentences - l.number) l.sentences) (begin ∷ found))
