use Rattle.std.proofs.Common.{◌≡◌, ◌<◌, ◌^◌, ◌++◌, drop}
use Rattle.lowering_labels.specs.points.Layout.{places_from, end_from}
use Rattle.lowering_labels.proofs.points.layout.layout_of.Given as goal

abbrev pub invariant-loop-paragraph : goal.invariant-loop-paragraph
invariant-loop-paragraph l =
    (l.places.items ++ places_from l.place (drop l.paragraph-index l.paragraph-items) ≡ places_from 0 l.paragraph-items)
    × (end_from l.place (drop l.paragraph-index l.paragraph-items) ≡ end_from 0 l.paragraph-items)
    × (end_from 0 l.paragraph-items < 2 ^ 31)
