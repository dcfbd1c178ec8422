-- Rests whose counted loops have forgotten how many turns are left, as flow sees them.
use Rattle.std.specs.Prelude.{ℕ, List, map}
use Rattle.cob_tree.specs.declared.program.Range as tree
use Rattle.control_flow_theory.specs.language.Language.{Range, Main, Part}
use Rattle.control_flow_theory.specs.language.Items.{Item}
use Rattle.program_points.specs.paths.Step.{Point, at, item_by}
use Rattle.program_points.specs.paths.Flow.{main_range, part}

-- the items, with their counted loops so
abbrev pub uncounted : List Item → List Item
uncounted items = map (item_by 0) items

-- the point of a paragraph and a rest
abbrev pub point_at : ℕ → List Item → Point
point_at number rest = at number (uncounted rest)

-- the range of the tree
abbrev pub range_of : Range → tree.Range
range_of Main = main_range
range_of (Part entry exit) = part entry exit
