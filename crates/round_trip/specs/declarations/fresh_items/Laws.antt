-- What holds of items with fresh names.
use Rattle.std.specs.Prelude.{◌+◌, ◌^◌, ◌<◌, List, length}
use Rattle.cob_tree.specs.declared.program.Program.{Program}
use Rattle.control_flow_theory.specs.graph_rules.Families.{Added}
use Rattle.out_names.specs.Words.{program_words, table_of}
use Rattle.round_trip.specs.declarations.added_entries.Items.{WholeItem, AreSized, AreTitled, AreDifferent, AreNew}
use Rattle.round_trip.specs.declarations.fresh_items.Fresh.{AreShort, fresh_items}

-- these items can follow the program's entries
pub record MayBeAdded (program : Program) (items : List WholeItem) : Type 0 where
  pub sized : AreSized items
  pub titled : AreTitled items
  pub short : AreShort items
  pub different : AreDifferent items
  -- none has a name that the program has
  pub new : AreNew program items

-- where a program has fewer words than memory has bytes
abbrev pub FreshItemsMayBeAdded : Type 0
FreshItemsMayBeAdded =
    (program : Program) (kinds : List Added) →
    length (program_words program) + length kinds < 2 ^ 58 →
    MayBeAdded program (fresh_items (table_of (program_words program)) kinds)
