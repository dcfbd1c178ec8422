-- What added entries change.
use Rattle.std.specs.Prelude.{◌≡◌, List, ◌++◌}
use Rattle.cob_tree.specs.declared.entry.Entry.{Entry}
use Rattle.cob_tree.specs.declared.program.Program.{Program}
use Rattle.round_trip.specs.spelling.data_spelling.Sections.{Fd}
use Rattle.round_trip.specs.declarations.printed_declarations.FileRules.{KeepsRules}
use Rattle.round_trip.specs.declarations.Named.{IsTitled}
use Rattle.round_trip.specs.declarations.added_entries.Items.{WholeItem, whole_entries, HasAdded, AreSized, AreTitled}

-- the rules are kept, with the new entries at the end of working storage, and names may be names
pub record AddedEntriesKeepRules : Type 0 where
  -- the rules are kept
  pub rules : (program made : Program) (items : List WholeItem) (fds : List Fd)
      (storage : List Entry) → HasAdded program items made → AreSized items →
      KeepsRules program fds storage → KeepsRules made fds (storage ++ whole_entries items)
  -- names may be names
  pub titles : (program made : Program) (items : List WholeItem) →
      HasAdded program items made → made.name ≡ program.name → AreTitled items →
      IsTitled program → IsTitled made
