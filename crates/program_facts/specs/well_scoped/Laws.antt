-- What holds of named programs.
use Rattle.std.specs.Prelude.{◌≤◌, ◌^◌, length}
use Rattle.cob_tree.specs.declared.program.Program.{Program}
use Rattle.control_flow_theory.specs.language.OwnItems.{NamesOwnItems}
use Rattle.program_facts.specs.well_scoped.Named.{NamesItsOwn}

-- each item number in the statements of a program is below 2^31, with no more entries than that
abbrev pub NameOwnItems : Type 0
NameOwnItems =
    (program : Program) → length program.entries ≤ 2 ^ 31 → NamesItsOwn program →
    NamesOwnItems program
