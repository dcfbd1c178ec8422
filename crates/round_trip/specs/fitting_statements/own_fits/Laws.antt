-- What holds of the tests by a program's own names.
use Rattle.std.specs.Prelude.{ℕ, ◌≡◌, Bool, true}
use Rattle.cob_tree.specs.declared.program.Program.{Program}
use Rattle.symbol_tables.specs.declared.procedure_names.table.ProcedureTable.{ProcedureTable}
use Rattle.cobol_grammar.specs.Whole.{parts_of}
use Rattle.round_trip.specs.spelling.Kept.{kept_of}
use Rattle.round_trip.specs.spelling.Named.{IsLabel, IsRange}
use Rattle.round_trip.specs.fitting_statements.Spelling.{FitsSpell}
use Rattle.round_trip.specs.fitting_statements.own_fits.Own.{own_names, own_fits}

module _ (table : ProcedureTable) (program : Program) where
  -- what passes as a label or a range is one in this table
  pub record AreInTable (label : ℕ → Bool) (range : ℕ → ℕ → Bool) : Type 0 where
    -- a paragraph that passes has a label
    pub labels : (number : ℕ) → label number ≡ true →
        (exit : ℕ) × IsLabel table program number (number, exit)
    -- a range that passes has labels
    pub ranges : (entry exit : ℕ) → range entry exit ≡ true → IsRange table program entry exit

-- what passes a test spells what is asked for that use
abbrev pub OwnFitsSpell : Type 0
OwnFitsSpell =
    (program : Program) (table : ProcedureTable) (label : ℕ → Bool) (range : ℕ → ℕ → Bool) →
    AreInTable table program label range →
    FitsSpell (parts_of (own_names program) program.entries table)
    (kept_of (own_names program) program) program (own_fits program label range)
