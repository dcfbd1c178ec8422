-- The parts of a program and the words on cells as they are written in a result, by the tests of
-- its names.
use Rattle.std.specs.Prelude.{ℕ, ◌≡◌, ◌+◌, true, List, length}
use Rattle.cob_tree.specs.declared.program.Program.{Program}
use Rattle.control_flow_theory.specs.language.Language.{Range}
use Rattle.control_flow_theory.specs.rendering.Procedures.{Writable}
use Rattle.cobol_grammar.specs.declared.expr_forms.side.ExprContent.TheVariants as makes
use Rattle.cobol_grammar.specs.declared.expr_forms.side.ValueKind.TheVariants as kinds
use Rattle.round_trip.specs.spelling.expr_spelling.Printable.{Judged, is_counting}
use Rattle.meanings.specs.statements.Does.{declared_in}
use Rattle.cobol_theory.specs.added_items.Own.{items}
use Rattle.round_trip.specs.declarations.added_entries.Items.{WholeItem, HasAdded, AreNew}
use Rattle.cobol_theory.specs.cell_items.Cell.{cell_place}
use Rattle.cobol_theory.specs.cell_serving.Table.{CellTable}
use Rattle.cobol_theory.specs.cobol_headline.Alike.{Writing, writable_of}
use Rattle.round_trip.specs.fitting_statements.Statement.{fit_stmt}
use Rattle.round_trip.specs.fitting_statements.own_fits.Own.{cond_fits, operand_fits, own_place, source_fits}
use Rattle.round_trip.specs.fitting_statements.fit_control.Fit.{without_jumps, fit_chooser}

-- a part of the program may be written where it passes, and a word on a cell where its table says
-- so
abbrev pub fit_kinds : Program → Writing → Writable
fit_kinds program writing = record (writable_of program writing) {
  simples = fit_stmt (without_jumps (source_fits program));
  conds = cond_fits program;
  choosers = λ chooser arms. fit_chooser (source_fits program) chooser;
  amounts = operand_fits program is_counting;
}

-- an item for a whole number, by its name alone
abbrev pub whole_item : Judged
whole_item = record { fit = true; kind = kinds.Number true; make = makes.Item; bare = true }

-- entries with names of their own follow the program's, each of which has an item; and the
-- item of each cell that has an item is such a number
pub record HasWords (program made : Program) (table : CellTable) : Type 0 where
  pub added_items : List WholeItem
  pub added : HasAdded program added_items made
  -- none has a name that the program has
  pub new : AreNew program added_items
  -- each entry is an item
  pub many : items (declared_in program) ≡ length program.entries
  -- the name of a cell's item stands for it
  pub cells : (range : Range) (cell : ℕ) → table.stands range cell ≡ true →
      own_place made (cell_place (length program.entries + table.item range cell)) ≡ whole_item
