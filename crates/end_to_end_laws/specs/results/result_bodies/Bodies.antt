-- The procedures that a program is split into.
use Rattle.std.specs.Prelude.{ℕ, ◌≡◌, Bool, true, List, [], ◌∷◌}
use Rattle.cob_tree.specs.declared.program.Paragraph.{Paragraph}
use Rattle.cob_tree.specs.declared.program.Program.{Program}
use Rattle.cob_tree.specs.declared.program.Sentence.{Sentence}
use Rattle.control_flow_theory.specs.language.Control.{seen_stmts}
use Rattle.control_flow_theory.specs.language.Language.{Simple, Cond, Chooser, Amount, Stmts, Range}
use Rattle.control_flow_theory.specs.rendering.Rendering.{Naming, Procedure, place_of, required, then_stmts, closing, written_stmts}
use Rattle.control_flow_theory.specs.rendering.Procedures.{Writable}
use Rattle.control_flow_theory.specs.main_theorem.MainTheorem.{Plan}
use Rattle.pending_returns.specs.declared.facts.Summary.{Summary}
use Rattle.statement_builders.specs.arms.EmptyArms.{empties}
use Rattle.added_items.specs.item_table.Row.{CellRange}
use Rattle.added_items.specs.item_table.Tables.{table_of_cells}
use Rattle.cobol_theory.specs.cobol_headline.Alike.{Writing}
use Rattle.procedure_split.specs.Rows.{rows_of}
use Rattle.procedure_split.specs.Splitting.{IsSplit}
use Rattle.procedure_split.specs.Writing.{added_entries}

-- ---- how it is written

module _ (program made : Program) (summary : Summary) (split : IsSplit program summary made) where
  -- the ranges as they are shaped, with their cells
  abbrev pub split_rows : List CellRange
  split_rows = rows_of split.plan.order split.closed

  -- how the program is written by a plan for its ranges, on which neither the names of parts depend
  -- nor which words on cells may be written
  abbrev pub writing_by : Plan → Writing
  writing_by plan = record {
    returning = split.plan.returning;
    plan = plan;
    cells = added_entries program split.plan.order split.closed;
    table = table_of_cells split_rows;
    empty = empties (table_of_cells split_rows);
  }

-- ---- what may be written

-- each part that both take may be written, and each word on a cell that the first takes
pub record TakesBoth (own other kinds : Writable) : Type 0 where
  pub simples : (simple : Simple) → own.simples simple ≡ true → other.simples simple ≡ true →
      kinds.simples simple ≡ true
  pub conds : (cond : Cond) → own.conds cond ≡ true → other.conds cond ≡ true →
      kinds.conds cond ≡ true
  pub choosers : (chooser : Chooser) (arms : List Bool) → own.choosers chooser arms ≡ true →
      other.choosers chooser arms ≡ true → kinds.choosers chooser arms ≡ true
  pub amounts : (amount : Amount) → own.amounts amount ≡ true → other.amounts amount ≡ true →
      kinds.amounts amount ≡ true
  -- a cell that is set to a value
  pub sets : (range : Range) (cell value : ℕ) → own.sets range cell value ≡ true →
      kinds.sets range cell value ≡ true
  -- a cell that is compared with a value
  pub compares : (range : Range) (cell value : ℕ) → own.compares range cell value ≡ true →
      kinds.compares range cell value ≡ true
  -- a cell that holds the turns left of a TIMES
  pub counts : (range : Range) (cell : ℕ) → own.counts range cell ≡ true →
      kinds.counts range cell ≡ true
  -- a cell that is tested for being above zero
  pub aboves : (range : Range) (cell : ℕ) → own.aboves range cell ≡ true →
      kinds.aboves range cell ≡ true
  -- a cell that chooses among so many arms
  pub chooses : (range : Range) (cell arms : ℕ) → own.chooses range cell arms ≡ true →
      kinds.chooses range cell arms ≡ true

-- ---- paragraphs

-- what is written of a procedure
abbrev pub written_sentence : Naming → List Procedure → Procedure → Stmts
written_sentence naming procedures procedure =
    required naming.nothing
    (then_stmts (written_stmts naming (place_of procedures) procedure.range procedure.body)
    (closing procedure.range procedure.end))

-- the paragraph holds one sentence, whose control is that, whichever paragraph is the last one of
-- its section
pub record IsWrittenParagraph (naming : Naming) (procedures : List Procedure)
    (procedure : Procedure) (paragraph : Paragraph) : Type 0 where
  pub sentence : Sentence
  -- it has one sentence
  pub alone : paragraph.sentences ≡ sentence ∷ []
  pub last : ℕ
  -- whose control is that
  pub seen : seen_stmts last sentence.stmts ≡ written_sentence naming procedures procedure
