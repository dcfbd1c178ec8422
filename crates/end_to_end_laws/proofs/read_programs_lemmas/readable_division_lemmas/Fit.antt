-- The parts by which a program is read fit those by which what is printed of it is read again.
use Rattle.std.proofs.Common.{◌≡◌, ℕ, List, Option, Some, None, arith}
use Rattle.cob_tree.specs.declared.entry.Entry.{Entry}
use Rattle.cob_tree.specs.declared.program.Program.{Program}
use Rattle.symbol_tables.specs.data_names.Names.{Names}
use Rattle.symbol_tables.specs.declared.procedure_names.table.ProcedureTable.{ProcedureTable}
use Rattle.cobol_grammar.specs.declared.expr_forms.side.Side.{Side}
use Rattle.cobol_grammar.specs.expr_forms.Side.{digits_side}
use Rattle.cobol_grammar.specs.stmt_forms.Part.{Parts}
use Rattle.cobol_grammar.specs.declared.subject_kind.SubjectKind.{SubjectKind}
use Rattle.cobol_grammar.specs.Name.{procedure_of}
use Rattle.cobol_grammar.specs.Use.{operand_of, place_of}
use Rattle.cobol_grammar.specs.Whole.{parts_of}
use Rattle.grammar_laws.proofs.form_results_lemmas.Giving.{hence}
use Rattle.round_trip.specs.printable.printable_tokens.Printable.{IsPrintable}
use Rattle.round_trip.specs.spelling.stmt_spelling.Part.{Kept, SpellsEntry, SpellsRange}
use Rattle.round_trip.specs.spelling.Kept.{kept_of}
use Rattle.round_trip.proofs.spelling_lemmas.Operands as spelled_operands
use Rattle.round_trip.proofs.spelling_lemmas.Exprs as spelled_exprs
use Rattle.round_trip.proofs.spelling_lemmas.Conds as spelled_conds
use Rattle.round_trip.proofs.spelling_lemmas.Named as spelled_names
use Rattle.round_trip.proofs.spelling_lemmas.Turns as spelled_turns
use Rattle.round_trip.specs.procedures.readable_exprs.Laws.{SidesAreReadable}
use Rattle.round_trip.specs.procedures.readable_exprs.Readable.{IsReadablePlace, IsReadableOperand}
use Rattle.round_trip.specs.fitting_statements.own_fits.Own.{own_names}
use Rattle.end_to_end_laws.specs.read_programs.readable_parts.Laws.{AreReadable}
use Rattle.end_to_end_laws.specs.read_programs.readable_parts.Read.{IsFitFile}
use Rattle.round_trip.specs.procedures.Own.{AreLabelled}
use Rattle.round_trip.specs.procedures.readable_stmts.Fit.{FitsOperand, FitsPlace, FitsFile, PartsFit}
use Rattle.end_to_end_laws.proofs.read_programs_lemmas.readable_division_lemmas.Uses.{uses_fit}

module _ (program : Program) (source table : ProcedureTable) where
  abbrev names : Names
  names = own_names program

  abbrev entries : List Entry
  entries = program.entries

  -- by which the program was read
  abbrev read : Parts Side SubjectKind
  read = parts_of names entries source

  -- by which it is read again
  abbrev again : Parts Side SubjectKind
  again = parts_of names entries table

  abbrev kept : Kept Side
  kept = kept_of names program

  -- ---- operands

  operand-fits : (side : Side) → IsReadableOperand names program 1 side → FitsOperand read again kept program side
  operand-fits side h = record {
    spelled = spelled_operands.operand_spelled names entries table program (operand_of side.what) h.fit (h.room 1 (omega arith));
    counts = spelled_turns.turns_counted names entries table program (operand_of side.what) h.fit (h.room 0 (omega arith));
    side_kept = h.kept;
  }

  -- a number has no window, so it has room
  place-fits : (side : Side) → IsReadablePlace names program side → FitsPlace read again kept program side
  place-fits side h = record {
    spelled = spelled_operands.place_spelled names entries table program (place_of side.what) h.fit h.room;
    side_kept = h.kept;
    number = λ e. operand-fits side (h.number 1 e);
  }

  module _ (sides : SidesAreReadable names program) where
    module _ (named : AreReadable program) (labelled : AreLabelled source table program) where
      file-fits : (found : Option ℕ) → IsFitFile names program found → FitsFile read again kept program found
      file-fits None h = h
      file-fits (Some file) h = spelled_names.file_spelled names entries table program file h

      entry-of : (name : List ℕ) (span : ℕ × ℕ) → procedure_of source name ≡ Some span → SpellsEntry again kept program span.0
      entry-of name span e =
          let l = labelled.entry name span.0 span.1 e in
          (l.0, spelled_names.label_spelled names entries table program span.0 (span.0, l.0) l.1)

      range-of : (name last : List ℕ) (span end : ℕ × ℕ) → procedure_of source name ≡ Some span → procedure_of source last ≡ Some end → SpellsRange again kept program span.0 end.1
      range-of name last span end e k =
          spelled_names.range_spelled names entries table program span.0 end.1 (labelled.range name last span.0 span.1 end.0 end.1 e k)

      pub parts-fit : PartsFit read again kept program IsPrintable
      parts-fit = record {
        operand = hence operand-fits sides.operand;
        reference = hence place-fits sides.reference;
        reference_behind = λ name position. hence (λ side h kind e whole. operand-fits side ((h e).whole 1 whole)) (sides.reference_behind name position);
        digits_side = λ digits position kind. operand-fits (digits_side digits position) (sides.digits_side digits position);
        expr = hence (λ side h. record { spelled = spelled_exprs.expr_spelled names entries table program _ h.fit h.few; side_kept = h.kept }) sides.expr;
        cond = hence (λ found h. spelled_conds.cond_spelled names entries table program found.0 h.fit h.few) sides.cond;
        file = hence file-fits named.file;
        record_name = hence (λ side h. record { spelled = spelled_names.record_spelled names entries table program _ h.named; side_kept = h.kept }) named.entry;
        uses = uses_fit names entries source table program;
        entry = entry-of;
        range = range-of;
      }
