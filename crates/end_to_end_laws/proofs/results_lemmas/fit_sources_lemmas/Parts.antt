-- What is read by a program's own names with no fault noted passes the tests.
use Rattle.std.proofs.Common.{◌≡◌, ℕ, Bool, true, List, Option, Some, None, refl, ap, sym, ◌∙◌, subst, arith}
use Rattle.std.proofs.lemmas.Bool.{eq-eqb, le-leb}
use Rattle.cob_tree.specs.declared.cond.Cond.{Cond}
use Rattle.cob_tree.specs.declared.entry.Entry.{Entry}
use Rattle.cob_tree.specs.declared.place.Operand.{Operand}
use Rattle.cob_tree.specs.declared.place.Operand.TheVariants as operands
use Rattle.cob_tree.specs.declared.place.Place.{Place}
use Rattle.cob_tree.specs.declared.program.Program.{Program}
use Rattle.program_facts.specs.term_counts.Condition.{cond_terms}
use Rattle.program_facts.specs.term_counts.Expression.{expr_terms}
use Rattle.symbol_tables.specs.data_names.Names.{Names}
use Rattle.symbol_tables.specs.declared.procedure_names.table.ProcedureTable.{ProcedureTable}
use Rattle.cobol_grammar.specs.declared.expr_forms.side.ExprContent.TheVariants as makes
use Rattle.cobol_grammar.specs.declared.expr_forms.side.Side.{Side}
use Rattle.cobol_grammar.specs.declared.expr_forms.side.ValueKind.{ValueKind}
use Rattle.cobol_grammar.specs.expr_forms.Fault.{is_condition, kind_of, value_fault, number_fault, result_fault, whole_fault, condition_fault}
use Rattle.cobol_grammar.specs.expr_forms.Side.{digits_side, expr_of}
use Rattle.cobol_grammar.specs.stmt_forms.Part.{Parts}
use Rattle.cobol_grammar.specs.declared.subject_kind.SubjectKind.{SubjectKind}
use Rattle.cobol_grammar.specs.Use.{entry_of, operand_of, place_of, record_kind}
use Rattle.cobol_grammar.specs.Whole.{parts_of}
use Rattle.program_facts.proofs.well_scoped_lemmas.Made.{both}
use Rattle.grammar_laws.proofs.form_results_lemmas.Giving.{hence}
use Rattle.round_trip.specs.printable.printable_tokens.Printable.{IsPrintable}
use Rattle.round_trip.specs.spelling.expr_spelling.Printable.{Judged, is_number, takes_result, is_counting, IsPrintableOperand}
use Rattle.round_trip.specs.spelling.expr_spelling.Spelled.{IsKnownAs, IsOperandSide}
use Rattle.round_trip.proofs.spelling_lemmas.expr_spelling_lemmas.Layers.{judged-Place}
use Rattle.round_trip.specs.spelling.stmt_spelling.Part.{Kept}
use Rattle.round_trip.specs.spelling.Kept.{kept_of}
use Rattle.round_trip.specs.spelling.Named.{IsNamedFile, IsNamedRecord}
use Rattle.round_trip.specs.procedures.readable_exprs.Laws.{SidesAreReadable}
use Rattle.round_trip.specs.procedures.readable_exprs.Readable.{IsReadablePlace, IsReadableOperand, IsReadableExpr, IsReadableCond}
use Rattle.round_trip.proofs.procedures_lemmas.readable_exprs_lemmas.Words.{is_there}
use Rattle.round_trip.proofs.procedures_lemmas.readable_exprs_lemmas.Known.{number-of, result-of, whole-of}
use Rattle.round_trip.proofs.procedures_lemmas.readable_exprs_lemmas.Tests.{value-known, condition-known}
use Rattle.round_trip.proofs.procedures_lemmas.readable_exprs_lemmas.Named.{finds_by}
use Rattle.round_trip.proofs.procedures_lemmas.readable_exprs_lemmas.Ends as ends
use Rattle.round_trip.proofs.procedures_lemmas.readable_exprs_lemmas.Expressions as expressions
use Rattle.round_trip.proofs.procedures_lemmas.readable_exprs_lemmas.Conditions as conditions
use Rattle.end_to_end_laws.specs.read_programs.readable_parts.Laws.{AreReadable}
use Rattle.end_to_end_laws.specs.read_programs.readable_parts.Read.{IsFitFile}
use Rattle.end_to_end_laws.proofs.read_programs_lemmas.readable_parts_lemmas.Read.{names_are_readable}
use Rattle.round_trip.specs.fitting_statements.Given.{NumberFits, OperandFits, PlaceFits, ExprFits, FileFits, PairsFit, PartsFit}
use Rattle.end_to_end_laws.specs.results.fit_sources.Laws.{ReadPartsPass}
use Rattle.round_trip.specs.fitting_statements.own_fits.Own.{own_names, has_value, is_at, is_item, is_named, own_operand, own_place, own_expr, own_record, operand_fits, cond_fits, file_fits, record_fits, source_fits}
use Rattle.end_to_end_laws.proofs.results_lemmas.fit_sources_lemmas.Room.{place-passes, operand-passes}
use Rattle.end_to_end_laws.proofs.results_lemmas.fit_sources_lemmas.There.{place-there, operand-there, expr-there}
use Rattle.end_to_end_laws.proofs.results_lemmas.fit_sources_lemmas.Uses.{move-known, compare-known}

-- ---- no fault

number-known : (side : Side) → is_there side.kind ≡ true → number_fault side ≡ None → is_number side.kind ≡ true
unfolding number_fault
number-known side t n = number-of side.leaf side.kind n t

result-known : (side : Side) → is_there side.kind ≡ true → result_fault side ≡ None → takes_result side.kind ≡ true
unfolding result_fault
result-known side t n = result-of side.leaf side.kind n t

-- what a side that stands for something is, by no fault
record IsFree (judged : Judged) (side : Side) : Type 0 where
  value : value_fault side ≡ None → has_value judged.kind ≡ true
  number : number_fault side ≡ None → is_number judged.kind ≡ true
  result : result_fault side ≡ None → takes_result judged.kind ≡ true
  whole : whole_fault side ≡ None → is_counting judged.kind ≡ true
  condition : condition_fault side ≡ None → is_condition judged.kind ≡ true

free-by : (judged : Judged) (side : Side) → IsKnownAs judged side → is_there judged.kind ≡ true → IsFree judged side
free-by judged side known there =
    let t = subst (λ k. is_there k ≡ true) (sym known.kind) there in
    record {
      value = λ n. subst (λ k. has_value k ≡ true) known.kind (value-known side n);
      number = λ n. subst (λ k. is_number k ≡ true) known.kind (number-known side t n);
      result = λ n. subst (λ k. takes_result k ≡ true) known.kind (result-known side t n);
      whole = λ n. subst (λ k. is_counting k ≡ true) known.kind (whole-of side.position side.kind n t);
      condition = λ n. subst (λ k. is_condition k ≡ true) known.kind (condition-known side t n);
    }

module _ (program : Program) where
  abbrev names : Names
  names = own_names program

  -- ---- names

  file-passes : (file : ℕ) → IsNamedFile names program file → file_fits program file ≡ true
  file-passes file h = ap (is_named program file) h.there ∙ both h.word (ap (is_at file) h.found ∙ eq-eqb file file refl)

  record-passes : (entry : ℕ) → IsNamedRecord names program program.entries entry → record_fits program entry ≡ true
  record-passes entry h = both h.word (both (ap (is_item entry) h.found ∙ eq-eqb entry entry refl) h.is)

  module _ (source : ProcedureTable) where
    abbrev entries : List Entry
    entries = program.entries

    abbrev parts : Parts Side SubjectKind
    parts = parts_of names entries source

    abbrev kept : Kept Side
    kept = kept_of names program

    -- ---- operands

    operand-free : (operand : Operand) (side : Side) → IsOperandSide names program operand side → IsPrintableOperand names program operand → IsFree (own_operand program operand) side
    operand-free operand side is fit = free-by (own_operand program operand) side is.known (operand-there names program operand fit)

    as-number : (side : Side) → (number_fault side ≡ None → IsReadableOperand names program 1 side) → (whole_fault side ≡ None → IsReadableOperand names program 1 side) → NumberFits parts kept (source_fits program) side
    as-number side number whole = record {
      number = λ n. by is_number (number n) ((operand-free (operand_of side.what) side (number n).kept (number n).fit).number n);
      whole = λ n. by is_counting (whole n) ((operand-free (operand_of side.what) side (whole n).kept (whole n).fit).whole n);
      turns = λ n. by is_counting (whole n) ((operand-free (operand_of side.what) side (whole n).kept (whole n).fit).whole n);
    }
      where
        by : (is_kind : ValueKind → Bool) → IsReadableOperand names program 1 side → is_kind (own_operand program (operand_of side.what)).kind ≡ true → operand_fits program is_kind (operand_of side.what) ≡ true
        by is_kind h k = both (both h.fit k) (operand-passes (operand_of side.what) (h.room 1 (omega arith)))

    operand-fits : (side : Side) → IsReadableOperand names program 1 side → OperandFits parts kept (source_fits program) side
    operand-fits side h = record {
      value = λ n. both (both h.fit ((operand-free (operand_of side.what) side h.kept h.fit).value n)) (operand-passes (operand_of side.what) (h.room 1 (omega arith)));
      as_number = as-number side (λ n. h) (λ n. h);
      side_kept = h.kept;
    }

    -- ---- places

    place-known : (place : Place) (side : Side) → IsOperandSide names program (operands.Place place) side → IsKnownAs (own_place program place) side
    place-known place side is = subst (λ j. IsKnownAs j side) (judged-Place names program place) is.known

    place-fits : (side : Side) → IsReadablePlace names program side → PlaceFits parts kept (source_fits program) side
    place-fits side h =
        let place = place_of side.what in
        let known = place-known place side h.kept in
        let free = free-by (own_place program place) side known (place-there names program place h.fit) in
        let room = place-passes 0 place h.room in
        record {
          receives = λ n. both (both h.fit (free.value n)) room;
          number = λ n. both (both h.fit (free.number n)) room;
          result = λ n. both (both h.fit (free.result n)) room;
          whole = λ n. both (both h.fit (free.whole n)) room;
          condition = λ n. both (both h.fit (free.condition n)) room;
          into = λ file n. move-known makes.Item makes.Item (record_kind entries file) (record_kind entries file) (own_place program place).kind side.kind side.position refl refl known.kind n;
          side_kept = h.kept;
          as_number = as-number side (h.number 1) (h.whole 1);
        }

    -- ---- expressions and conditions

    expr-fits : (side : Side) → IsReadableExpr names program side → ExprFits parts kept (source_fits program) side
    expr-fits side h =
        let expr = expr_of side.what in
        let free = free-by (own_expr program expr) side h.kept.known (expr-there names program expr h.fit) in
        let few = le-leb (expr_terms expr) 500 h.few in
        record {
          value = λ n. both (both h.fit (free.value n)) few;
          number = λ n. both (both h.fit (free.number n)) few;
          side_kept = h.kept;
        }

    cond-passes : (cond : Cond) → IsReadableCond names program cond → cond_fits program cond ≡ true
    cond-passes cond h = both h.fit (le-leb (cond_terms cond) 500 h.few)

    -- ---- one part beside another one

    pairs-fit : PairsFit parts kept (source_fits program)
    pairs-fit = record {
      moves = λ side other a b n.
          let to = place-known (place_of other.what) other b in
          move-known (own_operand program (operand_of side.what)).make side.make (own_operand program (operand_of side.what)).kind side.kind (own_place program (place_of other.what)).kind other.kind side.position
          a.known.make a.known.kind to.kind n;
      writes = λ side other a b n.
          move-known (own_operand program (operand_of side.what)).make side.make (own_operand program (operand_of side.what)).kind side.kind (kind_of (own_record program (entry_of other.what))) other.kind side.position
          a.known.make a.known.kind b.kind n;
      compares = λ side other a b n.
          compare-known (own_expr program (expr_of side.what)) (own_expr program (expr_of other.what)) side other a.known b.known n;
    }

    file-fits : (found : Option ℕ) → IsFitFile names program found → FileFits parts kept (source_fits program) found
    file-fits None h = h
    file-fits (Some file) h = file-passes file h

    module _ (sides : SidesAreReadable names program) (named : AreReadable program) where
      pub parts-pass : PartsFit parts kept (source_fits program) IsPrintable
      parts-pass = record {
        operand = hence operand-fits sides.operand;
        reference = hence place-fits sides.reference;
        reference_behind = λ name position. hence (λ side h kind e. as-number side ((h e).number 1) ((h e).whole 1)) (sides.reference_behind name position);
        digits_side = λ digits position kind. let h = sides.digits_side digits position in as-number (digits_side digits position) (λ n. h) (λ n. h);
        expr = hence expr-fits sides.expr;
        cond = hence (λ found h. cond-passes found.0 h) sides.cond;
        file = hence file-fits named.file;
        record_name = hence (λ side h. record { written = record-passes (entry_of side.what) h.named; side_kept = h.kept }) named.entry;
        pairs = pairs-fit;
        entry = λ name span e. refl;
        range = λ name last span end e k. refl;
      }

sides : (program : Program) → SidesAreReadable (own_names program) program
sides program =
    let names = own_names program in
    let finds = finds_by names program refl in
    record {
      reference = expressions.data_reference IsPrintable names program finds;
      reference_behind = λ first position. expressions.data_reference_behind IsPrintable names program finds first position;
      digits_side = λ digits position. ends.readable-digits names program digits position;
      operand = expressions.data_operand IsPrintable names program finds;
      expr = expressions.whole_expr IsPrintable names program finds;
      cond = conditions.whole_cond IsPrintable names program finds;
    }

pub read-pass : ReadPartsPass
read-pass program source = parts-pass program source (sides program) (names_are_readable program)
