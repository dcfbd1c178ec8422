-- Tests of the parts of statements by the names that a program declares: what passes is read back
-- where it is printed, with no fault of its use.
use Rattle.std.specs.Prelude.{ℕ, ◌==◌, not, nat_le, Bool, true, false, ◌&&◌, [], Option, Some, None, slice_get}
use Rattle.cob_tree.specs.declared.cond.Cond.{Cond}
use Rattle.cob_tree.specs.declared.file.FileEntry.{FileEntry}
use Rattle.cob_tree.specs.declared.place.Expr.{Expr}
use Rattle.cob_tree.specs.declared.place.Operand.{Operand}
use Rattle.cob_tree.specs.declared.place.Place.{Place}
use Rattle.cob_tree.specs.declared.program.Program.{Program}
use Rattle.unparser.specs.Place.{item_name}
use Rattle.program_facts.specs.term_counts.Condition.{cond_terms}
use Rattle.program_facts.specs.term_counts.Expression.{expr_terms}
use Rattle.cob_base.specs.Limit.{max_terms}
use Rattle.parser_combinators.specs.words.Word.{is_data_word}
use Rattle.symbol_tables.specs.declared.data_names.name.Referent.{Referent}
use Rattle.symbol_tables.specs.declared.data_names.name.Referent.TheVariants as found
use Rattle.symbol_tables.specs.data_names.Look.{look_file}
use Rattle.symbol_tables.specs.data_names.Names.{Names, names_of}
use Rattle.cobol_grammar.specs.declared.expr_forms.side.ExprContent.TheVariants as makes
use Rattle.cobol_grammar.specs.declared.expr_forms.side.ValueKind.{ValueKind}
use Rattle.cobol_grammar.specs.expr_forms.Fault.{compared_as, is_condition, kind_of}
use Rattle.cobol_grammar.specs.Name.{is_record}
use Rattle.cobol_grammar.specs.Use.{record_kind}
use Rattle.round_trip.specs.spelling.expr_spelling.Printable.{Judged, is_counting, is_number, takes_result, judged_expr, judged_operand, judged_place, reference}
use Rattle.round_trip.specs.spelling.cond_spelling.Printable.{cond_fit, kinds_suit}
use Rattle.round_trip.specs.fitting_statements.Fits.{Fits}
use Rattle.round_trip.specs.fitting_statements.own_fits.Move.{may_move}
use Rattle.round_trip.specs.fitting_statements.own_fits.Room.{operand_has_room, place_has_room}

-- the name of a level 88 has none
abbrev pub has_value : ValueKind → Bool
has_value kind = not (is_condition kind)

-- the operand can be printed so that it is read back, and is of such a kind
abbrev pub is_fit_as : (ValueKind → Bool) → Judged → Bool
is_fit_as is_kind judged = judged.fit && is_kind judged.kind

-- a subject of EVALUATE, and what it is compared with
abbrev pub may_compare : (subject other : Judged) → Bool
may_compare subject other =
    kinds_suit (compared_as subject.kind) (compared_as other.kind) subject other

-- what was found is the one of this number
abbrev pub is_at : ℕ → Option ℕ → Bool
is_at number None = false
is_at number (Some other) = other == number

-- what was found is the item of this number
abbrev pub is_item : ℕ → Referent → Bool
is_item item (found.Item number kind dims) = number == item
is_item item _ = false

module _ (program : Program) where
  -- ---- what is known of parts, by the names of its files and entries

  -- the names of its files and entries
  abbrev pub own_names : Names
  own_names = names_of program.files program.entries

  -- what is known of an operand
  abbrev pub own_operand : Operand → Judged
  own_operand operand = judged_operand own_names program operand

  -- what is known of a place
  abbrev pub own_place : Place → Judged
  own_place place = judged_place own_names program place

  -- what is known of an expression
  abbrev pub own_expr : Expr → Judged
  own_expr expr = judged_expr own_names program expr

  -- what the name of a record stands for
  abbrev pub own_record : ℕ → Referent
  own_record entry = reference own_names program entry []

  -- ---- operands and places of such a kind

  -- an operand of such a kind, with room for its window
  abbrev pub operand_fits : (ValueKind → Bool) → Operand → Bool
  operand_fits is_kind operand =
      is_fit_as is_kind (own_operand operand) && operand_has_room operand

  -- a place of such a kind, with room for its window
  abbrev pub place_fits : (ValueKind → Bool) → Place → Bool
  place_fits is_kind place = is_fit_as is_kind (own_place place) && place_has_room 0 place

  -- an expression of such a kind, with no more terms than their limit
  abbrev pub expr_fits : (ValueKind → Bool) → Expr → Bool
  expr_fits is_kind expr =
      is_fit_as is_kind (own_expr expr) && nat_le (expr_terms expr) max_terms

  -- a condition with no more terms than their limit
  abbrev pub cond_fits : Cond → Bool
  cond_fits cond = cond_fit own_names program cond && nat_le (cond_terms cond) max_terms

  -- ---- two parts

  -- the operand may be moved to the place
  abbrev pub moves : Operand → Place → Bool
  moves from to =
      may_move (own_operand from).make (own_operand from).kind (own_place to).kind

  -- a file's first record may be moved to the place
  abbrev pub moves_record : ℕ → Place → Bool
  moves_record file to =
      may_move makes.Item (record_kind program.entries file) (own_place to).kind

  -- the operand may be moved to the record
  abbrev pub moves_to_record : ℕ → Operand → Bool
  moves_to_record entry from =
      may_move (own_operand from).make (own_operand from).kind (kind_of (own_record entry))

  -- the subject may be compared with the expression
  abbrev pub compares : Expr → Expr → Bool
  compares subject expr = may_compare (own_expr subject) (own_expr expr)

  -- ---- files and records, which are found by their names

  -- the file's name finds it
  abbrev pub is_named : ℕ → Option FileEntry → Bool
  is_named file None = false
  is_named file (Some entry) =
      is_data_word entry.name && is_at file (look_file own_names entry.name)

  -- the file of this number is found by its name
  abbrev pub file_fits : ℕ → Bool
  file_fits file = is_named file (slice_get program.files file)

  -- the record of this number is found by its name
  abbrev pub record_fits : ℕ → Bool
  record_fits entry =
      is_data_word (item_name program entry)
      && (is_item entry (own_record entry) && is_record program.entries entry)

  -- ---- all of them, where these pass as labels and ranges

  -- the tests by what the program declares
  abbrev pub own_fits : (label : ℕ → Bool) → (range : ℕ → ℕ → Bool) → Fits
  own_fits label range = record {
    value = operand_fits has_value;
    number = operand_fits is_number;
    whole = operand_fits is_counting;
    turns = operand_fits is_counting;
    receives = place_fits has_value;
    number_place = place_fits is_number;
    result_place = place_fits takes_result;
    whole_place = place_fits is_counting;
    condition_place = place_fits is_condition;
    moves = moves;
    into = moves_record;
    expr_value = expr_fits has_value;
    expr_number = expr_fits is_number;
    compares = compares;
    cond = cond_fits;
    file = file_fits;
    entry_record = record_fits;
    writes = moves_to_record;
    label = label;
    range = range;
  }

  -- the tests of the parts of a source, which each label and range passes, as in a program that is
  -- read
  abbrev pub source_fits : Fits
  source_fits = own_fits (λ number. true) (λ entry exit. true)
