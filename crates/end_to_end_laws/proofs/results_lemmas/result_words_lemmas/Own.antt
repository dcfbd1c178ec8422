-- What passes the tests of a program passes those of a program with added entries.
use Rattle.std.proofs.Common.{◌≡◌, ℕ, ◌<◌, Bool, true, false, ◌&&◌, if◌then◌else◌, nat_le, List, [], ◌∷◌, ◌++◌, length, Option, Some, None, refl, ap, ◌∙◌}
use Rattle.std.specs.Prelude.{◌==◌, slice_get}
use Rattle.std.proofs.lemmas.Bool.{and_parts}
use Rattle.std.proofs.lemmas.Option.{slice_get_within}
use Rattle.cob_tree.specs.declared.cond.Cond.{Cond}
use Rattle.cob_tree.specs.declared.entry.Entry.{Entry}
use Rattle.cob_tree.specs.declared.file.FileEntry.{FileEntry}
use Rattle.cob_tree.specs.declared.place.Expr.{Expr}
use Rattle.cob_tree.specs.declared.place.Operand.{Operand}
use Rattle.cob_tree.specs.declared.place.Place.{Place}
use Rattle.cob_tree.specs.declared.program.Program.{Program}
use Rattle.unparser.specs.Place.{item_name}
use Rattle.parser_combinators.specs.words.Word.{is_data_word}
use Rattle.program_facts.specs.term_counts.Condition.{cond_terms}
use Rattle.program_facts.specs.term_counts.Expression.{expr_terms}
use Rattle.cob_base.specs.Limit.{max_terms}
use Rattle.symbol_tables.specs.declared.data_names.name.Referent.{Referent}
use Rattle.symbol_tables.specs.declared.data_names.name.Referent.TheVariants as found
use Rattle.symbol_tables.specs.declared.data_names.name.ItemKind.TheVariants as item_kinds
use Rattle.symbol_tables.specs.data_names.Look.{look}
use Rattle.symbol_tables.specs.data_names.Names.{picture_kind}
use Rattle.symbol_tables.specs.data_names.Names as names
use Rattle.cobol_grammar.specs.declared.expr_forms.side.ExprContent.TheVariants as makes
use Rattle.cobol_grammar.specs.declared.expr_forms.side.ValueKind.{ValueKind}
use Rattle.cobol_grammar.specs.expr_forms.Fault.{item_kind, kind_of, is_condition}
use Rattle.cobol_grammar.specs.Name.{is_record, is_record_entry}
use Rattle.cobol_grammar.specs.Use.{is_of_file, record_kind}
use Rattle.round_trip.specs.spelling.expr_spelling.Printable.{Judged, is_counting, is_number, takes_result}
use Rattle.round_trip.specs.spelling.cond_spelling.Printable.{cond_fit}
use Rattle.program_facts.proofs.well_scoped_lemmas.Made.{both}
use Rattle.round_trip.specs.declarations.added_entries.Items.{WholeItem, whole_entries, HasAdded, AreNew}
use Rattle.round_trip.specs.declarations.added_entries.References.{AreJudgedAlike}
use Rattle.round_trip.proofs.declarations_lemmas.added_entries_lemmas.Behind.{group-added}
use Rattle.round_trip.proofs.declarations_lemmas.added_entries_lemmas.Rules.{get-added}
use Rattle.round_trip.proofs.declarations_lemmas.added_entries_lemmas.Found.{look-stays, file-stays, name-stays, own-word}
use Rattle.round_trip.proofs.declarations_lemmas.added_entries_lemmas.References.{names_stay}
use Rattle.round_trip.specs.fitting_statements.own_fits.Move.{may_move}
use Rattle.round_trip.specs.fitting_statements.own_fits.Room.{operand_has_room, place_has_room}
use Rattle.round_trip.specs.fitting_statements.own_fits.Own.{has_value, is_fit_as, may_compare, is_at, is_item, own_names, own_operand, own_place, own_expr, own_record, operand_fits, place_fits, expr_fits, cond_fits, moves, moves_record, moves_to_record, compares, is_named, file_fits, record_fits, own_fits, source_fits}
use Rattle.round_trip.specs.fitting_statements.fit_control.Fit.{without_jumps}
use Rattle.end_to_end_laws.specs.results.result_words.Carried.{ArePassed, PartsArePassed}

-- ---- the first record of a file

record-same : (entries : List Entry) (items : List WholeItem) (file : ℕ) → record_kind (entries ++ whole_entries items) file ≡ record_kind entries file
record-same [] [] file = refl
record-same [] (item ∷ items) file = record-same [] items file
record-same (entry ∷ entries) items file =
    ap (λ b. if is_of_file file entry.file then item_kind (if entry.level == 88 then item_kinds.Condition else (if b then item_kinds.Group else picture_kind entry.picture)) else record_kind (entries ++ whole_entries items) file)
    (group-added entry entries items)
    ∙ ap (λ k. if is_of_file file entry.file then item_kind (names.kind_of entry entries) else k) (record-same entries items file)

module _ (program made : Program) (items : List WholeItem) (has : HasAdded program items made) (new : AreNew program items) where
  alike : AreJudgedAlike program made
  alike = names_stay.judged program made items has new

  -- ---- parts of such a kind

  pub same-operand : (is_kind : ValueKind → Bool) (operand : Operand) → operand_fits program is_kind operand ≡ true → own_operand made operand ≡ own_operand program operand
  same-operand is_kind operand h =
      let j = own_operand program operand in
      let fit = (and_parts (is_fit_as is_kind j) (operand_has_room operand) h).0 in
      alike.operand operand (and_parts j.fit (is_kind j.kind) fit).0

  pub same-place : (is_kind : ValueKind → Bool) (place : Place) → place_fits program is_kind place ≡ true → own_place made place ≡ own_place program place
  same-place is_kind place h =
      let j = own_place program place in
      let fit = (and_parts (is_fit_as is_kind j) (place_has_room 0 place) h).0 in
      alike.place place (and_parts j.fit (is_kind j.kind) fit).0

  pub same-expr : (is_kind : ValueKind → Bool) (expr : Expr) → expr_fits program is_kind expr ≡ true → own_expr made expr ≡ own_expr program expr
  same-expr is_kind expr h =
      let j = own_expr program expr in
      let fit = (and_parts (is_fit_as is_kind j) (nat_le (expr_terms expr) max_terms) h).0 in
      alike.expr expr (and_parts j.fit (is_kind j.kind) fit).0

  pub operand-passed : (is_kind : ValueKind → Bool) (operand : Operand) → operand_fits program is_kind operand ≡ true → operand_fits made is_kind operand ≡ true
  operand-passed is_kind operand h = ap (λ j. is_fit_as is_kind j && operand_has_room operand) (same-operand is_kind operand h) ∙ h

  pub place-passed : (is_kind : ValueKind → Bool) (place : Place) → place_fits program is_kind place ≡ true → place_fits made is_kind place ≡ true
  place-passed is_kind place h = ap (λ j. is_fit_as is_kind j && place_has_room 0 place) (same-place is_kind place h) ∙ h

  pub expr-passed : (is_kind : ValueKind → Bool) (expr : Expr) → expr_fits program is_kind expr ≡ true → expr_fits made is_kind expr ≡ true
  expr-passed is_kind expr h = ap (λ j. is_fit_as is_kind j && nat_le (expr_terms expr) max_terms) (same-expr is_kind expr h) ∙ h

  pub cond-passed : (cond : Cond) → cond_fits program cond ≡ true → cond_fits made cond ≡ true
  cond-passed cond h =
      let parts = and_parts (cond_fit (own_names program) program cond) (nat_le (cond_terms cond) max_terms) h in
      both (alike.cond cond parts.0) parts.1

  -- ---- two parts

  moves-passed : (from : Operand) (place : Place) → operand_fits program has_value from ≡ true → place_fits program has_value place ≡ true → moves program from place ≡ true → moves made from place ≡ true
  moves-passed from place f p h =
      ap (λ (j : Judged). may_move j.make j.kind (own_place made place).kind) (same-operand has_value from f)
      ∙ ap (λ (j : Judged). may_move (own_operand program from).make (own_operand program from).kind j.kind) (same-place has_value place p) ∙ h

  into-passed : (file : ℕ) (place : Place) → place_fits program has_value place ≡ true → moves_record program file place ≡ true → moves_record made file place ≡ true
  into-passed file place p h =
      ap (λ list. may_move makes.Item (record_kind list file) (own_place made place).kind) has.entries
      ∙ ap (λ k. may_move makes.Item k (own_place made place).kind) (record-same program.entries items file)
      ∙ ap (λ (j : Judged). may_move makes.Item (record_kind program.entries file) j.kind) (same-place has_value place p) ∙ h

  compares-passed : (subject expr : Expr) → expr_fits program has_value subject ≡ true → expr_fits program has_value expr ≡ true → compares program subject expr ≡ true → compares made subject expr ≡ true
  compares-passed subject expr s e h =
      ap (λ j. may_compare j (own_expr made expr)) (same-expr has_value subject s)
      ∙ ap (λ j. may_compare (own_expr program subject) j) (same-expr has_value expr e) ∙ h

  -- ---- files and records

  file-passed : (file : ℕ) → file_fits program file ≡ true → file_fits made file ≡ true
  file-passed file h = ap (λ list. is_named made file (slice_get list file)) has.files ∙ named (slice_get program.files file) ∙ h
    where
      named : (found : Option FileEntry) → is_named made file found ≡ is_named program file found
      named None = refl
      named (Some entry) = ap (λ at. is_data_word entry.name && is_at file at) (file-stays program made items entry.name has)

  -- it is found, so its name is none of the added ones
  record RecordStays (entry : ℕ) : Type 0 where
    name : item_name made entry ≡ item_name program entry
    found : own_record made entry ≡ own_record program entry
    entry_stays : slice_get made.entries entry ≡ slice_get program.entries entry

  record-stays : (entry : ℕ) → record_fits program entry ≡ true → RecordStays entry
  record-stays entry h = by (own_record program entry) refl (and_parts (is_item entry (own_record program entry)) (is_record program.entries entry) behind).0
    where
      behind : (is_item entry (own_record program entry) && is_record program.entries entry) ≡ true
      behind = (and_parts (is_data_word (item_name program entry)) (is_item entry (own_record program entry) && is_record program.entries entry) h).1

      within : (found : Option Entry) → slice_get program.entries entry ≡ found → is_record_entry found ≡ true → entry < length program.entries
      within None e r = cc
      within (Some one) e r = slice_get_within program.entries entry one e

      by : (at : Referent) → own_record program entry ≡ at → is_item entry at ≡ true → RecordStays entry
      by found.Unknown e i = cc
      by found.Ambiguous e i = cc
      by (found.Item number kind dims) e i =
          let here = own-word program items (item_name program entry) [] number kind dims new e in
          let there = within (slice_get program.entries entry) refl (and_parts (is_item entry (own_record program entry)) (is_record program.entries entry) behind).1 in
          let name = name-stays program made items entry has there in
          record {
            name = name;
            found = ap (λ word. look (own_names made) word []) name ∙ look-stays program made items (item_name program entry) [] has here.0;
            entry_stays = ap (λ list. slice_get list entry) has.entries ∙ get-added program.entries (whole_entries items) entry there;
          }

  record-passed : (entry : ℕ) → record_fits program entry ≡ true → record_fits made entry ≡ true
  record-passed entry h =
      let stays = record-stays entry h in
      ap (λ word. is_data_word word && (is_item entry (own_record made entry) && is_record made.entries entry)) stays.name
      ∙ ap (λ at. is_data_word (item_name program entry) && (is_item entry at && is_record made.entries entry)) stays.found
      ∙ ap (λ one. is_data_word (item_name program entry) && (is_item entry (own_record program entry) && is_record_entry one)) stays.entry_stays
      ∙ h

  writes-passed : (entry : ℕ) (from : Operand) → record_fits program entry ≡ true → operand_fits program has_value from ≡ true → moves_to_record program entry from ≡ true → moves_to_record made entry from ≡ true
  writes-passed entry from e f h =
      let stays = record-stays entry e in
      ap (λ (j : Judged). may_move j.make j.kind (kind_of (own_record made entry))) (same-operand has_value from f)
      ∙ ap (λ at. may_move (own_operand program from).make (own_operand program from).kind (kind_of at)) stays.found ∙ h

  -- ---- all of them

  nothing : {P : Type 0} → false ≡ true → P
  nothing h = cc

  -- whatever passes as a label and a range in either
  pub parts-passed : (first_label label : ℕ → Bool) (first_range range : ℕ → ℕ → Bool) → PartsArePassed (own_fits program first_label first_range) (own_fits made label range)
  parts-passed first_label label first_range range = record {
    value = operand-passed has_value;
    number = operand-passed is_number;
    whole = operand-passed is_counting;
    turns = operand-passed is_counting;
    receives = place-passed has_value;
    number_place = place-passed is_number;
    result_place = place-passed takes_result;
    whole_place = place-passed is_counting;
    condition_place = place-passed is_condition;
    moves = moves-passed;
    into = into-passed;
    expr_value = expr-passed has_value;
    expr_number = expr-passed is_number;
    compares = compares-passed;
    cond = cond-passed;
    file = file-passed;
    entry_record = record-passed;
    writes = writes-passed;
  }

  pub own-passed : (label : ℕ → Bool) (range : ℕ → ℕ → Bool) → ArePassed (without_jumps (source_fits program)) (own_fits made label range)
  own-passed label range = record {
    parts = parts-passed (λ number. false) label (λ entry exit. false) range;
    label = λ to h. nothing h;
    range = λ entry exit h. nothing h;
  }
