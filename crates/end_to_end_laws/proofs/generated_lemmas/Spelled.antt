-- The paragraphs of generated programs are spelled, over the procedures that they tell themselves.
use Rattle.std.proofs.Common.{◌≡◌, ℕ, ◌+◌, ◌≤◌, true, not, ◌&&◌, List, [], ◌∷◌, length, Option, Some, None, ap, sym, ◌∙◌, arith}
use Rattle.cob_tree.specs.declared.cond.Rel.TheVariants.{Less}
use Rattle.cob_tree.specs.declared.entry.Entry.{Entry}
use Rattle.cob_tree.specs.declared.place.Expr.TheOpen.{Operand-F}
use Rattle.cob_tree.specs.declared.place.Expr.TheVariants.{Leaf}
use Rattle.cob_tree.specs.declared.place.Operand.{Operand, out-roll-Operand}
use Rattle.cob_tree.specs.declared.place.Operand.TheVariants as operands
use Rattle.cob_tree.specs.declared.place.Place.{out-roll-Place}
use Rattle.cob_tree.specs.declared.program.Paragraph.{Paragraph}
use Rattle.cob_tree.specs.declared.program.Program.{Program}
use Rattle.cob_words.specs.Lists.{reserved_words, left_out_words}
use Rattle.cobol_print.specs.Unit.{all_tokens}
use Rattle.cobol_print.specs.units.Division.{paragraph_units}
use Rattle.parser_combinators.specs.words.Word.{is_free, is_data_word}
use Rattle.symbol_tables.specs.data_names.Grouping.{groups_of, has_items}
use Rattle.symbol_tables.specs.data_names.Look.{are_within}
use Rattle.symbol_tables.specs.data_names.Names.{Names, names_of, names_from}
use Rattle.program_facts.specs.term_counts.Condition.{cond_terms}
use Rattle.program_facts.specs.term_counts.Expression.{if_any, window_most, place_most, operand_most, most_by, expr_terms, operand_terms}
use Rattle.symbol_tables.specs.declared.procedure_names.table.ProcedureTable.{ProcedureTable}
use Rattle.cobol_grammar.specs.declared.expr_forms.side.ExprContent.TheVariants as makes
use Rattle.cobol_grammar.specs.declared.expr_forms.side.Side.{Side}
use Rattle.cobol_grammar.specs.declared.expr_forms.side.ValueKind.TheVariants as values
use Rattle.cobol_grammar.specs.expr_forms.Fault.{is_condition}
use Rattle.cobol_grammar.specs.stmt_forms.Part.{Parts}
use Rattle.cobol_grammar.specs.declared.subject_kind.SubjectKind.{SubjectKind}
use Rattle.cobol_grammar.specs.Whole.{parts_of}
use Rattle.round_trip.specs.spelling.expr_spelling.Printable.{Judged, literal, is_number, judged_place, judged_operand, judged_expr}
use Rattle.round_trip.specs.spelling.expr_spelling.Spelled.{PlaceHasRoom, OperandHasRoom}
use Rattle.round_trip.proofs.spelling_lemmas.expr_spelling_lemmas.Layers.{judged-Place, judged-Number, judged-Leaf, judged-place, terms-Leaf, terms-Place, terms-Number, terms-place}
use Rattle.round_trip.specs.spelling.cond_spelling.Printable.{is_value, are_comparable, IsPrintableCond}
use Rattle.round_trip.proofs.spelling_lemmas.cond_spelling_lemmas.Layers.{fit-Relation, terms-Relation}
use Rattle.round_trip.specs.spelling.stmt_spelling.Division.{SpellsDivision}
use Rattle.round_trip.specs.spelling.Kept.{kept_of}
use Rattle.round_trip.proofs.spelling_lemmas.Conds.{cond_spelled}
use Rattle.round_trip.proofs.spelling_lemmas.Headers.{header_spelled}
use Rattle.round_trip.proofs.spelling_lemmas.Named.{label_spelled}
use Rattle.round_trip.proofs.spelling_lemmas.Operands.{operand_spelled, place_spelled}
use Rattle.round_trip.proofs.spelling_lemmas.Room.{place_room, operand_room}
use Rattle.round_trip.proofs.spelling_lemmas.Uses.{operand_free}
use Rattle.round_trip.specs.procedures.Own as own
use Rattle.round_trip.specs.procedures.Told.{behind_section, own_procedures}
use Rattle.round_trip.proofs.procedures_lemmas.Labels as labels
use Rattle.round_trip.specs.procedures.readable_stmts.Body as body
use Rattle.round_trip.proofs.procedures_lemmas.readable_stmts_lemmas.Headed as headed
use Rattle.program_gen.specs.Generated.{counter, whole, generated}
use Rattle.end_to_end_laws.proofs.generated_lemmas.Bodies.{is_below, PartsAreSpelled, bodies}
use Rattle.end_to_end_laws.proofs.generated_lemmas.Procedures.{has-procedures, labelled}

-- ---- what is known of their operands

-- an item that is a number without decimals
abbrev counted : Judged
counted = record { fit = true; kind = values.Number true; make = makes.Item; bare = true }

module _ (n : ℕ) where
  abbrev names : Names
  names = names_of (generated n).files (generated n).entries

  judged-counter : judged_place names (generated n) counter ≡ counted
  unfolding is_data_word is_free reserved_words left_out_words names_from groups_of has_items are_within
  judged-counter = judged-place names (generated n) 0 [] [] None

  judged-item : judged_operand names (generated n) (operands.Place counter) ≡ counted
  judged-item = judged-Place names (generated n) counter ∙ judged-counter

  judged-whole : (bound : ℕ) → judged_operand names (generated n) (operands.Number (whole bound)) ≡ literal (values.Number true)
  judged-whole bound = judged-Number names (generated n) (whole bound)

  below-fits : (bound : ℕ) → IsPrintableCond names (generated n) (is_below bound)
  below-fits bound =
      let left = Leaf (operands.Place counter) in
      let right = Leaf (operands.Number (whole bound)) in
      let l : judged_expr names (generated n) left ≡ counted = judged-Leaf names (generated n) (operands.Place counter) ∙ judged-item in
      let r : judged_expr names (generated n) right ≡ literal (values.Number true) = judged-Leaf names (generated n) (operands.Number (whole bound)) ∙ judged-whole bound in
      fit-Relation names (generated n) left Less right
      ∙ (ap (λ j. (is_value j && is_value (judged_expr names (generated n) right)) && are_comparable j (judged_expr names (generated n) right)) l
      ∙ ap (λ j. (is_value counted && is_value j) && are_comparable counted j) r)

-- ---- they have few terms

place-most : place_most counter ≡ 0
place-most = ap (λ p. if_any window_most p.window) (out-roll-Place (record { item = 0; of = []; subs = []; window = None }))

item-most : operand_most (operands.Place counter) ≡ 0
item-most = ap (λ o. operand_most o) (sym (operands.rolls-Place counter)) ∙ (ap (λ x. most_by x) (out-roll-Operand (Operand-F.Place counter)) ∙ place-most)

number-most : (bound : ℕ) → operand_most (operands.Number (whole bound)) ≡ 0
number-most bound = ap (λ o. operand_most o) (sym (operands.rolls-Number (whole bound))) ∙ ap (λ x. most_by x) (out-roll-Operand (Operand-F.Number (whole bound)))

operand-room : (operand : Operand) → operand_most operand ≡ 0 → OperandHasRoom true 501 1 operand
operand-room operand none = operand_room 1 operand (omega (arith, none))

place-room : PlaceHasRoom true 501 0 counter
place-room = let none = place-most in place_room 0 counter (omega (arith, none))

below-terms : (bound : ℕ) → cond_terms (is_below bound) ≤ 500
below-terms bound =
    let left = Leaf (operands.Place counter) in
    let right = Leaf (operands.Number (whole bound)) in
    let all : cond_terms (is_below bound) ≡ expr_terms left + expr_terms right = terms-Relation left Less right in
    let l : expr_terms left ≡ 1 + operand_terms (operands.Place counter) = terms-Leaf (operands.Place counter) in
    let r : expr_terms right ≡ 1 + operand_terms (operands.Number (whole bound)) = terms-Leaf (operands.Number (whole bound)) in
    let p : operand_terms (operands.Place counter) ≡ 0 = terms-Place counter ∙ terms-place 0 [] [] None in
    let q : operand_terms (operands.Number (whole bound)) ≡ 0 = terms-Number (whole bound) in
    omega (arith, all, l, r, p, q)

-- ---- headers where they are printed

module _ (names : Names) (entries : List Entry) (table : ProcedureTable) (program : Program) where
  header : (taken : ℕ) (name section : Option (List ℕ)) → own.IfHeader table section taken → own.IfHeader table name (behind_section section taken) →
      body.IsHeaded (parts_of names entries table) (kept_of names program) program taken name section
  header taken None None s n = tt
  header taken (Some name) None s n = header_spelled names entries table program name taken n
  header taken None (Some section) s n = header_spelled names entries table program section taken s
  header taken (Some name) (Some section) s n = (header_spelled names entries table program section taken s, header_spelled names entries table program name (taken + 3) n)

  headers : (taken : ℕ) (list : List Paragraph) → own.AreHeaders table program list taken → body.AreHeaders (parts_of names entries table) (kept_of names program) program taken list
  headers taken [] h = tt
  headers taken (paragraph ∷ list) h =
      (header taken paragraph.name paragraph.section h.0 h.1.0, headers (taken + length (all_tokens (paragraph_units program paragraph))) list h.1.1)

-- ---- the parts

module _ (n taken : ℕ) (small : n ≤ 1249) where
  abbrev table : ProcedureTable
  table = own_procedures (generated n) taken

  abbrev parts : Parts Side SubjectKind
  parts = parts_of (names n) (generated n).entries table

  spelled : PartsAreSpelled parts (kept_of (names n) (generated n)) n
  spelled =
      let here = names n in
      let entries = (generated n).entries in
      let program = generated n in
      let item = operands.Place counter in
      let one = operands.Number (whole 1) in
      record {
        value = (
          operand_spelled here entries table program item (ap (λ j. j.fit) (judged-item n)) (operand-room item item-most),
          (operand_free here entries table program item).value (ap (λ j. not (is_condition j.kind)) (judged-item n)),
        );
        one = (
          operand_spelled here entries table program one (ap (λ j. j.fit) (judged-whole n 1)) (operand-room one (number-most 1)),
          (operand_free here entries table program one).number (ap (λ j. is_number j.kind) (judged-whole n 1)),
        );
        place = place_spelled here entries table program counter (ap (λ j. j.fit) (judged-counter n)) place-room;
        number = (operand_free here entries table program item).number (ap (λ j. is_number j.kind) (judged-item n));
        below = λ bound. cond_spelled here entries table program (is_below bound) (below-fits n bound) (below-terms bound);
        label = λ at low. label_spelled here entries table program at (at, at) (labelled n taken small at low);
      }

  pub division : SpellsDivision parts (kept_of (names n) (generated n)) (generated n) taken (generated n).paragraphs
  division =
      headed.division parts (kept_of (names n) (generated n)) (generated n) taken (generated n).paragraphs (bodies parts (kept_of (names n) (generated n)) n spelled)
      (headers (names n) (generated n).entries table (generated n) taken (generated n).paragraphs (labels.headers (generated n) taken (has-procedures n small)))
