-- What counts the turns of a loop is told from the name of a procedure.
use Rattle.std.proofs.Common.{◌≡◌, ℕ, Bool, true, false, not, ◌&&◌, inl, inr, List, [], ◌∷◌, ◌++◌, map, Option, Some, None, refl, ap, sym, ◌∙◌, subst, arith}
use Rattle.std.specs.Prelude.{codes, ◌==◌, if◌then◌else◌}
use Rattle.std.proofs.lemmas.Bool.{and_parts, and_left, not-true, not_from_true, eqb-true}
use Rattle.cob_base.specs.Bytes.{left_parenthesis}
use Rattle.cob_words.specs.Lists.{reserved_words, left_out_words, is_listed}
use Rattle.cob_tree.specs.declared.entry.Entry.{Entry}
use Rattle.cob_tree.specs.declared.number.Number.{Number}
use Rattle.cob_tree.specs.declared.place.Operand.{Operand}
use Rattle.cob_tree.specs.declared.place.Operand.TheVariants as operands
use Rattle.cob_tree.specs.declared.place.Place.{Place}
use Rattle.cob_tree.specs.declared.place.Sub.{Sub}
use Rattle.cob_tree.specs.declared.place.Window.{Window}
use Rattle.cob_tree.specs.declared.program.Program.{Program}
use Rattle.cobol_lex.specs.declared.token.TokenKind.{TokenKind}
use Rattle.cobol_lex.specs.declared.token.TokenKind.TheVariants as kinds
use Rattle.parser_combinators.specs.declared.note.Position.{Position}
use Rattle.parser_combinators.specs.Form.{begins_by}
use Rattle.unparser.specs.Place.{item_name, of_tokens, subs_tokens, figure_word, operand_tokens, sub_tokens, window_tokens}
use Rattle.parser_combinators.specs.words.Word.{is_free}
use Rattle.parser_combinators.specs.words.Constant as constants
use Rattle.symbol_tables.specs.data_names.Look.{look}
use Rattle.symbol_tables.specs.data_names.Names.{Names}
use Rattle.symbol_tables.specs.declared.procedure_names.table.ProcedureTable.{ProcedureTable}
use Rattle.cobol_grammar.specs.expr_forms.Levels as knots
use Rattle.cobol_grammar.specs.expr_forms.Reference as references
use Rattle.cobol_grammar.specs.expr_forms.Side.{digits_side, literal_side}
use Rattle.cobol_grammar.specs.expr_forms.Token.{is_of}
use Rattle.cobol_grammar.specs.stmt_forms.Loop.{continues_item}
use Rattle.cobol_grammar.specs.Whole.{parts_of}
use Rattle.round_trip.specs.spelled_forms.Spelling.{first_of, Spelled}
use Rattle.round_trip.proofs.spelled_forms_lemmas.Makers.{pure, where_behind, bind, ending}
use Rattle.round_trip.specs.spelling.stmt_spelling.Stmt.{CountsTurns}
use Rattle.round_trip.specs.spelling.expr_spelling.Printable.{IsPrintableOperand, IsPrintablePlace}
use Rattle.round_trip.specs.spelling.expr_spelling.Spelled.{Ends, continues_place, IsOperandSide, made_place, WindowHasRoom, PlaceHasRoom, OperandHasRoom}
use Rattle.round_trip.proofs.spelling_lemmas.expr_spelling_lemmas.Layers.{operand-cases, place-cases, window-cases, tokens-Place, tokens-Number, tokens-Text, tokens-Figure, tokens-place, tokens-window, windows_tokens, judged-Place, judged-Number}
use Rattle.round_trip.proofs.spelling_lemmas.expr_spelling_lemmas.Tests.{place-ends, mark-no-of, first-tail, no-data-word, figure-listed}
use Rattle.round_trip.proofs.spelling_lemmas.expr_spelling_lemmas.Places.{at_same, qualifiers, whole-is, fit-place, ref_behind}
use Rattle.round_trip.proofs.spelling_lemmas.expr_spelling_lemmas.Levels.{outer_spells}
use Rattle.round_trip.specs.spelling.Kept.{kept_of}
use Rattle.round_trip.proofs.spelling_lemmas.Told.{operand-place}

-- ---- behind the first word of a reference

module _ (names : Names) (program : Program) where
  abbrev Tail : List (List ℕ) → List Sub → Option Window → List TokenKind
  Tail of subs window = of_tokens of ++ (subs_tokens (map (sub_tokens program) subs) ++ windows_tokens program window)

  made_behind : {n : ℕ} (item : ℕ) (of : List (List ℕ)) (subs : List Sub) (window : Option Window) (position : Position) →
      IsPrintablePlace names program (made_place item of subs window) → WindowHasRoom true 501 0 window →
      Spelled (knots.data_reference_behind names (item_name program item) position) n (Tail of subs window) (Ends continues_place)
      (IsOperandSide names program (operands.Place (made_place item of subs window)))
  unfolding knots.data_reference_behind references.reference_behind
  made_behind item of subs window position fit room =
      let F = fit-place names program item of subs window fit in
      ending (bind (qualifiers of F.of_words)
      (λ o b. first-tail program is_of (mark-no-of left_parenthesis) subs window o (place-ends o b).0)
      (λ list e. at_same (λ of. references.ref_behind (knots.outer names) (look names (item_name program item) of) of position 0) e
      (where_behind (λ o b. (place-ends o b).1)
      (ref_behind names program (outer_spells names program) 0 item of subs window position F.suit F.subs_fit F.window_fit (omega arith) room))))
      (λ side h. pure h.side)

-- what stands behind the name goes on with it, or TIMES does
opens-window : (program : Program) (window : Option Window) → begins_by continues_item (first_of (windows_tokens program window) (Some (kinds.Word (codes "TIMES")))) ≡ true
unfolding continues_item
opens-window program None = refl
opens-window program (Some window) =
    window-cases (λ window. begins_by continues_item (first_of (window_tokens program window) (Some (kinds.Word (codes "TIMES")))) ≡ true)
    (λ from size. ap (λ list. begins_by continues_item (first_of list (Some (kinds.Word (codes "TIMES"))))) (tokens-window program from size)) window

goes-on : (program : Program) (of : List (List ℕ)) (subs : List Sub) (window : Option Window) →
    begins_by continues_item (first_of (of_tokens of ++ (subs_tokens (map (sub_tokens program) subs) ++ windows_tokens program window)) (Some (kinds.Word (codes "TIMES")))) ≡ true
unfolding continues_item
goes-on program [] [] window = opens-window program window
goes-on program [] (sub ∷ subs) window = refl
goes-on program (word ∷ of) subs window = refl

-- ---- literals

figure-no-procedure : (word : List ℕ) → is_listed reserved_words word ≡ true → is_free word ≡ false
unfolding is_free
figure-no-procedure word listed = and_left (not (is_listed reserved_words word)) (not (is_listed left_out_words word)) (not_from_true (is_listed reserved_words word) listed)

module _ (names : Names) (entries : List Entry) (table : ProcedureTable) (program : Program) where
  abbrev Turns : Operand → Type 0
  Turns count = CountsTurns (parts_of names entries table) (kept_of names program) program count

  digits-side : (number : Number) → (not number.negative && number.scale == 0) ≡ true → (position : Position) →
      IsOperandSide names program (operands.Number number) (digits_side number.digits position)
  unfolding literal_side
  digits-side number e position =
      let both = and_parts (not number.negative) (number.scale == 0) e in
      let is = whole-is number (not-true number.negative both.0) (eqb-true number.scale 0 both.1) in
      subst (λ counted. IsOperandSide names program (operands.Number counted) (digits_side number.digits position)) is
      (record {
        what = refl;
        known = record {
          kind = sym (ap (λ j. j.kind) (judged-Number names program (constants.whole number.digits)));
          make = sym (ap (λ j. j.make) (judged-Number names program (constants.whole number.digits)));
        };
      })

  number_turns : (number : Number) (plain : Bool) → (not number.negative && number.scale == 0) ≡ plain →
      operand_tokens program (operands.Number number) ≡ (if plain then kinds.Digits number.digits else kinds.Decimal number) ∷ [] → Turns (operands.Number number)
  number_turns number true e tokens = inr (inl (record { digits = number.digits; tokens = tokens; is = digits-side number e }))
  number_turns number false e tokens =
      inr (inr (record { first = kinds.Decimal number; others = []; tokens = tokens; no_name = refl; no_digits = refl; no_procedure = refl }))

  place_turns : (place : Place) → IsPrintablePlace names program place → PlaceHasRoom true 501 0 place → Turns (operands.Place place)
  place_turns place =
      place-cases (λ place. IsPrintablePlace names program place → PlaceHasRoom true 501 0 place → Turns (operands.Place place))
      (λ item of subs window fit room. inl (record {
        first = item_name program item;
        others = of_tokens of ++ (subs_tokens (map (sub_tokens program) subs) ++ windows_tokens program window);
        tokens = tokens-Place program (made_place item of subs window) ∙ tokens-place program item of subs window;
        is_name = (fit-place names program item of subs window fit).word;
        goes_on = goes-on program of subs window;
        spelled = λ n position. where_behind operand-place (made_behind names program item of subs window position fit (room item of subs window refl));
      })) place

  pub turns_counted : (count : Operand) → IsPrintableOperand names program count → OperandHasRoom true 501 0 count → Turns count
  turns_counted count =
      operand-cases (λ count. IsPrintableOperand names program count → OperandHasRoom true 501 0 count → Turns count)
      (λ place fit room. place_turns place (subst (λ j. j.fit ≡ true) (judged-Place names program place) fit) (room place refl))
      (λ number fit room. number_turns number (not number.negative && number.scale == 0) refl (tokens-Number program number))
      (λ text fit room. inr (inr (record { first = kinds.Literal text; others = []; tokens = tokens-Text program text; no_name = refl; no_digits = refl; no_procedure = refl })))
      (λ figure fit room. inr (inr (record {
        first = kinds.Word (figure_word figure);
        others = [];
        tokens = tokens-Figure program figure;
        no_name = no-data-word (figure_word figure) (figure-listed figure);
        no_digits = refl;
        no_procedure = figure-no-procedure (figure_word figure) (figure-listed figure);
      }))) count
