-- What stands behind parts is no part, and operands with their uses.
use Rattle.std.proofs.Common.{◌≡◌, ℕ, true, false, inl, inr, Option, Some, None, refl}
use Rattle.cob_tree.specs.declared.place.Operand.{Operand}
use Rattle.cob_tree.specs.declared.program.Program.{Program}
use Rattle.cobol_lex.specs.declared.token.TokenKind.{TokenKind}
use Rattle.cobol_lex.specs.declared.token.TokenKind.TheVariants as kinds
use Rattle.parser_combinators.specs.Form.{begins_by}
use Rattle.unparser.specs.Place.{operand_tokens}
use Rattle.cobol_grammar.specs.stmt_forms.Part.{Parts}
use Rattle.cobol_grammar.specs.stmt_forms.Move as move
use Rattle.cobol_grammar.specs.stmt_forms.Arithmetic as arithmetic
use Rattle.round_trip.specs.spelled_forms.Spelling.{Spelled}
use Rattle.round_trip.proofs.spelled_forms_lemmas.Makers.{pure, note, ending, behind_none}
use Rattle.round_trip.specs.spelling.stmt_spelling.Behind.{BehindPart, BehindStmt}
use Rattle.round_trip.specs.spelling.stmt_spelling.Part.{Kept, PartsAreTold, BehindOperand, SpellsValue, SpellsNumber}
use Rattle.round_trip.proofs.spelling_lemmas.stmt_spelling_lemmas.Behind.{stmt-part}
use Rattle.round_trip.proofs.spelling_lemmas.stmt_spelling_lemmas.Lists.{IsItem}

module _ {Side Known : Type 0} {parts : Parts Side Known} {kept : Kept Side} (T : PartsAreTold parts kept) where
  pub no-operand : (o : Option TokenKind) → BehindPart o → begins_by parts.begins_operand o ≡ false
  no-operand None b = refl
  no-operand (Some (kinds.Word word)) b = T.word_no_operand word b
  no-operand (Some kinds.Period) b = T.period_no_operand
  no-operand (Some other) b = absurd b

  pub no-name : (o : Option TokenKind) → BehindPart o → begins_by parts.is_name o ≡ false
  no-name None b = refl
  no-name (Some (kinds.Word word)) b = T.word_no_name word b
  no-name (Some kinds.Period) b = T.period_no_name
  no-name (Some other) b = absurd b

  pub no-procedure : (o : Option TokenKind) → BehindPart o → begins_by parts.is_procedure_word o ≡ false
  no-procedure None b = refl
  no-procedure (Some (kinds.Word word)) b = T.word_no_procedure word b
  no-procedure (Some kinds.Period) b = T.period_no_procedure
  no-procedure (Some other) b = absurd b

  pub part-operand : (o : Option TokenKind) → BehindPart o → BehindOperand parts o
  part-operand o b = inl b

  pub stmt-operand : (o : Option TokenKind) → BehindStmt o → BehindOperand parts o
  stmt-operand o b = inl (stmt-part o b)

  pub name-operand : (o : Option TokenKind) → begins_by parts.is_name o ≡ true → BehindOperand parts o
  name-operand None e = absurd cc
  name-operand (Some kind) e = inr (inl (T.names_are_operands kind e))

  module _ {program : Program} where
    pub value : {n : ℕ} {x : Operand} → SpellsValue parts kept program x → Spelled (move.value parts) n (operand_tokens program x) (BehindOperand parts) (kept.operand x)
    unfolding move.value
    value {n = n} S = ending (S.0.spelled n) (λ side h. behind_none (note (S.1 side h)) (λ _ _. pure h))

    pub value_item : (x : Operand) → SpellsValue parts kept program x → IsItem parts.begins_operand (move.value_operand parts) (operand_tokens program) (BehindOperand parts) x
    unfolding move.value_operand
    value_item x S = record {
      spelled = λ n. ending (value S) (λ side h. pure (T.operand_told x side h));
      begins = S.0.begins;
      enters = λ o. inr (inl (S.0.begins o));
    }

    pub number : {n : ℕ} (x : Operand) → SpellsNumber parts kept program x → Spelled (arithmetic.number_operand parts) n (operand_tokens program x) (BehindOperand parts) (λ found. found ≡ x)
    unfolding arithmetic.number_operand
    number {n = n} x S = ending (S.0.spelled n) (λ side h. behind_none (note (S.1 side h)) (λ _ _. pure (T.operand_told x side h)))

    pub number_item : (x : Operand) → SpellsNumber parts kept program x → IsItem parts.begins_operand (arithmetic.number_operand parts) (operand_tokens program) (BehindOperand parts) x
    number_item x S = record {
      spelled = λ n. number x S;
      begins = S.0.begins;
      enters = λ o. inr (inl (S.0.begins o));
    }
