-- What spells operands and places.
use Rattle.std.proofs.Common.{◌≡◌, Bool, true, false, not, ◌&&◌, ◌⊎◌, inl, inr, List, Option, refl, ap, ◌∙◌, subst, arith}
use Rattle.std.specs.Prelude.{◌==◌, if◌then◌else◌}
use Rattle.cob_tree.specs.declared.entry.Entry.{Entry}
use Rattle.cob_tree.specs.declared.number.Number.{Number}
use Rattle.cob_tree.specs.declared.place.Expr.{Expr}
use Rattle.cob_tree.specs.declared.place.Operand.{Operand}
use Rattle.cob_tree.specs.declared.place.Operand.TheVariants as operands
use Rattle.cob_tree.specs.declared.place.Place.{Place}
use Rattle.cob_tree.specs.declared.program.Program.{Program}
use Rattle.cobol_lex.specs.declared.token.TokenKind.{TokenKind}
use Rattle.cobol_lex.specs.declared.token.TokenKind.TheVariants as kinds
use Rattle.parser_combinators.specs.Form.{begins_by}
use Rattle.unparser.specs.Place.{figure_word, operand_tokens}
use Rattle.parser_combinators.specs.words.Word.{is_name}
use Rattle.symbol_tables.specs.data_names.Names.{Names}
use Rattle.symbol_tables.specs.declared.procedure_names.table.ProcedureTable.{ProcedureTable}
use Rattle.cobol_grammar.specs.expr_forms.Token.{begins_operand}
use Rattle.cobol_grammar.specs.Whole.{parts_of}
use Rattle.round_trip.specs.spelled_forms.Spelling.{first_of}
use Rattle.round_trip.proofs.spelled_forms_lemmas.Makers.{where_behind}
use Rattle.round_trip.specs.spelling.stmt_spelling.Part.{IsLiteral, SpellsItem, SpellsOperand, SpellsPlace}
use Rattle.round_trip.specs.spelling.expr_spelling.Printable.{IsPrintableOperand, IsPrintablePlace}
use Rattle.round_trip.specs.spelling.expr_spelling.Spelled.{HasRoom, PlaceHasRoom, OperandHasRoom}
use Rattle.round_trip.proofs.spelling_lemmas.expr_spelling_lemmas.Layers.{operand-cases, tokens-Place, tokens-Number, tokens-Text, tokens-Figure, judged-Place}
use Rattle.round_trip.proofs.spelling_lemmas.expr_spelling_lemmas.Tests.{no-data-word, name-operand, digits-operand, decimal-operand, text-operand, figure-listed, figure-operand}
use Rattle.round_trip.proofs.spelling_lemmas.expr_spelling_lemmas.Places.{by_tokens, place-first}
use Rattle.round_trip.proofs.spelling_lemmas.expr_spelling_lemmas.Levels.{data_reference, data_operand}
use Rattle.round_trip.specs.spelling.Kept.{kept_of}
use Rattle.round_trip.proofs.spelling_lemmas.Told.{operand-place}

-- ---- room

less-room : (from : Expr) (size : Option Expr) → HasRoom true 501 1 from size → HasRoom true 501 0 from size
less-room from size h = let s = h.some in record { first = h.first; second = h.second; some = omega (arith, s); all = h.all }

-- a place that has room as an operand has room alone
pub place-room : (place : Place) → PlaceHasRoom true 501 1 place → PlaceHasRoom true 501 0 place
place-room place h item of subs window e from size is = less-room from size (h item of subs window e from size is)

-- ---- what stands first

number-begins : (number : Number) (plain : Bool) → begins_operand (if plain then kinds.Digits number.digits else kinds.Decimal number) ≡ true
number-begins number true = digits-operand number.digits
number-begins number false = decimal-operand number

number-no-name : (number : Number) (plain : Bool) → is_name (if plain then kinds.Digits number.digits else kinds.Decimal number) ≡ false
number-no-name number true = refl
number-no-name number false = refl

module _ (names : Names) (entries : List Entry) (table : ProcedureTable) (program : Program) where
  abbrev IsLit : Operand → Type 0
  IsLit operand = IsLiteral (parts_of names entries table) (kept_of names program) program operand

  abbrev IsItem : Operand → Type 0
  IsItem operand = SpellsItem (parts_of names entries table) (kept_of names program) program operand

  operand-begins : (operand : Operand) → IsPrintableOperand names program operand → (o : Option TokenKind) → begins_by begins_operand (first_of (operand_tokens program operand) o) ≡ true
  operand-begins operand fit o =
      (operand-cases (λ operand. IsPrintableOperand names program operand → begins_by begins_operand (first_of (operand_tokens program operand) o) ≡ true)
      (λ place fit. ap (λ list. begins_by begins_operand (first_of list o)) (tokens-Place program place)
      ∙ place-first names program begins_operand name-operand place (subst (λ j. j.fit ≡ true) (judged-Place names program place) fit) o)
      (λ number fit. ap (λ list. begins_by begins_operand (first_of list o)) (tokens-Number program number) ∙ number-begins number (not number.negative && number.scale == 0))
      (λ text fit. ap (λ list. begins_by begins_operand (first_of list o)) (tokens-Text program text) ∙ text-operand text)
      (λ figure fit. ap (λ list. begins_by begins_operand (first_of list o)) (tokens-Figure program figure) ∙ figure-operand figure) operand) fit

  -- ---- places

  pub place_spelled : (place : Place) → IsPrintablePlace names program place → PlaceHasRoom true 501 0 place →
      SpellsPlace (parts_of names entries table) (kept_of names program) program place
  place_spelled place fit room = record {
    begins = λ o. place-first names program is_name (λ word w. w) place fit o;
    spelled = λ n. where_behind operand-place (data_reference names program place fit room);
  }

  item_spelled : (place : Place) → IsPrintablePlace names program place → PlaceHasRoom true 501 0 place → IsItem (operands.Place place)
  item_spelled place fit room = record {
    name = λ o. ap (λ list. begins_by is_name (first_of list o)) (tokens-Place program place) ∙ place-first names program is_name (λ word w. w) place fit o;
    by_reference = λ n. by_tokens (tokens-Place program place) (where_behind operand-place (data_reference names program place fit room));
  }

  -- ---- operands

  either_spelled : (operand : Operand) → IsPrintableOperand names program operand → OperandHasRoom true 501 1 operand → IsLit operand ⊎ IsItem operand
  either_spelled operand =
      operand-cases (λ operand. IsPrintableOperand names program operand → OperandHasRoom true 501 1 operand → IsLit operand ⊎ IsItem operand)
      (λ place fit room. inr (item_spelled place (subst (λ j. j.fit ≡ true) (judged-Place names program place) fit) (place-room place (room place refl))))
      (λ number fit room. inl (record {
        no_name = λ o. ap (λ list. begins_by is_name (first_of list o)) (tokens-Number program number) ∙ number-no-name number (not number.negative && number.scale == 0);
      }))
      (λ text fit room. inl (record { no_name = λ o. ap (λ list. begins_by is_name (first_of list o)) (tokens-Text program text) }))
      (λ figure fit room. inl (record {
        no_name = λ o. ap (λ list. begins_by is_name (first_of list o)) (tokens-Figure program figure) ∙ no-data-word (figure_word figure) (figure-listed figure);
      })) operand

  pub operand_spelled : (operand : Operand) → IsPrintableOperand names program operand → OperandHasRoom true 501 1 operand →
      SpellsOperand (parts_of names entries table) (kept_of names program) program operand
  operand_spelled operand fit room = record {
    begins = operand-begins operand fit;
    spelled = λ n. where_behind operand-place (data_operand names program operand fit room);
    either = either_spelled operand fit room;
  }
