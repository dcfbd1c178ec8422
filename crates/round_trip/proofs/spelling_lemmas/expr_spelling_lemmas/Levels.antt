-- What spells places and expressions with so many levels of parentheses, and as statements have them.
use Rattle.std.proofs.Common.{ℕ, zero, suc, ◌<◌, ◌≤◌, true, false, arith}
use Rattle.cob_tree.specs.declared.place.Expr.{Expr}
use Rattle.cob_tree.specs.declared.place.Operand.{Operand}
use Rattle.cob_tree.specs.declared.place.Operand.TheVariants as operands
use Rattle.cob_tree.specs.declared.place.Place.{Place}
use Rattle.cob_tree.specs.declared.program.Program.{Program}
use Rattle.unparser.specs.Place.{place_tokens, operand_tokens, expr_tokens}
use Rattle.symbol_tables.specs.data_names.Names.{Names}
use Rattle.program_facts.specs.term_counts.Expression.{expr_terms}
use Rattle.cobol_grammar.specs.expr_forms.Levels as knots
use Rattle.round_trip.specs.spelled_forms.Spelling.{Spelled}
use Rattle.round_trip.proofs.spelled_forms_lemmas.Makers.{pure, hence, ending}
use Rattle.round_trip.specs.spelling.expr_spelling.Printable.{IsPrintableExpr, IsPrintableOperand, IsPrintablePlace}
use Rattle.round_trip.specs.spelling.expr_spelling.Spelled.{Ends, continues_place, continues_expr, IsOperandSide, IsExprSide, PlaceHasRoom, OperandHasRoom}
use Rattle.round_trip.proofs.spelling_lemmas.expr_spelling_lemmas.Places.{InnerSpells, reference_spelled, operand_spelled}
use Rattle.round_trip.proofs.spelling_lemmas.expr_spelling_lemmas.Exprs.{expr_spelled, in_nested_spelled}
use Rattle.round_trip.proofs.spelling_lemmas.expr_spelling_lemmas.Windows.{in_window_spelled}
use Rattle.round_trip.proofs.spelling_lemmas.expr_spelling_lemmas.Fronts.{suffix_spelled}
use Rattle.round_trip.proofs.spelling_lemmas.expr_spelling_lemmas.Subs.{subs_spelled}

module _ (names : Names) (program : Program) where
  none : {A : Type 0} {a : ℕ} → a < 0 → A
  none h = let never : ⊥ = omega (arith, h) in absurd never

  pub inner_spells : (n : ℕ) → InnerSpells names program (knots.inner names n) false n
  unfolding knots.inner
  inner_spells zero = record {
    nested = λ count expr fit few room. none few;
    subs = λ count first others fit few. none few;
    suffix = λ count from size fit room. none room.first;
    window = λ count from size fit room. none room.first;
  }
  inner_spells (suc n) =
      let I = inner_spells n in
      record {
        nested = λ count expr fit few room. hence (λ found h. (h.side, h.counted)) (in_nested_spelled names program I count expr fit (omega (arith, few)) room);
        subs = λ count first others fit few. subs_spelled names program I false count first others fit;
        suffix = λ count from size fit room. suffix_spelled names program I false count from size fit room;
        window = λ count from size fit room. in_window_spelled names program I false count from size fit room;
      }

  -- outside of any expression
  pub outer_spells : InnerSpells names program (knots.outer names) true 501
  outer_spells =
      let I = inner_spells 500 in
      record {
        nested = λ count expr fit few room. hence (λ found h. (h.side, h.counted)) (in_nested_spelled names program I count expr fit (omega (arith, few)) room);
        subs = λ count first others fit few. subs_spelled names program I true count first others fit;
        suffix = λ count from size fit room. suffix_spelled names program I true count from size fit room;
        window = λ count from size fit room. in_window_spelled names program I true count from size fit room;
      }

  -- ---- as statements have them

  pub data_reference : {n : ℕ} (place : Place) → IsPrintablePlace names program place → PlaceHasRoom true 501 0 place →
      Spelled (knots.data_reference names) n (place_tokens program place) (Ends continues_place) (IsOperandSide names program (operands.Place place))
  unfolding knots.data_reference
  data_reference place fit room =
      ending (reference_spelled names program outer_spells 0 place fit (omega arith) room) (λ side h. pure h.side)

  pub data_operand : {n : ℕ} (operand : Operand) → IsPrintableOperand names program operand → OperandHasRoom true 501 1 operand →
      Spelled (knots.data_operand names) n (operand_tokens program operand) (Ends continues_place) (IsOperandSide names program operand)
  unfolding knots.data_operand
  data_operand operand fit room =
      ending (operand_spelled names program outer_spells 0 operand fit (omega arith) (omega arith) room) (λ side h. pure h.side)

  pub whole_expr : {n : ℕ} (expr : Expr) → IsPrintableExpr names program expr → expr_terms expr ≤ 500 →
      Spelled (knots.whole_expr names) n (expr_tokens program expr false) (Ends continues_expr) (IsExprSide names program expr)
  unfolding knots.whole_expr
  whole_expr expr fit few =
      ending (expr_spelled names program (inner_spells 500) 0 expr fit few (omega (arith, few))) (λ side h. pure h.side)
