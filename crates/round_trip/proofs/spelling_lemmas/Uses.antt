-- No fault is noted of uses that fit the kinds of operands and expressions.
use Rattle.std.proofs.Common.{◌≡◌, true, false, List, None, refl, ap, sym, ◌∙◌, subst}
use Rattle.std.proofs.lemmas.Bool.{both_ways}
use Rattle.cob_tree.specs.declared.entry.Entry.{Entry}
use Rattle.cob_tree.specs.declared.place.Expr.{Expr}
use Rattle.cob_tree.specs.declared.place.Operand.{Operand}
use Rattle.cob_tree.specs.declared.program.Program.{Program}
use Rattle.parser_combinators.specs.declared.note.Position.{Position}
use Rattle.symbol_tables.specs.data_names.Names.{Names}
use Rattle.symbol_tables.specs.declared.procedure_names.table.ProcedureTable.{ProcedureTable}
use Rattle.cobol_grammar.specs.declared.expr_forms.side.ExprContent.{ExprContent}
use Rattle.cobol_grammar.specs.declared.expr_forms.side.ExprContent.TheVariants as makes
use Rattle.cobol_grammar.specs.declared.expr_forms.side.Side.{Side}
use Rattle.cobol_grammar.specs.declared.expr_forms.side.ValueKind.{ValueKind}
use Rattle.cobol_grammar.specs.declared.expr_forms.side.ValueKind.TheVariants as values
use Rattle.cobol_grammar.specs.expr_forms.Fault.{compared_as, is_condition, condition_fault, condition_fault_at, inexact_fault}
use Rattle.cobol_grammar.specs.Use.{known_of, record_kind, moved_fault, compared_fault, subject_fault}
use Rattle.round_trip.specs.spelling.expr_spelling.Printable.{Judged, judged_expr, judged_operand}
use Rattle.round_trip.specs.spelling.expr_spelling.Spelled.{IsKnownAs}
use Rattle.round_trip.proofs.spelling_lemmas.expr_spelling_lemmas.Exprs.{number-free, result-free, whole-none, whole-free}
use Rattle.round_trip.specs.spelling.cond_spelling.Printable.{is_plain, kinds_suit}
use Rattle.round_trip.proofs.spelling_lemmas.cond_spelling_lemmas.Relations.{value-free}
use Rattle.round_trip.specs.spelling.Use.{MayMove, MayCompare, OperandIsFree, ExprIsFree}

condition-none : (position : Position) (kind : ValueKind) → is_condition kind ≡ true → condition_fault_at position kind ≡ None
condition-none position values.Condition e = refl
condition-none position kind e = absurd (both_ways false refl e)

condition-free : (judged : Judged) (side : Side) → IsKnownAs judged side → is_condition judged.kind ≡ true → condition_fault side ≡ None
unfolding condition_fault
condition-free judged side known e = condition-none side.leaf side.kind (subst (λ k. is_condition k ≡ true) (sym known.kind) e)

-- ---- moves

move-free : (make other : ExprContent) (from to seen met : ValueKind) (position : Position) → other ≡ make → seen ≡ from → met ≡ to → MayMove make from to → moved_fault other seen met position ≡ None
move-free make other from to seen met position m s t h =
    ap (λ x. moved_fault x seen met position) m ∙ ap (λ x. moved_fault make x met position) s ∙ ap (λ x. moved_fault make from x position) t ∙ h position

-- ---- comparisons

inexact-none : (make : ExprContent) (kind : ValueKind) (position : Position) → is_plain make kind ≡ true → inexact_fault make kind position ≡ None
inexact-none makes.Joined kind position e = absurd (both_ways false refl e)
inexact-none makes.Item kind position e = whole-none position kind e
inexact-none makes.Literal kind position e = whole-none position kind e

compared-none : (one other : ValueKind) (left right : Judged) (position : Position) (side : Side) → kinds_suit one other left right ≡ true →
    compared_fault one other (record { kind = left.kind; make = left.make; position = position }) (record side { kind = right.kind; make = right.make }) ≡ None
compared-none values.Text (values.Number whole) left right position side e = inexact-none right.make right.kind side.position e
compared-none (values.Number whole) values.Text left right position side e = inexact-none left.make left.kind position e
compared-none (values.Number whole) values.Figure left right position side e = absurd (both_ways false refl e)
compared-none values.Figure (values.Number whole) left right position side e = absurd (both_ways false refl e)
compared-none one other left right position side e = refl

abbrev as_known : Judged → Side → Side
as_known judged side = record side { kind = judged.kind; make = judged.make }

same-known : (judged : Judged) (side : Side) → IsKnownAs judged side → side ≡ as_known judged side
same-known judged side known = ap (λ k. record side { kind = k }) known.kind ∙ ap (λ m. record side { kind = judged.kind; make = m }) known.make

compare-free : (left right : Judged) (side other : Side) → IsKnownAs left side → IsKnownAs right other → MayCompare left right → subject_fault (known_of side) other ≡ None
unfolding subject_fault
compare-free left right side other l r e =
    ap (λ s. subject_fault (known_of s) other) (same-known left side l) ∙ ap (λ o. subject_fault (known_of (as_known left side)) o) (same-known right other r)
    ∙ compared-none (compared_as left.kind) (compared_as right.kind) left right side.position other e

module _ (names : Names) (entries : List Entry) (table : ProcedureTable) (program : Program) where
  pub operand_free : (operand : Operand) → OperandIsFree names entries table program operand
  operand_free operand =
      let j = judged_operand names program operand in
      record {
        value = λ e side h. value-free j side h.known e;
        number = λ e side h. number-free j side h.known e;
        result = λ e side h. result-free j side h.known e;
        whole = λ e side h. whole-free j side h.known e;
        condition = λ e side h. condition-free j side h.known e;
        into = λ file m side h. move-free makes.Item makes.Item (record_kind entries file) j.kind (record_kind entries file) side.kind side.position refl refl h.known.kind m;
        moves = λ to m side other h k. move-free j.make side.make j.kind (judged_operand names program to).kind side.kind other.kind side.position h.known.make h.known.kind k.known.kind m;
        writes = λ entry m side other h k. move-free j.make side.make j.kind _ side.kind other.kind side.position h.known.make h.known.kind k.kind m;
      }

  pub expr_free : (expr : Expr) → ExprIsFree names entries table program expr
  expr_free expr =
      let j = judged_expr names program expr in
      record {
        value = λ e side h. value-free j side h.known e;
        number = λ e side h. number-free j side h.known e;
        compares = λ other e side next h k. compare-free j (judged_expr names program other) side next h.known k.known e;
      }
