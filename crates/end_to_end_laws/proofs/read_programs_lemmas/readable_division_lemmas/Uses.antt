-- Of uses of which no fault was noted none is noted again: faults depend on kinds and on how a side
-- is made, which are kept, and not on where it stands.
use Rattle.std.proofs.Common.{◌≡◌, Bool, true, false, List, None, refl, ap, sym, ◌∙◌}
use Rattle.cob_tree.specs.declared.entry.Entry.{Entry}
use Rattle.cob_tree.specs.declared.program.Program.{Program}
use Rattle.parser_combinators.specs.declared.note.Position.{Position}
use Rattle.symbol_tables.specs.data_names.Names.{Names}
use Rattle.symbol_tables.specs.declared.procedure_names.table.ProcedureTable.{ProcedureTable}
use Rattle.cobol_grammar.specs.declared.expr_forms.side.ExprContent.{ExprContent}
use Rattle.cobol_grammar.specs.declared.expr_forms.side.ExprContent.TheVariants as makes
use Rattle.cobol_grammar.specs.declared.expr_forms.side.Side.{Side}
use Rattle.cobol_grammar.specs.declared.expr_forms.side.ValueKind.{ValueKind}
use Rattle.cobol_grammar.specs.declared.expr_forms.side.ValueKind.TheVariants as values
use Rattle.cobol_grammar.specs.expr_forms.Fault as faults
use Rattle.cobol_grammar.specs.expr_forms.Fault.{compared_as}
use Rattle.cobol_grammar.specs.Use as uses
use Rattle.cobol_grammar.specs.Use.{known_of, record_kind}
use Rattle.cobol_grammar.specs.Whole.{parts_of}
use Rattle.round_trip.specs.spelling.expr_spelling.Printable.{Judged}
use Rattle.round_trip.specs.spelling.expr_spelling.Spelled.{IsKnownAs}
use Rattle.round_trip.specs.spelling.Kept.{kept_of}
use Rattle.round_trip.specs.procedures.readable_stmts.Fit.{UsesFit}

-- ---- wherever a side stands

value-again : (kind : ValueKind) (p q : Position) → faults.value_fault_at p kind ≡ None → faults.value_fault_at q kind ≡ None
value-again values.Condition p q e = absurd cc
value-again values.Unknown p q e = refl
value-again values.Text p q e = refl
value-again values.Edited p q e = refl
value-again values.Group p q e = refl
value-again values.Figure p q e = refl
value-again (values.Number whole) p q e = refl

number-again : (kind : ValueKind) (p q : Position) → faults.number_fault_at p kind ≡ None → faults.number_fault_at q kind ≡ None
number-again (values.Number whole) p q e = refl
number-again values.Unknown p q e = refl
number-again values.Condition p q e = absurd cc
number-again values.Text p q e = absurd cc
number-again values.Edited p q e = absurd cc
number-again values.Group p q e = absurd cc
number-again values.Figure p q e = absurd cc

result-again : (kind : ValueKind) (p q : Position) → faults.result_fault_at p kind ≡ None → faults.result_fault_at q kind ≡ None
result-again values.Edited p q e = refl
result-again (values.Number whole) p q e = refl
result-again values.Unknown p q e = refl
result-again values.Condition p q e = absurd cc
result-again values.Text p q e = absurd cc
result-again values.Group p q e = absurd cc
result-again values.Figure p q e = absurd cc

whole-again : (kind : ValueKind) (p q : Position) → faults.whole_fault_at p kind ≡ None → faults.whole_fault_at q kind ≡ None
unfolding faults.whole_fault_at
whole-again (values.Number true) p q e = refl
whole-again (values.Number false) p q e = absurd cc
whole-again values.Unknown p q e = refl
whole-again values.Condition p q e = absurd cc
whole-again values.Text p q e = absurd cc
whole-again values.Edited p q e = absurd cc
whole-again values.Group p q e = absurd cc
whole-again values.Figure p q e = absurd cc

condition-again : (kind : ValueKind) (p q : Position) → faults.condition_fault_at p kind ≡ None → faults.condition_fault_at q kind ≡ None
condition-again values.Condition p q e = refl
condition-again values.Unknown p q e = refl
condition-again (values.Number whole) p q e = absurd cc
condition-again values.Text p q e = absurd cc
condition-again values.Edited p q e = absurd cc
condition-again values.Group p q e = absurd cc
condition-again values.Figure p q e = absurd cc

-- ---- moves

unless-again : (whole : Bool) (p q : Position) → uses.unless_whole whole p ≡ None → uses.unless_whole whole q ≡ None
unless-again true p q e = refl
unless-again false p q e = absurd cc

group-again : (make : ExprContent) (whole : Bool) (p q : Position) → uses.to_group_fault make whole p ≡ None → uses.to_group_fault make whole q ≡ None
group-again makes.Literal whole p q e = unless-again whole p q e
group-again makes.Item whole p q e = refl
group-again makes.Joined whole p q e = refl

number-moved : (make : ExprContent) (whole : Bool) (to : ValueKind) (p q : Position) → uses.number_moved make whole to p ≡ None → uses.number_moved make whole to q ≡ None
number-moved make whole values.Text p q e = unless-again whole p q e
number-moved make whole values.Group p q e = group-again make whole p q e
number-moved make whole values.Edited p q e = refl
number-moved make whole values.Unknown p q e = refl
number-moved make whole values.Condition p q e = refl
number-moved make whole values.Figure p q e = refl
number-moved make whole (values.Number to) p q e = refl

figure-moved : (to : ValueKind) (p q : Position) → uses.to_number_fault to p ≡ None → uses.to_number_fault to q ≡ None
figure-moved (values.Number whole) p q e = absurd cc
figure-moved values.Text p q e = refl
figure-moved values.Edited p q e = refl
figure-moved values.Group p q e = refl
figure-moved values.Unknown p q e = refl
figure-moved values.Condition p q e = refl
figure-moved values.Figure p q e = refl

moved-again : (make : ExprContent) (from to : ValueKind) (p q : Position) → uses.moved_fault make from to p ≡ None → uses.moved_fault make from to q ≡ None
moved-again make (values.Number whole) to p q e = number-moved make whole to p q e
moved-again make values.Edited to p q e = figure-moved to p q e
moved-again make values.Figure to p q e = figure-moved to p q e
moved-again make values.Text to p q e = refl
moved-again make values.Group to p q e = refl
moved-again make values.Unknown to p q e = refl
moved-again make values.Condition to p q e = refl

move-same : (make other : ExprContent) (from seen to met : ValueKind) (p q : Position) → make ≡ other → from ≡ seen → to ≡ met → uses.moved_fault make from to p ≡ None → uses.moved_fault other seen met q ≡ None
move-same make other from seen to met p q m f t e =
    sym (ap (λ x. uses.moved_fault x from to q) m ∙ ap (λ x. uses.moved_fault other x to q) f ∙ ap (λ x. uses.moved_fault other seen x q) t) ∙ moved-again make from to p q e

-- ---- comparisons

inexact-again : (make : ExprContent) (kind : ValueKind) (p q : Position) → faults.inexact_fault make kind p ≡ None → faults.inexact_fault make kind q ≡ None
inexact-again makes.Joined kind p q e = absurd cc
inexact-again makes.Item kind p q e = whole-again kind p q e
inexact-again makes.Literal kind p q e = whole-again kind p q e

-- a side with this kind and make, and what is known of it as a subject
abbrev side_with : ValueKind → ExprContent → Side → Side
side_with kind make side = record side { kind = kind; make = make }

compared-again : (one other : ValueKind) (kind met : ValueKind) (make with_make : ExprContent) (side next other_side last : Side) →
    uses.compared_fault one other (known_of (side_with kind make side)) (side_with met with_make other_side) ≡ None → uses.compared_fault one other (known_of (side_with kind make next)) (side_with met with_make last) ≡ None
compared-again values.Text (values.Number whole) kind met make with_make side next other last e = inexact-again with_make met other.position last.position e
compared-again (values.Number whole) values.Text kind met make with_make side next other last e = inexact-again make kind side.position next.position e
compared-again (values.Number whole) values.Figure kind met make with_make side next other last e = absurd cc
compared-again values.Figure (values.Number whole) kind met make with_make side next other last e = absurd cc
compared-again (values.Number whole) (values.Number part) kind met make with_make side next other last e = refl
compared-again (values.Number whole) values.Edited kind met make with_make side next other last e = refl
compared-again (values.Number whole) values.Group kind met make with_make side next other last e = refl
compared-again (values.Number whole) values.Unknown kind met make with_make side next other last e = refl
compared-again (values.Number whole) values.Condition kind met make with_make side next other last e = refl
compared-again values.Text values.Text kind met make with_make side next other last e = refl
compared-again values.Text values.Edited kind met make with_make side next other last e = refl
compared-again values.Text values.Group kind met make with_make side next other last e = refl
compared-again values.Text values.Figure kind met make with_make side next other last e = refl
compared-again values.Text values.Unknown kind met make with_make side next other last e = refl
compared-again values.Text values.Condition kind met make with_make side next other last e = refl
compared-again values.Figure values.Text kind met make with_make side next other last e = refl
compared-again values.Figure values.Edited kind met make with_make side next other last e = refl
compared-again values.Figure values.Group kind met make with_make side next other last e = refl
compared-again values.Figure values.Figure kind met make with_make side next other last e = refl
compared-again values.Figure values.Unknown kind met make with_make side next other last e = refl
compared-again values.Figure values.Condition kind met make with_make side next other last e = refl
compared-again values.Edited other kind met make with_make side next other_side last e = refl
compared-again values.Group other kind met make with_make side next other_side last e = refl
compared-again values.Unknown other kind met make with_make side next other_side last e = refl
compared-again values.Condition other kind met make with_make side next other_side last e = refl

as-known : (judged : Judged) (side : Side) → IsKnownAs judged side → side ≡ side_with judged.kind judged.make side
as-known judged side known = ap (λ k. side_with k side.make side) known.kind ∙ ap (λ m. side_with judged.kind m side) known.make

compare-same : (left right : Judged) (side next other last : Side) → IsKnownAs left side → IsKnownAs left next → IsKnownAs right other → IsKnownAs right last →
    uses.subject_fault (known_of side) other ≡ None → uses.subject_fault (known_of next) last ≡ None
unfolding uses.subject_fault
compare-same left right side next other last a b c d e =
    let before = ap (λ s. uses.subject_fault (known_of s) other) (as-known left side a) ∙ ap (λ o. uses.subject_fault (known_of (side_with left.kind left.make side)) o) (as-known right other c) in
    let behind = ap (λ s. uses.subject_fault (known_of s) last) (as-known left next b) ∙ ap (λ o. uses.subject_fault (known_of (side_with left.kind left.make next)) o) (as-known right last d) in
    behind ∙ compared-again (compared_as left.kind) (compared_as right.kind) left.kind right.kind left.make right.make side next other last (sym before ∙ e)

-- ---- sides that are kept of the same operand

module _ (judged : Judged) (side next : Side) (one : IsKnownAs judged side) (other : IsKnownAs judged next) where
  same-kind : side.kind ≡ next.kind
  same-kind = one.kind ∙ sym other.kind

  same-make : side.make ≡ next.make
  same-make = one.make ∙ sym other.make

  value-same : faults.value_fault side ≡ None → faults.value_fault next ≡ None
  unfolding faults.value_fault
  value-same e = ap (faults.value_fault_at next.leaf) (sym same-kind) ∙ value-again side.kind side.leaf next.leaf e

  number-same : faults.number_fault side ≡ None → faults.number_fault next ≡ None
  unfolding faults.number_fault
  number-same e = ap (faults.number_fault_at next.leaf) (sym same-kind) ∙ number-again side.kind side.leaf next.leaf e

  result-same : faults.result_fault side ≡ None → faults.result_fault next ≡ None
  unfolding faults.result_fault
  result-same e = ap (faults.result_fault_at next.leaf) (sym same-kind) ∙ result-again side.kind side.leaf next.leaf e

  whole-same : faults.whole_fault side ≡ None → faults.whole_fault next ≡ None
  whole-same e = ap (faults.whole_fault_at next.position) (sym same-kind) ∙ whole-again side.kind side.position next.position e

  condition-same : faults.condition_fault side ≡ None → faults.condition_fault next ≡ None
  unfolding faults.condition_fault
  condition-same e = ap (faults.condition_fault_at next.leaf) (sym same-kind) ∙ condition-again side.kind side.leaf next.leaf e

module _ (names : Names) (entries : List Entry) (source table : ProcedureTable) (program : Program) where
  pub uses_fit : UsesFit (parts_of names entries source) (parts_of names entries table) (kept_of names program) program
  uses_fit = record {
    value = λ operand side next a b e. value-same _ side next a.known b.known e;
    number = λ operand side next a b e. number-same _ side next a.known b.known e;
    whole = λ operand side next a b e. whole-same _ side next a.known b.known e;
    condition = λ operand side next a b e. condition-same _ side next a.known b.known e;
    result = λ operand side next a b e. result-same _ side next a.known b.known e;
    into = λ file operand side next a b e.
        move-same makes.Item makes.Item (record_kind entries file) (record_kind entries file) side.kind next.kind side.position next.position refl refl (same-kind _ side next a.known b.known) e;
    value_expr = λ expr side next a b e. value-same _ side next a.known b.known e;
    number_expr = λ expr side next a b e. number-same _ side next a.known b.known e;
    moves = λ from to side next other last a b c d e.
        move-same side.make next.make side.kind next.kind other.kind last.kind side.position next.position (same-make _ side next a.known b.known) (same-kind _ side next a.known b.known) (same-kind _ other last c.known d.known) e;
    writes = λ from entry side next other last a b c d e.
        move-same side.make next.make side.kind next.kind other.kind last.kind side.position next.position (same-make _ side next a.known b.known) (same-kind _ side next a.known b.known) (c.kind ∙ sym d.kind) e;
    compares = λ subject expr side next other last a b c d e. compare-same _ _ side next other last a.known b.known c.known d.known e;
  }
