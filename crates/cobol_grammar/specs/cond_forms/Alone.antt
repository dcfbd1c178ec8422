-- What an expression without a test is: the name of a level 88, or an abbreviated relation.
use Rattle.std.specs.Prelude.{ℕ, Bool, true, false, Option, Some, None}
use Rattle.cob_tree.specs.declared.cond.Cond.{Cond}
use Rattle.cob_tree.specs.declared.cond.Cond.TheVariants as conds
use Rattle.parser_combinators.specs.declared.why.Why.TheVariants.{Syntax}
use Rattle.parser_combinators.specs.Form.{Form, pure, refuse, note, ◌>>=◌, ◌>>◌, chosen}
use Rattle.cobol_grammar.specs.declared.expr_forms.side.ExprForm.{ExprForm}
use Rattle.cobol_grammar.specs.declared.expr_forms.side.ExprForm.TheVariants as shapes
use Rattle.cobol_grammar.specs.declared.expr_forms.side.Side.{Side}
use Rattle.cobol_grammar.specs.declared.expr_forms.side.ParsedExpr.{ParsedExpr}
use Rattle.cobol_grammar.specs.declared.expr_forms.side.ParsedExpr.TheVariants as whats
use Rattle.cobol_grammar.specs.expr_forms.Fault.{value_fault, condition_fault, relation_fault, is_condition}
use Rattle.cobol_grammar.specs.expr_forms.Side.{shape_of}
use Rattle.cobol_grammar.specs.expr_forms.Limit.{count_terms}
use Rattle.cobol_grammar.specs.declared.cond_forms.part.SimpleCond.{SimpleCond}
use Rattle.cobol_grammar.specs.declared.cond_forms.test.Setting.{Setting}
use Rattle.cobol_grammar.specs.declared.cond_forms.test.Primary.{Primary}
use Rattle.cobol_grammar.specs.declared.cond_forms.test.Primary.TheVariants as prims
use Rattle.cobol_grammar.specs.declared.cond_forms.test.Read.{Read}
use Rattle.cobol_grammar.specs.cond_forms.Test.{relation_of}

-- the condition, or its negation
abbrev pub with_not : Bool → Cond → Cond
with_not true cond = conds.Not cond
with_not false cond = cond

-- a part of a condition, with all that was found of it
abbrev pub part_of : Cond → Option Setting → ℕ → Bool → SimpleCond
part_of cond setting count pending_not = record {
  cond = cond;
  setting = setting;
  count = count;
  pending_not = pending_not;
}

-- a relation with the left side and the sign that were set
unfoldable pub carried : Setting → Side → ℕ → Bool → Form SimpleCond
carried setting right count pending_not = do
  more ← count_terms count setting.terms
  note (value_fault right)
  note (relation_fault setting.left right)
  pure (part_of (relation_of setting.left setting.rel right) (Some setting) more pending_not)

-- the name of a level 88 as a condition
unfoldable pub named_by : Bool → ParsedExpr → ℕ → Bool → Form SimpleCond
named_by negated (whats.Ref place) count pending_not =
    pure (part_of (with_not negated (conds.Named place)) None count pending_not)
named_by negated (whats.Enclosed place) count pending_not =
    pure (part_of (with_not negated (conds.Named place)) None count pending_not)
named_by negated _ count pending_not = refuse Syntax

-- a condition that ends what was set
unfoldable pub named : Bool → Side → ℕ → Bool → Form SimpleCond
named negated side count pending_not =
    note (condition_fault side) >> named_by negated side.what count pending_not

-- a condition beside which what was set stays
unfoldable pub kept : Setting → ParsedExpr → ℕ → Bool → Form SimpleCond
kept setting (whats.Ref place) count pending_not =
    pure (part_of (conds.Named place) (Some setting) count pending_not)
kept setting _ count pending_not = refuse Syntax

-- a reference alone: the name of a level 88, or the right side of an abbreviated relation
unfoldable pub ref_part : Bool → Option Setting → Side → ℕ → Bool → Form SimpleCond
ref_part false (Some setting) side count pending_not =
    chosen (is_condition side.kind) (kept setting side.what count pending_not)
    (carried setting side count pending_not)
ref_part false None side count pending_not = named false side count pending_not
ref_part true setting side count pending_not = named true side count pending_not

-- a literal alone: the right side of an abbreviated relation
unfoldable pub literal_part : Bool → Option Setting → Side → ℕ → Bool → Form SimpleCond
literal_part false (Some setting) side count pending_not = carried setting side count pending_not
literal_part false None side count pending_not = refuse Syntax
literal_part true setting side count pending_not = refuse Syntax

-- an expression alone, by what it is
unfoldable pub part_by_shape : ExprForm → Bool → Option Setting → Side → ℕ → Bool → Form SimpleCond
part_by_shape shapes.Ref negated setting side count pending_not =
    ref_part negated setting side count pending_not
part_by_shape shapes.Literal negated setting side count pending_not =
    literal_part negated setting side count pending_not
part_by_shape shapes.Enclosed negated setting side count pending_not =
    named negated side count pending_not
part_by_shape shapes.Sum negated setting side count pending_not = refuse Syntax

-- an expression without a test
unfoldable pub alone_part : Bool → Option Setting → Side → ℕ → Bool → Form SimpleCond
alone_part negated setting side count pending_not =
    part_by_shape (shape_of side.what) negated setting side count pending_not

-- a test, or an expression without one
unfoldable pub part_by : Bool → Option Setting → Primary → ℕ → Bool → Form SimpleCond
part_by negated setting (prims.Test cond after) count pending_not =
    pure (part_of (with_not negated cond) after count pending_not)
part_by negated setting (prims.Alone side) count pending_not =
    alone_part negated setting side count pending_not

-- what was read as a part of a condition
abbrev pub settled : Bool → Option Setting → Read → Form SimpleCond
settled negated setting read = part_by negated setting read.prim read.count read.pending_not
