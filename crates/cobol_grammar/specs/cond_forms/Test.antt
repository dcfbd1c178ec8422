-- What follows an expression: a test of it, or none.
use Rattle.std.specs.Prelude.{ℕ, ◌-◌, Bool, true, false, codes, Option, Some, None}
use Rattle.cob_tree.specs.declared.cond.Cond.{Cond}
use Rattle.cob_tree.specs.declared.cond.Cond.TheVariants as conds
use Rattle.cob_tree.specs.declared.cond.ClassKind.{ClassKind}
use Rattle.cob_tree.specs.declared.cond.Rel.{Rel}
use Rattle.parser_combinators.specs.declared.why.Why.TheVariants.{Syntax}
use Rattle.parser_combinators.specs.Form.{Form, pure, refuse, note, one, ◌>>=◌, ◌>>◌, where_next}
use Rattle.parser_combinators.specs.Part.{key, is_key}
use Rattle.symbol_tables.specs.data_names.Names.{Names}
use Rattle.cobol_grammar.specs.declared.expr_forms.side.ExprForm.{ExprForm}
use Rattle.cobol_grammar.specs.declared.expr_forms.side.ExprForm.TheVariants as shapes
use Rattle.cobol_grammar.specs.declared.expr_forms.side.Side.{Side}
use Rattle.cobol_grammar.specs.declared.expr_forms.side.ParsedExpr.{ParsedExpr}
use Rattle.cobol_grammar.specs.declared.expr_forms.side.ParsedExpr.TheVariants as whats
use Rattle.cobol_grammar.specs.expr_forms.Fault.{number_fault, value_fault, relation_fault}
use Rattle.cobol_grammar.specs.expr_forms.Side.{shape_of, expr_of}
use Rattle.cobol_grammar.specs.expr_forms.Limit.{Inner}
use Rattle.cobol_grammar.specs.expr_forms.Expression.{expr}
use Rattle.cobol_grammar.specs.expr_forms.Levels.{inner}
use Rattle.cobol_grammar.specs.declared.cond_forms.test.Setting.{Setting}
use Rattle.cobol_grammar.specs.declared.cond_forms.test.Primary.TheVariants as prims
use Rattle.cobol_grammar.specs.declared.cond_forms.test.Read.{Read}
use Rattle.cobol_grammar.specs.cond_forms.Token.{begins_rel_behind, sign_of, begins_sign, class_of, begins_class}
use Rattle.cobol_grammar.specs.cond_forms.Relation.{rel}

-- the relation of two sides
abbrev pub relation_of : Side → Rel → Side → Cond
relation_of left sign right = conds.Relation (expr_of left.what) sign (expr_of right.what)

-- what a relation sets for abbreviations that follow
abbrev pub setting_of : Side → Rel → ℕ → Setting
setting_of left sign terms = record { left = left; rel = sign; terms = terms }

-- a test that was read, with what it sets
abbrev pub read_test : Cond → Option Setting → ℕ → Read
read_test cond setting count = record {
  prim = prims.Test cond setting;
  count = count;
  pending_not = false;
}

-- a relation, after its left side, before which there were `before` terms
unfoldable pub relation : Names → Inner → Bool → Side → ℕ → ℕ → Form Read
relation names inner negated left before count = do
  sign ← rel negated
  right ← expr names inner count
  note (value_fault left)
  note (value_fault right.0)
  note (relation_fault left right.0)
  pure (read_test (relation_of left sign right.0) (Some (setting_of left sign
      (count - before))) right.1)

-- the test of a sign: POSITIVE | NEGATIVE | ZERO
unfoldable pub sign_test : Bool → Side → ℕ → Form Read
sign_test negated left count = do
  sign ← one (λ position kind. sign_of kind)
  note (number_fault left)
  pure (read_test (conds.SignIs (expr_of left.what) sign negated) None count)

-- the test of a class, of a reference
unfoldable pub class_of_ref : Bool → ClassKind → ParsedExpr → ℕ → Form Read
class_of_ref negated class (whats.Ref place) count =
    pure (read_test (conds.Class place class negated) None count)
class_of_ref negated class _ count = refuse Syntax

-- the test of a class: NUMERIC | ALPHABETIC
unfoldable pub class_test : Bool → Side → ℕ → Form Read
class_test negated left count = do
  class ← one (λ position kind. class_of kind)
  note (value_fault left)
  class_of_ref negated class left.what count

-- no test is here: a syntax fault, or an expression alone, after which NOT was read or not
unfoldable pub untested : Option Bool → Side → ℕ → Form Read
untested None left count = refuse Syntax
untested (Some pending_not) left count =
    pure (record { prim = prims.Alone left; count = count; pending_not = pending_not })

-- the test of a class, which only a reference has, or none
unfoldable pub class_or : ExprForm → Bool → Option Bool → Side → ℕ → Form Read
class_or shapes.Ref negated end left count =
    where_next begins_class (class_test negated left count) (untested end left count)
class_or _ negated end left count = untested end left count

-- the test that the next tokens are, of an expression
unfoldable pub one_test : Names → Inner → Bool → Option Bool → Side → ℕ → ℕ → Form Read
one_test names inner negated end left before count =
    where_next (begins_rel_behind negated) (relation names inner negated left before count)
    (where_next begins_sign (sign_test negated left count)
    (class_or (shape_of left.what) negated end left count))

-- NOT, and a test
unfoldable pub not_test : Names → Inner → Option Bool → Side → ℕ → ℕ → Form Read
not_test names inner end left before count =
    key (codes "NOT") >> one_test names inner true end left before count

-- a test after IS, with NOT or without: IS [NOT] test
unfoldable pub behind_is : Names → Inner → Side → ℕ → ℕ → Form Read
behind_is names inner left before count = do
  key (codes "IS")
  where_next (is_key (codes "NOT")) (not_test names inner None left before count)
      (one_test names inner false None left before count)

-- what follows an expression: a test of it, or none
unfoldable pub tested : Names → Inner → Side → ℕ → ℕ → Form Read
tested names inner left before count =
    where_next (is_key (codes "IS")) (behind_is names inner left before count)
    (where_next (is_key (codes "NOT")) (not_test names inner (Some true) left before count)
    (one_test names inner false (Some false) left before count))
