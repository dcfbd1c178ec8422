-- neg = [NOT] prim, or an abbreviation that begins with its sign
use Rattle.std.specs.Prelude.{ℕ, Bool, true, false, codes, Option, Some, None}
use Rattle.parser_combinators.specs.declared.why.Why.TheVariants.{Syntax}
use Rattle.parser_combinators.specs.Form.{Form, pure, refuse, note, ◌>>=◌, ◌>>◌, where_next}
use Rattle.parser_combinators.specs.Part.{key, is_key}
use Rattle.symbol_tables.specs.data_names.Names.{Names}
use Rattle.cobol_grammar.specs.expr_forms.Fault.{value_fault, relation_fault}
use Rattle.cobol_grammar.specs.expr_forms.Limit.{Inner, count_terms}
use Rattle.cobol_grammar.specs.expr_forms.Operand.{operand}
use Rattle.cobol_grammar.specs.expr_forms.Levels.{inner}
use Rattle.cobol_grammar.specs.declared.cond_forms.part.SimpleCond.{SimpleCond}
use Rattle.cobol_grammar.specs.declared.cond_forms.test.Setting.{Setting}
use Rattle.cobol_grammar.specs.declared.cond_forms.test.Read.{Read}
use Rattle.cobol_grammar.specs.cond_forms.Token.{begins_plain_rel, begins_rel}
use Rattle.cobol_grammar.specs.cond_forms.Relation.{rel}
use Rattle.cobol_grammar.specs.cond_forms.Test.{relation_of, setting_of}
use Rattle.cobol_grammar.specs.cond_forms.Primary.{prim}
use Rattle.cobol_grammar.specs.cond_forms.Alone.{part_of, settled}

-- rel operand, whose left side was set before
unfoldable pub abbreviated_by : Names → Inner → Bool → Setting → ℕ → Form SimpleCond
abbreviated_by names inner negated setting count = do
  more ← count_terms count setting.terms
  sign ← rel negated
  right ← operand names inner more
  note (value_fault right.0)
  note (relation_fault setting.left right.0)
  pure (part_of (relation_of setting.left sign right.0) (Some
      (setting_of setting.left sign setting.terms)) right.1 false)

-- the same, where a left side was set; else no condition is here
unfoldable pub abbreviated : Names → Inner → Bool → Option Setting → ℕ → Form SimpleCond
abbreviated names inner negated None count = refuse Syntax
abbreviated names inner negated (Some setting) count =
    abbreviated_by names inner negated setting count

-- a primary condition, negated or not
unfoldable pub prim_part : Names → Inner → (ℕ → Form Read) → Bool → Option Setting → ℕ →
    Form SimpleCond
prim_part names inner content negated setting count =
    prim names inner content count >>= settled negated setting

-- what follows NOT: an abbreviation that begins with its sign, or a primary condition
unfoldable pub behind_not : Names → Inner → (ℕ → Form Read) → Option Setting → ℕ → Form SimpleCond
behind_not names inner content setting count = where_next begins_plain_rel
    (abbreviated names inner true setting count)
    (count_terms count 1 >>= (λ more. prim_part names inner content true setting more))

-- NOT, and what follows it
unfoldable pub not_neg : Names → Inner → (ℕ → Form Read) → Option Setting → ℕ → Form SimpleCond
not_neg names inner content setting count =
    key (codes "NOT") >> behind_not names inner content setting count

-- a condition without AND and OR: [NOT] prim, or an abbreviation that begins with its sign
unfoldable pub neg : Names → Inner → (ℕ → Form Read) → Option Setting → ℕ → Form SimpleCond
neg names inner content setting count =
    where_next (is_key (codes "NOT")) (not_neg names inner content setting count)
    (where_next begins_rel (abbreviated names inner false setting count)
    (prim_part names inner content false setting count))
