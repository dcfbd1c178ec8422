-- prim = "(" cond ")" | expr [IS] rel expr | ref [IS] [NOT] (NUMERIC | ALPHABETIC)
--   | expr [IS] [NOT] (POSITIVE | NEGATIVE | ZERO) | ref
use Rattle.std.specs.Prelude.{ℕ, None}
use Rattle.cob_base.specs.Bytes.{left_parenthesis}
use Rattle.parser_combinators.specs.Form.{Form, pure, ◌>>=◌, where_next}
use Rattle.parser_combinators.specs.Part.{is_mark}
use Rattle.symbol_tables.specs.data_names.Names.{Names}
use Rattle.cobol_grammar.specs.declared.expr_forms.side.Side.{Side}
use Rattle.cobol_grammar.specs.expr_forms.Limit.{Inner}
use Rattle.cobol_grammar.specs.expr_forms.Expression.{unary, sum}
use Rattle.cobol_grammar.specs.expr_forms.Levels.{inner}
use Rattle.cobol_grammar.specs.declared.cond_forms.test.Primary.{Primary}
use Rattle.cobol_grammar.specs.declared.cond_forms.test.Primary.TheVariants as prims
use Rattle.cobol_grammar.specs.declared.cond_forms.test.Read.{Read}
use Rattle.cobol_grammar.specs.cond_forms.Test.{read_test, tested}

-- an expression from its first operand on, and its test, if there is one
unfoldable pub side_prim : Names → Inner → ℕ → Side → ℕ → Form Read
side_prim names inner before side count = do
  left ← sum names inner side count
  tested names inner left.0 before left.1

-- what follows parentheses, by which it is decided what was in them
unfoldable pub prim_behind : Names → Inner → ℕ → Primary → ℕ → Form Read
prim_behind names inner before (prims.Test cond setting) count = pure (read_test cond None count)
prim_behind names inner before (prims.Alone side) count = side_prim names inner before side count

-- a primary condition that doesn't begin with a parenthesis
unfoldable pub expr_prim : Names → Inner → ℕ → Form Read
expr_prim names inner count =
    unary names inner count >>= (λ first. side_prim names inner count first.0 first.1)

-- a primary condition that begins with a parenthesis
unfoldable pub parens_prim : Names → Inner → (ℕ → Form Read) → ℕ → Form Read
parens_prim names inner content count =
    content count >>= (λ read. prim_behind names inner count read.prim read.count)

-- a primary condition
unfoldable pub prim : Names → Inner → (ℕ → Form Read) → ℕ → Form Read
prim names inner content count =
    where_next (is_mark left_parenthesis) (parens_prim names inner content count)
    (expr_prim names inner count)
