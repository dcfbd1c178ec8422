-- cond = conj {OR conj}      conj = neg {AND neg}
use Rattle.std.specs.Prelude.{ℕ, zero, suc, Bool, true, false, codes, Option, Some, None}
use Rattle.cob_base.specs.Bytes.{left_parenthesis, right_parenthesis}
use Rattle.cob_tree.specs.declared.cond.Cond.{Cond}
use Rattle.cob_tree.specs.declared.cond.Cond.TheVariants as conds
use Rattle.parser_combinators.specs.declared.note.Position.{Position}
use Rattle.parser_combinators.specs.declared.why.Why.TheVariants.{Syntax, Parens}
use Rattle.parser_combinators.specs.Form.{Form, pure, refuse, ◌>>=◌, ◌>>◌, loop, chosen, where_next}
use Rattle.parser_combinators.specs.Part.{key, mark, is_key, is_mark, too_deep}
use Rattle.symbol_tables.specs.data_names.Names.{Names}
use Rattle.cobol_grammar.specs.declared.expr_forms.side.Side.{Side}
use Rattle.cobol_grammar.specs.expr_forms.Side.{enclosed}
use Rattle.cob_base.specs.Limit.{max_parens}
use Rattle.cobol_grammar.specs.expr_forms.Limit.{Inner}
use Rattle.cobol_grammar.specs.expr_forms.Levels.{inner}
use Rattle.cobol_grammar.specs.declared.cond_forms.part.Joined.{Joined}
use Rattle.cobol_grammar.specs.declared.cond_forms.part.SimpleCond.{SimpleCond}
use Rattle.cobol_grammar.specs.declared.cond_forms.test.Primary.{Primary}
use Rattle.cobol_grammar.specs.declared.cond_forms.test.Primary.TheVariants as prims
use Rattle.cobol_grammar.specs.declared.cond_forms.test.Read.{Read}
use Rattle.cobol_grammar.specs.declared.cond_forms.test.Setting.{Setting}
use Rattle.cobol_grammar.specs.cond_forms.Token.{joins}
use Rattle.cobol_grammar.specs.cond_forms.Test.{read_test}
use Rattle.cobol_grammar.specs.cond_forms.Primary.{prim}
use Rattle.cobol_grammar.specs.cond_forms.Alone.{part_of, alone_part}
use Rattle.cobol_grammar.specs.cond_forms.Neg.{neg}

-- the condition, joined by OR to the one before
abbrev pub whole_of : Option Cond → Cond → Cond
whole_of None cond = cond
whole_of (Some before) cond = conds.Or before cond

-- the parts with one more after AND
abbrev pub and_joined : (before : Option Cond) → (left : Cond) → (next : SimpleCond) → Joined
and_joined before left next = record {
  before = before;
  part = part_of (conds.And left next.cond) next.setting next.count next.pending_not;
}

-- the parts with one more after OR
abbrev pub or_joined : (before : Option Cond) → (left : Cond) → (next : SimpleCond) → Joined
or_joined before left next = record { before = Some (whole_of before left); part = next }

-- all that was joined so far, as one part
abbrev pub joined_whole : Joined → SimpleCond
joined_whole state =
    part_of (whole_of state.before state.part.cond) state.part.setting state.part.count
    state.part.pending_not

-- AND neg
unfoldable pub and_part : Names → Inner → (ℕ → Form Read) →
    Option Cond → Cond → Option Setting → ℕ → Form Joined
and_part names inner content before left setting count = do
  key (codes "AND")
  next ← neg names inner content setting count
  pure (and_joined before left next)

-- OR neg
unfoldable pub or_part : Names → Inner → (ℕ → Form Read) →
    Option Cond → Cond → Option Setting → ℕ → Form Joined
or_part names inner content before left setting count = do
  key (codes "OR")
  next ← neg names inner content setting count
  pure (or_joined before left next)

-- one more part after AND or OR; nothing is joined where a NOT was read that isn't the condition's
-- own
unfoldable pub join : Names → Inner → (ℕ → Form Read) → Joined → Form Joined
join names inner content state = chosen state.part.pending_not (refuse Syntax)
    (where_next (is_key (codes "AND"))
    (and_part names inner content state.before state.part.cond state.part.setting state.part.count)
    (or_part names inner content state.before state.part.cond state.part.setting state.part.count))

-- any number of conditions joined on: {AND neg | OR neg}
abbrev pub joins_from : Names → Inner → (ℕ → Form Read) → Joined → Form Joined
joins_from names inner content first = loop joins (join names inner content) first

-- a whole condition, from its first part on
unfoldable pub conds_from : Names → Inner → (ℕ → Form Read) → SimpleCond → Form SimpleCond
conds_from names inner content first = do
  state ← joins_from names inner content (record { before = None; part = first })
  pure (joined_whole state)

-- a whole condition: neg {AND neg | OR neg}
unfoldable pub cond_with : Names → Inner → (ℕ → Form Read) → ℕ → Form SimpleCond
cond_with names inner content count =
    neg names inner content None count >>= conds_from names inner content

-- ---- in parentheses

-- the parenthesis that ends a condition, where no NOT is left over
unfoldable pub close_cond : SimpleCond → Form Read
close_cond part =
    chosen part.pending_not (refuse Syntax) (mark right_parenthesis >> pure
    (read_test part.cond None part.count))

-- the rest of a condition in parentheses, from its first part on
unfoldable pub content_from : Names → Inner → (ℕ → Form Read) → SimpleCond → Form Read
content_from names inner content first = conds_from names inner content first >>= close_cond

-- the parenthesis that ends an expression
unfoldable pub close_side : Position → Side → ℕ → Form Read
close_side position side count =
    mark right_parenthesis >> pure (record {
      prim = prims.Alone (enclosed position side);
      count = count;
      pending_not = false;
    })

-- a condition in parentheses that begins with an expression without a test
unfoldable pub alone_content : Names → Inner → (ℕ → Form Read) → Side → ℕ → Bool → Form Read
alone_content names inner content side count pending_not =
    alone_part false None side count pending_not >>= content_from names inner content

-- what is in parentheses: an expression alone stays one; what else follows makes it a condition
unfoldable pub content_by : Names → Inner → (ℕ → Form Read) → Position → Primary → ℕ → Bool →
    Form Read
content_by names inner content position (prims.Alone side) count false =
    where_next (is_mark right_parenthesis) (close_side position side count)
    (alone_content names inner content side count false)
content_by names inner content position (prims.Alone side) count true =
    alone_content names inner content side count true
content_by names inner content position (prims.Test cond after) count pending_not =
    content_from names inner content (part_of cond after count pending_not)

-- a condition in parentheses that begins with NOT
unfoldable pub neg_content : Names → Inner → (ℕ → Form Read) → ℕ → Form Read
neg_content names inner content count =
    neg names inner content None count >>= content_from names inner content

-- an expression or a condition in parentheses
unfoldable pub prim_content : Names → Inner → (ℕ → Form Read) → Position → ℕ → Form Read
prim_content names inner content position count =
    prim names inner content count >>=
    (λ read. content_by names inner content position read.prim read.count read.pending_not)

-- an expression or a condition in parentheses: "(" (expr | cond) ")"
unfoldable pub in_content : Names → Inner → (ℕ → Form Read) → ℕ → Form Read
in_content names inner content count = do
  position ← mark left_parenthesis
  where_next (is_key (codes "NOT")) (neg_content names inner content count)
      (prim_content names inner content position count)

-- what is in parentheses, with so many levels of them left
unfoldable pub content : Names → ℕ → ℕ → Form Read
content names zero count = too_deep Parens (is_mark left_parenthesis)
content names (suc n) count = in_content names (inner names n) (content names n) count

-- ---- as statements have it

-- a condition with all that was found of it
unfoldable pub cond : Names → Form SimpleCond
cond names = cond_with names (inner names max_parens) (content names max_parens) 0

-- a condition, and whether a NOT was read after it that isn't its own
unfoldable pub whole_cond : Names → Form (Cond × Bool)
whole_cond names = cond names >>= (λ part. pure (part.cond, part.pending_not))
