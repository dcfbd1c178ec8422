-- The form of a name in front of what may be subscripts, in parts; `name_front` of `expr_forms` is
-- `named_front`.
use Rattle.std.specs.Prelude.{ℕ, false, List}
use Rattle.parser_combinators.specs.declared.note.Position.{Position}
use Rattle.symbol_tables.specs.declared.data_names.name.Referent.{Referent}
use Rattle.cobol_grammar.specs.declared.expr_forms.front.FirstInParens.{FirstInParens}
use Rattle.cobol_grammar.specs.declared.expr_forms.front.FirstInParens.TheVariants as fronts
use Rattle.cobol_grammar.specs.expr_forms.Fault.{found_fault}
use Rattle.cobol_grammar.specs.expr_forms.Either.{ref_either}
use Rattle.cobol_grammar.specs.expr_forms.Front.{sum_front}
use Rattle.cobol_grammar.specs.expr_forms.Limit.{Inner, count_terms}
use Rattle.cobol_grammar.specs.expr_forms.Reference.{qualifiers, ref_behind}
use Rattle.symbol_tables.specs.data_names.Names.{Names}
use Rattle.symbol_tables.specs.data_names.Look.{look}
use Rattle.parser_combinators.specs.words.Word.{name}
use Rattle.cob_base.specs.Bytes.{left_parenthesis}
use Rattle.parser_combinators.specs.Form.{Form, pure, note, ◌>>=◌, ◌>>◌, where_next}
use Rattle.parser_combinators.specs.Part.{is_mark}

-- a name with subscripts or a window of its own
unfoldable pub enclosing_front : Inner → Referent → (of : List (List ℕ)) → Position → ℕ →
    Form FirstInParens
enclosing_front inner found of position count =
    count_terms count 1 >>= (λ more. ref_behind inner found of position more >>= sum_front)

-- a name alone in front, without a parenthesis after it
unfoldable pub bare_front : Referent → (of : List (List ℕ)) → Position → Form FirstInParens
bare_front found of position =
    note (found_fault found 0 false position)
    >> pure (fronts.Either (ref_either found of position))

-- what a name in front is, by whether a parenthesis follows it
unfoldable pub name_behind : Inner → Referent → (of : List (List ℕ)) → Position → ℕ →
    Form FirstInParens
name_behind inner found of position count = where_next (is_mark left_parenthesis)
    (enclosing_front inner found of position count) (bare_front found of position)

-- a name in front
unfoldable pub named_front : Names → Inner → ℕ → Form FirstInParens
named_front names inner count = do
  first ← name
  of ← qualifiers
  name_behind inner (look names first.0 of) of first.1 count
