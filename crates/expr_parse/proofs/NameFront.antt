-- The form of a name in front of what may be subscripts, in parts, is the whole form.
use Rattle.std.proofs.Common.{◌≡◌, ℕ, refl}
use Rattle.parser_combinators.specs.Form.{Input}
use Rattle.symbol_tables.specs.data_names.Names.{Names}
use Rattle.cobol_grammar.specs.expr_forms.Limit.{Inner}
use Rattle.cobol_grammar.specs.expr_forms.Front as whole
use Rattle.expr_parse.specs.Front as in_parts

pub same_front : (names : Names) (inner : Inner) (count : ℕ) (p : Input) →
    (in_parts.named_front names inner count).reads p ≡ (whole.name_front names inner count).reads p
unfolding whole.name_front in_parts.named_front in_parts.name_behind in_parts.enclosing_front in_parts.bare_front
same_front names inner count p = refl
