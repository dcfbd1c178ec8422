-- What may be subscripts begins a window, since a colon is next: a step of the code.
use Rattle.std.specs.Prelude.{ℕ, Bool}
use Rattle.cobol_grammar.specs.declared.expr_forms.either.MaybeSubscripts.{MaybeSubscripts}
use Rattle.cobol_grammar.specs.declared.expr_forms.reference.Suffix.{Suffix}
use Rattle.cobol_grammar.specs.expr_forms.Chain.{finish}
use Rattle.cobol_grammar.specs.expr_forms.Front.{window_suffix}
use Rattle.cobol_grammar.specs.expr_forms.Limit.{Inner, count_terms}
use Rattle.symbol_tables.specs.data_names.Names.{Names}
use Rattle.parser_combinators.specs.Form.{Form, ◌>>=◌}

-- the window, with the terms of its first expression counted now
abbrev pub colon_end : Names → Inner → (alone : Bool) → ℕ → MaybeSubscripts → Form (Suffix × ℕ)
colon_end names inner alone count either = count_terms count either.leaves
    >>= (λ more. window_suffix names inner alone (finish either.chain) more)
