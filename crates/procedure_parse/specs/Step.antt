-- What is left of a form of `stmt_forms` after its first parts: a step of the code each.
use Rattle.std.specs.Prelude.{ℕ, true, List, Some}
use Rattle.cob_tree.specs.declared.program.Paragraph.{Paragraph}
use Rattle.parser_combinators.specs.Form.{Form, pure, ◌>>=◌, ◌>>◌, where_next}
use Rattle.parser_combinators.specs.Part.{period, ended as no_more}
use Rattle.cobol_grammar.specs.declared.stmt_forms.outline.Outline.{Outline}
use Rattle.cobol_grammar.specs.stmt_forms.Paragraph as forms
use Rattle.cobol_grammar.specs.stmt_forms.Part.{Parts}
use Rattle.cobol_grammar.specs.stmt_forms.Verb.{begins_stmt}

-- a section after its header
abbrev pub section_behind : {Side Known : Type 0} → Parts Side Known →
    List ℕ → List Paragraph → Form Outline
section_behind parts name done =
    where_next begins_stmt (forms.section_start parts name done)
    (pure (forms.outline_of done (Some name) true))

-- a section from the period of its header on
abbrev pub section_closed : {Side Known : Type 0} → Parts Side Known →
    List ℕ → Outline → Form Outline
section_closed parts name state =
    period >> section_behind parts name (forms.with_pending state.pending state.done)

-- a paragraph after its header
abbrev pub paragraph_behind : {Side Known : Type 0} → Parts Side Known →
    List ℕ → Outline → Form Outline
paragraph_behind parts name state =
    forms.sentences parts (forms.scope_of state.in_section)
    >>= (λ found. pure (forms.with_paragraph
    (forms.paragraph_of (Some name) state.pending found) state))

-- what was found, where no token is left
abbrev pub division_ended : {A : Type 0} → A → Form A
division_ended found = no_more >> pure found
