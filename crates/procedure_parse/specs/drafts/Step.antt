-- Steps of the code, as forms: what is read before and after what a statement holds.
use Rattle.std.specs.Prelude.{ℕ, Bool, false, List}
use Rattle.cob_tree.specs.declared.stmt.Stmt.{Stmt}
use Rattle.parser_combinators.specs.Form.{Form, pure, ◌>>=◌, ◌>>◌}
use Rattle.cobol_grammar.specs.declared.stmt_forms.head.ArithmeticVerb.{ArithmeticVerb}
use Rattle.cobol_grammar.specs.declared.stmt_forms.head.PerformHead.{PerformHead}
use Rattle.cobol_grammar.specs.declared.stmt_forms.head.PerformHead.TheVariants as heads
use Rattle.procedure_parse.specs.declared.drafts.made.Begun.{Begun}
use Rattle.procedure_parse.specs.declared.drafts.made.Begun.TheVariants as ways
use Rattle.cobol_grammar.specs.declared.stmt_forms.scope.Scope.{Scope}
use Rattle.cobol_grammar.specs.stmt_forms.Arms.{Level, Found, FoundOne, end_word, end_work}
use Rattle.cobol_grammar.specs.stmt_forms.Loop.{perform_head, loop_body}
use Rattle.cobol_grammar.specs.stmt_forms.Part.{Parts}
use Rattle.cobol_grammar.specs.stmt_forms.Stmt.{simple_stmts}

-- the word that ends a statement, unless NOT was read
abbrev pub ended : {A : Type 0} → List ℕ → A → Bool → Form (A × Bool)
ended word found pending_not = end_word word pending_not >> pure (found, pending_not)

-- the same of arithmetic
abbrev pub work_ended : {A : Type 0} → ArithmeticVerb → A → Bool → Form (A × Bool)
work_ended verb found pending_not = end_work verb pending_not >> pure (found, pending_not)

-- a statement that holds no other, after which no NOT is read
abbrev pub simple : {Side Known : Type 0} → Parts Side Known → Scope → List Stmt → Form Found
simple parts scope before = simple_stmts parts scope before >>= (λ found. pure (found, false))

-- what is read of the head of PERFORM, in boxes
abbrev pub begun : PerformHead → Begun
begun (heads.Whole stmt pending_not) = ways.Whole stmt pending_not
begun (heads.Inline control) = ways.Inline control

-- PERFORM up to the statements of an inline one, in boxes
abbrev pub perform_begun : {Side Known : Type 0} → Parts Side Known → Form (Unit {0}) → Form Begun
perform_begun parts enter = perform_head parts enter >>= (λ head. pure (begun head))

-- PERFORM after it
abbrev pub perform_from : Level → Scope → Begun → Form FoundOne
perform_from level scope (ways.Whole stmt pending_not) = pure (stmt, pending_not)
perform_from level scope (ways.Inline control) = loop_body level scope control
