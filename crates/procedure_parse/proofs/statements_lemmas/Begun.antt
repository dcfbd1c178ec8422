-- What is read of PERFORM goes on from its boxes as from itself.
use Rattle.std.proofs.Common.{◌≡◌, Bool, false, refl, ap, ◌∙◌}
use Rattle.parser_combinators.specs.Form.{Input, Outcome, Got, Stop}
use Rattle.parser_combinators.specs.Form.{chosen, is_next, then_read, where_next}
use Rattle.cobol_grammar.specs.declared.stmt_forms.head.PerformHead.{PerformHead}
use Rattle.cobol_grammar.specs.declared.stmt_forms.head.PerformHead.TheVariants as heads
use Rattle.cobol_grammar.specs.declared.stmt_forms.scope.Scope.{Scope}
use Rattle.cobol_grammar.specs.stmt_forms.Arms.{Level, FoundOne, arithmetic_stmt}
use Rattle.cobol_grammar.specs.stmt_forms.Choice.{choice_stmt}
use Rattle.cobol_grammar.specs.stmt_forms.Loop.{perform_head, perform_by, perform_stmt}
use Rattle.cobol_grammar.specs.stmt_forms.Part.{Parts}
use Rattle.cobol_grammar.specs.stmt_forms.Stmt.{holding_stmt}
use Rattle.cobol_grammar.specs.stmt_forms.Verb.{begins_arithmetic, begins_choice}
use Rattle.procedure_parse.specs.declared.drafts.made.Begun.{Begun}
use Rattle.procedure_parse.specs.drafts.Step.{begun, perform_begun, perform_from}

abbrev pub from_begun : Level → Scope → Outcome Begun → Outcome FoundOne
from_begun level scope read = then_read read (λ head q. (perform_from level scope head).reads q)

goes_on : (level : Level) (scope : Scope) (read : Outcome PerformHead) →
    then_read read (λ head q. (perform_by level scope head).reads q)
    ≡ from_begun level scope (then_read read (λ head q. Got (begun head) q))
unfolding perform_by
goes_on level scope (Got (heads.Whole stmt pending_not) q) = refl
goes_on level scope (Got (heads.Inline control) q) = refl
goes_on level scope (Stop why rest) = refl

perform_read : {Side Known : Type 0} (parts : Parts Side Known) (level : Level)
    (scope : Scope) (p : Input) (read : Outcome Begun) →
    (perform_begun parts level.enter).reads p ≡ read →
    (perform_stmt parts level scope).reads p ≡ from_begun level scope read
unfolding perform_stmt
perform_read parts level scope p read e =
    goes_on level scope ((perform_head parts level.enter).reads p) ∙ ap (from_begun level scope) e

-- and so where a statement is read that holds others and is neither arithmetic nor a choice
pub held_read : {Side Known : Type 0} (parts : Parts Side Known) (level : Level)
    (scope : Scope) (p : Input) (read : Outcome Begun) →
    is_next begins_arithmetic p ≡ false → is_next begins_choice p ≡ false →
    (perform_begun parts level.enter).reads p ≡ read →
    (holding_stmt parts level scope).reads p ≡ from_begun level scope read
unfolding holding_stmt
held_read parts level scope p read no_work no_choice e =
    ap (λ (is_work : Bool). (chosen is_work (arithmetic_stmt parts level scope)
    (where_next begins_choice (choice_stmt parts level scope)
    (perform_stmt parts level scope))).reads p) no_work
    ∙ ap (λ (is_choice : Bool). (chosen is_choice (choice_stmt parts level scope)
    (perform_stmt parts level scope)).reads p) no_choice
    ∙ perform_read parts level scope p read e
