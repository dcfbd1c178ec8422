use Rattle.std.proofs.Common.{◌≡◌, suc, ◌-◌, Bool, true, false, ap, sym, ◌∙◌, subst, arith}
use Rattle.std.specs.Prelude.{codes}
use Rattle.std.proofs.lemmas.Result.{err_from_is_err_and}
use Rattle.parser_combinators.specs.declared.why.Why.TheVariants.{Syntax}
use Rattle.parser_combinators.specs.Form.{Input, refuse, chosen, is_next}
use Rattle.parser_combinators.specs.Part.{is_key}
use Rattle.parser_combinators.specs.Reading.{Reads}
use Rattle.parser_combinators.proofs.Loops.{goes_on, ends_err, is_done, shrinks}
use Rattle.cobol_grammar.specs.declared.stmt_forms.scope.Scope.{Scope}
use Rattle.cobol_grammar.specs.stmt_forms.Arms.{Level, Found}
use Rattle.cobol_grammar.specs.stmt_forms.Part.{Parts}
use Rattle.cobol_grammar.specs.stmt_forms.Stmt as all
use Rattle.cobol_grammar.specs.stmt_forms.Verb.{begins_simple, begins_stmt}
use Rattle.cobol_grammar.proofs.stmt_forms_lemmas.HoldingLaws as laws
use Rattle.procedure_parse.specs.drafts.Step as steps
use Rattle.procedure_parse.proofs.statements.held.+stmt.Goals as goal

simple_turn : {Side Known : Type 0} (parts : Parts Side Known) (level : Level) (scope : Scope) (found : Found) (p : Input) → found.1 ≡ false → is_next begins_simple p ≡ true → (all.stmts_turn parts level scope found).reads p ≡ (steps.simple parts scope found.0).reads p
unfolding all.stmts_turn all.stmt
simple_turn parts level scope found p goes_on simple =
    ap (λ (pending_not : Bool). (chosen pending_not (refuse Syntax) (all.stmt parts level scope found.0)).reads p) goes_on
    ∙ ap (λ (is_simple : Bool). (chosen is_simple (steps.simple parts scope found.0) (all.held_stmts parts level scope found.0)).reads p) simple

pub stmts_turn-returns-then-at_simple : goal.stmts_turn-returns-then-at_simple
stmts_turn-returns-then-at_simple g t c =
    let before : Found = (c.found.inside.stmts, c.found.inside.pending_not) in
    subst (λ found. Reads ((all.stmts_turn (g.P.Parts.parts c.args.parts.now) (all.level (g.P.Parts.parts c.args.parts.now) c.args.context.levels) c.args.context.scope found).reads c.args.cursor.now) c.simple.result c.simple.new.cursor) c.found.view_is
    (subst (λ o. Reads o c.simple.result c.simple.new.cursor) (sym (simple_turn (g.P.Parts.parts c.args.parts.now) (all.level (g.P.Parts.parts c.args.parts.now) c.args.context.levels) c.args.context.scope before c.args.cursor.now c.if-pending_not.false (sym c.at_simple.ensures ∙ c.if-at_simple.true))) c.simple.ensures)

pub whens_from-returns-in_err-state : goal.whens_from-returns-in_err-state
whens_from-returns-in_err-state g t c =
    let p = err_from_is_err_and c.from_residual.result c.from_residual.ensures.1 in
    rw (p.1, p.2) (ends_err (is_key (codes "WHEN")) (laws.whens_turn (g.met.P.Parts.lawful c.args.parts.now) (laws.level (g.met.P.Parts.lawful c.args.parts.now) c.args.context.levels) c.args.context.scope c.args.known.now) c.whens.state c.in_err-state.field-0.0 c.whens.cursor c.whens_turn.new.cursor _ c.whens-test.ensures c.in_err-state.ensures c.whens.invariant)

pub whens_from-whens-smaller : goal.whens_from-whens-smaller
whens_from-whens-smaller g t c = shrinks (laws.whens_turn (g.met.P.Parts.lawful c.args.parts.now) (laws.level (g.met.P.Parts.lawful c.args.parts.now) c.args.context.levels) c.args.context.scope c.args.known.now c.whens.state) _ _ _ c.in_ok-state.ensures

pub whens_from-whens-preserved : goal.whens_from-whens-preserved
whens_from-whens-preserved g t c = goes_on (is_key (codes "WHEN")) (laws.whens_turn (g.met.P.Parts.lawful c.args.parts.now) (laws.level (g.met.P.Parts.lawful c.args.parts.now) c.args.context.levels) c.args.context.scope c.args.known.now) c.whens.state _ c.whens.cursor _ _ c.whens-test.ensures c.in_ok-state.ensures c.whens.invariant

pub whens_from-returns : goal.whens_from-returns
whens_from-returns g t c = is_done (is_key (codes "WHEN")) (laws.whens_turn (g.met.P.Parts.lawful c.args.parts.now) (laws.level (g.met.P.Parts.lawful c.args.parts.now) c.args.context.levels) c.args.context.scope c.args.known.now) c.whens.state c.whens.cursor _ c.whens-test.ensures c.whens.invariant

pub stmts_from-returns-in_err-found : goal.stmts_from-returns-in_err-found
stmts_from-returns-in_err-found g t c =
    let p = err_from_is_err_and c.from_residual.result c.from_residual.ensures.1 in
    rw (p.1, p.2) (ends_err (begins_stmt) (laws.stmts_turn (g.met.P.Parts.lawful c.args.parts.now) (laws.level (g.met.P.Parts.lawful c.args.parts.now) c.args.context.levels) c.args.context.scope) c.stmts.found c.in_err-found.field-0.0 c.stmts.cursor c.stmts_turn.new.cursor _ c.stmts-test.ensures c.in_err-found.ensures c.stmts.invariant)

pub stmts_from-stmts-smaller : goal.stmts_from-stmts-smaller
stmts_from-stmts-smaller g t c = shrinks (laws.stmts_turn (g.met.P.Parts.lawful c.args.parts.now) (laws.level (g.met.P.Parts.lawful c.args.parts.now) c.args.context.levels) c.args.context.scope c.stmts.found) _ _ _ c.in_ok-found.ensures

pub stmts_from-stmts-preserved : goal.stmts_from-stmts-preserved
stmts_from-stmts-preserved g t c = goes_on (begins_stmt) (laws.stmts_turn (g.met.P.Parts.lawful c.args.parts.now) (laws.level (g.met.P.Parts.lawful c.args.parts.now) c.args.context.levels) c.args.context.scope) c.stmts.found _ c.stmts.cursor _ _ c.stmts-test.ensures c.in_ok-found.ensures c.stmts.invariant

pub stmts_from-returns : goal.stmts_from-returns
stmts_from-returns g t c = is_done (begins_stmt) (laws.stmts_turn (g.met.P.Parts.lawful c.args.parts.now) (laws.level (g.met.P.Parts.lawful c.args.parts.now) c.args.context.levels) c.args.context.scope) c.stmts.found c.stmts.cursor _ c.stmts-test.ensures c.stmts.invariant

pub held-returns-then-context-eq0 : goal.held-returns-then-context-eq0
unfolding all.held
held-returns-then-context-eq0 g t c =
    let none : c.args.context.levels ≡ 0 = omega arith in ap (λ n. (all.held (g.P.Parts.parts c.args.parts.now) n c.args.context.scope).reads c.args.cursor.now) none

pub held-returns : goal.held-returns
unfolding all.held
held-returns g t c =
    let e : suc (c.args.context.levels - 1) ≡ c.args.context.levels = omega arith in
    subst (λ n. Reads ((all.held (g.P.Parts.parts c.args.parts.now) n c.args.context.scope).reads c.args.cursor.now) c.stmts_with.result c.stmts_with.new.cursor) e c.stmts_with.ensures
