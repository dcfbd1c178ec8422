-- Statements in scope: EXIT SECTION is in a section, EXIT PERFORM in a loop, and EXIT without a
-- further word, which is to be alone in its paragraph, nowhere.
use Rattle.std.specs.Prelude.{Bool, true, false, ◌&&◌, List, map}
use Rattle.cob_tree.specs.declared.stmt.Arms.{Arms, fold-Arms}
use Rattle.cob_tree.specs.declared.stmt.Stmt.{Stmt, fold-Stmt}
use Rattle.cob_tree.specs.declared.stmt.Stmt.TheOpen.{Stmt-F, Arms-F, When-F}
use Rattle.cob_tree.specs.declared.stmt.When.{When, fold-When}
use Rattle.control_flow_theory.specs.language.All.{all}
use Rattle.program_facts.specs.well_scoped.Part.{if_any}
use Rattle.cobol_grammar.specs.declared.stmt_forms.scope.Scope.{Scope}
use Rattle.cobol_grammar.specs.stmt_forms.Loop.{looped}

-- a test of statements in a scope
abbrev pub Scoped : Type 0
Scoped = Scope → Bool

-- each of these is in scope
abbrev pub each_in : List Scoped → Scoped
each_in list scope = all (map (λ (one : Scoped). one scope) list)

-- one level of a statement
abbrev pub stmt_step : Stmt-F Scoped Scoped Scoped → Scoped
stmt_step (Stmt-F.Arith calc into arms) scope = arms scope
stmt_step (Stmt-F.Read file into arms) scope = arms scope
stmt_step (Stmt-F.If cond met unmet) scope = each_in met scope && each_in unmet scope
stmt_step (Stmt-F.Evaluate subject whens other) scope =
    each_in whens scope && if_any (λ (list : List Scoped). each_in list scope) other
stmt_step (Stmt-F.Loop control body) scope = each_in body (looped scope)
stmt_step Stmt-F.Exit scope = false
stmt_step Stmt-F.ExitSection scope = scope.in_section
stmt_step (Stmt-F.ExitPerform cycle) scope = scope.in_loop
stmt_step _ scope = true

-- one level of a statement's arms
abbrev pub arms_step : Arms-F Scoped Scoped Scoped → Scoped
arms_step arms scope =
    if_any (λ (list : List Scoped). each_in list scope) arms.first
    && if_any (λ (list : List Scoped). each_in list scope) arms.second

-- one level of a WHEN
abbrev pub when_step : When-F Scoped Scoped Scoped → Scoped
when_step when scope = each_in when.stmts scope

-- a statement is
abbrev pub is_in_scope : Stmt → Scoped
is_in_scope = fold-Stmt Scoped Scoped Scoped stmt_step arms_step when_step

-- a statement's arms are
abbrev pub are_arms_in_scope : Arms → Scoped
are_arms_in_scope = fold-Arms Scoped Scoped Scoped stmt_step arms_step when_step

-- a WHEN is
abbrev pub is_when_in_scope : When → Scoped
is_when_in_scope = fold-When Scoped Scoped Scoped stmt_step arms_step when_step

-- these statements are in scope
abbrev pub are_in_scope : List Stmt → Scoped
are_in_scope list = each_in (map is_in_scope list)
