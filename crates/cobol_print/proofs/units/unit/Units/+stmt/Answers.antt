use Rattle.std.proofs.Common.{◌≡◌, false, List, [], ◌∷◌, ◌++◌, map, Some, None, OnOk, subst, ap, ◌∙◌}
use Rattle.std.proofs.lemmas.List.{append_assoc}
use Rattle.cob_tree.specs.declared.stmt.Stmt.{out-Stmt}
use Rattle.cob_tree.specs.declared.stmt.Stmt.TheVariants.{Evaluate}
use Rattle.unparser.specs.Head.{head_step}
use Rattle.cobol_print.specs.declared.units.unit.PrintUnit.{PrintUnit}
use Rattle.cobol_print.specs.units.Unit.{unit_at, deeper}
use Rattle.cobol_print.specs.units.Statement.{list_lines, held_by_else, held_by_loop, held_by_other, whens_lines, stmt_lines, when_lines}
use Rattle.cobol_print.proofs.units_lemmas.UnitLemmas.{joined_on, added_on}
use Rattle.cobol_print.proofs.units_lemmas.StatementLemmas.{lines-If, lines-Loop, lines-Evaluate}
use Rattle.cobol_print.proofs.units.unit.Units.+stmt.Goals as goal

pub stmt-returns-in_ok-list-in-If : goal.stmt-returns-in_ok-list-in-If
stmt-returns-in_ok-list-in-If t c =
    let program = c.args.program.now in
    let column = c.args.column in
    let head : List PrintUnit = unit_at column (head_step program (out-Stmt c.args.stmt.now)) ∷ [] in
    let met : List PrintUnit = list_lines (map (stmt_lines program) c.in-If.yes) (deeper column) false in
    let unmet : List PrintUnit = held_by_else (map (stmt_lines program) c.in-If.no) column in
    subst (λ lines. OnOk c.held_by_else.result (c.held_by_else.new.self ≡ c.args.self.now ++ lines))
    (lines-If program c.args.stmt.now c.in-If.cond c.in-If.yes c.in-If.no column c.args.closed c.in-If.is)
    (added_on c.held_by_else.result c.args.self.now c.list.new.self c.held_by_else.new.self (head ++ met) unmet
    (joined_on c.args.self.now c.statement_first_line.new.self c.list.new.self head met c.in_ok-statement_first_line.ensures
    (subst (λ n. c.list.new.self ≡ c.statement_first_line.new.self ++ list_lines (map (stmt_lines program) c.in-If.yes) n false)
    c.deeper.ensures c.in_ok-list-in-If.ensures))
    c.held_by_else.ensures)

pub stmt-returns-in-Loop : goal.stmt-returns-in-Loop
stmt-returns-in-Loop t c =
    let program = c.args.program.now in
    let column = c.args.column in
    let head : List PrintUnit = unit_at column (head_step program (out-Stmt c.args.stmt.now)) ∷ [] in
    let held : List PrintUnit = held_by_loop (map (stmt_lines program) c.in-Loop.body) column in
    subst (λ lines. OnOk c.held_by_loop.result (c.held_by_loop.new.self ≡ c.args.self.now ++ lines))
    (lines-Loop program c.args.stmt.now c.in-Loop.control c.in-Loop.body column c.args.closed c.in-Loop.is)
    (added_on c.held_by_loop.result c.args.self.now c.statement_first_line.new.self c.held_by_loop.new.self head held c.in_ok-statement_first_line.ensures c.held_by_loop.ensures)

pub stmt-returns-in-None : goal.stmt-returns-in-None
stmt-returns-in-None t c =
    let program = c.args.program.now in
    let column = c.args.column in
    let head : List PrintUnit = unit_at column (head_step program (out-Stmt c.args.stmt.now)) ∷ [] in
    let whens : List PrintUnit = whens_lines (map (when_lines program) c.in-Evaluate.whens) column in
    let end : List PrintUnit = held_by_other None column in
    let is : c.args.stmt.now ≡ Evaluate c.in-Evaluate.subject c.in-Evaluate.whens None =
    c.in-Evaluate.is ∙ ap (λ other. Evaluate c.in-Evaluate.subject c.in-Evaluate.whens other) c.in-None.is in
    subst (λ lines. OnOk c.word.result (c.word.new.self ≡ c.args.self.now ++ lines))
    (append_assoc head whens end ∙ lines-Evaluate program c.args.stmt.now c.in-Evaluate.subject c.in-Evaluate.whens None column c.args.closed is)
    (added_on c.word.result c.args.self.now c.whens.new.self c.word.new.self (head ++ whens) end
    (joined_on c.args.self.now c.statement_first_line.new.self c.whens.new.self head whens c.in_ok-statement_first_line.ensures c.in_ok-whens-in-Evaluate.ensures)
    c.word.ensures)

pub stmt-returns-in-Some : goal.stmt-returns-in-Some
stmt-returns-in-Some t c =
    let program = c.args.program.now in
    let column = c.args.column in
    let head : List PrintUnit = unit_at column (head_step program (out-Stmt c.args.stmt.now)) ∷ [] in
    let whens : List PrintUnit = whens_lines (map (when_lines program) c.in-Evaluate.whens) column in
    let end : List PrintUnit = held_by_other (Some (map (stmt_lines program) c.in-Some.stmts)) column in
    let is : c.args.stmt.now ≡ Evaluate c.in-Evaluate.subject c.in-Evaluate.whens (Some c.in-Some.stmts) =
    c.in-Evaluate.is ∙ ap (λ other. Evaluate c.in-Evaluate.subject c.in-Evaluate.whens other) c.in-Some.is in
    subst (λ lines. OnOk c.other.result (c.other.new.self ≡ c.args.self.now ++ lines))
    (append_assoc head whens end ∙ lines-Evaluate program c.args.stmt.now c.in-Evaluate.subject c.in-Evaluate.whens (Some c.in-Some.stmts) column c.args.closed is)
    (added_on c.other.result c.args.self.now c.whens.new.self c.other.new.self (head ++ whens) end
    (joined_on c.args.self.now c.statement_first_line.new.self c.whens.new.self head whens c.in_ok-statement_first_line.ensures c.in_ok-whens-in-Evaluate.ensures)
    c.other.ensures)
