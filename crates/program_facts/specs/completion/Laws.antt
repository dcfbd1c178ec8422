-- What is stated of statements that are cut.
use Rattle.std.specs.Prelude.{ℕ, ◌≡◌, true}
use Rattle.cob_tree.specs.declared.stmt.Stmt.{Stmt}
use Rattle.control_flow_theory.specs.language.Control.{seen}
use Rattle.control_flow_theory.specs.lowering.Completes.{whole}

-- a statement without an escape is the same for control in whatever section it is
abbrev pub SectionsSeeWholeStatementsAlike : Type 0
SectionsSeeWholeStatementsAlike =
    (stmt : Stmt) (last other : ℕ) → whole (seen last stmt) ≡ true →
    seen last stmt ≡ seen other stmt
