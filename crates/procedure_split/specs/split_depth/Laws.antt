-- What holds of how deep a program nests that is split.
use Rattle.std.specs.Prelude.{ℕ, ◌≡◌, ◌≤◌, true, List}
use Rattle.cob_tree.specs.Depth.{program_depth}
use Rattle.cob_tree.specs.declared.program.Program.{Program}
use Rattle.cob_tree.specs.declared.stmt.Stmt.{Stmt}
use Rattle.control_flow_theory.specs.language.Control.{seen_stmts}
use Rattle.control_flow_theory.specs.language.Language.{Stmts}
use Rattle.pending_returns.specs.declared.facts.Summary.{Summary}
use Rattle.program_facts.specs.well_scoped.Part.{Counts}
use Rattle.program_facts.specs.well_scoped.Named.{stmts_named}
use Rattle.region_rewrite.specs.written_nesting.Nesting.{nesting}
use Rattle.statement_builders.specs.arms.Written.{Way, all_written}
use Rattle.cob_base.specs.Limit.{max_nesting}
use Rattle.procedure_split.specs.shaped_ranges.Laws.{HasFlow}
use Rattle.procedure_split.specs.Splitting.{IsSplit}
use Rattle.procedure_split.specs.written_depth.Levels.{levels}
use Rattle.procedure_split.specs.split_depth.Arms.{StmtsHaveArms, ClosedHaveArms}

-- what is written of a body whose choices have arms nests just as deep as is judged of it
abbrev pub WrittenStmtsNestAsJudged : Type 0
WrittenStmtsNestAsJudged = (way : Way) (stmts : Stmts) → StmtsHaveArms stmts →
    levels (all_written way stmts) ≡ nesting stmts

-- each choice in statements that are as they are read has its arms
abbrev pub NamedStatementsHaveArms : Type 0
NamedStatementsHaveArms = (counts : Counts) (last : ℕ) (list : List Stmt) →
    stmts_named counts list ≡ true → StmtsHaveArms (seen_stmts last list)

-- what a program is split into nests within the limit
abbrev pub SplitProgramsNestWithin : Type 0
SplitProgramsNestWithin = (program made : Program) (summary : Summary) →
    HasFlow program summary → (split : IsSplit program summary made) →
    ClosedHaveArms split.closed → program_depth made ≤ max_nesting
