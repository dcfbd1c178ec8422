-- What makes a program structured.
use Rattle.std.specs.Prelude.{◌≡◌, Bool, true, false, ◌&&◌, List, map, All, IsTrue, IsSome, None}
use Rattle.cob_tree.specs.declared.stmt.Stmt.{Stmt, fold-Stmt}
use Rattle.cob_tree.specs.declared.stmt.Stmt.TheOpen.{Stmt-F, Arms-F, When-F}
use Rattle.cob_tree.specs.declared.stmt.Arms.{Arms, fold-Arms}
use Rattle.cob_tree.specs.declared.stmt.When.{When, fold-When}
use Rattle.cob_tree.specs.declared.program.Paragraph.{Paragraph}
use Rattle.cob_tree.specs.declared.program.Program.{Program}
use Rattle.control_flow_theory.specs.language.All.{all, all_if}
use Rattle.control_flow_theory.specs.language.Control.{control_of}
use Rattle.control_flow_theory.specs.language.Structured as control

-- EXIT without a further word acts on nothing, so control doesn't tell it from other statements

-- one level of a statement
abbrev pub exitless_step : Stmt-F Bool Bool Bool → Bool
exitless_step (Stmt-F.Arith calc into arms) = arms
exitless_step (Stmt-F.Read file into arms) = arms
exitless_step (Stmt-F.If cond met unmet) = all met && all unmet
exitless_step (Stmt-F.Evaluate subject whens other) = all whens && all_if other
exitless_step (Stmt-F.Loop control body) = all body
exitless_step Stmt-F.Exit = false
exitless_step _ = true

-- one level of a statement's arms
abbrev pub exitless_arms : Arms-F Bool Bool Bool → Bool
exitless_arms arms = all_if arms.first && all_if arms.second

-- one level of a WHEN
abbrev pub exitless_when : When-F Bool Bool Bool → Bool
exitless_when when = all when.stmts

-- the statement neither is nor holds an EXIT
abbrev pub exitless : Stmt → Bool
exitless = fold-Stmt Bool Bool Bool exitless_step exitless_arms exitless_when

-- no EXIT is in a statement's arms
abbrev pub arms_exitless : Arms → Bool
arms_exitless = fold-Arms Bool Bool Bool exitless_step exitless_arms exitless_when

-- no EXIT is in a WHEN
abbrev pub when_exitless : When → Bool
when_exitless = fold-When Bool Bool Bool exitless_step exitless_arms exitless_when

-- none of these statements is or holds an EXIT
abbrev pub stmts_exitless : List Stmt → Bool
stmts_exitless stmts = all (map exitless stmts)

-- none of its statements is or holds an EXIT
abbrev pub NoExit : Paragraph → Type 0
NoExit paragraph = All (λ sentence. IsTrue (stmts_exitless sentence.stmts)) paragraph.sentences

-- named, in no section, and without EXIT
pub record IsProcedure (paragraph : Paragraph) : Type 0 where
  pub named : IsSome paragraph.name
  pub free : paragraph.section ≡ None
  pub exitless : NoExit paragraph

-- procedures whose control is structured: no jump, one sentence each, each PERFORM names one later
-- paragraph, the first ends in STOP RUN, and each other one is performed from an earlier one
pub record IsStructured (program : Program) : Type 0 where
  pub procedures : All IsProcedure program.paragraphs
  pub structured : control.IsStructuredControl (control_of program)
