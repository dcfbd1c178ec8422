-- The tree's statements with their lists cut, in whatever section they are.
use Rattle.std.specs.Prelude.{ℕ, ◌≡◌, List, map, Option, Some, None}
use Rattle.cob_tree.specs.declared.stmt.Stmt.{Stmt}
use Rattle.cob_tree.specs.declared.stmt.Arms.{Arms}
use Rattle.cob_tree.specs.declared.stmt.When.{When}
use Rattle.control_flow_theory.specs.language.Language as language
use Rattle.control_flow_theory.specs.language.Control.{seen, seen_stmts, seen_both, seen_when, Both, Branch}
use Rattle.control_flow_theory.specs.lowering.FlowFacts.{FlowFacts}
use Rattle.control_flow_theory.specs.lowering.Completes.{cut, cuts}

module _ (told : FlowFacts) where
  -- the statement is the other one, cut
  abbrev pub IsCut : (stmt made : Stmt) → Type 0
  IsCut stmt made = (last : ℕ) → seen last made ≡ cut told (seen last stmt)

  -- the statements are the others, cut
  abbrev pub AreCut : (stmts made : List Stmt) → Type 0
  AreCut stmts made = (last : ℕ) → seen_stmts last made ≡ cuts told (seen_stmts last stmts)

  -- the two arms of READ or of arithmetic

  -- statements that may be absent, cut
  abbrev pub cut_if_any : Option language.Stmts → Option language.Stmts
  cut_if_any None = None
  cut_if_any (Some stmts) = Some (cuts told stmts)

  -- the two arms, each cut
  abbrev pub cut_both : Both → Both
  cut_both both = record { first = cut_if_any both.first; second = cut_if_any both.second }

  -- the arms are the others, each cut
  abbrev pub BothAreCut : (arms made : Arms) → Type 0
  BothAreCut arms made = (last : ℕ) → seen_both last made ≡ cut_both (seen_both last arms)

  -- the phrases WHEN

  -- a WHEN with its statements cut
  abbrev pub cut_branch : Branch → Branch
  cut_branch branch = record { tests = branch.tests; arm = cuts told branch.arm }

  -- the WHENs are the others, each cut
  abbrev pub WhensAreCut : (whens made : List When) → Type 0
  WhensAreCut whens made =
      (last : ℕ) → map (seen_when last) made ≡ map cut_branch (map (seen_when last) whens)
