-- Tests of the tree: there is a PERFORM of a paragraph in it.
use Rattle.std.specs.Prelude.{ℕ, ◌≤◌, ◌<◌, Bool, true, false, if◌then◌else◌, ◌==◌, List, [], ◌∷◌, map, length, take, IsTrue, Option, Some, None}
use Rattle.cob_tree.specs.declared.stmt.Stmt.{Stmt, fold-Stmt}
use Rattle.cob_tree.specs.declared.stmt.Stmt.TheOpen.{Stmt-F, Arms-F, When-F}
use Rattle.cob_tree.specs.declared.stmt.Arms.{Arms, fold-Arms}
use Rattle.cob_tree.specs.declared.stmt.When.{When, fold-When}
use Rattle.cob_tree.specs.declared.program.Paragraph.{Paragraph}

-- one of these holds
abbrev pub any : List Bool → Bool
any [] = false
any (first ∷ others) = if first then true else any others

-- one of an arm does, which may be absent
abbrev pub any_if : Option (List Bool) → Bool
any_if None = false
any_if (Some tests) = any tests

-- one level of a statement
abbrev pub performs_step : ℕ → Stmt-F Bool Bool Bool → Bool
performs_step number (Stmt-F.Arith calc into arms) = arms
performs_step number (Stmt-F.Read file into arms) = arms
performs_step number (Stmt-F.If cond met unmet) = if any met then true else any unmet
performs_step number (Stmt-F.Evaluate subject whens other) =
    if any whens then true else any_if other
performs_step number (Stmt-F.Loop control body) = any body
performs_step number (Stmt-F.Perform entry exit control) = entry == number
performs_step number _ = false

-- one level of a statement's arms
abbrev pub arms_step : Arms-F Bool Bool Bool → Bool
arms_step arms = if any_if arms.first then true else any_if arms.second

-- one level of a WHEN
abbrev pub when_step : When-F Bool Bool Bool → Bool
when_step when = any when.stmts

-- the statement is or holds a PERFORM from this paragraph on
abbrev pub stmt_performs : ℕ → Stmt → Bool
stmt_performs number = fold-Stmt Bool Bool Bool (performs_step number) arms_step when_step

-- one of a statement's arms holds such a PERFORM
abbrev pub arms_perform : ℕ → Arms → Bool
arms_perform number = fold-Arms Bool Bool Bool (performs_step number) arms_step when_step

-- a WHEN holds such a PERFORM
abbrev pub when_performs : ℕ → When → Bool
when_performs number = fold-When Bool Bool Bool (performs_step number) arms_step when_step

-- one of these statements is or holds such a PERFORM
abbrev pub stmts_perform : ℕ → List Stmt → Bool
stmts_perform number stmts = any (map (stmt_performs number) stmts)

-- one of these WHENs holds such a PERFORM
abbrev pub whens_perform : ℕ → List When → Bool
whens_perform number whens = any (map (when_performs number) whens)

-- the paragraph holds such a PERFORM
abbrev pub paragraph_performs : ℕ → Paragraph → Bool
paragraph_performs number paragraph =
    any (map (λ sentence. stmts_perform number sentence.stmts) paragraph.sentences)

-- some of these paragraphs performs it
abbrev pub some_performs : ℕ → List Paragraph → Bool
some_performs number paragraphs = any (map (paragraph_performs number) paragraphs)

-- each paragraph but the first is performed from an earlier one
abbrev pub EachPerformed : List Paragraph → Type 0
EachPerformed paragraphs =
    (number : ℕ) → 1 ≤ number → number < length paragraphs →
    IsTrue (some_performs number (take number paragraphs))
