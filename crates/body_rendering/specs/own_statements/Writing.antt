-- The arms of a statement, as they are written.
use Rattle.std.specs.Prelude.{◌≡◌, Bool, false, ◌||◌, List, Option, is_some, IsTrue, Result, Ok}
use Rattle.cob_tree.specs.declared.choice.Subject.{Subject}
use Rattle.cob_tree.specs.declared.cond.Cond.{Cond}
use Rattle.cob_tree.specs.declared.stmt.Arms.{Arms, out-Arms}
use Rattle.cob_tree.specs.declared.stmt.Stmt.{Stmt}
use Rattle.cob_tree.specs.declared.stmt.When.{When}
use Rattle.control_flow_theory.specs.language.Control.{cell_chosen, seen_stmts, seen_when, test_of}
use Rattle.control_flow_theory.specs.language.Own.{OwnTest}
use Rattle.statement_builders.specs.arms.Choosing.{IsIf, IsEvaluate}
use Rattle.statement_builders.specs.arms.Placing.{ArePlaced}
use Rattle.statement_builders.specs.arms.Written.{Way, written_branch, written_if_any}
use Rattle.statement_builders.specs.declared.arms.placing.ProcedurePlace.{ProcedurePlace}
use Rattle.cob_base.specs.declared.memory.NoMemory.{NoMemory}
use Rattle.body_rendering.specs.declared.own_statements.writing.Branches.{Branches}
use Rattle.statement_builders.specs.declared.item_words.choices.BothArms.{BothArms}

-- the WHEN is as it is written
abbrev pub IsWhenWritten : List ProcedurePlace → (when made : When) → Type 0
IsWhenWritten places when made = (way : Way) → ArePlaced way.place places →
    seen_when 0 made ≡ written_branch way (seen_when 0 when)

-- the two arms of READ or of arithmetic
pub record IsPairWritten (way : Way) (first second : Option (List Stmt)) (pair : BothArms)
    : Type 0 where
  pub first_is : seen_stmts 0 pair.first ≡ written_if_any way first
  pub second_is : seen_stmts 0 pair.second ≡ written_if_any way second

-- the two arms are as they are written
abbrev pub ArePairWritten : List ProcedurePlace → Arms → BothArms → Type 0
ArePairWritten places arms pair = (way : Way) → ArePlaced way.place places →
    IsPairWritten way (out-Arms arms).first (out-Arms arms).second pair

-- a test, or a subject, without a word on an added item

-- the statement is IF with these arms, of a condition that tests no added item
abbrev pub IsTestIf : Cond → (met unmet : List Stmt) → Stmt → Type 0
IsTestIf cond met unmet made =
    OwnTest (test_of cond) × IsIf cond (seen_stmts 0 met) (seen_stmts 0 unmet) made

-- the same with these arms, which were made
abbrev pub IsOwnIf : Cond → Result BothArms NoMemory → Stmt → Type 0
IsOwnIf cond arms made =
    (pair : BothArms) × (arms ≡ Ok pair) × IsTestIf cond pair.first pair.second made

-- the statement is EVALUATE with these WHENs, of a subject that is no added item
abbrev pub IsBySubject : Subject → List When → (has_other : Bool) → List Stmt → Stmt → Type 0
IsBySubject subject whens has_other other made = (is_some (cell_chosen subject) ≡ false)
    × IsEvaluate subject whens has_other (seen_stmts 0 other) made

-- the same with these WHENs, which were made
abbrev pub IsOwnEvaluate : Subject → Result Branches NoMemory → (has_other : Bool) → Stmt → Type 0
IsOwnEvaluate subject branches has_other made = (both : Branches) × (branches ≡ Ok both)
    × IsBySubject subject both.whens has_other both.other made

-- the first arm is there
abbrev pub has_first : Arms → Bool
has_first arms = is_some (out-Arms arms).first

-- one of the arms is there
abbrev pub has_phrases : Arms → Bool
has_phrases arms = is_some (out-Arms arms).first || is_some (out-Arms arms).second

-- the statement has an arm
abbrev pub HasPhrases : Arms → Type 0
HasPhrases arms = IsTrue (has_phrases arms)
