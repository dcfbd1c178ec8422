-- There is no word on an added item in the arms of a statement.
use Rattle.std.specs.Prelude.{List, [], ◌∷◌, Option, Some, None}
use Rattle.cob_tree.specs.declared.stmt.Arms.{Arms, out-Arms}
use Rattle.cob_tree.specs.declared.stmt.Stmt.{Stmt}
use Rattle.cob_tree.specs.declared.stmt.When.{When}
use Rattle.control_flow_theory.specs.language.Control.{seen_stmts, seen_when}
use Rattle.control_flow_theory.specs.language.Own.{OwnStmts}

-- none in an arm, which may be absent
abbrev pub OwnIfAny : Option (List Stmt) → Type 0
OwnIfAny None = Unit {0}
OwnIfAny (Some stmts) = OwnStmts (seen_stmts 0 stmts)

-- none in the two arms of READ or of arithmetic
abbrev pub OwnBoth : Arms → Type 0
OwnBoth arms = OwnIfAny (out-Arms arms).first × OwnIfAny (out-Arms arms).second

-- none in these WHENs
abbrev pub OwnWhens : List When → Type 0
OwnWhens [] = Unit {0}
OwnWhens (when ∷ whens) = OwnStmts (seen_when 0 when).arm × OwnWhens whens
