-- The arms that choices have for certain: IF its first, READ its AT END where it is there, EVALUATE
-- and its kind some arm that is given, and READ and arithmetic some arm, be it missing.
use Rattle.std.specs.Prelude.{ℕ, ◌≡◌, Bool, true, false, List, Some, slice_get}
use Rattle.control_flow_theory.specs.language.Each.{EachStmt, EachStmts, EachArm, EachBody}
use Rattle.control_flow_theory.specs.language.Language.{Evaluate, Read, Arith, Depending, Picker, If, By, ByCell, Stmt, Choose, Stmts, Arms, done, given, missing, Body}
use Rattle.control_flow_theory.specs.semantics.Graph.{body_of}
use Rattle.branch_tree.specs.Tree.{seen_tree}
use Rattle.procedure_split.specs.declared.shaped_ranges.shaping.Closed.{Closed}

-- the first arm is given
abbrev pub begins_given : Arms → Bool
begins_given done = false
begins_given (given arm others) = true
begins_given (missing others) = false

-- there is an arm, be it missing
abbrev pub has_some : Arms → Bool
has_some done = false
has_some (given arm others) = true
has_some (missing others) = true

-- some arm is given
abbrev pub has_given : Arms → Bool
has_given done = false
has_given (given arm others) = true
has_given (missing others) = has_given others

-- a choice has the arms that it has for certain
abbrev pub HasArms : Picker → Arms → Type 0
HasArms (If test) arms = begins_given arms ≡ true
HasArms (By (Evaluate subject tests has_other)) arms = has_given arms ≡ true
HasArms (By (Read file into true)) arms = begins_given arms ≡ true
HasArms (By (Read file into false)) arms = has_some arms ≡ true
HasArms (By (Arith calc into)) arms = has_some arms ≡ true
HasArms (By (Depending on names)) arms = has_given arms ≡ true
HasArms (ByCell cell) arms = has_given arms ≡ true

-- a choice has them
abbrev pub ChoiceHasArms : Stmt → Type 0
ChoiceHasArms (Choose picker arms) = HasArms picker arms
ChoiceHasArms stmt = Unit {0}

-- each choice in this statement has them
abbrev pub StmtHasArms : Stmt → Type 0
StmtHasArms stmt = EachStmt ChoiceHasArms stmt

-- each choice in these statements has them
abbrev pub StmtsHaveArms : Stmts → Type 0
StmtsHaveArms stmts = EachStmts ChoiceHasArms stmts

-- each choice in these arms has them
abbrev pub EachArmHas : Arms → Type 0
EachArmHas arms = EachArm ChoiceHasArms arms

-- each choice in a loop's body has them
abbrev pub BodyHasArms : Body → Type 0
BodyHasArms body = EachBody ChoiceHasArms body

-- each choice in the shaped bodies has its arms
abbrev pub ClosedHaveArms : List Closed → Type 0
ClosedHaveArms closed = (at : ℕ) (one : Closed) → slice_get closed at ≡ Some one →
    StmtsHaveArms (body_of (seen_tree one.tree))
