-- Choices over the lists of their arms.
use Rattle.std.specs.Prelude.{ℕ, suc, ◌≡◌, ◌+◌, Bool, true, false, not, List, [], ◌∷◌, ◌++◌, length, map}
use Rattle.cob_tree.specs.declared.choice.Subject.{Subject}
use Rattle.cob_tree.specs.declared.choice.Subject.TheVariants as subjects
use Rattle.cob_tree.specs.declared.choice.Test.{Test}
use Rattle.cob_tree.specs.declared.place.Expr.{Expr}
use Rattle.cob_tree.specs.declared.stmt.Stmt.{Stmt}
use Rattle.cob_tree.specs.declared.stmt.Stmt.TheVariants.{Continue}
use Rattle.cob_tree.specs.declared.stmt.When.{When}
use Rattle.control_flow_theory.specs.language.Control.{Branch, seen, seen_stmts, seen_when}
use Rattle.control_flow_theory.specs.language.Language.{Evaluate, Picker, By, Choose, Stmts, none, Arms, done}
use Rattle.control_flow_theory.specs.language.Language as language
use Rattle.control_flow_theory.specs.rendering.Rendering.{Empty, Continues, arm_stands, required, whole_arms, picker_lacks, written_picker}
use Rattle.branch_tree.specs.Choosers.{seen_chooser, seen_picker}
use Rattle.branch_tree.specs.declared.chooser.Chooser.{Chooser}
use Rattle.branch_tree.specs.declared.chooser.Picker as code
use Rattle.cobol_theory.specs.cell_items.Cell.{cell_operand, operand_expr}
use Rattle.cobol_theory.specs.cell_items.Laws.{number_tests}
use Rattle.cobol_theory.specs.cell_serving.Entries.{whole_literal}
use Rattle.cobol_theory.specs.cell_serving.Naming.{numbers_from, whens_of, other_stands}
use Rattle.statement_builders.specs.arms.EmptyArms.{if_had, of_cell, put_arm, stands_so}
use Rattle.statement_builders.specs.arms.Written.{Way, naming_in}
use Rattle.statement_builders.specs.item_words.Words.{EachWay}
use Rattle.statement_builders.specs.declared.item_words.cells.CellItem.{CellItem}

-- arms, each of which is there, the first with this number
abbrev pub put_arms : (ℕ → Empty) → ℕ → List Stmts → Arms
put_arms empty first [] = done
put_arms empty first (stmts ∷ others) =
    put_arm (empty first) stmts (put_arms empty (suc first) others)

-- whether each of these arms is written, the first of which has this number
abbrev pub stand_so : (ℕ → Empty) → ℕ → List Stmts → List Bool
stand_so empty first [] = []
stand_so empty first (stmts ∷ others) =
    arm_stands (empty first) true stmts ∷ stand_so empty (suc first) others

-- what is written of a choice whose arms are written so
abbrev pub chosen : Way → Picker → List Stmts → language.Stmt
chosen way picker lists =
    let empty = (naming_in way).empty way.range picker in
    Choose (written_picker (naming_in way) way.place way.range picker (stand_so empty 0 lists))
    (whole_arms (picker_lacks (naming_in way) way.place way.range picker)
    (put_arms empty 0 lists))

-- the statement is the choice among these arms, by such items
abbrev pub IsChosen : List CellItem → code.Picker → List (List Stmt) → Stmt → Type 0
IsChosen cells by lists made =
    EachWay cells (λ way. seen 0 made ≡ chosen way (seen_picker by) (map (seen_stmts 0) lists))

-- the statement is the choice among these arms by a chooser, and by no cell
abbrev pub IsOwnChoice : Chooser → List (List Stmt) → Stmt → Type 0
IsOwnChoice chooser lists made = (way : Way) →
    seen 0 made ≡ chosen way (By (seen_chooser chooser)) (map (seen_stmts 0) lists)

-- what is written of a choice by such an item
abbrev pub item_chosen : (item : ℕ) → (ends_in_other : Bool) → (most : ℕ) → List Stmts →
    language.Stmt
item_chosen item ends_in_other most lists =
    let stands = stand_so (of_cell ends_in_other most) 0 lists in
    Choose (By (Evaluate (subjects.Value (operand_expr (cell_operand item)))
    (map number_tests (numbers_from whole_literal 1 (whens_of ends_in_other stands)))
    (other_stands ends_in_other stands)))
    (whole_arms (not ends_in_other) (put_arms (of_cell ends_in_other most) 0 lists))

-- the statement is the choice among these arms by the cell's item
abbrev pub IsItemChoice : CellItem → List (List Stmt) → Stmt → Type 0
IsItemChoice cell lists made =
    seen 0 made ≡ item_chosen cell.item cell.ends_in_other cell.most (map (seen_stmts 0) lists)

-- EVALUATE of WHENs.

-- a WHEN with these tests and statements
abbrev pub branch : List Test → Stmts → Branch
branch tests stmts = record { tests = tests; arm = required Continue stmts }

-- a WHEN for each list of tests, and of statements
abbrev pub branches_of : List (List Test) → List Stmts → List Branch
branches_of [] lists = []
branches_of (tests ∷ others) [] = []
branches_of (tests ∷ others) (stmts ∷ lists) = branch tests stmts ∷ branches_of others lists

-- the WHENs have these tests and statements
abbrev pub AreWhens : List (List Test) → List Stmts → List When → Type 0
AreWhens tests lists made =
    (length tests ≡ length lists) × (map (seen_when 0) made ≡ branches_of tests lists)

-- arms that hold CONTINUE where there is nothing to do, before others
abbrev pub continued : List Stmts → Arms → Arms
continued [] others = others
continued (stmts ∷ lists) others = put_arm Continues stmts (continued lists others)

-- the statement is the EVALUATE with these tests and arms, and WHEN OTHER where there is one
abbrev pub IsAmong : Subject → List (List Test) → List Stmts → (other : Stmts) →
    (has_other : Bool) → Stmt → Type 0
IsAmong subject tests lists other has_other made = (length tests ≡ length lists)
    × (seen 0 made ≡ Choose (By (Evaluate subject tests (stands_so has_other other)))
    (continued lists (put_arm (if_had has_other) other done)))

-- the last of the lists is WHEN OTHER
abbrev pub IsAmongAll : Subject → List (List Test) → List Stmts → (has_other : Bool) → Stmt →
    Type 0
IsAmongAll subject tests lists has_other made = (before : List Stmts) × (other : Stmts)
    × (lists ≡ before ++ other ∷ []) × IsAmong subject tests before other has_other made

-- the tests of WHENs for 1, 2 and so on
abbrev pub numbered : ℕ → List (List Test)
numbered whens = map number_tests (numbers_from whole_literal 1 whens)

-- the statement is EVALUATE of an expression by such WHENs, with the last of the lists as WHEN
-- OTHER, which goes where it is empty
abbrev pub IsNumberedAll : Expr → (whens : ℕ) → List Stmts → Stmt → Type 0
IsNumberedAll side whens lists made =
    IsAmongAll (subjects.Value side) (numbered whens) lists false made

-- WHEN OTHER is missing
abbrev pub IsNumbered : Expr → List Stmts → Stmt → Type 0
IsNumbered side lists made =
    IsAmong (subjects.Value side) (numbered (length lists)) lists none false made
