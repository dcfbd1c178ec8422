-- How deep a statement of the program nests as it is written.
use Rattle.std.specs.Prelude.{ℕ, suc, max, List, [], ◌∷◌, map, Option, Some, None}
use Rattle.cob_tree.specs.Depth.{largest, level}
use Rattle.cob_tree.specs.declared.stmt.Stmt.{Stmt, fold-Stmt}
use Rattle.cob_tree.specs.declared.stmt.Stmt.TheOpen.{Stmt-F, Arms-F, When-F}
use Rattle.cob_tree.specs.declared.stmt.Arms.{Arms, fold-Arms}
use Rattle.cob_tree.specs.declared.stmt.When.{When, fold-When}

-- the level of a later arm, which is left out where it is empty
abbrev pub later_level : Option (List ℕ) → ℕ
later_level None = 0
later_level (Some []) = 0
later_level (Some (first ∷ others)) = suc (largest (first ∷ others))

-- one level of a statement
abbrev pub own_step : Stmt-F ℕ ℕ ℕ → ℕ
own_step (Stmt-F.Arith calc into arms) = arms
own_step (Stmt-F.Read file into arms) = arms
own_step (Stmt-F.If cond met unmet) = suc (max (largest met) (largest unmet))
own_step (Stmt-F.Evaluate subject whens other) = max (largest whens) (level other)
own_step (Stmt-F.Loop control body) = suc (largest body)
own_step _ = 0

-- one level of a statement's arms
abbrev pub arms_step : Arms-F ℕ ℕ ℕ → ℕ
arms_step arms = max (level arms.first) (later_level arms.second)

-- one level of a WHEN
abbrev pub when_step : When-F ℕ ℕ ℕ → ℕ
when_step when = suc (largest when.stmts)

-- how deep a statement nests
abbrev pub own_nesting : Stmt → ℕ
own_nesting = fold-Stmt ℕ ℕ ℕ own_step arms_step when_step

-- how deep the arms of READ or arithmetic nest
abbrev pub arms_own : Arms → ℕ
arms_own = fold-Arms ℕ ℕ ℕ own_step arms_step when_step

-- how deep a WHEN nests
abbrev pub when_own : When → ℕ
when_own = fold-When ℕ ℕ ℕ own_step arms_step when_step

-- how deep these statements nest
abbrev pub stmts_own : List Stmt → ℕ
stmts_own stmts = largest (map own_nesting stmts)

-- how deep these WHENs nest
abbrev pub whens_own : List When → ℕ
whens_own whens = largest (map when_own whens)

-- how deep statements nest as a later arm
abbrev pub later_own : List Stmt → ℕ
later_own stmts = later_level (Some (map own_nesting stmts))
