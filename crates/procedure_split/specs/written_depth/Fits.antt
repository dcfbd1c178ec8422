-- When what is written of a body is no level more than is judged of it.
use Rattle.std.specs.Prelude.{ℕ, suc, ◌≡◌, ◌≤◌, Bool, true, false, List}
use Rattle.control_flow_theory.specs.language.Language.{Chooser, Picker, By, Stmt, Do, Choose, Loop, Perform, Go, GoDepending, NextSentence, ExitParagraph, ExitSection, ExitPerform, StopRun, Stmts, none, also, Arms, done, given, missing, Body, Nested, Performed, Range}
use Rattle.control_flow_theory.specs.rendering.Rendering.{Empty, Continues, Goes, Naming}
use Rattle.region_rewrite.specs.written_nesting.Nesting.{leaves_out, arms_nesting}
use Rattle.procedure_split.specs.written_depth.Levels.{least_levels}

-- an empty arm that is judged to be left out goes; READ and arithmetic stay what they are
pub record LeavesOut (naming : Naming) (range : Range) : Type 0 where
  -- an empty first arm that may be left out goes
  pub first : (picker : Picker) → leaves_out picker true ≡ true →
      naming.empty range picker 0 ≡ Goes
  -- so does an empty later one
  pub later : (picker : Picker) (arm : ℕ) → leaves_out picker false ≡ true →
      naming.empty range picker (suc arm) ≡ Goes
  -- what chooses is written with no level more
  pub chooser : (chooser : Chooser) (arms : List Bool) →
      least_levels (By (naming.chooser chooser arms)) ≤ least_levels (By chooser)

-- a missing arm becomes one that holds CONTINUE only where that is no level more; the first of
-- these arms has this number
abbrev pub MissingFits : (ℕ → Empty) → ℕ → (level : ℕ) → Arms → Type 0
MissingFits empty first level done = Unit {0}
MissingFits empty first level (given arm others) = MissingFits empty (suc first) level others
MissingFits empty first level (missing others) =
    (empty first ≡ Continues → 1 ≤ level) × MissingFits empty (suc first) level others

-- an EVALUATE has an arm, and so have its kind
module _ (naming : Naming) (range : Range) where
  abbrev mutual
    -- each choice in a statement is written without a level more than is judged of it
    pub StmtFits : Stmt → Type 0
    StmtFits (Do act) = Unit {0}
    StmtFits (Choose picker arms) =
        (least_levels picker ≤ arms_nesting picker true arms)
        × MissingFits (naming.empty range picker) 0 (arms_nesting picker true arms) arms
        × ArmsFit arms
    StmtFits (Loop control body) = BodyFits body
    StmtFits (Perform entry exit) = Unit {0}
    StmtFits (Go to) = Unit {0}
    StmtFits (GoDepending to on) = Unit {0}
    StmtFits NextSentence = Unit {0}
    StmtFits ExitParagraph = Unit {0}
    StmtFits (ExitSection last) = Unit {0}
    StmtFits (ExitPerform cycle) = Unit {0}
    StmtFits StopRun = Unit {0}

    -- the same of these statements
    pub StmtsFit : Stmts → Type 0
    StmtsFit none = Unit {0}
    StmtsFit (also first others) = StmtFits first × StmtsFit others

    -- the same of these arms
    pub ArmsFit : Arms → Type 0
    ArmsFit done = Unit {0}
    ArmsFit (given arm others) = StmtsFit arm × ArmsFit others
    ArmsFit (missing others) = ArmsFit others

    -- the same of a loop's body
    pub BodyFits : Body → Type 0
    BodyFits (Nested stmts) = StmtsFit stmts
    BodyFits (Performed entry exit) = Unit {0}
