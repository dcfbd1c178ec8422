-- Bodies whose choices have arms are written without a level more.
use Rattle.std.proofs.Common.{◌≡◌, ◌≤◌, ℕ, suc, max, Bool, true, false, List, refl, sym, ◌∙◌, subst, arith}
use Rattle.control_flow_theory.specs.language.Language.{Chooser, Evaluate, Read, Arith, Depending, Picker, If, By, ByCell, Stmt, Do, Choose, Loop, Perform, Go, GoDepending, NextSentence, ExitParagraph, ExitSection, ExitPerform, StopRun, Stmts, none, also, Arms, done, given, missing, Body, Nested, Performed}
use Rattle.control_flow_theory.specs.rendering.Rendering.{Empty, Continues, Stays, Goes, Naming}
use Rattle.region_rewrite.specs.written_nesting.Nesting.{leaves_out, is_nothing, arm_level, nesting, arms_nesting}
use Rattle.cobol_theory.specs.cell_serving.Choosing.{written_chooser}
use Rattle.cobol_theory.specs.cell_serving.Entries.{whole_literal}
use Rattle.statement_builders.specs.arms.EmptyArms.{empties}
use Rattle.statement_builders.specs.arms.Written.{Way, naming_in}
use Rattle.procedure_split.specs.written_depth.Fits.{LeavesOut, MissingFits, StmtFits, StmtsFit, ArmsFit, BodyFits}
use Rattle.procedure_split.specs.written_depth.Levels.{least_levels}
use Rattle.procedure_split.specs.split_depth.Arms.{begins_given, has_given, HasArms, StmtHasArms, StmtsHaveArms, EachArmHas, BodyHasArms}

left-of : (a b n : ℕ) → n ≤ a → n ≤ max a b
left-of a b n h = omega (arith, h)

right-of : (a b n : ℕ) → n ≤ b → n ≤ max a b
right-of a b n h = omega (arith, h)

one-of : (n : ℕ) → 1 ≤ suc n
one-of n = omega (arith)

nothing-of : (n : ℕ) → 0 ≤ n
nothing-of n = omega (arith)

-- a choice that leaves no arm out has a level, where it has an arm
given-level : (picker : Picker) → ((first : Bool) → leaves_out picker first ≡ false) →
    (first : Bool) (arms : Arms) → has_given arms ≡ true → 1 ≤ arms_nesting picker first arms
given-level picker keeps first done has = cc
given-level picker keeps first (given arm others) has =
    let a = arms_nesting picker false others in
    subst (λ out. 1 ≤ max (arm_level out (is_nothing arm) (nesting arm)) a)
    (sym (keeps first)) (left-of (suc (nesting arm)) a 1 (one-of (nesting arm)))
given-level picker keeps first (missing others) has = given-level picker keeps false others has

-- missing arms where there is a level, or where none continues
where-level : (empty : ℕ → Empty) (first level : ℕ) (arms : Arms) → 1 ≤ level →
    MissingFits empty first level arms
where-level empty first level done h = tt
where-level empty first level (given arm others) h = where-level empty (suc first) level others h
where-level empty first level (missing others) h =
    ((λ continues. h), where-level empty (suc first) level others h)

where-gone : (empty : ℕ → Empty) (first level : ℕ) (arms : Arms) →
    ((arm : ℕ) → empty (suc arm) ≡ Goes) → MissingFits empty (suc first) level arms
where-gone empty first level done gone = tt
where-gone empty first level (given arm others) gone = where-gone empty (suc first) level others gone
where-gone empty first level (missing others) gone = (
  (λ continues. let e : Goes ≡ Continues = sym (gone first) ∙ continues in cc),
  where-gone empty (suc first) level others gone,
)

-- where the first is there
from-given : (empty : ℕ → Empty) (level : ℕ) (arms : Arms) → begins_given arms ≡ true →
    ((arm : ℕ) → empty (suc arm) ≡ Goes) → MissingFits empty 0 level arms
from-given empty level done begins gone = tt
from-given empty level (given arm others) begins gone = where-gone empty 0 level others gone
from-given empty level (missing others) begins gone = cc

-- where it doesn't continue
from-any : (empty : ℕ → Empty) (level : ℕ) (arms : Arms) → (empty 0 ≡ Continues → ⊥) →
    ((arm : ℕ) → empty (suc arm) ≡ Goes) → MissingFits empty 0 level arms
from-any empty level done never gone = tt
from-any empty level (given arm others) never gone = where-gone empty 0 level others gone
from-any empty level (missing others) never gone =
    ((λ continues. absurd (never continues)), where-gone empty 0 level others gone)

module _ (way : Way) where
  abbrev naming : Naming
  naming = naming_in way

  chooser-is : (chooser : Chooser) (arms : List Bool) →
      least_levels (By (written_chooser whole_literal chooser arms)) ≡ least_levels (By chooser)
  chooser-is (Evaluate subject tests has_other) arms = refl
  chooser-is (Read file into has_end) arms = refl
  chooser-is (Arith calc into) arms = refl
  chooser-is (Depending on names) arms = refl

  first-goes : (picker : Picker) → leaves_out picker true ≡ true →
      empties way.table way.range picker 0 ≡ Goes
  first-goes (If test) out = cc
  first-goes (By (Evaluate subject tests has_other)) out = cc
  first-goes (By (Read file into true)) out = cc
  first-goes (By (Read file into false)) out = refl
  first-goes (By (Arith calc into)) out = cc
  first-goes (By (Depending on names)) out = cc
  first-goes (ByCell cell) out = cc

  later-goes : (picker : Picker) (arm : ℕ) → leaves_out picker false ≡ true →
      empties way.table way.range picker (suc arm) ≡ Goes
  later-goes (If test) arm out = cc
  later-goes (By (Evaluate subject tests has_other)) arm out = cc
  later-goes (By (Read file into has_end)) arm out = refl
  later-goes (By (Arith calc into)) arm out = refl
  later-goes (By (Depending on names)) arm out = cc
  later-goes (ByCell cell) arm out = cc

  pub leaves : LeavesOut naming way.range
  leaves = record {
    first = first-goes;
    later = later-goes;
    chooser = λ chooser arms.
        let n = least_levels (By chooser) in
        let itself : n ≤ n = omega (arith) in
        subst (λ m. m ≤ n) (sym (chooser-is chooser arms)) itself;
  }

  abbrev PickFits : Picker → Arms → Type 0
  PickFits picker arms = (least_levels picker ≤ arms_nesting picker true arms)
      × MissingFits (empties way.table way.range picker) 0 (arms_nesting picker true arms) arms

  -- among arms of which none is left out
  among : (picker : Picker) → least_levels picker ≡ 1 →
      ((first : Bool) → leaves_out picker first ≡ false) → (arms : Arms) →
      has_given arms ≡ true → PickFits picker arms
  among picker one keeps arms has =
      let level = given-level picker keeps true arms has in (
        subst (λ n. n ≤ arms_nesting picker true arms) (sym one) level,
        where-level (empties way.table way.range picker) 0 (arms_nesting picker true arms) arms level,
      )

  pick-fits : (picker : Picker) (arms : Arms) → HasArms picker arms → PickFits picker arms
  pick-fits (If test) arms h =
      let picker = If test in (
        nothing-of (arms_nesting picker true arms),
        from-given (empties way.table way.range picker) (arms_nesting picker true arms) arms h
            (λ arm. refl),
      )
  pick-fits (By (Evaluate subject tests has_other)) arms h =
      among (By (Evaluate subject tests has_other)) refl (λ first. refl) arms h
  pick-fits (By (Read file into true)) arms h =
      let picker = By (Read file into true) in (
        nothing-of (arms_nesting picker true arms),
        from-given (empties way.table way.range picker) (arms_nesting picker true arms) arms h
            (λ arm. refl),
      )
  pick-fits (By (Read file into false)) arms h =
      let picker = By (Read file into false) in (
        nothing-of (arms_nesting picker true arms),
        from-any (empties way.table way.range picker) (arms_nesting picker true arms) arms
            (λ same. let e : Goes ≡ Continues = same in cc) (λ arm. refl),
      )
  pick-fits (By (Arith calc into)) arms h =
      let picker = By (Arith calc into) in (
        nothing-of (arms_nesting picker true arms),
        from-any (empties way.table way.range picker) (arms_nesting picker true arms) arms
            (λ same. let e : Stays ≡ Continues = same in cc) (λ arm. refl),
      )
  pick-fits (By (Depending on names)) arms h =
      among (By (Depending on names)) refl (λ first. refl) arms h
  pick-fits (ByCell cell) arms h = among (ByCell cell) refl (λ first. refl) arms h

  mutual
    stmt-fits : (stmt : Stmt) → StmtHasArms stmt → StmtFits naming way.range stmt
    stmt-fits (Do act) = λ h. tt
    stmt-fits (Choose picker arms) = λ h.
        let here = pick-fits picker arms h.0 in (here.0, here.1, arms-fit arms h.1)
    stmt-fits (Loop control body) = λ h. body-fits body h.1
    stmt-fits (Perform entry exit) = λ h. tt
    stmt-fits (Go to) = λ h. tt
    stmt-fits (GoDepending to on) = λ h. tt
    stmt-fits NextSentence = λ h. tt
    stmt-fits ExitParagraph = λ h. tt
    stmt-fits (ExitSection last) = λ h. tt
    stmt-fits (ExitPerform cycle) = λ h. tt
    stmt-fits StopRun = λ h. tt

    pub stmts-fit : (stmts : Stmts) → StmtsHaveArms stmts → StmtsFit naming way.range stmts
    stmts-fit none = λ h. tt
    stmts-fit (also first others) = λ h. (stmt-fits first h.0, stmts-fit others h.1)

    arms-fit : (arms : Arms) → EachArmHas arms → ArmsFit naming way.range arms
    arms-fit done = λ h. tt
    arms-fit (given arm others) = λ h. (stmts-fit arm h.0, arms-fit others h.1)
    arms-fit (missing others) = λ h. arms-fit others h

    body-fits : (body : Body) → BodyHasArms body → BodyFits naming way.range body
    body-fits (Nested stmts) = λ h. stmts-fit stmts h
    body-fits (Performed entry exit) = λ h. tt
