-- What is written of a body nests at most as deep as is judged of it.
use Rattle.std.proofs.Common.{◌≡◌, ◌≤◌, ℕ, suc, max, Bool, true, false, List, refl, ap, sym, ◌∙◌, subst, arith}
use Rattle.control_flow_theory.specs.language.Language.{Simple, Chooser, Evaluate, Read, Arith, Depending, Picker, If, By, ByCell, Stmt, Do, Choose, Loop, Perform, Go, GoDepending, NextSentence, ExitParagraph, ExitSection, ExitPerform, StopRun, Stmts, none, also, Arms, done, given, missing, Body, Nested, Performed, Range, Main, Part}
use Rattle.control_flow_theory.specs.semantics.Graph.{End, Pick, Jump, Return, Stop, Dead}
use Rattle.control_flow_theory.specs.rendering.Rendering.{Empty, Continues, Stays, Goes, Naming, standing, required, written_picker, written_arm, and_missing, whole_arms, picker_lacks, then_stmts, closing, written_stmt, written_stmts, written_arms, written_body}
use Rattle.region_rewrite.specs.written_nesting.Nesting.{leaves_out, is_nothing, arm_level, nesting, stmt_nesting, arms_nesting, body_nesting}
use Rattle.procedure_split.specs.written_depth.Levels.{least_levels, levels, stmt_levels, arms_levels, body_levels}
use Rattle.procedure_split.specs.written_depth.Fits.{LeavesOut, MissingFits, StmtFits, StmtsFit, ArmsFit, BodyFits}

both-below : (a b n : ℕ) → a ≤ n → b ≤ n → max a b ≤ n
both-below a b n h g = omega (arith, h, g)

left-below : (a b n : ℕ) → max a b ≤ n → a ≤ n
left-below a b n h = omega (arith, h)

right-below : (a b n : ℕ) → max a b ≤ n → b ≤ n
right-below a b n h = omega (arith, h)

each-below : (a b c d : ℕ) → a ≤ c → b ≤ d → max a b ≤ max c d
each-below a b c d h g = omega (arith, h, g)

one-more : (a b : ℕ) → a ≤ b → suc a ≤ suc b
one-more a b h = omega (arith, h)

itself : (a : ℕ) → a ≤ a
itself a = omega (arith)

below-both : (a b c : ℕ) → a ≤ b → b ≤ c → a ≤ c
below-both a b c h g = omega (arith, h, g)

nothing-below : (n : ℕ) → 0 ≤ n
nothing-below n = omega (arith)

-- ---- parts

pub required-levels : (nothing : Simple) (stmts : Stmts) → levels (required nothing stmts) ≡ levels stmts
required-levels nothing none = refl
required-levels nothing (also stmt stmts) = refl

pub then-levels : (stmts more : Stmts) → levels (then_stmts stmts more) ≡ max (levels stmts) (levels more)
then-levels none more = let n = levels more in let h : n ≡ max 0 n = omega (arith) in h
then-levels (also stmt stmts) more =
    let a = stmt_levels stmt in
    let b = levels stmts in
    let c = levels more in
    let h : max a (max b c) ≡ max (max a b) c = omega (arith) in
    ap (max a) (then-levels stmts more) ∙ h

pub closing-levels : (range : Range) (end : End) → levels (closing range end) ≡ 0
closing-levels Main end = refl
closing-levels (Part entry exit) Stop = refl
closing-levels (Part entry exit) (Pick picker arms) = refl
closing-levels (Part entry exit) (Jump to) = refl
closing-levels (Part entry exit) Return = refl
closing-levels (Part entry exit) Dead = refl

missing-levels : (arms : Arms) → arms_levels (and_missing arms) ≡ arms_levels arms
missing-levels done = refl
missing-levels (given arm others) = ap (max (suc (levels arm))) (missing-levels others)
missing-levels (missing others) = missing-levels others

pub whole-levels : (lacks : Bool) (arms : Arms) → arms_levels (whole_arms lacks arms) ≡ arms_levels arms
whole-levels true arms = missing-levels arms
whole-levels false arms = refl

-- an arm with nothing in it, of a level that it has where it is not left out
empty-arm : (nothing : Simple) (empty : Empty) (others : Arms) (out : Bool) (n : ℕ) →
    (out ≡ true → empty ≡ Goes) → arm_level out true 0 ≤ n → arms_levels others ≤ n →
    arms_levels (written_arm nothing empty true none others) ≤ n
empty-arm nothing Goes others out n goes h g = g
empty-arm nothing Continues others false n goes h g = both-below 1 (arms_levels others) n h g
empty-arm nothing Stays others false n goes h g = both-below 1 (arms_levels others) n h g
empty-arm nothing Continues others true n goes h g = let no : Continues ≡ Goes = goes refl in cc
empty-arm nothing Stays others true n goes h g = let no : Stays ≡ Goes = goes refl in cc

missing-arm : (nothing : Simple) (empty : Empty) (others : Arms) (n : ℕ) →
    (empty ≡ Continues → 1 ≤ n) → arms_levels others ≤ n →
    arms_levels (written_arm nothing empty false none others) ≤ n
missing-arm nothing Continues others n h g = both-below 1 (arms_levels others) n (h refl) g
missing-arm nothing Stays others n h g = g
missing-arm nothing Goes others n h g = g

-- of an arm with something in it
full-level : (out : Bool) (deep : ℕ) → arm_level out false deep ≡ suc deep
full-level true deep = refl
full-level false deep = refl

module _ (naming : Naming) (place : Range → ℕ) (range : Range) (leaves : LeavesOut naming range) where
  picker-levels : (picker : Picker) (arms : List Bool) →
      least_levels (written_picker naming place range picker arms) ≤ least_levels picker
  picker-levels (If test) arms = itself 0
  picker-levels (By chooser) arms = leaves.chooser chooser arms
  picker-levels (ByCell cell) arms = at-most (naming.by_cell range cell arms)
    where
      at-most : (chooser : Chooser) → least_levels (By chooser) ≤ 1
      at-most (Evaluate subject tests has_other) = itself 1
      at-most (Read file into has_end) = nothing-below 1
      at-most (Arith calc into) = nothing-below 1
      at-most (Depending on names) = itself 1

  given-arm : (empty : Empty) (others : Arms) (out : Bool) (n : ℕ) (arm : Stmts) →
      (out ≡ true → empty ≡ Goes) → levels (written_stmts naming place range arm) ≤ nesting arm →
      arm_level out (is_nothing arm) (nesting arm) ≤ n → arms_levels others ≤ n →
      arms_levels
      (written_arm naming.nothing empty true (written_stmts naming place range arm) others) ≤ n
  given-arm empty others out n none goes below h g =
      empty-arm naming.nothing empty others out n goes h g
  given-arm empty others out n (also stmt stmts) goes below h g =
      let arm = also stmt stmts in
      let written = levels (written_stmts naming place range arm) in
      both-below (suc written) (arms_levels others) n
      (below-both (suc written) (suc (nesting arm)) n (one-more written (nesting arm) below)
      (subst (λ m. m ≤ n) (full-level out (nesting arm)) h)) g

  mutual
    stmt-below : (stmt : Stmt) → StmtFits naming range stmt →
        stmt_levels (written_stmt naming place range stmt) ≤ stmt_nesting stmt
    stmt-below (Do act) = λ h. itself 0
    stmt-below (Choose picker arms) = λ h.
        let deep = arms_nesting picker true arms in
        let empty = naming.empty range picker in
        let stands = standing empty 0 arms in
        let written = written_arms naming place range empty 0 arms in
        both-below (least_levels (written_picker naming place range picker stands))
        (arms_levels (whole_arms (picker_lacks naming place range picker) written)) deep
        (below-both (least_levels (written_picker naming place range picker stands))
        (least_levels picker) deep (picker-levels picker stands) h.0)
        (subst (λ n. n ≤ deep) (sym (whole-levels (picker_lacks naming place range picker) written))
        (arms-below picker true 0 arms deep (leaves.first picker) h.1 h.2 (itself deep)))
    stmt-below (Loop control body) = λ h. body-below body h
    stmt-below (Perform entry exit) = λ h. itself 0
    stmt-below (Go to) = λ h. itself 0
    stmt-below (GoDepending to on) = λ h. itself 0
    stmt-below NextSentence = λ h. itself 0
    stmt-below ExitParagraph = λ h. itself 0
    stmt-below (ExitSection last) = λ h. itself 0
    stmt-below (ExitPerform cycle) = λ h. itself 0
    stmt-below StopRun = λ h. itself 0

    pub stmts-below : (stmts : Stmts) → StmtsFit naming range stmts →
        levels (written_stmts naming place range stmts) ≤ nesting stmts
    stmts-below none = λ h. itself 0
    stmts-below (also stmt stmts) = λ h.
        each-below (stmt_levels (written_stmt naming place range stmt))
        (levels (written_stmts naming place range stmts)) (stmt_nesting stmt) (nesting stmts)
        (stmt-below stmt h.0) (stmts-below stmts h.1)

    -- the arms from the first or a later one on, which has this number
    arms-below : (picker : Picker) (first : Bool) (number : ℕ) (arms : Arms) (deep : ℕ) →
        (leaves_out picker first ≡ true → naming.empty range picker number ≡ Goes) →
        MissingFits (naming.empty range picker) number deep arms → ArmsFit naming range arms →
        arms_nesting picker first arms ≤ deep →
        arms_levels (written_arms naming place range (naming.empty range picker) number arms) ≤ deep
    arms-below picker first number done deep = λ goes m f h. nothing-below deep
    arms-below picker first number (given arm others) deep = λ goes m f h.
        let out = leaves_out picker first in
        let here = arm_level out (is_nothing arm) (nesting arm) in
        let behind = arms_nesting picker false others in
        let rest = written_arms naming place range (naming.empty range picker) (suc number) others in
        given-arm (naming.empty range picker number) rest out deep arm goes (stmts-below arm f.0)
        (left-below here behind deep h)
        (arms-below picker false (suc number) others deep (leaves.later picker number) m f.1
        (right-below here behind deep h))
    arms-below picker first number (missing others) deep = λ goes m f h.
        let rest = written_arms naming place range (naming.empty range picker) (suc number) others in
        missing-arm naming.nothing (naming.empty range picker number) rest deep m.0
        (arms-below picker false (suc number) others deep (leaves.later picker number) m.1 f h)

    body-below : (body : Body) → BodyFits naming range body →
        body_levels (written_body naming place range body) ≤ body_nesting body
    body-below (Nested stmts) = λ h.
        let written = written_stmts naming place range stmts in
        one-more (levels (required naming.nothing written)) (nesting stmts)
        (subst (λ n. n ≤ nesting stmts) (sym (required-levels naming.nothing written))
        (stmts-below stmts h))
    body-below (Performed entry exit) = λ h. itself 0

-- so does the sentence of a procedure
pub sentence-below : (naming : Naming) (place : Range → ℕ) (range : Range) (end : End) →
    LeavesOut naming range → (stmts : Stmts) → StmtsFit naming range stmts →
    levels (required naming.nothing
    (then_stmts (written_stmts naming place range stmts) (closing range end))) ≤ nesting stmts
sentence-below naming place range end leaves stmts h =
    let written = written_stmts naming place range stmts in
    let behind = closing range end in
    let whole = then_stmts written behind in
    let is : levels (required naming.nothing whole) ≡ max (levels written) 0 =
    required-levels naming.nothing whole ∙ then-levels written behind
    ∙ ap (max (levels written)) (closing-levels range end) in
    subst (λ n. n ≤ nesting stmts) (sym is)
    (both-below (levels written) 0 (nesting stmts)
    (stmts-below naming place range leaves stmts h) (nothing-below (nesting stmts)))
