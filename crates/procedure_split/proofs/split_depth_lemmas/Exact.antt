-- What is written of a body whose choices have arms nests as deep as is judged of it, and no less.
use Rattle.std.proofs.Common.{◌≡◌, ◌≤◌, ℕ, suc, max, Bool, true, false, refl, sym, subst, arith}
use Rattle.control_flow_theory.specs.language.Language.{Simple, Evaluate, Read, Arith, Depending, Picker, If, By, ByCell, Stmt, Do, Choose, Loop, Perform, Go, GoDepending, NextSentence, ExitParagraph, ExitSection, ExitPerform, StopRun, Stmts, none, also, Arms, done, given, missing, Body, Nested, Performed}
use Rattle.control_flow_theory.specs.rendering.Rendering.{Empty, Continues, Stays, Goes, Naming, standing, required, written_picker, written_arm, picker_lacks, written_stmt, written_arms, written_body}
use Rattle.region_rewrite.specs.written_nesting.Nesting.{leaves_out, is_nothing, arm_level, nesting, stmt_nesting, arms_nesting, body_nesting}
use Rattle.statement_builders.specs.arms.EmptyArms.{empties}
use Rattle.statement_builders.specs.arms.Written.{Way, naming_in, all_written}
use Rattle.procedure_split.specs.written_depth.Levels.{least_levels, levels, stmt_levels, arms_levels, body_levels}
use Rattle.procedure_split.proofs.written_depth_lemmas.Written.{required-levels, whole-levels, stmts-below}
use Rattle.procedure_split.specs.split_depth.Arms.{begins_given, HasArms, StmtHasArms, StmtsHaveArms, EachArmHas, BodyHasArms}
use Rattle.procedure_split.proofs.split_depth_lemmas.Fitting.{leaves, stmts-fit}

right-under : (a b n : ℕ) → max a b ≤ n → b ≤ n
right-under a b n h = omega (arith, h)

left-under : (a b n : ℕ) → max a b ≤ n → a ≤ n
left-under a b n h = omega (arith, h)

both-under : (a b n : ℕ) → a ≤ n → b ≤ n → max a b ≤ n
both-under a b n h g = omega (arith, h, g)

each-under : (a b c d : ℕ) → a ≤ c → b ≤ d → max a b ≤ max c d
each-under a b c d h g = omega (arith, h, g)

one-more : (a b : ℕ) → a ≤ b → suc a ≤ suc b
one-more a b h = omega (arith, h)

step-under : (a b n : ℕ) → a ≤ b → suc b ≤ n → suc a ≤ n
step-under a b n h g = omega (arith, h, g)

left-in : (a b : ℕ) → a ≤ max a b
left-in a b = omega (arith)

right-in : (a b : ℕ) → b ≤ max a b
right-in a b = omega (arith)

itself : (n : ℕ) → n ≤ n
itself n = omega (arith)

nothing-under : (n : ℕ) → 0 ≤ n
nothing-under n = omega (arith)

one-in : (a b : ℕ) → 1 ≤ max (suc a) b
one-in a b = omega (arith)

same-number : (a b : ℕ) → a ≤ b → b ≤ a → a ≡ b
same-number a b h g = omega (arith, h, g)

-- the arms behind one that is empty are no less
others-under : (nothing : Simple) (empty : Empty) (was_given : Bool) (others : Arms) (n : ℕ) →
    arms_levels (written_arm nothing empty was_given none others) ≤ n → arms_levels others ≤ n
others-under nothing Continues was_given others n h = right-under 1 (arms_levels others) n h
others-under nothing Stays true others n h = right-under 1 (arms_levels others) n h
others-under nothing Stays false others n h = h
others-under nothing Goes was_given others n h = h

-- an arm with nothing in it has a level only where it isn't left out
empty-under : (out : Bool) (n : ℕ) → (out ≡ false → 1 ≤ n) → arm_level out true 0 ≤ n
empty-under true n one = nothing-under n
empty-under false n one = one refl

full-level : (out : Bool) (deep : ℕ) → arm_level out false deep ≡ suc deep
full-level true deep = refl
full-level false deep = refl

module _ (way : Way) where
  abbrev naming : Naming
  naming = naming_in way

  abbrev all : Stmts → Stmts
  all = all_written way

  abbrev empty_in : Picker → ℕ → Empty
  empty_in picker = empties way.table way.range picker

  abbrev arms_from : Picker → ℕ → Arms → Arms
  arms_from picker number arms = written_arms naming way.place way.range (empty_in picker) number arms

  -- a first arm that is there and doesn't go has a level
  stands-so : (empty : Empty) (arm : Stmts) (others : Arms) → (empty ≡ Goes → ⊥) →
      1 ≤ arms_levels (written_arm naming.nothing empty true (all arm) others)
  stands-so empty (also stmt stmts) others never = one-in (levels (all (also stmt stmts))) (arms_levels others)
  stands-so Continues none others never = one-in 0 (arms_levels others)
  stands-so Stays none others never = one-in 0 (arms_levels others)
  stands-so Goes none others never = absurd (never refl)

  first-stands : (picker : Picker) → (empty_in picker 0 ≡ Goes → ⊥) → (arms : Arms) →
      begins_given arms ≡ true → 1 ≤ arms_levels (arms_from picker 0 arms)
  first-stands picker never done begins = cc
  first-stands picker never (given arm others) begins =
      stands-so (empty_in picker 0) arm (arms_from picker 1 others) never
  first-stands picker never (missing others) begins = cc

  abbrev written_least : Picker → Arms → ℕ
  written_least picker arms =
      least_levels (written_picker naming way.place way.range picker (standing (empty_in picker) 0 arms))

  -- where an empty arm, the first or a later one, is a level, the choice has one
  record Levelled (picker : Picker) (arms : Arms) (level : ℕ) : Type 0 where
    first : leaves_out picker true ≡ false → begins_given arms ≡ true → 1 ≤ level
    later : leaves_out picker false ≡ false → 1 ≤ level

  abbrev level_of : Picker → Arms → ℕ
  level_of picker arms = max (written_least picker arms) (arms_levels (arms_from picker 0 arms))

  by-first : (picker : Picker) (arms : Arms) → 1 ≤ arms_levels (arms_from picker 0 arms) →
      1 ≤ level_of picker arms
  by-first picker arms h =
      let a = written_least picker arms in
      let b = arms_levels (arms_from picker 0 arms) in
      let all : 1 ≤ max a b = omega (arith, h) in all

  levelled : (picker : Picker) (arms : Arms) → HasArms picker arms →
      Levelled picker arms (level_of picker arms)
  levelled (If test) arms h =
      let one = by-first (If test) arms (first-stands (If test)
      (λ same. let e : Continues ≡ Goes = same in cc) arms h) in
      record { first = λ out begins. one; later = λ out. one }
  levelled (By (Evaluate subject tests has_other)) arms h =
      let one = left-in 1 (arms_levels (arms_from (By (Evaluate subject tests has_other)) 0 arms)) in
      record { first = λ out begins. one; later = λ out. one }
  levelled (By (Read file into true)) arms h =
      let one = by-first (By (Read file into true)) arms (first-stands (By (Read file into true))
      (λ same. let e : Continues ≡ Goes = same in cc) arms h) in
      record { first = λ out begins. one; later = λ out. one }
  levelled (By (Read file into false)) arms h =
      record { first = λ out begins. cc; later = λ out. cc }
  levelled (By (Arith calc into)) arms h = record {
    first = λ out begins. by-first (By (Arith calc into)) arms (first-stands (By (Arith calc into))
        (λ same. let e : Stays ≡ Goes = same in cc) arms begins);
    later = λ out. cc;
  }
  levelled (By (Depending on names)) arms h =
      let one = left-in 1 (arms_levels (arms_from (By (Depending on names)) 0 arms)) in
      record { first = λ out begins. one; later = λ out. one }
  levelled (ByCell cell) arms h =
      let one = left-in 1 (arms_levels (arms_from (ByCell cell) 0 arms)) in
      record { first = λ out begins. one; later = λ out. one }

  given-under : (empty : Empty) (others : Arms) (out : Bool) (n : ℕ) (arm : Stmts) →
      (out ≡ false → 1 ≤ n) → nesting arm ≤ levels (all arm) →
      arms_levels (written_arm naming.nothing empty true (all arm) others) ≤ n →
      (arm_level out (is_nothing arm) (nesting arm) ≤ n) × (arms_levels others ≤ n)
  given-under empty others out n none one under h =
      (empty-under out n one, others-under naming.nothing empty true others n h)
  given-under empty others out n (also stmt stmts) one under h =
      let arm = also stmt stmts in
      let here = left-under (suc (levels (all arm))) (arms_levels others) n h in (
        subst (λ m. m ≤ n) (sym (full-level out (nesting arm)))
            (step-under (nesting arm) (levels (all arm)) n under here),
        right-under (suc (levels (all arm))) (arms_levels others) n h,
      )

  mutual
    stmt-above : (stmt : Stmt) → StmtHasArms stmt →
        stmt_nesting stmt ≤ stmt_levels (written_stmt naming way.place way.range stmt)
    stmt-above (Do act) = λ h. itself 0
    stmt-above (Choose picker arms) = λ h.
        let level = level_of picker arms in
        let written = arms_from picker 0 arms in
        let found = levelled picker arms h.0 in
        let under = arms-above picker true 0 arms level found.first found.later h.1
        (right-in (written_least picker arms) (arms_levels written)) in
        subst (λ n. arms_nesting picker true arms ≤ max (written_least picker arms) n)
        (sym (whole-levels (picker_lacks naming way.place way.range picker) written)) under
    stmt-above (Loop control body) = λ h. body-above body h.1
    stmt-above (Perform entry exit) = λ h. itself 0
    stmt-above (Go to) = λ h. itself 0
    stmt-above (GoDepending to on) = λ h. itself 0
    stmt-above NextSentence = λ h. itself 0
    stmt-above ExitParagraph = λ h. itself 0
    stmt-above (ExitSection last) = λ h. itself 0
    stmt-above (ExitPerform cycle) = λ h. itself 0
    stmt-above StopRun = λ h. itself 0

    pub stmts-above : (stmts : Stmts) → StmtsHaveArms stmts → nesting stmts ≤ levels (all stmts)
    stmts-above none = λ h. itself 0
    stmts-above (also first others) = λ h.
        each-under (stmt_nesting first) (nesting others)
        (stmt_levels (written_stmt naming way.place way.range first)) (levels (all others))
        (stmt-above first h.0) (stmts-above others h.1)

    arms-above : (picker : Picker) (first : Bool) (number : ℕ) (arms : Arms) (level : ℕ) →
        (leaves_out picker first ≡ false → begins_given arms ≡ true → 1 ≤ level) →
        (leaves_out picker false ≡ false → 1 ≤ level) → EachArmHas arms →
        arms_levels (arms_from picker number arms) ≤ level → arms_nesting picker first arms ≤ level
    arms-above picker first number done level = λ one later h under. nothing-under level
    arms-above picker first number (given arm others) level = λ one later h under.
        let rest = arms_from picker (suc number) others in
        let found = given-under (empty_in picker number) rest (leaves_out picker first) level arm
        (λ out. one out refl) (stmts-above arm h.0) under in
        both-under (arm_level (leaves_out picker first) (is_nothing arm) (nesting arm))
        (arms_nesting picker false others) level found.0
        (arms-above picker false (suc number) others level (λ out begins. later out) later h.1 found.1)
    arms-above picker first number (missing others) level = λ one later h under.
        let rest = arms_from picker (suc number) others in
        arms-above picker false (suc number) others level (λ out begins. later out) later h
        (others-under naming.nothing (empty_in picker number) false rest level under)

    body-above : (body : Body) → BodyHasArms body →
        body_nesting body ≤ body_levels (written_body naming way.place way.range body)
    body-above (Nested stmts) = λ h.
        one-more (nesting stmts) (levels (required naming.nothing (all stmts)))
        (subst (λ n. nesting stmts ≤ n) (sym (required-levels naming.nothing (all stmts)))
        (stmts-above stmts h))
    body-above (Performed entry exit) = λ h. itself 0

  pub stmts-exact : (stmts : Stmts) → StmtsHaveArms stmts → levels (all stmts) ≡ nesting stmts
  stmts-exact stmts h =
      same-number (levels (all stmts)) (nesting stmts)
      (stmts-below naming way.place way.range (leaves way) stmts (stmts-fit way stmts h))
      (stmts-above stmts h)
