-- What an item of each statement does.
use Rattle.std.proofs.Common.{◌≡◌, ◌+◌, ℕ, suc, Bool, true, false, if◌then◌else◌, List, [], ◌∷◌, ◌++◌, map, Option, Some, None, option_map, refl, ap, sym, ◌∙◌, arith}
use Rattle.cob_tree.specs.declared.calc.Calc.{Calc}
use Rattle.cob_tree.specs.declared.calc.Target.{Target}
use Rattle.cob_tree.specs.declared.choice.Subject.{Subject}
use Rattle.cob_tree.specs.declared.choice.Test.{Test}
use Rattle.cob_tree.specs.declared.file.FileEntry.{FileEntry}
use Rattle.cob_tree.specs.declared.stmt.Stmt as tree
use Rattle.cob_tree.specs.declared.stmt.When.{When}
use Rattle.control_flow_theory.specs.language.Language.{Picker, By, If, Holds, Chooser, Evaluate, Arith, Choose, Arms, done, given, missing, Stmts, none, also, Stmt, Program, Control, Times, Until, Varying, Body, Nested, Performed, Loop, Perform}
use Rattle.control_flow_theory.specs.language.Items.{Item, Do, Turn, Steps, before, before_body, before_arm}
use Rattle.control_flow_theory.specs.language.Control.{always, Both, both_arms, arm_before, else_of, Branch, branches_before, picker_by, evaluate_of, cell_chosen, count_from, stmts_of, perform_of, loop_of, seen_when}
use Rattle.control_flow_theory.proofs.language_lemmas.Rows.{seen_if_any}
use Rattle.control_flow_theory.specs.lowering.FlowFacts.{arm_count}
use Rattle.program_points.specs.paths.Step.{Point, at, Ways, some_given, first_is_barred, without_first, ways_from, next}
use Rattle.program_points.specs.declared.numbering.kind.LoopStart.{LoopStart}
use Rattle.program_points.specs.declared.numbering.kind.LoopStart.TheVariants.{Before, Again, After}
use Rattle.program_points.specs.numbering.Kind.{kind_in, remainder, never_first_of}
use Rattle.program_points.specs.numbering.Build.{branches_of, branch_points, seen_maybe, seen_branches}

-- Loops.

abbrev pub body_stmts : Body → Stmts
body_stmts (Nested stmts) = stmts
body_stmts (Performed entry exit) = also (Perform entry exit) none

pub body-before : (body : Body) (rest : List Item) → before (body_stmts body) rest ≡ before_body body rest
body-before (Nested stmts) rest = refl
body-before (Performed entry exit) rest = refl

module _ (never_first : Chooser → Bool) (program : Program) (number : ℕ) where
  pub turn-next : (control : Control) (body : Body) (rest : List Item) →
      next never_first program (at number (Turn (remainder control) body ∷ rest)) ≡ Ways (Some (at number rest) ∷ Some (at number (before_body body (Turn (remainder control) body ∷ rest))) ∷ [])
  turn-next (Times amount) body rest = refl
  turn-next (Until after test) body rest = refl
  turn-next (Varying false set step test) body rest = refl
  turn-next (Varying true set step test) body rest = refl

  pub before-next : (control : Control) (body : Body) (rest : List Item) → kind_in control ≡ Before →
      next never_first program (at number (Do (Loop control body) ∷ rest)) ≡ Ways (Some (at number (Turn (remainder control) body ∷ rest)) ∷ [])
  before-next (Times amount) body rest e = refl
  before-next (Until false test) body rest e = refl
  before-next (Until true test) body rest e = absurd (let k : ⊥ = cc in k)
  before-next (Varying false set step test) body rest e = absurd (let k : ⊥ = cc in k)
  before-next (Varying true set step test) body rest e = absurd (let k : ⊥ = cc in k)

  pub after-next : (control : Control) (body : Body) (rest : List Item) → kind_in control ≡ After →
      next never_first program (at number (Do (Loop control body) ∷ rest)) ≡ Ways (Some (at number (before_body body (Turn (remainder control) body ∷ rest))) ∷ [])
  after-next (Times amount) body rest e = absurd (let k : ⊥ = cc in k)
  after-next (Until false test) body rest e = absurd (let k : ⊥ = cc in k)
  after-next (Until true test) body rest e = refl
  after-next (Varying false set step test) body rest e = absurd (let k : ⊥ = cc in k)
  after-next (Varying true set step test) body rest e = refl

  -- a VARYING tested before begins at its first test
  abbrev pub IsFirst : Control → Body → List Item → Point → Type 0
  IsFirst control body rest first =
      (next never_first program (at number (Do (Loop control body) ∷ rest)) ≡ Ways (Some first ∷ []))
      × (next never_first program first ≡ Ways (Some (at number rest) ∷ Some (at number (before_body body (Turn (remainder control) body ∷ rest))) ∷ []))

  pub again-next : (control : Control) (body : Body) (rest : List Item) → kind_in control ≡ Again → (first : Point) × IsFirst control body rest first
  again-next (Times amount) body rest e = absurd (let k : ⊥ = cc in k)
  again-next (Until false test) body rest e = absurd (let k : ⊥ = cc in k)
  again-next (Until true test) body rest e = absurd (let k : ⊥ = cc in k)
  again-next (Varying false set step test) body rest e = (at number (Turn (Steps false step test) body ∷ rest), (refl, refl))
  again-next (Varying true set step test) body rest e = absurd (let k : ⊥ = cc in k)

-- what a PERFORM is, by where its loop begins

pub perform-once : (control : Option Control) (entry exit : ℕ) → None ≡ option_map kind_in control → perform_of control entry exit ≡ Perform entry exit
perform-once None entry exit e = refl
perform-once (Some control) entry exit e = absurd (let k : ⊥ = cc in k)

pub perform-loop : (control : Option Control) (entry exit : ℕ) (kind : LoopStart) → Some kind ≡ option_map kind_in control → (one : Control) × (kind_in one ≡ kind) × (perform_of control entry exit ≡ Loop one (Performed entry exit))
perform-loop None entry exit kind e = absurd (let k : ⊥ = cc in k)
perform-loop (Some control) entry exit kind e = (control, (let k : kind ≡ kind_in control = cc in sym k), refl)

pub loop-none : (control : Option Control) (body : Stmts) → None ≡ option_map kind_in control → loop_of control body ≡ Choose (If (Holds always)) (given body done)
loop-none None body e = refl
loop-none (Some control) body e = absurd (let k : ⊥ = cc in k)

pub loop-some : (control : Option Control) (body : Stmts) (kind : LoopStart) → Some kind ≡ option_map kind_in control → (one : Control) × (kind_in one ≡ kind) × (loop_of control body ≡ Loop one (Nested body))
loop-some None body kind e = absurd (let k : ⊥ = cc in k)
loop-some (Some control) body kind e = (control, (let k : kind ≡ kind_in control = cc in sym k), refl)

-- Choices.

-- the ways of a choice are where its branches begin
arm-ways : (never_first : Chooser → Bool) (program : Program) (number : ℕ) (picker : Picker) (rest : List Item) (whole arms : Arms) (way : ℕ) → ((k : ℕ) → before_arm whole (way + k) rest ≡ before_arm arms k rest) →
    ways_from never_first program number way (arm_count arms) (Do (Choose picker whole)) rest ≡ branch_points number rest (branches_of arms)
arm-ways never_first program number picker rest whole done way same = refl
arm-ways never_first program number picker rest whole (given arm others) way same =
    let none_more : way ≡ way + 0 = omega arith in
    let first : before_arm whole way rest ≡ before arm rest = ap (λ n. before_arm whole n rest) none_more ∙ same 0 in
    ap (λ r. Some (at number r) ∷ ways_from never_first program number (suc way) (arm_count others) (Do (Choose picker whole)) rest) first
    ∙ ap (λ ws. Some (at number (before arm rest)) ∷ ws) (arm-ways never_first program number picker rest whole others (suc way) (λ k. (let more : suc way + k ≡ way + suc k = omega arith in ap (λ n. before_arm whole n rest) more ∙ same (suc k))))
arm-ways never_first program number picker rest whole (missing others) way same =
    let none_more : way ≡ way + 0 = omega arith in
    let first : before_arm whole way rest ≡ rest = ap (λ n. before_arm whole n rest) none_more ∙ same 0 in
    ap (λ r. Some (at number r) ∷ ways_from never_first program number (suc way) (arm_count others) (Do (Choose picker whole)) rest) first
    ∙ ap (λ ws. Some (at number rest) ∷ ws) (arm-ways never_first program number picker rest whole others (suc way) (λ k. (let more : suc way + k ≡ way + suc k = omega arith in ap (λ n. before_arm whole n rest) more ∙ same (suc k))))

-- each arm is a way, where one is given or there is but one
abbrev pub IsCounted : Arms → Type 0
IsCounted arms = (if some_given arms then arm_count arms else 1) ≡ arm_count arms

given-counted : (arms : Arms) → some_given arms ≡ true → IsCounted arms
given-counted arms e = ap (λ b. if b then arm_count arms else 1) e

pub choose-next : (never_first : Chooser → Bool) (program : Program) (number : ℕ) (picker : Picker) (rest : List Item) (arms : Arms) (barred : Bool) (branches : List Stmts) → IsCounted arms → first_is_barred never_first (Do (Choose picker arms)) ≡ barred → branches_of arms ≡ branches →
    next never_first program (at number (Do (Choose picker arms) ∷ rest)) ≡ Ways (without_first barred (branch_points number rest branches))
choose-next never_first program number picker rest arms barred branches some is same =
    ap (λ (ws : List (Option Point)). Ways ws) (
    ap (λ b. without_first b (ways_from never_first program number 0 (if some_given arms then arm_count arms else 1) (Do (Choose picker arms)) rest)) is
    ∙ ap (λ n. without_first barred (ways_from never_first program number 0 n (Do (Choose picker arms)) rest)) some
    ∙ ap (without_first barred) (arm-ways never_first program number picker rest arms arms 0 (λ k. (let less : 0 + k ≡ k = omega arith in ap (λ n. before_arm arms n rest) less)))
    ∙ ap (λ (bs : List Stmts). without_first barred (branch_points number rest bs)) same
    )

-- IF

else-branches : (unmet : List Stmt) → branches_of (arm_before (else_of unmet) done) ≡ stmts_of unmet ∷ []
else-branches [] = refl
else-branches (s ∷ ss) = refl

pub if-branches : (met : Stmts) (unmet : List Stmt) → branches_of (given met (arm_before (else_of unmet) done)) ≡ met ∷ stmts_of unmet ∷ []
if-branches met unmet = ap (λ bs. met ∷ bs) (else-branches unmet)

-- EVALUATE

module _ (files : List FileEntry) (last : ℕ) where
  abbrev pub never : Chooser → Bool
  never chooser = never_first_of files chooser

  when-branches : (branches : List Branch) (arms : Arms) → branches_of (branches_before branches arms) ≡ map (λ (b : Branch). b.arm) branches ++ branches_of arms
  when-branches [] arms = refl
  when-branches (b ∷ bs) arms = ap (λ xs. b.arm ∷ xs) (when-branches bs arms)

  whens-map : (whens : List When) → map (λ (b : Branch). b.arm) (map (seen_when last) whens) ≡ seen_branches last whens
  whens-map [] = refl
  whens-map (w ∷ ws) = ap (λ xs. (seen_when last w).arm ∷ xs) (whens-map ws)

  other-branches : (other : Option (List tree.Stmt)) → branches_of (arm_before (seen_if_any last other) done) ≡ seen_maybe last other ∷ []
  other-branches None = refl
  other-branches (Some ss) = refl

  pub evaluate-branches : (whens : List When) (other : Option (List tree.Stmt)) → branches_of (branches_before (map (seen_when last) whens) (arm_before (seen_if_any last other) done)) ≡ seen_branches last whens ++ seen_maybe last other ∷ []
  evaluate-branches whens other =
      when-branches (map (seen_when last) whens) (arm_before (seen_if_any last other) done) ∙ ap (λ bs. bs ++ branches_of (arm_before (seen_if_any last other) done)) (whens-map whens) ∙ ap (λ bs. seen_branches last whens ++ bs) (other-branches other)

  pub evaluate-counted : (branches : List Branch) (other : Option (List tree.Stmt)) → IsCounted (branches_before branches (arm_before (seen_if_any last other) done))
  evaluate-counted [] None = refl
  evaluate-counted [] (Some ss) = refl
  evaluate-counted (b ∷ bs) other = refl

  evaluate-picked : (cell : Option ℕ) (counts : Bool) (subject : Subject) (tests : List (List Test)) (has_other : Bool) (arms : Arms) → first_is_barred never (Do (Choose (picker_by cell counts (Evaluate subject tests has_other)) arms)) ≡ false
  evaluate-picked (Some cell) true subject tests has_other arms = refl
  evaluate-picked (Some cell) false subject tests has_other arms = elim (some_given arms) as (λ b. (if b then false else false) ≡ false) [ true ↦ refl | false ↦ refl ]
  evaluate-picked None true subject tests has_other arms = elim (some_given arms) as (λ b. (if b then false else false) ≡ false) [ true ↦ refl | false ↦ refl ]
  evaluate-picked None false subject tests has_other arms = elim (some_given arms) as (λ b. (if b then false else false) ≡ false) [ true ↦ refl | false ↦ refl ]

  pub evaluate-barred : (subject : Subject) (tests : List (List Test)) (has_other : Bool) (arms : Arms) → first_is_barred never (Do (Choose (evaluate_of subject tests has_other) arms)) ≡ false
  evaluate-barred subject tests has_other arms = evaluate-picked (cell_chosen subject) (count_from 1 tests) subject tests has_other arms

  -- READ and arithmetic

  abbrev pub both : Option (List tree.Stmt) → Option (List tree.Stmt) → Both
  both first second = record { first = seen_if_any last first; second = seen_if_any last second }

  abbrev pub both_branches : Option (List tree.Stmt) → Option (List tree.Stmt) → List Stmts
  both_branches first second = seen_maybe last first ∷ seen_maybe last second ∷ []

  pub both-branches : (first second : Option (List tree.Stmt)) → branches_of (both_arms (both first second)) ≡ both_branches first second
  both-branches None None = refl
  both-branches None (Some b) = refl
  both-branches (Some a) None = refl
  both-branches (Some a) (Some b) = refl

  pub barred-arith : (calc : Calc) (into : List Target) (arms : Arms) → first_is_barred never (Do (Choose (By (Arith calc into)) arms)) ≡ false
  barred-arith calc into arms = elim (some_given arms) as (λ b. (if b then false else false) ≡ false) [ true ↦ refl | false ↦ refl ]
