-- Where the control of statements holds no EXIT, they are without EXIT.
use Rattle.std.proofs.Common.{◌≡◌, ℕ, Bool, true, false, List, [], ◌∷◌, map, Option, Some, None, refl, ◌∙◌, subst}
use Rattle.cob_tree.specs.declared.calc.Calc.{Calc}
use Rattle.cob_tree.specs.declared.calc.Target.{Target}
use Rattle.cob_tree.specs.declared.choice.Test.{Test}
use Rattle.cob_tree.specs.declared.stmt.Arms.{Arms, roll-Arms, map-Arms, fold-roll-Arms}
use Rattle.cob_tree.specs.declared.stmt.When.{When, roll-When, map-When, fold-roll-When}
use Rattle.cob_tree.specs.declared.stmt.Stmt.{Stmt, ind-Stmt, map-Stmt, roll-Stmt, fold-roll-Stmt}
use Rattle.cob_tree.specs.declared.stmt.Stmt.TheOpen.{Stmt-F, Arms-F, When-F}
use Rattle.cob_tree.specs.declared.stmt.Stmt.TheVariants as stmts
use Rattle.control_flow_theory.specs.language.All.{all}
use Rattle.control_flow_theory.specs.language.Language as language
use Rattle.control_flow_theory.specs.language.Control.{arith_stmt, arm_before, else_of, stmts_of, control_in, loop_of, Branch, branches_before, Both, both_arms, both_step, branch_step, seen_step, seen, seen_when, seen_both, seen_stmts}
use Rattle.program_facts.proofs.well_scoped_lemmas.Made.{both}
use Rattle.struct_form.specs.Structured.{exitless_step, exitless_arms, exitless_when, exitless, arms_exitless, when_exitless, stmts_exitless}
use Rattle.grammar_laws.specs.short_lists.lone_exits.Alone.{is_exit}
use Rattle.procedure_split.proofs.split_form_lemmas.Lacking.{StmtLacks, StmtsLack, ArmsLack}

abbrev BothLack : Both → Type 0
BothLack two = ArmsLack (both_arms two)

arith-lacks : (calc : Calc) (into : List Target) (first second : Option language.Stmts) →
    StmtLacks (arith_stmt calc into (record { first = first; second = second })) →
    BothLack (record { first = first; second = second })
arith-lacks calc into None None h = tt
arith-lacks calc into None (Some second) h = h
arith-lacks calc into (Some first) None h = h
arith-lacks calc into (Some first) (Some second) h = h

else-lacks : (stmts : List language.Stmt) → ArmsLack (arm_before (else_of stmts) language.done) →
    StmtsLack (stmts_of stmts)
else-lacks [] h = tt
else-lacks (stmt ∷ stmts) h = h.0

loop-lacks : (control : Option language.Control) (body : language.Stmts) →
    StmtLacks (loop_of control body) → StmtsLack body
loop-lacks None body h = h.0
loop-lacks (Some control) body h = h

module _ (last : ℕ) where
  abbrev Such : Stmt → Type 0
  Such stmt = StmtLacks (seen last stmt) → exitless stmt ≡ true

  abbrev SuchTwo : Arms → Type 0
  SuchTwo arms = BothLack (seen_both last arms) → arms_exitless arms ≡ true

  abbrev SuchOne : When → Type 0
  SuchOne when = StmtsLack (seen_when last when).arm → when_exitless when ≡ true

  abbrev SuchStmt : Type 0
  SuchStmt = (stmt : Stmt) × Such stmt

  abbrev SuchArms : Type 0
  SuchArms = (arms : Arms) × SuchTwo arms

  abbrev SuchWhen : Type 0
  SuchWhen = (when : When) × SuchOne when

  abbrev plain : List SuchStmt → List Stmt
  plain list = map (λ e. e.0) list

  abbrev plain_whens : List SuchWhen → List When
  plain_whens whens = map (λ e. e.0) whens

  stmts-are : (xs : List SuchStmt) → StmtsLack (stmts_of (map (seen last) (plain xs))) →
      all (map exitless (plain xs)) ≡ true
  stmts-are [] h = refl
  stmts-are (x ∷ xs) h = both (x.1 h.0) (stmts-are xs h.1)

  whens-are : (xs : List SuchWhen) (tail : language.Arms) →
      ArmsLack (branches_before (map (seen_when last) (plain_whens xs)) tail) →
      (all (map when_exitless (plain_whens xs)) ≡ true) × ArmsLack tail
  whens-are [] tail h = (refl, h)
  whens-are (x ∷ xs) tail h =
      let behind = whens-are xs tail h.1 in
      (both (x.1 h.0) behind.0, behind.1)

  abbrev mapped : Stmt-F SuchStmt SuchArms SuchWhen → Stmt-F Stmt Arms When
  mapped = map-Stmt SuchStmt SuchArms SuchWhen Stmt Arms When (λ e. e.0) (λ e. e.0) (λ e. e.0)

  abbrev shown : Stmt-F Stmt Arms When → language.Stmt
  shown y = seen_step last
      (map-Stmt Stmt Arms When language.Stmt Both Branch (seen last) (seen_both last) (seen_when last) y)

  abbrev told : Stmt-F Stmt Arms When → Bool
  told y = exitless_step
      (map-Stmt Stmt Arms When Bool Bool Bool exitless arms_exitless when_exitless y)

  step-is : (y : Stmt-F SuchStmt SuchArms SuchWhen) → StmtLacks (shown (mapped y)) →
      told (mapped y) ≡ true
  step-is (Stmt-F.Display items advance) h = refl
  step-is (Stmt-F.Move from to) h = refl
  step-is (Stmt-F.Arith calc into arms) h =
      let two = seen_both last arms.0 in
      arms.1 (arith-lacks calc into two.first two.second h)
  step-is (Stmt-F.SetTrue place) h = refl
  step-is (Stmt-F.Opens openings) h = refl
  step-is (Stmt-F.Closes files) h = refl
  step-is (Stmt-F.Read file into arms) h = arms.1 h
  step-is (Stmt-F.Write entry from) h = refl
  step-is (Stmt-F.Rewrite entry from) h = refl
  step-is (Stmt-F.If cond met unmet) h =
      both (stmts-are met h.0) (stmts-are unmet (else-lacks (map (seen last) (plain unmet)) h.1))
  step-is (Stmt-F.Evaluate subject whens None) h =
      both (whens-are whens (language.missing language.done) h).0 refl
  step-is (Stmt-F.Evaluate subject whens (Some other)) h =
      let behind = language.given (stmts_of (map (seen last) (plain other))) language.done in
      let found = whens-are whens behind h in
      both found.0 (stmts-are other found.1.0)
  step-is (Stmt-F.Loop control body) h =
      stmts-are body (loop-lacks (control_in control) (stmts_of (map (seen last) (plain body))) h)
  step-is (Stmt-F.Perform entry exit control) h = refl
  step-is (Stmt-F.Go to) h = refl
  step-is (Stmt-F.GoDepending to on) h = refl
  step-is Stmt-F.NextSentence h = refl
  step-is Stmt-F.StopRun h = refl
  step-is Stmt-F.Exit h = absurd (let e : is_exit stmts.Exit ≡ false = h in cc)
  step-is Stmt-F.ExitParagraph h = refl
  step-is Stmt-F.ExitSection h = refl
  step-is (Stmt-F.ExitPerform cycle) h = refl
  step-is Stmt-F.Continue h = refl

  stmt-layer : (y : Stmt-F SuchStmt SuchArms SuchWhen) → Such (roll-Stmt (mapped y))
  stmt-layer y h =
      let first =
      fold-roll-Stmt language.Stmt Both Branch (seen_step last) both_step branch_step (mapped y) in
      fold-roll-Stmt Bool Bool Bool exitless_step exitless_arms exitless_when (mapped y)
      ∙ step-is y (subst StmtLacks first h)

  abbrev mapped_arms : Arms-F SuchStmt SuchArms SuchWhen → Arms-F Stmt Arms When
  mapped_arms = map-Arms SuchStmt SuchArms SuchWhen Stmt Arms When (λ e. e.0) (λ e. e.0) (λ e. e.0)

  abbrev shown_arms : Arms-F Stmt Arms When → Both
  shown_arms arms = both_step (map-Arms Stmt Arms When language.Stmt Both Branch
      (seen last) (seen_both last) (seen_when last) arms)

  abbrev told_arms : Arms-F Stmt Arms When → Bool
  told_arms arms = exitless_arms
      (map-Arms Stmt Arms When Bool Bool Bool exitless arms_exitless when_exitless arms)

  arms-are : (first second : Option (List SuchStmt)) →
      let y = mapped_arms (record { first = first; second = second }) in
      BothLack (shown_arms y) → told_arms y ≡ true
  arms-are None None h = refl
  arms-are None (Some second) h = stmts-are second h.0
  arms-are (Some first) None h = both (stmts-are first h.0) refl
  arms-are (Some first) (Some second) h = both (stmts-are first h.0) (stmts-are second h.1.0)

  arms-layer : (first second : Option (List SuchStmt)) →
      SuchTwo (roll-Arms (mapped_arms (record { first = first; second = second })))
  arms-layer first second h =
      let y = mapped_arms (record { first = first; second = second }) in
      let begun = fold-roll-Arms language.Stmt Both Branch (seen_step last) both_step branch_step y in
      fold-roll-Arms Bool Bool Bool exitless_step exitless_arms exitless_when y
      ∙ arms-are first second (subst BothLack begun h)

  when-layer : (tests : List Test) (list : List SuchStmt) →
      SuchOne (roll-When (map-When SuchStmt SuchArms SuchWhen Stmt Arms When
      (λ e. e.0) (λ e. e.0) (λ e. e.0) (record { tests = tests; stmts = list })))
  when-layer tests list h =
      let y : When-F Stmt Arms When = record { tests = tests; stmts = plain list } in
      let begun = fold-roll-When language.Stmt Both Branch (seen_step last) both_step branch_step y in
      fold-roll-When Bool Bool Bool exitless_step exitless_arms exitless_when y
      ∙ stmts-are list (subst (λ (b : Branch). StmtsLack b.arm) begun h)

  stmt-is : (stmt : Stmt) → Such stmt
  stmt-is stmt =
      ind-Stmt Such SuchTwo SuchOne
      (λ x y is. subst (λ z. Such (roll-Stmt z)) is (stmt-layer y))
      (λ x y is. subst (λ z. SuchTwo (roll-Arms z)) is (arms-layer y.first y.second))
      (λ x y is. subst (λ z. SuchOne (roll-When z)) is (when-layer y.tests y.stmts)) stmt

  pub all-exitless : (list : List Stmt) → StmtsLack (seen_stmts last list) →
      stmts_exitless list ≡ true
  all-exitless [] h = refl
  all-exitless (stmt ∷ list) h = both (stmt-is stmt h.0) (all-exitless list h.1)
