-- Statements that leave no section are seen alike.
use Rattle.std.proofs.Common.{◌≡◌, ℕ, List, [], ◌∷◌, map, Option, Some, None, is_some, refl, ap, ap₂, sym, ◌∙◌, subst}
use Rattle.cob_tree.specs.declared.calc.Calc.{Calc}
use Rattle.cob_tree.specs.declared.calc.Target.{Target}
use Rattle.cob_tree.specs.declared.choice.Test.{Test}
use Rattle.cob_tree.specs.declared.stmt.Arms.{Arms, roll-Arms, map-Arms, fold-roll-Arms}
use Rattle.cob_tree.specs.declared.stmt.When.{When, roll-When, map-When, fold-roll-When}
use Rattle.cob_tree.specs.declared.stmt.Stmt.{Stmt, ind-Stmt, map-Stmt, roll-Stmt, fold-roll-Stmt}
use Rattle.cob_tree.specs.declared.stmt.Stmt.TheOpen.{Stmt-F, Arms-F, When-F}
use Rattle.control_flow_theory.specs.language.Language as language
use Rattle.control_flow_theory.specs.language.Control.{arith_stmt, arm_before, else_of, stmts_of, control_in, loop_of, Branch, branches_before, Both, both_arms, both_step, branch_step, seen_step, seen, seen_when, seen_both, seen_stmts}
use Rattle.procedure_split.specs.made_procedures.Staying.{StmtStays, StmtsStay, ArmsStay, StatementsAreSeenAlike}

abbrev BothStay : Both → Type 0
BothStay both = ArmsStay (both_arms both)

arith-stays : (calc : Calc) (into : List Target) (first second : Option language.Stmts) →
    StmtStays (arith_stmt calc into (record { first = first; second = second })) →
    BothStay (record { first = first; second = second })
arith-stays calc into None None h = tt
arith-stays calc into None (Some second) h = h
arith-stays calc into (Some first) None h = h
arith-stays calc into (Some first) (Some second) h = h

else-stays : (stmts : List language.Stmt) → ArmsStay (arm_before (else_of stmts) language.done) →
    StmtsStay (stmts_of stmts)
else-stays [] h = tt
else-stays (stmt ∷ stmts) h = h.0

loop-stays : (control : Option language.Control) (body : language.Stmts) →
    StmtStays (loop_of control body) → StmtsStay body
loop-stays None body h = h.0
loop-stays (Some control) body h = h

module _ (last : ℕ) where
  abbrev Alike : Stmt → Type 0
  Alike stmt = StmtStays (seen 0 stmt) → seen last stmt ≡ seen 0 stmt

  abbrev AlikeArms : Arms → Type 0
  AlikeArms arms = BothStay (seen_both 0 arms) → seen_both last arms ≡ seen_both 0 arms

  abbrev AlikeWhen : When → Type 0
  AlikeWhen when = StmtsStay (seen_when 0 when).arm → seen_when last when ≡ seen_when 0 when

  abbrev SuchStmt : Type 0
  SuchStmt = (stmt : Stmt) × Alike stmt

  abbrev SuchArms : Type 0
  SuchArms = (arms : Arms) × AlikeArms arms

  abbrev SuchWhen : Type 0
  SuchWhen = (when : When) × AlikeWhen when

  abbrev plain : List SuchStmt → List Stmt
  plain stmts = map (λ e. e.0) stmts

  abbrev plain_whens : List SuchWhen → List When
  plain_whens whens = map (λ e. e.0) whens

  stmts-alike : (xs : List SuchStmt) → StmtsStay (stmts_of (map (seen 0) (plain xs))) →
      map (seen last) (plain xs) ≡ map (seen 0) (plain xs)
  stmts-alike [] h = refl
  stmts-alike (x ∷ xs) h = ap₂ (λ a b. a ∷ b) (x.1 h.0) (stmts-alike xs h.1)

  whens-alike : (xs : List SuchWhen) (tail : language.Arms) →
      ArmsStay (branches_before (map (seen_when 0) (plain_whens xs)) tail) →
      (map (seen_when last) (plain_whens xs) ≡ map (seen_when 0) (plain_whens xs)) × ArmsStay tail
  whens-alike [] tail h = (refl, h)
  whens-alike (x ∷ xs) tail h =
      let behind = whens-alike xs tail h.1 in
      (ap₂ (λ a b. a ∷ b) (x.1 h.0) behind.0, behind.1)

  abbrev mapped : Stmt-F SuchStmt SuchArms SuchWhen → Stmt-F Stmt Arms When
  mapped = map-Stmt SuchStmt SuchArms SuchWhen Stmt Arms When (λ e. e.0) (λ e. e.0) (λ e. e.0)

  abbrev shown : ℕ → Stmt-F Stmt Arms When → language.Stmt
  shown at y = seen_step at
      (map-Stmt Stmt Arms When language.Stmt Both Branch (seen at) (seen_both at) (seen_when at) y)

  step-alike : (y : Stmt-F SuchStmt SuchArms SuchWhen) → StmtStays (shown 0 (mapped y)) →
      shown last (mapped y) ≡ shown 0 (mapped y)
  step-alike (Stmt-F.Display items advance) h = refl
  step-alike (Stmt-F.Move from to) h = refl
  step-alike (Stmt-F.Arith calc into arms) h =
      let both = seen_both 0 arms.0 in
      ap (arith_stmt calc into) (arms.1 (arith-stays calc into both.first both.second h))
  step-alike (Stmt-F.SetTrue place) h = refl
  step-alike (Stmt-F.Opens openings) h = refl
  step-alike (Stmt-F.Closes files) h = refl
  step-alike (Stmt-F.Read file into arms) h =
      ap (λ (both : Both). language.Choose
      (language.By (language.Read file into (is_some both.first))) (both_arms both)) (arms.1 h)
  step-alike (Stmt-F.Write entry from) h = refl
  step-alike (Stmt-F.Rewrite entry from) h = refl
  step-alike (Stmt-F.If cond met unmet) h =
      ap₂ (λ a b. seen_step 0 (Stmt-F.If cond a b)) (stmts-alike met h.0)
      (stmts-alike unmet (else-stays (map (seen 0) (plain unmet)) h.1))
  step-alike (Stmt-F.Evaluate subject whens None) h =
      ap (λ (bs : List Branch). seen_step 0 (Stmt-F.Evaluate subject bs None))
      (whens-alike whens (language.missing language.done) h).0
  step-alike (Stmt-F.Evaluate subject whens (Some other)) h =
      let behind = language.given (stmts_of (map (seen 0) (plain other))) language.done in
      let found = whens-alike whens behind h in
      ap₂ (λ (bs : List Branch) os. seen_step 0 (Stmt-F.Evaluate subject bs (Some os))) found.0
      (stmts-alike other found.1.0)
  step-alike (Stmt-F.Loop control body) h =
      ap (λ b. seen_step 0 (Stmt-F.Loop control b))
      (stmts-alike body (loop-stays (control_in control) (stmts_of (map (seen 0) (plain body))) h))
  step-alike (Stmt-F.Perform entry exit control) h = refl
  step-alike (Stmt-F.Go to) h = refl
  step-alike (Stmt-F.GoDepending to on) h = refl
  step-alike Stmt-F.NextSentence h = refl
  step-alike Stmt-F.StopRun h = refl
  step-alike Stmt-F.Exit h = refl
  step-alike Stmt-F.ExitParagraph h = refl
  step-alike Stmt-F.ExitSection h = absurd h
  step-alike (Stmt-F.ExitPerform cycle) h = refl
  step-alike Stmt-F.Continue h = refl

  stmt-layer : (y : Stmt-F SuchStmt SuchArms SuchWhen) → Alike (roll-Stmt (mapped y))
  stmt-layer y h =
      let first =
      fold-roll-Stmt language.Stmt Both Branch (seen_step 0) both_step branch_step (mapped y) in
      fold-roll-Stmt language.Stmt Both Branch (seen_step last) both_step branch_step (mapped y)
      ∙ step-alike y (subst StmtStays first h)
      ∙ sym first

  abbrev mapped_arms : Arms-F SuchStmt SuchArms SuchWhen → Arms-F Stmt Arms When
  mapped_arms = map-Arms SuchStmt SuchArms SuchWhen Stmt Arms When (λ e. e.0) (λ e. e.0) (λ e. e.0)

  abbrev shown_arms : ℕ → Arms-F Stmt Arms When → Both
  shown_arms at arms = both_step (map-Arms Stmt Arms When language.Stmt Both Branch
      (seen at) (seen_both at) (seen_when at) arms)

  abbrev two : Option (List language.Stmt) → Option (List language.Stmt) → Both
  two first second = both_step (record { first = first; second = second })

  arms-alike : (first second : Option (List SuchStmt)) →
      let y = mapped_arms (record { first = first; second = second }) in
      BothStay (shown_arms 0 y) → shown_arms last y ≡ shown_arms 0 y
  arms-alike None None h = refl
  arms-alike None (Some second) h = ap (λ s. two None (Some s)) (stmts-alike second h.0)
  arms-alike (Some first) None h = ap (λ f. two (Some f) None) (stmts-alike first h.0)
  arms-alike (Some first) (Some second) h =
      ap₂ (λ f s. two (Some f) (Some s)) (stmts-alike first h.0) (stmts-alike second h.1.0)

  arms-layer : (first second : Option (List SuchStmt)) →
      AlikeArms (roll-Arms (mapped_arms (record { first = first; second = second })))
  arms-layer first second h =
      let y = mapped_arms (record { first = first; second = second }) in
      let begun = fold-roll-Arms language.Stmt Both Branch (seen_step 0) both_step branch_step y in
      fold-roll-Arms language.Stmt Both Branch (seen_step last) both_step branch_step y
      ∙ arms-alike first second (subst BothStay begun h)
      ∙ sym begun

  when-layer : (tests : List Test) (stmts : List SuchStmt) →
      AlikeWhen (roll-When (map-When SuchStmt SuchArms SuchWhen Stmt Arms When
      (λ e. e.0) (λ e. e.0) (λ e. e.0) (record { tests = tests; stmts = stmts })))
  when-layer tests stmts h =
      let y : When-F Stmt Arms When = record { tests = tests; stmts = plain stmts } in
      let begun = fold-roll-When language.Stmt Both Branch (seen_step 0) both_step branch_step y in
      fold-roll-When language.Stmt Both Branch (seen_step last) both_step branch_step y
      ∙ ap (λ s. branch_step (record { tests = tests; stmts = s }))
      (stmts-alike stmts (subst (λ (b : Branch). StmtsStay b.arm) begun h))
      ∙ sym begun

  stmt-alike : (stmt : Stmt) → Alike stmt
  stmt-alike stmt =
      ind-Stmt Alike AlikeArms AlikeWhen
      (λ x y is. subst (λ z. Alike (roll-Stmt z)) is (stmt-layer y))
      (λ x y is. subst (λ z. AlikeArms (roll-Arms z)) is (arms-layer y.first y.second))
      (λ x y is. subst (λ z. AlikeWhen (roll-When z)) is (when-layer y.tests y.stmts)) stmt

  all-alike : (stmts : List Stmt) → StmtsStay (seen_stmts 0 stmts) →
      seen_stmts last stmts ≡ seen_stmts 0 stmts
  all-alike [] h = refl
  all-alike (stmt ∷ stmts) h =
      ap₂ (λ a b. language.also a b) (stmt-alike stmt h.0) (all-alike stmts h.1)

pub stmts-alike-all : StatementsAreSeenAlike
stmts-alike-all = all-alike
