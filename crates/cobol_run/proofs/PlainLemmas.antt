-- What passes the test of the tree is plain.
use Rattle.std.proofs.Common.{◌≡◌, ℕ, suc, Bool, true, false, not, ◌&&◌, if◌then◌else◌, List, [], ◌∷◌, map, Option, Some, None, is_none, refl, ap, sym, ◌∙◌, subst}
use Rattle.std.proofs.lemmas.Bool.{and_parts}
use Rattle.cob_tree.specs.declared.calc.Calc.{Calc}
use Rattle.cob_tree.specs.declared.calc.Calc.TheVariants as calc
use Rattle.cob_tree.specs.declared.calc.Target.{Target}
use Rattle.cob_tree.specs.declared.choice.Subject.{Subject}
use Rattle.cob_tree.specs.declared.choice.Test.{Test}
use Rattle.cob_tree.specs.declared.cond.Cond.{Cond, ind-Cond, map-Cond, roll-Cond, out-roll-Cond, fold-roll-Cond}
use Rattle.cob_tree.specs.declared.cond.Cond.TheOpen.{Cond-F}
use Rattle.cob_tree.specs.declared.cond.Cond.TheVariants as conds
use Rattle.cob_tree.specs.declared.cond.Rel.{Rel}
use Rattle.cob_tree.specs.declared.cond.Rel.TheVariants.{Equal}
use Rattle.cob_tree.specs.declared.control.Control.{Control}
use Rattle.cob_tree.specs.declared.control.Control.TheVariants as control
use Rattle.cob_tree.specs.declared.place.Expr.{Expr, out-roll-Expr}
use Rattle.cob_tree.specs.declared.place.Expr.TheOpen.{Expr-F, Operand-F}
use Rattle.cob_tree.specs.declared.place.Figure.TheVariants.{Zero}
use Rattle.cob_tree.specs.declared.place.Operand.{Operand, roll-Operand, out-roll-Operand}
use Rattle.cob_tree.specs.declared.place.Place.{Place}
use Rattle.cob_tree.specs.declared.place.Sub.{Sub}
use Rattle.cob_tree.specs.declared.place.Window.{Window}
use Rattle.cob_tree.specs.declared.program.Sentence.{Sentence}
use Rattle.cob_tree.specs.declared.program.Paragraph.{Paragraph}
use Rattle.cob_tree.specs.declared.program.Program.{Program}
use Rattle.cob_tree.specs.declared.stmt.Arms.{Arms, roll-Arms, map-Arms, fold-roll-Arms}
use Rattle.cob_tree.specs.declared.stmt.When.{When, roll-When, map-When, fold-roll-When}
use Rattle.cob_tree.specs.declared.stmt.Stmt.{Stmt, ind-Stmt, map-Stmt, roll-Stmt, out-roll-Stmt, fold-roll-Stmt}
use Rattle.cob_tree.specs.declared.stmt.Stmt.TheOpen.{Stmt-F, Arms-F, When-F}
use Rattle.cob_tree.specs.declared.stmt.Stmt.TheVariants as stmts
use Rattle.cob_act.specs.Acting.{is_inner}
use Rattle.control_flow_theory.specs.language.Language as language
use Rattle.control_flow_theory.specs.language.All.{all}
use Rattle.control_flow_theory.specs.language.Own.{OwnTest}
use Rattle.control_flow_theory.specs.language.Control.{always, bare, cell_chosen, cell_in, cell_of, is_number, number_in, number_written, relation_of, test_of, tested, Tested, tested_step, zero_side, move_of, move_to, lowered_cell, arith_act, arith_of, arith_stmt, count_from, evaluate_of, picker_by, arm_before, else_of, control_in, loop_of, perform_of, Branch, branches_before, Both, both_arms, both_step, branch_step, seen_step, seen, seen_when, seen_both, seen_stmts, seen_sentence, section_last, seen_paragraphs}
use Rattle.control_flow_theory.proofs.language_lemmas.Conditions.{cond-back}
use Rattle.control_flow_theory.proofs.language_lemmas.Unseen.{cond_of}
use Rattle.cobol_run.specs.Standing as standing
use Rattle.cobol_run.specs.Plain.{IsPlain, PlainAct, PlainPicker, PlainStmt}
use Rattle.cobol_run.specs.PlainTests.{arms_step, are_plain_arms, are_plain_stmts, are_plain_whens, is_always, is_equal, is_own_subject, is_own_test, is_plain, is_plain_control, is_plain_paragraph, is_plain_stmt, is_plain_when, is_zero, is_zero_side, is_zero_word, own_step, plain_step, receives_own, targets_own, turns, when_step}

abbrev pub PlainStmts : language.Stmts → Type 0
PlainStmts = standing.StmtsHave PlainAct OwnTest PlainPicker

abbrev PlainArms : language.Arms → Type 0
PlainArms = standing.ArmsHave PlainAct OwnTest PlainPicker

abbrev PlainParagraphs : List language.Paragraph → Type 0
PlainParagraphs = standing.ParagraphsHave PlainAct OwnTest PlainPicker

none-of : (cell : Option ℕ) → is_none cell ≡ true → cell ≡ None
none-of None e = refl
none-of (Some cell) e = cc

-- Conditions.

relation-own : (cell : Option ℕ) (rel : Rel) (value : Option ℕ) (whole : Cond) → cell ≡ None → OwnTest (relation_of cell rel value whole)
relation-own cell rel value whole e = subst (λ c. OwnTest (relation_of c rel value whole)) (sym e) tt

abbrev IsOwn : Cond → Type 0
IsOwn cond = is_own_test cond ≡ true → OwnTest (test_of cond)

abbrev Such : Type 0
Such = (cond : Cond) × IsOwn cond

own_by : (y : Cond-F Cond) → (own_step (map-Cond Cond Bool is_own_test y) ≡ true → OwnTest (tested_step (map-Cond Cond Tested tested y)).test) → IsOwn (roll-Cond y)
own_by y h e =
    subst (λ (t : Tested). OwnTest t.test) (sym (fold-roll-Cond Tested tested_step y)) (h (sym (fold-roll-Cond Bool own_step y) ∙ e))

cond_layer : (y : Cond-F Such) → IsOwn (roll-Cond (map-Cond Such Cond (λ e. e.0) y))
cond_layer (Cond-F.Relation left rel right) =
    own_by (Cond-F.Relation left rel right) (λ e. relation-own (cell_in left) rel (number_in right) _ (none-of (cell_in left) e))
cond_layer (Cond-F.Class place kind not) = own_by (Cond-F.Class place kind not) (λ e. tt)
cond_layer (Cond-F.SignIs expr kind not) = own_by (Cond-F.SignIs expr kind not) (λ e. tt)
cond_layer (Cond-F.Named place) = own_by (Cond-F.Named place) (λ e. tt)
cond_layer (Cond-F.Not inner) = own_by (Cond-F.Not inner.0) inner.1
cond_layer (Cond-F.And left right) = own_by (Cond-F.And left.0 right.0) (λ e. tt)
cond_layer (Cond-F.Or left right) = own_by (Cond-F.Or left.0 right.0) (λ e. tt)

test-own : (cond : Cond) → is_own_test cond ≡ true → OwnTest (test_of cond)
test-own cond = ind-Cond IsOwn (λ x y is. subst (λ z. IsOwn (roll-Cond z)) is (cond_layer y)) cond

-- zero is zero

abbrev word_by : Operand-F Expr Operand Place Sub Window → Bool
word_by y = elim y [ Operand-F.Figure figure ↦ is_zero figure | _ ↦ false ]

abbrev side_by : Expr-F Expr Operand Place Sub Window → Bool
side_by y = elim y [ Expr-F.Leaf operand ↦ is_zero_word operand | _ ↦ false ]

abbrev always_by : Cond-F Cond → Bool
always_by y =
    elim y [
      | Cond-F.Relation left rel right ↦ is_equal rel && is_zero_side left && is_zero_side right
      | _ ↦ false
    ]

zero-word : is_zero_word (roll-Operand (Operand-F.Figure Zero)) ≡ true
zero-word = ap word_by (out-roll-Operand (Operand-F.Figure Zero))

zero-side : is_zero_side zero_side ≡ true
zero-side = ap side_by (out-roll-Expr (Expr-F.Leaf (roll-Operand (Operand-F.Figure Zero)))) ∙ zero-word

always-is : is_always always ≡ true
always-is =
    ap is_always (sym (conds.rolls-Relation zero_side Equal zero_side))
    ∙ ap always_by (out-roll-Cond (Cond-F.Relation zero_side Equal zero_side))
    ∙ ap (λ b. b && b) zero-side

not-both : (b : Bool) → not b ≡ true → b ≡ true → ⊥
not-both true e h = cc
not-both false e h = cc

picks : (cond : Cond) → is_own_test cond ≡ true → not (is_always cond) ≡ true → PlainPicker (language.If (test_of cond))
picks cond own e = (
  test-own cond own,
  λ same. not-both (is_always cond) e
      (ap is_always (sym (cond-back cond (test-own cond own)) ∙ ap cond_of same) ∙ always-is),
)

-- Acts.

abbrev inner_by : Stmt-F Stmt Arms When → Bool
inner_by y =
    elim y [
      | Stmt-F.Opens openings ↦ false
      | Stmt-F.Closes numbers ↦ false
      | Stmt-F.Read file place arms ↦ false
      | Stmt-F.Write entry from ↦ false
      | Stmt-F.Rewrite entry from ↦ false
      | _ ↦ true
    ]

inner : (y : Stmt-F Stmt Arms When) (stmt : Stmt) → roll-Stmt y ≡ stmt → inner_by y ≡ true → is_inner stmt ≡ true
inner y stmt is e = ap is_inner (sym is) ∙ ap inner_by (out-roll-Stmt y) ∙ e

plain-move : (from : Operand) (to : List Place) → PlainAct (language.Own (stmts.Move from to))
plain-move from to = inner (Stmt-F.Move from to) _ (stmts.rolls-Move from to) refl

plain-arith : (calc : Calc) (into : List Target) → PlainAct (language.Own (stmts.Arith calc into bare))
plain-arith calc into = inner (Stmt-F.Arith calc into bare) _ (stmts.rolls-Arith calc into bare) refl

move_to-plain : (cell : Option ℕ) (from : Operand) (to : Place) → cell ≡ None → PlainAct (move_to cell from to)
move_to-plain cell from to e = subst (λ c. PlainAct (move_to c from to)) (sym e) (plain-move from (to ∷ []))

move-plain : (from : Operand) (to : List Place) → receives_own to ≡ true → PlainAct (move_of from to)
move-plain from [] e = plain-move from []
move-plain from (to ∷ []) e = move_to-plain (cell_of to) from to (none-of (cell_of to) e)
move-plain from (to ∷ next ∷ others) e = plain-move from (to ∷ next ∷ others)

unless-lowered : (rounded one : Bool) (cell : Option ℕ) → cell ≡ None → (if rounded then None else (if one then cell else None)) ≡ None
unless-lowered true one cell e = refl
unless-lowered false false cell e = refl
unless-lowered false true cell e = e

lowered-none : (calc : Calc) (into : List Target) → targets_own into ≡ true → lowered_cell calc into ≡ None
lowered-none (calc.Subtract (part ∷ [])) (target ∷ []) e =
    unless-lowered target.rounded (is_number 1 (number_written part)) (cell_of target.place) (none-of (cell_of target.place) e)
lowered-none _ _ e = refl

arith-plain : (calc : Calc) (into : List Target) → targets_own into ≡ true → PlainAct (arith_of calc into)
arith-plain calc into e =
    subst (λ c. PlainAct (arith_act c calc into)) (sym (lowered-none calc into e)) (plain-arith calc into)

-- Choices and loops.

picker_by-plain : (cell : Option ℕ) (counted : Bool) (subject : Subject) (tests : List (List Test)) (has_other : Bool) → cell ≡ None →
    PlainPicker (picker_by cell counted (language.Evaluate subject tests has_other))
picker_by-plain cell counted subject tests has_other e = subst (λ c. PlainPicker (picker_by c counted (language.Evaluate subject tests has_other))) (sym e) tt

evaluate-plain : (subject : Subject) (tests : List (List Test)) (has_other : Bool) → is_own_subject subject ≡ true → PlainPicker (evaluate_of subject tests has_other)
evaluate-plain subject tests has_other e =
    picker_by-plain (cell_chosen subject) (count_from 1 tests) subject tests has_other (none-of (cell_chosen subject) e)

arith_stmt-plain : (calc : Calc) (into : List Target) (first second : Option language.Stmts) → PlainAct (arith_of calc into) →
    PlainArms (both_arms (record { first = first; second = second })) → PlainStmt (arith_stmt calc into (record { first = first; second = second }))
arith_stmt-plain calc into None None act arms = act
arith_stmt-plain calc into None (Some second) act arms = (tt, arms)
arith_stmt-plain calc into (Some first) None act arms = (tt, arms)
arith_stmt-plain calc into (Some first) (Some second) act arms = (tt, arms)

augments : (item : Place) (by : Operand) → PlainAct (language.Own (stmts.Arith (calc.Add (by ∷ [])) (record { place = item; rounded = false } ∷ []) bare))
augments item by = plain-arith (calc.Add (by ∷ [])) (record { place = item; rounded = false } ∷ [])

loop-plain : (control : Control) (body : language.Stmts) → turns control ≡ true → is_plain_control control ≡ true → PlainStmts body → PlainStmt (loop_of (control_in control) body)
loop-plain control.Once body t e h = cc
loop-plain (control.Times amount) body t e h = (tt, h)
loop-plain (control.Until after until) body t e h = (test-own until e, h)
loop-plain (control.Varying after item from by until) body t e h =
    ((plain-move from (item ∷ []), augments item by, test-own until e), h)

perform-plain : (control : Control) (entry exit : ℕ) → is_plain_control control ≡ true → PlainStmt (perform_of (control_in control) entry exit)
perform-plain control.Once entry exit e = tt
perform-plain (control.Times amount) entry exit e = (tt, tt)
perform-plain (control.Until after until) entry exit e = (test-own until e, tt)
perform-plain (control.Varying after item from by until) entry exit e =
    ((plain-move from (item ∷ []), augments item by, test-own until e), tt)

module _ (last : ℕ) where
  abbrev StmtIs : Stmt → Type 0
  StmtIs stmt = is_plain_stmt stmt ≡ true → PlainStmt (seen last stmt)

  abbrev ArmsAre : Arms → Type 0
  ArmsAre arms = are_plain_arms arms ≡ true → PlainArms (both_arms (seen_both last arms))

  abbrev WhenIs : When → Type 0
  WhenIs when = is_plain_when when ≡ true → PlainStmts (seen_when last when).arm

  abbrev SuchStmt : Type 0
  SuchStmt = (stmt : Stmt) × StmtIs stmt

  abbrev SuchArms : Type 0
  SuchArms = (arms : Arms) × ArmsAre arms

  abbrev SuchWhen : Type 0
  SuchWhen = (when : When) × WhenIs when

  abbrev alone : List SuchStmt → List Stmt
  alone stmts = map (λ e. e.0) stmts

  abbrev whens_alone : List SuchWhen → List When
  whens_alone whens = map (λ e. e.0) whens

  stmts_plain_of : (xs : List SuchStmt) → are_plain_stmts (alone xs) ≡ true → PlainStmts (seen_stmts last (alone xs))
  stmts_plain_of [] e = tt
  stmts_plain_of (x ∷ xs) e =
      let h = and_parts (is_plain_stmt x.0) (are_plain_stmts (alone xs)) e in
      (x.1 h.0, stmts_plain_of xs h.1)

  else_plain_of : (xs : List SuchStmt) → are_plain_stmts (alone xs) ≡ true → PlainArms (arm_before (else_of (map (seen last) (alone xs))) language.done)
  else_plain_of [] e = tt
  else_plain_of (x ∷ xs) e = (stmts_plain_of (x ∷ xs) e, tt)

  whens_plain_of : (xs : List SuchWhen) (tail : language.Arms) → are_plain_whens (whens_alone xs) ≡ true → PlainArms tail →
      PlainArms (branches_before (map (seen_when last) (whens_alone xs)) tail)
  whens_plain_of [] tail e h = h
  whens_plain_of (x ∷ xs) tail e h =
      let k = and_parts (is_plain_when x.0) (are_plain_whens (whens_alone xs)) e in
      (x.1 k.0, whens_plain_of xs tail k.1 h)

  -- each statement, by those that it holds

  abbrev mapped : Stmt-F SuchStmt SuchArms SuchWhen → Stmt-F Stmt Arms When
  mapped = map-Stmt SuchStmt SuchArms SuchWhen Stmt Arms When (λ e. e.0) (λ e. e.0) (λ e. e.0)

  abbrev passes : Stmt-F Stmt Arms When → Bool
  passes y = plain_step (map-Stmt Stmt Arms When Bool Bool Bool is_plain_stmt are_plain_arms is_plain_when y)

  abbrev shown : Stmt-F Stmt Arms When → language.Stmt
  shown y = seen_step last (map-Stmt Stmt Arms When language.Stmt Both Branch (seen last) (seen_both last) (seen_when last) y)

  step_plain : (y : Stmt-F SuchStmt SuchArms SuchWhen) → passes (mapped y) ≡ true → PlainStmt (shown (mapped y))
  step_plain (Stmt-F.Display items advance) e = inner (Stmt-F.Display items advance) _ (stmts.rolls-Display items advance) refl
  step_plain (Stmt-F.Move from to) e = move-plain from to e
  step_plain (Stmt-F.Arith calc into arms) e =
      let both = seen_both last arms.0 in
      let h = and_parts (targets_own into) (are_plain_arms arms.0) e in
      arith_stmt-plain calc into both.first both.second (arith-plain calc into h.0) (arms.1 h.1)
  step_plain (Stmt-F.SetTrue place) e = inner (Stmt-F.SetTrue place) _ (stmts.rolls-SetTrue place) refl
  step_plain (Stmt-F.Opens openings) e = cc
  step_plain (Stmt-F.Closes files) e = cc
  step_plain (Stmt-F.Read file into arms) e = cc
  step_plain (Stmt-F.Write entry from) e = cc
  step_plain (Stmt-F.Rewrite entry from) e = cc
  step_plain (Stmt-F.If cond met unmet) e =
      let h = and_parts ((is_own_test cond && not (is_always cond)) && are_plain_stmts (alone met)) (are_plain_stmts (alone unmet)) e in
      let k = and_parts (is_own_test cond && not (is_always cond)) (are_plain_stmts (alone met)) h.0 in
      let t = and_parts (is_own_test cond) (not (is_always cond)) k.0 in
      (picks cond t.0 t.1, (stmts_plain_of met k.1, else_plain_of unmet h.1))
  step_plain (Stmt-F.Evaluate subject whens None) e =
      let h = and_parts (is_own_subject subject && are_plain_whens (whens_alone whens)) true e in
      let k = and_parts (is_own_subject subject) (are_plain_whens (whens_alone whens)) h.0 in
      (evaluate-plain subject _ _ k.0, whens_plain_of whens (language.missing language.done) k.1 tt)
  step_plain (Stmt-F.Evaluate subject whens (Some other)) e =
      let h = and_parts (is_own_subject subject && are_plain_whens (whens_alone whens)) (are_plain_stmts (alone other)) e in
      let k = and_parts (is_own_subject subject) (are_plain_whens (whens_alone whens)) h.0 in
      (evaluate-plain subject _ _ k.0, whens_plain_of whens (language.given (seen_stmts last (alone other)) language.done) k.1 (stmts_plain_of other h.1, tt))
  step_plain (Stmt-F.Loop control body) e =
      let h = and_parts (turns control && is_plain_control control) (are_plain_stmts (alone body)) e in
      let k = and_parts (turns control) (is_plain_control control) h.0 in
      loop-plain control (seen_stmts last (alone body)) k.0 k.1 (stmts_plain_of body h.1)
  step_plain (Stmt-F.Perform entry exit control) e = perform-plain control entry exit e
  step_plain (Stmt-F.Go to) e = tt
  step_plain (Stmt-F.GoDepending to on) e = tt
  step_plain Stmt-F.NextSentence e = tt
  step_plain Stmt-F.StopRun e = tt
  step_plain Stmt-F.Exit e = inner Stmt-F.Exit _ stmts.rolls-Exit refl
  step_plain Stmt-F.ExitParagraph e = tt
  step_plain Stmt-F.ExitSection e = tt
  step_plain (Stmt-F.ExitPerform cycle) e = tt
  step_plain Stmt-F.Continue e = inner Stmt-F.Continue _ stmts.rolls-Continue refl

  layer : (y : Stmt-F SuchStmt SuchArms SuchWhen) → StmtIs (roll-Stmt (mapped y))
  layer y e =
      subst PlainStmt (sym (fold-roll-Stmt language.Stmt Both Branch (seen_step last) both_step branch_step (mapped y)))
      (step_plain y (sym (fold-roll-Stmt Bool Bool Bool plain_step arms_step when_step (mapped y)) ∙ e))

  -- the arms of READ and arithmetic, and a WHEN

  abbrev mapped_arms : Arms-F SuchStmt SuchArms SuchWhen → Arms-F Stmt Arms When
  mapped_arms = map-Arms SuchStmt SuchArms SuchWhen Stmt Arms When (λ e. e.0) (λ e. e.0) (λ e. e.0)

  arms_by : (arms : Arms-F Stmt Arms When) (own : Bool) (both : Both) →
      arms_step (map-Arms Stmt Arms When Bool Bool Bool is_plain_stmt are_plain_arms is_plain_when arms) ≡ own →
      both_step (map-Arms Stmt Arms When language.Stmt Both Branch (seen last) (seen_both last) (seen_when last) arms) ≡ both →
      (own ≡ true → PlainArms (both_arms both)) → ArmsAre (roll-Arms arms)
  arms_by arms own both o b h e =
      subst (λ s. PlainArms (both_arms s)) (sym (fold-roll-Arms language.Stmt Both Branch (seen_step last) both_step branch_step arms ∙ b))
      (h (sym (fold-roll-Arms Bool Bool Bool plain_step arms_step when_step arms ∙ o) ∙ e))

  arms_layer : (first second : Option (List SuchStmt)) → ArmsAre (roll-Arms (mapped_arms (record { first = first; second = second })))
  arms_layer None None = arms_by _ true (record { first = None; second = None }) refl refl (λ e. tt)
  arms_layer None (Some second) =
      arms_by _ (are_plain_stmts (alone second)) (record { first = None; second = Some (seen_stmts last (alone second)) }) refl refl (λ e. (stmts_plain_of second e, tt))
  arms_layer (Some first) None =
      arms_by _ (are_plain_stmts (alone first) && true) (record { first = Some (seen_stmts last (alone first)); second = None }) refl refl
      (λ e. (stmts_plain_of first (and_parts (are_plain_stmts (alone first)) true e).0, tt))
  arms_layer (Some first) (Some second) =
      arms_by _ (are_plain_stmts (alone first) && are_plain_stmts (alone second))
      (record { first = Some (seen_stmts last (alone first)); second = Some (seen_stmts last (alone second)) }) refl refl
      (λ e. let h = and_parts (are_plain_stmts (alone first)) (are_plain_stmts (alone second)) e in (stmts_plain_of first h.0, (stmts_plain_of second h.1, tt)))

  when_layer : (tests : List Test) (stmts : List SuchStmt) → WhenIs (roll-When (map-When SuchStmt SuchArms SuchWhen Stmt Arms When (λ e. e.0) (λ e. e.0) (λ e. e.0) (record { tests = tests; stmts = stmts })))
  when_layer tests stmts e =
      let y : When-F Stmt Arms When = record { tests = tests; stmts = alone stmts } in
      subst (λ (b : Branch). PlainStmts b.arm) (sym (fold-roll-When language.Stmt Both Branch (seen_step last) both_step branch_step y))
      (stmts_plain_of stmts (sym (fold-roll-When Bool Bool Bool plain_step arms_step when_step y) ∙ e))

  stmt-plain : (stmt : Stmt) → StmtIs stmt
  stmt-plain stmt =
      ind-Stmt StmtIs ArmsAre WhenIs
      (λ x y is. subst (λ z. StmtIs (roll-Stmt z)) is (layer y))
      (λ x y is. subst (λ z. ArmsAre (roll-Arms z)) is (arms_layer y.first y.second))
      (λ x y is. subst (λ z. WhenIs (roll-When z)) is (when_layer y.tests y.stmts)) stmt

  stmts-plain : (stmts : List Stmt) → are_plain_stmts stmts ≡ true → PlainStmts (seen_stmts last stmts)
  stmts-plain [] e = tt
  stmts-plain (stmt ∷ stmts) e =
      let h = and_parts (is_plain_stmt stmt) (are_plain_stmts stmts) e in
      (stmt-plain stmt h.0, stmts-plain stmts h.1)

  sentences-plain : (sentences : List Sentence) → all (map (λ (sentence : Sentence). are_plain_stmts sentence.stmts) sentences) ≡ true →
      standing.ParagraphHas PlainAct OwnTest PlainPicker (map (seen_sentence last) sentences)
  sentences-plain [] e = tt
  sentences-plain (sentence ∷ sentences) e =
      let h = and_parts (are_plain_stmts sentence.stmts) (all (map (λ (s : Sentence). are_plain_stmts s.stmts) sentences)) e in
      (stmts-plain sentence.stmts h.0, sentences-plain sentences h.1)

paragraphs-plain : (number : ℕ) (paragraphs : List Paragraph) → all (map is_plain_paragraph paragraphs) ≡ true → PlainParagraphs (seen_paragraphs number paragraphs)
paragraphs-plain number [] e = tt
paragraphs-plain number (paragraph ∷ others) e =
    let h = and_parts (is_plain_paragraph paragraph) (all (map is_plain_paragraph others)) e in
    (sentences-plain (section_last number others) paragraph.sentences h.0, paragraphs-plain (suc number) others h.1)

pub passes_plain : (program : Program) → is_plain program ≡ true → IsPlain program
passes_plain program e = paragraphs-plain 0 program.paragraphs e
