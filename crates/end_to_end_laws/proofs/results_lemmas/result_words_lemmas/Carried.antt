-- Statements that fit by tests fit by others that ask no more.
use Rattle.std.proofs.Common.{◌≡◌, ℕ, Bool, true, ◌&&◌, List, [], ◌∷◌, map, Option, Some, None, refl, sym, ◌∙◌, subst}
use Rattle.std.proofs.lemmas.Bool.{and_parts}
use Rattle.cob_tree.specs.declared.calc.Calc.{Calc}
use Rattle.cob_tree.specs.declared.calc.Calc.TheVariants as calcs
use Rattle.cob_tree.specs.declared.calc.Target.{Target}
use Rattle.cob_tree.specs.declared.choice.Subject.{Subject}
use Rattle.cob_tree.specs.declared.choice.Subject.TheVariants as subjects
use Rattle.cob_tree.specs.declared.choice.Test.{Test}
use Rattle.cob_tree.specs.declared.choice.Test.TheVariants as tests
use Rattle.cob_tree.specs.declared.control.Control.{Control}
use Rattle.cob_tree.specs.declared.control.Control.TheVariants as controls
use Rattle.cob_tree.specs.declared.place.Expr.{Expr}
use Rattle.cob_tree.specs.declared.place.Operand.{Operand}
use Rattle.cob_tree.specs.declared.place.Place.{Place}
use Rattle.cob_tree.specs.declared.stmt.Arms.{Arms, roll-Arms, map-Arms, fold-roll-Arms}
use Rattle.cob_tree.specs.declared.stmt.Stmt.{Stmt, ind-Stmt, map-Stmt, roll-Stmt, fold-roll-Stmt}
use Rattle.cob_tree.specs.declared.stmt.Stmt.TheOpen.{Stmt-F, Arms-F}
use Rattle.cob_tree.specs.declared.stmt.When.{When, roll-When, map-When, fold-roll-When}
use Rattle.control_flow_theory.specs.language.All.{all}
use Rattle.program_facts.specs.well_scoped.Part.{is_filled, if_any}
use Rattle.program_facts.proofs.well_scoped_lemmas.Made.{both}
use Rattle.round_trip.specs.fitting_statements.Fits.{Fits}
use Rattle.round_trip.specs.fitting_statements.Statement.{some_pass, held, fit_receiver, fit_target, fit_targets, fit_results, fit_numbers, fit_calc, fit_control, fit_turns, fit_subject, fit_compared, fit_test, fit_into, fit_from, fit_opening, stmt_step, arms_step, when_step, fit_stmt, fit_arms, fit_when}
use Rattle.end_to_end_laws.specs.results.result_words.Carried.{ArePassed, PartsArePassed}

-- ---- lists

all-passed : {X : Type 0} (test other : X → Bool) → ((x : X) → test x ≡ true → other x ≡ true) → (list : List X) → all (map test list) ≡ true → all (map other list) ≡ true
all-passed test other p [] h = refl
all-passed test other p (x ∷ list) h =
    let parts = and_parts (test x) (all (map test list)) h in
    both (p x parts.0) (all-passed test other p list parts.1)

pub some-passed : {X : Type 0} (test other : X → Bool) → ((x : X) → test x ≡ true → other x ≡ true) → (list : List X) → some_pass test list ≡ true → some_pass other list ≡ true
some-passed test other p list h =
    let parts = and_parts (is_filled list) (all (map test list)) h in
    both parts.0 (all-passed test other p list parts.1)

pub any-passed : {X : Type 0} (test other : X → Bool) → ((x : X) → test x ≡ true → other x ≡ true) → (o : Option X) → if_any test o ≡ true → if_any other o ≡ true
any-passed test other p None h = refl
any-passed test other p (Some x) h = p x h

pub beside : (a b c d : Bool) → (a ≡ true → c ≡ true) → (b ≡ true → d ≡ true) → (a && b) ≡ true → (c && d) ≡ true
beside a b c d f g h = let parts = and_parts a b h in both (f parts.0) (g parts.1)

module _ (fits others : Fits) (passed : PartsArePassed fits others) where
  -- ---- parts

  pub receiver : (from : Operand) → fits.value from ≡ true → (place : Place) → fit_receiver fits from place ≡ true → fit_receiver others from place ≡ true
  receiver from v place h =
      let parts = and_parts (fits.receives place) (fits.moves from place) h in
      both (passed.receives place parts.0) (passed.moves from place v parts.0 parts.1)

  targets : (into : List Target) → fit_targets fits into ≡ true → fit_targets others into ≡ true
  targets into h = some-passed (fit_target fits fits.number_place) (fit_target others others.number_place) (λ target. passed.number_place target.place) into h

  results : (into : List Target) → fit_results fits into ≡ true → fit_results others into ≡ true
  results into h = some-passed (fit_target fits fits.result_place) (fit_target others others.result_place) (λ target. passed.result_place target.place) into h

  numbers : (operands : List Operand) → fit_numbers fits operands ≡ true → fit_numbers others operands ≡ true
  numbers operands h = some-passed fits.number others.number passed.number operands h

  pub calc-passed : (calc : Calc) (into : List Target) → fit_calc fits calc into ≡ true → fit_calc others calc into ≡ true
  calc-passed (calcs.Add operands) into h =
      beside (fit_numbers fits operands) (fit_targets fits into) (fit_numbers others operands) (fit_targets others into) (numbers operands) (targets into) h
  calc-passed (calcs.AddGiving operands) into h =
      beside (fit_numbers fits operands) (fit_results fits into) (fit_numbers others operands) (fit_results others into) (numbers operands) (results into) h
  calc-passed (calcs.Subtract operands) into h =
      beside (fit_numbers fits operands) (fit_targets fits into) (fit_numbers others operands) (fit_targets others into) (numbers operands) (targets into) h
  calc-passed (calcs.SubtractGiving operands from) into h =
      beside (fit_numbers fits operands) (fits.number from && fit_results fits into) (fit_numbers others operands) (others.number from && fit_results others into)
      (numbers operands) (beside (fits.number from) (fit_results fits into) (others.number from) (fit_results others into) (passed.number from) (results into)) h
  calc-passed (calcs.Multiply by) into h =
      beside (fits.number by) (fit_targets fits into) (others.number by) (fit_targets others into) (passed.number by) (targets into) h
  calc-passed (calcs.MultiplyGiving one by) into h =
      beside (fits.number one) (fits.number by && fit_results fits into) (others.number one) (others.number by && fit_results others into)
      (passed.number one) (beside (fits.number by) (fit_results fits into) (others.number by) (fit_results others into) (passed.number by) (results into)) h
  calc-passed (calcs.Divide by) into h =
      beside (fits.number by) (fit_targets fits into) (others.number by) (fit_targets others into) (passed.number by) (targets into) h
  calc-passed (calcs.DivideGiving by what) into h =
      beside (fits.number by) (fits.number what && fit_results fits into) (others.number by) (others.number what && fit_results others into)
      (passed.number by) (beside (fits.number what) (fit_results fits into) (others.number what) (fit_results others into) (passed.number what) (results into)) h
  calc-passed (calcs.Compute expr) into h =
      beside (fits.expr_number expr) (fit_results fits into) (others.expr_number expr) (fit_results others into) (passed.expr_number expr) (results into) h

  pub control-passed : (control : Control) → fit_control fits control ≡ true → fit_control others control ≡ true
  control-passed controls.Once h = refl
  control-passed (controls.Times count) h = passed.whole count h
  control-passed (controls.Until after cond) h = passed.cond cond h
  control-passed (controls.Varying after item from by cond) h =
      beside (fits.number_place item) (fits.number from && (fits.number by && fits.cond cond)) (others.number_place item) (others.number from && (others.number by && others.cond cond))
      (passed.number_place item)
      (beside (fits.number from) (fits.number by && fits.cond cond) (others.number from) (others.number by && others.cond cond)
      (passed.number from) (beside (fits.number by) (fits.cond cond) (others.number by) (others.cond cond) (passed.number by) (passed.cond cond))) h

  pub turns-passed : (control : Control) → fit_turns fits control ≡ true → fit_turns others control ≡ true
  turns-passed controls.Once h = h
  turns-passed (controls.Times count) h = beside (fits.whole count) (fits.turns count) (others.whole count) (others.turns count) (passed.whole count) (passed.turns count) h
  turns-passed (controls.Until after cond) h = control-passed (controls.Until after cond) h
  turns-passed (controls.Varying after item from by cond) h = control-passed (controls.Varying after item from by cond) h

  pub subject-passed : (subject : Subject) → fit_subject fits subject ≡ true → fit_subject others subject ≡ true
  subject-passed subjects.True h = refl
  subject-passed subjects.False h = refl
  subject-passed (subjects.Value expr) h = passed.expr_value expr h

  compared-passed : (subject : Expr) → fits.expr_value subject ≡ true → (expr : Expr) → fit_compared fits subject expr ≡ true → fit_compared others subject expr ≡ true
  compared-passed subject s expr h =
      let parts = and_parts (fits.expr_value expr) (fits.compares subject expr) h in
      both (passed.expr_value expr parts.0) (passed.compares subject expr s parts.0 parts.1)

  pub test-passed : (subject : Subject) → fit_subject fits subject ≡ true → (test : Test) → fit_test fits subject test ≡ true → fit_test others subject test ≡ true
  test-passed subject s tests.Any h = refl
  test-passed (subjects.Value expr) s (tests.Value not from to) h =
      beside (fit_compared fits expr from) (if_any (fit_compared fits expr) to) (fit_compared others expr from) (if_any (fit_compared others expr) to)
      (compared-passed expr s from) (any-passed (fit_compared fits expr) (fit_compared others expr) (compared-passed expr s) to) h
  test-passed (subjects.Value expr) s (tests.Holds cond) h = h
  test-passed subjects.True s (tests.Holds cond) h = passed.cond cond h
  test-passed subjects.False s (tests.Holds cond) h = passed.cond cond h
  test-passed subjects.True s (tests.Value not from to) h = h
  test-passed subjects.False s (tests.Value not from to) h = h

  into-passed : (file : ℕ) (place : Place) → fit_into fits file place ≡ true → fit_into others file place ≡ true
  into-passed file place h =
      let parts = and_parts (fits.receives place) (fits.into file place) h in
      both (passed.receives place parts.0) (passed.into file place parts.0 parts.1)

  pub read-passed : (file : ℕ) (into : Option Place) → if_any (fit_into fits file) into ≡ true → if_any (fit_into others file) into ≡ true
  read-passed file into h = any-passed (fit_into fits file) (fit_into others file) (into-passed file) into h

  from-passed : (entry : ℕ) → fits.entry_record entry ≡ true → (from : Operand) → fit_from fits entry from ≡ true → fit_from others entry from ≡ true
  from-passed entry e from h =
      let parts = and_parts (fits.value from) (fits.writes entry from) h in
      both (passed.value from parts.0) (passed.writes entry from e parts.0 parts.1)

  pub written-passed : (entry : ℕ) (from : Option Operand) → (fits.entry_record entry && if_any (fit_from fits entry) from) ≡ true → (others.entry_record entry && if_any (fit_from others entry) from) ≡ true
  written-passed entry from h =
      let parts = and_parts (fits.entry_record entry) (if_any (fit_from fits entry) from) h in
      both (passed.entry_record entry parts.0) (any-passed (fit_from fits entry) (fit_from others entry) (from-passed entry parts.0) from parts.1)

-- ---- statements, with those in them

module _ (fits others : Fits) (passed : ArePassed fits others) where
  parts : PartsArePassed fits others
  parts = passed.parts

  abbrev Such : Stmt → Type 0
  Such stmt = fit_stmt fits stmt ≡ true → fit_stmt others stmt ≡ true

  abbrev SuchTwo : Arms → Type 0
  SuchTwo arms = fit_arms fits arms ≡ true → fit_arms others arms ≡ true

  abbrev SuchOne : When → Type 0
  SuchOne when = (subject : Subject) → fit_subject fits subject ≡ true → fit_when fits when subject ≡ true → fit_when others when subject ≡ true

  abbrev SuchStmt : Type 0
  SuchStmt = (stmt : Stmt) × Such stmt

  abbrev SuchArms : Type 0
  SuchArms = (arms : Arms) × SuchTwo arms

  abbrev SuchWhen : Type 0
  SuchWhen = (when : When) × SuchOne when

  abbrev plain : List SuchStmt → List Stmt
  plain list = map (λ e. e.0) list

  abbrev plain_whens : List SuchWhen → List When
  plain_whens whens = map (λ e. e.0) whens

  each-passed : (list : List SuchStmt) → all (map (fit_stmt fits) (plain list)) ≡ true → all (map (fit_stmt others) (plain list)) ≡ true
  each-passed [] h = refl
  each-passed (x ∷ list) h =
      let found = and_parts (fit_stmt fits x.0) (all (map (fit_stmt fits) (plain list))) h in
      both (x.1 found.0) (each-passed list found.1)

  held-passed : (list : List SuchStmt) → held (map (fit_stmt fits) (plain list)) ≡ true → held (map (fit_stmt others) (plain list)) ≡ true
  held-passed [] h = h
  held-passed (x ∷ list) h = each-passed (x ∷ list) h

  whens-passed : (subject : Subject) → fit_subject fits subject ≡ true → (whens : List SuchWhen) →
      all (map (λ (when : Subject → Bool). when subject) (map (fit_when fits) (plain_whens whens))) ≡ true →
      all (map (λ (when : Subject → Bool). when subject) (map (fit_when others) (plain_whens whens))) ≡ true
  whens-passed subject s [] h = refl
  whens-passed subject s (x ∷ whens) h =
      let found = and_parts (fit_when fits x.0 subject) (all (map (λ (when : Subject → Bool). when subject) (map (fit_when fits) (plain_whens whens)))) h in
      both (x.1 subject s found.0) (whens-passed subject s whens found.1)

  branches-passed : (subject : Subject) → fit_subject fits subject ≡ true → (whens : List SuchWhen) →
      some_pass (λ (when : Subject → Bool). when subject) (map (fit_when fits) (plain_whens whens)) ≡ true →
      some_pass (λ (when : Subject → Bool). when subject) (map (fit_when others) (plain_whens whens)) ≡ true
  branches-passed subject s [] h = h
  branches-passed subject s (x ∷ whens) h = whens-passed subject s (x ∷ whens) h

  abbrev mapped : Stmt-F SuchStmt SuchArms SuchWhen → Stmt-F Stmt Arms When
  mapped = map-Stmt SuchStmt SuchArms SuchWhen Stmt Arms When (λ e. e.0) (λ e. e.0) (λ e. e.0)

  abbrev told : Fits → Stmt-F Stmt Arms When → Bool
  told by y = stmt_step by (map-Stmt Stmt Arms When Bool Bool (Subject → Bool) (fit_stmt by) (fit_arms by) (fit_when by) y)

  evaluated : (subject : Subject) (whens : List SuchWhen) (a b : Bool) → (a ≡ true → b ≡ true) →
      (fit_subject fits subject && (some_pass (λ (when : Subject → Bool). when subject) (map (fit_when fits) (plain_whens whens)) && a)) ≡ true →
      (fit_subject others subject && (some_pass (λ (when : Subject → Bool). when subject) (map (fit_when others) (plain_whens whens)) && b)) ≡ true
  evaluated subject whens a b f h =
      let found = and_parts (fit_subject fits subject) (some_pass (λ (when : Subject → Bool). when subject) (map (fit_when fits) (plain_whens whens)) && a) h in
      let behind = and_parts (some_pass (λ (when : Subject → Bool). when subject) (map (fit_when fits) (plain_whens whens))) a found.1 in
      both (subject-passed fits others parts subject found.0) (both (branches-passed subject found.0 whens behind.0) (f behind.1))

  step-passed : (y : Stmt-F SuchStmt SuchArms SuchWhen) → told fits (mapped y) ≡ true → told others (mapped y) ≡ true
  step-passed (Stmt-F.Display items advance) h = some-passed fits.value others.value parts.value items h
  step-passed (Stmt-F.Move from to) h =
      let found = and_parts (fits.value from) (some_pass (fit_receiver fits from) to) h in
      both (parts.value from found.0) (some-passed (fit_receiver fits from) (fit_receiver others from) (receiver fits others parts from found.0) to found.1)
  step-passed (Stmt-F.Arith calc into arms) h =
      beside (fit_calc fits calc into) (fit_arms fits arms.0) (fit_calc others calc into) (fit_arms others arms.0) (calc-passed fits others parts calc into) arms.1 h
  step-passed (Stmt-F.SetTrue place) h = parts.condition_place place h
  step-passed (Stmt-F.Opens openings) h = some-passed (fit_opening fits) (fit_opening others) (λ opening. parts.file opening.file) openings h
  step-passed (Stmt-F.Closes files) h = some-passed fits.file others.file parts.file files h
  step-passed (Stmt-F.Read file into arms) h =
      beside (fits.file file) (if_any (fit_into fits file) into && fit_arms fits arms.0) (others.file file) (if_any (fit_into others file) into && fit_arms others arms.0)
      (parts.file file)
      (beside (if_any (fit_into fits file) into) (fit_arms fits arms.0) (if_any (fit_into others file) into) (fit_arms others arms.0) (read-passed fits others parts file into) arms.1) h
  step-passed (Stmt-F.Write entry from) h = written-passed fits others parts entry from h
  step-passed (Stmt-F.Rewrite entry from) h = written-passed fits others parts entry from h
  step-passed (Stmt-F.If cond met unmet) h =
      beside (fits.cond cond) (held (map (fit_stmt fits) (plain met)) && all (map (fit_stmt fits) (plain unmet)))
      (others.cond cond) (held (map (fit_stmt others) (plain met)) && all (map (fit_stmt others) (plain unmet)))
      (parts.cond cond)
      (beside (held (map (fit_stmt fits) (plain met))) (all (map (fit_stmt fits) (plain unmet))) (held (map (fit_stmt others) (plain met))) (all (map (fit_stmt others) (plain unmet)))
      (held-passed met) (each-passed unmet)) h
  step-passed (Stmt-F.Evaluate subject whens None) h = evaluated subject whens true true (λ t. t) h
  step-passed (Stmt-F.Evaluate subject whens (Some other)) h =
      evaluated subject whens (held (map (fit_stmt fits) (plain other))) (held (map (fit_stmt others) (plain other))) (held-passed other) h
  step-passed (Stmt-F.Loop control body) h =
      beside (fit_turns fits control) (held (map (fit_stmt fits) (plain body))) (fit_turns others control) (held (map (fit_stmt others) (plain body)))
      (turns-passed fits others parts control) (held-passed body) h
  step-passed (Stmt-F.Perform entry exit control) h =
      beside (fits.range entry exit) (fit_control fits control) (others.range entry exit) (fit_control others control) (passed.range entry exit) (control-passed fits others parts control) h
  step-passed (Stmt-F.Go to) h = passed.label to h
  step-passed (Stmt-F.GoDepending to on) h =
      beside (some_pass fits.label to) (fits.whole_place on) (some_pass others.label to) (others.whole_place on) (some-passed fits.label others.label passed.label to) (parts.whole_place on) h
  step-passed Stmt-F.NextSentence h = refl
  step-passed Stmt-F.StopRun h = refl
  step-passed Stmt-F.Exit h = refl
  step-passed Stmt-F.ExitParagraph h = refl
  step-passed Stmt-F.ExitSection h = refl
  step-passed (Stmt-F.ExitPerform cycle) h = refl
  step-passed Stmt-F.Continue h = refl

  rolled : (by : Fits) (y : Stmt-F Stmt Arms When) → fit_stmt by (roll-Stmt y) ≡ told by y
  rolled by y = fold-roll-Stmt Bool Bool (Subject → Bool) (stmt_step by) (arms_step by) (when_step by) y

  stmt-layer : (y : Stmt-F SuchStmt SuchArms SuchWhen) → Such (roll-Stmt (mapped y))
  stmt-layer y h = rolled others (mapped y) ∙ step-passed y (sym (rolled fits (mapped y)) ∙ h)

  abbrev mapped_arms : Arms-F SuchStmt SuchArms SuchWhen → Arms-F Stmt Arms When
  mapped_arms = map-Arms SuchStmt SuchArms SuchWhen Stmt Arms When (λ e. e.0) (λ e. e.0) (λ e. e.0)

  abbrev told_arms : Fits → Arms-F Stmt Arms When → Bool
  told_arms by y = arms_step by (map-Arms Stmt Arms When Bool Bool (Subject → Bool) (fit_stmt by) (fit_arms by) (fit_when by) y)

  rolled-arms : (by : Fits) (y : Arms-F Stmt Arms When) → fit_arms by (roll-Arms y) ≡ told_arms by y
  rolled-arms by y = fold-roll-Arms Bool Bool (Subject → Bool) (stmt_step by) (arms_step by) (when_step by) y

  arms-passed : (first second : Option (List SuchStmt)) →
      let y = mapped_arms (record { first = first; second = second }) in
      told_arms fits y ≡ true → told_arms others y ≡ true
  arms-passed None None h = refl
  arms-passed None (Some second) h = held-passed second h
  arms-passed (Some first) None h =
      beside (held (map (fit_stmt fits) (plain first))) true (held (map (fit_stmt others) (plain first))) true (held-passed first) (λ t. t) h
  arms-passed (Some first) (Some second) h =
      beside (held (map (fit_stmt fits) (plain first))) (held (map (fit_stmt fits) (plain second)))
      (held (map (fit_stmt others) (plain first))) (held (map (fit_stmt others) (plain second))) (held-passed first) (held-passed second) h

  arms-layer : (first second : Option (List SuchStmt)) → SuchTwo (roll-Arms (mapped_arms (record { first = first; second = second })))
  arms-layer first second h =
      let y = mapped_arms (record { first = first; second = second }) in
      rolled-arms others y ∙ arms-passed first second (sym (rolled-arms fits y) ∙ h)

  rolled-when : (by : Fits) (tests : List Test) (list : List Stmt) (subject : Subject) →
      fit_when by (roll-When (record { tests = tests; stmts = list })) subject ≡ (some_pass (fit_test by subject) tests && held (map (fit_stmt by) list))
  rolled-when by tests list subject =
      subst (λ (w : Subject → Bool). fit_when by (roll-When (record { tests = tests; stmts = list })) subject ≡ w subject)
      (fold-roll-When Bool Bool (Subject → Bool) (stmt_step by) (arms_step by) (when_step by) (record { tests = tests; stmts = list })) refl

  when-layer : (tests : List Test) (list : List SuchStmt) →
      SuchOne (roll-When (map-When SuchStmt SuchArms SuchWhen Stmt Arms When (λ e. e.0) (λ e. e.0) (λ e. e.0) (record { tests = tests; stmts = list })))
  when-layer tests list subject s h =
      rolled-when others tests (plain list) subject
      ∙ beside (some_pass (fit_test fits subject) tests) (held (map (fit_stmt fits) (plain list))) (some_pass (fit_test others subject) tests) (held (map (fit_stmt others) (plain list)))
      (some-passed (fit_test fits subject) (fit_test others subject) (test-passed fits others parts subject s) tests) (held-passed list)
      (sym (rolled-when fits tests (plain list) subject) ∙ h)

  pub stmt-passed : (stmt : Stmt) → Such stmt
  stmt-passed stmt =
      ind-Stmt Such SuchTwo SuchOne
      (λ x y is. subst (λ z. Such (roll-Stmt z)) is (stmt-layer y))
      (λ x y is. subst (λ z. SuchTwo (roll-Arms z)) is (arms-layer y.first y.second))
      (λ x y is. subst (λ z. SuchOne (roll-When z)) is (when-layer y.tests y.stmts)) stmt
