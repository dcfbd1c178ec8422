-- Statements that fit, are in scope and nest so deep have in them what they are to, and the other way
-- round.
use Rattle.std.proofs.Common.{arith, ◌≡◌, ◌≤◌, ◌+◌, ℕ, suc, max, Bool, true, false, ◌&&◌, List, [], ◌∷◌, map, Option, Some, None, refl, ap, subst, ◌∙◌}
use Rattle.cob_tree.specs.Depth as depth
use Rattle.cob_tree.specs.Depth.{stmt_depth, stmts_depth, arms_depth, when_depth, whens_depth}
use Rattle.cob_tree.specs.declared.calc.Calc.{Calc}
use Rattle.cob_tree.specs.declared.calc.Calc.TheVariants as calcs
use Rattle.cob_tree.specs.declared.calc.Target.{Target}
use Rattle.cob_tree.specs.declared.choice.Subject.{Subject}
use Rattle.cob_tree.specs.declared.choice.Subject.TheVariants as subjects
use Rattle.cob_tree.specs.declared.choice.Test.{Test}
use Rattle.cob_tree.specs.declared.choice.Test.TheVariants as tests
use Rattle.cob_tree.specs.declared.cond.Cond.{Cond}
use Rattle.cob_tree.specs.declared.control.Control.{Control}
use Rattle.cob_tree.specs.declared.control.Control.TheVariants as controls
use Rattle.cob_tree.specs.declared.file.Opening.{Opening}
use Rattle.cob_tree.specs.declared.place.Expr.{Expr}
use Rattle.cob_tree.specs.declared.place.Operand.{Operand}
use Rattle.cob_tree.specs.declared.place.Place.{Place}
use Rattle.cob_tree.specs.declared.stmt.Arms.{Arms, roll-Arms, out-Arms, roll-out-Arms, map-Arms, fold-roll-Arms}
use Rattle.cob_tree.specs.declared.stmt.Stmt.{Stmt, roll-Stmt, out-Stmt, roll-out-Stmt, map-Stmt, fold-roll-Stmt}
use Rattle.cob_tree.specs.declared.stmt.Stmt.TheOpen.{Stmt-F, Arms-F, When-F}
use Rattle.cob_tree.specs.declared.stmt.When.{When, roll-When, out-When, roll-out-When, fold-roll-When}
use Rattle.control_flow_theory.specs.language.All.{all}
use Rattle.program_facts.specs.well_scoped.Part.{is_filled}
use Rattle.cobol_grammar.specs.declared.stmt_forms.scope.Scope.{Scope}
use Rattle.cobol_grammar.specs.stmt_forms.Loop.{looped}
use Rattle.round_trip.specs.spelling.stmt_spelling.Stmt.{Each, IfAny, Some_of}
use Rattle.round_trip.specs.fitting_statements.Fits.{Fits}
use Rattle.round_trip.specs.fitting_statements.Statement as fit
use Rattle.round_trip.specs.fitting_statements.Statement.{held, fit_receiver, fit_targets, fit_results, fit_numbers, fit_calc, fit_control, fit_turns, fit_subject, fit_compared, fit_test, fit_into, fit_from, fit_stmt, fit_arms, fit_when, are_fit_stmts}
use Rattle.round_trip.specs.fitting_statements.Scope as scopes
use Rattle.round_trip.specs.fitting_statements.Scope.{Scoped, each_in, is_in_scope, are_arms_in_scope, is_when_in_scope, are_in_scope}
use Rattle.round_trip.proofs.fitting_statements_lemmas.Told.{Same, itself, always, never, beside, some-same, any-same, Tells, leaf, scoped-leaf, before, beside-told, retold, deep}
use Rattle.round_trip.proofs.fitting_statements_lemmas.Shape.{Receives, Targets, Results, Number, FitsCalc, FitsControl, FitsTurns, FitsSubject, Compares, FitsTest, TakesRecord, WrittenFrom, FitsArms, FitsWhen, FitsShape, FitsStmt}

module _ (fits : Fits) where
  -- ---- parts

  receiver-same : (from : Operand) (place : Place) → Same (fit_receiver fits from place) (Receives fits from place)
  receiver-same from place = beside (itself (fits.receives place)) (itself (fits.moves from place))

  targets-same : (into : List Target) → Same (fit_targets fits into) (Targets fits into)
  targets-same into = some-same (λ target. itself (fits.number_place target.place)) into

  results-same : (into : List Target) → Same (fit_results fits into) (Results fits into)
  results-same into = some-same (λ target. itself (fits.result_place target.place)) into

  numbers-same : (operands : List Operand) → Same (fit_numbers fits operands) (Some_of (Number fits) operands)
  numbers-same operands = some-same (λ operand. itself (fits.number operand)) operands

  calc-same : (calc : Calc) (into : List Target) → Same (fit_calc fits calc into) (FitsCalc fits calc into)
  calc-same (calcs.Add operands) into = beside (numbers-same operands) (targets-same into)
  calc-same (calcs.AddGiving operands) into = beside (numbers-same operands) (results-same into)
  calc-same (calcs.Subtract operands) into = beside (numbers-same operands) (targets-same into)
  calc-same (calcs.SubtractGiving operands from) into = beside (numbers-same operands) (beside (itself (fits.number from)) (results-same into))
  calc-same (calcs.Multiply by) into = beside (itself (fits.number by)) (targets-same into)
  calc-same (calcs.MultiplyGiving one by) into = beside (itself (fits.number one)) (beside (itself (fits.number by)) (results-same into))
  calc-same (calcs.Divide by) into = beside (itself (fits.number by)) (targets-same into)
  calc-same (calcs.DivideGiving by what) into = beside (itself (fits.number by)) (beside (itself (fits.number what)) (results-same into))
  calc-same (calcs.Compute expr) into = beside (itself (fits.expr_number expr)) (results-same into)

  control-same : (control : Control) → Same (fit_control fits control) (FitsControl fits control)
  control-same controls.Once = always
  control-same (controls.Times count) = itself (fits.whole count)
  control-same (controls.Until after cond) = itself (fits.cond cond)
  control-same (controls.Varying after item from by cond) =
      beside (itself (fits.number_place item)) (beside (itself (fits.number from)) (beside (itself (fits.number by)) (itself (fits.cond cond))))

  turns-same : (control : Control) → Same (fit_turns fits control) (FitsTurns fits control)
  turns-same controls.Once = never
  turns-same (controls.Times count) = beside (itself (fits.whole count)) (itself (fits.turns count))
  turns-same (controls.Until after cond) = control-same (controls.Until after cond)
  turns-same (controls.Varying after item from by cond) = control-same (controls.Varying after item from by cond)

  subject-same : (subject : Subject) → Same (fit_subject fits subject) (FitsSubject fits subject)
  subject-same subjects.True = always
  subject-same subjects.False = always
  subject-same (subjects.Value expr) = itself (fits.expr_value expr)

  compared-same : (subject expr : Expr) → Same (fit_compared fits subject expr) (Compares fits subject expr)
  compared-same subject expr = beside (itself (fits.expr_value expr)) (itself (fits.compares subject expr))

  test-same : (subject : Subject) (test : Test) → Same (fit_test fits subject test) (FitsTest fits subject test)
  test-same subjects.True tests.Any = always
  test-same subjects.False tests.Any = always
  test-same (subjects.Value expr) tests.Any = always
  test-same (subjects.Value expr) (tests.Value not from to) = beside (compared-same expr from) (any-same (compared-same expr) to)
  test-same subjects.True (tests.Value not from to) = never
  test-same subjects.False (tests.Value not from to) = never
  test-same (subjects.Value expr) (tests.Holds cond) = never
  test-same subjects.True (tests.Holds cond) = itself (fits.cond cond)
  test-same subjects.False (tests.Holds cond) = itself (fits.cond cond)

  into-same : (file : ℕ) (place : Place) → Same (fit_into fits file place) (TakesRecord fits file place)
  into-same file place = beside (itself (fits.receives place)) (itself (fits.into file place))

  from-same : (entry : ℕ) (from : Operand) → Same (fit_from fits entry from) (WrittenFrom fits entry from)
  from-same entry from = beside (itself (fits.value from)) (itself (fits.writes entry from))

  -- ---- lists of statements

  -- one or more that fit, are in scope, and nest less deep than so many levels
  pub record Good (levels : ℕ) (scope : Scope) (list : List Stmt) : Type 0 where
    pub filled : is_filled list ≡ true
    pub fit : are_fit_stmts fits list ≡ true
    pub scoped : are_in_scope list scope ≡ true
    pub depth : suc (stmts_depth list) ≤ levels

  module _ (n : ℕ) where
    held-tells : (scope : Scope) (list : List Stmt) → Tells (held (map (fit_stmt fits) list)) (are_in_scope list scope) (1 + stmts_depth list) n (Good n scope list)
    held-tells scope [] = record {
      to = λ f _ _. absurd cc;
      fit = λ g. g.filled;
      scoped = λ g. g.scoped;
      depth = λ g. let d = g.depth in omega arith;
    }
    held-tells scope (stmt ∷ list) = record {
      to = λ f s d. record { filled = refl; fit = f; scoped = s; depth = omega arith };
      fit = λ g. g.fit;
      scoped = λ g. g.scoped;
      depth = λ g. let d = g.depth in omega arith;
    }

    -- ---- arms

    abbrev ArmsTold : Scope → Option (List Stmt) → Option (List Stmt) → Arms → Type 0
    ArmsTold scope first second arms =
        Tells (fit_arms fits arms) (are_arms_in_scope arms scope) (arms_depth arms) n (IfAny (Good n scope) first × IfAny (Good n scope) second)

    arms-by : {f s : Bool} {d : ℕ} {P : Type 0} (scope : Scope) (y : Arms-F Stmt Arms When) →
        fit.arms_step fits (map-Arms Stmt Arms When Bool Bool (Subject → Bool) (fit_stmt fits) (fit_arms fits) (fit_when fits) y) ≡ f →
        scopes.arms_step (map-Arms Stmt Arms When Scoped Scoped Scoped is_in_scope are_arms_in_scope is_when_in_scope y) scope ≡ s →
        depth.arms_step (map-Arms Stmt Arms When ℕ ℕ ℕ stmt_depth arms_depth when_depth y) ≡ d →
        Tells f s d n P → Tells (fit_arms fits (roll-Arms y)) (are_arms_in_scope (roll-Arms y) scope) (arms_depth (roll-Arms y)) n P
    arms-by scope y f s d T = retold
        (fold-roll-Arms Bool Bool (Subject → Bool) (fit.stmt_step fits) (fit.arms_step fits) (fit.when_step fits) y ∙ f)
        (ap (λ (t : Scoped). t scope) (fold-roll-Arms Scoped Scoped Scoped scopes.stmt_step scopes.arms_step scopes.when_step y) ∙ s)
        (fold-roll-Arms ℕ ℕ ℕ depth.depth_step depth.arms_step depth.when_step y ∙ d) T

    arms-layer : (scope : Scope) (first second : Option (List Stmt)) → ArmsTold scope first second (roll-Arms (record { first = first; second = second }))
    arms-layer scope None None = arms-by scope (record { first = None; second = None }) refl refl refl (beside-told (leaf always) (leaf always))
    arms-layer scope None (Some second) = arms-by scope (record { first = None; second = Some second }) refl refl refl (beside-told (leaf always) (held-tells scope second))
    arms-layer scope (Some first) None = arms-by scope (record { first = Some first; second = None }) refl refl refl (beside-told (held-tells scope first) (leaf always))
    arms-layer scope (Some first) (Some second) =
        arms-by scope (record { first = Some first; second = Some second }) refl refl refl (beside-told (held-tells scope first) (held-tells scope second))

    arms-tell : (scope : Scope) (arms : Arms) → Tells (fit_arms fits arms) (are_arms_in_scope arms scope) (arms_depth arms) n (FitsArms fits (Good n) scope arms)
    arms-tell scope arms =
        subst (λ x. ArmsTold scope (out-Arms arms).first (out-Arms arms).second x) (roll-out-Arms arms) (arms-layer scope (out-Arms arms).first (out-Arms arms).second)

    -- ---- branches

    -- each is one level more
    abbrev WhenTold : Scope → Subject → List Test → List Stmt → When → Type 0
    WhenTold scope subject tests list when =
        Tells (fit_when fits when subject) (is_when_in_scope when scope) (1 + when_depth when) n (Some_of (FitsTest fits subject) tests × Good n scope list)

    when-layer : (scope : Scope) (subject : Subject) (tests : List Test) (list : List Stmt) → WhenTold scope subject tests list (roll-When (record { tests = tests; stmts = list }))
    when-layer scope subject tests list =
        let y : When-F Stmt Arms When = record { tests = tests; stmts = list } in retold
        (ap (λ (t : Subject → Bool). t subject) (fold-roll-When Bool Bool (Subject → Bool) (fit.stmt_step fits) (fit.arms_step fits) (fit.when_step fits) y))
        (ap (λ (t : Scoped). t scope) (fold-roll-When Scoped Scoped Scoped scopes.stmt_step scopes.arms_step scopes.when_step y))
        (ap (λ (d : ℕ). 1 + d) (fold-roll-When ℕ ℕ ℕ depth.depth_step depth.arms_step depth.when_step y))
        (before (some-same (test-same subject) tests) (held-tells scope list))

    when-tells : (scope : Scope) (subject : Subject) (when : When) →
        Tells (fit_when fits when subject) (is_when_in_scope when scope) (1 + when_depth when) n (FitsWhen fits (Good n) scope subject when)
    when-tells scope subject when =
        subst (λ x. WhenTold scope subject (out-When when).tests (out-When when).stmts x) (roll-out-When when) (when-layer scope subject (out-When when).tests (out-When when).stmts)

    abbrev fits_under : Subject → List When → List Bool
    fits_under subject whens = map (λ (t : Subject → Bool). t subject) (map (fit_when fits) whens)

    -- behind a first one
    whens-behind : (scope : Scope) (subject : Subject) (first : When) (others : List When) →
        Tells (all (fits_under subject (first ∷ others))) (each_in (map is_when_in_scope (first ∷ others)) scope) (1 + whens_depth (first ∷ others)) n
        (Each (FitsWhen fits (Good n) scope subject) (first ∷ others))
    whens-behind scope subject first [] =
        deep (1 + whens_depth (first ∷ [])) (omega arith) (omega arith) (beside-told (when-tells scope subject first) (leaf always))
    whens-behind scope subject first (next ∷ others) =
        deep (1 + whens_depth (first ∷ next ∷ others)) (omega arith) (omega arith) (beside-told (when-tells scope subject first) (whens-behind scope subject next others))

    whens-tell : (scope : Scope) (subject : Subject) (whens : List When) →
        Tells (is_filled (map (fit_when fits) whens) && all (fits_under subject whens)) (each_in (map is_when_in_scope whens) scope) (1 + whens_depth whens) n
        (Some_of (FitsWhen fits (Good n) scope subject) whens)
    whens-tell scope subject [] = record { to = λ f _ _. absurd cc; fit = λ h. absurd (nothing h.0); scoped = λ h. absurd (nothing h.0); depth = λ h. absurd (nothing h.0) }
      where
        nothing : false ≡ true → ⊥
        nothing h = absurd cc
    whens-tell scope subject (first ∷ others) = before (itself true) (whens-behind scope subject first others)

    -- ---- statements

    abbrev StmtTold : Scope → Stmt-F Stmt Arms When → Stmt → Type 0
    StmtTold scope y stmt = Tells (fit_stmt fits stmt) (is_in_scope stmt scope) (stmt_depth stmt) n (FitsShape fits (Good n) scope y)

    abbrev Layer : Scope → Stmt-F Stmt Arms When → Type 0
    Layer scope y =
        Tells (fit.stmt_step fits (map-Stmt Stmt Arms When Bool Bool (Subject → Bool) (fit_stmt fits) (fit_arms fits) (fit_when fits) y))
        (scopes.stmt_step (map-Stmt Stmt Arms When Scoped Scoped Scoped is_in_scope are_arms_in_scope is_when_in_scope y) scope)
        (depth.depth_step (map-Stmt Stmt Arms When ℕ ℕ ℕ stmt_depth arms_depth when_depth y)) n (FitsShape fits (Good n) scope y)

    if-layer : (scope : Scope) (cond : Cond) (met unmet : List Stmt) → Layer scope (Stmt-F.If cond met unmet)
    if-layer scope cond met [] =
        before (itself (fits.cond cond)) (deep (1 + max (stmts_depth met) 0) (omega arith) (omega arith) (beside-told (held-tells scope met) (leaf always)))
    if-layer scope cond met (stmt ∷ others) =
        before (itself (fits.cond cond)) (deep (1 + max (stmts_depth met) (stmts_depth (stmt ∷ others))) (omega arith) (omega arith)
        (beside-told (held-tells scope met) (held-tells scope (stmt ∷ others))))

    layer : (scope : Scope) (y : Stmt-F Stmt Arms When) → Layer scope y
    layer scope (Stmt-F.Display items advance) = leaf (some-same (λ item. itself (fits.value item)) items)
    layer scope (Stmt-F.Move from to) = leaf (beside (itself (fits.value from)) (some-same (receiver-same from) to))
    layer scope (Stmt-F.Arith calc into arms) = before (calc-same calc into) (arms-tell scope arms)
    layer scope (Stmt-F.SetTrue place) = leaf (itself (fits.condition_place place))
    layer scope (Stmt-F.Opens openings) = leaf (some-same (λ (opening : Opening). itself (fits.file opening.file)) openings)
    layer scope (Stmt-F.Closes files) = leaf (some-same (λ file. itself (fits.file file)) files)
    layer scope (Stmt-F.Read file into arms) = before (itself (fits.file file)) (before (any-same (into-same file) into) (arms-tell scope arms))
    layer scope (Stmt-F.Write entry from) = leaf (beside (itself (fits.entry_record entry)) (any-same (from-same entry) from))
    layer scope (Stmt-F.Rewrite entry from) = leaf (beside (itself (fits.entry_record entry)) (any-same (from-same entry) from))
    layer scope (Stmt-F.If cond met unmet) = if-layer scope cond met unmet
    layer scope (Stmt-F.Evaluate subject whens None) = before (subject-same subject) (beside-told (whens-tell scope subject whens) (leaf always))
    layer scope (Stmt-F.Evaluate subject whens (Some other)) = before (subject-same subject) (beside-told (whens-tell scope subject whens) (held-tells scope other))
    layer scope (Stmt-F.Loop control body) = before (turns-same control) (held-tells (looped scope) body)
    layer scope (Stmt-F.Perform entry exit control) = leaf (beside (itself (fits.range entry exit)) (control-same control))
    layer scope (Stmt-F.Go to) = leaf (itself (fits.label to))
    layer scope (Stmt-F.GoDepending to on) = leaf (beside (some-same (λ one. itself (fits.label one)) to) (itself (fits.whole_place on)))
    layer scope Stmt-F.NextSentence = leaf always
    layer scope Stmt-F.StopRun = leaf always
    layer scope Stmt-F.Exit = record { to = λ _ s _. absurd cc; fit = λ h. absurd h; scoped = λ h. absurd h; depth = λ h. absurd h }
    layer scope Stmt-F.ExitParagraph = leaf always
    layer scope Stmt-F.ExitSection = scoped-leaf scope.in_section
    layer scope (Stmt-F.ExitPerform cycle) = scoped-leaf scope.in_loop
    layer scope Stmt-F.Continue = leaf always

    rolled : (scope : Scope) (y : Stmt-F Stmt Arms When) → StmtTold scope y (roll-Stmt y)
    rolled scope y = retold
        (fold-roll-Stmt Bool Bool (Subject → Bool) (fit.stmt_step fits) (fit.arms_step fits) (fit.when_step fits) y)
        (ap (λ (t : Scoped). t scope) (fold-roll-Stmt Scoped Scoped Scoped scopes.stmt_step scopes.arms_step scopes.when_step y))
        (fold-roll-Stmt ℕ ℕ ℕ depth.depth_step depth.arms_step depth.when_step y)
        (layer scope y)

    stmt-tells : (scope : Scope) (stmt : Stmt) → Tells (fit_stmt fits stmt) (is_in_scope stmt scope) (stmt_depth stmt) n (FitsStmt fits (Good n) scope stmt)
    stmt-tells scope stmt = subst (λ x. StmtTold scope (out-Stmt stmt) x) (roll-out-Stmt stmt) (rolled scope (out-Stmt stmt))

    -- ---- lists of them

    list-tells : (scope : Scope) (list : List Stmt) → Tells (are_fit_stmts fits list) (are_in_scope list scope) (stmts_depth list) n (Each (FitsStmt fits (Good n) scope) list)
    list-tells scope [] = leaf always
    list-tells scope (stmt ∷ list) = beside-told (stmt-tells scope stmt) (list-tells scope list)

    pub parted : (scope : Scope) (list : List Stmt) → Good (suc n) scope list → Some_of (FitsStmt fits (Good n) scope) list
    parted scope list g = let d = g.depth in (g.filled, (list-tells scope list).to g.fit g.scoped (omega arith))

    pub gathered : (scope : Scope) (list : List Stmt) → Some_of (FitsStmt fits (Good n) scope) list → Good (suc n) scope list
    gathered scope list h =
        let T = list-tells scope list in
        let d = T.depth h.1 in
        record { filled = h.0; fit = T.fit h.1; scoped = T.scoped h.1; depth = omega arith }
