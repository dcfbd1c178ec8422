-- Statements that fit spell what is printed of them.
use Rattle.std.proofs.Common.{arith, ℕ, zero, suc, List, [], ◌∷◌, Option, Some, None, inl, inr}
use Rattle.cob_tree.specs.declared.calc.Calc.{Calc}
use Rattle.cob_tree.specs.declared.calc.Calc.TheVariants as calcs
use Rattle.cob_tree.specs.declared.calc.Target.{Target}
use Rattle.cob_tree.specs.declared.choice.Subject.{Subject}
use Rattle.cob_tree.specs.declared.choice.Subject.TheVariants as subjects
use Rattle.cob_tree.specs.declared.choice.Test.{Test}
use Rattle.cob_tree.specs.declared.choice.Test.TheVariants as tests
use Rattle.cob_tree.specs.declared.control.Control.{Control}
use Rattle.cob_tree.specs.declared.control.Control.TheVariants as controls
use Rattle.cob_tree.specs.declared.place.Expr.{Expr}
use Rattle.cob_tree.specs.declared.place.Operand.{Operand}
use Rattle.cob_tree.specs.declared.place.Place.{Place}
use Rattle.cob_tree.specs.declared.program.Program.{Program}
use Rattle.cob_tree.specs.declared.program.Sentence.{Sentence}
use Rattle.cob_tree.specs.declared.stmt.Arms.{Arms, out-Arms}
use Rattle.cob_tree.specs.declared.stmt.Stmt.{Stmt, out-Stmt}
use Rattle.cob_tree.specs.declared.stmt.Stmt.TheOpen.{Stmt-F}
use Rattle.cob_tree.specs.declared.stmt.When.{When, out-When}
use Rattle.cobol_grammar.specs.declared.stmt_forms.scope.Scope.{Scope}
use Rattle.cobol_grammar.specs.stmt_forms.Loop.{looped}
use Rattle.cobol_grammar.specs.stmt_forms.Part.{Parts}
use Rattle.cob_base.specs.Limit.{max_nesting}
use Rattle.round_trip.proofs.procedures_lemmas.readable_stmts_lemmas.Lists.{each-hence}
use Rattle.round_trip.specs.spelling.stmt_spelling.Part.{Kept}
use Rattle.round_trip.specs.spelling.stmt_spelling.Stmt as spell
use Rattle.round_trip.specs.spelling.stmt_spelling.Stmt.{IfAny, Some_of, SpellsCalc, SpellsControl, SpellsTurns, SpellsSubject, SpellsTest, SpellsArms, SpellsWhen, SpellsShape, SpellsList}
use Rattle.round_trip.specs.spelling.stmt_spelling.Division.{SpellsSentence, SpellsSentences}
use Rattle.round_trip.specs.fitting_statements.Fits.{Fits}
use Rattle.round_trip.specs.fitting_statements.Given.{FitSentence, FitSentences}
use Rattle.round_trip.specs.fitting_statements.Spelling.{FitsSpell}
use Rattle.round_trip.proofs.fitting_statements_lemmas.Shape as shape
use Rattle.round_trip.proofs.fitting_statements_lemmas.Shape.{FitsCalc, FitsControl, FitsTurns, FitsSubject, FitsTest, FitsArms, FitsWhen, FitsShape}
use Rattle.round_trip.proofs.fitting_statements_lemmas.Trees.{Good, parted}

some-hence : {A : Type 0} {P Q : A → Type 0} → ((x : A) → P x → Q x) → (list : List A) → Some_of P list → Some_of Q list
some-hence h list e = (e.0, each-hence h list e.1)

any-hence : {A : Type 0} {P Q : A → Type 0} → ((x : A) → P x → Q x) → (o : Option A) → IfAny P o → IfAny Q o
any-hence h None e = tt
any-hence h (Some x) e = h x e

module _ {Side Known : Type 0} {parts : Parts Side Known} {kept : Kept Side} {program : Program} {fits : Fits} (F : FitsSpell parts kept program fits) where
  -- ---- parts

  receives : (from : Operand) (place : Place) → shape.Receives fits from place → spell.Receives parts kept program from place
  receives from place h = let taken = F.receives place h.0 in (taken.0, (taken.1, F.moves from place h.1))

  targets : (into : List Target) → shape.Targets fits into → spell.Targets parts kept program into
  targets into h = some-hence (λ target k. F.number_place target.place k) into h

  results : (into : List Target) → shape.Results fits into → spell.Results parts kept program into
  results into h = some-hence (λ target k. F.result_place target.place k) into h

  numbers : (operands : List Operand) → Some_of (shape.Number fits) operands → Some_of (spell.Number parts kept program) operands
  numbers operands h = some-hence F.number operands h

  calc : (calc : Calc) (into : List Target) → FitsCalc fits calc into → SpellsCalc parts kept program calc into
  calc (calcs.Add operands) into h = (numbers operands h.0, targets into h.1)
  calc (calcs.AddGiving operands) into h = (numbers operands h.0, results into h.1)
  calc (calcs.Subtract operands) into h = (numbers operands h.0, targets into h.1)
  calc (calcs.SubtractGiving operands from) into h = (numbers operands h.0, (F.number from h.1.0, results into h.1.1))
  calc (calcs.Multiply by) into h = (F.number by h.0, targets into h.1)
  calc (calcs.MultiplyGiving one by) into h = (F.number one h.0, (F.number by h.1.0, results into h.1.1))
  calc (calcs.Divide by) into h = (F.number by h.0, targets into h.1)
  calc (calcs.DivideGiving by what) into h = (F.number by h.0, (F.number what h.1.0, results into h.1.1))
  calc (calcs.Compute expr) into h = (F.expr_number expr h.0, results into h.1)

  control : (control : Control) → FitsControl fits control → SpellsControl parts kept program control
  control controls.Once h = tt
  control (controls.Times count) h = F.whole count h
  control (controls.Until after cond) h = F.cond cond h
  control (controls.Varying after item from by cond) h =
      (F.number_place item h.0, (F.number from h.1.0, (F.number by h.1.1.0, F.cond cond h.1.1.1)))

  turns : (control : Control) → FitsTurns fits control → SpellsTurns parts kept program control
  turns controls.Once h = h
  turns (controls.Times count) h = (F.whole count h.0, F.turns count h.1)
  turns (controls.Until after cond) h = control (controls.Until after cond) h
  turns (controls.Varying after item from by cond) h = control (controls.Varying after item from by cond) h

  subject : (subject : Subject) → FitsSubject fits subject → SpellsSubject parts kept program subject
  subject subjects.True h = tt
  subject subjects.False h = tt
  subject (subjects.Value expr) h = F.expr_value expr h

  compares : (subject expr : Expr) → shape.Compares fits subject expr → spell.Compares parts kept program subject expr
  compares subject expr h = let value = F.expr_value expr h.0 in (value.0, (value.1, F.compares subject expr h.1))

  test : (subject : Subject) (test : Test) → FitsTest fits subject test → SpellsTest parts kept program subject test
  test subjects.True tests.Any h = tt
  test subjects.False tests.Any h = tt
  test (subjects.Value expr) tests.Any h = tt
  test (subjects.Value expr) (tests.Value not from to) h = (compares expr from h.0, any-hence (compares expr) to h.1)
  test subjects.True (tests.Value not from to) h = h
  test subjects.False (tests.Value not from to) h = h
  test (subjects.Value expr) (tests.Holds cond) h = h
  test subjects.True (tests.Holds cond) h = F.cond cond h
  test subjects.False (tests.Holds cond) h = F.cond cond h

  from_written : (entry : ℕ) (from : Operand) → shape.WrittenFrom fits entry from → spell.WrittenFrom parts kept program entry from
  from_written entry from h = (F.value from h.0, F.writes entry from h.1)

  -- ---- statements

  module _ (Fit Held : Scope → List Stmt → Type 0) (holds : (scope : Scope) (list : List Stmt) → Fit scope list → Held scope list) where
    arms : (scope : Scope) (both : Arms) → FitsArms fits Fit scope both → SpellsArms parts kept program Held scope both
    arms scope both h = (any-hence (holds scope) (out-Arms both).first h.0, any-hence (holds scope) (out-Arms both).second h.1)

    when : (scope : Scope) (chosen : Subject) (branch : When) → FitsWhen fits Fit scope chosen branch → SpellsWhen parts kept program Held scope chosen branch
    when scope chosen branch h = (some-hence (test chosen) (out-When branch).tests h.0, holds scope (out-When branch).stmts h.1)

    unmet_part : (scope : Scope) (list : List Stmt) → shape.HeldOrNone fits Fit scope list → spell.HeldOrNone parts kept program Held scope list
    unmet_part scope [] h = tt
    unmet_part scope (stmt ∷ others) h = holds scope (stmt ∷ others) h

    shaped : (scope : Scope) (y : Stmt-F Stmt Arms When) → FitsShape fits Fit scope y → SpellsShape parts kept program Held scope y
    shaped scope (Stmt-F.Display items advance) h = some-hence F.value items h
    shaped scope (Stmt-F.Move from to) h = (F.value from h.0, some-hence (receives from) to h.1)
    shaped scope (Stmt-F.Arith work into held) h = (calc work into h.0, arms scope held h.1)
    shaped scope (Stmt-F.SetTrue place) h = F.condition_place place h
    shaped scope (Stmt-F.Opens openings) h = some-hence (λ opening k. F.file opening.file k) openings h
    shaped scope (Stmt-F.Closes files) h = some-hence F.file files h
    shaped scope (Stmt-F.Read file into held) h =
        (F.file file h.0, (any-hence (λ place k. let taken = F.receives place k.0 in (taken.0, (taken.1, F.into file place k.1))) into h.1.0, arms scope held h.1.1))
    shaped scope (Stmt-F.Write entry from) h = (F.entry_record entry h.0, any-hence (from_written entry) from h.1)
    shaped scope (Stmt-F.Rewrite entry from) h = (F.entry_record entry h.0, any-hence (from_written entry) from h.1)
    shaped scope (Stmt-F.If cond met unmet) h = (F.cond cond h.0, (holds scope met h.1.0, unmet_part scope unmet h.1.1))
    shaped scope (Stmt-F.Evaluate chosen whens other) h =
        (subject chosen h.0, (some-hence (when scope chosen) whens h.1.0, any-hence (holds scope) other h.1.1))
    shaped scope (Stmt-F.Loop often body) h = (turns often h.0, holds (looped scope) body h.1)
    shaped scope (Stmt-F.Perform entry exit often) h = (F.range entry exit h.0, control often h.1)
    shaped scope (Stmt-F.Go to) h = F.label to h
    shaped scope (Stmt-F.GoDepending to on) h = (some-hence F.label to h.0, F.whole_place on h.1)
    shaped scope Stmt-F.NextSentence h = tt
    shaped scope Stmt-F.StopRun h = tt
    shaped scope Stmt-F.Exit h = h
    shaped scope Stmt-F.ExitParagraph h = tt
    shaped scope Stmt-F.ExitSection h = h
    shaped scope (Stmt-F.ExitPerform cycle) h = h
    shaped scope Stmt-F.Continue h = tt

  pub spelled : (levels : ℕ) (scope : Scope) (list : List Stmt) → Good fits levels scope list → SpellsList parts kept program levels scope list
  unfolding SpellsList
  spelled zero scope list g = let d = g.depth in absurd (omega arith)
  spelled (suc n) scope list g =
      some-hence (λ stmt h. shaped (Good fits n) (SpellsList parts kept program n) (spelled n) scope (out-Stmt stmt) h) list (parted fits n scope list g)

  -- ---- sentences

  pub sentence : (scope : Scope) (found : Sentence) → FitSentence fits scope found → SpellsSentence parts kept program scope found
  sentence scope found h =
      let depth = h.depth in
      spelled (suc max_nesting) scope found.stmts (record { filled = h.filled; fit = h.fit; scoped = h.in_scope; depth = omega arith })

  pub sentences : (scope : Scope) (list : List Sentence) → FitSentences fits scope list → SpellsSentences parts kept program scope list
  sentences scope list (inl alone) = inl alone
  sentences scope list (inr each) = inr (each-hence (sentence scope) list each)
