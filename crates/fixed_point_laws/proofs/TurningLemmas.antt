-- What sets and steps each VARYING does something, statement by statement.
use Rattle.std.proofs.Common.{ℕ, suc, List, [], ◌∷◌, map, Option, Some, None, refl, sym, subst}
use Rattle.cob_tree.specs.declared.calc.Calc.{Calc}
use Rattle.cob_tree.specs.declared.calc.Target.{Target}
use Rattle.cob_tree.specs.declared.choice.Test.{Test}
use Rattle.cob_tree.specs.declared.control.Control.{Control}
use Rattle.cob_tree.specs.declared.control.Control.TheVariants as turning
use Rattle.cob_tree.specs.declared.file.FileEntry.{FileEntry}
use Rattle.cob_tree.specs.declared.program.Sentence.{Sentence}
use Rattle.cob_tree.specs.declared.program.Paragraph.{Paragraph}
use Rattle.cob_tree.specs.declared.stmt.Arms.{Arms, roll-Arms, map-Arms, fold-roll-Arms}
use Rattle.cob_tree.specs.declared.stmt.When.{When, roll-When, map-When, fold-roll-When}
use Rattle.cob_tree.specs.declared.stmt.Stmt.{Stmt, ind-Stmt, map-Stmt, roll-Stmt, fold-roll-Stmt}
use Rattle.cob_tree.specs.declared.stmt.Stmt.TheOpen.{Stmt-F, Arms-F, When-F}
use Rattle.control_flow_theory.specs.language.Language as language
use Rattle.control_flow_theory.specs.language.Control.{arith_stmt, arm_before, else_of, control_in, loop_of, perform_of, Branch, branches_before, Both, both_arms, both_step, branch_step, seen_step, seen, seen_when, seen_both, seen_stmts, seen_sentence, section_last, seen_paragraphs}
use Rattle.control_flow_theory.specs.lowering.FlowFacts.{FlowFacts}
use Rattle.program_facts.specs.completion.FlowFacts.{flow_facts_of}
use Rattle.fixed_point.specs.Tops.{StmtActs, StmtsAct, ArmsAct, ParagraphActs, ParagraphsAct}
use Rattle.fixed_point_laws.specs.Turning.{VaryingActs}

module _ (files : List FileEntry) (returning : List (List ℕ)) where
  abbrev told : FlowFacts
  told = flow_facts_of files returning

  -- ---- statements whose arms do

  arith-acts : (calc : Calc) (into : List Target) (first second : Option language.Stmts) →
      ArmsAct told (both_arms (record { first = first; second = second })) →
      StmtActs told (arith_stmt calc into (record { first = first; second = second }))
  arith-acts calc into None None arms = tt
  arith-acts calc into None (Some second) arms = arms
  arith-acts calc into (Some first) None arms = arms
  arith-acts calc into (Some first) (Some second) arms = arms

  loop-acts : (control : Control) (body : language.Stmts) → StmtsAct told body →
      StmtActs told (loop_of (control_in control) body)
  loop-acts turning.Once body b = (b, tt)
  loop-acts (turning.Times amount) body b = (tt, b)
  loop-acts (turning.Until after until) body b = (tt, b)
  loop-acts (turning.Varying after item from by until) body b = ((refl, refl), b)

  perform-acts : (control : Control) (entry exit : ℕ) →
      StmtActs told (perform_of (control_in control) entry exit)
  perform-acts turning.Once entry exit = tt
  perform-acts (turning.Times amount) entry exit = (tt, tt)
  perform-acts (turning.Until after until) entry exit = (tt, tt)
  perform-acts (turning.Varying after item from by until) entry exit = ((refl, refl), tt)

  module _ (last : ℕ) where
    abbrev Acts : Stmt → Type 0
    Acts stmt = StmtActs told (seen last stmt)

    abbrev BothAct : Arms → Type 0
    BothAct arms = ArmsAct told (both_arms (seen_both last arms))

    abbrev WhenActs : When → Type 0
    WhenActs when = StmtsAct told (seen_when last when).arm

    abbrev SuchStmt : Type 0
    SuchStmt = (stmt : Stmt) × Acts stmt

    abbrev SuchArms : Type 0
    SuchArms = (arms : Arms) × BothAct arms

    abbrev SuchWhen : Type 0
    SuchWhen = (when : When) × WhenActs when

    abbrev plain : List SuchStmt → List Stmt
    plain stmts = map (λ e. e.0) stmts

    abbrev plain_whens : List SuchWhen → List When
    plain_whens whens = map (λ e. e.0) whens

    stmts-act : (xs : List SuchStmt) → StmtsAct told (seen_stmts last (plain xs))
    stmts-act [] = tt
    stmts-act (x ∷ xs) = (x.1, stmts-act xs)

    else-acts : (xs : List SuchStmt) →
        ArmsAct told (arm_before (else_of (map (seen last) (plain xs))) language.done)
    else-acts [] = tt
    else-acts (x ∷ xs) = (stmts-act (x ∷ xs), tt)

    whens-act : (xs : List SuchWhen) (tail : language.Arms) → ArmsAct told tail →
        ArmsAct told (branches_before (map (seen_when last) (plain_whens xs)) tail)
    whens-act [] tail h = h
    whens-act (x ∷ xs) tail h = (x.1, whens-act xs tail h)

    -- ---- each statement, by those that it holds

    abbrev mapped : Stmt-F SuchStmt SuchArms SuchWhen → Stmt-F Stmt Arms When
    mapped =
        map-Stmt SuchStmt SuchArms SuchWhen Stmt Arms When (λ e. e.0) (λ e. e.0) (λ e. e.0)

    abbrev shown : Stmt-F Stmt Arms When → language.Stmt
    shown y =
        seen_step last (map-Stmt Stmt Arms When language.Stmt Both Branch (seen last)
        (seen_both last) (seen_when last) y)

    step-acts : (y : Stmt-F SuchStmt SuchArms SuchWhen) → StmtActs told (shown (mapped y))
    step-acts (Stmt-F.Display texts advance) = tt
    step-acts (Stmt-F.Move from to) = tt
    step-acts (Stmt-F.Arith calc into arms) =
        let both = seen_both last arms.0 in
        arith-acts calc into both.first both.second arms.1
    step-acts (Stmt-F.SetTrue place) = tt
    step-acts (Stmt-F.Opens openings) = tt
    step-acts (Stmt-F.Closes files) = tt
    step-acts (Stmt-F.Read file into arms) = arms.1
    step-acts (Stmt-F.Write entry from) = tt
    step-acts (Stmt-F.Rewrite entry from) = tt
    step-acts (Stmt-F.If cond met unmet) = (stmts-act met, else-acts unmet)
    step-acts (Stmt-F.Evaluate subject whens None) =
        whens-act whens (language.missing language.done) tt
    step-acts (Stmt-F.Evaluate subject whens (Some other)) =
        whens-act whens (language.given (seen_stmts last (plain other)) language.done)
        (stmts-act other, tt)
    step-acts (Stmt-F.Loop control body) =
        loop-acts control (seen_stmts last (plain body)) (stmts-act body)
    step-acts (Stmt-F.Perform entry exit control) = perform-acts control entry exit
    step-acts (Stmt-F.Go to) = tt
    step-acts (Stmt-F.GoDepending to on) = tt
    step-acts Stmt-F.NextSentence = tt
    step-acts Stmt-F.StopRun = tt
    step-acts Stmt-F.Exit = tt
    step-acts Stmt-F.ExitParagraph = tt
    step-acts Stmt-F.ExitSection = tt
    step-acts (Stmt-F.ExitPerform cycle) = tt
    step-acts Stmt-F.Continue = tt

    layer : (y : Stmt-F SuchStmt SuchArms SuchWhen) → Acts (roll-Stmt (mapped y))
    layer y =
        subst (StmtActs told)
        (sym (fold-roll-Stmt language.Stmt Both Branch (seen_step last) both_step branch_step (mapped y)))
        (step-acts y)

    abbrev mapped_arms : Arms-F SuchStmt SuchArms SuchWhen → Arms-F Stmt Arms When
    mapped_arms =
        map-Arms SuchStmt SuchArms SuchWhen Stmt Arms When (λ e. e.0) (λ e. e.0) (λ e. e.0)

    abbrev both_of : Arms-F Stmt Arms When → Both
    both_of arms =
        both_step (map-Arms Stmt Arms When language.Stmt Both Branch (seen last) (seen_both last)
        (seen_when last) arms)

    both-act : (first second : Option (List SuchStmt)) →
        ArmsAct told (both_arms (both_of (mapped_arms (record { first = first; second = second }))))
    both-act None None = tt
    both-act None (Some second) = (stmts-act second, tt)
    both-act (Some first) None = (stmts-act first, tt)
    both-act (Some first) (Some second) = (stmts-act first, (stmts-act second, tt))

    arms-layer : (first second : Option (List SuchStmt)) →
        BothAct (roll-Arms (mapped_arms (record { first = first; second = second })))
    arms-layer first second =
        subst (λ b. ArmsAct told (both_arms b))
        (sym (fold-roll-Arms language.Stmt Both Branch (seen_step last) both_step branch_step
        (mapped_arms (record { first = first; second = second }))))
        (both-act first second)

    when-layer : (tests : List Test) (stmts : List SuchStmt) →
        WhenActs (roll-When (map-When SuchStmt SuchArms SuchWhen Stmt Arms When (λ e. e.0)
        (λ e. e.0) (λ e. e.0) (record { tests = tests; stmts = stmts })))
    when-layer tests stmts =
        let y : When-F Stmt Arms When = record { tests = tests; stmts = plain stmts } in
        subst (λ (b : Branch). StmtsAct told b.arm)
        (sym (fold-roll-When language.Stmt Both Branch (seen_step last) both_step branch_step y))
        (stmts-act stmts)

    stmt-acts : (stmt : Stmt) → Acts stmt
    stmt-acts stmt =
        ind-Stmt Acts BothAct WhenActs
        (λ x y is. subst (λ z. Acts (roll-Stmt z)) is (layer y))
        (λ x y is. subst (λ z. BothAct (roll-Arms z)) is (arms-layer y.first y.second))
        (λ x y is. subst (λ z. WhenActs (roll-When z)) is (when-layer y.tests y.stmts)) stmt

    list-acts : (stmts : List Stmt) → StmtsAct told (seen_stmts last stmts)
    list-acts [] = tt
    list-acts (stmt ∷ stmts) = (stmt-acts stmt, list-acts stmts)

    sentences-act : (sentences : List Sentence) →
        ParagraphActs told (map (seen_sentence last) sentences)
    sentences-act [] = tt
    sentences-act (sentence ∷ sentences) =
        (list-acts sentence.stmts, sentences-act sentences)

  paragraphs-act : (number : ℕ) (paragraphs : List Paragraph) →
      ParagraphsAct told (seen_paragraphs number paragraphs)
  paragraphs-act number [] = tt
  paragraphs-act number (paragraph ∷ others) = (
    sentences-act (section_last number others) paragraph.sentences,
    paragraphs-act (suc number) others,
  )

pub acts : VaryingActs
acts = λ files returning program. paragraphs-act files returning 0 program.paragraphs
