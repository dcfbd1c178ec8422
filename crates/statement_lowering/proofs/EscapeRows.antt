-- Statements that hold an escape, row by row.
use Rattle.std.proofs.Common.{◌≡◌, ℕ, ◌+◌, Bool, true, false, if◌then◌else◌, List, [], ◌∷◌, map, length, Option, Some, None, is_some, refl, ap, ap₂, sym, ◌∙◌}
use Rattle.std.specs.Prelude.{slice_get}
use Rattle.cob_tree.specs.declared.calc.Calc.{Calc}
use Rattle.cob_tree.specs.declared.calc.Target.{Target}
use Rattle.cob_tree.specs.declared.choice.Subject.{Subject}
use Rattle.cob_tree.specs.declared.choice.Subject.TheVariants as subject
use Rattle.cob_tree.specs.declared.cond.Cond.{Cond}
use Rattle.cob_tree.specs.declared.control.Control.{Control}
use Rattle.cob_tree.specs.declared.file.FileEntry.{FileEntry}
use Rattle.cob_tree.specs.declared.place.Place.{Place}
use Rattle.cob_tree.specs.declared.stmt.Arms.{Arms, out-Arms}
use Rattle.cob_tree.specs.declared.stmt.When.{When}
use Rattle.cob_tree.specs.declared.stmt.Stmt.{Stmt}
use Rattle.cob_tree.specs.declared.stmt.Stmt.TheVariants.{If, Evaluate, Loop, Arith, Read, Go, GoDepending, NextSentence, ExitParagraph, ExitSection, ExitPerform}
use Rattle.control_flow_theory.specs.language.Control.{always, test_of, arm_before, arith_stmt, Both, both_arms, branches_before, Branch, cell_chosen, control_in, count_from, evaluate_of, loop_of, perform_of, picker_by, seen, seen_both, seen_stmts, seen_when, tests_of}
use Rattle.control_flow_theory.specs.language.Language as language
use Rattle.control_flow_theory.specs.language.OwnItems.{subject_own}
use Rattle.control_flow_theory.proofs.language_lemmas.OwnCells.{expr-no_cell}
use Rattle.control_flow_theory.proofs.language_lemmas.Rows.{seen_if_any, seen_if, seen_evaluate, seen_loop, seen_arith, seen_read, seen_both_is, seen_when_is, seen_go, seen_go_depending, seen_next_sentence, seen_exit_paragraph, seen_exit_section, seen_exit_perform}
use Rattle.control_flow_theory.specs.semantics.Graph as graph
use Rattle.control_flow_theory.specs.lowering.FlowFacts.{FlowFacts}
use Rattle.control_flow_theory.specs.lowering.Completes.{cut, first_is_dead, whole}
use Rattle.control_flow_theory.specs.lowering.Lower as lower
use Rattle.program_facts.specs.completion.FlowFacts.{flow_facts_of, status_missing}
use Rattle.statement_lowering.specs.Arms.{if_arms, phrase_arms, seen_phrase, when_arms, when_tests}
use Rattle.statement_lowering.specs.LoopParts.{loop_begun}

apart : true ≡ false → ⊥
apart e = cc

-- what is whole is no escape
pub never : (told : FlowFacts) (last : ℕ) (stmt form : Stmt) (x : language.Stmt) → stmt ≡ form → seen last form ≡ x → whole (cut told x) ≡ true → whole (cut told (seen last stmt)) ≡ false → ⊥
never told last stmt form x is row all escapes =
    apart (sym all ∙ sym (ap (λ z. whole (cut told z)) row) ∙ sym (ap (λ z. whole (cut told (seen last z))) is) ∙ escapes)

pub performs_whole : (told : FlowFacts) (control : Option language.Control) (entry exit : ℕ) → whole (cut told (perform_of control entry exit)) ≡ true
performs_whole told None entry exit = refl
performs_whole told (Some control) entry exit = refl

-- phrases

pub phrase_seen : (last : ℕ) (phrase : Option (List Stmt)) → seen_if_any last phrase ≡ seen_phrase last phrase
phrase_seen last None = refl
phrase_seen last (Some stmts) = refl

pub both_seen : (last : ℕ) (arms : Arms) →
    phrase_arms arms last ≡ arm_before (seen_phrase last (out-Arms arms).first) (arm_before (seen_phrase last (out-Arms arms).second) language.done)
both_seen last arms =
    ap both_arms (seen_both_is last arms)
    ∙ ap₂ (λ first second. arm_before first (arm_before second language.done)) (phrase_seen last (out-Arms arms).first) (phrase_seen last (out-Arms arms).second)

some_seen : (last : ℕ) (phrase : Option (List Stmt)) → is_some (seen_if_any last phrase) ≡ is_some phrase
some_seen last None = refl
some_seen last (Some stmts) = refl

-- EVALUATE of an own subject

chosen-none : (of : Subject) → subject_own of ≡ true → cell_chosen of ≡ None
chosen-none subject.True e = refl
chosen-none subject.False e = refl
chosen-none (subject.Value expr) e = expr-no_cell expr e

tests_seen : (last : ℕ) (whens : List When) → tests_of (map (seen_when last) whens) ≡ when_tests whens
tests_seen last [] = refl
tests_seen last (when ∷ whens) = ap₂ (λ t ts. t ∷ ts) (ap (λ (b : Branch). b.tests) (seen_when_is last when)) (tests_seen last whens)

picker_seen : (last : ℕ) (of : Subject) (whens : List When) (has_other : Bool) → subject_own of ≡ true →
    evaluate_of of (tests_of (map (seen_when last) whens)) has_other ≡ language.By (language.Evaluate of (when_tests whens) has_other)
picker_seen last of whens has_other own =
    ap (λ tests. evaluate_of of tests has_other) (tests_seen last whens)
    ∙ ap (λ cell. picker_by cell (count_from 1 (when_tests whens)) (language.Evaluate of (when_tests whens) has_other)) (chosen-none of own)

module _ (files : List FileEntry) (returning : List (List ℕ)) (place_of : ℕ → ℕ) (last place : ℕ) (leaving : lower.EscapeTargets) (after : graph.End) (behind : graph.Tree) where
  abbrev told : FlowFacts
  told = flow_facts_of files returning

  abbrev pub built : language.Stmt → graph.Tree
  built stmt = lower.build_stmt told place_of stmt place leaving after behind

  abbrev pub arms_built : Bool → language.Arms → graph.Trees
  arms_built first arms = lower.build_arms told place_of first arms (place + 1) leaving after

  pub go_row : (to : ℕ) → built (seen last (Go to)) ≡ lower.end_alone (graph.Jump (lower.point (place_of to)))
  go_row to = ap built (seen_go last to)

  pub depending_row : (to : List ℕ) (on : Place) →
      built (seen last (GoDepending to on)) ≡ lower.end_alone (graph.Pick (language.By (language.Depending on (length to))) (lower.depending told place_of to after))
  depending_row to on = ap built (seen_go_depending last to on)

  pub next_sentence_row : built (seen last NextSentence) ≡ lower.end_alone leaving.sentence
  next_sentence_row = ap built (seen_next_sentence last)

  pub exit_paragraph_row : built (seen last ExitParagraph) ≡ lower.end_alone leaving.paragraph
  exit_paragraph_row = ap built (seen_exit_paragraph last)

  pub exit_section_row : built (seen last ExitSection) ≡ lower.end_alone (leaving.section last)
  exit_section_row = ap built (seen_exit_section last)

  pub exit_perform_row : (cycle : Bool) → built (seen last (ExitPerform cycle)) ≡ lower.end_alone (lower.loop_left cycle leaving)
  exit_perform_row cycle = ap built (seen_exit_perform last cycle)

  choice_row : (stmt : language.Stmt) (picker : language.Picker) (arms : language.Arms) → stmt ≡ language.Choose picker arms → whole (cut told stmt) ≡ false →
      built stmt ≡ lower.end_alone (graph.Pick picker (arms_built (first_is_dead told picker) arms))
  choice_row stmt picker arms is h =
      ap built is
      ∙ ap (λ b. if b then lower.push told place_of (language.Choose picker arms) behind else lower.end_alone (graph.Pick picker (arms_built (first_is_dead told picker) arms)))
      (sym (ap (λ s. whole (cut told s)) is) ∙ h)

  pub if_row : (cond : Cond) (met unmet : List Stmt) → whole (cut told (seen last (If cond met unmet))) ≡ false →
      built (seen last (If cond met unmet)) ≡ lower.end_alone (graph.Pick (language.If (test_of cond)) (arms_built false (if_arms met unmet last)))
  if_row cond met unmet h = choice_row (seen last (If cond met unmet)) (language.If (test_of cond)) (if_arms met unmet last) (seen_if last cond met unmet) h

  pub evaluate_row : (of : Subject) (whens : List When) (other : Option (List Stmt)) → subject_own of ≡ true → whole (cut told (seen last (Evaluate of whens other))) ≡ false →
      built (seen last (Evaluate of whens other))
      ≡ lower.end_alone (graph.Pick (language.By (language.Evaluate of (when_tests whens) (is_some other))) (arms_built false (when_arms whens other last)))
  evaluate_row of whens other own h =
      choice_row (seen last (Evaluate of whens other)) (language.By (language.Evaluate of (when_tests whens) (is_some other))) (when_arms whens other last)
      (seen_evaluate last of whens other
      ∙ ap₂ language.Choose (picker_seen last of whens (is_some other) own)
      (ap (λ phrase. branches_before (map (seen_when last) whens) (arm_before phrase language.done)) (phrase_seen last other))) h

  -- a first arm that stands isn't dead
  first_given : (first : Option language.Stmts) (others : language.Arms) (missing : Bool) →
      arms_built (if is_some first then false else missing) (arm_before first others) ≡ arms_built missing (arm_before first others)
  first_given None others missing = refl
  first_given (Some stmts) others missing = refl

  pub read_row : (file : ℕ) (into : Option Place) (arms : Arms) → whole (cut told (seen last (Read file into arms))) ≡ false →
      built (seen last (Read file into arms))
      ≡ lower.end_alone (graph.Pick (language.By (language.Read file into (is_some (out-Arms arms).first))) (arms_built (status_missing (slice_get files file)) (phrase_arms arms last)))
  read_row file into arms h =
      let both = seen_both last arms in
      let has : is_some both.first ≡ is_some (out-Arms arms).first =
      ap (λ (b : Both). is_some b.first) (seen_both_is last arms) ∙ some_seen last (out-Arms arms).first in
      choice_row (seen last (Read file into arms)) (language.By (language.Read file into (is_some both.first))) (phrase_arms arms last) (seen_read last file into arms) h
      ∙ ap (λ trees. lower.end_alone (graph.Pick (language.By (language.Read file into (is_some both.first))) trees))
      (first_given both.first (arm_before both.second language.done) (status_missing (slice_get files file)))
      ∙ ap (λ b. lower.end_alone (graph.Pick (language.By (language.Read file into b)) (arms_built (status_missing (slice_get files file)) (phrase_arms arms last)))) has

  arith_by : (stmt : language.Stmt) (calc : Calc) (into : List Target) (first second : Option language.Stmts) →
      stmt ≡ arith_stmt calc into (record { first = first; second = second }) → whole (cut told stmt) ≡ false →
      built stmt ≡ lower.end_alone (graph.Pick (language.By (language.Arith calc into)) (arms_built false (both_arms (record { first = first; second = second }))))
  arith_by stmt calc into None None is h = absurd (apart (sym (ap (λ s. whole (cut told s)) is) ∙ h))
  arith_by stmt calc into None (Some second) is h = choice_row stmt (language.By (language.Arith calc into)) (language.missing (language.given second language.done)) is h
  arith_by stmt calc into (Some first) None is h = choice_row stmt (language.By (language.Arith calc into)) (language.given first (language.missing language.done)) is h
  arith_by stmt calc into (Some first) (Some second) is h = choice_row stmt (language.By (language.Arith calc into)) (language.given first (language.given second language.done)) is h

  pub arith_row : (calc : Calc) (into : List Target) (arms : Arms) → whole (cut told (seen last (Arith calc into arms))) ≡ false →
      built (seen last (Arith calc into arms)) ≡ lower.end_alone (graph.Pick (language.By (language.Arith calc into)) (arms_built false (phrase_arms arms last)))
  arith_row calc into arms h =
      arith_by (seen last (Arith calc into arms)) calc into (seen_both last arms).first (seen_both last arms).second (seen_arith last calc into arms) h

  loop_by : (stmt : language.Stmt) (control : Option language.Control) (body : language.Stmts) → stmt ≡ loop_of control body → whole (cut told stmt) ≡ false →
      built stmt ≡ loop_begun told place_of control body place leaving after
  loop_by stmt None body is h = choice_row stmt (language.If (language.Holds always)) (language.given body language.done) is h
  loop_by stmt (Some control) body is h =
      ap built is
      ∙ ap (λ b. if b then lower.push told place_of (language.Loop control (language.Nested body)) behind else lower.loop_start control place)
      (sym (ap (λ s. whole (cut told s)) is) ∙ h)

  pub loop_row : (control : Control) (body : List Stmt) → whole (cut told (seen last (Loop control body))) ≡ false →
      built (seen last (Loop control body)) ≡ loop_begun told place_of (control_in control) (seen_stmts last body) place leaving after
  loop_row control body h = loop_by (seen last (Loop control body)) (control_in control) (seen_stmts last body) (seen_loop last control body) h
