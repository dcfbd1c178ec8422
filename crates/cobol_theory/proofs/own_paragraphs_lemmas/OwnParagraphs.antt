-- What is named names paragraphs of its own.
use Rattle.std.proofs.Common.{◌≡◌, Bool, true, ◌&&◌, List, [], ◌∷◌, map, Option, Some, None, refl, ap, sym, ◌∙◌, subst}
use Rattle.std.proofs.lemmas.Bool.{and_parts}
use Rattle.cob_tree.specs.declared.choice.Test.{Test}
use Rattle.cob_tree.specs.declared.control.Control.{Control}
use Rattle.cob_tree.specs.declared.control.Control.TheVariants as control
use Rattle.cob_tree.specs.declared.program.Paragraph.{Paragraph}
use Rattle.cob_tree.specs.declared.program.Sentence.{Sentence}
use Rattle.cob_tree.specs.declared.stmt.Arms.{Arms, roll-Arms, map-Arms, fold-roll-Arms}
use Rattle.cob_tree.specs.declared.stmt.Stmt.{Stmt, ind-Stmt, map-Stmt, roll-Stmt, fold-roll-Stmt}
use Rattle.cob_tree.specs.declared.stmt.Stmt.TheOpen.{Stmt-F, Arms-F, When-F}
use Rattle.cob_tree.specs.declared.stmt.When.{When, roll-When, map-When, fold-roll-When}
use Rattle.control_flow_theory.specs.language.All.{all}
use Rattle.cobol_theory.specs.cobol_parts.Named as own
use Rattle.program_facts.specs.well_scoped.Part.{Counts, is_filled, if_any, file_named, paragraph_named, place_named}
use Rattle.program_facts.specs.well_scoped.Beside.{turns, cond_named, control_named, calc_named, target_named, subject_named, test_named}
use Rattle.program_facts.specs.well_scoped.Named.{Branch, arm, fit, stmt_step, arms_step, when_step, stmt_named, arms_named, when_seen, stmts_named, sentence_named, sentences_named, paragraphs_named}
use Rattle.program_facts.proofs.well_scoped_lemmas.Made.{both}

first : (a b : Bool) → (a && b) ≡ true → a ≡ true
first a b e = (and_parts a b e).0

second : (a b : Bool) → (a && b) ≡ true → b ≡ true
second a b e = (and_parts a b e).1

each : {X : Type 0} (p q : X → Bool) → ((x : X) → p x ≡ true → q x ≡ true) → (list : List X) → all (map p list) ≡ true → all (map q list) ≡ true
each p q h [] e = refl
each p q h (x ∷ list) e = let k = and_parts (p x) (all (map p list)) e in both (h x k.0) (each p q h list k.1)

turns-too : (x : Control) → turns x ≡ true → own.turns x ≡ true
turns-too control.Once e = absurd cc
turns-too (control.Times amount) e = refl
turns-too (control.Until after until) e = refl
turns-too (control.Varying after item from by until) e = refl

module _ (counts : Counts) where
  abbrev stmt_own : Stmt → Bool
  stmt_own = own.stmt_named counts.paragraphs

  abbrev arms_own : Arms → Bool
  arms_own = own.arms_named counts.paragraphs

  abbrev when_own : When → Bool
  when_own = own.when_named counts.paragraphs

  abbrev stmts_own : List Stmt → Bool
  stmts_own stmts = all (map stmt_own stmts)

  abbrev IsStmt : Stmt → Type 0
  IsStmt x = stmt_named counts x ≡ true → stmt_own x ≡ true

  abbrev IsArms : Arms → Type 0
  IsArms x = arms_named counts x ≡ true → arms_own x ≡ true

  abbrev IsWhen : When → Type 0
  IsWhen x = (when_seen counts x).named ≡ true → when_own x ≡ true

  abbrev SuchStmt : Type 0
  SuchStmt = (x : Stmt) × IsStmt x

  abbrev SuchArms : Type 0
  SuchArms = (x : Arms) × IsArms x

  abbrev SuchWhen : Type 0
  SuchWhen = (x : When) × IsWhen x

  abbrev plain : List SuchStmt → List Stmt
  plain list = map (λ e. e.0) list

  held-own : (list : List SuchStmt) → stmts_named counts (plain list) ≡ true → stmts_own (plain list) ≡ true
  held-own [] e = refl
  held-own (x ∷ list) e = let h = and_parts (stmt_named counts x.0) (stmts_named counts (plain list)) e in both (x.1 h.0) (held-own list h.1)

  arm-own : (list : List SuchStmt) → arm (map (stmt_named counts) (plain list)) ≡ true → stmts_own (plain list) ≡ true
  arm-own list e = held-own list (second (is_filled (map (stmt_named counts) (plain list))) (stmts_named counts (plain list)) e)

  whens-own : (list : List SuchWhen) → all (map (λ when. when.named) (map (when_seen counts) (map (λ e. e.0) list))) ≡ true → all (map when_own (map (λ e. e.0) list)) ≡ true
  whens-own [] e = refl
  whens-own (x ∷ list) e =
      let h = and_parts (when_seen counts x.0).named (all (map (λ when. when.named) (map (when_seen counts) (map (λ e. e.0) list)))) e in both (x.1 h.0) (whens-own list h.1)

  abbrev mapped : Stmt-F SuchStmt SuchArms SuchWhen → Stmt-F Stmt Arms When
  mapped = map-Stmt SuchStmt SuchArms SuchWhen Stmt Arms When (λ e. e.0) (λ e. e.0) (λ e. e.0)

  abbrev named : Stmt-F Stmt Arms When → Bool
  named y = stmt_step counts (map-Stmt Stmt Arms When Bool Bool Branch (stmt_named counts) (arms_named counts) (when_seen counts) y)

  abbrev owned : Stmt-F Stmt Arms When → Bool
  owned y = own.stmt_step counts.paragraphs (map-Stmt Stmt Arms When Bool Bool Bool stmt_own arms_own when_own y)

  stmt-step : (y : Stmt-F SuchStmt SuchArms SuchWhen) → named (mapped y) ≡ true → owned (mapped y) ≡ true
  stmt-step (Stmt-F.Display operands advance) e = refl
  stmt-step (Stmt-F.Move from to) e = refl
  stmt-step (Stmt-F.Arith calc into arms) e =
      arms.1 (second (calc_named counts calc && (is_filled into && all (map (target_named counts) into))) (arms_named counts arms.0) e)
  stmt-step (Stmt-F.SetTrue place) e = refl
  stmt-step (Stmt-F.Opens openings) e = refl
  stmt-step (Stmt-F.Closes files) e = refl
  stmt-step (Stmt-F.Read file into arms) e = arms.1 (second (file_named counts file && if_any (place_named counts) into) (arms_named counts arms.0) e)
  stmt-step (Stmt-F.Write entry from) e = refl
  stmt-step (Stmt-F.Rewrite entry from) e = refl
  stmt-step (Stmt-F.If cond met unmet) e =
      let h = and_parts (cond_named counts cond && arm (map (stmt_named counts) (plain met))) (stmts_named counts (plain unmet)) e in
      both (arm-own met (second (cond_named counts cond) (arm (map (stmt_named counts) (plain met))) h.0)) (held-own unmet h.1)
  stmt-step (Stmt-F.Evaluate subject whens None) e =
      let seen = map (when_seen counts) (map (λ e. e.0) whens) in
      let h = first (subject_named counts subject && (is_filled seen && all (map (λ when. when.named) seen)) && fit subject seen) true e in
      let k = first (subject_named counts subject && (is_filled seen && all (map (λ when. when.named) seen))) (fit subject seen) h in
      let l = second (subject_named counts subject) (is_filled seen && all (map (λ when. when.named) seen)) k in
      both (whens-own whens (second (is_filled seen) (all (map (λ when. when.named) seen)) l)) refl
  stmt-step (Stmt-F.Evaluate subject whens (Some other)) e =
      let seen = map (when_seen counts) (map (λ e. e.0) whens) in
      let h = and_parts (subject_named counts subject && (is_filled seen && all (map (λ when. when.named) seen)) && fit subject seen) (arm (map (stmt_named counts) (plain other))) e in
      let k = first (subject_named counts subject && (is_filled seen && all (map (λ when. when.named) seen))) (fit subject seen) h.0 in
      let l = second (subject_named counts subject) (is_filled seen && all (map (λ when. when.named) seen)) k in
      both (whens-own whens (second (is_filled seen) (all (map (λ when. when.named) seen)) l)) (arm-own other h.1)
  stmt-step (Stmt-F.Loop control body) e =
      let h = and_parts (turns control && control_named counts control) (arm (map (stmt_named counts) (plain body))) e in
      both (turns-too control (first (turns control) (control_named counts control) h.0)) (arm-own body h.1)
  stmt-step (Stmt-F.Perform entry exit control) e = first (paragraph_named counts entry && paragraph_named counts exit) (control_named counts control) e
  stmt-step (Stmt-F.Go to) e = e
  stmt-step (Stmt-F.GoDepending to on) e =
      second (is_filled to) (all (map (paragraph_named counts) to)) (first (is_filled to && all (map (paragraph_named counts) to)) (place_named counts on) e)
  stmt-step Stmt-F.NextSentence e = refl
  stmt-step Stmt-F.StopRun e = refl
  stmt-step Stmt-F.Exit e = refl
  stmt-step Stmt-F.ExitParagraph e = refl
  stmt-step Stmt-F.ExitSection e = refl
  stmt-step (Stmt-F.ExitPerform cycle) e = refl
  stmt-step Stmt-F.Continue e = refl

  stmt-layer : (y : Stmt-F SuchStmt SuchArms SuchWhen) → IsStmt (roll-Stmt (mapped y))
  stmt-layer y e =
      fold-roll-Stmt Bool Bool Bool (own.stmt_step counts.paragraphs) (own.arms_step counts.paragraphs) (own.when_step counts.paragraphs) (mapped y)
      ∙ stmt-step y (sym (fold-roll-Stmt Bool Bool Branch (stmt_step counts) (arms_step counts) (when_step counts) (mapped y)) ∙ e)

  arms-by : (y : Arms-F Stmt Arms When) →
      (arms_step counts (map-Arms Stmt Arms When Bool Bool Branch (stmt_named counts) (arms_named counts) (when_seen counts) y) ≡ true →
      own.arms_step counts.paragraphs (map-Arms Stmt Arms When Bool Bool Bool stmt_own arms_own when_own y) ≡ true) → IsArms (roll-Arms y)
  arms-by y h e =
      fold-roll-Arms Bool Bool Bool (own.stmt_step counts.paragraphs) (own.arms_step counts.paragraphs) (own.when_step counts.paragraphs) y
      ∙ h (sym (fold-roll-Arms Bool Bool Branch (stmt_step counts) (arms_step counts) (when_step counts) y) ∙ e)

  arms-layer : (one other : Option (List SuchStmt)) → IsArms (roll-Arms (map-Arms SuchStmt SuchArms SuchWhen Stmt Arms When (λ e. e.0) (λ e. e.0) (λ e. e.0) (record { first = one; second = other })))
  arms-layer None None = arms-by (record { first = None; second = None }) (λ e. refl)
  arms-layer None (Some other) = arms-by (record { first = None; second = Some (plain other) }) (λ e. arm-own other e)
  arms-layer (Some one) None =
      arms-by (record { first = Some (plain one); second = None }) (λ e. both (arm-own one (first (arm (map (stmt_named counts) (plain one))) true e)) refl)
  arms-layer (Some one) (Some other) =
      arms-by (record { first = Some (plain one); second = Some (plain other) })
      (λ e. let h = and_parts (arm (map (stmt_named counts) (plain one))) (arm (map (stmt_named counts) (plain other))) e in both (arm-own one h.0) (arm-own other h.1))

  when-layer : (tests : List Test) (stmts : List SuchStmt) → IsWhen (roll-When (map-When SuchStmt SuchArms SuchWhen Stmt Arms When (λ e. e.0) (λ e. e.0) (λ e. e.0) (record { tests = tests; stmts = stmts })))
  when-layer tests stmts e =
      let y : When-F Stmt Arms When = record { tests = tests; stmts = plain stmts } in
      let h = second (is_filled tests && all (map (test_named counts) tests)) (arm (map (stmt_named counts) (plain stmts)))
      (sym (ap (λ b. b.named) (fold-roll-When Bool Bool Branch (stmt_step counts) (arms_step counts) (when_step counts) y)) ∙ e) in
      fold-roll-When Bool Bool Bool (own.stmt_step counts.paragraphs) (own.arms_step counts.paragraphs) (own.when_step counts.paragraphs) y ∙ arm-own stmts h

  stmt-own : (x : Stmt) → IsStmt x
  stmt-own x =
      ind-Stmt IsStmt IsArms IsWhen
      (λ x y is. subst (λ z. IsStmt (roll-Stmt z)) is (stmt-layer y))
      (λ x y is. subst (λ z. IsArms (roll-Arms z)) is (arms-layer y.first y.second))
      (λ x y is. subst (λ z. IsWhen (roll-When z)) is (when-layer y.tests y.stmts)) x

  sentence-own : (x : Sentence) → sentence_named counts x ≡ true → stmts_own x.stmts ≡ true
  sentence-own x e = each (stmt_named counts) stmt_own stmt-own x.stmts (second (is_filled x.stmts) (stmts_named counts x.stmts) e)

  paragraph-own : (x : Paragraph) → sentences_named counts x.sentences ≡ true → own.sentences_named counts.paragraphs x.sentences ≡ true
  paragraph-own x e = each (sentence_named counts) (λ sentence. stmts_own sentence.stmts) sentence-own x.sentences e

  pub paragraphs-own : (list : List Paragraph) → paragraphs_named counts list ≡ true → own.paragraphs_named counts.paragraphs list ≡ true
  paragraphs-own list e =
      each (λ paragraph. sentences_named counts paragraph.sentences) (λ paragraph. own.sentences_named counts.paragraphs paragraph.sentences) paragraph-own list e
