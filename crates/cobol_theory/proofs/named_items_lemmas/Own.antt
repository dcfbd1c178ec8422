-- A named statement names items of the program, and files that have a record.
use Rattle.std.proofs.Common.{◌≡◌, ◌<◌, ℕ, Bool, true, ◌&&◌, List, [], ◌∷◌, map, Option, refl, sym, ◌∙◌, ap, subst, ltb-true}
use Rattle.std.proofs.lemmas.Bool.{and_parts}
use Rattle.std.specs.Prelude.{nat_lt}
use Rattle.cob_tree.specs.declared.choice.Subject.{Subject}
use Rattle.cob_tree.specs.declared.stmt.Arms.{Arms}
use Rattle.cob_tree.specs.declared.stmt.Stmt.{Stmt, out-Stmt, roll-Stmt, roll-out-Stmt, out-roll-Stmt, map-Stmt, fold_out-Stmt}
use Rattle.cob_tree.specs.declared.stmt.Stmt.TheOpen.{Stmt-F}
use Rattle.cob_tree.specs.declared.stmt.When.{When, out-When, fold_out-When}
use Rattle.meanings.specs.statements.Filing.{Declared}
use Rattle.control_flow_theory.specs.language.All.{all}
use Rattle.cobol_theory.specs.added_items.Own.{items, has_record, stmt_own}
use Rattle.cobol_theory.specs.added_items.Within.{whens_within}
use Rattle.program_facts.specs.well_scoped.Part.{Counts, is_filled, if_any, item_named, file_named, place_named, operand_named, places_named, operands_named}
use Rattle.program_facts.specs.well_scoped.Beside.{cond_named, calc_named, target_named, subject_named, test_named}
use Rattle.program_facts.specs.well_scoped.Named.{Branch, arm, fit, stmt_step, arms_step, when_step, stmt_named, arms_named, when_seen}
use Rattle.program_facts.proofs.well_scoped_lemmas.Made.{both}
use Rattle.cobol_theory.proofs.named_items_lemmas.Within as within

module _ (declared : Declared) (counts : Counts) (same : counts.items ≡ items declared)
    (records : (file : ℕ) → file < counts.files → has_record declared file ≡ true) where
  pub file-own : (file : ℕ) → file_named counts file ≡ true → has_record declared file ≡ true
  file-own file e = records file (ltb-true file counts.files e)

  item-own : (item : ℕ) → item_named counts item ≡ true → nat_lt item (items declared) ≡ true
  item-own item e = subst (λ n. nat_lt item n ≡ true) same e

  abbrev named : Stmt-F Stmt Arms When → Bool
  named y = stmt_step counts (map-Stmt Stmt Arms When Bool Bool Branch (stmt_named counts) (arms_named counts) (when_seen counts) y)

  when-own : (when : When) → (when_seen counts when).named ≡ true → all (map (test_named counts) (out-When when).tests) ≡ true
  when-own when e =
      let tests = (out-When when).tests in
      let h = sym (ap (λ b. b.named) (fold_out-When Bool Bool Branch (stmt_step counts) (arms_step counts) (when_step counts) when)) ∙ e in
      (and_parts (is_filled tests) (all (map (test_named counts) tests)) (and_parts (is_filled tests && all (map (test_named counts) tests)) _ h).0).1

  whens-own : (whens : List When) → all (map (λ when. when.named) (map (when_seen counts) whens)) ≡ true → whens_within (items declared) (map (λ when. (out-When when).tests) whens) ≡ true
  whens-own [] e = refl
  whens-own (when ∷ whens) e =
      let h = and_parts (when_seen counts when).named (all (map (λ when. when.named) (map (when_seen counts) whens))) e in
      both (within.tests-within counts (items declared) same (out-When when).tests (when-own when h.0)) (whens-own whens h.1)

  evaluate-own : (subject : Subject) (whens : List When) (other : Option (List Stmt)) → named (Stmt-F.Evaluate subject whens other) ≡ true →
      stmt_own declared (roll-Stmt (Stmt-F.Evaluate subject whens other)) ≡ true
  evaluate-own subject whens other e =
      let seen = map (when_seen counts) whens in
      let all_named = is_filled seen && all (map (λ when. when.named) seen) in
      let h = (and_parts (subject_named counts subject && all_named && fit subject seen) _ e).0 in
      let k = (and_parts (subject_named counts subject && all_named) (fit subject seen) h).0 in
      let l = and_parts (subject_named counts subject) all_named k in
      rw (out-roll-Stmt (Stmt-F.Evaluate subject whens other), stmt_own)
      (both (within.subject-within counts (items declared) same subject l.0)
      (whens-own whens (and_parts (is_filled seen) (all (map (λ when. when.named) seen)) l.1).1))

  row : (y : Stmt-F Stmt Arms When) → named y ≡ true → stmt_own declared (roll-Stmt y) ≡ true
  unfolding out-Stmt roll-Stmt denote.Hole.Carrier.out denote.Hole.Carrier.roll
  row (Stmt-F.Display operands advance) e =
      within.operands-within counts (items declared) same operands (and_parts (is_filled operands) (operands_named counts operands) e).1
  row (Stmt-F.Move from to) e =
      let h = and_parts (operand_named counts from) (is_filled to && places_named counts to) e in
      both (within.operand-within counts (items declared) same from h.0)
      (within.places-within counts (items declared) same to (and_parts (is_filled to) (places_named counts to) h.1).1)
  row (Stmt-F.Arith calc into arms) e =
      let h = (and_parts (calc_named counts calc && (is_filled into && all (map (target_named counts) into))) (arms_named counts arms) e).0 in
      let k = and_parts (calc_named counts calc) (is_filled into && all (map (target_named counts) into)) h in
      both (within.calc-within counts (items declared) same calc k.0)
      (within.targets-within counts (items declared) same into (and_parts (is_filled into) (all (map (target_named counts) into)) k.1).1)
  row (Stmt-F.SetTrue place) e = within.place-within counts (items declared) same place e
  row (Stmt-F.Opens openings) e = refl
  row (Stmt-F.Closes files) e = refl
  row (Stmt-F.Read file into arms) e =
      let h = (and_parts (file_named counts file && if_any (place_named counts) into) (arms_named counts arms) e).0 in
      let k = and_parts (file_named counts file) (if_any (place_named counts) into) h in
      both (file-own file k.0) (within.place-if-any counts (items declared) same into k.1)
  row (Stmt-F.Write entry from) e =
      let h = and_parts (item_named counts entry) (if_any (operand_named counts) from) e in
      both (item-own entry h.0) (within.operand-if-any counts (items declared) same from h.1)
  row (Stmt-F.Rewrite entry from) e =
      let h = and_parts (item_named counts entry) (if_any (operand_named counts) from) e in
      both (item-own entry h.0) (within.operand-if-any counts (items declared) same from h.1)
  row (Stmt-F.If cond met unmet) e =
      let h = (and_parts (cond_named counts cond && arm (map (stmt_named counts) met)) (all (map (stmt_named counts) unmet)) e).0 in
      within.cond-within counts (items declared) same cond (and_parts (cond_named counts cond) (arm (map (stmt_named counts) met)) h).0
  row (Stmt-F.Evaluate subject whens other) e = evaluate-own subject whens other e
  row (Stmt-F.Loop control body) e = refl
  row (Stmt-F.Perform entry exit control) e = refl
  row (Stmt-F.Go to) e = refl
  row (Stmt-F.GoDepending to on) e = refl
  row Stmt-F.NextSentence e = refl
  row Stmt-F.StopRun e = refl
  row Stmt-F.Exit e = refl
  row Stmt-F.ExitParagraph e = refl
  row Stmt-F.ExitSection e = refl
  row (Stmt-F.ExitPerform cycle) e = refl
  row Stmt-F.Continue e = refl

  pub stmt-own : (stmt : Stmt) → stmt_named counts stmt ≡ true → stmt_own declared stmt ≡ true
  stmt-own stmt e =
      subst (λ s. stmt_own declared s ≡ true) (roll-out-Stmt stmt)
      (row (out-Stmt stmt) (sym (fold_out-Stmt Bool Bool Branch (stmt_step counts) (arms_step counts) (when_step counts) stmt) ∙ e))
