-- What statements that hold others give, where what they hold is named.
use Rattle.std.proofs.Common.{◌≡◌, ℕ, zero, suc, Bool, true, false, ◌&&◌, ◌||◌, List, [], ◌∷◌, ◌++◌, map, Option, Some, None, refl}
use Rattle.std.specs.Prelude.{codes}
use Rattle.std.proofs.lemmas.Bool.{and_parts}
use Rattle.cob_tree.specs.declared.choice.Subject.{Subject}
use Rattle.cob_tree.specs.declared.choice.Subject.TheVariants as subjects
use Rattle.cob_tree.specs.declared.choice.Test.{Test}
use Rattle.cob_tree.specs.declared.choice.Test.TheVariants as tests
use Rattle.cob_tree.specs.declared.cond.Cond.{Cond}
use Rattle.cob_tree.specs.declared.control.Control.{Control}
use Rattle.cob_tree.specs.declared.stmt.Stmt.{Stmt}
use Rattle.cob_tree.specs.declared.stmt.When.{When}
use Rattle.parser_combinators.specs.declared.note.Position.{Position}
use Rattle.parser_combinators.specs.Form.{Form}
use Rattle.parser_combinators.proofs.MakerLaws as laws
use Rattle.parser_combinators.proofs.MakerLaws.{Law}
use Rattle.cobol_grammar.specs.declared.stmt_forms.head.NotPhrase.{NotPhrase}
use Rattle.cobol_grammar.specs.declared.stmt_forms.head.NotPhrase.TheVariants as nots
use Rattle.cobol_grammar.specs.declared.stmt_forms.head.PerformHead.{PerformHead}
use Rattle.cobol_grammar.specs.declared.stmt_forms.head.PerformHead.TheVariants as heads
use Rattle.cobol_grammar.specs.declared.stmt_forms.head.ReadHead.{ReadHead}
use Rattle.cobol_grammar.specs.declared.stmt_forms.head.ReadHead.TheVariants as reads
use Rattle.cobol_grammar.specs.declared.stmt_forms.phrase.Phrase.{Phrase}
use Rattle.cobol_grammar.specs.declared.stmt_forms.phrase.Phrase.TheVariants as phrases
use Rattle.cobol_grammar.specs.declared.stmt_forms.scope.Scope.{Scope}
use Rattle.cobol_grammar.specs.declared.stmt_forms.whens.Whens.{Whens}
use Rattle.cobol_grammar.specs.stmt_forms.Part.{Parts}
use Rattle.cobol_grammar.specs.stmt_forms.Laws.{PartsAreLawful}
use Rattle.cobol_grammar.specs.stmt_forms.Arms.{Level, Found, Arm}
use Rattle.cobol_grammar.specs.stmt_forms.Arms as arms
use Rattle.cobol_grammar.specs.stmt_forms.Choice as choice
use Rattle.cobol_grammar.specs.stmt_forms.File as file
use Rattle.cobol_grammar.specs.stmt_forms.Loop as loops
use Rattle.cobol_grammar.specs.stmt_forms.Loop.{Controlled}
use Rattle.cobol_grammar.specs.stmt_forms.Stmt as forms
use Rattle.cobol_grammar.proofs.stmt_forms_lemmas.HoldingLaws as law
use Rattle.cobol_grammar.proofs.stmt_forms_lemmas.HoldingLaws.{LevelIsLawful}
use Rattle.control_flow_theory.specs.language.All.{all}
use Rattle.program_facts.specs.well_scoped.Part.{Counts, if_any, file_named, paragraph_named, place_named, operand_named, expr_named}
use Rattle.program_facts.specs.well_scoped.Beside.{turns, is_truth, is_value, cond_named, control_named, subject_named, test_named}
use Rattle.program_facts.specs.well_scoped.Named.{Branch, fit, stmt_named, arms_named, stmts_named, when_seen}
use Rattle.program_facts.proofs.well_scoped_lemmas.Made as made
use Rattle.program_facts.proofs.well_scoped_lemmas.Made.{both, all-added, given_named}
use Rattle.grammar_laws.specs.form_results.Giving.{Gives}
use Rattle.grammar_laws.specs.form_results.Numbered.{IsNumbered}
use Rattle.grammar_laws.proofs.form_results_lemmas.Giving.{Full, full-added, full-one, any, hence, still, pure, refuse, note, key, maybe, chosen, where_next, loop, items, ◌>>=◌, ◌>>◌}
use Rattle.grammar_laws.proofs.form_results_lemmas.Literals.{digits}
use Rattle.grammar_laws.specs.well_scoped.named_stmts.Parts.{PartsGive}
use Rattle.grammar_laws.proofs.well_scoped_lemmas.named_stmts_lemmas.Simple as simple
use Rattle.grammar_laws.proofs.well_scoped_lemmas.named_stmts_lemmas.Simple.{Named, WorkNamed}

-- ---- tests and the subjects under which they stand

-- with a value of which something is known stand values, else conditions
abbrev pub fits : {Known : Type 0} → Option Known → Test → Bool
fits None test = is_truth test
fits (Some known) test = is_value test

abbrev pub Suits : {Known : Type 0} → Subject → Option Known → Type 0
Suits (subjects.Value expr) (Some known) = Unit {0}
Suits (subjects.Value expr) None = ⊥
Suits subjects.True (Some known) = ⊥
Suits subjects.True None = Unit {0}
Suits subjects.False (Some known) = ⊥
Suits subjects.False None = Unit {0}

module _ (counts : Counts) where
  abbrev pub Stmts : List Stmt → Type 0
  Stmts list = Full (stmt_named counts) list

  -- ---- the arms of EVALUATE

  module _ {Known : Type 0} (known : Option Known) where
    abbrev pub test_fine : Test → Bool
    test_fine test = test_named counts test && fits known test

    abbrev branch_by : Option Known → Branch → Bool
    branch_by None branch = branch.named && branch.truths
    branch_by (Some known) branch = branch.named && branch.values

    abbrev pub branch_fine : When → Bool
    branch_fine when = branch_by known (when_seen counts when)

    tests_fine : (list : List Test) → all (map test_fine list) ≡ true → (all (map (test_named counts) list) ≡ true) × (all (map (fits known) list) ≡ true)
    tests_fine [] e = (refl, refl)
    tests_fine (test ∷ list) e =
        let h = and_parts (test_fine test) (all (map test_fine list)) e in
        let one = and_parts (test_named counts test) (fits known test) h.0 in
        let others = tests_fine list h.1 in
        (both one.0 others.0, both one.1 others.1)

  branch_made : {Known : Type 0} (known : Option Known) (list : List Test) (held : List Stmt) → Full (test_fine known) list → Stmts held → branch_fine known (choice.when_of list held) ≡ true
  branch_made {Known = Known} None list held t h =
      let fine = tests_fine {Known = Known} None list t.1 in
      both (made.made-When counts list held t.0 fine.0 (both h.0 h.1)) (made.truths-When counts list held fine.1)
  branch_made (Some known) list held t h =
      let fine = tests_fine (Some known) list t.1 in
      both (made.made-When counts list held t.0 fine.0 (both h.0 h.1)) (made.values-When counts list held fine.1)

  branches_named : {Known : Type 0} (known : Option Known) (whens : List When) → all (map (branch_fine known) whens) ≡ true → all (map (λ when. (when_seen counts when).named) whens) ≡ true
  branches_named known [] e = refl
  branches_named {Known = Known} None (when ∷ whens) e =
      let h = and_parts (branch_fine {Known = Known} None when) (all (map (branch_fine {Known = Known} None) whens)) e in
      both (and_parts (when_seen counts when).named (when_seen counts when).truths h.0).0 (branches_named {Known = Known} None whens h.1)
  branches_named (Some known) (when ∷ whens) e =
      let h = and_parts (branch_fine (Some known) when) (all (map (branch_fine (Some known)) whens)) e in
      both (and_parts (when_seen counts when).named (when_seen counts when).values h.0).0 (branches_named (Some known) whens h.1)

  truths_fit : (Known : Type 0) (whens : List When) → all (map (branch_fine {Known = Known} None) whens) ≡ true → all (map (λ when. when.truths) (map (when_seen counts) whens)) ≡ true
  truths_fit Known [] e = refl
  truths_fit Known (when ∷ whens) e =
      let h = and_parts (branch_fine {Known = Known} None when) (all (map (branch_fine {Known = Known} None) whens)) e in
      both (and_parts (when_seen counts when).named (when_seen counts when).truths h.0).1 (truths_fit Known whens h.1)

  values_fit : {Known : Type 0} (known : Known) (whens : List When) → all (map (branch_fine (Some known)) whens) ≡ true → all (map (λ when. when.values) (map (when_seen counts) whens)) ≡ true
  values_fit known [] e = refl
  values_fit known (when ∷ whens) e =
      let h = and_parts (branch_fine (Some known) when) (all (map (branch_fine (Some known)) whens)) e in
      both (and_parts (when_seen counts when).named (when_seen counts when).values h.0).1 (values_fit known whens h.1)

  branches_fit : {Known : Type 0} (subject : Subject) (known : Option Known) (whens : List When) → Suits subject known → all (map (branch_fine known) whens) ≡ true → fit subject (map (when_seen counts) whens) ≡ true
  branches_fit (subjects.Value expr) (Some known) whens s e = values_fit known whens e
  branches_fit (subjects.Value expr) None whens s e = absurd s
  branches_fit subjects.True (Some known) whens s e = absurd s
  branches_fit {Known = Known} subjects.True None whens s e = truths_fit Known whens e
  branches_fit subjects.False (Some known) whens s e = absurd s
  branches_fit {Known = Known} subjects.False None whens s e = truths_fit Known whens e

  -- ---- what is held

  pub record LevelGives (level : Level) : Type 0 where
    pub law : LevelIsLawful level
    pub stmts : (scope : Scope) → Gives IsNumbered (level.stmts scope) (λ found. Stmts found.0)

  abbrev ArmNamed : Option (List Stmt) → Type 0
  ArmNamed arm = if_any (given_named counts) arm ≡ true

  abbrev HeadNamed : ReadHead → Type 0
  HeadNamed (reads.WithSentence file) = file_named counts file ≡ true
  HeadNamed (reads.Open file into) = (file_named counts file ≡ true) × (if_any (place_named counts) into ≡ true)

  abbrev Turning : Control → Type 0
  Turning control = (turns control ≡ true) × (control_named counts control ≡ true)

  abbrev PerformNamed : PerformHead → Type 0
  PerformNamed (heads.Whole stmt pending_not) = stmt_named counts stmt ≡ true
  PerformNamed (heads.Inline control) = Turning control

  module _ {level : Level} (L : LevelGives level) where
    held_arm : (scope : Scope) → Gives IsNumbered (arms.held_arm level scope) (λ arm. ArmNamed arm.0)
    unfolding arms.held_arm
    held_arm scope = L.stmts scope >>= (λ found. pure (λ h. both h.0 h.1))

    first_arm : (scope : Scope) (present : Bool) → Gives IsNumbered (arms.first_arm level scope present) (λ arm. ArmNamed arm.0)
    unfolding arms.first_arm
    first_arm scope present = chosen present (held_arm scope) (pure refl)

    second_arm : (scope : Scope) (found : NotPhrase) → Gives IsNumbered (arms.second_arm level scope found) (λ arm. ArmNamed arm.0)
    unfolding arms.second_arm
    second_arm scope nots.Missing = pure refl
    second_arm scope nots.Own = held_arm scope
    second_arm scope nots.Foreign = pure refl

    both_arms : (phrase : Phrase) (scope : Scope) → Gives IsNumbered (arms.arms phrase level scope) (λ found. arms_named counts found.0 ≡ true)
    unfolding arms.arms arms.second_behind
    both_arms phrase scope =
        any (law.first_phrase L.law.enter phrase) >>= (λ present. first_arm scope present >>= (λ first.
        any (law.not_phrase L.law.enter phrase (file.is_some first.0) first.1) >>= (λ following. second_arm scope following >>= (λ second.
        pure (λ s _ f _. made.made-Arms counts first.0 second.0 f s)))))

    read_by : (scope : Scope) (before : List Stmt) (head : ReadHead) → Gives IsNumbered (arms.read_by level scope before head)
        (λ found. HeadNamed head → stmts_named counts before ≡ true → Stmts found.0)
    unfolding arms.read_by arms.read_arms
    read_by scope before (reads.WithSentence file) =
        pure (λ h b. full-added (stmt_named counts) (before ++ _) _ (all-added (stmt_named counts) before _ b (made.made-Read counts file None arms.no_arms h refl (made.made-Arms counts None None refl refl))) (made.made-NextSentence counts))
    read_by scope before (reads.Open file into) =
        both_arms phrases.End scope >>= (λ found. any (law.end_word (codes "END-READ") found.1) >>
        pure (λ _ a h b. full-added (stmt_named counts) before _ b (made.made-Read counts file into found.0 h.0 h.1 a)))

    else_part : (scope : Scope) → Gives IsNumbered (choice.else_part level scope) (λ found. stmts_named counts found.0 ≡ true)
    unfolding choice.else_part
    else_part scope = where_next (key (codes "ELSE") >> hence (λ found h _. h.1) (L.stmts scope)) (pure refl)

    if_behind : (scope : Scope) (cond : Cond) (first : Found) → Gives IsNumbered (choice.if_behind level scope cond first)
        (λ found. Stmts first.0 → cond_named counts cond ≡ true → Named counts found.0)
    unfolding choice.if_behind choice.if_ended
    if_behind scope cond first =
        chosen first.1 (pure (λ f c. made.made-If counts cond first.0 [] c f.0 f.1 refl))
        (else_part scope >>= (λ second. any (law.end_word (codes "END-IF") second.1) >>
        pure (λ _ s f c. made.made-If counts cond first.0 second.0 c f.0 f.1 s)))

    when_held : {Known : Type 0} (known : Option Known) (scope : Scope) (before : List When) (list : List Test) → Gives IsNumbered (choice.when_held level scope before list)
        (λ state. Full (test_fine known) list → all (map (branch_fine known) before) ≡ true → Full (branch_fine known) state.whens)
    unfolding choice.when_held
    when_held known scope before list =
        L.stmts scope >>= (λ held. pure (λ h t b. full-added (branch_fine known) before (choice.when_of list held.0) b (branch_made known list held.0 t h)))

    abbrev TestsFine : {Known : Type 0} → Option Known → Option (List Test) → Type 0
    TestsFine known None = Unit {0}
    TestsFine known (Some list) = Full (test_fine known) list

    whens_by : {Known : Type 0} (known : Option Known) (scope : Scope) (before : List When) (head : Option (List Test)) → Gives IsNumbered (choice.whens_by level scope before head)
        (λ state. TestsFine known head → Full (branch_fine known) before → Full (branch_fine known) state.whens)
    unfolding choice.whens_by
    whens_by known scope before None = pure (λ _ b. b)
    whens_by known scope before (Some list) = hence (λ state h t b. h t b.1) (when_held known scope before list)

    evaluated : {Known : Type 0} (known : Option Known) (scope : Scope) (subject : Subject) (state : Whens) → Gives IsNumbered (choice.evaluated level scope subject state)
        (λ found. Full (branch_fine known) state.whens → (subject_named counts subject ≡ true) × Suits subject known → Named counts found.0)
    unfolding choice.evaluated choice.other_part
    evaluated known scope subject state =
        chosen state.other {P = λ (arm : Arm). ArmNamed arm.0} (held_arm scope) (pure refl) >>= (λ other. any (law.end_word (codes "END-EVALUATE") other.1) >>
        pure (λ _ o w s. made.made-Evaluate counts subject state.whens other.0 s.0 w.0 (branches_named known state.whens w.1) (branches_fit subject known state.whens s.1 w.1) o))

    perform_by : (scope : Scope) (head : PerformHead) → Gives IsNumbered (loops.perform_by level scope head) (λ found. PerformNamed head → Named counts found.0)
    unfolding loops.perform_by loops.loop_body loops.loop_end loops.loop_closed
    perform_by scope (heads.Whole stmt pending_not) = pure (λ h. h)
    perform_by scope (heads.Inline control) =
        L.stmts (loops.looped scope) >>= (λ held. chosen held.1 refuse (key (codes "END-PERFORM") >>
        pure (λ _ b c. made.made-Loop counts control held.0 c.0 c.1 b.0 b.1)))

  module _ {Side Known : Type 0} {parts : Parts Side Known} (lawful : PartsAreLawful parts) (P : PartsGive counts parts) where
    -- ---- conditions and values

    settled : (found : Cond × Bool) → Gives IsNumbered (choice.settled found) (λ cond. cond_named counts found.0 ≡ true → cond_named counts cond ≡ true)
    unfolding choice.settled
    settled found = chosen found.1 refuse (pure (λ h. h))

    test_cond : Gives IsNumbered (choice.test_cond parts) (λ cond. cond_named counts cond ≡ true)
    unfolding choice.test_cond
    test_cond = P.cond >>= settled

    abbrev SubjectNamed : Subject × Option Known → Type 0
    SubjectNamed found = (subject_named counts found.0 ≡ true) × Suits found.0 found.1

    subject : Gives IsNumbered (choice.subject parts) SubjectNamed
    unfolding choice.subject choice.truth_subject choice.value_subject
    subject =
        where_next (where_next (key (codes "TRUE") >> pure (λ _. (refl, tt))) (key (codes "FALSE") >> pure (λ _. (refl, tt))))
        (P.expr >>= (λ side. note >> pure (λ _ e. (e, tt))))

    compared : (known : Known) → Gives IsNumbered (choice.compared parts known) (λ expr. expr_named counts expr ≡ true)
    unfolding choice.compared
    compared known = P.expr >>= (λ side. note >> (note >> pure (λ _ _ e. e)))

    last_part : (known : Known) → Gives IsNumbered (choice.last_part parts known) (λ last. if_any (expr_named counts) last ≡ true)
    unfolding choice.last_part choice.last_value
    last_part known = where_next (any law.thru >> (compared known >>= (λ last. pure (λ e _. e)))) (pure refl)

    value_test : (known : Known) → Gives IsNumbered (choice.value_test parts known) (λ test. test_fine (Some known) test ≡ true)
    unfolding choice.value_test
    value_test known = any law.negation >>= (λ not. compared known >>= (λ from. last_part known >>= (λ to. pure (λ t f _. both (both f t) refl))))

    test_by : (known : Option Known) → Gives IsNumbered (choice.test_by parts known) (λ test. test_fine known test ≡ true)
    unfolding choice.test_by choice.cond_test
    test_by None = test_cond >>= (λ cond. pure (λ c. both c refl))
    test_by (Some known) = value_test known

    any_fine : (known : Option Known) → test_fine known tests.Any ≡ true
    any_fine None = refl
    any_fine (Some known) = refl

    one_test : (known : Option Known) → Gives IsNumbered (choice.one_test parts known) (λ test. test_fine known test ≡ true)
    unfolding choice.one_test choice.any_test
    one_test known = where_next (key (codes "ANY") >> pure (λ _. any_fine known)) (test_by known)

    next_test : (known : Option Known) → Gives IsNumbered (choice.next_test parts known) (λ test. test_fine known test ≡ true)
    unfolding choice.next_test
    next_test known = key (codes "WHEN") >> still (one_test known)

    all_tests : (known : Option Known) → Gives IsNumbered (choice.all_tests parts known) (Full (test_fine known))
    unfolding choice.all_tests
    all_tests known = one_test known >>= (λ first. hence (λ list h f. h (full-one (test_fine known) first f)) (items (test_fine known) (next_test known)))

    first_tests : (known : Option Known) → Gives IsNumbered (choice.first_tests parts known) (Full (test_fine known))
    unfolding choice.first_tests
    first_tests known = key (codes "WHEN") >> still (all_tests known)

    abbrev HeadFine : Option Known → Option (List Test) → Type 0
    HeadFine known None = Unit {0}
    HeadFine known (Some list) = Full (test_fine known) list

    when_head : (known : Option Known) → Gives IsNumbered (choice.when_head parts known) (HeadFine known)
    unfolding choice.when_head choice.other_words
    when_head known = key (codes "WHEN") >> where_next (key (codes "OTHER") >> pure (λ _ _. tt)) (all_tests known >>= (λ list. pure (λ t _. t)))

    -- ---- control

    abbrev Turned : Controlled → Type 0
    Turned control = Turning control.0

    until_cond : (after : Bool) → Gives IsNumbered (loops.until_cond parts after) Turned
    unfolding loops.until_cond
    until_cond after = key (codes "UNTIL") >> (P.cond >>= (λ cond. pure (λ c _. (refl, c))))

    varied : Gives IsNumbered (loops.varied parts) (λ place. place_named counts place ≡ true)
    unfolding loops.varied
    varied = P.reference >>= (λ side. note >> pure (λ _ r. r.0))

    varying_cond : (after : Bool) → Gives IsNumbered (loops.varying_cond parts after) Turned
    unfolding loops.varying_cond
    varying_cond after = do
      key (codes "VARYING")
      item ← varied
      key (codes "FROM")
      from ← simple.number_operand counts P
      key (codes "BY")
      by ← simple.number_operand counts P
      key (codes "UNTIL")
      cond ← P.cond
      pure (λ c _ b _ f _ i _. (refl, both (both (both i f) b) c))

    until_control : Gives IsNumbered (loops.until_control parts) Turned
    unfolding loops.until_control
    until_control = any law.test_part >>= (λ after. where_next (still (varying_cond after)) (still (until_cond after)))

    times_behind : (side : Side) → Gives IsNumbered (loops.times_behind parts side) (λ control. operand_named counts (parts.operand_of side) ≡ true → Turning control)
    unfolding loops.times_behind
    times_behind side = note >> (key (codes "TIMES") >> pure (λ _ _ o. (refl, o)))

    times_control : Gives IsNumbered (loops.times_control parts) Turning
    unfolding loops.times_control
    times_control = P.operand >>= times_behind

    control_part : Gives IsNumbered (loops.control_part parts) (λ control. control_named counts control.0 ≡ true)
    unfolding loops.control_part loops.times_or_once
    control_part = where_next (hence (λ control h. h.1) until_control) (where_next (times_control >>= (λ control. pure (λ h. h.1))) (pure refl))

    exit_of : (exit : ℕ) → Gives IsNumbered (loops.exit_of parts exit) (λ last. paragraph_named counts exit ≡ true → paragraph_named counts last ≡ true)
    unfolding loops.exit_of
    exit_of exit = where_next (any law.thru >> (simple.procedure counts P >>= (λ last. pure (λ s _ _. s.1)))) (pure (λ h. h))

    perform_named : (name : List ℕ) (position : Position) → Gives IsNumbered (loops.perform_named parts name position) PerformNamed
    unfolding loops.perform_named
    perform_named name position =
        simple.procedure_named counts P name position >>= (λ first. exit_of first.1 >>= (λ exit. control_part >>= (λ control.
        pure (λ c e s. made.made-Perform counts first.0 exit control.0 s.0 (e s.1) c))))

    perform_word : Gives IsNumbered (loops.perform_word parts) PerformNamed
    unfolding loops.perform_word
    perform_word = any laws.word >>= (λ name. still (perform_named name.0 name.1))

    -- ---- arithmetic and READ

    arithmetic_work : Gives IsNumbered (arms.arithmetic_work parts) (λ worked. WorkNamed counts worked.1)
    unfolding arms.arithmetic_work arms.adding_work arms.multiplying_work arms.computing_work
    arithmetic_work =
        where_next (where_next (simple.add counts P >>= (λ work. pure (λ h. h))) (simple.subtract counts P >>= (λ work. pure (λ h. h))))
        (where_next (where_next (simple.multiply counts P >>= (λ work. pure (λ h. h))) (simple.divide counts P >>= (λ work. pure (λ h. h)))) (simple.compute counts P >>= (λ work. pure (λ h. h))))

    read_open : (found : Option ℕ) → Gives IsNumbered (arms.read_open parts found) (λ head. file_named counts (file.index_or_0 found) ≡ true → HeadNamed head)
    unfolding arms.read_open
    read_open found = simple.into_part counts P found >>= (λ into. pure (λ i f. (f, i)))

    read_head : Gives IsNumbered (arms.read_head parts) HeadNamed
    unfolding arms.read_head arms.read_next arms.read_sentence
    read_head = simple.read_file counts P >>= (λ found.
        where_next (key (codes "NEXT") >> where_next (key (codes "SENTENCE") >> pure (λ _ _ f. f)) (still (read_open found))) (read_open found))

    -- ---- heads that enter a level

    module _ {enter : Form (Unit {0})} (E : Law false enter) where
      if_head : Gives IsNumbered (choice.if_head parts enter) (λ cond. cond_named counts cond ≡ true)
      unfolding choice.if_head
      if_head = any E >> (key (codes "IF") >> (test_cond >>= (λ cond. maybe (codes "THEN") >> pure (λ _ c _ _. c))))

      evaluate_head : Gives IsNumbered (choice.evaluate_head parts enter) SubjectNamed
      unfolding choice.evaluate_head
      evaluate_head = any E >> (key (codes "EVALUATE") >> still (still subject))

      until_head : Gives IsNumbered (loops.until_head parts enter) PerformNamed
      unfolding loops.until_head loops.inline
      until_head = any E >> (until_control >>= (λ control. chosen control.1 refuse (pure (λ c _. c))))

      times_head : (side : Side) → Gives IsNumbered (loops.times_head parts side) (λ head. operand_named counts (parts.operand_of side) ≡ true → PerformNamed head)
      unfolding loops.times_head
      times_head side = times_behind side >>= (λ control. pure (λ h o. h o))

      item_head : (name : List ℕ) (position : Position) → Gives IsNumbered (loops.item_head parts enter name position) PerformNamed
      unfolding loops.item_head
      item_head name position = any E >> (P.reference_behind name position >>= (λ side. hence (λ head h o _. h o) (times_head side)))

      digits_head : (found : List ℕ) (position : Position) → Gives IsNumbered (loops.digits_head parts enter found position)
          (λ head. operand_named counts (parts.operand_of (parts.digits_side found position)) ≡ true → PerformNamed head)
      unfolding loops.digits_head
      digits_head found position = any E >> hence (λ head h _ o. h o) (times_head (parts.digits_side found position))

      operand_head : Gives IsNumbered (loops.operand_head parts enter) PerformNamed
      unfolding loops.operand_head
      operand_head = any E >> (P.operand >>= (λ side. hence (λ head h o _. h o) (times_head side)))

      perform_name : Gives IsNumbered (loops.perform_name parts enter) PerformNamed
      unfolding loops.perform_name
      perform_name = any laws.word >>= (λ name. where_next (still (item_head name.0 name.1)) (still (perform_named name.0 name.1)))

      perform_digits : Gives IsNumbered (loops.perform_digits parts enter) PerformNamed
      unfolding loops.perform_digits
      perform_digits = digits >>= (λ found. where_next (hence (λ head h d. h (P.digits_side found.0 found.1 d)) (digits_head found.0 found.1)) (still (perform_named found.0 found.1)))

      perform_other : Gives IsNumbered (loops.perform_other parts enter) PerformNamed
      unfolding loops.perform_other loops.perform_operand
      perform_other = where_next perform_digits (where_next perform_word (where_next operand_head refuse))

      perform_head : Gives IsNumbered (loops.perform_head parts enter) PerformNamed
      unfolding loops.perform_head loops.perform_behind
      perform_head = key (codes "PERFORM") >> still (where_next until_head (where_next perform_name perform_other))

    -- ---- statements, over those that are held

    module _ {level : Level} (L : LevelGives level) where
      arithmetic_stmt : (scope : Scope) → Gives IsNumbered (arms.arithmetic_stmt parts level scope) (λ found. Named counts found.0)
      unfolding arms.arithmetic_stmt arms.end_work
      arithmetic_stmt scope = arithmetic_work >>= (λ worked. both_arms L phrases.Size scope >>= (λ found. any (law.end_word (arms.end_of worked.0) found.1) >>
          pure (λ _ a w. made.made-Arith counts worked.1.0 worked.1.1 found.0 w.0 w.1.0 w.1.1 a)))

      read_stmt : (scope : Scope) (before : List Stmt) → Gives IsNumbered (arms.read_stmt parts level scope before) (λ found. stmts_named counts before ≡ true → Stmts found.0)
      unfolding arms.read_stmt
      read_stmt scope before = read_head >>= read_by L scope before

      if_stmt : (scope : Scope) → Gives IsNumbered (choice.if_stmt parts level scope) (λ found. Named counts found.0)
      unfolding choice.if_stmt
      if_stmt scope = if_head L.law.enter >>= (λ cond. L.stmts scope >>= if_behind L scope cond)

      when_next : (scope : Scope) (known : Option Known) (before : List When) → Gives IsNumbered (choice.when_next parts level scope known before)
          (λ state. Full (branch_fine known) before → Full (branch_fine known) state.whens)
      unfolding choice.when_next
      when_next scope known before = when_head known >>= (λ head. whens_by_head known scope before head)
        where
          whens_by_head : (known : Option Known) (scope : Scope) (before : List When) (head : Option (List Test)) → Gives IsNumbered (choice.whens_by level scope before head)
              (λ state. HeadFine known head → Full (branch_fine known) before → Full (branch_fine known) state.whens)
          whens_by_head known scope before None = whens_by L known scope before None
          whens_by_head known scope before (Some list) = whens_by L known scope before (Some list)

      whens_turn : (scope : Scope) (known : Option Known) (state : Whens) → Gives IsNumbered (choice.whens_turn parts level scope known state)
          (λ last. Full (branch_fine known) state.whens → Full (branch_fine known) last.whens)
      unfolding choice.whens_turn
      whens_turn scope known state = chosen (state.other || state.pending_not) refuse (when_next scope known state.whens)

      whens : (scope : Scope) (known : Option Known) → Gives IsNumbered (choice.whens parts level scope known) (λ state. Full (branch_fine known) state.whens)
      unfolding choice.whens
      whens scope known = first_tests known >>= (λ list. when_held L known scope [] list >>= (λ first.
          hence (λ last h w t. h (w t refl)) (loop {P = λ (state : Whens). Full (branch_fine known) state.whens} (whens_turn scope known))))

      evaluate_stmt : (scope : Scope) → Gives IsNumbered (choice.evaluate_stmt parts level scope) (λ found. Named counts found.0)
      unfolding choice.evaluate_stmt
      evaluate_stmt scope = evaluate_head L.law.enter >>= (λ found. whens scope found.1 >>= evaluated L found.1 scope found.0)

      choice_stmt : (scope : Scope) → Gives IsNumbered (choice.choice_stmt parts level scope) (λ found. Named counts found.0)
      unfolding choice.choice_stmt
      choice_stmt scope = where_next (if_stmt scope) (evaluate_stmt scope)

      perform_stmt : (scope : Scope) → Gives IsNumbered (loops.perform_stmt parts level scope) (λ found. Named counts found.0)
      unfolding loops.perform_stmt
      perform_stmt scope = perform_head L.law.enter >>= perform_by L scope

      holding_stmt : (scope : Scope) → Gives IsNumbered (forms.holding_stmt parts level scope) (λ found. Named counts found.0)
      unfolding forms.holding_stmt
      holding_stmt scope = where_next (arithmetic_stmt scope) (where_next (choice_stmt scope) (perform_stmt scope))

      held_stmts : (scope : Scope) (before : List Stmt) → Gives IsNumbered (forms.held_stmts parts level scope before) (λ found. stmts_named counts before ≡ true → Stmts found.0)
      unfolding forms.held_stmts
      held_stmts scope before = where_next (read_stmt scope before) (holding_stmt scope >>= (λ found. pure (λ h b. full-added (stmt_named counts) before found.0 b h)))

      stmt : (scope : Scope) (before : List Stmt) → Gives IsNumbered (forms.stmt parts level scope before) (λ found. stmts_named counts before ≡ true → Stmts found.0)
      unfolding forms.stmt
      stmt scope before = where_next (simple.simple_stmts counts P scope before >>= (λ found. pure (λ h. h))) (held_stmts scope before)

      pub stmts_turn : (scope : Scope) (found : Found) → Gives IsNumbered (forms.stmts_turn parts level scope found) (λ last. Stmts found.0 → Stmts last.0)
      unfolding forms.stmts_turn
      stmts_turn scope found = chosen found.1 refuse (hence (λ last h w. h w.1) (stmt scope found.0))

      pub stmts_with : (scope : Scope) → Gives IsNumbered (forms.stmts_with parts level scope) (λ found. Stmts found.0)
      unfolding forms.stmts_with
      stmts_with scope = stmt scope [] >>= (λ before. hence (λ last h b. h (b refl)) (loop {P = λ (found : Found). Stmts found.0} (stmts_turn scope)))

    held : (levels : ℕ) (scope : Scope) → Gives IsNumbered (forms.held parts levels scope) (λ found. Stmts found.0)
    unfolding forms.held
    held zero scope = refuse
    held (suc n) scope = stmts_with (record { law = law.level lawful n; stmts = held n }) scope

    pub level : (levels : ℕ) → LevelGives (forms.level parts levels)
    level levels = record { law = law.level lawful levels; stmts = held levels }
