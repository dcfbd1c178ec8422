-- What statements that hold others give, where what they hold can be printed.
use Rattle.std.proofs.Common.{◌≡◌, ℕ, zero, suc, Bool, true, false, ◌||◌, List, [], ◌++◌, map, Option, Some, None, refl}
use Rattle.std.specs.Prelude.{codes}
use Rattle.cob_tree.specs.declared.choice.Subject.{Subject}
use Rattle.cob_tree.specs.declared.choice.Test.{Test}
use Rattle.cob_tree.specs.declared.cond.Cond.{Cond}
use Rattle.cob_tree.specs.declared.control.Control.{Control}
use Rattle.cob_tree.specs.declared.stmt.Stmt.{Stmt}
use Rattle.cob_tree.specs.declared.stmt.When.{When}
use Rattle.parser_combinators.specs.declared.note.Position.{Position}
use Rattle.parser_combinators.specs.Form.{Form}
use Rattle.parser_combinators.proofs.MakerLaws as laws
use Rattle.parser_combinators.proofs.MakerLaws.{Law}
use Rattle.cobol_grammar.specs.declared.stmt_forms.head.NotPhrase.{NotPhrase}
use Rattle.cobol_grammar.specs.declared.stmt_forms.head.NotPhrase.TheVariants as nots
use Rattle.cobol_grammar.specs.declared.stmt_forms.head.PerformHead.{PerformHead}
use Rattle.cobol_grammar.specs.declared.stmt_forms.head.PerformHead.TheVariants as heads
use Rattle.cobol_grammar.specs.declared.stmt_forms.head.ReadHead.{ReadHead}
use Rattle.cobol_grammar.specs.declared.stmt_forms.head.ReadHead.TheVariants as reads
use Rattle.cobol_grammar.specs.declared.stmt_forms.phrase.Phrase.{Phrase}
use Rattle.cobol_grammar.specs.declared.stmt_forms.phrase.Phrase.TheVariants as phrases
use Rattle.cobol_grammar.specs.declared.stmt_forms.scope.Scope.{Scope}
use Rattle.cobol_grammar.specs.declared.stmt_forms.whens.Whens.{Whens as Evaluated}
use Rattle.cobol_grammar.specs.stmt_forms.Part.{Parts}
use Rattle.cobol_grammar.specs.stmt_forms.Laws.{PartsAreLawful}
use Rattle.cobol_grammar.specs.stmt_forms.Arms.{Level, Found, Arm}
use Rattle.cobol_grammar.specs.stmt_forms.Arms as arms
use Rattle.cobol_grammar.specs.stmt_forms.Choice as choice
use Rattle.cobol_grammar.specs.stmt_forms.File as file
use Rattle.cobol_grammar.specs.stmt_forms.Loop as loops
use Rattle.cobol_grammar.specs.stmt_forms.Loop.{Controlled}
use Rattle.cobol_grammar.specs.stmt_forms.Stmt as forms
use Rattle.cobol_grammar.proofs.stmt_forms_lemmas.HoldingLaws as law
use Rattle.cobol_grammar.proofs.stmt_forms_lemmas.SimpleLaws as simple_law
use Rattle.cobol_grammar.proofs.stmt_forms_lemmas.HoldingLaws.{LevelIsLawful}
use Rattle.control_flow_theory.specs.language.All.{all}
use Rattle.program_facts.specs.well_scoped.Part.{if_any}
use Rattle.program_facts.proofs.well_scoped_lemmas.Made.{both, all-added}
use Rattle.grammar_laws.specs.form_results.Giving.{Gives}
use Rattle.grammar_laws.proofs.form_results_lemmas.Giving.{Full, full-added, full-one, any, hence, still, pure, refuse, note, key, maybe, chosen, where_next, loop, items, ◌>>=◌, ◌>>◌}
use Rattle.round_trip.specs.printable.printable_tokens.Printable.{IsPrintable}
use Rattle.round_trip.specs.printable.Part.{is_printable_place, is_printable_operand, is_printable_expr}
use Rattle.round_trip.specs.printable.Beside.{is_printable_cond, is_printable_control, is_printable_subject, is_printable_test}
use Rattle.round_trip.specs.printable.Statement.{is_printable_stmt, are_printable_arms, is_printable_when, are_printable_stmts}
use Rattle.round_trip.proofs.printable_lemmas.Made as made
use Rattle.round_trip.proofs.printable_lemmas.printable_exprs_lemmas.Words.{digits}
use Rattle.round_trip.specs.printable.printable_stmts.Printable.{PartsPrint}
use Rattle.round_trip.proofs.printable_lemmas.printable_stmts_lemmas.Simple as simple
use Rattle.round_trip.proofs.printable_lemmas.printable_stmts_lemmas.Simple.{Fine, WorkFine}

-- ---- what is held

abbrev pub Stmts : List Stmt → Type 0
Stmts list = Full is_printable_stmt list

abbrev Tests : List Test → Type 0
Tests list = all (map is_printable_test list) ≡ true

abbrev Whens : List When → Type 0
Whens list = all (map is_printable_when list) ≡ true

abbrev TestsFine : Option (List Test) → Type 0
TestsFine None = Unit {0}
TestsFine (Some list) = Tests list

pub record LevelGives (level : Level) : Type 0 where
  pub law : LevelIsLawful level
  pub stmts : (scope : Scope) → Gives IsPrintable (level.stmts scope) (λ found. Stmts found.0)

abbrev ArmFine : Option (List Stmt) → Type 0
ArmFine arm = if_any are_printable_stmts arm ≡ true

abbrev ReadFine : ReadHead → Type 0
ReadFine (reads.WithSentence file) = Unit {0}
ReadFine (reads.Open file into) = if_any is_printable_place into ≡ true

abbrev Turning : Control → Type 0
Turning control = is_printable_control control ≡ true

abbrev PerformFine : PerformHead → Type 0
PerformFine (heads.Whole stmt pending_not) = is_printable_stmt stmt ≡ true
PerformFine (heads.Inline control) = Turning control

module _ {level : Level} (L : LevelGives level) where
  held_arm : (scope : Scope) → Gives IsPrintable (arms.held_arm level scope) (λ arm. ArmFine arm.0)
  unfolding arms.held_arm
  held_arm scope = L.stmts scope >>= (λ found. pure (λ h. h.1))

  first_arm : (scope : Scope) (present : Bool) → Gives IsPrintable (arms.first_arm level scope present) (λ arm. ArmFine arm.0)
  unfolding arms.first_arm
  first_arm scope present = chosen present (held_arm scope) (pure refl)

  second_arm : (scope : Scope) (found : NotPhrase) → Gives IsPrintable (arms.second_arm level scope found) (λ arm. ArmFine arm.0)
  unfolding arms.second_arm
  second_arm scope nots.Missing = pure refl
  second_arm scope nots.Own = held_arm scope
  second_arm scope nots.Foreign = pure refl

  both_arms : (phrase : Phrase) (scope : Scope) → Gives IsPrintable (arms.arms phrase level scope) (λ found. are_printable_arms found.0 ≡ true)
  unfolding arms.arms arms.second_behind
  both_arms phrase scope =
      any (law.first_phrase L.law.enter phrase) >>= (λ present. first_arm scope present >>= (λ first.
      any (law.not_phrase L.law.enter phrase (file.is_some first.0) first.1) >>= (λ following. second_arm scope following >>= (λ second.
      pure (λ s _ f _. made.made-Arms first.0 second.0 f s)))))

  read_by : (scope : Scope) (before : List Stmt) (head : ReadHead) → Gives IsPrintable (arms.read_by level scope before head)
      (λ found. ReadFine head → are_printable_stmts before ≡ true → Stmts found.0)
  unfolding arms.read_by arms.read_arms
  read_by scope before (reads.WithSentence file) =
      pure (λ h b. full-added is_printable_stmt (before ++ _) _ (all-added is_printable_stmt before _ b (made.made-Read file None arms.no_arms refl (made.made-Arms None None refl refl))) made.made-NextSentence)
  read_by scope before (reads.Open file into) =
      both_arms phrases.End scope >>= (λ found. any (law.end_word (codes "END-READ") found.1) >>
      pure (λ _ a h b. full-added is_printable_stmt before _ b (made.made-Read file into found.0 h a)))

  else_part : (scope : Scope) → Gives IsPrintable (choice.else_part level scope) (λ found. are_printable_stmts found.0 ≡ true)
  unfolding choice.else_part
  else_part scope = where_next (key (codes "ELSE") >> hence (λ found h _. h.1) (L.stmts scope)) (pure refl)

  if_behind : (scope : Scope) (cond : Cond) (first : Found) → Gives IsPrintable (choice.if_behind level scope cond first)
      (λ found. Stmts first.0 → is_printable_cond cond ≡ true → Fine found.0)
  unfolding choice.if_behind choice.if_ended
  if_behind scope cond first =
      chosen first.1 (pure (λ f c. made.made-If cond first.0 [] c f.1 refl))
      (else_part scope >>= (λ second. any (law.end_word (codes "END-IF") second.1) >>
      pure (λ _ s f c. made.made-If cond first.0 second.0 c f.1 s)))

  when_held : (scope : Scope) (before : List When) (list : List Test) → Gives IsPrintable (choice.when_held level scope before list)
      (λ state. Tests list → Whens before → Whens state.whens)
  unfolding choice.when_held
  when_held scope before list =
      L.stmts scope >>= (λ held. pure (λ h t b. all-added is_printable_when before (choice.when_of list held.0) b (made.made-When list held.0 t h.1)))

  whens_by : (scope : Scope) (before : List When) (head : Option (List Test)) → Gives IsPrintable (choice.whens_by level scope before head)
      (λ state. TestsFine head → Whens before → Whens state.whens)
  unfolding choice.whens_by
  whens_by scope before None = pure (λ _ b. b)
  whens_by scope before (Some list) = when_held scope before list

  evaluated : (scope : Scope) (subject : Subject) (state : Evaluated) → Gives IsPrintable (choice.evaluated level scope subject state)
      (λ found. Whens state.whens → is_printable_subject subject ≡ true → Fine found.0)
  unfolding choice.evaluated choice.other_part
  evaluated scope subject state =
      chosen state.other {P = λ (arm : Arm). ArmFine arm.0} (held_arm scope) (pure refl) >>= (λ other. any (law.end_word (codes "END-EVALUATE") other.1) >>
      pure (λ _ o w s. made.made-Evaluate subject state.whens other.0 s w o))

  perform_by : (scope : Scope) (head : PerformHead) → Gives IsPrintable (loops.perform_by level scope head) (λ found. PerformFine head → Fine found.0)
  unfolding loops.perform_by loops.loop_body loops.loop_end loops.loop_closed
  perform_by scope (heads.Whole stmt pending_not) = pure (λ h. h)
  perform_by scope (heads.Inline control) =
      L.stmts (loops.looped scope) >>= (λ held. chosen held.1 refuse (key (codes "END-PERFORM") >>
      pure (λ _ b c. made.made-Loop control held.0 c b.1)))

module _ {Side Known : Type 0} {parts : Parts Side Known} (lawful : PartsAreLawful parts) (P : PartsPrint parts) where
  -- ---- conditions and values

  settled : (found : Cond × Bool) → Gives IsPrintable (choice.settled found) (λ cond. is_printable_cond found.0 ≡ true → is_printable_cond cond ≡ true)
  unfolding choice.settled
  settled found = chosen found.1 refuse (pure (λ h. h))

  test_cond : Gives IsPrintable (choice.test_cond parts) (λ cond. is_printable_cond cond ≡ true)
  unfolding choice.test_cond
  test_cond = P.cond >>= settled

  abbrev SubjectFine : Subject × Option Known → Type 0
  SubjectFine found = is_printable_subject found.0 ≡ true

  subject : Gives IsPrintable (choice.subject parts) SubjectFine
  unfolding choice.subject choice.truth_subject choice.value_subject
  subject =
      where_next (where_next (key (codes "TRUE") >> pure (λ _. refl)) (key (codes "FALSE") >> pure (λ _. refl)))
      (P.expr >>= (λ side. note >> pure (λ _ e. e)))

  compared : (known : Known) → Gives IsPrintable (choice.compared parts known) (λ expr. is_printable_expr expr ≡ true)
  unfolding choice.compared
  compared known = P.expr >>= (λ side. note >> (note >> pure (λ _ _ e. e)))

  last_part : (known : Known) → Gives IsPrintable (choice.last_part parts known) (λ last. if_any is_printable_expr last ≡ true)
  unfolding choice.last_part choice.last_value
  last_part known = where_next (any law.thru >> (compared known >>= (λ last. pure (λ e _. e)))) (pure refl)

  value_test : (known : Known) → Gives IsPrintable (choice.value_test parts known) (λ test. is_printable_test test ≡ true)
  unfolding choice.value_test
  value_test known = any law.negation >>= (λ not. compared known >>= (λ from. last_part known >>= (λ to. pure (λ t f _. both f t))))

  test_by : (known : Option Known) → Gives IsPrintable (choice.test_by parts known) (λ test. is_printable_test test ≡ true)
  unfolding choice.test_by choice.cond_test
  test_by None = test_cond >>= (λ cond. pure (λ c. c))
  test_by (Some known) = value_test known

  one_test : (known : Option Known) → Gives IsPrintable (choice.one_test parts known) (λ test. is_printable_test test ≡ true)
  unfolding choice.one_test choice.any_test
  one_test known = where_next (key (codes "ANY") >> pure (λ _. refl)) (test_by known)

  next_test : (known : Option Known) → Gives IsPrintable (choice.next_test parts known) (λ test. is_printable_test test ≡ true)
  unfolding choice.next_test
  next_test known = key (codes "WHEN") >> still (one_test known)

  all_tests : (known : Option Known) → Gives IsPrintable (choice.all_tests parts known) (Full is_printable_test)
  unfolding choice.all_tests
  all_tests known = one_test known >>= (λ first. hence (λ list h f. h (full-one is_printable_test first f)) (items is_printable_test (next_test known)))

  first_tests : (known : Option Known) → Gives IsPrintable (choice.first_tests parts known) (Full is_printable_test)
  unfolding choice.first_tests
  first_tests known = key (codes "WHEN") >> still (all_tests known)

  when_head : (known : Option Known) → Gives IsPrintable (choice.when_head parts known) TestsFine
  unfolding choice.when_head choice.other_words
  when_head known = key (codes "WHEN") >> where_next (key (codes "OTHER") >> pure (λ _ _. tt)) (all_tests known >>= (λ list. pure (λ t _. t.1)))

  -- ---- control

  abbrev Turned : Controlled → Type 0
  Turned control = Turning control.0

  until_cond : (after : Bool) → Gives IsPrintable (loops.until_cond parts after) Turned
  unfolding loops.until_cond
  until_cond after = key (codes "UNTIL") >> (P.cond >>= (λ cond. pure (λ c _. c)))

  varied : Gives IsPrintable (loops.varied parts) (λ place. is_printable_place place ≡ true)
  unfolding loops.varied
  varied = P.reference >>= (λ side. note >> pure (λ _ r. r.0))

  varying_cond : (after : Bool) → Gives IsPrintable (loops.varying_cond parts after) Turned
  unfolding loops.varying_cond
  varying_cond after = do
    key (codes "VARYING")
    item ← varied
    key (codes "FROM")
    from ← simple.number_operand lawful P
    key (codes "BY")
    by ← simple.number_operand lawful P
    key (codes "UNTIL")
    cond ← P.cond
    pure (λ c _ b _ f _ i _. both (both (both i f) b) c)

  until_control : Gives IsPrintable (loops.until_control parts) Turned
  unfolding loops.until_control
  until_control = any law.test_part >>= (λ after. where_next (still (varying_cond after)) (still (until_cond after)))

  times_behind : (side : Side) → Gives IsPrintable (loops.times_behind parts side) (λ control. is_printable_operand (parts.operand_of side) ≡ true → Turning control)
  unfolding loops.times_behind
  times_behind side = note >> (key (codes "TIMES") >> pure (λ _ _ o. o))

  times_control : Gives IsPrintable (loops.times_control parts) Turning
  unfolding loops.times_control
  times_control = P.operand >>= times_behind

  control_part : Gives IsPrintable (loops.control_part parts) (λ control. is_printable_control control.0 ≡ true)
  unfolding loops.control_part loops.times_or_once
  control_part = where_next until_control (where_next (times_control >>= (λ control. pure (λ h. h))) (pure refl))

  perform_named : (name : List ℕ) (position : Position) → Gives IsPrintable (loops.perform_named parts name position) PerformFine
  unfolding loops.perform_named
  perform_named name position =
      any (simple_law.procedure_named lawful name position) >>= (λ first. any (law.exit_of lawful first.1) >>= (λ exit. control_part >>= (λ control.
      pure (λ c _ _. made.made-Perform first.0 exit control.0 c))))

  perform_word : Gives IsPrintable (loops.perform_word parts) PerformFine
  unfolding loops.perform_word
  perform_word = any laws.word >>= (λ name. still (perform_named name.0 name.1))

  -- ---- arithmetic and READ

  arithmetic_work : Gives IsPrintable (arms.arithmetic_work parts) (λ worked. WorkFine worked.1)
  unfolding arms.arithmetic_work arms.adding_work arms.multiplying_work arms.computing_work
  arithmetic_work =
      where_next (where_next (simple.add lawful P >>= (λ work. pure (λ h. h))) (simple.subtract lawful P >>= (λ work. pure (λ h. h))))
      (where_next (where_next (simple.multiply lawful P >>= (λ work. pure (λ h. h))) (simple.divide lawful P >>= (λ work. pure (λ h. h)))) (simple.compute lawful P >>= (λ work. pure (λ h. h))))

  read_open : (found : Option ℕ) → Gives IsPrintable (arms.read_open parts found) ReadFine
  unfolding arms.read_open
  read_open found = simple.into_part lawful P found >>= (λ into. pure (λ i. i))

  read_head : Gives IsPrintable (arms.read_head parts) ReadFine
  unfolding arms.read_head arms.read_next arms.read_sentence
  read_head = any (simple_law.read_file lawful) >>= (λ found.
      where_next (key (codes "NEXT") >> where_next (key (codes "SENTENCE") >> pure (λ _ _ _. tt)) (still (still (read_open found)))) (still (read_open found)))

  -- ---- heads that enter a level

  module _ {enter : Form (Unit {0})} (E : Law false enter) where
    if_head : Gives IsPrintable (choice.if_head parts enter) (λ cond. is_printable_cond cond ≡ true)
    unfolding choice.if_head
    if_head = any E >> (key (codes "IF") >> (test_cond >>= (λ cond. maybe (codes "THEN") >> pure (λ _ c _ _. c))))

    evaluate_head : Gives IsPrintable (choice.evaluate_head parts enter) SubjectFine
    unfolding choice.evaluate_head
    evaluate_head = any E >> (key (codes "EVALUATE") >> still (still subject))

    until_head : Gives IsPrintable (loops.until_head parts enter) PerformFine
    unfolding loops.until_head loops.inline
    until_head = any E >> (until_control >>= (λ control. chosen control.1 refuse (pure (λ c _. c))))

    times_head : (side : Side) → Gives IsPrintable (loops.times_head parts side) (λ head. is_printable_operand (parts.operand_of side) ≡ true → PerformFine head)
    unfolding loops.times_head
    times_head side = times_behind side >>= (λ control. pure (λ h o. h o))

    item_head : (name : List ℕ) (position : Position) → Gives IsPrintable (loops.item_head parts enter name position) PerformFine
    unfolding loops.item_head
    item_head name position = any E >> (P.reference_behind name position >>= (λ side. hence (λ head h o _. h o) (times_head side)))

    digits_head : (found : List ℕ) (position : Position) → Gives IsPrintable (loops.digits_head parts enter found position)
        (λ head. is_printable_operand (parts.operand_of (parts.digits_side found position)) ≡ true → PerformFine head)
    unfolding loops.digits_head
    digits_head found position = any E >> hence (λ head h _ o. h o) (times_head (parts.digits_side found position))

    operand_head : Gives IsPrintable (loops.operand_head parts enter) PerformFine
    unfolding loops.operand_head
    operand_head = any E >> (P.operand >>= (λ side. hence (λ head h o _. h o) (times_head side)))

    perform_name : Gives IsPrintable (loops.perform_name parts enter) PerformFine
    unfolding loops.perform_name
    perform_name = any laws.word >>= (λ name. where_next (still (item_head name.0 name.1)) (still (perform_named name.0 name.1)))

    perform_digits : Gives IsPrintable (loops.perform_digits parts enter) PerformFine
    unfolding loops.perform_digits
    perform_digits = digits >>= (λ found. where_next (hence (λ head h d. h (P.digits_side found.0 found.1 d)) (digits_head found.0 found.1)) (still (perform_named found.0 found.1)))

    perform_other : Gives IsPrintable (loops.perform_other parts enter) PerformFine
    unfolding loops.perform_other loops.perform_operand
    perform_other = where_next perform_digits (where_next perform_word (where_next operand_head refuse))

    perform_head : Gives IsPrintable (loops.perform_head parts enter) PerformFine
    unfolding loops.perform_head loops.perform_behind
    perform_head = key (codes "PERFORM") >> still (where_next until_head (where_next perform_name perform_other))

  -- ---- statements, over those that are held

  module _ {level : Level} (L : LevelGives level) where
    arithmetic_stmt : (scope : Scope) → Gives IsPrintable (arms.arithmetic_stmt parts level scope) (λ found. Fine found.0)
    unfolding arms.arithmetic_stmt arms.end_work
    arithmetic_stmt scope = arithmetic_work >>= (λ worked. both_arms L phrases.Size scope >>= (λ found. any (law.end_word (arms.end_of worked.0) found.1) >>
        pure (λ _ a w. made.made-Arith worked.1.0 worked.1.1 found.0 w.0 w.1.1 a)))

    read_stmt : (scope : Scope) (before : List Stmt) → Gives IsPrintable (arms.read_stmt parts level scope before) (λ found. are_printable_stmts before ≡ true → Stmts found.0)
    unfolding arms.read_stmt
    read_stmt scope before = read_head >>= read_by L scope before

    if_stmt : (scope : Scope) → Gives IsPrintable (choice.if_stmt parts level scope) (λ found. Fine found.0)
    unfolding choice.if_stmt
    if_stmt scope = if_head L.law.enter >>= (λ cond. L.stmts scope >>= if_behind L scope cond)

    when_next : (scope : Scope) (known : Option Known) (before : List When) → Gives IsPrintable (choice.when_next parts level scope known before)
        (λ state. Whens before → Whens state.whens)
    unfolding choice.when_next
    when_next scope known before = when_head known >>= (λ head. whens_by L scope before head)

    whens_turn : (scope : Scope) (known : Option Known) (state : Evaluated) → Gives IsPrintable (choice.whens_turn parts level scope known state)
        (λ last. Whens state.whens → Whens last.whens)
    unfolding choice.whens_turn
    whens_turn scope known state = chosen (state.other || state.pending_not) refuse (when_next scope known state.whens)

    whens : (scope : Scope) (known : Option Known) → Gives IsPrintable (choice.whens parts level scope known) (λ state. Whens state.whens)
    unfolding choice.whens
    whens scope known = first_tests known >>= (λ list. when_held L scope [] list >>= (λ first.
        hence (λ last h w t. h (w t.1 refl)) (loop {P = λ (state : Evaluated). Whens state.whens} (whens_turn scope known))))

    evaluate_stmt : (scope : Scope) → Gives IsPrintable (choice.evaluate_stmt parts level scope) (λ found. Fine found.0)
    unfolding choice.evaluate_stmt
    evaluate_stmt scope = evaluate_head L.law.enter >>= (λ found. whens scope found.1 >>= evaluated L scope found.0)

    choice_stmt : (scope : Scope) → Gives IsPrintable (choice.choice_stmt parts level scope) (λ found. Fine found.0)
    unfolding choice.choice_stmt
    choice_stmt scope = where_next (if_stmt scope) (evaluate_stmt scope)

    perform_stmt : (scope : Scope) → Gives IsPrintable (loops.perform_stmt parts level scope) (λ found. Fine found.0)
    unfolding loops.perform_stmt
    perform_stmt scope = perform_head L.law.enter >>= perform_by L scope

    holding_stmt : (scope : Scope) → Gives IsPrintable (forms.holding_stmt parts level scope) (λ found. Fine found.0)
    unfolding forms.holding_stmt
    holding_stmt scope = where_next (arithmetic_stmt scope) (where_next (choice_stmt scope) (perform_stmt scope))

    held_stmts : (scope : Scope) (before : List Stmt) → Gives IsPrintable (forms.held_stmts parts level scope before) (λ found. are_printable_stmts before ≡ true → Stmts found.0)
    unfolding forms.held_stmts
    held_stmts scope before = where_next (read_stmt scope before) (holding_stmt scope >>= (λ found. pure (λ h b. full-added is_printable_stmt before found.0 b h)))

    stmt : (scope : Scope) (before : List Stmt) → Gives IsPrintable (forms.stmt parts level scope before) (λ found. are_printable_stmts before ≡ true → Stmts found.0)
    unfolding forms.stmt
    stmt scope before = where_next (simple.simple_stmts lawful P scope before >>= (λ found. pure (λ h. h))) (held_stmts scope before)

    pub stmts_turn : (scope : Scope) (found : Found) → Gives IsPrintable (forms.stmts_turn parts level scope found) (λ last. Stmts found.0 → Stmts last.0)
    unfolding forms.stmts_turn
    stmts_turn scope found = chosen found.1 refuse (hence (λ last h w. h w.1) (stmt scope found.0))

    pub stmts_with : (scope : Scope) → Gives IsPrintable (forms.stmts_with parts level scope) (λ found. Stmts found.0)
    unfolding forms.stmts_with
    stmts_with scope = stmt scope [] >>= (λ before. hence (λ last h b. h (b refl)) (loop {P = λ (found : Found). Stmts found.0} (stmts_turn scope)))

  held : (levels : ℕ) (scope : Scope) → Gives IsPrintable (forms.held parts levels scope) (λ found. Stmts found.0)
  unfolding forms.held
  held zero scope = refuse
  held (suc n) scope = stmts_with (record { law = law.level lawful n; stmts = held n }) scope

  pub level : (levels : ℕ) → LevelGives (forms.level parts levels)
  level levels = record { law = law.level lawful levels; stmts = held levels }
