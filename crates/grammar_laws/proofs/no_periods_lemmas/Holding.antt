-- Statements take no period.
use Rattle.std.proofs.Common.{ℕ, zero, suc, Bool, ◌||◌, List, [], Option, Some, None}
use Rattle.std.specs.Prelude.{codes}
use Rattle.cob_tree.specs.declared.choice.Subject.{Subject}
use Rattle.cob_tree.specs.declared.cond.Cond.{Cond}
use Rattle.cob_tree.specs.declared.stmt.Stmt.{Stmt}
use Rattle.cob_tree.specs.declared.stmt.When.{When}
use Rattle.parser_combinators.specs.declared.note.Position.{Position}
use Rattle.grammar_laws.proofs.no_periods_lemmas.Makers.{pure, refuse, note, key, word, digits, chosen, where_next, loop, added, maybe, ◌>>=◌, ◌>>◌}
use Rattle.cob_tree.specs.declared.choice.Test.{Test}
use Rattle.parser_combinators.specs.Form.{Form}
use Rattle.cobol_grammar.specs.declared.stmt_forms.head.NotPhrase.{NotPhrase}
use Rattle.cobol_grammar.specs.declared.stmt_forms.head.NotPhrase.TheVariants as nots
use Rattle.cobol_grammar.specs.declared.stmt_forms.head.PerformHead.{PerformHead}
use Rattle.cobol_grammar.specs.declared.stmt_forms.head.PerformHead.TheVariants as heads
use Rattle.cobol_grammar.specs.declared.stmt_forms.head.ReadHead.{ReadHead}
use Rattle.cobol_grammar.specs.declared.stmt_forms.head.ReadHead.TheVariants as reads
use Rattle.cobol_grammar.specs.declared.stmt_forms.phrase.Phrase.{Phrase}
use Rattle.cobol_grammar.specs.declared.stmt_forms.phrase.Phrase.TheVariants as phrases
use Rattle.cobol_grammar.specs.declared.stmt_forms.scope.Scope.{Scope}
use Rattle.cobol_grammar.specs.declared.stmt_forms.whens.Whens.{Whens}
use Rattle.cobol_grammar.specs.stmt_forms.Part.{Parts}
use Rattle.grammar_laws.proofs.no_periods_lemmas.Parts.{PartsArePlain}
use Rattle.cobol_grammar.specs.stmt_forms.Arms.{Level, Found}
use Rattle.cobol_grammar.specs.stmt_forms.Arms as arms
use Rattle.cobol_grammar.specs.stmt_forms.Choice as choice
use Rattle.cobol_grammar.specs.stmt_forms.Loop as loops
use Rattle.cobol_grammar.specs.stmt_forms.Stmt as all
use Rattle.grammar_laws.proofs.no_periods_lemmas.Simple as simple
use Rattle.grammar_laws.specs.no_periods.Plain.{Plain}

pub record LevelIsLawful (level : Level) : Type 0 where
  pub enter : Plain level.enter
  pub stmts : (scope : Scope) → Plain (level.stmts scope)

-- ---- words

pub phrase_words : (phrase : Phrase) → Plain (arms.phrase_words phrase)
unfolding arms.phrase_words arms.end_words arms.size_words
phrase_words phrases.End = maybe (codes "AT") >> (key (codes "END") >> pure)
phrase_words phrases.Size = maybe (codes "ON") >> (key (codes "SIZE") >> (key (codes "ERROR") >> pure))

pub end_word : (w : List ℕ) (pending_not : Bool) → Plain (arms.end_word w pending_not)
unfolding arms.end_word
end_word w pending_not = chosen pending_not pure (maybe w)

pub thru : Plain choice.thru
unfolding choice.thru
thru = where_next (key (codes "THRU") >> pure) (key (codes "THROUGH") >> pure)

pub negation : Plain choice.negation
unfolding choice.negation
negation = where_next (key (codes "NOT") >> pure) pure

pub settled : (found : Cond × Bool) → Plain (choice.settled found)
unfolding choice.settled
settled found = chosen found.1 refuse pure

pub test_part : Plain loops.test_part
unfolding loops.test_part loops.test_words loops.after_word
test_part = where_next (maybe (codes "WITH") >> (key (codes "TEST") >> where_next (key (codes "BEFORE") >> pure) (key (codes "AFTER") >> pure))) pure

-- ---- heads

module _ {enter : Form (Unit {0})} (E : Plain enter) where
  pub entering_words : (phrase : Phrase) → Plain (arms.entering_words phrase enter)
  unfolding arms.entering_words
  entering_words phrase = E >> phrase_words phrase

  pub first_phrase : (phrase : Phrase) → Plain (arms.first_phrase phrase enter)
  unfolding arms.first_phrase
  first_phrase phrase = where_next (entering_words phrase >> pure) pure

  pub behind_not : (phrase : Phrase) (has_first : Bool) → Plain (arms.behind_not phrase enter has_first)
  unfolding arms.behind_not arms.own_words
  behind_not phrase has_first = where_next (chosen has_first (phrase_words phrase) (entering_words phrase) >> pure) pure

  pub not_phrase : (phrase : Phrase) (has_first pending_not : Bool) → Plain (arms.not_phrase phrase enter has_first pending_not)
  unfolding arms.not_phrase arms.not_or_none
  not_phrase phrase has_first pending_not = chosen pending_not (behind_not phrase has_first) (where_next (key (codes "NOT") >> behind_not phrase has_first) pure)

-- ---- what is held

module _ {level : Level} (L : LevelIsLawful level) where
  pub held_arm : (scope : Scope) → Plain (arms.held_arm level scope)
  unfolding arms.held_arm
  held_arm scope = L.stmts scope >>= (λ found. pure)

  pub first_arm : (scope : Scope) (present : Bool) → Plain (arms.first_arm level scope present)
  unfolding arms.first_arm
  first_arm scope present = chosen present (held_arm scope) pure

  pub second_arm : (scope : Scope) (found : NotPhrase) → Plain (arms.second_arm level scope found)
  unfolding arms.second_arm
  second_arm scope nots.Missing = pure
  second_arm scope nots.Own = (held_arm scope)
  second_arm scope nots.Foreign = pure

  pub both_arms : (phrase : Phrase) (scope : Scope) → Plain (arms.arms phrase level scope)
  unfolding arms.arms arms.second_behind
  both_arms phrase scope = first_phrase L.enter phrase >>= (λ present. first_arm scope present >>= (λ first. not_phrase L.enter phrase _ first.1 >>= (λ following. second_arm scope following >>= (λ second. pure))))

  pub read_by : (scope : Scope) (before : List Stmt) (head : ReadHead) → Plain (arms.read_by level scope before head)
  unfolding arms.read_by arms.read_arms
  read_by scope before (reads.WithSentence file) = pure
  read_by scope before (reads.Open file into) = both_arms phrases.End scope >>= (λ found. end_word (codes "END-READ") found.1 >> pure)

  pub else_part : (scope : Scope) → Plain (choice.else_part level scope)
  unfolding choice.else_part
  else_part scope = where_next (key (codes "ELSE") >> L.stmts scope) pure

  pub if_behind : (scope : Scope) (cond : Cond) (first : Found) → Plain (choice.if_behind level scope cond first)
  unfolding choice.if_behind choice.if_ended
  if_behind scope cond first = chosen first.1 pure (else_part scope >>= (λ second. end_word (codes "END-IF") second.1 >> pure))

  pub when_held : (scope : Scope) (before : List When) (tests : List Test) → Plain (choice.when_held level scope before tests)
  unfolding choice.when_held
  when_held scope before tests = L.stmts scope >>= (λ held. pure)

  pub whens_by : (scope : Scope) (before : List When) (head : Option (List Test)) → Plain (choice.whens_by level scope before head)
  unfolding choice.whens_by
  whens_by scope before None = pure
  whens_by scope before (Some tests) = (when_held scope before tests)

  pub evaluated : (scope : Scope) (subject : Subject) (state : Whens) → Plain (choice.evaluated level scope subject state)
  unfolding choice.evaluated choice.other_part
  evaluated scope subject state = chosen state.other (held_arm scope) pure >>= (λ other. end_word (codes "END-EVALUATE") other.1 >> pure)

  pub perform_by : (scope : Scope) (head : PerformHead) → Plain (loops.perform_by level scope head)
  unfolding loops.perform_by loops.loop_body loops.loop_end loops.loop_closed
  perform_by scope (heads.Whole stmt pending_not) = pure
  perform_by scope (heads.Inline control) = (L.stmts (loops.looped scope) >>= (λ held. chosen held.1 refuse (key (codes "END-PERFORM") >> pure)))

module _ {Side Known : Type 0} {parts : Parts Side Known} (P : PartsArePlain parts) where
  -- ---- conditions and values

  pub test_cond : Plain (choice.test_cond parts)
  unfolding choice.test_cond
  test_cond = P.cond >>= settled

  pub subject : Plain (choice.subject parts)
  unfolding choice.subject choice.truth_subject choice.value_subject
  subject =
      where_next (where_next (key (codes "TRUE") >> pure) (key (codes "FALSE") >> pure))
      (P.expr >>= (λ side. note >> pure))

  pub compared : (known : Known) → Plain (choice.compared parts known)
  unfolding choice.compared
  compared known = P.expr >>= (λ side. note >> (note >> pure))

  pub last_part : (known : Known) → Plain (choice.last_part parts known)
  unfolding choice.last_part choice.last_value
  last_part known = where_next (thru >> (compared known >>= (λ last. pure))) pure

  pub value_test : (known : Known) → Plain (choice.value_test parts known)
  unfolding choice.value_test
  value_test known = negation >>= (λ not. compared known >>= (λ from. last_part known >>= (λ to. pure)))

  pub test_by : (known : Option Known) → Plain (choice.test_by parts known)
  unfolding choice.test_by choice.cond_test
  test_by None = test_cond >>= (λ cond. pure)
  test_by (Some known) = value_test known

  pub one_test : (known : Option Known) → Plain (choice.one_test parts known)
  unfolding choice.one_test choice.any_test
  one_test known = where_next (key (codes "ANY") >> pure) (test_by known)

  pub next_test : (known : Option Known) → Plain (choice.next_test parts known)
  unfolding choice.next_test
  next_test known = key (codes "WHEN") >> one_test known

  pub all_tests : (known : Option Known) → Plain (choice.all_tests parts known)
  unfolding choice.all_tests
  all_tests known = one_test known >>= (λ first. loop (λ front. added front (next_test known)))

  pub first_tests : (known : Option Known) → Plain (choice.first_tests parts known)
  unfolding choice.first_tests
  first_tests known = key (codes "WHEN") >> all_tests known

  pub when_head : (known : Option Known) → Plain (choice.when_head parts known)
  unfolding choice.when_head choice.other_words
  when_head known = key (codes "WHEN") >> where_next (key (codes "OTHER") >> pure) (all_tests known >>= (λ tests. pure))

  -- ---- control

  pub until_cond : (after : Bool) → Plain (loops.until_cond parts after)
  unfolding loops.until_cond
  until_cond after = key (codes "UNTIL") >> (P.cond >>= (λ cond. pure))

  pub varied : Plain (loops.varied parts)
  unfolding loops.varied
  varied = P.reference >>= (λ side. note >> pure)

  pub varying_cond : (after : Bool) → Plain (loops.varying_cond parts after)
  unfolding loops.varying_cond
  varying_cond after = do
    key (codes "VARYING")
    item ← varied
    key (codes "FROM")
    from ← simple.number_operand P
    key (codes "BY")
    by ← simple.number_operand P
    key (codes "UNTIL")
    cond ← P.cond
    pure

  pub until_control : Plain (loops.until_control parts)
  unfolding loops.until_control
  until_control = test_part >>= (λ after. where_next (varying_cond after) (until_cond after))

  pub times_behind : (side : Side) → Plain (loops.times_behind parts side)
  unfolding loops.times_behind
  times_behind side = note >> (key (codes "TIMES") >> pure)

  pub times_control : Plain (loops.times_control parts)
  unfolding loops.times_control
  times_control = P.operand >>= times_behind

  pub control_part : Plain (loops.control_part parts)
  unfolding loops.control_part loops.times_or_once
  control_part = where_next until_control (where_next (times_control >>= (λ control. pure)) pure)

  pub exit_of : (exit : ℕ) → Plain (loops.exit_of parts exit)
  unfolding loops.exit_of
  exit_of exit = where_next (thru >> (simple.procedure P >>= (λ last. pure))) pure

  pub perform_named : (name : List ℕ) (position : Position) → Plain (loops.perform_named parts name position)
  unfolding loops.perform_named
  perform_named name position = simple.procedure_named P name position >>= (λ first. exit_of first.1 >>= (λ exit. control_part >>= (λ control. pure)))

  pub perform_word : Plain (loops.perform_word parts)
  unfolding loops.perform_word
  perform_word = word >>= (λ name. perform_named name.0 name.1)

  -- ---- arithmetic and READ

  pub arithmetic_work : Plain (arms.arithmetic_work parts)
  unfolding arms.arithmetic_work arms.adding_work arms.multiplying_work arms.computing_work
  arithmetic_work =
      where_next (where_next (simple.add P >>= (λ work. pure)) (simple.subtract P >>= (λ work. pure)))
      (where_next (where_next (simple.multiply P >>= (λ work. pure)) (simple.divide P >>= (λ work. pure))) (simple.compute P >>= (λ work. pure)))

  pub read_open : (file : Option ℕ) → Plain (arms.read_open parts file)
  unfolding arms.read_open
  read_open file = simple.into_part P file >>= (λ into. pure)

  pub read_head : Plain (arms.read_head parts)
  unfolding arms.read_head arms.read_next arms.read_sentence
  read_head = simple.read_file P >>= (λ file. where_next (key (codes "NEXT") >> where_next (key (codes "SENTENCE") >> pure) (read_open file)) (read_open file))

  -- ---- heads that enter a level

  module _ {enter : Form (Unit {0})} (E : Plain enter) where
    pub if_head : Plain (choice.if_head parts enter)
    unfolding choice.if_head
    if_head = E >> (key (codes "IF") >> (test_cond >>= (λ cond. maybe (codes "THEN") >> pure)))

    pub evaluate_head : Plain (choice.evaluate_head parts enter)
    unfolding choice.evaluate_head
    evaluate_head = E >> (key (codes "EVALUATE") >> subject)

    pub until_head : Plain (loops.until_head parts enter)
    unfolding loops.until_head loops.inline
    until_head = E >> (until_control >>= (λ control. chosen control.1 refuse pure))

    pub times_head : (side : Side) → Plain (loops.times_head parts side)
    unfolding loops.times_head
    times_head side = times_behind side >>= (λ control. pure)

    pub item_head : (name : List ℕ) (position : Position) → Plain (loops.item_head parts enter name position)
    unfolding loops.item_head
    item_head name position = E >> (P.reference_behind name position >>= times_head)

    pub digits_head : (found : List ℕ) (position : Position) → Plain (loops.digits_head parts enter found position)
    unfolding loops.digits_head
    digits_head found position = E >> times_head _

    pub operand_head : Plain (loops.operand_head parts enter)
    unfolding loops.operand_head
    operand_head = E >> (P.operand >>= times_head)

    pub perform_name : Plain (loops.perform_name parts enter)
    unfolding loops.perform_name
    perform_name = word >>= (λ name. where_next (item_head name.0 name.1) (perform_named name.0 name.1))

    pub perform_digits : Plain (loops.perform_digits parts enter)
    unfolding loops.perform_digits
    perform_digits = digits >>= (λ found. where_next (digits_head found.0 found.1) (perform_named found.0 found.1))

    pub perform_other : Plain (loops.perform_other parts enter)
    unfolding loops.perform_other loops.perform_operand
    perform_other = where_next perform_digits (where_next perform_word (where_next operand_head refuse))

    pub perform_head : Plain (loops.perform_head parts enter)
    unfolding loops.perform_head loops.perform_behind
    perform_head = key (codes "PERFORM") >> where_next until_head (where_next perform_name perform_other)

  -- ---- statements, over those that are held

  module _ {level : Level} (L : LevelIsLawful level) where
    pub arithmetic_stmt : (scope : Scope) → Plain (arms.arithmetic_stmt parts level scope)
    unfolding arms.arithmetic_stmt arms.end_work
    arithmetic_stmt scope = arithmetic_work >>= (λ worked. both_arms L phrases.Size scope >>= (λ found. end_word _ found.1 >> pure))

    pub read_stmt : (scope : Scope) (before : List Stmt) → Plain (arms.read_stmt parts level scope before)
    unfolding arms.read_stmt
    read_stmt scope before = read_head >>= read_by L scope before

    pub if_stmt : (scope : Scope) → Plain (choice.if_stmt parts level scope)
    unfolding choice.if_stmt
    if_stmt scope = if_head L.enter >>= (λ cond. L.stmts scope >>= if_behind L scope cond)

    pub when_next : (scope : Scope) (known : Option Known) (before : List When) → Plain (choice.when_next parts level scope known before)
    unfolding choice.when_next
    when_next scope known before = when_head known >>= whens_by L scope before

    pub whens_turn : (scope : Scope) (known : Option Known) (state : Whens) → Plain (choice.whens_turn parts level scope known state)
    unfolding choice.whens_turn
    whens_turn scope known state = chosen (state.other || state.pending_not) refuse (when_next scope known state.whens)

    pub whens : (scope : Scope) (known : Option Known) → Plain (choice.whens parts level scope known)
    unfolding choice.whens
    whens scope known = first_tests known >>= (λ tests. when_held L scope [] tests >>= (λ first. loop (whens_turn scope known)))

    pub evaluate_stmt : (scope : Scope) → Plain (choice.evaluate_stmt parts level scope)
    unfolding choice.evaluate_stmt
    evaluate_stmt scope = evaluate_head L.enter >>= (λ found. whens scope found.1 >>= evaluated L scope found.0)

    pub choice_stmt : (scope : Scope) → Plain (choice.choice_stmt parts level scope)
    unfolding choice.choice_stmt
    choice_stmt scope = where_next (if_stmt scope) (evaluate_stmt scope)

    pub perform_stmt : (scope : Scope) → Plain (loops.perform_stmt parts level scope)
    unfolding loops.perform_stmt
    perform_stmt scope = perform_head L.enter >>= perform_by L scope

    pub holding_stmt : (scope : Scope) → Plain (all.holding_stmt parts level scope)
    unfolding all.holding_stmt
    holding_stmt scope = where_next (arithmetic_stmt scope) (where_next (choice_stmt scope) (perform_stmt scope))

    pub held_stmts : (scope : Scope) (before : List Stmt) → Plain (all.held_stmts parts level scope before)
    unfolding all.held_stmts
    held_stmts scope before = where_next (read_stmt scope before) (holding_stmt scope >>= (λ found. pure))

    pub stmt : (scope : Scope) (before : List Stmt) → Plain (all.stmt parts level scope before)
    unfolding all.stmt
    stmt scope before = where_next (simple.simple_stmts P scope before >>= (λ found. pure)) (held_stmts scope before)

    pub stmts_turn : (scope : Scope) (found : Found) → Plain (all.stmts_turn parts level scope found)
    unfolding all.stmts_turn
    stmts_turn scope found = chosen found.1 refuse (stmt scope found.0)

    pub stmts_with : (scope : Scope) → Plain (all.stmts_with parts level scope)
    unfolding all.stmts_with
    stmts_with scope = stmt scope [] >>= (λ before. loop (stmts_turn scope))

  pub enter : (levels : ℕ) → Plain (all.enter_level levels)
  unfolding all.enter_level
  enter zero = refuse
  enter (suc n) = pure

  pub held : (levels : ℕ) (scope : Scope) → Plain (all.held parts levels scope)
  unfolding all.held
  held zero scope = refuse
  held (suc n) scope = stmts_with (record { enter = enter n; stmts = held n }) scope

  pub level : (levels : ℕ) → LevelIsLawful (all.level parts levels)
  level levels = record { enter = enter levels; stmts = held levels }

  pub stmts : (levels : ℕ) (scope : Scope) → Plain (all.stmts parts levels scope)
  stmts levels scope = stmts_with (level levels) scope
