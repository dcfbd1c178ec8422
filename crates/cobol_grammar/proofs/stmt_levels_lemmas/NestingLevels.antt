-- More levels only add to what statements read, written as the statements are.
use Rattle.std.proofs.Common.{ℕ, zero, suc, ◌≤◌, Bool, true, false, ◌||◌, List, [], Option, Some, None, arith}
use Rattle.std.specs.Prelude.{codes}
use Rattle.cob_tree.specs.declared.choice.Subject.{Subject}
use Rattle.cob_tree.specs.declared.choice.Test.{Test}
use Rattle.cob_tree.specs.declared.cond.Cond.{Cond}
use Rattle.cob_tree.specs.declared.control.Control.{Control}
use Rattle.cob_tree.specs.declared.stmt.Stmt.{Stmt}
use Rattle.cob_tree.specs.declared.stmt.When.{When}
use Rattle.parser_combinators.specs.declared.note.Position.{Position}
use Rattle.parser_combinators.specs.declared.why.Why.TheVariants.{Nesting}
use Rattle.parser_combinators.specs.Form.{Form}
use Rattle.parser_combinators.specs.Reading.{count_of}
use Rattle.parser_combinators.proofs.MakerLaws.{pure, refuse, key, word, digits, maybe}
use Rattle.parser_combinators.proofs.MakerLaws as maker
use Rattle.parser_combinators.proofs.Deeper.{Deepens, same, where_next, chosen, loop, refused, ◌>>=◌, ◌>>◌}
use Rattle.cobol_grammar.specs.declared.stmt_forms.head.NotPhrase.{NotPhrase}
use Rattle.cobol_grammar.specs.declared.stmt_forms.head.NotPhrase.TheVariants as nots
use Rattle.cobol_grammar.specs.declared.stmt_forms.head.PerformHead.{PerformHead}
use Rattle.cobol_grammar.specs.declared.stmt_forms.head.PerformHead.TheVariants as heads
use Rattle.cobol_grammar.specs.declared.stmt_forms.head.ReadHead.{ReadHead}
use Rattle.cobol_grammar.specs.declared.stmt_forms.head.ReadHead.TheVariants as reads
use Rattle.cobol_grammar.specs.declared.stmt_forms.phrase.Phrase.{Phrase}
use Rattle.cobol_grammar.specs.declared.stmt_forms.phrase.Phrase.TheVariants as phrases
use Rattle.cobol_grammar.specs.declared.stmt_forms.scope.Scope.{Scope}
use Rattle.cobol_grammar.specs.declared.stmt_forms.whens.Whens.{Whens}
use Rattle.cobol_grammar.specs.stmt_forms.Part.{Parts}
use Rattle.cobol_grammar.specs.stmt_forms.Laws.{PartsAreLawful}
use Rattle.cobol_grammar.specs.stmt_forms.Arms.{Level, Found}
use Rattle.cobol_grammar.specs.stmt_forms.Arms as arms
use Rattle.cobol_grammar.specs.stmt_forms.Choice as choice
use Rattle.cobol_grammar.specs.stmt_forms.Loop as loops
use Rattle.cobol_grammar.specs.stmt_forms.Stmt as all
use Rattle.cobol_grammar.proofs.stmt_forms_lemmas.SimpleLaws as simple
use Rattle.cobol_grammar.proofs.stmt_forms_lemmas.HoldingLaws as laws

-- the second form has as many levels as the first or more
abbrev Adds : {A : Type 0} (takes : Bool) (f g : Form A) → Type 0
Adds takes f g = Deepens (count_of Nesting) takes f g

record LevelAdds (f g : Level) : Type 0 where
  enter : Adds false f.enter g.enter
  stmts : (scope : Scope) → Adds true (f.stmts scope) (g.stmts scope)

loose : {A : Type 0} {f g : Form A} → Adds true f g → Adds false f g
loose D = record { goes = D.goes; law = maker.loose D.law }

-- ---- heads

module _ {e f : Form (Unit {0})} (E : Adds false e f) where
  entering_words : (phrase : Phrase) → Adds true (arms.entering_words phrase e) (arms.entering_words phrase f)
  unfolding arms.entering_words
  entering_words phrase = E >> same (laws.phrase_words phrase)

  first_phrase : (phrase : Phrase) → Adds false (arms.first_phrase phrase e) (arms.first_phrase phrase f)
  unfolding arms.first_phrase
  first_phrase phrase = where_next (loose (entering_words phrase >> same pure)) (same pure)

  behind_not : (phrase : Phrase) (has_first : Bool) → Adds false (arms.behind_not phrase e has_first) (arms.behind_not phrase f has_first)
  unfolding arms.behind_not arms.own_words
  behind_not phrase has_first = where_next (loose (chosen has_first (same (laws.phrase_words phrase)) (entering_words phrase) >> same pure)) (same pure)

  not_phrase : (phrase : Phrase) (has_first pending_not : Bool) → Adds false (arms.not_phrase phrase e has_first pending_not) (arms.not_phrase phrase f has_first pending_not)
  unfolding arms.not_phrase arms.not_or_none
  not_phrase phrase has_first pending_not = chosen pending_not (behind_not phrase has_first) (where_next (loose (same (key (codes "NOT")) >> behind_not phrase has_first)) (same pure))

-- ---- what is held

module _ {k l : Level} (L : LevelAdds k l) where
  held_arm : (scope : Scope) → Adds true (arms.held_arm k scope) (arms.held_arm l scope)
  unfolding arms.held_arm
  held_arm scope = L.stmts scope >>= (λ found. same pure)

  first_arm : (scope : Scope) (present : Bool) → Adds false (arms.first_arm k scope present) (arms.first_arm l scope present)
  unfolding arms.first_arm
  first_arm scope present = chosen present (loose (held_arm scope)) (same pure)

  second_arm : (scope : Scope) (found : NotPhrase) → Adds false (arms.second_arm k scope found) (arms.second_arm l scope found)
  unfolding arms.second_arm
  second_arm scope nots.Missing = same pure
  second_arm scope nots.Own = loose (held_arm scope)
  second_arm scope nots.Foreign = same pure

  both_arms : (phrase : Phrase) (scope : Scope) → Adds false (arms.arms phrase k scope) (arms.arms phrase l scope)
  unfolding arms.arms arms.second_behind
  both_arms phrase scope = first_phrase L.enter phrase >>= (λ present. first_arm scope present >>= (λ first. not_phrase L.enter phrase _ first.1 >>= (λ following. second_arm scope following >>= (λ second. same pure))))

  read_by : (scope : Scope) (before : List Stmt) (head : ReadHead) → Adds false (arms.read_by k scope before head) (arms.read_by l scope before head)
  unfolding arms.read_by arms.read_arms
  read_by scope before (reads.WithSentence file) = same pure
  read_by scope before (reads.Open file into) = both_arms phrases.End scope >>= (λ found. same (laws.end_word (codes "END-READ") found.1) >> same pure)

  else_part : (scope : Scope) → Adds false (choice.else_part k scope) (choice.else_part l scope)
  unfolding choice.else_part
  else_part scope = where_next (loose (same (key (codes "ELSE")) >> L.stmts scope)) (same pure)

  if_behind : (scope : Scope) (cond : Cond) (first : Found) → Adds false (choice.if_behind k scope cond first) (choice.if_behind l scope cond first)
  unfolding choice.if_behind choice.if_ended
  if_behind scope cond first = chosen first.1 (same pure) (else_part scope >>= (λ second. same (laws.end_word (codes "END-IF") second.1) >> same pure))

  when_held : (scope : Scope) (before : List When) (tests : List Test) → Adds true (choice.when_held k scope before tests) (choice.when_held l scope before tests)
  unfolding choice.when_held
  when_held scope before tests = L.stmts scope >>= (λ held. same pure)

  whens_by : (scope : Scope) (before : List When) (head : Option (List Test)) → Adds false (choice.whens_by k scope before head) (choice.whens_by l scope before head)
  unfolding choice.whens_by
  whens_by scope before None = same pure
  whens_by scope before (Some tests) = loose (when_held scope before tests)

  evaluated : (scope : Scope) (subject : Subject) (state : Whens) → Adds false (choice.evaluated k scope subject state) (choice.evaluated l scope subject state)
  unfolding choice.evaluated choice.other_part
  evaluated scope subject state = chosen state.other (loose (held_arm scope)) (same pure) >>= (λ other. same (laws.end_word (codes "END-EVALUATE") other.1) >> same pure)

  loop_end : (control : Control) (held : Found) → Adds false (loops.loop_end control held) (loops.loop_end control held)
  unfolding loops.loop_end loops.loop_closed
  loop_end control held = chosen held.1 (same refuse) (loose (same (key (codes "END-PERFORM")) >> same pure))

  perform_by : (scope : Scope) (head : PerformHead) → Adds false (loops.perform_by k scope head) (loops.perform_by l scope head)
  unfolding loops.perform_by loops.loop_body
  perform_by scope (heads.Whole stmt pending_not) = same pure
  perform_by scope (heads.Inline control) = loose (L.stmts (loops.looped scope) >>= (λ held. loop_end control held))

module _ {Side Known : Type 0} {parts : Parts Side Known} (P : PartsAreLawful parts) where
  -- ---- heads that enter a level

  module _ {e f : Form (Unit {0})} (E : Adds false e f) where
    if_head : Adds true (choice.if_head parts e) (choice.if_head parts f)
    unfolding choice.if_head
    if_head = E >> (same (key (codes "IF")) >> (same (laws.test_cond P) >>= (λ cond. same (maybe (codes "THEN")) >> same pure)))

    evaluate_head : Adds true (choice.evaluate_head parts e) (choice.evaluate_head parts f)
    unfolding choice.evaluate_head
    evaluate_head = E >> (same (key (codes "EVALUATE")) >> same (laws.subject P))

    until_head : Adds true (loops.until_head parts e) (loops.until_head parts f)
    unfolding loops.until_head loops.inline
    until_head = E >> (same (laws.until_control P) >>= (λ control. chosen control.1 (same refuse) (same pure)))

    times_head : (side : Side) → Adds true (loops.times_head parts side) (loops.times_head parts side)
    unfolding loops.times_head
    times_head side = same (laws.times_behind P side) >>= (λ control. same pure)

    item_head : (name : List ℕ) (position : Position) → Adds true (loops.item_head parts e name position) (loops.item_head parts f name position)
    unfolding loops.item_head
    item_head name position = E >> (same (P.reference_behind name position) >>= times_head)

    digits_head : (found : List ℕ) (position : Position) → Adds true (loops.digits_head parts e found position) (loops.digits_head parts f found position)
    unfolding loops.digits_head
    digits_head found position = E >> times_head _

    operand_head : Adds true (loops.operand_head parts e) (loops.operand_head parts f)
    unfolding loops.operand_head
    operand_head = E >> (same P.operand >>= times_head)

    perform_name : Adds true (loops.perform_name parts e) (loops.perform_name parts f)
    unfolding loops.perform_name
    perform_name = same word >>= (λ name. where_next (loose (item_head name.0 name.1)) (same (laws.perform_named P name.0 name.1)))

    perform_digits : Adds true (loops.perform_digits parts e) (loops.perform_digits parts f)
    unfolding loops.perform_digits
    perform_digits = same digits >>= (λ found. where_next (loose (digits_head found.0 found.1)) (same (laws.perform_named P found.0 found.1)))

    perform_other : Adds true (loops.perform_other parts e) (loops.perform_other parts f)
    unfolding loops.perform_other loops.perform_operand
    perform_other = where_next perform_digits (where_next (same (laws.perform_word P)) (where_next operand_head (same refuse)))

    perform_head : Adds true (loops.perform_head parts e) (loops.perform_head parts f)
    unfolding loops.perform_head loops.perform_behind
    perform_head = same (key (codes "PERFORM")) >> where_next until_head (where_next perform_name perform_other)

  -- ---- statements, over those that are held

  module _ {k l : Level} (L : LevelAdds k l) where
    arithmetic_stmt : (scope : Scope) → Adds true (arms.arithmetic_stmt parts k scope) (arms.arithmetic_stmt parts l scope)
    unfolding arms.arithmetic_stmt arms.end_work
    arithmetic_stmt scope = same (laws.arithmetic_work P) >>= (λ worked. both_arms L phrases.Size scope >>= (λ found. same (laws.end_word _ found.1) >> same pure))

    read_stmt : (scope : Scope) (before : List Stmt) → Adds true (arms.read_stmt parts k scope before) (arms.read_stmt parts l scope before)
    unfolding arms.read_stmt
    read_stmt scope before = same (laws.read_head P) >>= read_by L scope before

    if_stmt : (scope : Scope) → Adds true (choice.if_stmt parts k scope) (choice.if_stmt parts l scope)
    unfolding choice.if_stmt
    if_stmt scope = if_head L.enter >>= (λ cond. L.stmts scope >>= if_behind L scope cond)

    when_next : (scope : Scope) (known : Option Known) (before : List When) → Adds true (choice.when_next parts k scope known before) (choice.when_next parts l scope known before)
    unfolding choice.when_next
    when_next scope known before = same (laws.when_head P known) >>= whens_by L scope before

    whens_turn : (scope : Scope) (known : Option Known) (state : Whens) → Adds true (choice.whens_turn parts k scope known state) (choice.whens_turn parts l scope known state)
    unfolding choice.whens_turn
    whens_turn scope known state = chosen (state.other || state.pending_not) (same refuse) (when_next scope known state.whens)

    whens : (scope : Scope) (known : Option Known) → Adds true (choice.whens parts k scope known) (choice.whens parts l scope known)
    unfolding choice.whens
    whens scope known = same (laws.first_tests P known) >>= (λ tests. when_held L scope [] tests >>= (λ first. loop (whens_turn scope known)))

    evaluate_stmt : (scope : Scope) → Adds true (choice.evaluate_stmt parts k scope) (choice.evaluate_stmt parts l scope)
    unfolding choice.evaluate_stmt
    evaluate_stmt scope = evaluate_head L.enter >>= (λ found. whens scope found.1 >>= evaluated L scope found.0)

    choice_stmt : (scope : Scope) → Adds true (choice.choice_stmt parts k scope) (choice.choice_stmt parts l scope)
    unfolding choice.choice_stmt
    choice_stmt scope = where_next (if_stmt scope) (evaluate_stmt scope)

    perform_stmt : (scope : Scope) → Adds true (loops.perform_stmt parts k scope) (loops.perform_stmt parts l scope)
    unfolding loops.perform_stmt
    perform_stmt scope = perform_head L.enter >>= perform_by L scope

    holding_stmt : (scope : Scope) → Adds true (all.holding_stmt parts k scope) (all.holding_stmt parts l scope)
    unfolding all.holding_stmt
    holding_stmt scope = where_next (arithmetic_stmt scope) (where_next (choice_stmt scope) (perform_stmt scope))

    held_stmts : (scope : Scope) (before : List Stmt) → Adds true (all.held_stmts parts k scope before) (all.held_stmts parts l scope before)
    unfolding all.held_stmts
    held_stmts scope before = where_next (read_stmt scope before) (holding_stmt scope >>= (λ found. same pure))

    stmt : (scope : Scope) (before : List Stmt) → Adds true (all.stmt parts k scope before) (all.stmt parts l scope before)
    unfolding all.stmt
    stmt scope before = where_next (same (simple.simple_stmts P scope before) >>= (λ found. same pure)) (held_stmts scope before)

    stmts_turn : (scope : Scope) (found : Found) → Adds true (all.stmts_turn parts k scope found) (all.stmts_turn parts l scope found)
    unfolding all.stmts_turn
    stmts_turn scope found = chosen found.1 (same refuse) (stmt scope found.0)

    stmts_with : (scope : Scope) → Adds true (all.stmts_with parts k scope) (all.stmts_with parts l scope)
    unfolding all.stmts_with
    stmts_with scope = stmt scope [] >>= (λ before. loop (stmts_turn scope))

  enter : (m n : ℕ) → m ≤ n → Adds false (all.enter_level m) (all.enter_level n)
  unfolding all.enter_level
  enter zero zero h = same refuse
  enter zero (suc n) h = refused Nesting pure
  enter (suc m) zero h = absurd (omega (arith, h))
  enter (suc m) (suc n) h = same pure

  held : (m n : ℕ) → m ≤ n → (scope : Scope) → Adds true (all.held parts m scope) (all.held parts n scope)
  unfolding all.held
  held zero zero h scope = same refuse
  held zero (suc n) h scope = refused Nesting (laws.stmts_with P (laws.level P n) scope)
  held (suc m) zero h scope = absurd (omega (arith, h))
  held (suc m) (suc n) h scope = stmts_with (record { enter = enter m n (omega (arith, h)); stmts = held m n (omega (arith, h)) }) scope

  pub stmts : (m n : ℕ) → m ≤ n → (scope : Scope) → Adds true (all.stmts parts m scope) (all.stmts parts n scope)
  stmts m n h scope = stmts_with (record { enter = enter m n h; stmts = held m n h }) scope
