-- PERFORM (ISO 1989:1985, the PERFORM statement).
use Rattle.std.specs.Prelude.{ℕ, Bool, true, false, ◌||◌, codes, List}
use Rattle.cob_base.specs.Bytes.{left_parenthesis}
use Rattle.cobol_lex.specs.declared.token.TokenKind.{TokenKind}
use Rattle.cob_tree.specs.declared.control.Control.{Control}
use Rattle.cob_tree.specs.declared.control.Control.TheVariants as controls
use Rattle.cob_tree.specs.declared.place.Place.{Place}
use Rattle.cob_tree.specs.declared.stmt.Stmt.{Stmt}
use Rattle.cob_tree.specs.declared.stmt.Stmt.TheVariants as stmts
use Rattle.parser_combinators.specs.declared.note.Position.{Position}
use Rattle.parser_combinators.specs.declared.why.Why.TheVariants.{Syntax}
use Rattle.parser_combinators.specs.Form.{Form, pure, refuse, note, ◌>>=◌, ◌>>◌, chosen, where_next}
use Rattle.parser_combinators.specs.Part.{key, maybe, word, digits, is_key, is_mark}
use Rattle.cobol_grammar.specs.declared.stmt_forms.head.PerformHead.{PerformHead}
use Rattle.cobol_grammar.specs.declared.stmt_forms.head.PerformHead.TheVariants as heads
use Rattle.cobol_grammar.specs.declared.stmt_forms.scope.Scope.{Scope}
use Rattle.cobol_grammar.specs.stmt_forms.Part.{Parts}
use Rattle.cobol_grammar.specs.stmt_forms.Arithmetic.{number_operand}
use Rattle.cobol_grammar.specs.stmt_forms.Jump.{is_digits, procedure, procedure_named}
use Rattle.cobol_grammar.specs.stmt_forms.Arms.{Level, Found, FoundOne}
use Rattle.cobol_grammar.specs.stmt_forms.Choice.{begins_thru, thru}

-- how often, and whether a NOT was read after it that isn't its own
abbrev pub Controlled : Type 0
Controlled = Control × Bool

-- ---- [[WITH] TEST (BEFORE | AFTER)] [VARYING ref FROM operand BY operand] UNTIL cond

-- WITH or TEST
abbrev pub begins_testing : TokenKind → Bool
begins_testing kind = is_key (codes "WITH") kind || is_key (codes "TEST") kind

-- a word with which UNTIL or VARYING with its test begins
unfoldable pub begins_until : TokenKind → Bool
begins_until kind =
    begins_testing kind || (is_key (codes "VARYING") kind || is_key (codes "UNTIL") kind)

-- BEFORE or AFTER: whether the test comes after
unfoldable pub after_word : Form Bool
after_word =
    where_next (is_key (codes "BEFORE")) (key (codes "BEFORE") >> pure false)
    (key (codes "AFTER") >> pure true)

-- whether the test comes after: [WITH] TEST (BEFORE | AFTER)
unfoldable pub test_words : Form Bool
test_words = do
  maybe (codes "WITH")
  key (codes "TEST")
  after_word

-- whether the test comes after; it comes before where nothing says so
unfoldable pub test_part : Form Bool
test_part = where_next begins_testing test_words (pure false)

-- UNTIL and its condition
unfoldable pub until_cond : {Side Known : Type 0} → Parts Side Known → Bool → Form Controlled
until_cond parts after = do
  key (codes "UNTIL")
  cond ← parts.cond
  pure (controls.Until after cond.0, cond.1)

-- the item that VARYING varies
unfoldable pub varied : {Side Known : Type 0} → Parts Side Known → Form Place
varied parts = do
  side ← parts.reference
  note (parts.number_fault side)
  pure (parts.place_of side)

-- VARYING up to its condition: VARYING ref FROM operand BY operand UNTIL cond
unfoldable pub varying_cond : {Side Known : Type 0} → Parts Side Known → Bool → Form Controlled
varying_cond parts after = do
  key (codes "VARYING")
  item ← varied parts
  key (codes "FROM")
  from ← number_operand parts
  key (codes "BY")
  by ← number_operand parts
  key (codes "UNTIL")
  cond ← parts.cond
  pure (controls.Varying after item from by cond.0, cond.1)

-- a control with UNTIL: [[WITH] TEST (BEFORE | AFTER)] [VARYING ref FROM operand BY operand] UNTIL
-- cond
unfoldable pub until_control : {Side Known : Type 0} → Parts Side Known → Form Controlled
until_control parts = do
  after ← test_part
  where_next (is_key (codes "VARYING")) (varying_cond parts after) (until_cond parts after)

-- ---- operand TIMES

-- TIMES after its operand
unfoldable pub times_behind : {Side Known : Type 0} → (parts : Parts Side Known) →
    Side → Form Control
times_behind parts side = do
  note (parts.whole_fault side)
  key (codes "TIMES")
  pure (controls.Times (parts.operand_of side))

-- a control with TIMES: operand TIMES
unfoldable pub times_control : {Side Known : Type 0} → Parts Side Known → Form Control
times_control parts = parts.operand >>= times_behind parts

-- ---- the head of PERFORM ctl stmt+ END-PERFORM

-- the head of an inline PERFORM, where no NOT is left over
unfoldable pub inline : Controlled → Form PerformHead
inline control = chosen control.1 (refuse Syntax) (pure (heads.Inline control.0))

-- the head of an inline PERFORM with UNTIL or VARYING
unfoldable pub until_head : {Side Known : Type 0} → Parts Side Known → (enter : Form (Unit {0})) →
    Form PerformHead
until_head parts enter = do
  enter
  control ← until_control parts
  inline control

-- TIMES, after its operand in the head of an inline PERFORM
unfoldable pub times_head : {Side Known : Type 0} → (parts : Parts Side Known) → Side →
    Form PerformHead
times_head parts side = times_behind parts side >>= (λ control. pure (heads.Inline control))

-- the head of an inline PERFORM by an item, after its first word
unfoldable pub item_head : {Side Known : Type 0} → Parts Side Known → (enter : Form (Unit {0})) →
    List ℕ → Position → Form PerformHead
item_head parts enter name position = do
  enter
  side ← parts.reference_behind name position
  times_head parts side

-- TIMES, after digits in the head of an inline PERFORM
unfoldable pub digits_head : {Side Known : Type 0} → Parts Side Known → (enter : Form (Unit {0})) →
    List ℕ → Position → Form PerformHead
digits_head parts enter digits position =
    enter >> times_head parts (parts.digits_side digits position)

-- operand TIMES in the head of an inline PERFORM
unfoldable pub operand_head : {Side Known : Type 0} → Parts Side Known →
    (enter : Form (Unit {0})) → Form PerformHead
operand_head parts enter = do
  enter
  side ← parts.operand
  times_head parts side

-- ---- PERFORM pname [THRU pname] [ctl]

-- the exit of a range: [THRU pname]
unfoldable pub exit_of : {Side Known : Type 0} → Parts Side Known → ℕ → Form ℕ
exit_of parts exit =
    where_next begins_thru (thru >> (procedure parts >>= (λ last. pure last.1))) (pure exit)

-- a control with TIMES, or once
unfoldable pub times_or_once : {Side Known : Type 0} → Parts Side Known → Form Controlled
times_or_once parts =
    where_next parts.begins_operand (times_control parts >>= (λ control. pure (control, false)))
    (pure (controls.Once, false))

-- how often a range is performed; once where nothing says so
unfoldable pub control_part : {Side Known : Type 0} → Parts Side Known → Form Controlled
control_part parts = where_next begins_until (until_control parts) (times_or_once parts)

-- what follows the first name of a PERFORM: [THRU pname] [ctl]
unfoldable pub perform_named : {Side Known : Type 0} → Parts Side Known → List ℕ → Position →
    Form PerformHead
perform_named parts name position = do
  first ← procedure_named parts name position
  exit ← exit_of parts first.1
  control ← control_part parts
  pure (heads.Whole (stmts.Perform first.0 exit control.0) control.1)

-- ---- PERFORM: a name may be that of an item or of a paragraph

-- a token that after a name makes it an item
unfoldable pub continues_item : TokenKind → Bool
continues_item kind =
    is_key (codes "TIMES") kind
    || (is_key (codes "OF") kind || (is_key (codes "IN") kind || is_mark left_parenthesis kind))

-- PERFORM and a name, which may be that of an item or of a paragraph
unfoldable pub perform_name : {Side Known : Type 0} → Parts Side Known →
    (enter : Form (Unit {0})) → Form PerformHead
perform_name parts enter = do
  name ← word
  where_next continues_item (item_head parts enter name.0 name.1)
      (perform_named parts name.0 name.1)

-- PERFORM and digits, which may be a number or the name of a paragraph
unfoldable pub perform_digits : {Side Known : Type 0} → Parts Side Known →
    (enter : Form (Unit {0})) → Form PerformHead
perform_digits parts enter = do
  found ← digits
  where_next (is_key (codes "TIMES")) (digits_head parts enter found.0 found.1)
      (perform_named parts found.0 found.1)

-- PERFORM of a name without a letter, which is that of a paragraph
unfoldable pub perform_word : {Side Known : Type 0} → Parts Side Known → Form PerformHead
perform_word parts = word >>= (λ name. perform_named parts name.0 name.1)

-- PERFORM, and what is neither a name of an item nor digits
unfoldable pub perform_operand : {Side Known : Type 0} → Parts Side Known →
    (enter : Form (Unit {0})) → Form PerformHead
perform_operand parts enter =
    where_next parts.is_procedure_word (perform_word parts)
    (where_next parts.begins_operand (operand_head parts enter) (refuse Syntax))

-- PERFORM, and what isn't the name of an item
unfoldable pub perform_other : {Side Known : Type 0} → Parts Side Known →
    (enter : Form (Unit {0})) → Form PerformHead
perform_other parts enter =
    where_next is_digits (perform_digits parts enter) (perform_operand parts enter)

-- what follows PERFORM, up to the statements of an inline one
unfoldable pub perform_behind : {Side Known : Type 0} → Parts Side Known →
    (enter : Form (Unit {0})) → Form PerformHead
perform_behind parts enter =
    where_next begins_until (until_head parts enter)
    (where_next parts.is_name (perform_name parts enter) (perform_other parts enter))

-- PERFORM up to the statements of an inline one
unfoldable pub perform_head : {Side Known : Type 0} → Parts Side Known →
    (enter : Form (Unit {0})) → Form PerformHead
perform_head parts enter = key (codes "PERFORM") >> perform_behind parts enter

-- ---- stmt+ END-PERFORM

-- within a loop
abbrev pub looped : Scope → Scope
looped scope = record scope { in_loop = true }

-- END-PERFORM
unfoldable pub loop_closed : Control → List Stmt → Form FoundOne
loop_closed control body = key (codes "END-PERFORM") >> pure (stmts.Loop control body, false)

-- END-PERFORM, where no NOT is left over
unfoldable pub loop_end : Control → Found → Form FoundOne
loop_end control held = chosen held.1 (refuse Syntax) (loop_closed control held.0)

-- the statements of an inline PERFORM: stmt {stmt} END-PERFORM
unfoldable pub loop_body : Level → Scope → Control → Form FoundOne
loop_body level scope control = level.stmts (looped scope) >>= loop_end control

-- a whole PERFORM, or the statements of an inline one after its head
unfoldable pub perform_by : Level → Scope → PerformHead → Form FoundOne
perform_by level scope (heads.Whole stmt pending_not) = pure (stmt, pending_not)
perform_by level scope (heads.Inline control) = loop_body level scope control

-- the PERFORM statement: PERFORM pname [THRU pname] [ctl] | PERFORM ctl stmt {stmt} END-PERFORM
unfoldable pub perform_stmt : {Side Known : Type 0} → Parts Side Known →
    Level → Scope → Form FoundOne
perform_stmt parts level scope = perform_head parts level.enter >>= perform_by level scope
