-- IF and EVALUATE (ISO 1989:1985, the IF and EVALUATE statements).
use Rattle.std.specs.Prelude.{Bool, true, false, ◌||◌, codes, List, [], ◌∷◌, ◌++◌, Option, Some, None}
use Rattle.cobol_lex.specs.declared.token.TokenKind.{TokenKind}
use Rattle.cob_tree.specs.declared.choice.Subject.{Subject}
use Rattle.cob_tree.specs.declared.choice.Subject.TheVariants as subjects
use Rattle.cob_tree.specs.declared.choice.Test.{Test}
use Rattle.cob_tree.specs.declared.choice.Test.TheVariants as tests
use Rattle.cob_tree.specs.declared.cond.Cond.{Cond}
use Rattle.cob_tree.specs.declared.place.Expr.{Expr}
use Rattle.cob_tree.specs.declared.stmt.Stmt.{Stmt}
use Rattle.cob_tree.specs.declared.stmt.Stmt.TheVariants as stmts
use Rattle.cob_tree.specs.declared.stmt.When.{When, roll-When}
use Rattle.parser_combinators.specs.declared.why.Why.TheVariants.{Syntax}
use Rattle.parser_combinators.specs.Form.{Form, pure, refuse, note, ◌>>=◌, ◌>>◌, loop, chosen, where_next, added}
use Rattle.parser_combinators.specs.Part.{key, maybe, is_key}
use Rattle.cobol_grammar.specs.declared.stmt_forms.scope.Scope.{Scope}
use Rattle.cobol_grammar.specs.declared.stmt_forms.whens.Whens.{Whens}
use Rattle.cobol_grammar.specs.stmt_forms.Part.{Parts}
use Rattle.cobol_grammar.specs.stmt_forms.Arms.{Level, Found, FoundOne, Arm, held_arm, end_word}

-- ---- IF

-- a condition that statements follow; no NOT may be left after it
unfoldable pub settled : Cond × Bool → Form Cond
settled found = chosen found.1 (refuse Syntax) (pure found.0)

-- a condition that statements follow
unfoldable pub test_cond : {Side Known : Type 0} → Parts Side Known → Form Cond
test_cond parts = parts.cond >>= settled

-- the ELSE, if there is one: [ELSE stmt {stmt}]
unfoldable pub else_part : Level → Scope → Form Found
else_part level scope =
    where_next (is_key (codes "ELSE")) (key (codes "ELSE") >> level.stmts scope) (pure ([], false))

-- the end of IF after its first arm: [ELSE stmt {stmt}] [END-IF]
unfoldable pub if_ended : Level → Scope → Cond → List Stmt → Form FoundOne
if_ended level scope cond first = do
  second ← else_part level scope
  end_word (codes "END-IF") second.1
  pure (stmts.If cond first second.0, second.1)

-- what follows the first arm; nothing where a NOT was read there
unfoldable pub if_behind : Level → Scope → Cond → Found → Form FoundOne
if_behind level scope cond first =
    chosen first.1 (pure (stmts.If cond first.0 [], true)) (if_ended level scope cond first.0)

-- IF cond [THEN]
unfoldable pub if_head : {Side Known : Type 0} → Parts Side Known → (enter : Form (Unit {0})) →
    Form Cond
if_head parts enter = do
  enter
  key (codes "IF")
  cond ← test_cond parts
  maybe (codes "THEN")
  pure cond

-- IF cond [THEN] stmt+ [ELSE stmt+] [END-IF]
unfoldable pub if_stmt : {Side Known : Type 0} → Parts Side Known → Level → Scope → Form FoundOne
if_stmt parts level scope = do
  cond ← if_head parts level.enter
  first ← level.stmts scope
  if_behind level scope cond first

-- ---- TRUE | FALSE | expr

-- a subject, and what is known of it if it is a value
abbrev pub Subjected : Type 0 → Type 0
Subjected Known = Subject × Option Known

-- a subject that is a truth: TRUE | FALSE
unfoldable pub truth_subject : {Side Known : Type 0} → (parts : Parts Side Known) →
    Form (Subjected Known)
truth_subject parts =
    where_next (is_key (codes "TRUE"))
    (key (codes "TRUE") >> pure (subjects.True, None))
    (key (codes "FALSE") >> pure (subjects.False, None))

-- an expression as a subject
unfoldable pub value_subject : {Side Known : Type 0} → (parts : Parts Side Known) →
    Form (Subjected Known)
value_subject parts = do
  side ← parts.expr
  note (parts.value_fault side)
  pure (subjects.Value (parts.expr_of side), Some (parts.known_of side))

-- TRUE or FALSE
abbrev pub begins_truth : TokenKind → Bool
begins_truth kind = is_key (codes "TRUE") kind || is_key (codes "FALSE") kind

-- the subject of EVALUATE: TRUE | FALSE | expr
unfoldable pub subject : {Side Known : Type 0} → (parts : Parts Side Known) → Form (Subjected Known)
subject parts = where_next begins_truth (truth_subject parts) (value_subject parts)

-- ---- WHEN (ANY | cond | [NOT] expr [THRU expr])

-- a test that always holds: ANY
unfoldable pub any_test : Form Test
any_test = key (codes "ANY") >> pure tests.Any

-- a condition as a test
unfoldable pub cond_test : {Side Known : Type 0} → Parts Side Known → Form Test
cond_test parts = test_cond parts >>= (λ cond. pure (tests.Holds cond))

-- an expression that a subject is compared with
unfoldable pub compared : {Side Known : Type 0} → (parts : Parts Side Known) → Known → Form Expr
compared parts known = do
  side ← parts.expr
  note (parts.value_fault side)
  note (parts.subject_fault known side)
  pure (parts.expr_of side)

-- whether a test is negated: [NOT]
unfoldable pub negation : Form Bool
negation = where_next (is_key (codes "NOT")) (key (codes "NOT") >> pure true) (pure false)

-- THRU or THROUGH
abbrev pub begins_thru : TokenKind → Bool
begins_thru kind = is_key (codes "THRU") kind || is_key (codes "THROUGH") kind

-- THRU | THROUGH
unfoldable pub thru : Form (Unit {0})
thru =
    where_next (is_key (codes "THRU"))
    (key (codes "THRU") >> pure tt)
    (key (codes "THROUGH") >> pure tt)

-- the end of a range of values: THRU expr
unfoldable pub last_value : {Side Known : Type 0} → (parts : Parts Side Known) →
    Known → Form (Option Expr)
last_value parts known = thru >> (compared parts known >>= (λ last. pure (Some last)))

-- the end of a range of values, if there is one: [THRU expr]
unfoldable pub last_part : {Side Known : Type 0} → (parts : Parts Side Known) →
    Known → Form (Option Expr)
last_part parts known = where_next begins_thru (last_value parts known) (pure None)

-- a value or a range of values as a test: [NOT] expr [THRU expr]
unfoldable pub value_test : {Side Known : Type 0} → (parts : Parts Side Known) → Known → Form Test
value_test parts known = do
  not ← negation
  from ← compared parts known
  to ← last_part parts known
  pure (tests.Value not from to)

-- the test of a WHEN: a condition under TRUE or FALSE, else a value
unfoldable pub test_by : {Side Known : Type 0} → (parts : Parts Side Known) →
    Option Known → Form Test
test_by parts None = cond_test parts
test_by parts (Some known) = value_test parts known

-- the test of a WHEN: ANY | cond | [NOT] expr [THRU expr]
unfoldable pub one_test : {Side Known : Type 0} → (parts : Parts Side Known) → Option Known →
    Form Test
one_test parts known = where_next (is_key (codes "ANY")) any_test (test_by parts known)

-- one more WHEN with its test
unfoldable pub next_test : {Side Known : Type 0} → (parts : Parts Side Known) →
    Option Known → Form Test
next_test parts known = key (codes "WHEN") >> one_test parts known

-- any number of WHENs with their tests, after those before
abbrev pub more_tests : {Side Known : Type 0} → (parts : Parts Side Known) →
    Option Known → List Test → Form (List Test)
more_tests parts known before = loop (is_key (codes "WHEN")) (added (next_test parts known)) before

-- test {WHEN test}
unfoldable pub all_tests : {Side Known : Type 0} → (parts : Parts Side Known) → Option Known →
    Form (List Test)
all_tests parts known = do
  first ← one_test parts known
  more_tests parts known (first ∷ [])

-- ---- EVALUATE

-- a WHEN with these tests and statements
abbrev pub when_of : List Test → List Stmt → When
when_of tests held = roll-When (record { tests = tests; stmts = held })

-- the WHENs so far, and whether OTHER or a NOT was read
abbrev pub whens_of : List When → Bool → Bool → Whens
whens_of whens other pending_not =
    record { whens = whens; other = other; pending_not = pending_not }

-- tests that share their statements, after those before
unfoldable pub when_held : Level → Scope → List When → List Test → Form Whens
when_held level scope before tests = do
  held ← level.stmts scope
  pure (whens_of (before ++ when_of tests held.0 ∷ []) false held.1)

-- the first WHENs with their tests: WHEN test {WHEN test}
unfoldable pub first_tests : {Side Known : Type 0} → (parts : Parts Side Known) → Option Known →
    Form (List Test)
first_tests parts known = key (codes "WHEN") >> all_tests parts known

-- OTHER
unfoldable pub other_words : Form (Option (List Test))
other_words = key (codes "OTHER") >> pure None

-- what follows WHEN, and WHEN itself: its tests, or OTHER
unfoldable pub when_head : {Side Known : Type 0} → (parts : Parts Side Known) → Option Known →
    Form (Option (List Test))
when_head parts known =
    key (codes "WHEN")
    >> where_next (is_key (codes "OTHER")) other_words
    (all_tests parts known >>= (λ tests. pure (Some tests)))

-- the statements of a WHEN, or none yet after WHEN OTHER
unfoldable pub whens_by : Level → Scope → List When → Option (List Test) → Form Whens
whens_by level scope before None = pure (whens_of before true false)
whens_by level scope before (Some tests) = when_held level scope before tests

-- WHENs that share their statements, or the words WHEN OTHER, after those before
unfoldable pub when_next : {Side Known : Type 0} → (parts : Parts Side Known) →
    Level → Scope → Option Known → List When → Form Whens
when_next parts level scope known before = when_head parts known >>= whens_by level scope before

-- one more WHEN; none may directly follow WHEN OTHER or a NOT
unfoldable pub whens_turn : {Side Known : Type 0} → (parts : Parts Side Known) →
    Level → Scope → Option Known → Whens → Form Whens
whens_turn parts level scope known state =
    chosen (state.other || state.pending_not) (refuse Syntax)
    (when_next parts level scope known state.whens)

-- all WHENs, from the first on
abbrev pub whens_from : {Side Known : Type 0} → (parts : Parts Side Known) →
    Level → Scope → Option Known → Whens → Form Whens
whens_from parts level scope known first =
    loop (is_key (codes "WHEN")) (whens_turn parts level scope known) first

-- all WHENs with their statements, one at least, and maybe the words WHEN OTHER
unfoldable pub whens : {Side Known : Type 0} → (parts : Parts Side Known) →
    Level → Scope → Option Known → Form Whens
whens parts level scope known = do
  tests ← first_tests parts known
  first ← when_held level scope [] tests
  whens_from parts level scope known first

-- the statements of WHEN OTHER, if it is there
unfoldable pub other_part : Level → Scope → Whens → Form Arm
other_part level scope state =
    chosen state.other (held_arm level scope) (pure (None, state.pending_not))

-- the end of EVALUATE after its WHENs: the statements of WHEN OTHER, and [END-EVALUATE]
unfoldable pub evaluated : Level → Scope → Subject → Whens → Form FoundOne
evaluated level scope subject state = do
  other ← other_part level scope state
  end_word (codes "END-EVALUATE") other.1
  pure (stmts.Evaluate subject state.whens other.0, other.1)

-- EVALUATE (TRUE | FALSE | expr)
unfoldable pub evaluate_head : {Side Known : Type 0} → (parts : Parts Side Known) →
    (enter : Form (Unit {0})) → Form (Subjected Known)
evaluate_head parts enter = do
  enter
  key (codes "EVALUATE")
  subject parts

-- EVALUATE (TRUE | FALSE | expr) (when+ stmt+)+ [WHEN OTHER stmt+] [END-EVALUATE]
unfoldable pub evaluate_stmt : {Side Known : Type 0} → Parts Side Known →
    Level → Scope → Form FoundOne
evaluate_stmt parts level scope = do
  found ← evaluate_head parts level.enter
  state ← whens parts level scope found.1
  evaluated level scope found.0 state

-- IF or EVALUATE
unfoldable pub choice_stmt : {Side Known : Type 0} → Parts Side Known → Level → Scope →
    Form FoundOne
choice_stmt parts level scope =
    where_next (is_key (codes "IF")) (if_stmt parts level scope) (evaluate_stmt parts level scope)
