-- EVALUATE over lists that are spelled.
use Rattle.std.proofs.Common.{◌≡◌, ℕ, Bool, true, false, ◌||◌, List, [], ◌∷◌, ◌++◌, map, Option, Some, None, is_some, refl, ap, sym, ◌∙◌, subst, append_assoc, append-nil}
use Rattle.std.specs.Prelude.{codes}
use Rattle.cob_tree.specs.declared.choice.Subject.{Subject}
use Rattle.cob_tree.specs.declared.choice.Subject.TheVariants as subjects
use Rattle.cob_tree.specs.declared.choice.Test.{Test}
use Rattle.cob_tree.specs.declared.choice.Test.TheVariants as tests
use Rattle.cob_tree.specs.declared.cond.Cond.{Cond}
use Rattle.cob_tree.specs.declared.place.Expr.{Expr}
use Rattle.cob_tree.specs.declared.program.Program.{Program}
use Rattle.cob_tree.specs.declared.stmt.Stmt.{Stmt}
use Rattle.cob_tree.specs.declared.stmt.Stmt.TheVariants as stmts
use Rattle.cob_tree.specs.declared.stmt.When.{When}
use Rattle.cobol_lex.specs.declared.token.TokenKind.{TokenKind}
use Rattle.cobol_lex.specs.declared.token.TokenKind.TheVariants as kinds
use Rattle.parser_combinators.specs.declared.why.Why.TheVariants.{Syntax}
use Rattle.parser_combinators.specs.Form as form
use Rattle.parser_combinators.specs.Form.{Form, begins_by}
use Rattle.parser_combinators.specs.Part as part
use Rattle.unparser.specs.Choice.{subject_tokens, thru_tokens, test_tokens}
use Rattle.unparser.specs.Condition.{not_tokens, cond_tokens}
use Rattle.unparser.specs.Place.{expr_tokens}
use Rattle.unparser.specs.Token.{Tokens, joined}
use Rattle.cobol_grammar.specs.declared.stmt_forms.scope.Scope.{Scope}
use Rattle.cobol_grammar.specs.declared.stmt_forms.whens.Whens.{Whens}
use Rattle.cobol_grammar.specs.stmt_forms.Arms as arm
use Rattle.cobol_grammar.specs.stmt_forms.Arms.{Level}
use Rattle.cobol_grammar.specs.stmt_forms.Choice as choice
use Rattle.cobol_grammar.specs.stmt_forms.Part.{Parts}
use Rattle.cobol_grammar.specs.stmt_forms.Stmt as forms
use Rattle.cobol_grammar.specs.stmt_forms.Verb.{begins_stmt, begins_simple, begins_moving, begins_filing, begins_jumping, begins_holding, begins_arithmetic, begins_adding, begins_multiplying, begins_choice}
use Rattle.round_trip.specs.spelled_forms.Spelling.{first_of, Any, Spelled}
use Rattle.round_trip.proofs.spelled_forms_lemmas.Makers.{pure, note, hence, where_behind, bind, then, ending, behind_none, chosen_other, there_next, other_next, no_turn, turn}
use Rattle.round_trip.proofs.spelled_forms_lemmas.Tokens.{key}
use Rattle.round_trip.specs.spelling.stmt_spelling.Behind.{Among, verbs, closings, EndsStmt, BehindPart}
use Rattle.round_trip.specs.spelling.stmt_spelling.Part.{Kept, PartsAreTold, SpellsExpr, SpellsCond, is_test_word, is_value_word}
use Rattle.round_trip.specs.spelling.stmt_spelling.Stmt.{Each, IfAny, SpellsSubject, SpellsTest, Compares}
use Rattle.round_trip.proofs.spelling_lemmas.stmt_spelling_lemmas.Behind.{none-among, closing-stmt, stmt-part, verb-ends, first-append, true-false}
use Rattle.round_trip.proofs.spelling_lemmas.stmt_spelling_lemmas.Lists.{each, IsItem, loop-items, behind-items}
use Rattle.round_trip.proofs.spelling_lemmas.stmt_spelling_lemmas.Performs.{thru_word}
use Rattle.round_trip.proofs.spelling_lemmas.stmt_spelling_lemmas.Along.{One, EndsAll}
use Rattle.round_trip.proofs.spelling_lemmas.stmt_spelling_lemmas.ArmsSpelled.{IsHeld}
use Rattle.round_trip.proofs.spelling_lemmas.stmt_spelling_lemmas.Holding.{holding, closed-one, test_cond, said-by}

or-first : (a b : Bool) → (a || b) ≡ false → a ≡ false
or-first true b e = absurd (true-false refl e)
or-first false b e = refl

or-second : (a b : Bool) → (a || b) ≡ false → b ≡ false
or-second true b e = absurd (true-false refl e)
or-second false b e = e

-- the first token is none of these words
no-any : (o : Option TokenKind) → begins_by is_test_word o ≡ false → begins_by (part.is_key (codes "ANY")) o ≡ false
no-any None e = refl
no-any (Some kind) e = or-first (part.is_key (codes "ANY") kind) (part.is_key (codes "OTHER") kind) e

no-other : (o : Option TokenKind) → begins_by is_test_word o ≡ false → begins_by (part.is_key (codes "OTHER")) o ≡ false
no-other None e = refl
no-other (Some kind) e = or-second (part.is_key (codes "ANY") kind) (part.is_key (codes "OTHER") kind) e

value-test : (o : Option TokenKind) → begins_by is_value_word o ≡ false → begins_by is_test_word o ≡ false
value-test None e = refl
value-test (Some kind) e =
    or-first (is_test_word kind) (part.is_key (codes "NOT") kind || (part.is_key (codes "TRUE") kind || part.is_key (codes "FALSE") kind)) e

value-not : (o : Option TokenKind) → begins_by is_value_word o ≡ false → begins_by (part.is_key (codes "NOT")) o ≡ false
value-not None e = refl
value-not (Some kind) e =
    or-first (part.is_key (codes "NOT") kind) (part.is_key (codes "TRUE") kind || part.is_key (codes "FALSE") kind)
    (or-second (is_test_word kind) (part.is_key (codes "NOT") kind || (part.is_key (codes "TRUE") kind || part.is_key (codes "FALSE") kind)) e)

value-truth : (o : Option TokenKind) → begins_by is_value_word o ≡ false → begins_by choice.begins_truth o ≡ false
value-truth None e = refl
value-truth (Some kind) e =
    or-second (part.is_key (codes "NOT") kind) (part.is_key (codes "TRUE") kind || part.is_key (codes "FALSE") kind)
    (or-second (is_test_word kind) (part.is_key (codes "NOT") kind || (part.is_key (codes "TRUE") kind || part.is_key (codes "FALSE") kind)) e)

negation : {n : ℕ} (not : Bool) → Spelled choice.negation n (not_tokens not) (λ o. begins_by (part.is_key (codes "NOT")) o ≡ false) (λ found. found ≡ not)
unfolding choice.negation
negation true = there_next (part.is_key (codes "NOT")) _ (λ o b. refl) (ending (where_behind (λ o b. tt) (key (codes "NOT"))) (λ _ _. pure refl))
negation false = other_next (part.is_key (codes "NOT")) _ (λ o b. b) (pure refl)

ends-part : (o : Option TokenKind) → EndsStmt o → BehindPart o
ends-part o b = stmt-part o (closing-stmt o b)

abbrev pub other_words : Option (Bool → Tokens) → Tokens
other_words None = []
other_words (Some printed) = kinds.Word (codes "WHEN") ∷ kinds.Word (codes "OTHER") ∷ []

abbrev pub BehindWhens : Option (Bool → Tokens) → Option TokenKind → Type 0
BehindWhens None o = o ≡ Some (kinds.Word (codes "END-EVALUATE"))
BehindWhens (Some printed) o = Among verbs o

unfoldable pub whens_tokens : List When → (When → Tokens) → Tokens
whens_tokens [] tokens = []
whens_tokens (when ∷ whens) tokens = tokens when ++ whens_tokens whens tokens

-- WHEN OTHER, with its tokens
abbrev pub OtherHeld : Level → Scope → Option (List Stmt) → Option (Bool → Tokens) → Type 0
OtherHeld level scope None None = Unit {0}
OtherHeld level scope (Some xs) (Some printed) = IsHeld level scope xs printed
OtherHeld level scope _ _ = ⊥

abbrev pub other_held : Option (Bool → Tokens) → Tokens
other_held None = []
other_held (Some printed) = printed false

module _ {Side Known : Type 0} {parts : Parts Side Known} {kept : Kept Side} (T : PartsAreTold parts kept) (program : Program) where
  -- ---- subjects

  -- what is known of the subject
  pub IsKnown : Subject → Option Known → Type 0
  IsKnown subjects.True known = known ≡ None
  IsKnown subjects.False known = known ≡ None
  IsKnown (subjects.Value expr) known = (side : Side) × kept.expr expr side × (known ≡ Some (parts.known_of side))

  pub subject : {n : ℕ} (subject : Subject) → SpellsSubject parts kept program subject →
      Spelled (choice.subject parts) n (subject_tokens program subject) EndsStmt (λ found. (found.0 ≡ subject) × IsKnown subject found.1)
  unfolding choice.subject choice.truth_subject choice.value_subject IsKnown
  subject subjects.True h =
      there_next choice.begins_truth _ (λ o b. refl) (there_next (part.is_key (codes "TRUE")) _ (λ o b. refl) (ending (where_behind (λ o b. tt) (key (codes "TRUE"))) (λ _ _. pure (refl, refl))))
  subject subjects.False h =
      there_next choice.begins_truth _ (λ o b. refl) (other_next (part.is_key (codes "TRUE")) _ (λ o b. refl) (ending (where_behind (λ o b. tt) (key (codes "FALSE"))) (λ _ _. pure (refl, refl))))
  subject {n = n} (subjects.Value expr) h =
      other_next choice.begins_truth _ (λ o b. value-truth (first_of (expr_tokens program expr false) o) (h.0.plain o)) (ending (where_behind ends-part (h.0.spelled n))
      (λ side k. behind_none (note (h.1 side k)) (λ _ _. pure (ap subjects.Value (T.expr_told expr side k), (side, k, refl)))))

  -- ---- tests

  compared : {n : ℕ} (of expr : Expr) (side : Side) → kept.expr of side → Compares parts kept program of expr →
      Spelled (choice.compared parts (parts.known_of side)) n (expr_tokens program expr false) BehindPart (λ found. found ≡ expr)
  unfolding choice.compared
  compared {n = n} of expr side told S =
      ending (S.0.spelled n) (λ other k. behind_none (note (S.1.0 other k)) (λ _ _. behind_none (note (S.1.1 side other told k)) (λ _ _. pure (T.expr_told expr other k))))

  last_part : {n : ℕ} (of : Expr) (to : Option Expr) (side : Side) → kept.expr of side → IfAny (Compares parts kept program of) to →
      Spelled (choice.last_part parts (parts.known_of side)) n (thru_tokens program to) EndsStmt (λ found. found ≡ to)
  unfolding choice.last_part choice.last_value
  last_part of None side told h = other_next choice.begins_thru _ (none-among choice.begins_thru (verbs ++ closings) refl refl) (pure refl)
  last_part of (Some to) side told h =
      there_next choice.begins_thru _ (λ o b. refl) (then thru_word (λ _ _. ending (where_behind ends-part (compared of to side told h)) (λ found e. pure (ap Some e))))

  behind-from : (to : Option Expr) (o : Option TokenKind) → EndsStmt o → BehindPart (first_of (thru_tokens program to) o)
  behind-from None o b = ends-part o b
  behind-from (Some to) o b = refl

  abbrev ValueTokens : Bool → Expr → Option Expr → Tokens
  ValueTokens not from to = not_tokens not ++ (expr_tokens program from false ++ thru_tokens program to)

  value-plain : (not : Bool) (from : Expr) (to : Option Expr) → SpellsExpr parts kept program from → (o : Option TokenKind) → begins_by is_test_word (first_of (ValueTokens not from to) o) ≡ false
  value-plain true from to S o = refl
  value-plain false from to S o =
      ap (begins_by is_test_word) (first-append (expr_tokens program from false) (thru_tokens program to) o) ∙ value-test (first_of (expr_tokens program from false) (first_of (thru_tokens program to) o)) (S.plain (first_of (thru_tokens program to) o))

  value_test : {n : ℕ} (of : Expr) (not : Bool) (from : Expr) (to : Option Expr) (side : Side) → kept.expr of side → Compares parts kept program of from → IfAny (Compares parts kept program of) to →
      Spelled (choice.value_test parts (parts.known_of side)) n (ValueTokens not from to) EndsStmt (λ found. found ≡ tests.Value not from to)
  unfolding choice.value_test
  value_test of not from to side told S h =
      bind (negation not) (λ o b. ap (begins_by (part.is_key (codes "NOT"))) (first-append (expr_tokens program from false) (thru_tokens program to) o) ∙ value-not (first_of (expr_tokens program from false) (first_of (thru_tokens program to) o)) (S.0.plain (first_of (thru_tokens program to) o)))
      (λ v e. bind (compared of from side told S) (behind-from to) (λ x k. ending (last_part of to side told h)
      (λ y l. pure (ap (λ w. tests.Value w x y) e ∙ ap (λ w. tests.Value not w y) k ∙ ap (tests.Value not from) l))))

  cond_test : {n : ℕ} (cond : Cond) → SpellsCond parts kept program cond → (level : Level) (scope : Scope) → Spelled (choice.cond_test parts) n (cond_tokens program cond false) EndsStmt (λ found. found ≡ tests.Holds cond)
  unfolding choice.cond_test
  cond_test cond S level scope = ending (test_cond T program level scope cond S) (λ c e. pure (ap tests.Holds e))

  any : {n : ℕ} (known : Option Known) → Spelled (choice.one_test parts known) n (kinds.Word (codes "ANY") ∷ []) EndsStmt (λ found. found ≡ tests.Any)
  unfolding choice.one_test choice.any_test
  any known = there_next (part.is_key (codes "ANY")) _ (λ o b. refl) (ending (where_behind (λ o b. tt) (key (codes "ANY"))) (λ _ _. pure refl))

  holds : {n : ℕ} (cond : Cond) (known : Option Known) → known ≡ None → SpellsCond parts kept program cond → (level : Level) (scope : Scope) →
      Spelled (choice.one_test parts known) n (cond_tokens program cond false) EndsStmt (λ found. found ≡ tests.Holds cond)
  unfolding choice.one_test choice.test_by
  holds {n = n} cond known e S level scope =
      subst (λ k. Spelled (choice.one_test parts k) n (cond_tokens program cond false) EndsStmt (λ found. found ≡ tests.Holds cond)) (sym e)
      (other_next (part.is_key (codes "ANY")) _ (λ o b. no-any (first_of (cond_tokens program cond false) o) (S.plain o)) (cond_test cond S level scope))

  told-value : (not : Bool) (from : Expr) (to : Option Expr) → ValueTokens not from to ≡ test_tokens program (tests.Value not from to)
  told-value not from to = sym (append_assoc (not_tokens not) (expr_tokens program from false) (thru_tokens program to))

  valued-test : {n : ℕ} (of : Expr) (not : Bool) (from : Expr) (to : Option Expr) (known : Option Known) (side : Side) → kept.expr of side → known ≡ Some (parts.known_of side) →
      Compares parts kept program of from → IfAny (Compares parts kept program of) to → Spelled (choice.one_test parts known) n (test_tokens program (tests.Value not from to)) EndsStmt (λ found. found ≡ tests.Value not from to)
  unfolding choice.one_test choice.test_by
  valued-test {n = n} of not from to known side told e S h =
      subst (λ t. Spelled (choice.one_test parts known) n t EndsStmt (λ found. found ≡ tests.Value not from to)) (told-value not from to)
      (subst (λ k. Spelled (choice.one_test parts k) n (ValueTokens not from to) EndsStmt (λ found. found ≡ tests.Value not from to)) (sym e)
      (other_next (part.is_key (codes "ANY")) _ (λ o b. no-any (first_of (ValueTokens not from to) o) (value-plain not from to S.0 o)) (value_test of not from to side told S h)))

  one_test : {n : ℕ} (of : Subject) (test : Test) (known : Option Known) → IsKnown of known → SpellsTest parts kept program of test → (level : Level) (scope : Scope) →
      Spelled (choice.one_test parts known) n (test_tokens program test) EndsStmt (λ found. found ≡ test)
  unfolding IsKnown
  one_test of tests.Any known k h level scope = any known
  one_test subjects.True (tests.Holds cond) known k h level scope = holds cond known k h level scope
  one_test subjects.False (tests.Holds cond) known k h level scope = holds cond known k h level scope
  one_test (subjects.Value expr) (tests.Holds cond) known k h level scope = absurd h
  one_test subjects.True (tests.Value not from to) known k h level scope = absurd h
  one_test subjects.False (tests.Value not from to) known k h level scope = absurd h
  one_test (subjects.Value expr) (tests.Value not from to) known k h level scope = valued-test expr not from to known k.0 k.1 k.2 h.0 h.1

  test-plain : (of : Subject) (test : Test) → SpellsTest parts kept program of test → (more : Tokens) (o : Option TokenKind) →
      begins_by (part.is_key (codes "OTHER")) (first_of (test_tokens program test ++ more) o) ≡ false
  test-plain of tests.Any h more o = refl
  test-plain subjects.True (tests.Holds cond) h more o = ap (begins_by (part.is_key (codes "OTHER"))) (first-append (cond_tokens program cond false) more o) ∙ no-other (first_of (cond_tokens program cond false) (first_of more o)) (h.plain (first_of more o))
  test-plain subjects.False (tests.Holds cond) h more o = ap (begins_by (part.is_key (codes "OTHER"))) (first-append (cond_tokens program cond false) more o) ∙ no-other (first_of (cond_tokens program cond false) (first_of more o)) (h.plain (first_of more o))
  test-plain (subjects.Value expr) (tests.Holds cond) h more o = absurd h
  test-plain subjects.True (tests.Value not from to) h more o = absurd h
  test-plain subjects.False (tests.Value not from to) h more o = absurd h
  test-plain (subjects.Value expr) (tests.Value not from to) h more o =
      ap (λ t. begins_by (part.is_key (codes "OTHER")) (first_of (t ++ more) o)) (sym (told-value not from to))
      ∙ ap (begins_by (part.is_key (codes "OTHER"))) (first-append (ValueTokens not from to) more o) ∙ no-other (first_of (ValueTokens not from to) (first_of more o)) (value-plain not from to h.0.0 (first_of more o))

  abbrev WhenTokens : Test → Tokens
  WhenTokens test = kinds.Word (codes "WHEN") ∷ test_tokens program test

  abbrev TestsTokens : List Test → Tokens
  TestsTokens list = joined (map WhenTokens list)

  module _ (level : Level) (scope : Scope) (of : Subject) where
    -- WHEN with its tests and its statements
    pub record Branch (when : When) (tokens : Tokens) : Type 0 where
      pub first : Test
      pub others : List Test
      pub held : List Stmt
      pub printed : Bool → Tokens
      pub is : when ≡ choice.when_of (first ∷ others) held
      pub told : tokens ≡ TestsTokens (first ∷ others) ++ printed false
      pub spells : Each (SpellsTest parts kept program of) (first ∷ others)
      pub holds_them : IsHeld level scope held printed

  module _ (level : Level) (scope : Scope) (of : Subject) (known : Option Known) (K : IsKnown of known) where
    abbrev Such : When → Tokens → Type 0
    Such when tokens = Branch level scope of when tokens

    next_item : (test : Test) → SpellsTest parts kept program of test → IsItem (part.is_key (codes "WHEN")) (choice.next_test parts known) WhenTokens EndsStmt test
    unfolding choice.next_test
    next_item test h = record {
      spelled = λ n. then (key (codes "WHEN")) (λ _ _. one_test of test known K h level scope);
      begins = λ o. refl;
      enters = λ o. refl;
    }

    no-when : (o : Option TokenKind) → Among verbs o → begins_by (part.is_key (codes "WHEN")) o ≡ false
    no-when o b = none-among (part.is_key (codes "WHEN")) verbs refl refl o b

    all_tests : {n : ℕ} (test : Test) (list : List Test) → Each (SpellsTest parts kept program of) (test ∷ list) →
        Spelled (choice.all_tests parts known) n (test_tokens program test ++ TestsTokens list) (Among verbs) (λ found. found ≡ test ∷ list)
    unfolding choice.all_tests
    all_tests test list h =
        bind (one_test of test known K h.0 level scope) (behind-items (part.is_key (codes "WHEN")) (choice.next_test parts known) WhenTokens EndsStmt (Among verbs) verb-ends no-when list (each next_item list h.1))
        (λ first e. hence (λ found k. k ∙ ap (λ x. x ∷ list) e)
        (loop-items (part.is_key (codes "WHEN")) (choice.next_test parts known) WhenTokens EndsStmt (Among verbs) verb-ends no-when list (each next_item list h.1) (first ∷ []) _))

    when_held : {n : ℕ} {Behind : Option TokenKind → Type 0} (before : List When) (list found : List Test) → found ≡ list → (xs : List Stmt) (printed : Bool → Tokens) → IsHeld level scope xs printed →
        ((o : Option TokenKind) → Behind o → EndsAll false o) →
        Spelled (choice.when_held level scope before found) n (printed false) Behind (λ state. state ≡ choice.whens_of (before ++ choice.when_of list xs ∷ []) false false)
    unfolding choice.when_held
    when_held {n = n} before list found e xs printed H ends =
        ending (where_behind ends (H.plain false n)) (λ held k. pure (ap (λ f. choice.whens_of (before ++ choice.when_of found f.0 ∷ []) false f.1) k ∙ ap (λ l. choice.whens_of (before ++ choice.when_of l xs ∷ []) false false) e))

    enters-printed : {xs : List Stmt} {printed : Bool → Tokens} → IsHeld level scope xs printed → (o : Option TokenKind) → Among verbs (first_of (printed false) o)
    enters-printed H o = H.enters false o

    -- a further WHEN
    when_head : {n : ℕ} (test : Test) (list : List Test) → Each (SpellsTest parts kept program of) (test ∷ list) →
        Spelled (choice.when_head parts known) n (TestsTokens (test ∷ list)) (Among verbs) (λ found. found ≡ Some (test ∷ list))
    unfolding choice.when_head
    when_head test list h =
        then (key (codes "WHEN")) (λ _ _. other_next (part.is_key (codes "OTHER")) _ (λ o b. test-plain of test h.0 (TestsTokens list) o)
        (ending (all_tests test list h) (λ found e. pure (ap Some e))))

    whens_by : {n : ℕ} {Behind : Option TokenKind → Type 0} (before : List When) (list : List Test) (head : Option (List Test)) → head ≡ Some list → (xs : List Stmt) (printed : Bool → Tokens) →
        IsHeld level scope xs printed → ((o : Option TokenKind) → Behind o → EndsAll false o) →
        Spelled (choice.whens_by level scope before head) n (printed false) Behind (λ state. state ≡ choice.whens_of (before ++ choice.when_of list xs ∷ []) false false)
    unfolding choice.whens_by
    whens_by {n = n} {Behind = Behind} before list head e xs printed H ends =
        subst (λ h. Spelled (choice.whens_by level scope before h) n (printed false) Behind (λ state. state ≡ choice.whens_of (before ++ choice.when_of list xs ∷ []) false false)) (sym e)
        (when_held before list list refl xs printed H ends)

    when_turn : {n : ℕ} (before : List When) (state : Whens) → state ≡ choice.whens_of before false false → (when : When) (tokens : Tokens) → Such when tokens →
        Spelled (choice.whens_turn parts level scope known state) n tokens (EndsAll false) (λ found. found ≡ choice.whens_of (before ++ when ∷ []) false false)
    unfolding choice.whens_turn choice.when_next
    when_turn {n = n} before state e when tokens B =
        subst (λ s. Spelled (choice.whens_turn parts level scope known s) n tokens (EndsAll false) (λ found. found ≡ choice.whens_of (before ++ when ∷ []) false false)) (sym e)
        (subst (λ t. Spelled (choice.whens_turn parts level scope known (choice.whens_of before false false)) n t (EndsAll false) (λ found. found ≡ choice.whens_of (before ++ when ∷ []) false false)) (sym B.told)
        (subst (λ w. Spelled (choice.whens_turn parts level scope known (choice.whens_of before false false)) n (TestsTokens (B.first ∷ B.others) ++ B.printed false) (EndsAll false)
        (λ found. found ≡ choice.whens_of (before ++ w ∷ []) false false)) (sym B.is)
        (chosen_other (form.refuse Syntax) refl (bind (when_head B.first B.others B.spells) (λ o b. enters-printed B.holds_them o)
        (λ head k. whens_by before (B.first ∷ B.others) head k B.held B.printed B.holds_them (λ o b. b))))))

    other-by : {n : ℕ} {Behind : Option TokenKind → Type 0} (before : List When) (head : Option (List Test)) → head ≡ None →
        Spelled (choice.whens_by level scope before head) n [] Behind (λ found. found ≡ choice.whens_of before true false)
    unfolding choice.whens_by
    other-by {n = n} {Behind = Behind} before head e =
        subst (λ h. Spelled (choice.whens_by level scope before h) n [] Behind (λ found. found ≡ choice.whens_of before true false)) (sym e) (pure refl)

    other_turn : {n : ℕ} (before : List When) (state : Whens) → state ≡ choice.whens_of before false false →
        Spelled (choice.whens_turn parts level scope known state) n (kinds.Word (codes "WHEN") ∷ kinds.Word (codes "OTHER") ∷ []) Any (λ found. found ≡ choice.whens_of before true false)
    unfolding choice.whens_turn choice.when_next choice.when_head choice.other_words
    other_turn {n = n} before state e =
        subst (λ s. Spelled (choice.whens_turn parts level scope known s) n (kinds.Word (codes "WHEN") ∷ kinds.Word (codes "OTHER") ∷ []) Any (λ found. found ≡ choice.whens_of before true false)) (sym e)
        (chosen_other (form.refuse Syntax) refl (ending (then (key (codes "WHEN")) (λ _ _. there_next (part.is_key (codes "OTHER")) _ (λ o b. refl) (ending (key (codes "OTHER")) (λ _ _. pure refl))))
        (λ head k. other-by before head k)))

    -- ---- all of them, with WHEN OTHER or without it

    no-when-behind : (other : Option (Bool → Tokens)) (o : Option TokenKind) → BehindWhens other o → begins_by (part.is_key (codes "WHEN")) o ≡ false
    no-when-behind None o b = ap (begins_by (part.is_key (codes "WHEN"))) b
    no-when-behind (Some printed) o b = no-when o b

    behind-branch : (other : Option (Bool → Tokens)) (o : Option TokenKind) → BehindWhens other o → EndsAll false (first_of (other_words other) o)
    behind-branch None o b = subst (EndsAll false) (sym b) refl
    behind-branch (Some printed) o b = refl

    when-begins : (when : When) (tokens : Tokens) → Such when tokens → (o : Option TokenKind) → first_of tokens o ≡ Some (kinds.Word (codes "WHEN"))
    when-begins when tokens B o = ap (λ t. first_of t o) B.told

    abbrev Loop : Whens → Form Whens
    Loop state = form.loop (part.is_key (codes "WHEN")) (choice.whens_turn parts level scope known) state

    last-of : {n : ℕ} (other : Option (Bool → Tokens)) (before : List When) (state : Whens) → state ≡ choice.whens_of before false false →
        Spelled (Loop state) n (other_words other) (BehindWhens other) (λ found. found ≡ choice.whens_of before (is_some other) false)
    last-of None before state e = no_turn (part.is_key (codes "WHEN")) (choice.whens_turn parts level scope known) (no-when-behind None) e
    last-of (Some printed) before state e =
        turn (part.is_key (codes "WHEN")) (choice.whens_turn parts level scope known) {others = []} (λ o. refl) (other_turn before state e) (λ o b. tt)
        (λ mid k. no_turn (part.is_key (codes "WHEN")) (choice.whens_turn parts level scope known) (no-when-behind (Some printed)) k)

    behind-whens : (tokens : When → Tokens) (whens : List When) → Each (λ when. Such when (tokens when)) whens → (other : Option (Bool → Tokens)) (o : Option TokenKind) → BehindWhens other o →
        EndsAll false (first_of (whens_tokens whens tokens ++ other_words other) o)
    unfolding whens_tokens
    behind-whens tokens [] h other o b = behind-branch other o b
    behind-whens tokens (when ∷ whens) h other o b =
        subst (EndsAll false) (sym (first-append (tokens when ++ whens_tokens whens tokens) (other_words other) o
        ∙ first-append (tokens when) (whens_tokens whens tokens) (first_of (other_words other) o) ∙ when-begins when (tokens when) h.0 (first_of (whens_tokens whens tokens) (first_of (other_words other) o)))) refl

    whens-from : (tokens : When → Tokens) (whens : List When) → Each (λ when. Such when (tokens when)) whens → (other : Option (Bool → Tokens)) (before : List When) (state : Whens) →
        state ≡ choice.whens_of before false false → (n : ℕ) →
        Spelled (Loop state) n (whens_tokens whens tokens ++ other_words other) (BehindWhens other) (λ found. found ≡ choice.whens_of (before ++ whens) (is_some other) false)
    unfolding whens_tokens
    whens-from tokens [] h other before state e n =
        hence (λ found k. k ∙ ap (λ l. choice.whens_of l (is_some other) false) (sym (append-nil before))) (last-of other before state e)
    whens-from tokens (when ∷ whens) h other before state e n =
        subst (λ t. Spelled (Loop state) n t (BehindWhens other) (λ found. found ≡ choice.whens_of (before ++ when ∷ whens) (is_some other) false))
        (sym (append_assoc (tokens when) (whens_tokens whens tokens) (other_words other)))
        (turn (part.is_key (codes "WHEN")) (choice.whens_turn parts level scope known) (λ o. ap (begins_by (part.is_key (codes "WHEN"))) (when-begins when (tokens when) h.0 o))
        (when_turn before state e when (tokens when) h.0) (behind-whens tokens whens h.1 other)
        (λ mid k. hence (λ found l. l ∙ ap (λ x. choice.whens_of x (is_some other) false) (append_assoc before (when ∷ []) whens)) (whens-from tokens whens h.1 other (before ++ when ∷ []) mid k _)))

    -- the first WHEN is read apart
    pub whens-all : {n : ℕ} (tokens : When → Tokens) (when : When) (whens : List When) → Each (λ when. Such when (tokens when)) (when ∷ whens) → (other : Option (Bool → Tokens)) →
        Spelled (choice.whens parts level scope known) n (whens_tokens (when ∷ whens) tokens ++ other_words other) (BehindWhens other) (λ found. found ≡ choice.whens_of (when ∷ whens) (is_some other) false)
    unfolding choice.whens choice.first_tests whens_tokens
    whens-all {n = n} tokens when whens h other =
        let B : Such when (tokens when) = h.0 in
        let back : Tokens = whens_tokens whens tokens ++ other_words other in
        let tests : List Test = B.first ∷ B.others in
        let same : (tokens when ++ whens_tokens whens tokens) ++ other_words other ≡ TestsTokens tests ++ (B.printed false ++ back) =
        append_assoc (tokens when) (whens_tokens whens tokens) (other_words other) ∙ ap (λ t. t ++ back) B.told ∙ append_assoc (TestsTokens tests) (B.printed false) back in
        subst (λ t. Spelled (choice.whens parts level scope known) n t (BehindWhens other) (λ found. found ≡ choice.whens_of (when ∷ whens) (is_some other) false)) (sym same)
        (bind (then (key (codes "WHEN")) (λ _ _. all_tests B.first B.others B.spells))
        (λ o b. subst (Among verbs) (sym (first-append (B.printed false) back o)) (enters-printed B.holds_them (first_of back o)))
        (λ found e. bind (when_held [] tests found e B.held B.printed B.holds_them (λ o b. b)) (behind-whens tokens whens h.1 other)
        (λ state k. hence (λ x l. l ∙ ap (λ w. choice.whens_of (w ∷ whens) (is_some other) false) (sym B.is)) (whens-from tokens whens h.1 other (choice.when_of tests B.held ∷ []) state k _))))

  -- ---- the whole statement

  module _ (level : Level) (scope : Scope) where
    abbrev End : Tokens
    End = kinds.Word (codes "END-EVALUATE") ∷ []

    other_part : {n : ℕ} (whens : List When) (other : Option (List Stmt)) (printed : Option (Bool → Tokens)) → OtherHeld level scope other printed →
        Spelled (choice.other_part level scope (choice.whens_of whens (is_some printed) false)) n (other_held printed) (λ o. o ≡ Some (kinds.Word (codes "END-EVALUATE"))) (λ found. found ≡ (other, false))
    unfolding choice.other_part arm.held_arm
    other_part whens None None H = pure refl
    other_part whens (Some xs) (Some printed) H =
        ending (where_behind (λ o b. subst (EndsAll false) (sym b) refl) (H.plain false _)) (λ found e. pure (ap (λ f. (Some f.0, f.1)) e))
    other_part whens None (Some printed) H = absurd H
    other_part whens (Some xs) None H = absurd H

    evaluated : {n : ℕ} (subject : Subject) (whens : List When) (other : Option (List Stmt)) (printed : Option (Bool → Tokens)) → OtherHeld level scope other printed →
        (found : Subject) → found ≡ subject → (state : Whens) → state ≡ choice.whens_of whens (is_some printed) false →
        Spelled (choice.evaluated level scope found state) n (other_held printed ++ End) Any (λ x. x ≡ (stmts.Evaluate subject whens other, false))
    unfolding choice.evaluated
    evaluated {n = n} subject whens other printed H found e state k =
        subst (λ s. Spelled (choice.evaluated level scope s state) n (other_held printed ++ End) Any (λ x. x ≡ (stmts.Evaluate subject whens other, false))) (sym e)
        (subst (λ s. Spelled (choice.evaluated level scope subject s) n (other_held printed ++ End) Any (λ x. x ≡ (stmts.Evaluate subject whens other, false))) (sym k)
        (bind (other_part whens other printed H) (λ o b. refl) (λ x l. ending (said-by T program level scope (codes "END-EVALUATE") x.1 (ap (λ v. v.1) l))
        (λ _ _. pure (ap (λ v. (stmts.Evaluate subject whens v.0, v.1)) l)))))

    head : {n : ℕ} (of : Subject) → SpellsSubject parts kept program of → ((m : ℕ) → Spelled level.enter m [] Any (λ _. Unit {0})) →
        Spelled (choice.evaluate_head parts level.enter) n (kinds.Word (codes "EVALUATE") ∷ subject_tokens program of) EndsStmt (λ found. (found.0 ≡ of) × IsKnown of found.1)
    unfolding choice.evaluate_head
    head of S E = behind_none (E _) (λ _ _. then (key (codes "EVALUATE")) (λ _ _. subject of S))

    behind-all : (printed : Option (Bool → Tokens)) (other : Option (List Stmt)) → OtherHeld level scope other printed → (o : Option TokenKind) → BehindWhens printed (first_of (other_held printed ++ End) o)
    behind-all None None H o = refl
    behind-all (Some printed) (Some xs) H o = subst (Among verbs) (sym (first-append (printed false) End o)) (H.enters false (first_of End o))
    behind-all None (Some xs) H o = absurd H
    behind-all (Some printed) None H o = absurd H

    front : (of : Subject) (tokens : When → Tokens) (when : When) (whens : List When) → Each (λ when. Branch level scope of when (tokens when)) (when ∷ whens) → (more last : Tokens) (o : Option TokenKind) →
        EndsStmt (first_of ((whens_tokens (when ∷ whens) tokens ++ more) ++ last) o)
    unfolding whens_tokens
    front of tokens when whens h more last o =
        let B : Branch level scope of when (tokens when) = h.0 in
        subst EndsStmt (sym (first-append ((tokens when ++ whens_tokens whens tokens) ++ more) last o ∙ first-append (tokens when ++ whens_tokens whens tokens) more (first_of last o)
        ∙ first-append (tokens when) (whens_tokens whens tokens) (first_of more (first_of last o)) ∙ ap (λ t. first_of t (first_of (whens_tokens whens tokens) (first_of more (first_of last o)))) B.told)) refl

    pub evaluate-one : (of : Subject) (tokens : When → Tokens) (when : When) (whens : List When) (other : Option (List Stmt)) (printed : Option (Bool → Tokens)) → SpellsSubject parts kept program of →
        Each (λ when. Branch level scope of when (tokens when)) (when ∷ whens) → OtherHeld level scope other printed →
        One parts level scope (λ c. (kinds.Word (codes "EVALUATE") ∷ subject_tokens program of) ++ ((whens_tokens (when ∷ whens) tokens ++ other_words printed) ++ (other_held printed ++ End)))
        (stmts.Evaluate of (when ∷ whens) other)
    unfolding forms.holding_stmt choice.choice_stmt choice.evaluate_stmt begins_stmt begins_simple begins_moving begins_filing begins_jumping begins_holding begins_arithmetic begins_adding begins_multiplying begins_choice
    evaluate-one of tokens when whens other printed S h H =
        let B : Branch level scope of when (tokens when) = h.0 in
        let all : Tokens = whens_tokens (when ∷ whens) tokens ++ other_words printed in
        let back : Tokens = other_held printed ++ End in
        closed-one T program level scope (stmts.Evaluate of (when ∷ whens) other) ((kinds.Word (codes "EVALUATE") ∷ subject_tokens program of) ++ (all ++ back)) (λ o. refl) (λ o. refl) (λ o. refl)
        (holding T program level scope (stmts.Evaluate of (when ∷ whens) other) ((kinds.Word (codes "EVALUATE") ∷ subject_tokens program of) ++ (all ++ back)) Any false (λ o. refl) (λ o. refl)
        (λ n. other_next begins_arithmetic _ (λ o b. refl) (there_next begins_choice _ (λ o b. refl) (other_next (part.is_key (codes "IF")) _ (λ o b. refl)
        (bind (head of S B.holds_them.enter) (λ o b. front of tokens when whens h (other_words printed) back o)
        (λ found k. bind (whens-all level scope of found.1 k.1 tokens when whens h printed) (λ o b. behind-all printed other H o)
        (λ state l. evaluated of (when ∷ whens) other printed H found.0 k.0 state l)))))))
