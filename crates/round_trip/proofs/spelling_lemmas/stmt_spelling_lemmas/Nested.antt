-- Statements with all that they hold, as they are printed.
use Rattle.std.proofs.Common.{◌≡◌, ℕ, zero, suc, Bool, true, false, ◌||◌, ◌&&◌, ◌⊎◌, inl, inr, List, [], ◌∷◌, ◌++◌, map, length, Option, Some, None, is_some, refl, ap, sym, ◌∙◌, subst, append_assoc, append-nil, arith}
use Rattle.std.proofs.lemmas.Bool.Decides.{nat_tests}
use Rattle.std.specs.Prelude.{codes, ◌==◌}
use Rattle.cob_tree.specs.declared.calc.Calc.{Calc}
use Rattle.cob_tree.specs.declared.calc.Target.{Target}
use Rattle.cob_tree.specs.declared.place.Place.{Place}
use Rattle.cob_tree.specs.declared.program.Program.{Program}
use Rattle.cob_tree.specs.declared.stmt.Arms.{Arms, out-Arms, roll-out-Arms, fold-roll-Arms}
use Rattle.cob_tree.specs.declared.stmt.Stmt.{Stmt, out-Stmt, roll-Stmt, roll-out-Stmt, map-Stmt, fold-roll-Stmt}
use Rattle.cob_tree.specs.declared.stmt.Stmt.TheOpen.{Stmt-F}
use Rattle.cob_tree.specs.declared.stmt.Stmt.TheVariants as stmts
use Rattle.cob_tree.specs.declared.stmt.When.{When, out-When, roll-out-When, fold-roll-When}
use Rattle.cob_tree.specs.declared.choice.Subject.{Subject}
use Rattle.cob_tree.specs.declared.choice.Test.{Test}
use Rattle.cobol_lex.specs.declared.token.TokenKind.{TokenKind}
use Rattle.cobol_lex.specs.declared.token.TokenKind.TheVariants as kinds
use Rattle.parser_combinators.specs.Form.{begins_by}
use Rattle.program_facts.specs.well_scoped.Part.{is_filled}
use Rattle.unparser.specs.Arithmetic.{arithmetic_tokens, end_word}
use Rattle.unparser.specs.Head.{head_step}
use Rattle.unparser.specs.Choice.{test_tokens}
use Rattle.unparser.specs.Token.{Tokens, joined}
use Rattle.cobol_print.specs.declared.units.statement.ArmPhrase.TheVariants.{AtEnd, OnSizeError}
use Rattle.cobol_print.specs.declared.units.unit.PrintUnit.{PrintUnit}
use Rattle.cobol_print.specs.units.Unit.{deeper}
use Rattle.cobol_print.specs.units.Statement.{Lines, ArmLines, WhenLines, some_lines, list_lines, word_line, held_by_else, held_by_other, tests_lines, whens_lines, arm_if_any, end_lines, stmt_step, arms_step, when_step, stmt_lines, arms_lines, when_lines}
use Rattle.cobol_print.specs.Unit.{all_tokens}
use Rattle.cobol_grammar.specs.declared.stmt_forms.phrase.Phrase.TheVariants as phrases
use Rattle.cobol_grammar.specs.declared.stmt_forms.scope.Scope.{Scope}
use Rattle.cobol_grammar.specs.stmt_forms.Arms as arm
use Rattle.cobol_grammar.specs.stmt_forms.Arms.{Level}
use Rattle.cobol_grammar.specs.stmt_forms.Choice as choice
use Rattle.cobol_grammar.specs.stmt_forms.Loop.{looped}
use Rattle.cobol_grammar.specs.stmt_forms.Part.{Parts}
use Rattle.cobol_grammar.specs.stmt_forms.Stmt as forms
use Rattle.cobol_grammar.specs.stmt_forms.Verb.{begins_stmt}
use Rattle.round_trip.specs.spelled_forms.Spelling.{first_of, Any, Spelled}
use Rattle.round_trip.proofs.spelled_forms_lemmas.Makers.{pure}
use Rattle.round_trip.specs.spelling.stmt_spelling.Behind.{Among, verbs, IsNot, BeginsPhrase}
use Rattle.round_trip.specs.spelling.stmt_spelling.Part.{Kept, PartsAreTold, SpellsFile}
use Rattle.round_trip.specs.spelling.stmt_spelling.Stmt.{Each, IfAny, Some_of, SpellsSubject, SpellsTest, SpellsWhen, SpellsCalc, SpellsShape, SpellsStmt, SpellsList}
use Rattle.round_trip.proofs.spelling_lemmas.stmt_spelling_lemmas.Behind.{true-false, first-append}
use Rattle.round_trip.proofs.spelling_lemmas.stmt_spelling_lemmas.Lists.{each}
use Rattle.round_trip.proofs.spelling_lemmas.stmt_spelling_lemmas.Along.{Gives, One, Turns, EndsOne, EndsAll, NotNext, Next, Not, list_tokens, along, list-enters, list-begins, all-of}
use Rattle.round_trip.proofs.spelling_lemmas.stmt_spelling_lemmas.ArmsSpelled.{IsHeld}
use Rattle.round_trip.proofs.spelling_lemmas.stmt_spelling_lemmas.Simple.{simple-one}
use Rattle.round_trip.proofs.spelling_lemmas.stmt_spelling_lemmas.Choices.{Branch, OtherHeld, other_words, other_held, whens_tokens, evaluate-one}
use Rattle.round_trip.proofs.spelling_lemmas.stmt_spelling_lemmas.Holding.{if-one, if-else-one, loop-one}
use Rattle.round_trip.proofs.spelling_lemmas.stmt_spelling_lemmas.ArmedStmts.{first_tokens, second_tokens, has_some, end_tokens, AreHeld, bare-one, armed-one, Into}
use Rattle.round_trip.proofs.spelling_lemmas.stmt_spelling_lemmas.ReadStmts.{Head, bare-read, armed-read}

pub tokens-append : (xs ys : List PrintUnit) → all_tokens (xs ++ ys) ≡ all_tokens xs ++ all_tokens ys
tokens-append [] ys = refl
tokens-append (x ∷ xs) ys = ap (λ t. x.tokens ++ t) (tokens-append xs ys) ∙ sym (append_assoc x.tokens (all_tokens xs) (all_tokens ys))

no-zero : (n : ℕ) → (suc n == 0) ≡ false
no-zero n = grind (arith, nat_tests)

and-true : (b : Bool) → (b && true) ≡ b
and-true true = refl
and-true false = refl

and-false : (b : Bool) → (b && false) ≡ false
and-false true = refl
and-false false = refl

module _ {Side Known : Type 0} (parts : Parts Side Known) (level : Level) (scope : Scope) where
  same-front : {t u : Bool → Tokens} (x : Stmt) → ((c : Bool) → t c ≡ u c) →
      ((c : Bool) (o : Option TokenKind) → NotNext (first_of (t c) o)) ⊎ ((x ≡ stmts.NextSentence) × ((c : Bool) → t c ≡ Next)) →
      ((c : Bool) (o : Option TokenKind) → NotNext (first_of (u c) o)) ⊎ ((x ≡ stmts.NextSentence) × ((c : Bool) → u c ≡ Next))
  same-front x e (inl h) = inl (λ c o. subst (λ t. NotNext (first_of t o)) (e c) (h c o))
  same-front x e (inr h) = inr (h.0, λ c. sym (e c) ∙ h.1 c)

  -- with the same tokens
  same-one : {t u : Bool → Tokens} (x : Stmt) → ((c : Bool) → t c ≡ u c) → One parts level scope t x → One parts level scope u x
  same-one x e O = record {
    begins = λ c o. subst (λ t. begins_by begins_stmt (first_of t o) ≡ true) (e c) (O.begins c o);
    enters = λ c o. subst (λ t. Among verbs (first_of t o)) (e c) (O.enters c o);
    fronts = same-front x e O.fronts;
    ends = λ c. subst (λ t. Gives parts level scope (x ∷ []) t (EndsOne c) false
        ⊎ (Gives parts level scope (x ∷ []) t (λ o. EndsOne c o × NotNext o) false × Gives parts level scope (x ∷ stmts.NextSentence ∷ []) (t ++ Next) Any false)) (e c) (O.ends c);
    before_not = subst (λ t. Gives parts level scope (x ∷ []) t IsNot false ⊎ Gives parts level scope (x ∷ []) (t ++ Not) BeginsPhrase true) (e true) O.before_not;
  }

module _ {Side Known : Type 0} {parts : Parts Side Known} {kept : Kept Side} (T : PartsAreTold parts kept) (program : Program) where
  abbrev Printed : ℕ → Bool → Stmt → Tokens
  Printed column closed x = all_tokens (stmt_lines program x column closed)

  abbrev pub ListPrinted : ℕ → List Stmt → Bool → Tokens
  ListPrinted column xs closed = all_tokens (list_lines (map (stmt_lines program) xs) column closed)

  some-told : (column : ℕ) (closed : Bool) (xs : List Stmt) → all_tokens (some_lines (map (stmt_lines program) xs) column closed) ≡ list_tokens (Printed column) closed xs
  unfolding list_tokens
  some-told column closed [] = refl
  some-told column closed (x ∷ []) =
      tokens-append (stmt_lines program x column (closed && true)) [] ∙ append-nil (Printed column (closed && true) x) ∙ ap (λ c. Printed column c x) (and-true closed)
  some-told column closed (x ∷ y ∷ xs) =
      tokens-append (stmt_lines program x column (closed && (suc (length (map (stmt_lines program) xs)) == 0))) (some_lines (map (stmt_lines program) (y ∷ xs)) column closed)
      ∙ ap (λ v. Printed column (closed && v) x ++ all_tokens (some_lines (map (stmt_lines program) (y ∷ xs)) column closed)) (no-zero (length (map (stmt_lines program) xs)))
      ∙ ap (λ c. Printed column c x ++ all_tokens (some_lines (map (stmt_lines program) (y ∷ xs)) column closed)) (and-false closed)
      ∙ ap (λ t. Printed column false x ++ t) (some-told column closed (y ∷ xs))

  pub list-told : (column : ℕ) (closed : Bool) (xs : List Stmt) → is_filled xs ≡ true → ListPrinted column xs closed ≡ list_tokens (Printed column) closed xs
  list-told column closed [] f = absurd (true-false f refl)
  list-told column closed (x ∷ xs) f = some-told column closed (x ∷ xs)

  abbrev Such : ℕ → ℕ → Scope → Stmt → Type 0
  Such levels column scope x = One parts (forms.level parts levels) scope (λ c. Printed column c x) x

  module _ (levels : ℕ) (scope : Scope) where
    abbrev Below : Level
    Below = forms.level parts levels

    held-not : (xs : List Stmt) (tokens : Tokens) → ((o : Option TokenKind) → begins_by begins_stmt (first_of tokens o) ≡ true) →
        Turns parts Below scope xs tokens IsNot false ⊎ Turns parts Below scope xs (tokens ++ Not) BeginsPhrase true →
        ((n : ℕ) → Spelled (forms.held parts (suc levels) scope) n tokens IsNot (λ found. found ≡ (xs, false)))
        ⊎ ((n : ℕ) → Spelled (forms.held parts (suc levels) scope) n (tokens ++ Not) BeginsPhrase (λ found. found ≡ (xs, true)))
    unfolding forms.held
    held-not xs tokens begins (inl F) = inl (λ n. all-of parts Below scope begins (F [] n))
    held-not xs tokens begins (inr F) =
        inr (λ n. all-of parts Below scope (λ o. ap (begins_by begins_stmt) (first-append tokens Not o) ∙ begins (first_of Not o)) (F [] n))

    -- by the tokens of its statements
    held-by : (toks : Bool → Stmt → Tokens) (xs : List Stmt) → is_filled xs ≡ true → Each (λ x. One parts Below scope (λ c. toks c x) x) xs →
        IsHeld (forms.level parts (suc levels)) scope xs (λ c. list_tokens toks c xs)
    unfolding forms.held forms.enter_level
    held-by toks xs f h = record {
      enter = λ n. pure tt;
      begins = λ c o. list-begins parts Below scope toks c xs f h o;
      enters = λ c o. list-enters parts Below scope toks c xs f h o;
      plain = λ c n. all-of parts Below scope (list-begins parts Below scope toks c xs f h) ((along parts Below scope toks c xs f h).plain [] n);
      before_not = held-not xs (list_tokens toks true xs) (list-begins parts Below scope toks true xs f h) ((along parts Below scope toks true xs f h).before_not refl);
    }

  same-held : (level : Level) (scope : Scope) (xs : List Stmt) (t u : Bool → Tokens) → ((c : Bool) → t c ≡ u c) → IsHeld level scope xs t → IsHeld level scope xs u
  same-held level scope xs t u e H = record {
    enter = H.enter;
    begins = λ c o. subst (λ t. begins_by begins_stmt (first_of t o) ≡ true) (e c) (H.begins c o);
    enters = λ c o. subst (λ t. Among verbs (first_of t o)) (e c) (H.enters c o);
    plain = λ c n. subst (λ t. Spelled (level.stmts scope) n t (EndsAll c) (λ found. found ≡ (xs, false))) (e c) (H.plain c n);
    before_not = subst (λ t. ((n : ℕ) → Spelled (level.stmts scope) n t IsNot (λ found. found ≡ (xs, false)))
        ⊎ ((n : ℕ) → Spelled (level.stmts scope) n (t ++ Not) BeginsPhrase (λ found. found ≡ (xs, true)))) (e true) H.before_not;
  }

  held-printed : (levels : ℕ) (scope : Scope) (column : ℕ) (xs : List Stmt) → is_filled xs ≡ true → Each (Such levels column scope) xs →
      IsHeld (forms.level parts (suc levels)) scope xs (ListPrinted column xs)
  held-printed levels scope column xs f h =
      same-held (forms.level parts (suc levels)) scope xs (λ c. list_tokens (Printed column) c xs) (ListPrinted column xs) (λ c. sym (list-told column c xs f)) (held-by levels scope (Printed column) xs f h)

  -- ---- one statement, over lists that are held

  module _ (levels : ℕ) (scope : Scope)
      (held : (inner : Scope) (xs : List Stmt) → SpellsList parts kept program levels inner xs → (column : ℕ) → IsHeld (forms.level parts levels) inner xs (ListPrinted column xs)) where
    abbrev Level_here : Level
    Level_here = forms.level parts levels

    abbrev Held : Scope → List Stmt → Type 0
    Held = SpellsList parts kept program levels

    abbrev Is_one : (Bool → Tokens) → Stmt → Type 0
    Is_one tokens x = One parts Level_here scope tokens x

    rolled-one : (x : Stmt) (y : Stmt-F Stmt Arms When) → roll-Stmt y ≡ x → {t u : Bool → Tokens} → ((c : Bool) → u c ≡ t c) → Is_one t x → Is_one u (roll-Stmt y)
    rolled-one x y e {u = u} same O = subst (λ z. Is_one u z) (sym e) (same-one parts Level_here scope x (λ c. sym (same c)) O)

    -- ---- arms

    abbrev lines_of : Option (List Stmt) → Option (List Lines)
    lines_of None = None
    lines_of (Some xs) = Some (map (stmt_lines program) xs)

    abbrev tokens_of : ℕ → Option (List Stmt) → Option (Bool → Tokens)
    tokens_of column None = None
    tokens_of column (Some xs) = Some (ListPrinted (deeper (deeper column)) xs)

    are-held : (column : ℕ) (xs : Option (List Stmt)) → IfAny (Held scope) xs → AreHeld Level_here scope xs (tokens_of column xs)
    are-held column None h = tt
    are-held column (Some xs) h = held scope xs h (deeper (deeper column))

    first-told : (column : ℕ) (xs : Option (List Stmt)) → all_tokens (arm_if_any (lines_of xs) OnSizeError false column) ≡ first_tokens phrases.Size (tokens_of column xs)
    first-told column None = refl
    first-told column (Some xs) = refl

    second-told : (column : ℕ) (xs : Option (List Stmt)) → all_tokens (arm_if_any (lines_of xs) OnSizeError true column) ≡ second_tokens phrases.Size (tokens_of column xs)
    second-told column None = refl
    second-told column (Some xs) = refl

    first-end-told : (column : ℕ) (xs : Option (List Stmt)) → all_tokens (arm_if_any (lines_of xs) AtEnd false column) ≡ first_tokens phrases.End (tokens_of column xs)
    first-end-told column None = refl
    first-end-told column (Some xs) = refl

    second-end-told : (column : ℕ) (xs : Option (List Stmt)) → all_tokens (arm_if_any (lines_of xs) AtEnd true column) ≡ second_tokens phrases.End (tokens_of column xs)
    second-end-told column None = refl
    second-end-told column (Some xs) = refl

    ends-told : (asked : Bool) (word : List ℕ) (column : ℕ) → all_tokens (end_lines asked word column) ≡ end_tokens asked word
    ends-told true word column = refl
    ends-told false word column = refl

    three-told : (xs ys zs : List PrintUnit) (t u v : Tokens) → all_tokens xs ≡ t → all_tokens ys ≡ u → all_tokens zs ≡ v → all_tokens ((xs ++ ys) ++ zs) ≡ (t ++ u) ++ v
    three-told xs ys zs t u v e k l =
        tokens-append (xs ++ ys) zs ∙ ap (λ s. s ++ all_tokens zs) (tokens-append xs ys) ∙ ap (λ s. (s ++ all_tokens ys) ++ all_tokens zs) e
        ∙ ap (λ s. (t ++ s) ++ all_tokens zs) k ∙ ap (λ s. (t ++ u) ++ s) l

    has-some : (column : ℕ) (first second : Option (List Stmt)) → (is_some (lines_of first) || is_some (lines_of second)) ≡ has_some (tokens_of column first) (tokens_of column second)
    has-some column None None = refl
    has-some column None (Some ys) = refl
    has-some column (Some xs) second = refl

    abbrev size_lines : Option (List Stmt) → Option (List Stmt) → ℕ → List PrintUnit
    size_lines first second column = arm_if_any (lines_of first) OnSizeError false column ++ arm_if_any (lines_of second) OnSizeError true column

    abbrev end_arm_lines : Option (List Stmt) → Option (List Stmt) → ℕ → List PrintUnit
    end_arm_lines first second column = arm_if_any (lines_of first) AtEnd false column ++ arm_if_any (lines_of second) AtEnd true column

    arith-armed-one : (calc : Calc) (into : List Target) (first second : Option (List Stmt)) → SpellsCalc parts kept program calc into → IfAny (Held scope) first → IfAny (Held scope) second → (column : ℕ) →
        has_some (tokens_of column first) (tokens_of column second) ≡ true →
        Is_one (λ c. arithmetic_tokens program calc into ++ all_tokens (size_lines first second column ++ end_lines (has_some (tokens_of column first) (tokens_of column second) || c) (end_word calc) column))
        (stmts.Arith calc into (arm.arms_of first second))
    arith-armed-one calc into first second S h k column e =
        same-one parts Level_here scope (stmts.Arith calc into (arm.arms_of first second))
        (λ c. ap (λ t. arithmetic_tokens program calc into ++ t) (sym (three-told (arm_if_any (lines_of first) OnSizeError false column) (arm_if_any (lines_of second) OnSizeError true column)
        (end_lines (has_some (tokens_of column first) (tokens_of column second) || c) (end_word calc) column) _ _ _ (first-told column first) (second-told column second)
        (ap (λ v. all_tokens (end_lines (v || c) (end_word calc) column)) e ∙ ends-told true (end_word calc) column))))
        (armed-one T program Level_here scope calc into first second (tokens_of column first) (tokens_of column second) S (are-held column first h) (are-held column second k) e)

    arith-bare-one : (calc : Calc) (into : List Target) → SpellsCalc parts kept program calc into → (column : ℕ) →
        Is_one (λ c. arithmetic_tokens program calc into ++ all_tokens (size_lines None None column ++ end_lines (has_some None None || c) (end_word calc) column)) (stmts.Arith calc into (arm.arms_of None None))
    arith-bare-one calc into S column =
        same-one parts Level_here scope (stmts.Arith calc into (arm.arms_of None None)) (λ c. ap (λ t. arithmetic_tokens program calc into ++ t) (sym (ends-told c (end_word calc) column)))
        (bare-one T program Level_here scope calc into S)

    arith-one : (calc : Calc) (into : List Target) (first second : Option (List Stmt)) → SpellsCalc parts kept program calc into → IfAny (Held scope) first → IfAny (Held scope) second → (column : ℕ) →
        Is_one (λ c. arithmetic_tokens program calc into ++ all_tokens (size_lines first second column ++ end_lines (has_some (tokens_of column first) (tokens_of column second) || c) (end_word calc) column))
        (stmts.Arith calc into (arm.arms_of first second))
    arith-one calc into None None S h k column = arith-bare-one calc into S column
    arith-one calc into None (Some ys) S h k column = arith-armed-one calc into None (Some ys) S h k column refl
    arith-one calc into (Some xs) second S h k column = arith-armed-one calc into (Some xs) second S h k column refl

    abbrev Reading : ℕ → Option Place → Tokens
    Reading number into = Head T program Level_here scope number into

    read-armed-one : (number : ℕ) (into : Option Place) (first second : Option (List Stmt)) → SpellsFile parts kept program number → IfAny (Into T program Level_here scope number) into →
        IfAny (Held scope) first → IfAny (Held scope) second → (column : ℕ) → has_some (tokens_of column first) (tokens_of column second) ≡ true →
        Is_one (λ c. Reading number into ++ all_tokens (end_arm_lines first second column ++ end_lines (has_some (tokens_of column first) (tokens_of column second) || c) (codes "END-READ") column))
        (stmts.Read number into (arm.arms_of first second))
    read-armed-one number into first second S I h k column e =
        same-one parts Level_here scope (stmts.Read number into (arm.arms_of first second))
        (λ c. ap (λ t. Reading number into ++ t) (sym (three-told (arm_if_any (lines_of first) AtEnd false column) (arm_if_any (lines_of second) AtEnd true column)
        (end_lines (has_some (tokens_of column first) (tokens_of column second) || c) (codes "END-READ") column) _ _ _ (first-end-told column first) (second-end-told column second)
        (ap (λ v. all_tokens (end_lines (v || c) (codes "END-READ") column)) e ∙ ends-told true (codes "END-READ") column))))
        (armed-read T program Level_here scope number into first second (tokens_of column first) (tokens_of column second) S I (are-held column first h) (are-held column second k) e)

    read-one : (number : ℕ) (into : Option Place) (first second : Option (List Stmt)) → SpellsFile parts kept program number → IfAny (Into T program Level_here scope number) into →
        IfAny (Held scope) first → IfAny (Held scope) second → (column : ℕ) →
        Is_one (λ c. Reading number into ++ all_tokens (end_arm_lines first second column ++ end_lines (has_some (tokens_of column first) (tokens_of column second) || c) (codes "END-READ") column))
        (stmts.Read number into (arm.arms_of first second))
    read-one number into None None S I h k column =
        same-one parts Level_here scope (stmts.Read number into (arm.arms_of None None)) (λ c. ap (λ t. Reading number into ++ t) (sym (ends-told c (codes "END-READ") column)))
        (bare-read T program Level_here scope number into S I)
    read-one number into None (Some ys) S I h k column = read-armed-one number into None (Some ys) S I h k column refl
    read-one number into (Some xs) second S I h k column = read-armed-one number into (Some xs) second S I h k column refl

    -- ---- each shape

    abbrev mapped : Stmt-F Stmt Arms When → Stmt-F Lines ArmLines WhenLines
    mapped y = map-Stmt Stmt Arms When Lines ArmLines WhenLines (stmt_lines program) (arms_lines program) (when_lines program) y

    abbrev Stepped : ℕ → Stmt-F Stmt Arms When → Type 0
    Stepped column y = Is_one (λ c. all_tokens (stmt_step program (mapped y) column c)) (roll-Stmt y)

    abbrev arms_mapped : Option (List Stmt) → Option (List Stmt) → ArmLines
    arms_mapped first second = arms_step (record { first = lines_of first; second = lines_of second })

    arms-lines : (first second : Option (List Stmt)) → arms_lines program (arm.arms_of first second) ≡ arms_mapped first second
    arms-lines None None = fold-roll-Arms Lines ArmLines WhenLines (stmt_step program) arms_step (when_step program) (record { first = None; second = None })
    arms-lines None (Some ys) = fold-roll-Arms Lines ArmLines WhenLines (stmt_step program) arms_step (when_step program) (record { first = None; second = Some ys })
    arms-lines (Some xs) None = fold-roll-Arms Lines ArmLines WhenLines (stmt_step program) arms_step (when_step program) (record { first = Some xs; second = None })
    arms-lines (Some xs) (Some ys) = fold-roll-Arms Lines ArmLines WhenLines (stmt_step program) arms_step (when_step program) (record { first = Some xs; second = Some ys })

    arith-shape : (calc : Calc) (into : List Target) (first second : Option (List Stmt)) → SpellsCalc parts kept program calc into → IfAny (Held scope) first → IfAny (Held scope) second → (column : ℕ) →
        Stepped column (Stmt-F.Arith calc into (arm.arms_of first second))
    arith-shape calc into first second S h k column =
        rolled-one (stmts.Arith calc into (arm.arms_of first second)) (Stmt-F.Arith calc into (arm.arms_of first second)) (stmts.rolls-Arith calc into (arm.arms_of first second))
        (λ c. ap (λ (l : ArmLines). arithmetic_tokens program calc into ++ all_tokens (l.lines OnSizeError column ++ end_lines (l.some || c) (end_word calc) column)) (arms-lines first second)
        ∙ ap (λ v. arithmetic_tokens program calc into ++ all_tokens (size_lines first second column ++ end_lines (v || c) (end_word calc) column)) (has-some column first second))
        (arith-one calc into first second S h k column)

    read-shape : (number : ℕ) (into : Option Place) (first second : Option (List Stmt)) → SpellsFile parts kept program number → IfAny (Into T program Level_here scope number) into →
        IfAny (Held scope) first → IfAny (Held scope) second → (column : ℕ) → Stepped column (Stmt-F.Read number into (arm.arms_of first second))
    read-shape number into first second S I h k column =
        rolled-one (stmts.Read number into (arm.arms_of first second)) (Stmt-F.Read number into (arm.arms_of first second)) (stmts.rolls-Read number into (arm.arms_of first second))
        (λ c. ap (λ (l : ArmLines). Reading number into ++ all_tokens (l.lines AtEnd column ++ end_lines (l.some || c) (codes "END-READ") column)) (arms-lines first second)
        ∙ ap (λ v. Reading number into ++ all_tokens (end_arm_lines first second column ++ end_lines (v || c) (codes "END-READ") column)) (has-some column first second))
        (read-one number into first second S I h k column)

    -- ---- EVALUATE

    abbrev TestsPrinted : List Test → Tokens
    TestsPrinted list = joined (map (λ test. kinds.Word (codes "WHEN") ∷ test_tokens program test) list)

    tests-told : (column : ℕ) (list : List Test) → all_tokens (tests_lines program column list) ≡ TestsPrinted list
    tests-told column [] = refl
    tests-told column (test ∷ list) = ap (λ t. (kinds.Word (codes "WHEN") ∷ test_tokens program test) ++ t) (tests-told column list)

    abbrev WhenPrinted : ℕ → When → Tokens
    WhenPrinted column when = all_tokens (when_lines program when column)

    when-told : (column : ℕ) (when : When) → WhenPrinted column when ≡ TestsPrinted (out-When when).tests ++ ListPrinted (deeper (deeper column)) (out-When when).stmts false
    when-told column when =
        ap (λ (f : WhenLines). all_tokens (f column)) (ap (when_lines program) (sym (roll-out-When when)) ∙ fold-roll-When Lines ArmLines WhenLines (stmt_step program) arms_step (when_step program) (out-When when))
        ∙ tokens-append (tests_lines program (deeper column) (out-When when).tests) (list_lines (map (stmt_lines program) (out-When when).stmts) (deeper (deeper column)) false)
        ∙ ap (λ t. t ++ ListPrinted (deeper (deeper column)) (out-When when).stmts false) (tests-told (deeper column) (out-When when).tests)

    whens-told : (column : ℕ) (whens : List When) → all_tokens (whens_lines (map (when_lines program) whens) column) ≡ whens_tokens whens (WhenPrinted column)
    unfolding whens_tokens
    whens-told column [] = refl
    whens-told column (when ∷ whens) =
        tokens-append (when_lines program when column) (whens_lines (map (when_lines program) whens) column) ∙ ap (λ t. WhenPrinted column when ++ t) (whens-told column whens)

    branch-by : (of : Subject) (column : ℕ) (when : When) (list : List Test) → (out-When when).tests ≡ list → is_filled list ≡ true → Each (SpellsTest parts kept program of) list →
        Held scope (out-When when).stmts → Branch T program Level_here scope of when (WhenPrinted column when)
    branch-by of column when [] e f h k = absurd (true-false f refl)
    branch-by of column when (test ∷ list) e f h k = record {
      first = test;
      others = list;
      held = (out-When when).stmts;
      printed = ListPrinted (deeper (deeper column)) (out-When when).stmts;
      is = sym (roll-out-When when) ∙ ap (λ l. choice.when_of l (out-When when).stmts) e;
      told = when-told column when ∙ ap (λ l. TestsPrinted l ++ ListPrinted (deeper (deeper column)) (out-When when).stmts false) e;
      spells = h;
      holds_them = held scope (out-When when).stmts k (deeper (deeper column));
    }

    branch : (of : Subject) (column : ℕ) (when : When) → SpellsWhen parts kept program Held scope of when → Branch T program Level_here scope of when (WhenPrinted column when)
    branch of column when h = branch-by of column when (out-When when).tests refl h.0.0 h.0.1 h.1

    other-is-held : (column : ℕ) (other : Option (List Stmt)) → IfAny (Held scope) other → OtherHeld Level_here scope other (tokens_of column other)
    other-is-held column None h = tt
    other-is-held column (Some xs) h = held scope xs h (deeper (deeper column))

    abbrev EndEvaluate : Tokens
    EndEvaluate = kinds.Word (codes "END-EVALUATE") ∷ []

    other-told : (column : ℕ) (other : Option (List Stmt)) → all_tokens (held_by_other (lines_of other) column) ≡ other_words (tokens_of column other) ++ (other_held (tokens_of column other) ++ EndEvaluate)
    other-told column None = refl
    other-told column (Some xs) =
        ap (λ t. kinds.Word (codes "WHEN") ∷ kinds.Word (codes "OTHER") ∷ t)
        (tokens-append (list_lines (map (stmt_lines program) xs) (deeper (deeper column)) false) (word_line column (codes "END-EVALUATE") ∷ []))

    evaluate-told : (column : ℕ) (whens : List When) (other : Option (List Stmt)) →
        all_tokens (whens_lines (map (when_lines program) whens) column ++ held_by_other (lines_of other) column)
        ≡ (whens_tokens whens (WhenPrinted column) ++ other_words (tokens_of column other)) ++ (other_held (tokens_of column other) ++ EndEvaluate)
    evaluate-told column whens other =
        tokens-append (whens_lines (map (when_lines program) whens) column) (held_by_other (lines_of other) column)
        ∙ ap (λ t. t ++ all_tokens (held_by_other (lines_of other) column)) (whens-told column whens)
        ∙ ap (λ t. whens_tokens whens (WhenPrinted column) ++ t) (other-told column other)
        ∙ sym (append_assoc (whens_tokens whens (WhenPrinted column)) (other_words (tokens_of column other)) (other_held (tokens_of column other) ++ EndEvaluate))

    evaluate-shape : (of : Subject) (whens : List When) (other : Option (List Stmt)) → SpellsSubject parts kept program of → Some_of (SpellsWhen parts kept program Held scope of) whens → IfAny (Held scope) other →
        (column : ℕ) → Stepped column (Stmt-F.Evaluate of whens other)
    evaluate-shape of [] other S h k column = absurd (true-false h.0 refl)
    evaluate-shape of (when ∷ whens) None S h k column =
        rolled-one (stmts.Evaluate of (when ∷ whens) None) (Stmt-F.Evaluate of (when ∷ whens) None) (stmts.rolls-Evaluate of (when ∷ whens) None)
        (λ c. ap (λ t. head_step program (mapped (Stmt-F.Evaluate of (when ∷ whens) None)) ++ t) (evaluate-told column (when ∷ whens) None))
        (evaluate-one T program Level_here scope of (WhenPrinted column) when whens None None S (each (branch of column) (when ∷ whens) h.1) tt)
    evaluate-shape of (when ∷ whens) (Some xs) S h k column =
        rolled-one (stmts.Evaluate of (when ∷ whens) (Some xs)) (Stmt-F.Evaluate of (when ∷ whens) (Some xs)) (stmts.rolls-Evaluate of (when ∷ whens) (Some xs))
        (λ c. ap (λ t. head_step program (mapped (Stmt-F.Evaluate of (when ∷ whens) (Some xs))) ++ t) (evaluate-told column (when ∷ whens) (Some xs)))
        (evaluate-one T program Level_here scope of (WhenPrinted column) when whens (Some xs) (tokens_of column (Some xs)) S (each (branch of column) (when ∷ whens) h.1) (other-is-held column (Some xs) k))

    shape : (y : Stmt-F Stmt Arms When) → SpellsShape parts kept program Held scope y → (column : ℕ) → Stepped column y
    shape (Stmt-F.Display items advance) h column = simple-one T program Level_here scope Held (Stmt-F.Display items advance) refl h
    shape (Stmt-F.Move from to) h column = simple-one T program Level_here scope Held (Stmt-F.Move from to) refl h
    shape (Stmt-F.Arith calc into arms) h column =
        subst (λ a. Stepped column (Stmt-F.Arith calc into a)) (roll-out-Arms arms) (arith-shape calc into (out-Arms arms).first (out-Arms arms).second h.0 h.1.0 h.1.1 column)
    shape (Stmt-F.SetTrue place) h column = simple-one T program Level_here scope Held (Stmt-F.SetTrue place) refl h
    shape (Stmt-F.Opens openings) h column = simple-one T program Level_here scope Held (Stmt-F.Opens openings) refl h
    shape (Stmt-F.Closes files) h column = simple-one T program Level_here scope Held (Stmt-F.Closes files) refl h
    shape (Stmt-F.Read number into arms) h column =
        subst (λ a. Stepped column (Stmt-F.Read number into a)) (roll-out-Arms arms) (read-shape number into (out-Arms arms).first (out-Arms arms).second h.0 h.1.0 h.1.1.0 h.1.1.1 column)
    shape (Stmt-F.Write entry from) h column = simple-one T program Level_here scope Held (Stmt-F.Write entry from) refl h
    shape (Stmt-F.Rewrite entry from) h column = simple-one T program Level_here scope Held (Stmt-F.Rewrite entry from) refl h
    shape (Stmt-F.If cond met []) h column =
        rolled-one (stmts.If cond met []) (Stmt-F.If cond met []) (stmts.rolls-If cond met [])
        (λ c. ap (λ t. head_step program (mapped (Stmt-F.If cond met [])) ++ t) (tokens-append (list_lines (map (stmt_lines program) met) (deeper column) false) (word_line column (codes "END-IF") ∷ [])))
        (if-one T program Level_here scope cond met (ListPrinted (deeper column) met) h.0 (held scope met h.1.0 (deeper column)))
    shape (Stmt-F.If cond met (x ∷ xs)) h column =
        rolled-one (stmts.If cond met (x ∷ xs)) (Stmt-F.If cond met (x ∷ xs)) (stmts.rolls-If cond met (x ∷ xs))
        (λ c. ap (λ t. head_step program (mapped (Stmt-F.If cond met (x ∷ xs))) ++ t)
        (tokens-append (list_lines (map (stmt_lines program) met) (deeper column) false) (held_by_else (map (stmt_lines program) (x ∷ xs)) column)
        ∙ ap (λ t. ListPrinted (deeper column) met false ++ kinds.Word (codes "ELSE") ∷ t)
        (tokens-append (list_lines (map (stmt_lines program) (x ∷ xs)) (deeper column) false) (word_line column (codes "END-IF") ∷ []))))
        (if-else-one T program Level_here scope cond met (x ∷ xs) (ListPrinted (deeper column) met) (ListPrinted (deeper column) (x ∷ xs)) h.0 (held scope met h.1.0 (deeper column)) (held scope (x ∷ xs) h.1.1 (deeper column)))
    shape (Stmt-F.Evaluate of whens other) h column = evaluate-shape of whens other h.0 h.1.0 h.1.1 column
    shape (Stmt-F.Loop control body) h column =
        rolled-one (stmts.Loop control body) (Stmt-F.Loop control body) (stmts.rolls-Loop control body)
        (λ c. ap (λ t. head_step program (mapped (Stmt-F.Loop control body)) ++ t) (tokens-append (list_lines (map (stmt_lines program) body) (deeper column) false) (word_line column (codes "END-PERFORM") ∷ [])))
        (loop-one T program Level_here scope control body (ListPrinted (deeper column) body) h.0 (held (looped scope) body h.1 (deeper column)))
    shape (Stmt-F.Perform entry exit control) h column = simple-one T program Level_here scope Held (Stmt-F.Perform entry exit control) refl h
    shape (Stmt-F.Go to) h column = simple-one T program Level_here scope Held (Stmt-F.Go to) refl h
    shape (Stmt-F.GoDepending to on) h column = simple-one T program Level_here scope Held (Stmt-F.GoDepending to on) refl h
    shape Stmt-F.NextSentence h column = simple-one T program Level_here scope Held Stmt-F.NextSentence refl h
    shape Stmt-F.StopRun h column = simple-one T program Level_here scope Held Stmt-F.StopRun refl h
    shape Stmt-F.Exit h column = absurd h
    shape Stmt-F.ExitParagraph h column = simple-one T program Level_here scope Held Stmt-F.ExitParagraph refl h
    shape Stmt-F.ExitSection h column = simple-one T program Level_here scope Held Stmt-F.ExitSection refl h
    shape (Stmt-F.ExitPerform cycle) h column = simple-one T program Level_here scope Held (Stmt-F.ExitPerform cycle) refl h
    shape Stmt-F.Continue h column = simple-one T program Level_here scope Held Stmt-F.Continue refl h

    pub stmt-one : (column : ℕ) (x : Stmt) → SpellsStmt parts kept program Held scope x → Such levels column scope x
    stmt-one column x h =
        subst (Such levels column scope) (roll-out-Stmt x)
        (subst (λ (f : Lines). Is_one (λ c. all_tokens (f column c)) (roll-Stmt (out-Stmt x)))
        (sym (fold-roll-Stmt Lines ArmLines WhenLines (stmt_step program) arms_step (when_step program) (out-Stmt x))) (shape (out-Stmt x) h column))

  -- ---- by the levels

  pub held-spells : (levels : ℕ) (scope : Scope) (xs : List Stmt) → SpellsList parts kept program levels scope xs → (column : ℕ) →
      IsHeld (forms.level parts levels) scope xs (ListPrinted column xs)
  unfolding SpellsList
  held-spells zero scope xs h column = absurd h
  held-spells (suc levels) scope xs h column =
      held-printed levels scope column xs h.0 (each (stmt-one levels scope (held-spells levels) column) xs h.1)
