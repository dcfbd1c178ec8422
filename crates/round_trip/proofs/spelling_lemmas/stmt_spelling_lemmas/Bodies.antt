-- The sentences of a paragraph.
use Rattle.std.proofs.Common.{◌≡◌, ℕ, suc, ◌+◌, Bool, true, false, inl, inr, List, [], ◌∷◌, ◌++◌, map, length, Option, Some, None, refl, ap, sym, ◌∙◌, subst, append_assoc, append-nil}
use Rattle.std.specs.Prelude.{codes}
use Rattle.std.proofs.lemmas.Slice.Eq.{bytes_eq-Decides}
use Rattle.cob_tree.specs.declared.program.Program.{Program}
use Rattle.cob_tree.specs.declared.program.Sentence.{Sentence}
use Rattle.cob_tree.specs.declared.stmt.Stmt.{Stmt, out-Stmt, roll-out-Stmt, fold-roll-Stmt}
use Rattle.cob_tree.specs.declared.stmt.Stmt.TheOpen.{Stmt-F}
use Rattle.cob_tree.specs.declared.stmt.Stmt.TheVariants as stmts
use Rattle.cobol_lex.specs.declared.token.TokenKind.{TokenKind}
use Rattle.cobol_lex.specs.declared.token.TokenKind.TheVariants as kinds
use Rattle.parser_combinators.specs.declared.note.Position.{Position}
use Rattle.parser_combinators.specs.Form as form
use Rattle.parser_combinators.specs.Form.{Form, begins_by}
use Rattle.parser_combinators.specs.Part as part
use Rattle.program_facts.specs.well_scoped.Part.{is_filled}
use Rattle.unparser.specs.Token.{Tokens, joined}
use Rattle.cobol_print.specs.units.Unit.{ended}
use Rattle.cobol_print.specs.units.Division.{sentence_lines, sentence_units}
use Rattle.cobol_print.specs.units.Statement.{Lines, ArmLines, WhenLines, stmt_step, arms_step, when_step, stmt_lines}
use Rattle.cobol_print.specs.Unit.{all_tokens}
use Rattle.cobol_grammar.specs.declared.stmt_forms.scope.Scope.{Scope}
use Rattle.cobol_grammar.specs.stmt_forms.Arms.{Level}
use Rattle.cobol_grammar.specs.stmt_forms.Jump as jump
use Rattle.cobol_grammar.specs.stmt_forms.Part.{Parts}
use Rattle.cobol_grammar.specs.stmt_forms.Paragraph as paragraphs
use Rattle.cobol_grammar.specs.stmt_forms.Stmt as forms
use Rattle.cob_base.specs.Limit.{max_nesting}
use Rattle.cobol_grammar.specs.stmt_forms.Verb.{begins_stmt, begins_simple, begins_moving, begins_filing, begins_jumping}
use Rattle.round_trip.specs.spelled_forms.Spelling.{first_of, Any, Spelled}
use Rattle.round_trip.proofs.spelled_forms_lemmas.Makers.{pure, hence, where_behind, bind, then, ending, there_next, other_next, no_turn}
use Rattle.round_trip.proofs.spelled_forms_lemmas.Tokens.{key, period}
use Rattle.round_trip.specs.spelling.stmt_spelling.Behind.{BehindStmt}
use Rattle.round_trip.specs.spelling.stmt_spelling.Part.{Kept, PartsAreTold}
use Rattle.round_trip.specs.spelling.stmt_spelling.Stmt.{Each, Some_of, SpellsStmt, SpellsList}
use Rattle.round_trip.specs.spelling.stmt_spelling.Division.{SpellsSentence, SpellsSentences}
use Rattle.round_trip.proofs.spelling_lemmas.stmt_spelling_lemmas.Behind.{verb-stmt, first-append, true-false}
use Rattle.round_trip.proofs.spelling_lemmas.stmt_spelling_lemmas.Lists.{each, IsItem, loop-items}
use Rattle.round_trip.proofs.spelling_lemmas.stmt_spelling_lemmas.Along.{Turns, EndsAll, list_tokens, along, list-enters, all-no-stmt}
use Rattle.round_trip.proofs.spelling_lemmas.stmt_spelling_lemmas.ArmsSpelled.{IsHeld}
use Rattle.round_trip.proofs.spelling_lemmas.stmt_spelling_lemmas.Nested.{ListPrinted, held-spells, stmt-one, list-told}
use Rattle.round_trip.proofs.spelling_lemmas.stmt_spelling_lemmas.Sentences.{ended-told, sentence-end, exit_word, Printed, Stepped, step-told, not-exit, ExitTurn, exit-turn}

abbrev pub NoStmt : Option TokenKind → Type 0
NoStmt o = begins_by begins_stmt o ≡ false

exit-begins : (kind : TokenKind) → part.is_key (codes "EXIT") kind ≡ true → begins_stmt kind ≡ true
unfolding begins_stmt begins_simple begins_moving begins_filing begins_jumping
exit-begins (kinds.Word other) e = subst (λ w. begins_stmt (kinds.Word w) ≡ true) ((bytes_eq-Decides (codes "EXIT") other).0 e) refl
exit-begins other e = absurd cc

exit-by : (kind : TokenKind) → begins_stmt kind ≡ false → (b : Bool) → part.is_key (codes "EXIT") kind ≡ b → b ≡ false
exit-by kind none false e = refl
exit-by kind none true e = true-false (exit-begins kind e) none

no-exit : (o : Option TokenKind) → NoStmt o → begins_by (part.is_key (codes "EXIT")) o ≡ false
no-exit None e = refl
no-exit (Some kind) e = exit-by kind e (part.is_key (codes "EXIT") kind) refl

module _ {Side Known : Type 0} {parts : Parts Side Known} {kept : Kept Side} (T : PartsAreTold parts kept) (program : Program) where
  abbrev pub sentence_tokens : Sentence → Tokens
  sentence_tokens sentence = all_tokens (sentence_units program sentence)

  abbrev List_of : List Stmt → Tokens
  List_of xs = list_tokens (Printed T program 12) false xs

  list-front : (P : Option TokenKind → Type 0) (x : Stmt) (xs : List Stmt) (o : Option TokenKind) → ((p : Option TokenKind) → P (first_of (Printed T program 12 false x) p)) → P (first_of (List_of (x ∷ xs)) o)
  unfolding list_tokens
  list-front P x [] o h = h o
  list-front P x (y ∷ xs) o h = subst P (sym (first-append (Printed T program 12 false x) (List_of (y ∷ xs)) o)) (h (first_of (List_of (y ∷ xs)) o))

  list-split : (x : Stmt) (xs : List Stmt) → List_of (x ∷ xs) ≡ Printed T program 12 false x ++ List_of xs
  unfolding list_tokens
  list-split x [] = sym (append-nil (Printed T program 12 false x))
  list-split x (y ∷ xs) = refl

  module _ (levels : ℕ) (scope : Scope) where
    abbrev Below : Level
    Below = forms.level parts levels

    abbrev Spells : Sentence → Type 0
    Spells sentence = SpellsList parts kept program (suc levels) scope sentence.stmts

    abbrev SpellsOne : Stmt → Type 0
    SpellsOne x = SpellsStmt parts kept program (SpellsList parts kept program levels) scope x

    opened : (xs : List Stmt) → SpellsList parts kept program (suc levels) scope xs → Some_of SpellsOne xs
    unfolding SpellsList
    opened xs h = h

    held-of : (sentence : Sentence) → Spells sentence → IsHeld (forms.level parts (suc levels)) scope sentence.stmts (ListPrinted T program 12 sentence.stmts)
    held-of sentence h = held-spells T program (suc levels) scope sentence.stmts h 12

    sentence-told : (sentence : Sentence) → Spells sentence → sentence_tokens sentence ≡ ListPrinted T program 12 sentence.stmts false ++ kinds.Period ∷ []
    sentence-told sentence h = ended-told (sentence_lines program sentence) ((held-of sentence h).begins false None)

    abbrev One_form : Form Sentence
    One_form = form.◌>>=◌ (forms.stmts_with parts Below scope) paragraphs.sentence_end

    one-sentence : (sentence : Sentence) → Spells sentence → (n : ℕ) → Spelled One_form n (sentence_tokens sentence) Any (λ s. s ≡ sentence)
    unfolding forms.held
    one-sentence sentence h n =
        subst (λ t. Spelled One_form n t Any (λ s. s ≡ sentence)) (sym (sentence-told sentence h))
        (bind ((held-of sentence h).plain false n) (λ o b. tt) (λ found e. sentence-end sentence.stmts found e))

    sentence-begins : (sentence : Sentence) → Spells sentence → (o : Option TokenKind) → begins_by begins_stmt (first_of (sentence_tokens sentence) o) ≡ true
    sentence-begins sentence h o =
        ap (λ t. begins_by begins_stmt (first_of t o)) (sentence-told sentence h)
        ∙ ap (begins_by begins_stmt) (first-append (ListPrinted T program 12 sentence.stmts false) (kinds.Period ∷ []) o) ∙ (held-of sentence h).begins false (Some kinds.Period)

    one-item : (sentence : Sentence) → Spells sentence → IsItem begins_stmt One_form sentence_tokens Any sentence
    one-item sentence h = record {
      spelled = one-sentence sentence h;
      begins = sentence-begins sentence h;
      enters = λ o. tt;
    }

    -- ---- a sentence that begins with EXIT and a further word

    list-tokens-told : (x : Stmt) (xs : List Stmt) → Spells (paragraphs.sentence_of (x ∷ xs)) → sentence_tokens (paragraphs.sentence_of (x ∷ xs)) ≡ Printed T program 12 false x ++ (List_of xs ++ kinds.Period ∷ [])
    list-tokens-told x xs h =
        sentence-told (paragraphs.sentence_of (x ∷ xs)) h ∙ ap (λ t. t ++ kinds.Period ∷ []) (list-told T program 12 false (x ∷ xs) refl ∙ list-split x xs)
        ∙ append_assoc (Printed T program 12 false x) (List_of xs) (kinds.Period ∷ [])

    exit-of : (x : Stmt) → exit_word (out-Stmt x) ≡ true → SpellsOne x → ExitTurn T program Below scope (SpellsList parts kept program levels) x (λ c. Printed T program 12 c x)
    exit-of x e h =
        let E = exit-turn T program Below scope (SpellsList parts kept program levels) (out-Stmt x) e h 12 in
        record {
          rest = E.rest;
          told = λ c. step-told T program 12 c x ∙ E.told c;
          word = E.word;
          behind = λ n position. hence (λ y k. k ∙ roll-out-Stmt x) (E.behind n position);
        }

    no-exit-at : (x : Stmt) (xs : List Stmt) → Spells (paragraphs.sentence_of (x ∷ xs)) → SpellsOne x → exit_word (out-Stmt x) ≡ false → (o : Option TokenKind) →
        begins_by (part.is_key (codes "EXIT")) (first_of (sentence_tokens (paragraphs.sentence_of (x ∷ xs))) o) ≡ false
    no-exit-at x xs h k e o =
        let back : Tokens = List_of xs ++ kinds.Period ∷ [] in
        ap (λ t. begins_by (part.is_key (codes "EXIT")) (first_of t o)) (list-tokens-told x xs h ∙ ap (λ t. t ++ back) (step-told T program 12 false x))
        ∙ ap (begins_by (part.is_key (codes "EXIT"))) (first-append (Stepped T program 12 false (out-Stmt x)) back o) ∙ not-exit T program Below scope (SpellsList parts kept program levels) (out-Stmt x) e k 12 false (first_of back o)

    others-turn : (xs : List Stmt) → Each SpellsOne xs → Turns parts Below scope xs (List_of xs) (EndsAll false) false
    unfolding list_tokens
    others-turn [] h before n = no_turn begins_stmt (forms.stmts_turn parts Below scope) (all-no-stmt false) (ap (λ l. (l, false)) (sym (append-nil before)))
    others-turn (x ∷ xs) h before n =
        (along parts Below scope (Printed T program 12) false (x ∷ xs) refl (each (stmt-one T program levels scope (held-spells T program levels) 12) (x ∷ xs) h)).plain before n

    behind-exit : (xs : List Stmt) → Each SpellsOne xs → (o : Option TokenKind) → BehindStmt (first_of (List_of xs ++ kinds.Period ∷ []) o)
    unfolding list_tokens
    behind-exit [] h o = tt
    behind-exit (x ∷ xs) h o =
        subst BehindStmt (sym (first-append (List_of (x ∷ xs)) (kinds.Period ∷ []) o)) (verb-stmt _
        (list-enters parts Below scope (Printed T program 12) false (x ∷ xs) refl (each (stmt-one T program levels scope (held-spells T program levels) 12) (x ∷ xs) h) (Some kinds.Period)))

    abbrev Exit_form : Position → Form Sentence
    Exit_form position = form.◌>>=◌ (jump.exit_behind scope position) (λ first. form.◌>>=◌ (forms.stmts_from parts Below scope (first ∷ [], false)) paragraphs.sentence_end)

    exit-sentence : (x : Stmt) (xs : List Stmt) → ExitTurn T program Below scope (SpellsList parts kept program levels) x (λ c. Printed T program 12 c x) → Each SpellsOne xs → (rest : Tokens) →
        ((n : ℕ) (position : Position) → Spelled (jump.exit_behind scope position) n rest BehindStmt (λ y. y ≡ x)) → (n : ℕ) (position : Position) →
        Spelled (Exit_form position) n (rest ++ (List_of xs ++ kinds.Period ∷ [])) Any (λ s. s ≡ paragraphs.sentence_of (x ∷ xs))
    exit-sentence x xs E h rest F n position =
        bind (F n position) (λ o b. behind-exit xs h o)
        (λ first e. subst (λ f. Spelled (form.◌>>=◌ (forms.stmts_from parts Below scope (f ∷ [], false)) paragraphs.sentence_end) (n + length rest) (List_of xs ++ kinds.Period ∷ []) Any (λ s. s ≡ paragraphs.sentence_of (x ∷ xs))) (sym e)
        (bind (others-turn xs h (x ∷ []) (n + length rest)) (λ o b. tt) (λ found k. sentence-end (x ∷ xs) found k)))

  -- ---- all sentences

  module _ (scope : Scope) where
    abbrev SpellsIt : Sentence → Type 0
    SpellsIt sentence = SpellsSentence parts kept program scope sentence

    abbrev All_tokens : List Sentence → Tokens
    All_tokens list = joined (map sentence_tokens list)

    item : (sentence : Sentence) → SpellsIt sentence → IsItem begins_stmt (paragraphs.sentence parts scope) sentence_tokens Any sentence
    unfolding paragraphs.sentence
    item sentence h = one-item max_nesting scope sentence h

    more : (front : List Sentence) (list : List Sentence) → Each SpellsIt list → (n : ℕ) → Spelled (paragraphs.sentences_from parts scope front) n (All_tokens list) NoStmt (λ found. found ≡ front ++ list)
    more front list h n = loop-items begins_stmt (paragraphs.sentence parts scope) sentence_tokens Any NoStmt (λ o b. tt) (λ o b. b) list (each item list h) front n

    by-exit : (x : Stmt) (xs : List Stmt) (list : List Sentence) → SpellsIt (paragraphs.sentence_of (x ∷ xs)) → Each SpellsIt list → exit_word (out-Stmt x) ≡ true → (n : ℕ) →
        Spelled (paragraphs.sentences parts scope) n (All_tokens (paragraphs.sentence_of (x ∷ xs) ∷ list)) NoStmt (λ found. found ≡ paragraphs.sentence_of (x ∷ xs) ∷ list)
    unfolding paragraphs.sentences paragraphs.sentences_by_exit paragraphs.exit_sentences paragraphs.exit_sentence
    by-exit x xs list h k e n =
        let O = opened max_nesting scope (x ∷ xs) h in
        let E = exit-of max_nesting scope x e O.1.0 in
        let back : Tokens = List_of xs ++ kinds.Period ∷ [] in
        let same : sentence_tokens (paragraphs.sentence_of (x ∷ xs)) ≡ kinds.Word (codes "EXIT") ∷ (E.rest ++ back) = list-tokens-told max_nesting scope x xs h ∙ ap (λ t. t ++ back) (E.told false) in
        subst (λ t. Spelled (paragraphs.sentences parts scope) n (t ++ All_tokens list) NoStmt (λ found. found ≡ paragraphs.sentence_of (x ∷ xs) ∷ list)) (sym same)
        (there_next (part.is_key (codes "EXIT")) _ (λ o b. refl) (then (key (codes "EXIT")) (λ position _. there_next paragraphs.begins_exit_word _
        (λ o b. ap (begins_by paragraphs.begins_exit_word) (first-append (E.rest ++ back) (All_tokens list) o ∙ first-append E.rest back (first_of (All_tokens list) o)) ∙ E.word (first_of back (first_of (All_tokens list) o)))
        (then (exit-sentence max_nesting scope x xs E O.1.1 E.rest E.behind (n + 1) position) (λ first l. hence (λ found m. m ∙ ap (λ s. s ∷ list) l) (more (first ∷ []) list k _))))))

    lone-told : sentence_tokens (paragraphs.sentence_of (stmts.Exit ∷ [])) ≡ kinds.Word (codes "EXIT") ∷ kinds.Period ∷ []
    lone-told =
        ap (λ (f : Lines). all_tokens (ended (f 12 false ++ []))) (ap (stmt_lines program) (sym stmts.rolls-Exit) ∙ fold-roll-Stmt Lines ArmLines WhenLines (stmt_step program) arms_step (when_step program) Stmt-F.Exit)

    lone : (n : ℕ) → Spelled (paragraphs.sentences parts scope) n (All_tokens (paragraphs.sentence_of (stmts.Exit ∷ []) ∷ [])) NoStmt (λ found. found ≡ paragraphs.sentence_of (stmts.Exit ∷ []) ∷ [])
    unfolding paragraphs.sentences paragraphs.sentences_by_exit paragraphs.exit_alone
    lone n =
        subst (λ t. Spelled (paragraphs.sentences parts scope) n (t ++ []) NoStmt (λ found. found ≡ paragraphs.sentence_of (stmts.Exit ∷ []) ∷ [])) (sym lone-told)
        (there_next (part.is_key (codes "EXIT")) _ (λ o b. refl) (then (key (codes "EXIT")) (λ position _. other_next paragraphs.begins_exit_word _ (λ o b. refl)
        (ending (where_behind (λ o b. tt) period) (λ _ _. pure refl)))))

    by-word : (x : Stmt) (xs : List Stmt) (list : List Sentence) → SpellsIt (paragraphs.sentence_of (x ∷ xs)) → Each SpellsIt list → (b : Bool) → exit_word (out-Stmt x) ≡ b → (n : ℕ) →
        Spelled (paragraphs.sentences parts scope) n (All_tokens (paragraphs.sentence_of (x ∷ xs) ∷ list)) NoStmt (λ found. found ≡ paragraphs.sentence_of (x ∷ xs) ∷ list)
    unfolding paragraphs.sentences
    by-word x xs list h k true e n = by-exit x xs list h k e n
    by-word x xs list h k false e n =
        let s : Sentence = paragraphs.sentence_of (x ∷ xs) in
        other_next (part.is_key (codes "EXIT")) _ (λ o b. ap (begins_by (part.is_key (codes "EXIT"))) (first-append (sentence_tokens s) (All_tokens list) o)
        ∙ no-exit-at max_nesting scope x xs h (opened max_nesting scope (x ∷ xs) h).1.0 e (first_of (All_tokens list) o)) (more [] (s ∷ list) (h, k) n)

    by-first : (xs : List Stmt) (list : List Sentence) → SpellsIt (paragraphs.sentence_of xs) → Each SpellsIt list → (n : ℕ) →
        Spelled (paragraphs.sentences parts scope) n (All_tokens (paragraphs.sentence_of xs ∷ list)) NoStmt (λ found. found ≡ paragraphs.sentence_of xs ∷ list)
    by-first [] list h k n = absurd (true-false (opened max_nesting scope [] h).0 refl)
    by-first (x ∷ xs) list h k n = by-word x xs list h k (exit_word (out-Stmt x)) refl n

    each-sentence : (list : List Sentence) → Each SpellsIt list → (n : ℕ) → Spelled (paragraphs.sentences parts scope) n (All_tokens list) NoStmt (λ found. found ≡ list)
    unfolding paragraphs.sentences
    each-sentence [] h n = other_next (part.is_key (codes "EXIT")) _ no-exit (more [] [] tt n)
    each-sentence (sentence ∷ list) h n = by-first sentence.stmts list h.0 h.1 n

    pub sentences : (list : List Sentence) → SpellsSentences parts kept program scope list → (n : ℕ) → Spelled (paragraphs.sentences parts scope) n (All_tokens list) NoStmt (λ found. found ≡ list)
    sentences list (inl e) n = subst (λ l. Spelled (paragraphs.sentences parts scope) n (All_tokens l) NoStmt (λ found. found ≡ l)) (sym e) (lone n)
    sentences list (inr h) n = each-sentence list h n

    begins-by : (list : List Sentence) → SpellsSentences parts kept program scope list → is_filled list ≡ true → (o : Option TokenKind) → begins_by begins_stmt (first_of (All_tokens list) o) ≡ true
    unfolding begins_stmt begins_simple begins_moving begins_filing begins_jumping
    begins-by list (inl e) f o =
        subst (λ l. begins_by begins_stmt (first_of (All_tokens l) o) ≡ true) (sym e) (ap (λ t. begins_by begins_stmt (first_of (t ++ []) o)) lone-told)
    begins-by [] (inr h) f o = absurd (true-false f refl)
    begins-by (sentence ∷ list) (inr h) f o =
        ap (begins_by begins_stmt) (first-append (sentence_tokens sentence) (All_tokens list) o) ∙ sentence-begins max_nesting scope sentence h.0 (first_of (All_tokens list) o)

    pub begins-sentences : (list : List Sentence) → SpellsSentences parts kept program scope list → is_filled list ≡ true → (o : Option TokenKind) → begins_by begins_stmt (first_of (All_tokens list) o) ≡ true
    begins-sentences list h f o = begins-by list h f o
