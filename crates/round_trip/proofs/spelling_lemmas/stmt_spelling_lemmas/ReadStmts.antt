-- READ with its arms, and with NEXT SENTENCE behind it.
use Rattle.std.proofs.Common.{◌≡◌, ℕ, Bool, true, false, ◌⊎◌, inl, inr, List, [], ◌∷◌, ◌++◌, Option, Some, None, refl, ap, sym, subst, append_assoc, append-nil}
use Rattle.std.specs.Prelude.{codes}
use Rattle.cob_tree.specs.declared.place.Place.{Place}
use Rattle.cob_tree.specs.declared.program.Program.{Program}
use Rattle.cob_tree.specs.declared.stmt.Arms.{Arms}
use Rattle.cob_tree.specs.declared.stmt.Stmt.{Stmt}
use Rattle.cob_tree.specs.declared.stmt.Stmt.TheVariants as stmts
use Rattle.cobol_lex.specs.declared.token.TokenKind.{TokenKind}
use Rattle.cobol_lex.specs.declared.token.TokenKind.TheVariants as kinds
use Rattle.parser_combinators.specs.Form as form
use Rattle.parser_combinators.specs.Form.{Form, begins_by}
use Rattle.parser_combinators.specs.Part as part
use Rattle.unparser.specs.File.{file_tokens}
use Rattle.unparser.specs.Head.{into_tokens}
use Rattle.unparser.specs.Token.{Tokens}
use Rattle.cobol_grammar.specs.declared.stmt_forms.head.ReadHead.{ReadHead}
use Rattle.cobol_grammar.specs.declared.stmt_forms.head.ReadHead.TheVariants as reads
use Rattle.cobol_grammar.specs.declared.stmt_forms.phrase.Phrase.TheVariants as phrases
use Rattle.cobol_grammar.specs.declared.stmt_forms.scope.Scope.{Scope}
use Rattle.cobol_grammar.specs.stmt_forms.Arms as arm
use Rattle.cobol_grammar.specs.stmt_forms.Arms.{Level}
use Rattle.cobol_grammar.specs.stmt_forms.File as file
use Rattle.cobol_grammar.specs.stmt_forms.Part.{Parts}
use Rattle.cobol_grammar.specs.stmt_forms.Stmt as forms
use Rattle.cobol_grammar.specs.stmt_forms.Verb.{begins_stmt, begins_simple, begins_moving, begins_filing, begins_jumping, begins_holding, begins_arithmetic, begins_adding, begins_multiplying, begins_choice}
use Rattle.round_trip.specs.spelled_forms.Spelling.{first_of, Any, Spelled}
use Rattle.round_trip.proofs.spelled_forms_lemmas.Makers.{pure, where_behind, bind, then, ending, there_next, other_next}
use Rattle.round_trip.proofs.spelled_forms_lemmas.Tokens.{key}
use Rattle.round_trip.specs.spelling.stmt_spelling.Behind.{verbs, ends_of}
use Rattle.round_trip.specs.spelling.stmt_spelling.Part.{Kept, PartsAreTold, BehindOperand, SpellsFile}
use Rattle.round_trip.specs.spelling.stmt_spelling.Stmt.{IfAny}
use Rattle.round_trip.proofs.spelling_lemmas.stmt_spelling_lemmas.Behind.{none-among}
use Rattle.round_trip.proofs.spelling_lemmas.stmt_spelling_lemmas.Calcs.{BehindHead, head-part}
use Rattle.round_trip.proofs.spelling_lemmas.stmt_spelling_lemmas.Along.{Gives, One, EndsOne, NotNext, Next, Is}
use Rattle.round_trip.proofs.spelling_lemmas.stmt_spelling_lemmas.ArmsSpelled.{end-said, end-unsaid, arms-none}
use Rattle.round_trip.proofs.spelling_lemmas.stmt_spelling_lemmas.Holding.{one-head, closed-one}
use Rattle.round_trip.proofs.spelling_lemmas.stmt_spelling_lemmas.ArmedStmts.{arms_tokens, has_some, end_tokens, AreHeld, some-arms, some-head, Into, into_part, not-apart}

module _ {Side Known : Type 0} {parts : Parts Side Known} {kept : Kept Side} (T : PartsAreTold parts kept) (program : Program) (level : Level) (scope : Scope) where
  abbrev pub Head : ℕ → Option Place → Tokens
  Head number into = (kinds.Word (codes "READ") ∷ file_tokens program number) ++ into_tokens program into

  behind-into : (into : Option Place) (o : Option TokenKind) → BehindHead o → BehindOperand parts (first_of (into_tokens program into) o)
  behind-into None o b = inl (head-part o b)
  behind-into (Some place) o b = inl refl

  next-into : (into : Option Place) (o : Option TokenKind) → NotNext o → NotNext (first_of (into_tokens program into) o)
  next-into None o b = b
  next-into (Some place) o b = refl

  open-by : {n : ℕ} (number : ℕ) (into : Option Place) → IfAny (Into T program level scope number) into → (found : Option ℕ) → found ≡ Some number →
      Spelled (arm.read_open parts found) n (into_tokens program into) BehindHead (λ head. head ≡ reads.Open number into)
  unfolding arm.read_open
  open-by {n = n} number into I found e =
      subst (λ f. Spelled (form.◌>>=◌ (file.into_part parts f) (λ place. form.pure (reads.Open (file.index_or_0 f) place))) n (into_tokens program into) BehindHead (λ head. head ≡ reads.Open number into)) (sym e)
      (ending (into_part T program level scope number into I) (λ place k. pure (ap (reads.Open number) k)))

  read_file : {n : ℕ} (number : ℕ) → SpellsFile parts kept program number → Spelled (file.read_file parts) n (kinds.Word (codes "READ") ∷ file_tokens program number) (BehindOperand parts) (λ found. found ≡ Some number)
  unfolding file.read_file
  read_file number S = then (key (codes "READ")) (λ _ _. S.spelled _)

  read_head : {n : ℕ} (number : ℕ) (into : Option Place) → SpellsFile parts kept program number → IfAny (Into T program level scope number) into → {Behind : Option TokenKind → Type 0} →
      ((o : Option TokenKind) → Behind o → BehindHead o) → ((o : Option TokenKind) → Behind o → NotNext (first_of (into_tokens program into) o)) →
      Spelled (arm.read_head parts) n (Head number into) Behind (λ head. head ≡ reads.Open number into)
  unfolding arm.read_head
  read_head number into S I head next =
      bind (read_file number S) (λ o b. behind-into into o (head o b)) (λ found e. other_next (part.is_key (codes "NEXT")) _ next (where_behind head (open-by number into I found e)))

  ended : {n : ℕ} {close : Tokens} {Behind : Option TokenKind → Type 0} (pending_not : Bool) → pending_not ≡ false →
      Spelled (arm.end_word (codes "END-READ") false) n close Behind (λ _. Unit {0}) → Spelled (arm.end_word (codes "END-READ") pending_not) n close Behind (λ _. Unit {0})
  ended {n = n} {close = close} {Behind = Behind} pending_not e E = subst (λ v. Spelled (arm.end_word (codes "END-READ") v) n close Behind (λ _. Unit {0})) (sym e) E

  by-head : {n : ℕ} {tokens close : Tokens} {Mid Behind : Option TokenKind → Type 0} (number : ℕ) (into : Option Place) (arms : Arms) (before : List Stmt) (head : ReadHead) → head ≡ reads.Open number into →
      ((m : ℕ) → Spelled (arm.arms phrases.End level scope) m tokens Mid (λ found. found ≡ (arms, false))) →
      ((m : ℕ) → Spelled (arm.end_word (codes "END-READ") false) m close Behind (λ _. Unit {0})) → ((o : Option TokenKind) → Behind o → Mid (first_of close o)) →
      Spelled (arm.read_by level scope before head) n (tokens ++ close) Behind (Is (before ++ stmts.Read number into arms ∷ []) false)
  unfolding arm.read_by arm.read_arms
  by-head {n = n} {tokens = tokens} {close = close} {Behind = Behind} number into arms before head e A E mid =
      subst (λ h. Spelled (arm.read_by level scope before h) n (tokens ++ close) Behind (Is (before ++ stmts.Read number into arms ∷ []) false)) (sym e)
      (bind (A n) mid (λ found k. ending (ended found.1 (ap (λ f. f.1) k) (E _)) (λ _ _. pure (ap (λ f. (before ++ stmts.Read number into f.0 ∷ [], f.1)) k))))

  read : {tokens close : Tokens} {Mid Behind : Option TokenKind → Type 0} (number : ℕ) (into : Option Place) (arms : Arms) → SpellsFile parts kept program number → IfAny (Into T program level scope number) into →
      ((m : ℕ) → Spelled (arm.arms phrases.End level scope) m tokens Mid (λ found. found ≡ (arms, false))) →
      ((m : ℕ) → Spelled (arm.end_word (codes "END-READ") false) m close Behind (λ _. Unit {0})) → ((o : Option TokenKind) → Behind o → Mid (first_of close o)) →
      ((o : Option TokenKind) → Behind o → BehindHead (first_of (tokens ++ close) o)) → ((o : Option TokenKind) → Behind o → NotNext (first_of (into_tokens program into) (first_of (tokens ++ close) o))) →
      Gives parts level scope (stmts.Read number into arms ∷ []) (Head number into ++ (tokens ++ close)) Behind false
  unfolding forms.stmt forms.held_stmts arm.read_stmt begins_simple begins_moving begins_filing begins_jumping
  read {tokens = tokens} {close = close} number into arms S I A E mid head next before n =
      other_next begins_simple _ (λ o b. refl) (there_next (part.is_key (codes "READ")) _ (λ o b. refl)
      (bind {Mid = λ p. BehindHead p × NotNext (first_of (into_tokens program into) p)} (read_head number into S I (λ o b. b.0) (λ o b. b.1)) (λ o b. (head o b, next o b))
      (λ found e. by-head number into arms before found e A E mid)))

  -- READ and NEXT SENTENCE are read together
  next-by : {n : ℕ} {Behind : Option TokenKind → Type 0} (number : ℕ) (before : List Stmt) (head : ReadHead) → head ≡ reads.WithSentence number →
      Spelled (arm.read_by level scope before head) n [] Behind (Is (before ++ stmts.Read number None (arm.arms_of None None) ∷ stmts.NextSentence ∷ []) false)
  unfolding arm.read_by
  next-by {n = n} {Behind = Behind} number before head e =
      subst (λ h. Spelled (arm.read_by level scope before h) n [] Behind (Is (before ++ stmts.Read number None (arm.arms_of None None) ∷ stmts.NextSentence ∷ []) false)) (sym e)
      (pure (ap (λ l. (l, false)) (append_assoc before (stmts.Read number None (arm.arms_of None None) ∷ []) (stmts.NextSentence ∷ []))))

  with-sentence : {n : ℕ} (number : ℕ) (found : Option ℕ) → found ≡ Some number → Spelled (arm.read_next parts found) n Next Any (λ head. head ≡ reads.WithSentence number)
  unfolding arm.read_next arm.read_sentence
  with-sentence number found e =
      then (key (codes "NEXT")) (λ _ _. there_next (part.is_key (codes "SENTENCE")) _ (λ o b. refl) (ending (key (codes "SENTENCE")) (λ _ _. pure (ap (λ f. reads.WithSentence (file.index_or_0 f)) e))))

  next-head : {n : ℕ} (number : ℕ) → SpellsFile parts kept program number → Spelled (arm.read_head parts) n (Head number None ++ Next) Any (λ head. head ≡ reads.WithSentence number)
  unfolding arm.read_head
  next-head {n = n} number S =
      subst (λ t. Spelled (arm.read_head parts) n (t ++ Next) Any (λ head. head ≡ reads.WithSentence number)) (sym (append-nil (kinds.Word (codes "READ") ∷ file_tokens program number)))
      (bind (read_file number S) (λ o b. inl refl) (λ found e. there_next (part.is_key (codes "NEXT")) _ (λ o b. refl) (with-sentence number found e)))

  read-next : (number : ℕ) → SpellsFile parts kept program number →
      Gives parts level scope (stmts.Read number None (arm.arms_of None None) ∷ stmts.NextSentence ∷ []) (Head number None ++ Next) Any false
  unfolding forms.stmt forms.held_stmts arm.read_stmt begins_simple begins_moving begins_filing begins_jumping
  read-next number S before n =
      other_next begins_simple _ (λ o b. refl) (there_next (part.is_key (codes "READ")) _ (λ o b. refl) (ending (next-head number S) (λ head e. next-by number before head e)))

  -- ---- as statements

  end-apart : (closed : Bool) (o : Option TokenKind) → EndsOne closed o → begins_by (arm.begins_phrase phrases.End) o ≡ false
  unfolding arm.begins_phrase
  end-apart true o b = none-among (arm.begins_phrase phrases.End) (verbs ++ ends_of true) refl refl o b
  end-apart false o b = none-among (arm.begins_phrase phrases.End) (verbs ++ ends_of false) refl refl o b

  bare : (number : ℕ) (into : Option Place) → SpellsFile parts kept program number → IfAny (Into T program level scope number) into → {Behind : Option TokenKind → Type 0} →
      ((o : Option TokenKind) → Behind o → EndsOne false o) → ((o : Option TokenKind) → Behind o → NotNext (first_of (into_tokens program into) o)) →
      Gives parts level scope (stmts.Read number into (arm.arms_of None None) ∷ []) (Head number into ++ end_tokens false (codes "END-READ")) Behind false
  bare number into S I ends next =
      read number into (arm.arms_of None None) S I (λ m. arms-none phrases.End level scope (λ o b. end-apart false o (ends o b)) (λ o b. not-apart T program level scope false o (ends o b)))
      (λ m. end-unsaid (codes "END-READ") (λ o b. none-among (part.is_key (codes "END-READ")) (verbs ++ ends_of false) refl refl o (ends o b))) (λ o b. b) (λ o b. one-head false o (ends o b)) next

  closed : (number : ℕ) (into : Option Place) → SpellsFile parts kept program number → IfAny (Into T program level scope number) into →
      Gives parts level scope (stmts.Read number into (arm.arms_of None None) ∷ []) (Head number into ++ end_tokens true (codes "END-READ")) Any false
  closed number into S I =
      read {Mid = EndsOne true} number into (arm.arms_of None None) S I (λ m. arms-none phrases.End level scope (end-apart true) (not-apart T program level scope true))
      (λ m. end-said (codes "END-READ")) (λ o b. refl) (λ o b. refl) (λ o b. next-into into _ refl)

  read-ends : (number : ℕ) (into : Option Place) → SpellsFile parts kept program number → IfAny (Into T program level scope number) into → (c : Bool) →
      Gives parts level scope (stmts.Read number into (arm.arms_of None None) ∷ []) (Head number into ++ end_tokens c (codes "END-READ")) (EndsOne c) false
      ⊎ (Gives parts level scope (stmts.Read number into (arm.arms_of None None) ∷ []) (Head number into ++ end_tokens c (codes "END-READ")) (λ o. EndsOne c o × NotNext o) false
      × Gives parts level scope (stmts.Read number into (arm.arms_of None None) ∷ stmts.NextSentence ∷ []) ((Head number into ++ end_tokens c (codes "END-READ")) ++ Next) Any false)
  read-ends number into S I true = inl (λ before n. where_behind (λ o b. tt) (closed number into S I before n))
  read-ends number (Some place) S I false = inl (bare number (Some place) S I (λ o b. b) (λ o b. refl))
  read-ends number None S I false =
      inr (
        bare number None S I (λ o b. b.0) (λ o b. b.1),
        subst (λ t. Gives parts level scope (stmts.Read number None (arm.arms_of None None) ∷ stmts.NextSentence ∷ []) (t ++ Next) Any false) (sym (append-nil (Head number None))) (read-next number S),
      )

  pub bare-read : (number : ℕ) (into : Option Place) → SpellsFile parts kept program number → IfAny (Into T program level scope number) into →
      One parts level scope (λ c. Head number into ++ end_tokens c (codes "END-READ")) (stmts.Read number into (arm.arms_of None None))
  unfolding begins_stmt begins_simple begins_moving begins_filing begins_jumping begins_holding begins_arithmetic begins_adding begins_multiplying begins_choice
  bare-read number into S I = record {
    begins = λ c o. refl;
    enters = λ c o. refl;
    fronts = inl (λ c o. refl);
    ends = read-ends number into S I;
    before_not = inl (λ before n. where_behind (λ o b. tt) (closed number into S I before n));
  }

  next-arms : (one other : Option (Bool → Tokens)) → has_some one other ≡ true → (o : Option TokenKind) → NotNext (first_of (arms_tokens phrases.End one other ++ kinds.Word (codes "END-READ") ∷ []) o)
  next-arms None None e o = absurd cc
  next-arms None (Some other) e o = refl
  next-arms (Some one) other e o = refl

  pub armed-read : (number : ℕ) (into : Option Place) (first second : Option (List Stmt)) (one other : Option (Bool → Tokens)) → SpellsFile parts kept program number → IfAny (Into T program level scope number) into →
      AreHeld level scope first one → AreHeld level scope second other → has_some one other ≡ true →
      One parts level scope (λ c. Head number into ++ (arms_tokens phrases.End one other ++ kinds.Word (codes "END-READ") ∷ [])) (stmts.Read number into (arm.arms_of first second))
  unfolding begins_stmt begins_simple begins_moving begins_filing begins_jumping begins_holding begins_arithmetic begins_adding begins_multiplying begins_choice
  armed-read number into first second one other S I h k e =
      let back : Tokens = arms_tokens phrases.End one other ++ kinds.Word (codes "END-READ") ∷ [] in
      closed-one T program level scope (stmts.Read number into (arm.arms_of first second)) (Head number into ++ back) (λ o. refl) (λ o. refl) (λ o. refl)
      (read number into (arm.arms_of first second) S I (some-arms phrases.End level scope first second one other h k e) (λ m. end-said (codes "END-READ")) (λ o b. refl)
      (λ o b. some-head phrases.End one other e (codes "END-READ") o) (λ o b. next-into into _ (next-arms one other e o)))
