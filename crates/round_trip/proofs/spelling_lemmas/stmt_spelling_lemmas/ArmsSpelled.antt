-- The arms of READ and of arithmetic.
use Rattle.std.proofs.Common.{◌≡◌, ℕ, Bool, true, false, ◌⊎◌, inl, inr, List, [], ◌∷◌, ◌++◌, Option, Some, None, refl, ap, sym, subst, append_assoc}
use Rattle.std.specs.Prelude.{codes}
use Rattle.cob_tree.specs.declared.stmt.Arms.{Arms}
use Rattle.cob_tree.specs.declared.stmt.Stmt.{Stmt}
use Rattle.cobol_lex.specs.declared.token.TokenKind.{TokenKind}
use Rattle.cobol_lex.specs.declared.token.TokenKind.TheVariants as kinds
use Rattle.parser_combinators.specs.Form.{begins_by}
use Rattle.parser_combinators.specs.Part as part
use Rattle.unparser.specs.Token.{Tokens}
use Rattle.cobol_grammar.specs.declared.stmt_forms.head.NotPhrase.{NotPhrase}
use Rattle.cobol_grammar.specs.declared.stmt_forms.head.NotPhrase.TheVariants as nots
use Rattle.cobol_grammar.specs.declared.stmt_forms.phrase.Phrase.{Phrase}
use Rattle.cobol_grammar.specs.declared.stmt_forms.phrase.Phrase.TheVariants as phrases
use Rattle.cobol_grammar.specs.declared.stmt_forms.scope.Scope.{Scope}
use Rattle.cobol_grammar.specs.stmt_forms.Verb.{begins_stmt}
use Rattle.cobol_grammar.specs.stmt_forms.Arms as arm
use Rattle.cobol_grammar.specs.stmt_forms.Arms.{Level}
use Rattle.round_trip.specs.spelled_forms.Spelling.{first_of, Any, Spelled}
use Rattle.round_trip.proofs.spelled_forms_lemmas.Makers.{pure, where_behind, bind, then, ending, behind_first, behind_none, chosen_there, chosen_other, there_next, other_next}
use Rattle.round_trip.proofs.spelled_forms_lemmas.Tokens.{key, maybe}
use Rattle.round_trip.specs.spelling.stmt_spelling.Behind.{Among, verbs, IsNot, BeginsPhrase, ends_of}
use Rattle.round_trip.proofs.spelling_lemmas.stmt_spelling_lemmas.Behind.{none-among}
use Rattle.round_trip.proofs.spelling_lemmas.stmt_spelling_lemmas.Along.{EndsAll, Not}

abbrev pub said : Phrase → Tokens
said phrases.End = kinds.Word (codes "AT") ∷ kinds.Word (codes "END") ∷ []
said phrases.Size = kinds.Word (codes "ON") ∷ kinds.Word (codes "SIZE") ∷ kinds.Word (codes "ERROR") ∷ []

phrase_words : {n : ℕ} (phrase : Phrase) → Spelled (arm.phrase_words phrase) n (said phrase) Any (λ _. Unit {0})
unfolding arm.phrase_words arm.end_words arm.size_words
phrase_words phrases.End = then (maybe (codes "AT")) (λ _ _. ending (key (codes "END")) (λ _ _. pure tt))
phrase_words phrases.Size = then (maybe (codes "ON")) (λ _ _. then (key (codes "SIZE")) (λ _ _. ending (key (codes "ERROR")) (λ _ _. pure tt)))

phrase-begins : (phrase : Phrase) (o : Option TokenKind) → begins_by (arm.begins_phrase phrase) (first_of (said phrase) o) ≡ true
unfolding arm.begins_phrase
phrase-begins phrases.End o = refl
phrase-begins phrases.Size o = refl

phrase-behind : (phrase : Phrase) (more : Tokens) (o : Option TokenKind) → BeginsPhrase (first_of (said phrase ++ more) o)
phrase-behind phrases.End more o = inr refl
phrase-behind phrases.Size more o = inl refl

not-phrase : (phrase : Phrase) → arm.begins_phrase phrase (kinds.Word (codes "NOT")) ≡ false
unfolding arm.begins_phrase
not-phrase phrases.End = refl
not-phrase phrases.Size = refl

-- a list that is held: with its tokens as they are where its last statement is closed, or isn't
pub record IsHeld (level : Level) (scope : Scope) (xs : List Stmt) (tokens : Bool → Tokens) : Type 0 where
  pub enter : (n : ℕ) → Spelled level.enter n [] Any (λ _. Unit {0})
  pub begins : (closed : Bool) (o : Option TokenKind) → begins_by begins_stmt (first_of (tokens closed) o) ≡ true
  pub enters : (closed : Bool) (o : Option TokenKind) → Among verbs (first_of (tokens closed) o)
  pub plain : (closed : Bool) (n : ℕ) → Spelled (level.stmts scope) n (tokens closed) (EndsAll closed) (λ found. found ≡ (xs, false))
  pub before_not : ((n : ℕ) → Spelled (level.stmts scope) n (tokens true) IsNot (λ found. found ≡ (xs, false)))
      ⊎ ((n : ℕ) → Spelled (level.stmts scope) n (tokens true ++ Not) BeginsPhrase (λ found. found ≡ (xs, true)))

no-not : (o : Option TokenKind) → EndsAll true o → begins_by (part.is_key (codes "NOT")) o ≡ false
no-not o b = none-among (part.is_key (codes "NOT")) (ends_of true) refl refl o b

-- ---- the word at the end

pub end-said : {n : ℕ} (word : List ℕ) → Spelled (arm.end_word word false) n (kinds.Word word ∷ []) Any (λ _. Unit {0})
unfolding arm.end_word
end-said word = maybe word

pub end-unsaid : {n : ℕ} (word : List ℕ) {Behind : Option TokenKind → Type 0} → ((o : Option TokenKind) → Behind o → begins_by (part.is_key word) o ≡ false) →
    Spelled (arm.end_word word false) n [] Behind (λ _. Unit {0})
unfolding arm.end_word
end-unsaid word none = other_next (part.is_key word) _ none (pure tt)

module _ (phrase : Phrase) (level : Level) (scope : Scope) where
  abbrev Given : Option (List Stmt) → Option (List Stmt) → Arms × Bool → Type 0
  Given first second found = found ≡ (arm.arms_of first second, false)

  held_arm : {n : ℕ} {Behind : Option TokenKind → Type 0} {tokens : Tokens} {pending_not : Bool} (xs : List Stmt) →
      Spelled (level.stmts scope) n tokens Behind (λ found. found ≡ (xs, pending_not)) → Spelled (arm.held_arm level scope) n tokens Behind (λ found. found ≡ (Some xs, pending_not))
  unfolding arm.held_arm
  held_arm xs F = ending F (λ found e. pure (ap (λ f. (Some f.0, f.1)) e))

  module _ {ys : List Stmt} {tokens : Bool → Tokens} (H : IsHeld level scope ys tokens) where
    own : {n : ℕ} (has_first : Bool) → Spelled (arm.behind_not phrase level.enter has_first) n (said phrase) Any (λ found. found ≡ nots.Own)
    unfolding arm.behind_not arm.own_words arm.entering_words
    own true = there_next (arm.begins_phrase phrase) _ (λ o b. phrase-begins phrase o) (ending (phrase_words phrase) (λ _ _. pure refl))
    own false = there_next (arm.begins_phrase phrase) _ (λ o b. phrase-begins phrase o) (ending (behind_none (H.enter _) (λ _ _. phrase_words phrase)) (λ _ _. pure refl))

    second_arm : {n : ℕ} (following : NotPhrase) → following ≡ nots.Own → Spelled (arm.second_arm level scope following) n (tokens true) (EndsAll true) (λ found. found ≡ (Some ys, false))
    unfolding arm.second_arm
    second_arm {n = n} following e =
        subst (λ f. Spelled (arm.second_arm level scope f) n (tokens true) (EndsAll true) (λ found. found ≡ (Some ys, false))) (sym e) (held_arm ys (H.plain true n))

    second-own : {n : ℕ} (first : Option (List Stmt)) (behind : arm.Arm) → behind ≡ (first, false) →
        Spelled (arm.second_behind phrase level scope behind) n ((kinds.Word (codes "NOT") ∷ said phrase) ++ tokens true) (EndsAll true) (Given first (Some ys))
    unfolding arm.second_behind arm.not_phrase arm.not_or_none
    second-own {n = n} first behind e =
        subst (λ b. Spelled (arm.second_behind phrase level scope b) n ((kinds.Word (codes "NOT") ∷ said phrase) ++ tokens true) (EndsAll true) (Given first (Some ys))) (sym e)
        (then (there_next (part.is_key (codes "NOT")) _ (λ o b. refl) (then (key (codes "NOT")) (λ _ _. own _)))
        (λ following k. ending (second_arm following k) (λ second l. pure (ap (λ s. (arm.arms_of first s.0, s.1)) l))))

    second-late : {n : ℕ} (first : Option (List Stmt)) (behind : arm.Arm) → behind ≡ (first, true) →
        Spelled (arm.second_behind phrase level scope behind) n (said phrase ++ tokens true) (EndsAll true) (Given first (Some ys))
    unfolding arm.second_behind arm.not_phrase
    second-late {n = n} first behind e =
        subst (λ b. Spelled (arm.second_behind phrase level scope b) n (said phrase ++ tokens true) (EndsAll true) (Given first (Some ys))) (sym e)
        (then (own _)
        (λ following k. ending (second_arm following k) (λ second l. pure (ap (λ s. (arm.arms_of first s.0, s.1)) l))))

  missing : {n : ℕ} {Behind : Option TokenKind → Type 0} (following : NotPhrase) → following ≡ nots.Missing → Spelled (arm.second_arm level scope following) n [] Behind (λ found. found ≡ (None, false))
  unfolding arm.second_arm
  missing {n = n} {Behind = Behind} following e = subst (λ f. Spelled (arm.second_arm level scope f) n [] Behind (λ found. found ≡ (None, false))) (sym e) (pure refl)

  second-missing : {n : ℕ} (first : Option (List Stmt)) (behind : arm.Arm) {Behind : Option TokenKind → Type 0} → ((o : Option TokenKind) → Behind o → begins_by (part.is_key (codes "NOT")) o ≡ false) →
      behind ≡ (first, false) → Spelled (arm.second_behind phrase level scope behind) n [] Behind (Given first None)
  unfolding arm.second_behind arm.not_phrase arm.not_or_none
  second-missing {n = n} first behind {Behind = Behind} none e =
      subst (λ b. Spelled (arm.second_behind phrase level scope b) n [] Behind (Given first None)) (sym e)
      (ending (other_next (part.is_key (codes "NOT")) _ none (pure refl))
      (λ following k. ending (missing following k) (λ second l. pure (ap (λ s. (arm.arms_of first s.0, s.1)) l))))

  present : {n : ℕ} → ((m : ℕ) → Spelled level.enter m [] Any (λ _. Unit {0})) → Spelled (arm.first_phrase phrase level.enter) n (said phrase) Any (λ found. found ≡ true)
  unfolding arm.first_phrase arm.entering_words
  present E = there_next (arm.begins_phrase phrase) _ (λ o b. phrase-begins phrase o) (ending (behind_none (E _) (λ _ _. phrase_words phrase)) (λ _ _. pure refl))

  abbrev NoPhrase : Option TokenKind → Type 0
  NoPhrase o = begins_by (arm.begins_phrase phrase) o ≡ false

  absent : {n : ℕ} → Spelled (arm.first_phrase phrase level.enter) n [] NoPhrase (λ found. found ≡ false)
  unfolding arm.first_phrase
  absent = other_next (arm.begins_phrase phrase) _ (λ o b. b) (pure refl)

  -- ---- no arm, one and two

  pub arms-none : {n : ℕ} {Behind : Option TokenKind → Type 0} → ((o : Option TokenKind) → Behind o → NoPhrase o) → ((o : Option TokenKind) → Behind o → begins_by (part.is_key (codes "NOT")) o ≡ false) →
      Spelled (arm.arms phrase level scope) n [] Behind (Given None None)
  unfolding arm.arms arm.first_arm
  arms-none none not = ending (where_behind none absent) (λ p e. ending (chosen_other _ e (pure refl)) (λ first k. second-missing None first not k))

  pub arms-first : {n : ℕ} {xs : List Stmt} {tokens : Bool → Tokens} → IsHeld level scope xs tokens → Spelled (arm.arms phrase level scope) n (said phrase ++ tokens true) (EndsAll true) (Given (Some xs) None)
  unfolding arm.arms arm.first_arm
  arms-first {xs = xs} H =
      then (present H.enter) (λ p e. ending (chosen_there _ e (held_arm xs (H.plain true _))) (λ first k. second-missing (Some xs) first no-not k))

  pub arms-second : {n : ℕ} {ys : List Stmt} {tokens : Bool → Tokens} → IsHeld level scope ys tokens →
      Spelled (arm.arms phrase level scope) n ((kinds.Word (codes "NOT") ∷ said phrase) ++ tokens true) (EndsAll true) (Given None (Some ys))
  unfolding arm.arms arm.first_arm
  arms-second H = behind_first absent (λ o b. not-phrase phrase) (λ p e. behind_none {Has = Given None (Some _)} (chosen_other _ e (pure refl)) (λ first k. second-own H None first k))

  both-by : {n : ℕ} {xs ys : List Stmt} {tokens others : Bool → Tokens} (H : IsHeld level scope xs tokens) → IsHeld level scope ys others →
      ((m : ℕ) → Spelled (level.stmts scope) m (tokens true) IsNot (λ found. found ≡ (xs, false)))
      ⊎ ((m : ℕ) → Spelled (level.stmts scope) m (tokens true ++ Not) BeginsPhrase (λ found. found ≡ (xs, true))) →
      Spelled (arm.arms phrase level scope) n (said phrase ++ (tokens true ++ ((kinds.Word (codes "NOT") ∷ said phrase) ++ others true))) (EndsAll true) (Given (Some xs) (Some ys))
  unfolding arm.arms arm.first_arm
  both-by {xs = xs} H K (inl F) =
      then (present H.enter) (λ p e. bind (chosen_there _ e (held_arm xs (F _))) (λ o b. refl) (λ first k. second-own K (Some xs) first k))
  both-by {n = n} {xs = xs} {ys = ys} {tokens = tokens} {others = others} H K (inr F) =
      subst (λ t. Spelled (arm.arms phrase level scope) n (said phrase ++ t) (EndsAll true) (Given (Some xs) (Some ys))) (append_assoc (tokens true) Not (said phrase ++ others true))
      (then (present H.enter) (λ p e. bind (chosen_there _ e (held_arm xs (F _))) (λ o b. phrase-behind phrase (others true) o) (λ first k. second-late K (Some xs) first k)))

  pub arms-both : {n : ℕ} {xs ys : List Stmt} {tokens others : Bool → Tokens} → IsHeld level scope xs tokens → IsHeld level scope ys others →
      Spelled (arm.arms phrase level scope) n (said phrase ++ (tokens true ++ ((kinds.Word (codes "NOT") ∷ said phrase) ++ others true))) (EndsAll true) (Given (Some xs) (Some ys))
  arms-both H K = both-by H K H.before_not
