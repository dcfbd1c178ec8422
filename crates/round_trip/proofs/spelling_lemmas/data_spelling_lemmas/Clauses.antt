-- What spells the clauses of an entry.
use Rattle.std.proofs.Common.{◌≡◌, ℕ, ◌+◌, true, false, List, [], ◌∷◌, ◌++◌, length, Option, Some, None, refl, ap, sym, ◌∙◌, subst, append_assoc, append-nil}
use Rattle.std.specs.Prelude.{codes, decimal}
use Rattle.cob_tree.specs.declared.entry.Entry.{Entry}
use Rattle.cob_tree.specs.declared.entry.Span.{Span}
use Rattle.cob_tree.specs.declared.picture.Picture.{Picture}
use Rattle.cob_tree.specs.declared.picture.Sign.{Sign}
use Rattle.cob_tree.specs.declared.picture.Sign.TheVariants.{Within, SeparateLeading, SeparateTrailing}
use Rattle.cob_tree.specs.declared.picture.Usage.{Usage}
use Rattle.cob_tree.specs.declared.picture.Usage.TheVariants.{Display, Binary, Packed}
use Rattle.cob_tree.specs.declared.place.Operand.{Operand}
use Rattle.cob_tree.specs.declared.program.Program.{Program}
use Rattle.cobol_lex.specs.declared.token.TokenKind.{TokenKind}
use Rattle.cobol_lex.specs.declared.token.TokenKind.TheVariants as kinds
use Rattle.cobol_grammar.specs.declared.data_forms.draft.Clause.{Clause}
use Rattle.cobol_grammar.specs.declared.data_forms.draft.Clause.TheVariants as clauses
use Rattle.cobol_grammar.specs.data_forms.Choice as choice
use Rattle.cobol_grammar.specs.data_forms.Clause as forms
use Rattle.cobol_grammar.specs.data_forms.Entry as entries
use Rattle.parser_combinators.specs.Form as form
use Rattle.parser_combinators.specs.Form.{Form, begins_by}
use Rattle.parser_combinators.specs.Part as part
use Rattle.parser_combinators.specs.Part.{is_key}
use Rattle.parser_combinators.specs.words.Constant as constants
use Rattle.round_trip.specs.spelled_forms.Spelling.{first_of, Any, Spelled}
use Rattle.round_trip.proofs.spelled_forms_lemmas.Makers.{pure, hence, where_behind, then as onward, ending, behind_first, there_next, other_next, no_turn, turn}
use Rattle.round_trip.proofs.spelled_forms_lemmas.Tokens.{same_word, key, valued, name}
use Rattle.unparser.specs.Token.{Tokens}
use Rattle.unparser.specs.Place.{item_name, operand_tokens}
use Rattle.cobol_print.specs.units.Picture.{picture_text}
use Rattle.cobol_print.specs.units.Entry.{redefines_tokens, picture_tokens, usage_tokens, sign_tokens, occurs_tokens, value_tokens, ranges_tokens, clauses_tokens}
use Rattle.round_trip.specs.spelling.data_spelling.Printable.{IsLiteral, IfAny, AreLiteralSpans, IsDataWord, IsPeriod, IsPrintableEntry}
use Rattle.round_trip.specs.spelling.data_spelling.Drafts.{IsRedefines, IsPicture, IsUsage, IsSign, IsSpans, alone, IsOccurs, IsValue, IsRanges, Behind, AreClauses}
use Rattle.round_trip.proofs.spelling_lemmas.data_spelling_lemmas.Literals.{values}

-- ---- what stands behind a clause

-- nothing that goes on with the clause before
record EndsClause (behind : Option TokenKind) : Type 0 where
  no_character : begins_by (is_key (codes "CHARACTER")) behind ≡ false
  no_times : begins_by (is_key (codes "TIMES")) behind ≡ false
  no_thru : begins_by forms.is_thru behind ≡ false
  no_literal : begins_by constants.begins_literal behind ≡ false

period-ends : EndsClause (Some kinds.Period)
unfolding constants.begins_literal
period-ends = record { no_character = refl; no_times = refl; no_thru = refl; no_literal = refl }

picture-ends : EndsClause (Some (kinds.Word (codes "PIC")))
unfolding constants.begins_literal constants.figure_of_word
picture-ends = record { no_character = refl; no_times = refl; no_thru = refl; no_literal = refl }

binary-ends : EndsClause (Some (kinds.Word (codes "BINARY")))
unfolding constants.begins_literal constants.figure_of_word
binary-ends = record { no_character = refl; no_times = refl; no_thru = refl; no_literal = refl }

packed-ends : EndsClause (Some (kinds.Word (codes "PACKED-DECIMAL")))
unfolding constants.begins_literal constants.figure_of_word
packed-ends = record { no_character = refl; no_times = refl; no_thru = refl; no_literal = refl }

sign-ends : EndsClause (Some (kinds.Word (codes "SIGN")))
unfolding constants.begins_literal constants.figure_of_word
sign-ends = record { no_character = refl; no_times = refl; no_thru = refl; no_literal = refl }

occurs-ends : EndsClause (Some (kinds.Word (codes "OCCURS")))
unfolding constants.begins_literal constants.figure_of_word
occurs-ends = record { no_character = refl; no_times = refl; no_thru = refl; no_literal = refl }

value-ends : EndsClause (Some (kinds.Word (codes "VALUE")))
unfolding constants.begins_literal constants.figure_of_word
value-ends = record { no_character = refl; no_times = refl; no_thru = refl; no_literal = refl }

-- the clauses behind any of these are
ranges-ends : (program : Program) (ranges : List Span) (o : Option TokenKind) → IsPeriod o → EndsClause (first_of (ranges_tokens program ranges) o)
ranges-ends program [] o b = subst EndsClause (sym b) period-ends
ranges-ends program (span ∷ spans) o b = value-ends

values-ends : (program : Program) (value : Option Operand) (ranges : List Span) (o : Option TokenKind) → IsPeriod o → EndsClause (first_of (value_tokens program value ++ ranges_tokens program ranges) o)
values-ends program None ranges o b = ranges-ends program ranges o b
values-ends program (Some value) ranges o b = value-ends

occurs-end : (program : Program) (occurs : Option ℕ) (value : Option Operand) (ranges : List Span) (o : Option TokenKind) → IsPeriod o →
    EndsClause (first_of (occurs_tokens occurs ++ (value_tokens program value ++ ranges_tokens program ranges)) o)
occurs-end program None value ranges o b = values-ends program value ranges o b
occurs-end program (Some count) value ranges o b = occurs-ends

-- ---- each clause

-- a word that may be left out, and isn't there
absent : {n : ℕ} (word : List ℕ) → Spelled (part.maybe word) n [] (λ o. begins_by (is_key word) o ≡ false) (λ _. Unit {0})
absent word = other_next (is_key word) _ (λ o b. b) (pure tt)

redefines : {n : ℕ} (program : Program) (number : ℕ) → IsDataWord (item_name program number) →
    Spelled forms.redefines_clause n (redefines_tokens program (Some number)) Any (λ clause. IsRedefines program (Some number) (clause ∷ []))
unfolding forms.redefines_clause
redefines program number free =
    onward (key (codes "REDEFINES")) (λ at _. ending (name (item_name program number) free)
    (λ found h. pure (at, found.1, ap (λ w. clauses.Redefines at w found.1 ∷ []) h.0)))

picture : {n : ℕ} (the : Picture) → Spelled forms.picture_clause n (picture_tokens (Some the)) Any (λ clause. IsPicture (Some the) (clause ∷ []))
unfolding forms.picture_clause choice.either
picture the =
    onward (there_next (is_key (codes "PIC")) _ (λ o b. same_word (codes "PIC")) (key (codes "PIC")))
    (λ at _. behind_first (absent (codes "IS")) (λ o b. refl)
    (λ _ _. ending (valued part.picture_of (picture_text the) refl) (λ found h. pure (at, found.1, ap (λ t. clauses.Picture at t found.1 ∷ []) h.0))))

binary : {n : ℕ} → Spelled forms.usage n (usage_tokens Binary) Any (λ found. found.0 ≡ Binary)
unfolding forms.usage forms.binary
binary =
    there_next forms.is_binary _ (λ o b. refl)
    (ending (there_next (is_key (codes "BINARY")) _ (λ o b. same_word (codes "BINARY")) (key (codes "BINARY"))) (λ at _. pure refl))

packed : {n : ℕ} → Spelled forms.usage n (usage_tokens Packed) Any (λ found. found.0 ≡ Packed)
unfolding forms.usage forms.packed
packed =
    other_next forms.is_binary _ (λ o b. refl) (there_next forms.is_packed _ (λ o b. refl)
    (ending (there_next (is_key (codes "PACKED-DECIMAL")) _ (λ o b. same_word (codes "PACKED-DECIMAL")) (key (codes "PACKED-DECIMAL"))) (λ at _. pure refl)))

usage_binary : {n : ℕ} → Spelled forms.usage_clause n (usage_tokens Binary) Any (λ clause. IsUsage Binary (clause ∷ []))
unfolding forms.usage_clause forms.usage_alone
usage_binary = other_next (is_key (codes "USAGE")) _ (λ o b. refl) (ending binary (λ found h. pure (found.1, ap (λ usage. clauses.Usage found.1 usage ∷ []) h)))

usage_packed : {n : ℕ} → Spelled forms.usage_clause n (usage_tokens Packed) Any (λ clause. IsUsage Packed (clause ∷ []))
unfolding forms.usage_clause forms.usage_alone
usage_packed = other_next (is_key (codes "USAGE")) _ (λ o b. refl) (ending packed (λ found h. pure (found.1, ap (λ usage. clauses.Usage found.1 usage ∷ []) h)))

abbrev NoCharacter : Option TokenKind → Type 0
NoCharacter behind = begins_by (is_key (codes "CHARACTER")) behind ≡ false

separate : {n : ℕ} → Spelled forms.separate n (kinds.Word (codes "SEPARATE") ∷ []) NoCharacter (λ apart. apart ≡ true)
unfolding forms.separate
separate =
    there_next (is_key (codes "SEPARATE")) _ (λ o b. same_word (codes "SEPARATE"))
    (ending (ending (where_behind (λ o b. tt) (key (codes "SEPARATE"))) (λ _ _. absent (codes "CHARACTER"))) (λ _ _. pure refl))

leading : {n : ℕ} → Spelled forms.side n (kinds.Word (codes "LEADING") ∷ []) Any (λ found. found.0 ≡ true)
unfolding forms.side
leading = there_next (is_key (codes "LEADING")) _ (λ o b. same_word (codes "LEADING")) (ending (key (codes "LEADING")) (λ at _. pure refl))

trailing : {n : ℕ} → Spelled forms.side n (kinds.Word (codes "TRAILING") ∷ []) Any (λ found. found.0 ≡ false)
unfolding forms.side
trailing = other_next (is_key (codes "LEADING")) _ (λ o b. refl) (ending (key (codes "TRAILING")) (λ at _. pure refl))

sign_leading : {n : ℕ} → Spelled forms.sign_clause n (sign_tokens SeparateLeading) NoCharacter (λ clause. IsSign SeparateLeading (clause ∷ []))
unfolding forms.sign_clause forms.sign_behind
sign_leading =
    there_next (is_key (codes "SIGN")) _ (λ o b. same_word (codes "SIGN")) (onward (key (codes "SIGN"))
    (λ at _. behind_first (absent (codes "IS")) (λ o b. refl) (λ _ _. onward leading (λ found h. ending separate
    (λ apart k. pure (at, ap (λ side. clauses.Sign at side apart ∷ []) h ∙ ap (λ apart. clauses.Sign at true apart ∷ []) k))))))

sign_trailing : {n : ℕ} → Spelled forms.sign_clause n (sign_tokens SeparateTrailing) NoCharacter (λ clause. IsSign SeparateTrailing (clause ∷ []))
unfolding forms.sign_clause forms.sign_behind
sign_trailing =
    there_next (is_key (codes "SIGN")) _ (λ o b. same_word (codes "SIGN")) (onward (key (codes "SIGN"))
    (λ at _. behind_first (absent (codes "IS")) (λ o b. refl) (λ _ _. onward trailing (λ found h. ending separate
    (λ apart k. pure (at, ap (λ side. clauses.Sign at side apart ∷ []) h ∙ ap (λ apart. clauses.Sign at false apart ∷ []) k))))))

abbrev NoTimes : Option TokenKind → Type 0
NoTimes behind = begins_by (is_key (codes "TIMES")) behind ≡ false

occurs : {n : ℕ} (count : ℕ) → Spelled forms.occurs_clause n (occurs_tokens (Some count)) NoTimes (λ clause. IsOccurs (Some count) (clause ∷ []))
unfolding forms.occurs_clause
occurs count =
    onward (key (codes "OCCURS")) (λ at _. ending (where_behind (λ o b. tt) (valued part.digits_of (decimal count) refl)) (λ found h.
    ending (absent (codes "TIMES")) (λ _ _. pure (at, found.1, ap (λ digits. clauses.Occurs at digits found.1 ∷ []) h.0))))

-- ---- each of them as a clause of an entry

abbrev Spells : Tokens → (List Clause → Type 0) → Type 0
Spells tokens Is = (n : ℕ) → Spelled forms.clause n tokens EndsClause (λ clause. Is (clause ∷ []))

a-redefines : (program : Program) (number : ℕ) → IsDataWord (item_name program number) → Spells (redefines_tokens program (Some number)) (IsRedefines program (Some number))
unfolding forms.clause
a-redefines program number free n = there_next (is_key (codes "REDEFINES")) _ (λ o b. refl) (where_behind (λ o b. tt) (redefines program number free))

a-picture : (program : Program) (the : Picture) → Spells (picture_tokens (Some the)) (IsPicture (Some the))
unfolding forms.clause
a-picture program the n = other_next (is_key (codes "REDEFINES")) _ (λ o b. refl) (there_next forms.is_pic _ (λ o b. refl) (where_behind (λ o b. tt) (picture the)))

a-binary : (program : Program) → Spells (usage_tokens Binary) (IsUsage Binary)
unfolding forms.clause forms.stored_clause
a-binary program n =
    other_next (is_key (codes "REDEFINES")) _ (λ o b. refl) (other_next forms.is_pic _ (λ o b. refl)
    (there_next forms.is_usage _ (λ o b. refl) (where_behind (λ o b. tt) usage_binary)))

a-packed : (program : Program) → Spells (usage_tokens Packed) (IsUsage Packed)
unfolding forms.clause forms.stored_clause
a-packed program n =
    other_next (is_key (codes "REDEFINES")) _ (λ o b. refl) (other_next forms.is_pic _ (λ o b. refl)
    (there_next forms.is_usage _ (λ o b. refl) (where_behind (λ o b. tt) usage_packed)))

a-leading : (program : Program) → Spells (sign_tokens SeparateLeading) (IsSign SeparateLeading)
unfolding forms.clause forms.stored_clause
a-leading program n =
    other_next (is_key (codes "REDEFINES")) _ (λ o b. refl) (other_next forms.is_pic _ (λ o b. refl) (other_next forms.is_usage _ (λ o b. refl)
    (there_next forms.is_sign _ (λ o b. refl) (where_behind (λ o b. b.no_character) sign_leading))))

a-trailing : (program : Program) → Spells (sign_tokens SeparateTrailing) (IsSign SeparateTrailing)
unfolding forms.clause forms.stored_clause
a-trailing program n =
    other_next (is_key (codes "REDEFINES")) _ (λ o b. refl) (other_next forms.is_pic _ (λ o b. refl) (other_next forms.is_usage _ (λ o b. refl)
    (there_next forms.is_sign _ (λ o b. refl) (where_behind (λ o b. b.no_character) sign_trailing))))

an-occurs : (program : Program) (count : ℕ) → Spells (occurs_tokens (Some count)) (IsOccurs (Some count))
unfolding forms.clause forms.stored_clause forms.counted_clause
an-occurs program count n =
    other_next (is_key (codes "REDEFINES")) _ (λ o b. refl) (other_next forms.is_pic _ (λ o b. refl) (other_next forms.is_usage _ (λ o b. refl)
    (other_next forms.is_sign _ (λ o b. refl) (there_next (is_key (codes "OCCURS")) _ (λ o b. refl) (where_behind (λ o b. b.no_times) (occurs count))))))

a-value : (program : Program) (span : Span) (spans : List Span) → AreLiteralSpans (span ∷ spans) → Spells (ranges_tokens program (span ∷ spans)) (IsSpans (span ∷ spans))
unfolding forms.clause forms.stored_clause forms.counted_clause
a-value program span spans h n =
    other_next (is_key (codes "REDEFINES")) _ (λ o b. refl) (other_next forms.is_pic _ (λ o b. refl) (other_next forms.is_usage _ (λ o b. refl)
    (other_next forms.is_sign _ (λ o b. refl) (other_next (is_key (codes "OCCURS")) _ (λ o b. refl)
    (where_behind (λ o b. (b.no_thru, b.no_literal)) (values program span spans h))))))

-- a value alone is a span
value-tokens : (program : Program) (value : Operand) → ranges_tokens program (alone value ∷ []) ≡ value_tokens program (Some value)
value-tokens program value = ap (λ list. kinds.Word (codes "VALUE") ∷ list) (append-nil (operand_tokens program value ++ []) ∙ append-nil (operand_tokens program value))

-- ---- one behind the other

-- clauses that are so, behind those before
abbrev From : List Clause → (List Clause → Type 0) → List Clause → Type 0
From front Is list = (more : List Clause) × Is more × (list ≡ front ++ more)

abbrev Loop : List Clause → Form (List Clause)
Loop front = form.loop forms.begins_clause (form.added forms.clause) front

-- whatever stands before, these tokens spell such clauses
abbrev Spell : Tokens → (List Clause → Type 0) → Type 0
Spell tokens Is = (front : List Clause) (n : ℕ) → Spelled (Loop front) n tokens IsPeriod (From front Is)

-- a clause that may be left out isn't there
none : (tokens : Tokens) (Front Back : List Clause → Type 0) → Front [] → Spell tokens Back → Spell tokens (Behind Front Back)
none tokens Front Back f S front n = hence (λ list k. (k.0, ([], k.0, f, k.1, refl), k.2)) (S front n)

one : (tokens others : Tokens) (Front Back : List Clause → Type 0) → ((o : Option TokenKind) → begins_by forms.begins_clause (first_of tokens o) ≡ true) → Spells tokens Front →
    ((o : Option TokenKind) → IsPeriod o → EndsClause (first_of others o)) → Spell others Back → Spell (tokens ++ others) (Behind Front Back)
one tokens others Front Back begun C ends S front n =
    turn forms.begins_clause (form.added forms.clause) {Had = λ mid. (clause : Clause) × Front (clause ∷ []) × (mid ≡ front ++ clause ∷ [])} begun
    (ending (C n) (λ clause h. pure (clause, h, refl))) ends
    (λ mid e. hence
    (λ list k. (e.0 ∷ k.0, (e.0 ∷ [], k.0, e.1, k.1, refl), k.2 ∙ ap (λ f. f ++ k.0) e.2 ∙ append_assoc front (e.0 ∷ []) k.0))
    (S mid (n + length tokens)))

-- the last one
last : (tokens : Tokens) (Is : List Clause → Type 0) → ((o : Option TokenKind) → begins_by forms.begins_clause (first_of tokens o) ≡ true) → Spells tokens Is → Spell tokens Is
unfolding forms.begins_clause
last tokens Is begun C front n =
    subst (λ list. Spelled (Loop front) n list IsPeriod (From front Is)) (append-nil tokens)
    (turn forms.begins_clause (form.added forms.clause) {Had = λ mid. (clause : Clause) × Is (clause ∷ []) × (mid ≡ front ++ clause ∷ [])} begun
    (ending (C n) (λ clause h. pure (clause, h, refl))) (λ o b. subst EndsClause (sym b) period-ends)
    (λ mid e. no_turn forms.begins_clause (form.added forms.clause) (λ o b. ap (begins_by forms.begins_clause) b) (e.0 ∷ [], e.1, e.2)))

ended : (Is : List Clause → Type 0) → Is [] → Spell [] Is
unfolding forms.begins_clause
ended Is h front n = no_turn forms.begins_clause (form.added forms.clause) (λ o b. ap (begins_by forms.begins_clause) b) ([], h, sym (append-nil front))

seven-parts : (a b c d e f g : Tokens) → a ++ b ++ c ++ d ++ e ++ f ++ g ≡ a ++ (b ++ (c ++ (d ++ (e ++ (f ++ g)))))
seven-parts a b c d e f g =
    append_assoc (a ++ b ++ c ++ d ++ e) f g ∙ append_assoc (a ++ b ++ c ++ d) e (f ++ g) ∙ append_assoc (a ++ b ++ c) d (e ++ (f ++ g))
    ∙ append_assoc (a ++ b) c (d ++ (e ++ (f ++ g))) ∙ append_assoc a b (c ++ (d ++ (e ++ (f ++ g))))

module _ (program : Program) where
  begins-redefines : (number : ℕ) (o : Option TokenKind) → begins_by forms.begins_clause (first_of (redefines_tokens program (Some number)) o) ≡ true
  unfolding forms.begins_clause
  begins-redefines number o = refl

  begins-picture : (the : Picture) (o : Option TokenKind) → begins_by forms.begins_clause (first_of (picture_tokens (Some the)) o) ≡ true
  unfolding forms.begins_clause
  begins-picture the o = refl

  begins-binary : begins_by forms.begins_clause (Some (kinds.Word (codes "BINARY"))) ≡ true
  unfolding forms.begins_clause
  begins-binary = refl

  begins-packed : begins_by forms.begins_clause (Some (kinds.Word (codes "PACKED-DECIMAL"))) ≡ true
  unfolding forms.begins_clause
  begins-packed = refl

  begins-sign : begins_by forms.begins_clause (Some (kinds.Word (codes "SIGN"))) ≡ true
  unfolding forms.begins_clause
  begins-sign = refl

  begins-occurs : (count : ℕ) (o : Option TokenKind) → begins_by forms.begins_clause (first_of (occurs_tokens (Some count)) o) ≡ true
  unfolding forms.begins_clause
  begins-occurs count o = refl

  begins-value : begins_by forms.begins_clause (Some (kinds.Word (codes "VALUE"))) ≡ true
  unfolding forms.begins_clause
  begins-value = refl

  ranges_spell : (ranges : List Span) → AreLiteralSpans ranges → Spell (ranges_tokens program ranges) (IsRanges ranges)
  ranges_spell [] h = ended (IsRanges []) refl
  ranges_spell (span ∷ spans) h = last (ranges_tokens program (span ∷ spans)) (IsRanges (span ∷ spans)) (λ o. begins-value) (a-value program span spans h)

  values_spell : (value : Option Operand) (ranges : List Span) → IfAny IsLiteral value → AreLiteralSpans ranges →
      Spell (value_tokens program value ++ ranges_tokens program ranges) (Behind (IsValue value) (IsRanges ranges))
  values_spell None ranges h k = none (ranges_tokens program ranges) (IsValue None) (IsRanges ranges) refl (ranges_spell ranges k)
  values_spell (Some value) ranges h k =
      subst (λ list. Spell (list ++ ranges_tokens program ranges) (Behind (IsValue (Some value)) (IsRanges ranges))) (value-tokens program value)
      (one (ranges_tokens program (alone value ∷ [])) (ranges_tokens program ranges) (IsValue (Some value)) (IsRanges ranges) (λ o. begins-value) (a-value program (alone value) [] ((h, tt), tt))
      (ranges-ends program ranges) (ranges_spell ranges k))

  occurs_spell : (count : Option ℕ) (value : Option Operand) (ranges : List Span) → IfAny IsLiteral value → AreLiteralSpans ranges →
      Spell (occurs_tokens count ++ (value_tokens program value ++ ranges_tokens program ranges)) (Behind (IsOccurs count) (Behind (IsValue value) (IsRanges ranges)))
  occurs_spell None value ranges h k = none (value_tokens program value ++ ranges_tokens program ranges) (IsOccurs None) (Behind (IsValue value) (IsRanges ranges)) refl (values_spell value ranges h k)
  occurs_spell (Some count) value ranges h k =
      one (occurs_tokens (Some count)) (value_tokens program value ++ ranges_tokens program ranges) (IsOccurs (Some count)) (Behind (IsValue value) (IsRanges ranges)) (begins-occurs count) (an-occurs program count) (values-ends program value ranges) (values_spell value ranges h k)

  sign_spell : (sign : Sign) (count : Option ℕ) (value : Option Operand) (ranges : List Span) → IfAny IsLiteral value → AreLiteralSpans ranges →
      Spell (sign_tokens sign ++ (occurs_tokens count ++ (value_tokens program value ++ ranges_tokens program ranges)))
      (Behind (IsSign sign) (Behind (IsOccurs count) (Behind (IsValue value) (IsRanges ranges))))
  sign_spell Within count value ranges h k = none (occurs_tokens count ++ (value_tokens program value ++ ranges_tokens program ranges)) (IsSign Within) (Behind (IsOccurs count) (Behind (IsValue value) (IsRanges ranges))) refl (occurs_spell count value ranges h k)
  sign_spell SeparateLeading count value ranges h k =
      one (sign_tokens SeparateLeading) (occurs_tokens count ++ (value_tokens program value ++ ranges_tokens program ranges)) (IsSign SeparateLeading) (Behind (IsOccurs count) (Behind (IsValue value) (IsRanges ranges))) (λ o. begins-sign) (a-leading program) (occurs-end program count value ranges) (occurs_spell count value ranges h k)
  sign_spell SeparateTrailing count value ranges h k =
      one (sign_tokens SeparateTrailing) (occurs_tokens count ++ (value_tokens program value ++ ranges_tokens program ranges)) (IsSign SeparateTrailing) (Behind (IsOccurs count) (Behind (IsValue value) (IsRanges ranges))) (λ o. begins-sign) (a-trailing program) (occurs-end program count value ranges) (occurs_spell count value ranges h k)

  signs-end : (sign : Sign) (count : Option ℕ) (value : Option Operand) (ranges : List Span) (o : Option TokenKind) → IsPeriod o →
      EndsClause (first_of (sign_tokens sign ++ (occurs_tokens count ++ (value_tokens program value ++ ranges_tokens program ranges))) o)
  signs-end Within count value ranges o b = occurs-end program count value ranges o b
  signs-end SeparateLeading count value ranges o b = sign-ends
  signs-end SeparateTrailing count value ranges o b = sign-ends

  -- ---- what comes behind the usage, the picture and what is redefined

  abbrev signed_tokens : Entry → Tokens
  signed_tokens entry = sign_tokens entry.sign ++ (occurs_tokens entry.occurs ++ (value_tokens program entry.value ++ ranges_tokens program entry.ranges))

  abbrev AreSigned : Entry → List Clause → Type 0
  AreSigned entry = Behind (IsSign entry.sign) (Behind (IsOccurs entry.occurs) (Behind (IsValue entry.value) (IsRanges entry.ranges)))

  abbrev used_tokens : Usage → Entry → Tokens
  used_tokens usage entry = usage_tokens usage ++ signed_tokens entry

  abbrev AreUsed : Usage → Entry → List Clause → Type 0
  AreUsed usage entry = Behind (IsUsage usage) (AreSigned entry)

  usage_spell : (usage : Usage) (entry : Entry) → IfAny IsLiteral entry.value → AreLiteralSpans entry.ranges → Spell (used_tokens usage entry) (AreUsed usage entry)
  usage_spell Display entry h k = none (signed_tokens entry) (IsUsage Display) (AreSigned entry) refl (sign_spell entry.sign entry.occurs entry.value entry.ranges h k)
  usage_spell Binary entry h k =
      one (usage_tokens Binary) (signed_tokens entry) (IsUsage Binary) (AreSigned entry) (λ o. begins-binary) (a-binary program) (signs-end entry.sign entry.occurs entry.value entry.ranges)
      (sign_spell entry.sign entry.occurs entry.value entry.ranges h k)
  usage_spell Packed entry h k =
      one (usage_tokens Packed) (signed_tokens entry) (IsUsage Packed) (AreSigned entry) (λ o. begins-packed) (a-packed program) (signs-end entry.sign entry.occurs entry.value entry.ranges)
      (sign_spell entry.sign entry.occurs entry.value entry.ranges h k)

  usages-end : (usage : Usage) (entry : Entry) (o : Option TokenKind) → IsPeriod o → EndsClause (first_of (used_tokens usage entry) o)
  usages-end Display entry o b = signs-end entry.sign entry.occurs entry.value entry.ranges o b
  usages-end Binary entry o b = binary-ends
  usages-end Packed entry o b = packed-ends

  picture_spell : (picture : Option Picture) (entry : Entry) → IfAny IsLiteral entry.value → AreLiteralSpans entry.ranges →
      Spell (picture_tokens picture ++ used_tokens entry.usage entry) (Behind (IsPicture picture) (AreUsed entry.usage entry))
  picture_spell None entry h k = none (used_tokens entry.usage entry) (IsPicture None) (AreUsed entry.usage entry) refl (usage_spell entry.usage entry h k)
  picture_spell (Some the) entry h k =
      one (picture_tokens (Some the)) (used_tokens entry.usage entry) (IsPicture (Some the)) (AreUsed entry.usage entry) (begins-picture the) (a-picture program the) (usages-end entry.usage entry)
      (usage_spell entry.usage entry h k)

  pictures-end : (picture : Option Picture) (entry : Entry) (o : Option TokenKind) → IsPeriod o → EndsClause (first_of (picture_tokens picture ++ used_tokens entry.usage entry) o)
  pictures-end None entry o b = usages-end entry.usage entry o b
  pictures-end (Some the) entry o b = picture-ends

  abbrev AreShown : Entry → List Clause → Type 0
  AreShown entry = Behind (IsPicture entry.picture) (AreUsed entry.usage entry)

  all_spell : (redefined : Option ℕ) (entry : Entry) → IfAny (λ number. IsDataWord (item_name program number)) redefined → IfAny IsLiteral entry.value → AreLiteralSpans entry.ranges →
      Spell (redefines_tokens program redefined ++ (picture_tokens entry.picture ++ used_tokens entry.usage entry)) (Behind (IsRedefines program redefined) (AreShown entry))
  all_spell None entry r h k = none (picture_tokens entry.picture ++ used_tokens entry.usage entry) (IsRedefines program None) (AreShown entry) refl (picture_spell entry.picture entry h k)
  all_spell (Some number) entry r h k =
      one (redefines_tokens program (Some number)) (picture_tokens entry.picture ++ used_tokens entry.usage entry) (IsRedefines program (Some number)) (AreShown entry) (begins-redefines number) (a-redefines program number r)
      (pictures-end entry.picture entry) (picture_spell entry.picture entry h k)

  pub entry_clauses : {n : ℕ} (entry : Entry) → IsPrintableEntry program entry → Spelled entries.entry_clauses n (clauses_tokens program entry) IsPeriod (AreClauses program entry)
  unfolding entries.entry_clauses
  entry_clauses {n = n} entry h =
      subst (λ list. Spelled entries.entry_clauses n list IsPeriod (AreClauses program entry))
      (sym (seven-parts (redefines_tokens program entry.redefines) (picture_tokens entry.picture) (usage_tokens entry.usage) (sign_tokens entry.sign) (occurs_tokens entry.occurs) (value_tokens program entry.value) (ranges_tokens program entry.ranges)))
      (hence (λ list k. subst (AreClauses program entry) (sym k.2) k.1) (all_spell entry.redefines entry h.redefined h.valued h.ranged [] n))
