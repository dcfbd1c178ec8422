-- A token that begins a statement is no header, nor END, nor a period.
use Rattle.std.proofs.Common.{◌≡◌, ℕ, Bool, true, false, ◌||◌, ◌&&◌, List, Some, None, refl, ap, sym, ◌∙◌, subst}
use Rattle.std.specs.Prelude.{codes, not, if◌then◌else◌}
use Rattle.std.proofs.lemmas.Slice.Eq.{bytes_eq-Decides}
use Rattle.cob_words.specs.Lists.{reserved_words, left_out_words, is_listed}
use Rattle.cobol_lex.specs.declared.token.TokenKind.{TokenKind}
use Rattle.cobol_lex.specs.declared.token.TokenKind.TheVariants as kinds
use Rattle.parser_combinators.specs.Part.{is_key, is_period}
use Rattle.parser_combinators.specs.words.Word.{is_free}
use Rattle.symbol_tables.specs.procedure_names.Procedures.{header_name}
use Rattle.cobol_grammar.specs.stmt_forms.Verb.{begins_moving, begins_filing, begins_jumping, begins_adding, begins_multiplying, begins_arithmetic, begins_choice, begins_simple, begins_holding, begins_stmt}

pub record IsVerb (kind : TokenKind) : Type 0 where
  pub headless : header_name kind ≡ None
  pub no_end : is_key (codes "END") kind ≡ false
  pub no_period : is_period kind ≡ false

pub word-is : (word : List ℕ) (kind : TokenKind) → is_key word kind ≡ true → kind ≡ kinds.Word word
word-is word (kinds.Word found) e = ap kinds.Word (sym ((bytes_eq-Decides word found).0 e))
word-is word _ e = absurd cc

-- a reserved word is no header
pub reserved : (word : List ℕ) → is_listed reserved_words word ≡ true → header_name (kinds.Word word) ≡ None
unfolding header_name is_free
reserved word listed = ap (λ b. if (not b && not (is_listed left_out_words word)) then Some word else None) listed

verb : (word : List ℕ) → is_listed reserved_words word ≡ true → is_key (codes "END") (kinds.Word word) ≡ false → (kind : TokenKind) → is_key word kind ≡ true → IsVerb kind
verb word listed other kind e =
    subst IsVerb (sym (word-is word kind e)) (record { headless = reserved word listed; no_end = other; no_period = refl })

either : {C : Type 0} (a b : Bool) → (a || b) ≡ true → (a ≡ true → C) → (b ≡ true → C) → C
either true b e there other = there refl
either false b e there other = other e

moving : (kind : TokenKind) → begins_moving kind ≡ true → IsVerb kind
unfolding begins_moving reserved_words
moving kind e =
    either (is_key (codes "DISPLAY") kind) (is_key (codes "MOVE") kind || is_key (codes "SET") kind) e (verb (codes "DISPLAY") refl refl kind)
    (λ e. either (is_key (codes "MOVE") kind) (is_key (codes "SET") kind) e (verb (codes "MOVE") refl refl kind) (verb (codes "SET") refl refl kind))

filing : (kind : TokenKind) → begins_filing kind ≡ true → IsVerb kind
unfolding begins_filing reserved_words
filing kind e =
    either (is_key (codes "OPEN") kind || is_key (codes "CLOSE") kind) (is_key (codes "WRITE") kind || is_key (codes "REWRITE") kind) e
    (λ e. either (is_key (codes "OPEN") kind) (is_key (codes "CLOSE") kind) e (verb (codes "OPEN") refl refl kind) (verb (codes "CLOSE") refl refl kind))
    (λ e. either (is_key (codes "WRITE") kind) (is_key (codes "REWRITE") kind) e (verb (codes "WRITE") refl refl kind) (verb (codes "REWRITE") refl refl kind))

pub exit : (kind : TokenKind) → is_key (codes "EXIT") kind ≡ true → IsVerb kind
unfolding reserved_words
exit kind e = verb (codes "EXIT") refl refl kind e

jumping : (kind : TokenKind) → begins_jumping kind ≡ true → IsVerb kind
unfolding begins_jumping reserved_words
jumping kind e =
    either (is_key (codes "GO") kind || is_key (codes "NEXT") kind) (is_key (codes "STOP") kind || (is_key (codes "EXIT") kind || is_key (codes "CONTINUE") kind)) e
    (λ e. either (is_key (codes "GO") kind) (is_key (codes "NEXT") kind) e (verb (codes "GO") refl refl kind) (verb (codes "NEXT") refl refl kind))
    (λ e. either (is_key (codes "STOP") kind) (is_key (codes "EXIT") kind || is_key (codes "CONTINUE") kind) e (verb (codes "STOP") refl refl kind)
    (λ e. either (is_key (codes "EXIT") kind) (is_key (codes "CONTINUE") kind) e (exit kind) (verb (codes "CONTINUE") refl refl kind)))

adding : (kind : TokenKind) → begins_adding kind ≡ true → IsVerb kind
unfolding begins_adding reserved_words
adding kind e = either (is_key (codes "ADD") kind) (is_key (codes "SUBTRACT") kind) e (verb (codes "ADD") refl refl kind) (verb (codes "SUBTRACT") refl refl kind)

multiplying : (kind : TokenKind) → begins_multiplying kind ≡ true → IsVerb kind
unfolding begins_multiplying reserved_words
multiplying kind e =
    either (is_key (codes "MULTIPLY") kind) (is_key (codes "DIVIDE") kind) e (verb (codes "MULTIPLY") refl refl kind) (verb (codes "DIVIDE") refl refl kind)

arithmetic : (kind : TokenKind) → begins_arithmetic kind ≡ true → IsVerb kind
unfolding begins_arithmetic reserved_words
arithmetic kind e =
    either (begins_adding kind) (begins_multiplying kind || is_key (codes "COMPUTE") kind) e (adding kind)
    (λ e. either (begins_multiplying kind) (is_key (codes "COMPUTE") kind) e (multiplying kind) (verb (codes "COMPUTE") refl refl kind))

choice : (kind : TokenKind) → begins_choice kind ≡ true → IsVerb kind
unfolding begins_choice reserved_words
choice kind e = either (is_key (codes "IF") kind) (is_key (codes "EVALUATE") kind) e (verb (codes "IF") refl refl kind) (verb (codes "EVALUATE") refl refl kind)

simple : (kind : TokenKind) → begins_simple kind ≡ true → IsVerb kind
unfolding begins_simple
simple kind e =
    either (begins_moving kind) (begins_filing kind || begins_jumping kind) e (moving kind)
    (λ e. either (begins_filing kind) (begins_jumping kind) e (filing kind) (jumping kind))

holding : (kind : TokenKind) → begins_holding kind ≡ true → IsVerb kind
unfolding begins_holding reserved_words
holding kind e =
    either (begins_arithmetic kind) (is_key (codes "READ") kind || (begins_choice kind || is_key (codes "PERFORM") kind)) e (arithmetic kind)
    (λ e. either (is_key (codes "READ") kind) (begins_choice kind || is_key (codes "PERFORM") kind) e (verb (codes "READ") refl refl kind)
    (λ e. either (begins_choice kind) (is_key (codes "PERFORM") kind) e (choice kind) (verb (codes "PERFORM") refl refl kind)))

pub begun : (kind : TokenKind) → begins_stmt kind ≡ true → IsVerb kind
unfolding begins_stmt
begun kind e = either (begins_simple kind) (begins_holding kind) e (simple kind) (holding kind)

-- the name of a header is no period
pub named : (kind : TokenKind) (name : List ℕ) → header_name kind ≡ Some name → is_period kind ≡ false
unfolding header_name
named kinds.Period name e = absurd cc
named _ name e = refl

pub end-headless : (kind : TokenKind) → is_key (codes "END") kind ≡ true → (header_name kind ≡ None) × (is_period kind ≡ false)
unfolding reserved_words
end-headless kind e =
    let is = word-is (codes "END") kind e in
    (ap header_name is ∙ reserved (codes "END") refl, ap is_period is)
