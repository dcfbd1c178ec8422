-- What stands behind a part is none that could go on with it.
use Rattle.std.proofs.Common.{◌≡◌, ℕ, Bool, true, false, ◌&&◌, ◌||◌, not, ◌⊎◌, inl, inr, List, [], ◌∷◌, ◌++◌, Option, Some, None, refl, ap, sym, ◌∙◌, subst}
use Rattle.std.proofs.lemmas.Bool.{and_parts}
use Rattle.std.specs.Str.{bytes_eq}
use Rattle.std.proofs.lemmas.Slice.Eq.{bytes_eq-Decides}
use Rattle.cobol_lex.specs.declared.token.TokenKind.{TokenKind}
use Rattle.cobol_lex.specs.declared.token.TokenKind.TheVariants as kinds
use Rattle.std.specs.Prelude.{codes}
use Rattle.parser_combinators.specs.Form.{begins_by}
use Rattle.parser_combinators.specs.Part.{is_key}
use Rattle.round_trip.specs.spelled_forms.Spelling.{first_of}
use Rattle.round_trip.specs.spelling.stmt_spelling.Behind.{Words, is_one_of, Among, verbs, closings, joints, behind_lists, behind_stmts, behind_parts, BehindList, EndsList, BehindStmt, EndsStmt, BehindPart, IsNot}

-- the test takes none of these words
abbrev pub none_of : (TokenKind → Bool) → Words → Bool
none_of test [] = true
none_of test (word ∷ words) = not (test (kinds.Word word)) && none_of test words

not-true : (b : Bool) → not b ≡ true → b ≡ false
not-true false e = refl
not-true true e = absurd cc

same-word : (one word : List ℕ) → bytes_eq one word ≡ true → one ≡ word
same-word one word e = (bytes_eq-Decides one word).0 e

either-of : (a b : Bool) → (a || b) ≡ true → (a ≡ true) ⊎ (b ≡ true)
either-of true b e = inl refl
either-of false b e = inr e

by-either : (test : TokenKind → Bool) (one word : List ℕ) → test (kinds.Word one) ≡ false → {More : Type 0} → (More → test (kinds.Word word) ≡ false) →
    (bytes_eq one word ≡ true) ⊎ More → test (kinds.Word word) ≡ false
by-either test one word none more (inl same) = subst (λ w. test (kinds.Word w) ≡ false) (same-word one word same) none
by-either test one word none more (inr other) = more other

none-of-word : (test : TokenKind → Bool) (words : Words) → none_of test words ≡ true → (word : List ℕ) → is_one_of words word ≡ true → test (kinds.Word word) ≡ false
none-of-word test [] none word e = absurd cc
none-of-word test (one ∷ words) none word e =
    let n = and_parts (not (test (kinds.Word one))) (none_of test words) none in
    by-either test one word (not-true (test (kinds.Word one)) n.0) (λ more. none-of-word test words n.1 word more) (either-of (bytes_eq one word) (is_one_of words word) e)

pub none-among : (test : TokenKind → Bool) (words : Words) → none_of test words ≡ true → test kinds.Period ≡ false →
    (o : Option TokenKind) → Among words o → begins_by test o ≡ false
none-among test words none period None h = refl
none-among test words none period (Some (kinds.Word word)) h = none-of-word test words none word h
none-among test words none period (Some kinds.Period) h = period
none-among test words none period (Some other) h = absurd h

-- ---- more words

true-or : (a b : Bool) → b ≡ true → (a || b) ≡ true
true-or true b e = refl
true-or false b e = e

or-by : (a b c : Bool) → (b ≡ true → c ≡ true) → (a || b) ≡ true → (a || c) ≡ true
or-by true b c h e = refl
or-by false b c h e = h e

one-left : (words more : Words) (word : List ℕ) → is_one_of words word ≡ true → is_one_of (words ++ more) word ≡ true
one-left [] more word e = absurd cc
one-left (one ∷ words) more word e = or-by (bytes_eq one word) (is_one_of words word) (is_one_of (words ++ more) word) (one-left words more word) e

one-right : (words more : Words) (word : List ℕ) → is_one_of more word ≡ true → is_one_of (words ++ more) word ≡ true
one-right [] more word e = e
one-right (one ∷ words) more word e = true-or (bytes_eq one word) (is_one_of (words ++ more) word) (one-right words more word e)

one-between : (words : Words) (new : List ℕ) (more : Words) (word : List ℕ) → is_one_of (words ++ more) word ≡ true → is_one_of (words ++ new ∷ more) word ≡ true
one-between [] new more word e = true-or (bytes_eq new word) (is_one_of more word) e
one-between (one ∷ words) new more word e =
    or-by (bytes_eq one word) (is_one_of (words ++ more) word) (is_one_of (words ++ new ∷ more) word) (one-between words new more word) e

pub wider : (words more : Words) → ((word : List ℕ) → is_one_of words word ≡ true → is_one_of more word ≡ true) → (o : Option TokenKind) → Among words o → Among more o
wider words more h None b = tt
wider words more h (Some (kinds.Word word)) b = h word b
wider words more h (Some kinds.Period) b = tt
wider words more h (Some other) b = absurd b

pub list-stmt : (o : Option TokenKind) → BehindList o → BehindStmt o
list-stmt = wider behind_lists behind_stmts (one-right verbs behind_lists)

pub stmt-part : (o : Option TokenKind) → BehindStmt o → BehindPart o
stmt-part = wider behind_stmts behind_parts (one-left behind_stmts joints)

pub closing-list : (o : Option TokenKind) → EndsList o → BehindList o
closing-list = wider closings behind_lists (one-right (codes "NOT" ∷ []) closings)

pub closing-stmt : (o : Option TokenKind) → EndsStmt o → BehindStmt o
closing-stmt = wider (verbs ++ closings) behind_stmts (one-between verbs (codes "NOT") closings)

pub ends-stmt : (o : Option TokenKind) → EndsList o → EndsStmt o
ends-stmt = wider closings (verbs ++ closings) (one-right verbs closings)

pub verb-ends : (o : Option TokenKind) → Among verbs o → EndsStmt o
verb-ends = wider verbs (verbs ++ closings) (one-left verbs closings)

pub verb-stmt : (o : Option TokenKind) → Among verbs o → BehindStmt o
verb-stmt = wider verbs behind_stmts (one-left verbs behind_lists)

pub is-not : (o : Option TokenKind) → IsNot o → BehindStmt o
is-not o e = subst BehindStmt (sym e) refl

-- ---- words that aren't there

pub or-false : (a b : Bool) → a ≡ false → b ≡ false → (a || b) ≡ false
or-false a b e k = ap (λ v. v || b) e ∙ k

pub true-false : {A : Type 0} {b : Bool} → b ≡ true → b ≡ false → A
true-false e k = absurd cc

no-key-by : (test : TokenKind → Bool) (word other : List ℕ) → test (kinds.Word other) ≡ true → test (kinds.Word word) ≡ false → (b : Bool) → bytes_eq word other ≡ b → b ≡ false
no-key-by test word other there none false e = refl
no-key-by test word other there none true e = true-false (ap (λ w. test (kinds.Word w)) (same-word word other e) ∙ there) none

-- what such a test takes is not this word
pub no-key : (test : TokenKind → Bool) (kind : TokenKind) (word : List ℕ) → test kind ≡ true → test (kinds.Word word) ≡ false → is_key word kind ≡ false
no-key test (kinds.Word other) word there none = no-key-by test word other there none (bytes_eq word other) refl
no-key test other word there none = refl

pub first-append : (tokens more : List TokenKind) (o : Option TokenKind) → first_of (tokens ++ more) o ≡ first_of tokens (first_of more o)
first-append [] more o = refl
first-append (kind ∷ tokens) more o = refl

-- each of the first words is one of the others
abbrev pub all_in : Words → Words → Bool
all_in [] more = true
all_in (word ∷ words) more = is_one_of more word && all_in words more

in-by : (one word : List ℕ) (more : Words) → is_one_of more one ≡ true → {Other : Type 0} → (Other → is_one_of more word ≡ true) → (bytes_eq one word ≡ true) ⊎ Other → is_one_of more word ≡ true
in-by one word more there other (inl same) = subst (λ w. is_one_of more w ≡ true) (same-word one word same) there
in-by one word more there other (inr o) = other o

in-word : (words more : Words) → all_in words more ≡ true → (word : List ℕ) → is_one_of words word ≡ true → is_one_of more word ≡ true
in-word [] more all word e = absurd cc
in-word (one ∷ words) more all word e =
    let a = and_parts (is_one_of more one) (all_in words more) all in
    in-by one word more a.0 (λ o. in-word words more a.1 word o) (either-of (bytes_eq one word) (is_one_of words word) e)

pub within : (words more : Words) → all_in words more ≡ true → (o : Option TokenKind) → Among words o → Among more o
within words more all = wider words more (in-word words more all)
