-- Each answer tells its cause, and each cause has one answer.
use Rattle.std.proofs.Common.{◌≡◌, ℕ, ◌<◌, ◌≤◌, Bool, true, false, List, [], ◌∷◌, length, Option, Some, None, Ok, Err, refl, ap, sym, subst, ◌∙◌, nat_le, if◌then◌else◌, leb-true, leb-false, le-leb, arith}
use Rattle.std.proofs.lemmas.Bool.Decides.{nat_tests}
use Rattle.std.specs.Prelude.{Result}
use Rattle.cob_words.specs.Lists.{is_listed, left_out_words}
use Rattle.cob_base.proofs.LimitLemmas.{passed-kind}
use Rattle.cob_base.specs.declared.limit.Limit.{Limit}
use Rattle.cob_base.specs.declared.limit.LimitKind.{LimitKind}
use Rattle.cob_base.specs.declared.limit.LimitKind.TheVariants as limits
use Rattle.cob_tree.specs.declared.fault.ParseFault.{ParseFault}
use Rattle.cob_tree.specs.declared.fault.ParseFault.TheVariants as faults
use Rattle.cob_tree.specs.declared.program.Program.{Program}
use Rattle.ref_format.specs.declared.fault.FormatError.{FormatError}
use Rattle.ref_format.specs.declared.fault.FormatError.TheVariants as format
use Rattle.ref_format.specs.declared.placed.Placed.{Placed}
use Rattle.ref_format.specs.Joining.{program_text}
use Rattle.cobol_lex.specs.declared.fault.LexError.{LexError}
use Rattle.cobol_lex.specs.declared.fault.LexError.TheVariants as lex
use Rattle.cobol_lex.specs.declared.token.Token.{Token}
use Rattle.cobol_lex.specs.declared.token.TokenKind.{TokenKind}
use Rattle.cobol_lex.specs.declared.token.TokenKind.TheVariants as kinds
use Rattle.cobol_lex.specs.Token.{tokens_of}
use Rattle.parser_combinators.specs.declared.note.Note.{Note}
use Rattle.parser_combinators.specs.declared.why.Why.{Why}
use Rattle.parser_combinators.specs.declared.why.Why.TheVariants as whys
use Rattle.parser_combinators.specs.Form.{Input, Outcome, Got, Stop}
use Rattle.parser_combinators.specs.Reading.{IsReader, start, fault_line}
use Rattle.parser_combinators.proofs.Reader.{reader}
use Rattle.cob_store.specs.sizes.Storage.{storage_limit, storage_of}
use Rattle.cobol_read.specs.declared.program.Declarations.{Declarations}
use Rattle.cobol_read.specs.declared.program.ProgramDraft.{ProgramDraft}
use Rattle.cobol_read.specs.declared.refusal.ReadRefusal.{ReadRefusal}
use Rattle.cobol_read.specs.declared.refusal.ReadRefusal.TheVariants as refusals
use Rattle.cobol_read.specs.declared.refusal.ReadFault.{ReadFault}
use Rattle.cobol_read.specs.declared.refusal.ReadFault.TheVariants as read
use Rattle.cobol_read.specs.LeftOut.{first_left_out, or_else, token_refusal, kind_refusal}
use Rattle.cob_base.specs.Limit.{max_source, max_tokens, max_paragraphs}
use Rattle.cobol_read.specs.Program.{declarations_of, fault_in, program, program_of}
use Rattle.cobol_read.specs.Answer as answers
use Rattle.cobol_read.specs.Answer.{Answer, answer_of}
use Rattle.cobol_read.specs.Reading.{HasText, HasTokens, HasFewTokens, HasWords, HasSyntax, HasRoom, Reads, HasLeftOut, StopsAt, IsPast, IsParseFault, HasFault, HasCause}
use Rattle.cobol_read.proofs.ProgramLaws as laws
use Rattle.cobol_read.proofs.ProgramEnds.{program_ends}

-- what an answer tells of the bytes
abbrev pub Tells : List ℕ → Answer → Type 0
Tells bytes (Ok found) = Reads bytes found
Tells bytes (Err refusal) = HasCause bytes refusal

-- ---- each answer tells its cause

-- a limit is passed or not
by_limit : (bytes : List ℕ) (count limit : ℕ) (within past : Answer) → (b : Bool) → nat_le count limit ≡ b → (count ≤ limit → Tells bytes within) → (limit < count → Tells bytes past) → Tells bytes (if b then within else past)
by_limit bytes count limit within past true e inside beyond = inside (leb-true count limit e)
by_limit bytes count limit within past false e inside beyond = beyond (leb-false count limit e)

few_paragraphs : (bytes : List ℕ) (found : Program) → HasRoom bytes found → Tells bytes (answers.with_few_paragraphs found)
few_paragraphs bytes found has =
    by_limit bytes (length found.paragraphs) max_paragraphs _ _ (nat_le (length found.paragraphs) max_paragraphs) refl
    (λ few. record { has_room = has; few = few }) (λ many. (found, has, many, refl))

storage : (bytes : List ℕ) (found : Program) → HasSyntax bytes found None → (o : Option Limit) → storage_limit false (storage_of found.entries) ≡ o → Tells bytes (answers.within_storage o found)
storage bytes found has None e = few_paragraphs bytes found (record { has_syntax = has; stored = e })
storage bytes found has (Some limit) e = subst (λ k. IsPast bytes k limit) (passed-kind limits.Storage false (storage_of found.entries) limit e) (found, has, e)

named : (bytes : List ℕ) (found : Program) (fault : Option Note) → HasSyntax bytes found fault → Tells bytes (answers.named fault found)
named bytes found (Some note) has = (found, note, has, refl)
named bytes found None has = storage bytes found has (storage_limit false (storage_of found.entries)) refl

program_is_read : (known : Declarations) → IsReader (program known)
program_is_read known = reader (laws.program known).lawful

parsed : (bytes : List ℕ) (tokens : List Token) → HasWords bytes tokens → (o : Outcome ProgramDraft) → (program (declarations_of tokens)).reads (start tokens) ≡ o → Tells bytes (answers.parsed tokens (declarations_of tokens) o)
parsed bytes tokens has (Got draft behind) e =
    let known = declarations_of tokens in
    named bytes (program_of known draft) (fault_in known behind.fault) (record {
      tokens = tokens;
      has_words = has;
      draft = draft;
      noted = behind.fault;
      spelled = (behind, (program_is_read known).sound (start tokens) draft behind e, program_ends known (start tokens) draft behind e, refl);
      is = refl;
      fault_is = refl;
    })
parsed bytes tokens has (Stop why rest) e = go why (tokens, rest, has, record { first = (program_is_read (declarations_of tokens)).fault (start tokens) why rest e; by_why = e }, refl)
  where
    go : (why : Why) → StopsAt bytes why (fault_line tokens rest) → HasCause bytes (answers.stop_refusal why (fault_line tokens rest))
    go whys.Syntax stops = stops
    go whys.Terms stops = ((fault_line tokens rest, stops), refl)
    go whys.Parens stops = ((fault_line tokens rest, stops), refl)
    go whys.Nesting stops = ((fault_line tokens rest, stops), refl)

-- only two faults are of words that are left out
IsOfWord : Option ReadFault → Type 0
IsOfWord None = Unit {0}
IsOfWord (Some (read.LeftOut word line)) = Unit {0}
IsOfWord (Some (read.Power line)) = Unit {0}
IsOfWord (Some _) = ⊥

first_is_of_word : (tokens : List Token) → IsOfWord (first_left_out tokens)
unfolding IsOfWord first_left_out
first_is_of_word [] = tt
first_is_of_word (token ∷ tokens) = or_is_of_word (token_refusal token) (kind_is_of_word token.kind) (first_left_out tokens) (first_is_of_word tokens)
  where
    or_is_of_word : (o : Option ReadFault) → IsOfWord o → (behind : Option ReadFault) → IsOfWord behind → IsOfWord (or_else o behind)
    or_is_of_word None h behind k = k
    or_is_of_word (Some refusal) h behind k = h

    word_is_of_word : (word : List ℕ) (b : Bool) → IsOfWord (if b then Some (read.LeftOut word token.line) else None)
    word_is_of_word word true = tt
    word_is_of_word word false = tt

    kind_is_of_word : (kind : TokenKind) → IsOfWord (kind_refusal kind token.line)
    kind_is_of_word (kinds.Word word) = word_is_of_word word (is_listed left_out_words word)
    kind_is_of_word (kinds.Digits digits) = tt
    kind_is_of_word (kinds.Decimal number) = tt
    kind_is_of_word (kinds.Literal text) = tt
    kind_is_of_word (kinds.Picture picture) = tt
    kind_is_of_word kinds.Period = tt
    kind_is_of_word (kinds.Mark byte) = tt
    kind_is_of_word kinds.LessEqual = tt
    kind_is_of_word kinds.GreaterEqual = tt
    kind_is_of_word kinds.Power = tt

left_out : (bytes : List ℕ) (tokens : List Token) (refusal : ReadFault) → first_left_out tokens ≡ Some refusal → HasLeftOut bytes refusal → HasFault bytes refusal
unfolding IsOfWord
left_out bytes tokens refusal e = go refusal (subst IsOfWord e (first_is_of_word tokens))
  where
    go : (refusal : ReadFault) → IsOfWord (Some refusal) → HasLeftOut bytes refusal → HasFault bytes refusal
    go (read.LeftOut word line) is h = h
    go (read.Power line) is h = h
    go (read.Format fault) is h = absurd is
    go (read.Lex fault) is h = absurd is
    go (read.Parse fault) is h = absurd is

worded : (bytes : List ℕ) (tokens : List Token) → HasFewTokens bytes tokens → (o : Option ReadFault) → first_left_out tokens ≡ o → Tells bytes (answers.worded o tokens)
worded bytes tokens has None e =
    parsed bytes tokens (record { has_few = has; none_left_out = e }) ((program (declarations_of tokens)).reads (start tokens)) refl
worded bytes tokens has (Some refusal) e = left_out bytes tokens refusal e (tokens, has, e)

few_tokens : (bytes : List ℕ) (tokens : List Token) → HasTokens bytes tokens → Tells bytes (answers.with_few_tokens tokens)
few_tokens bytes tokens has =
    by_limit bytes (length tokens) max_tokens _ _ (nat_le (length tokens) max_tokens) refl
    (λ few. worded bytes tokens (record { has_tokens = has; few = few }) (first_left_out tokens) refl)
    (λ many. (tokens, has, many, refl))

lexed : (bytes : List ℕ) (text : List Placed) → HasText bytes text → (o : Result (List Token) LexError) → tokens_of text ≡ o → Tells bytes (answers.lexed o)
lexed bytes text has (Ok tokens) e = few_tokens bytes tokens (record { text = text; has_text = has; lexed = e })
lexed bytes text has (Err (lex.Fault fault)) e = (text, has, e)
lexed bytes text has (Err lex.NoMemory) e = tt

formatted : (bytes : List ℕ) → length bytes ≤ max_source → (o : Result (List Placed) FormatError) → program_text bytes ≡ o → Tells bytes (answers.formatted o)
formatted bytes within (Ok text) e = lexed bytes text (record { within = within; formatted = e }) (tokens_of text) refl
formatted bytes within (Err (format.Fault fault)) e = (within, e)
formatted bytes within (Err format.NoMemory) e = tt

pub answer_tells : (bytes : List ℕ) → Tells bytes (answer_of bytes)
answer_tells bytes =
    by_limit bytes (length bytes) max_source _ _ (nat_le (length bytes) max_source) refl
    (λ within. formatted bytes within (program_text bytes) refl) (λ long. (long, refl))

-- ---- each cause has one answer

abbrev refused : ReadRefusal → Answer
refused refusal = Err refusal

within_limit : (count limit : ℕ) (within past : Answer) → count ≤ limit → (if nat_le count limit then within else past) ≡ within
within_limit count limit within past few = ap (λ b. if b then within else past) (le-leb count limit few)

past_limit : (count limit : ℕ) (within past : Answer) → limit < count → (if nat_le count limit then within else past) ≡ past
past_limit count limit within past many = ap (λ b. if b then within else past) (not-leb count limit many)
  where
    not-leb : (a b : ℕ) → b < a → nat_le a b ≡ false
    not-leb a b h = grind (arith, nat_tests, h)

text_answer : (bytes : List ℕ) (text : List Placed) → HasText bytes text → answer_of bytes ≡ answers.lexed (tokens_of text)
text_answer bytes text has = within_limit (length bytes) max_source _ _ has.within ∙ ap answers.formatted has.formatted

tokens_answer : (bytes : List ℕ) (tokens : List Token) → HasTokens bytes tokens → answer_of bytes ≡ answers.with_few_tokens tokens
tokens_answer bytes tokens has = text_answer bytes has.text has.has_text ∙ ap answers.lexed has.lexed

few_answer : (bytes : List ℕ) (tokens : List Token) → HasFewTokens bytes tokens → answer_of bytes ≡ answers.worded (first_left_out tokens) tokens
few_answer bytes tokens has = tokens_answer bytes tokens has.has_tokens ∙ within_limit (length tokens) max_tokens _ _ has.few

words_answer : (bytes : List ℕ) (tokens : List Token) → HasWords bytes tokens →
    answer_of bytes ≡ answers.parsed tokens (declarations_of tokens) ((program (declarations_of tokens)).reads (start tokens))
words_answer bytes tokens has = few_answer bytes tokens has.has_few ∙ ap (λ o. answers.worded o tokens) has.none_left_out

spelled_answer : (bytes : List ℕ) (found : Program) (fault : Option Note) → HasSyntax bytes found fault → answer_of bytes ≡ answers.named fault found
spelled_answer bytes found fault has =
    let tokens : List Token = has.tokens in
    let known : Declarations = declarations_of tokens in
    let behind : Input = has.spelled.0 in
    let read : (program known).reads (start tokens) ≡ Got has.draft behind = (program_is_read known).complete (start tokens) has.draft behind has.spelled.1 in
    words_answer bytes tokens has.has_words
    ∙ ap (answers.parsed tokens known) read
    ∙ ap (λ n. answers.named (fault_in known n) (program_of known has.draft)) has.spelled.3
    ∙ ap (λ f. answers.named f (program_of known has.draft)) (sym has.fault_is)
    ∙ ap (answers.named fault) (sym has.is)

room_answer : (bytes : List ℕ) (found : Program) → HasRoom bytes found → answer_of bytes ≡ answers.with_few_paragraphs found
room_answer bytes found has = spelled_answer bytes found None has.has_syntax ∙ ap (λ o. answers.within_storage o found) has.stored

pub reads_answer : (bytes : List ℕ) (found : Program) → Reads bytes found → answer_of bytes ≡ Ok found
reads_answer bytes found has = room_answer bytes found has.has_room ∙ within_limit (length found.paragraphs) max_paragraphs _ _ has.few

stop_answer : (bytes : List ℕ) (why : Why) (line : ℕ) → StopsAt bytes why line → answer_of bytes ≡ Err (answers.stop_refusal why line)
stop_answer bytes why line h =
    words_answer bytes h.0 h.2 ∙ ap (answers.parsed h.0 (declarations_of h.0)) h.3.by_why
    ∙ ap (λ n. refused (answers.stop_refusal why n)) (sym h.4)

abbrev IsRefused : List ℕ → ReadRefusal → Type 0
IsRefused bytes refusal = answer_of bytes ≡ Err refusal

limit_answer : (bytes : List ℕ) (kind : LimitKind) (limit : Limit) → IsPast bytes kind limit → IsRefused bytes (refusals.Limit limit)
limit_answer bytes limits.Source limit h = past_limit (length bytes) max_source _ _ h.0 ∙ ap (λ l. refused (refusals.Limit l)) (sym h.1)
limit_answer bytes limits.Tokens limit h =
    tokens_answer bytes h.0 h.1 ∙ past_limit (length h.0) max_tokens _ _ h.2 ∙ ap (λ l. refused (refusals.Limit l)) (sym h.3)
limit_answer bytes limits.Terms limit h = stop_answer bytes whys.Terms h.0.0 h.0.1 ∙ ap (λ l. refused (refusals.Limit l)) (sym h.1)
limit_answer bytes limits.Parens limit h = stop_answer bytes whys.Parens h.0.0 h.0.1 ∙ ap (λ l. refused (refusals.Limit l)) (sym h.1)
limit_answer bytes limits.Nesting limit h = stop_answer bytes whys.Nesting h.0.0 h.0.1 ∙ ap (λ l. refused (refusals.Limit l)) (sym h.1)
limit_answer bytes limits.Storage limit h = spelled_answer bytes h.0 None h.1 ∙ ap (λ o. answers.within_storage o h.0) h.2
limit_answer bytes limits.Paragraphs limit h =
    room_answer bytes h.0 h.1 ∙ past_limit (length h.0.paragraphs) max_paragraphs _ _ h.2 ∙ ap (λ l. refused (refusals.Limit l)) (sym h.3)
limit_answer bytes limits.Ranges limit h = absurd h
limit_answer bytes limits.Nodes limit h = absurd h
limit_answer bytes limits.Bytes limit h = absurd h

parse_answer : (bytes : List ℕ) (fault : ParseFault) → IsParseFault bytes fault → IsRefused bytes (refusals.Fault (read.Parse fault))
parse_answer bytes (faults.Syntax line) h = stop_answer bytes whys.Syntax line h
parse_answer bytes (faults.Name fault) h =
    spelled_answer bytes h.0 (Some h.1) h.2 ∙ ap (λ f. refused (refusals.Fault (read.Parse (faults.Name f)))) (sym h.3)

word_answer : (bytes : List ℕ) (fault : ReadFault) → HasLeftOut bytes fault → IsRefused bytes (refusals.Fault fault)
word_answer bytes fault h = few_answer bytes h.0 h.1 ∙ ap (λ o. answers.worded o h.0) h.2

format_answer : (bytes : List ℕ) (error : FormatError) → length bytes ≤ max_source → program_text bytes ≡ Err error → IsRefused bytes (answers.format_refusal error)
format_answer bytes error within e = within_limit (length bytes) max_source _ _ within ∙ ap answers.formatted e

lex_answer : (bytes : List ℕ) (text : List Placed) (error : LexError) → HasText bytes text → tokens_of text ≡ Err error → IsRefused bytes (answers.lex_refusal error)
lex_answer bytes text error has e = text_answer bytes text has ∙ ap answers.lexed e

fault_answer : (bytes : List ℕ) (fault : ReadFault) → HasFault bytes fault → IsRefused bytes (refusals.Fault fault)
fault_answer bytes (read.Format fault) h = format_answer bytes (format.Fault fault) h.0 h.1
fault_answer bytes (read.Lex fault) h = lex_answer bytes h.0 (lex.Fault fault) h.1 h.2
fault_answer bytes (read.LeftOut word line) h = word_answer bytes (read.LeftOut word line) h
fault_answer bytes (read.Power line) h = word_answer bytes (read.Power line) h
fault_answer bytes (read.Parse fault) h = parse_answer bytes fault h

pub cause_answer : (bytes : List ℕ) (refusal : ReadRefusal) → (refusal ≡ refusals.NoMemory → ⊥) → HasCause bytes refusal → IsRefused bytes refusal
cause_answer bytes (refusals.Fault fault) n h = fault_answer bytes fault h
cause_answer bytes (refusals.Limit limit) n h = limit_answer bytes limit.kind limit h
cause_answer bytes refusals.NoMemory n h = absurd (n refl)
