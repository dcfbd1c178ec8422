-- The tokens that paragraphs are printed with tell the table that these tell themselves.
use Rattle.std.proofs.Common.{◌≡◌, ℕ, ◌+◌, Bool, true, false, ◌||◌, is_some, List, [], ◌∷◌, ◌++◌, map, length, Option, Some, None, refl, ap, sym, ◌∙◌, append_assoc, arith}
use Rattle.std.proofs.lemmas.List.{length-append}
use Rattle.std.specs.Prelude.{codes}
use Rattle.std.specs.List.{flat_map}
use Rattle.cob_tree.specs.declared.program.Paragraph.{Paragraph}
use Rattle.cob_tree.specs.declared.program.Program.{Program}
use Rattle.cob_tree.specs.declared.program.Sentence.{Sentence}
use Rattle.cobol_lex.specs.declared.token.Token.{Token}
use Rattle.cobol_lex.specs.declared.token.TokenKind.{TokenKind}
use Rattle.cobol_lex.specs.declared.token.TokenKind.TheVariants as kinds
use Rattle.cobol_print.specs.Unit.{all_tokens}
use Rattle.parser_combinators.specs.Form.{next, begins_by}
use Rattle.parser_combinators.specs.Part.{is_key, is_period}
use Rattle.unparser.specs.Token.{Tokens, joined, procedure_token}
use Rattle.cobol_print.specs.units.Division.{sentence_units, paragraph_units, paragraphs_units}
use Rattle.symbol_tables.specs.declared.procedure_names.scan.Scan.{Scan}
use Rattle.symbol_tables.specs.procedure_names.Procedures as procedures
use Rattle.symbol_tables.specs.procedure_names.Procedures.{scanned, procedures_of, section_headed, paragraph_headed}
use Rattle.cobol_grammar.specs.stmt_forms.Part.{Parts}
use Rattle.cobol_grammar.specs.stmt_forms.Laws.{PartsAreLawful}
use Rattle.grammar_laws.proofs.no_periods_lemmas.Parts.{PartsArePlain}
use Rattle.cobol_grammar.specs.stmt_forms.Paragraph as paragraphs
use Rattle.cobol_grammar.specs.stmt_forms.Verb.{begins_stmt}
use Rattle.cobol_grammar.specs.declared.stmt_forms.scope.Scope.{Scope}
use Rattle.cobol_grammar.proofs.stmt_forms_lemmas.ParagraphLaws as paragraph_laws
use Rattle.cobol_grammar.specs.Name as words
use Rattle.round_trip.specs.spelled_forms.Spelling.{kinds_of, here, first_of}
use Rattle.round_trip.proofs.spelled_forms_lemmas.Makers.{parts}
use Rattle.round_trip.specs.spelling.stmt_spelling.Part.{Kept, PartsAreTold}
use Rattle.round_trip.specs.spelling.stmt_spelling.Division.{SpellsSentences, SpellsHeader, SpellsHeaded, SpellsParagraphs, SpellsFirst, SpellsDivision, is_bare_by}
use Rattle.round_trip.proofs.spelling_lemmas.stmt_spelling_lemmas.Behind.{first-append}
use Rattle.round_trip.proofs.spelling_lemmas.stmt_spelling_lemmas.Nested.{tokens-append}
use Rattle.round_trip.proofs.spelling_lemmas.stmt_spelling_lemmas.Bodies.{NoStmt, sentence_tokens, sentences, begins-sentences}
use Rattle.round_trip.specs.procedures.Told.{sentences_told, paragraph_told, paragraphs_told, own_procedures}
use Rattle.round_trip.proofs.procedures_lemmas.Taken.{value-is}
use Rattle.round_trip.proofs.procedures_lemmas.Goes.{behind-first, header-first, none-behind}
use Rattle.round_trip.proofs.procedures_lemmas.Sentences.{sentences-begun}

-- ---- tokens by their kinds

head-is : {A : Type 0} {x y : A} {xs ys : List A} → x ∷ xs ≡ y ∷ ys → x ≡ y
head-is e = cc

tail-is : {A : Type 0} {x y : A} {xs ys : List A} → x ∷ xs ≡ y ∷ ys → xs ≡ ys
tail-is e = cc

kinds-count : (tokens : List Token) → length (kinds_of tokens) ≡ length tokens
kinds-count [] = refl
kinds-count (t ∷ tokens) = let more = kinds-count tokens in omega (arith, more)

none-of : (tokens : List Token) → kinds_of tokens ≡ [] → tokens ≡ []
none-of [] e = refl
none-of (t ∷ tokens) e = absurd cc

next-kind : (tokens : List Token) → next tokens ≡ first_of (kinds_of tokens) None
next-kind [] = refl
next-kind (t ∷ tokens) = refl

begins-kinds : (test : TokenKind → Bool) (tokens rest : List Token) (list : List TokenKind) (b : Bool) → kinds_of tokens ≡ list →
    ((o : Option TokenKind) → begins_by test (first_of list o) ≡ b) → begins_by test (next (tokens ++ rest)) ≡ b
begins-kinds test [] rest list b e h = ap (begins_by test) (next-kind rest) ∙ ap (λ k. begins_by test (first_of k (first_of (kinds_of rest) None))) e ∙ h (first_of (kinds_of rest) None)
begins-kinds test (t ∷ tokens) rest list b e h = ap (λ k. begins_by test (first_of k None)) e ∙ h None

-- ---- headers

Section : List ℕ → Tokens
Section name = procedure_token name ∷ kinds.Word (codes "SECTION") ∷ kinds.Period ∷ []

Name : List ℕ → Tokens
Name name = procedure_token name ∷ kinds.Period ∷ []

-- the number of tokens behind some
counted : {m n : ℕ} (tokens : List Token) (may : Bool) (scan : Scan) → m ≡ n → scanned tokens may m scan ≡ scanned tokens may n scan
counted tokens may scan e = ap (λ k. scanned tokens may k scan) e

section-header : (name : List ℕ) → procedures.header_name (procedure_token name) ≡ Some name → (tokens rest : List Token) → kinds_of tokens ≡ Section name →
    (index : ℕ) (scan : Scan) → scanned (tokens ++ rest) true index scan ≡ scanned rest true (index + 3) (section_headed name index scan)
unfolding Section
section-header name h [] rest e index scan = absurd cc
section-header name h (t ∷ []) rest e index scan = absurd cc
section-header name h (t ∷ u ∷ []) rest e index scan = absurd cc
section-header name h (t ∷ u ∷ v ∷ []) rest e index scan =
    let next = section_headed name index scan in
    let second : u.kind ≡ kinds.Word (codes "SECTION") = head-is (tail-is e) in
    let third : v.kind ≡ kinds.Period = head-is (tail-is (tail-is e)) in
    let three : ((index + 1) + 1) + 1 ≡ index + 3 = omega arith in
    header-first t (u ∷ v ∷ rest) name true (ap procedures.header_name (head-is e) ∙ h) (ap (is_key (codes "SECTION")) second) index scan
    ∙ (behind-first u (v ∷ rest) false (index + 1) next (ap is_period second)
    ∙ (behind-first v rest true ((index + 1) + 1) next (ap is_period third) ∙ counted rest true next three))
section-header name h (t ∷ u ∷ v ∷ w ∷ tokens) rest e index scan = absurd cc

name-header : (name : List ℕ) → procedures.header_name (procedure_token name) ≡ Some name → (tokens rest : List Token) → kinds_of tokens ≡ Name name →
    (index : ℕ) (scan : Scan) → scanned (tokens ++ rest) true index scan ≡ scanned rest true (index + 2) (paragraph_headed name index scan)
unfolding Name
name-header name h [] rest e index scan = absurd cc
name-header name h (t ∷ []) rest e index scan = absurd cc
name-header name h (t ∷ u ∷ []) rest e index scan =
    let next = paragraph_headed name index scan in
    let second : u.kind ≡ kinds.Period = head-is (tail-is e) in
    let two : (index + 1) + 1 ≡ index + 2 = omega arith in
    header-first t (u ∷ rest) name false (ap procedures.header_name (head-is e) ∙ h) (ap (is_key (codes "SECTION")) second) index scan
    ∙ (behind-first u rest true (index + 1) next (ap is_period second) ∙ counted rest true next two)
name-header name h (t ∷ u ∷ v ∷ tokens) rest e index scan = absurd cc

-- over any parts that are lawful and take no period, whose headers have names of procedures
module _ {Side Known : Type 0} {these : Parts Side Known} {kept : Kept Side} (lawful : PartsAreLawful these) (plain : PartsArePlain these) (T : PartsAreTold these kept) (program : Program)
    (header-is : (name : List ℕ) (taken : ℕ) → SpellsHeader these kept program name taken → procedures.header_name (procedure_token name) ≡ Some name) where
  -- ---- sentences

  abbrev Body : List Sentence → Tokens
  Body list = joined (map (sentence_tokens T program) list)

  body-over : (scope : Scope) (list : List Sentence) → SpellsSentences these kept program scope list → (tokens rest : List Token) → kinds_of tokens ≡ Body list → NoStmt (next rest) →
      (index : ℕ) (scan : Scan) → scanned (tokens ++ rest) true index scan ≡ scanned rest true (index + length (Body list)) (sentences_told list scan)
  body-over scope [] h tokens rest e b index scan =
      let same : index ≡ index + 0 = omega arith in
      ap (λ ts. scanned (ts ++ rest) true index scan) (none-of tokens e) ∙ counted rest true scan same
  body-over scope (s ∷ list) h tokens rest e b index scan =
      let S = (sentences T program scope (s ∷ list) h 0).spells tokens rest e b in
      let L = (paragraph_laws.sentences lawful scope).lawful in
      let got = L.complete (here (tokens ++ rest) 0) S.0 (here rest (0 + length (Body (s ∷ list)))) S.1 in
      let begins : begins_by begins_stmt (next (tokens ++ rest)) ≡ true = begins-kinds begins_stmt tokens rest (Body (s ∷ list)) true e (λ o. begins-sentences T program scope (s ∷ list) h refl o) in
      let g = sentences-begun these lawful plain scope (here (tokens ++ rest) 0) S.0 (here rest (0 + length (Body (s ∷ list)))) got begins scan index in
      let many : length tokens ≡ length (Body (s ∷ list)) = sym (kinds-count tokens) ∙ ap length e in
      let place : g.0 ≡ index + length (Body (s ∷ list)) = omega (arith, g.1, many, length-append tokens rest) in
      g.2 ∙ counted rest true (procedures.unheaded false scan) place

  -- ---- one paragraph

  abbrev Printed : (name section : Option (List ℕ)) → List Sentence → Tokens
  Printed None None list = Body list
  Printed (Some name) None list = Name name ++ Body list
  Printed None (Some section) list = Section section ++ Body list
  Printed (Some name) (Some section) list = Section section ++ (Name name ++ Body list)

  named-over : (scope : Scope) (name : List ℕ) (list : List Sentence) → procedures.header_name (procedure_token name) ≡ Some name → SpellsSentences these kept program scope list →
      (tokens rest : List Token) → kinds_of tokens ≡ Name name ++ Body list → NoStmt (next rest) → (index : ℕ) (scan : Scan) →
      scanned (tokens ++ rest) true index scan ≡ scanned rest true (index + length (Name name ++ Body list)) (sentences_told list (paragraph_headed name index scan))
  unfolding Name
  named-over scope name list n h tokens rest e b index scan =
      let s = parts (Name name) (Body list) tokens e in
      let next = paragraph_headed name index scan in
      let count : (index + 2) + length (Body list) ≡ index + length (Name name ++ Body list) = omega (arith, length-append (Name name) (Body list)) in
      ap (λ ts. scanned (ts ++ rest) true index scan) s.2 ∙ (ap (λ ts. scanned ts true index scan) (append_assoc s.0 s.1 rest)
      ∙ (name-header name n s.0 (s.1 ++ rest) s.3 index scan ∙ (body-over scope list h s.1 rest s.4 b (index + 2) next ∙ counted rest true (sentences_told list next) count)))

  section-over : (section : List ℕ) (more : Tokens) (last : (index : ℕ) → Scan → Scan) → procedures.header_name (procedure_token section) ≡ Some section →
      (tokens rest : List Token) → kinds_of tokens ≡ Section section ++ more → (index : ℕ) (scan : Scan) →
      ((behind : List Token) → kinds_of behind ≡ more → scanned (behind ++ rest) true (index + 3) (section_headed section index scan) ≡ scanned rest true ((index + 3) + length more) (last (index + 3) (section_headed section index scan))) →
      scanned (tokens ++ rest) true index scan ≡ scanned rest true (index + length (Section section ++ more)) (last (index + 3) (section_headed section index scan))
  unfolding Section
  section-over section more last n tokens rest e index scan K =
      let s = parts (Section section) more tokens e in
      let next = section_headed section index scan in
      let count : (index + 3) + length more ≡ index + length (Section section ++ more) = omega (arith, length-append (Section section) more) in
      ap (λ ts. scanned (ts ++ rest) true index scan) s.2 ∙ (ap (λ ts. scanned ts true index scan) (append_assoc s.0 s.1 rest)
      ∙ (section-header section n s.0 (s.1 ++ rest) s.3 index scan ∙ (K s.1 s.4 ∙ counted rest true (last (index + 3) next) count)))

  headed-over : (bare in_section : Bool) (taken : ℕ) (name section : Option (List ℕ)) (list : List Sentence) → SpellsHeaded these kept program bare in_section taken name section list →
      (tokens rest : List Token) → kinds_of tokens ≡ Printed name section list → NoStmt (next rest) → (index : ℕ) (scan : Scan) →
      scanned (tokens ++ rest) true index scan ≡ scanned rest true (index + length (Printed name section list)) (paragraph_told name section list index scan)
  headed-over bare in_section taken None None list h tokens rest e b index scan = absurd h
  headed-over bare in_section taken (Some name) None list h tokens rest e b index scan =
      named-over (paragraphs.scope_of in_section) name list (header-is name taken h.1.0) h.1.1 tokens rest e b index scan
  headed-over bare in_section taken None (Some section) list h tokens rest e b index scan =
      section-over section (Body list) (λ i next. sentences_told list next) (header-is section taken h.0) tokens rest e index scan
      (λ behind k. body-over (paragraphs.scope_of true) list h.1 behind rest k b (index + 3) (section_headed section index scan))
  headed-over bare in_section taken (Some name) (Some section) list h tokens rest e b index scan =
      section-over section (Name name ++ Body list) (λ i next. sentences_told list (paragraph_headed name i next)) (header-is section taken h.0) tokens rest e index scan
      (λ behind k. named-over (paragraphs.scope_of true) name list (header-is name (taken + 3) h.1.0) h.1.1 behind rest k b (index + 3) (section_headed section index scan))

  -- ---- what a paragraph is printed with

  flat-told : (list : List Sentence) → all_tokens (flat_map (sentence_units program) list) ≡ Body list
  flat-told [] = refl
  flat-told (sentence ∷ list) = tokens-append (sentence_units program sentence) (flat_map (sentence_units program) list) ∙ ap (λ t. sentence_tokens T program sentence ++ t) (flat-told list)

  told : (name section : Option (List ℕ)) (list : List Sentence) → all_tokens (paragraph_units program (paragraphs.paragraph_of name section list)) ≡ Printed name section list
  unfolding Section Name
  told None None list = flat-told list
  told (Some name) None list = ap (λ t. Name name ++ t) (flat-told list)
  told None (Some section) list = ap (λ t. Section section ++ t) (flat-told list)
  told (Some name) (Some section) list = ap (λ t. Section section ++ (Name name ++ t)) (flat-told list)

  abbrev Units : Paragraph → Tokens
  Units paragraph = all_tokens (paragraph_units program paragraph)

  abbrev All : List Paragraph → Tokens
  All list = all_tokens (paragraphs_units program list)

  all-told : (paragraph : Paragraph) (list : List Paragraph) → All (paragraph ∷ list) ≡ Units paragraph ++ All list
  all-told paragraph list = tokens-append (paragraph_units program paragraph) (paragraphs_units program list)

  first-no-stmt : (bare in_section : Bool) (taken : ℕ) (name section : Option (List ℕ)) (list : List Sentence) → SpellsHeaded these kept program bare in_section taken name section list → (o : Option TokenKind) →
      NoStmt (first_of (Printed name section list) o)
  unfolding Section Name
  first-no-stmt bare in_section taken None None list h o = absurd h
  first-no-stmt bare in_section taken (Some name) None list h o = h.1.0.no_stmt
  first-no-stmt bare in_section taken None (Some section) list h o = h.0.no_stmt
  first-no-stmt bare in_section taken (Some name) (Some section) list h o = h.0.no_stmt

  -- no statement begins a paragraph behind the first one
  next-no-stmt : (bare in_section : Bool) (taken : ℕ) (list : List Paragraph) → SpellsParagraphs these kept program bare in_section taken list → (tokens : List Token) → kinds_of tokens ≡ All list → NoStmt (next tokens)
  next-no-stmt bare in_section taken [] h tokens e = ap (λ ts. begins_by begins_stmt (next ts)) (none-of tokens e)
  next-no-stmt bare in_section taken (paragraph ∷ list) h tokens e =
      ap (begins_by begins_stmt) (next-kind tokens ∙ (ap (λ k. first_of k None) (e ∙ all-told paragraph list)
      ∙ (first-append (Units paragraph) (All list) None ∙ ap (λ t. first_of t (first_of (All list) None)) (told paragraph.name paragraph.section paragraph.sentences))))
      ∙ first-no-stmt bare in_section taken paragraph.name paragraph.section paragraph.sentences h.0 (first_of (All list) None)

  -- ---- all of them

  all-over : (list : List Paragraph) (bare in_section : Bool) (taken : ℕ) → SpellsParagraphs these kept program bare in_section taken list → (tokens : List Token) → kinds_of tokens ≡ All list →
      (index : ℕ) (scan : Scan) → scanned tokens true index scan ≡ paragraphs_told program list index scan
  all-over [] bare in_section taken h tokens e index scan = none-behind tokens true index scan (none-of tokens e)
  all-over (paragraph ∷ list) bare in_section taken h tokens e index scan =
      let b = is_bare_by paragraph.name paragraph.section paragraph.sentences in
      let i = is_some paragraph.section || in_section in
      let is : Units paragraph ≡ Printed paragraph.name paragraph.section paragraph.sentences = told paragraph.name paragraph.section paragraph.sentences in
      let s = parts (Units paragraph) (All list) tokens (e ∙ all-told paragraph list) in
      let next = paragraph_told paragraph.name paragraph.section paragraph.sentences index scan in
      ap (λ ts. scanned ts true index scan) s.2
      ∙ (headed-over bare in_section taken paragraph.name paragraph.section paragraph.sentences h.0 s.0 s.1 (s.3 ∙ is) (next-no-stmt b i (taken + length (Units paragraph)) list h.1 s.1 s.4) index scan
      ∙ (ap (λ (t : Tokens). scanned s.1 true (index + length t) next) (sym is)
      ∙ all-over list b i (taken + length (Units paragraph)) h.1 s.1 s.4 (index + length (Units paragraph)) next))

  -- the sentences before the first name
  unnamed-over : (taken : ℕ) (paragraph : Paragraph) (list : List Paragraph) → SpellsSentences these kept program (paragraphs.scope_of false) paragraph.sentences → paragraph.name ≡ None → paragraph.section ≡ None →
      SpellsParagraphs these kept program false false (taken + length (Units paragraph)) list → (tokens : List Token) → kinds_of tokens ≡ All (paragraph ∷ list) →
      (index : ℕ) (scan : Scan) → scanned tokens true index scan ≡ paragraphs_told program (paragraph ∷ list) index scan
  unnamed-over taken paragraph list h n c k tokens e index scan =
      let is : Units paragraph ≡ Printed paragraph.name paragraph.section paragraph.sentences = told paragraph.name paragraph.section paragraph.sentences in
      let bare : Printed paragraph.name paragraph.section paragraph.sentences ≡ Body paragraph.sentences =
      ap (λ o. Printed o paragraph.section paragraph.sentences) n ∙ ap (λ o. Printed None o paragraph.sentences) c in
      let s = parts (Units paragraph) (All list) tokens (e ∙ all-told paragraph list) in
      let alone : sentences_told paragraph.sentences scan ≡ paragraph_told paragraph.name paragraph.section paragraph.sentences index scan =
      sym (ap (λ o. paragraph_told o paragraph.section paragraph.sentences index scan) n ∙ ap (λ o. paragraph_told None o paragraph.sentences index scan) c) in
      let next = paragraph_told paragraph.name paragraph.section paragraph.sentences index scan in
      ap (λ ts. scanned ts true index scan) s.2
      ∙ (body-over (paragraphs.scope_of false) paragraph.sentences h s.0 s.1 (s.3 ∙ (is ∙ bare)) (next-no-stmt false false (taken + length (Units paragraph)) list k s.1 s.4) index scan
      ∙ (ap (λ (t : Tokens). scanned s.1 true (index + length t) (sentences_told paragraph.sentences scan)) (sym (is ∙ bare))
      ∙ (ap (scanned s.1 true (index + length (Units paragraph))) alone
      ∙ all-over list false false (taken + length (Units paragraph)) k s.1 s.4 (index + length (Units paragraph)) next)))

  first-over : (name section : Option (List ℕ)) (taken : ℕ) (sentences : List Sentence) (list : List Paragraph) → SpellsFirst these kept program name section taken (paragraphs.paragraph_of name section sentences) list →
      (tokens : List Token) → kinds_of tokens ≡ All (paragraphs.paragraph_of name section sentences ∷ list) →
      (index : ℕ) (scan : Scan) → scanned tokens true index scan ≡ paragraphs_told program (paragraphs.paragraph_of name section sentences ∷ list) index scan
  first-over None None taken sentences list h tokens e index scan = unnamed-over taken (paragraphs.paragraph_of None None sentences) list h.0 refl refl h.1.1 tokens e index scan
  first-over (Some name) None taken sentences list h tokens e index scan = all-over (paragraphs.paragraph_of (Some name) None sentences ∷ list) false false taken h tokens e index scan
  first-over None (Some section) taken sentences list h tokens e index scan = all-over (paragraphs.paragraph_of None (Some section) sentences ∷ list) false false taken h tokens e index scan
  first-over (Some name) (Some section) taken sentences list h tokens e index scan = all-over (paragraphs.paragraph_of (Some name) (Some section) sentences ∷ list) false false taken h tokens e index scan

  division-over : (list : List Paragraph) (taken : ℕ) → SpellsDivision these kept program taken list → (tokens : List Token) → kinds_of tokens ≡ All list →
      (scan : Scan) → scanned tokens true taken scan ≡ paragraphs_told program list taken scan
  division-over [] taken h tokens e scan = absurd h
  division-over (paragraph ∷ list) taken h tokens e scan = first-over paragraph.name paragraph.section taken paragraph.sentences list h tokens e taken scan

  pub procedures-told : (taken : ℕ) → SpellsDivision these kept program taken program.paragraphs → (tokens : List Token) → kinds_of tokens ≡ All program.paragraphs →
      procedures_of tokens taken ≡ own_procedures program taken
  procedures-told taken h tokens e = ap procedures.closed (division-over program.paragraphs taken h tokens e procedures.start)

-- ---- over the parts that a program is read with, but for operands

pub named-header : {Side Known : Type 0} (these : Parts Side Known) (kept : Kept Side) (program : Program) → (name : List ℕ) (taken : ℕ) → SpellsHeader (record these { header_name = words.header_name }) kept program name taken →
    procedures.header_name (procedure_token name) ≡ Some name
unfolding words.header_name
named-header these kept program name taken H =
    let t : Token = record { kind = procedure_token name; line = 0 } in
    let s = H.spelled.spells (t ∷ []) [] refl tt in
    value-is (procedures.header_name (procedure_token name)) (record { index = taken; line = 0 }) s.0 s.1.0 ∙ ap Some s.2.0
