-- Paragraphs begin where headers are counted.
use Rattle.std.proofs.Common.{◌≡◌, ℕ, ◌+◌, ◌≤◌, Bool, true, List, [], ◌∷◌, ◌++◌, length, drop, Option, Some, None, refl, ap, sym, ◌∙◌, subst, length-append, arith}
use Rattle.std.specs.Prelude.{codes, min}
use Rattle.std.proofs.Math.Nat.{min-eq_left}
use Rattle.cobol_lex.specs.declared.token.Token.{Token}
use Rattle.cobol_lex.specs.declared.token.TokenKind.{TokenKind}
use Rattle.parser_combinators.specs.declared.note.Position.{Position}
use Rattle.parser_combinators.specs.Form.{Input, past, position_of, taken_as, one_reads, Outcome, Got, Stop, left, Form}
use Rattle.parser_combinators.specs.Part as parts
use Rattle.parser_combinators.specs.Reading.{start}
use Rattle.parser_combinators.proofs.Lawful.{Lawful, IsEnd, end_then, got_is, then_got}
use Rattle.parser_combinators.proofs.MakerLaws as makers
use Rattle.cobol_grammar.specs.declared.data_forms.draft.Divisions.{Divisions}
use Rattle.cobol_grammar.proofs.data_forms_lemmas.DivisionLaws as division_laws
use Rattle.symbol_tables.specs.data_names.Names.{names_of}
use Rattle.cobol_read.specs.declared.program.Declarations.{Declarations}
use Rattle.cobol_read.specs.declared.program.ProgramDraft.{ProgramDraft}
use Rattle.cobol_read.specs.Program as forms
use Rattle.cobol_read.specs.Program.{nameless, statements_at, declarations_of, before_procedures}
use Rattle.cobol_read.specs.StatusLaws as status_laws
use Rattle.grammar_laws.specs.whole_counts.status_readings.Alike.{AlikeOutcomes}
use Rattle.end_to_end_laws.specs.read_programs.division_readings.Same.{SameDivisions}
use Rattle.end_to_end_laws.specs.read_programs.division_readings.Laws.{AreReadThere}
use Rattle.end_to_end_laws.proofs.read_programs_lemmas.division_readings_lemmas.Divisions.{read-same}

-- ---- the header takes three tokens

one-taken : {A : Type 0} (test : Position → TokenKind → Option A) (ts : List Token) (p : Input) (a : A) (q : Input) → one_reads test ts p ≡ Got a q → q.taken ≡ p.taken + 1
one-taken test [] p a q e = absurd cc
one-taken {A = A} test (t ∷ ts) p a q e = go (test (position_of p t) t.kind) e
  where
    go : (o : Option A) → taken_as o t ts p ≡ Got a q → q.taken ≡ p.taken + 1
    go (Some b) e = sym (ap (λ r. r.taken) (got_is b a (past ts p) q e).1)
    go None e = absurd cc

sign-taken : (test : TokenKind → Bool) (p : Input) (a : Position) (q : Input) → (parts.sign test).reads p ≡ Got a q → q.taken ≡ p.taken + 1
sign-taken test p a q e = one-taken (λ position kind. parts.when (test kind) position) p.rest p a q e

header-taken : (p : Input) (a : Unit {0}) (q : Input) → forms.header.reads p ≡ Got a q → q.taken ≡ p.taken + 3
unfolding forms.header
header-taken p a q e =
    let s = then_got ((parts.key (codes "PROCEDURE")).reads p) _ a q e in
    let t = then_got ((parts.key (codes "DIVISION")).reads s.1) _ a q s.3 in
    let u = then_got (parts.period.reads t.1) _ a q t.3 in
    let one = sign-taken (parts.is_key (codes "PROCEDURE")) p s.0 s.1 s.2 in
    let two = sign-taken (parts.is_key (codes "DIVISION")) s.1 t.0 t.1 t.2 in
    let three = sign-taken parts.is_period t.1 u.0 u.1 u.2 in
    let last : u.1.taken ≡ q.taken = ap (λ r. r.taken) (got_is tt a u.1 q u.3).1 in
    omega (arith, one, two, three, last)

header_law : makers.Law true forms.header
unfolding forms.header
header_law = makers.◌>>◌ (makers.key (codes "PROCEDURE")) (makers.◌>>◌ (makers.key (codes "DIVISION")) (makers.◌>>◌ makers.period makers.pure))

-- ---- what is left behind so many tokens

ends : {A : Type 0} {f : Form A} → Lawful f → (p : Input) (a : A) (q : Input) → f.reads p ≡ Got a q → IsEnd p.rest q.rest
ends F p a q e = subst (λ o. IsEnd p.rest (left o)) e (F.within p)

dropped : (used rest : List Token) → drop (length used) (used ++ rest) ≡ rest
dropped [] rest = refl
dropped (t ∷ used) rest = dropped used rest

rest-is : (tokens rest : List Token) (taken : ℕ) → IsEnd tokens rest → taken + length rest ≡ length tokens → rest ≡ drop taken tokens
rest-is tokens rest taken h e =
    let long : length tokens ≡ length (h.0 ++ rest) = ap length h.1 in
    let used : length h.0 ≡ taken = omega (arith, e, long, length-append h.0 rest) in
    sym (dropped h.0 rest) ∙ (ap (λ n. drop n (h.0 ++ rest)) used ∙ ap (drop taken) (sym h.1))

least : (m n k : ℕ) → k ≡ m + 3 → k ≤ n → k ≡ min (m + 3) n
least m n k e h = e ∙ sym (min-eq_left (omega (arith, e, h)))

-- ---- both readings of the divisions end at the same place

begins-at : (tokens : List Token) (o : Outcome Divisions) (before : Divisions) (mid : Input) (k : ℕ) → AlikeOutcomes SameDivisions o (Got before mid) → k ≡ mid.taken + 3 → k ≤ length tokens → k ≡ statements_at tokens o
begins-at tokens (Got found behind) before mid k alike e h = least behind.taken (length tokens) k (e ∙ ap (λ n. n + 3) (sym alike.1.taken)) h
begins-at tokens (Stop why rest) before mid k alike e h = absurd alike

module _ (tokens : List Token) (draft : ProgramDraft) (end : Input) where
  abbrev known : Declarations
  known = declarations_of tokens

  same-place : (before : Divisions) (mid : Input) → (before_procedures known).reads (start tokens) ≡ Got before mid → AlikeOutcomes SameDivisions (nameless tokens) (Got before mid)
  same-place before mid e =
      subst (λ o. AlikeOutcomes SameDivisions (nameless tokens) o) e
      ((read-same (names_of [] []) known.names [] known.entries).alike (start tokens) (start tokens) (record { rest = refl; taken = refl }))

  at-header : (before : Divisions) (mid : Input) (u : Unit {0}) (p : Input) → (before_procedures known).reads (start tokens) ≡ Got before mid → forms.header.reads mid ≡ Got u p →
      (forms.paragraphs known).reads p ≡ Got draft.paragraphs end → AreReadThere tokens draft end
  at-header before mid u p d h e =
      let D = (division_laws.divisions (status_laws.status known.names known.entries)).lawful in
      let before_it : mid.taken + length mid.rest ≡ 0 + length tokens = D.counted (start tokens) before mid d in
      let behind_it : p.taken + length p.rest ≡ mid.taken + length mid.rest = header_law.lawful.counted mid u p h in
      let all : p.taken + length p.rest ≡ length tokens = omega (arith, before_it, behind_it) in
      let is_end = end_then tokens mid.rest p.rest (ends D (start tokens) before mid d) (ends header_law.lawful mid u p h) in
      let from = begins-at tokens (nameless tokens) before mid p.taken (same-place before mid d) (header-taken mid u p h) (omega (arith, all)) in
      record { input = p; taken = from; rest = rest-is tokens p.rest p.taken is_end all; reads = e }

  read-here : (forms.program known).reads (start tokens) ≡ Got draft end → AreReadThere tokens draft end
  unfolding forms.program forms.procedure_division
  read-here e =
      let s = then_got ((before_procedures known).reads (start tokens)) _ draft end e in
      let t = then_got ((forms.procedure_division known).reads s.1) _ draft end s.3 in
      let u = then_got (forms.header.reads s.1) _ t.0 t.1 t.2 in
      let last = got_is _ draft t.1 end t.3 in
      let found : t.0 ≡ draft.paragraphs = ap (λ d. d.paragraphs) last.0 in
      at-header s.0 s.1 u.0 u.1 s.2 u.2 (u.3 ∙ (ap (λ a. Got a t.1) found ∙ ap (λ r. Got draft.paragraphs r) last.1))

pub read-where-counted : (tokens : List Token) (draft : ProgramDraft) (end : Input) → (forms.program (declarations_of tokens)).reads (start tokens) ≡ Got draft end → AreReadThere tokens draft end
read-where-counted tokens draft end e = read-here tokens draft end e
