-- How the scan of headers goes over tokens.
use Rattle.std.proofs.Common.{◌≡◌, ℕ, ◌+◌, ◌<◌, Bool, true, false, List, [], ◌∷◌, ◌++◌, length, Option, Some, None, refl, ap, sym, ◌∙◌, subst, arith}
use Rattle.std.specs.Prelude.{codes}
use Rattle.cobol_lex.specs.declared.token.Token.{Token}
use Rattle.parser_combinators.specs.declared.note.Position.{Position}
use Rattle.parser_combinators.specs.Form.{Input, Got, Form, next, begins_by, is_next}
use Rattle.parser_combinators.specs.Part.{is_key, is_period, period}
use Rattle.parser_combinators.proofs.Turns.{Consumes}
use Rattle.symbol_tables.specs.declared.procedure_names.scan.Scan.{Scan}
use Rattle.symbol_tables.specs.procedure_names.Procedures.{header_name, headed, unheaded, begun_by, scanned}
use Rattle.cobol_grammar.specs.stmt_forms.Verb.{begins_stmt}
use Rattle.grammar_laws.specs.no_periods.Plain.{NoPeriods, Plain}
use Rattle.grammar_laws.proofs.whole_counts_lemmas.header_counts_lemmas.Taken.{sign-of}
use Rattle.grammar_laws.proofs.whole_counts_lemmas.header_counts_lemmas.Verbs as verbs
use Rattle.grammar_laws.proofs.whole_counts_lemmas.header_counts_lemmas.Verbs.{IsVerb}

-- whatever the place, the scan goes on with the second tokens as it does with the first
abbrev pub Goes : List Token → (may_head : Bool) → Scan → List Token → (may_behind : Bool) → Scan → Type 0
Goes tokens may_head scan rest may_behind next =
    (index : ℕ) → (place : ℕ) × (scanned tokens may_head index scan ≡ scanned rest may_behind place next)

pub stays : (tokens : List Token) (may_head : Bool) (scan : Scan) → Goes tokens may_head scan tokens may_head scan
stays tokens may_head scan index = (index, refl)

pub goes-then : (a b c : List Token) (may may_b may_c : Bool) (s t u : Scan) → Goes a may s b may_b t → Goes b may_b t c may_c u → Goes a may s c may_c u
goes-then a b c may may_b may_c s t u one other index = let h = one index in let k = other h.0 in (k.0, h.1 ∙ k.1)

-- ---- behind no period nothing is a header

passed : (used rest : List Token) (scan : Scan) → NoPeriods used → Goes (used ++ rest) false scan rest false scan
unfolding scanned
passed [] rest scan none index = (index, refl)
passed (t ∷ used) rest scan none index =
    let h = passed used rest scan none.1 (index + 1) in
    (h.0, ap (λ may. scanned (used ++ rest) may (index + 1) scan) none.0 ∙ h.1)

pub over : {A : Type 0} {f : Form A} → Plain f → (p : Input) (a : A) (q : Input) → f.reads p ≡ Got a q → (scan : Scan) → Goes p.rest false scan q.rest false scan
over F p a q e scan =
    let l = F.takes p a q e in
    subst (λ ts. Goes ts false scan q.rest false scan) (sym l.1) (passed l.0 q.rest scan l.2)

period-first : (t : Token) (ts : List Token) (scan : Scan) → is_period t.kind ≡ true → Goes (t ∷ ts) false scan ts true scan
unfolding scanned
period-first t ts scan is index = (index + 1, ap (λ may. scanned ts may (index + 1) scan) is)

pub period-over : (p : Input) (a : Position) (q : Input) → period.reads p ≡ Got a q → (scan : Scan) → Goes p.rest false scan q.rest true scan
period-over p a q e scan =
    let t = sign-of is_period p a q e in
    subst (λ ts. Goes ts false scan q.rest true scan) (sym t.1) (period-first t.0 q.rest scan t.2)

-- ---- behind a period a statement begins

first-by : (t : Token) (ts : List Token) (index : ℕ) (scan : Scan) (name : Option (List ℕ)) (is_section is_end may : Bool) →
    header_name t.kind ≡ name → begins_by (is_key (codes "SECTION")) (next ts) ≡ is_section → is_key (codes "END") t.kind ≡ is_end → is_period t.kind ≡ may →
    scanned (t ∷ ts) true index scan ≡ scanned ts may (index + 1) (begun_by name is_section is_end index scan)
unfolding scanned
first-by t ts index scan name is_section is_end may n s d p =
    ap (λ o. scanned ts (is_period t.kind) (index + 1) (begun_by o (begins_by (is_key (codes "SECTION")) (next ts)) (is_key (codes "END") t.kind) index scan)) n
    ∙ (ap (λ b. scanned ts (is_period t.kind) (index + 1) (begun_by name b (is_key (codes "END") t.kind) index scan)) s
    ∙ (ap (λ b. scanned ts (is_period t.kind) (index + 1) (begun_by name is_section b index scan)) d
    ∙ ap (λ b. scanned ts b (index + 1) (begun_by name is_section is_end index scan)) p))

pub verb-first : (t : Token) (ts : List Token) (scan : Scan) → IsVerb t.kind → Goes (t ∷ ts) true scan ts false (unheaded false scan)
verb-first t ts scan V index =
    (index + 1, first-by t ts index scan None (begins_by (is_key (codes "SECTION")) (next ts)) false false V.headless refl V.no_end V.no_period)

from-verb : (used ts rest : List Token) → ts ≡ used ++ rest → NoPeriods used → length rest < length ts → begins_by begins_stmt (next ts) ≡ true → (scan : Scan) →
    Goes ts true scan rest false (unheaded false scan)
from-verb [] ts rest is none less begins scan = let same : length ts ≡ length rest = ap length is in absurd (omega (arith, less, same))
from-verb (t ∷ used) ts rest is none less begins scan =
    let there : begins_stmt t.kind ≡ true = subst (λ l. begins_by begins_stmt (next l) ≡ true) is begins in
    subst (λ l. Goes l true scan rest false (unheaded false scan)) (sym is)
    (goes-then (t ∷ (used ++ rest)) (used ++ rest) rest true false false scan (unheaded false scan) (unheaded false scan)
    (verb-first t (used ++ rest) scan (verbs.begun t.kind there)) (passed used rest (unheaded false scan) none.1))

-- what begins a statement, and takes no period
pub over-begun : {A : Type 0} {f : Form A} → Plain f → Consumes f → (p : Input) (a : A) (q : Input) → is_next begins_stmt p ≡ true → f.reads p ≡ Got a q → (scan : Scan) →
    Goes p.rest true scan q.rest false (unheaded false scan)
over-begun F C p a q begins e scan =
    let l = F.takes p a q e in from-verb l.0 p.rest q.rest l.1 l.2 (C.less p a q e) begins scan

-- ---- a header, and END

pub header-first : (t : Token) (ts : List Token) (name : List ℕ) (is_section : Bool) → header_name t.kind ≡ Some name → begins_by (is_key (codes "SECTION")) (next ts) ≡ is_section →
    (index : ℕ) (scan : Scan) → scanned (t ∷ ts) true index scan ≡ scanned ts false (index + 1) (headed is_section name index scan)
header-first t ts name is_section n s index scan = first-by t ts index scan (Some name) is_section (is_key (codes "END") t.kind) false n s refl (verbs.named t.kind name n)

pub end-first : (t : Token) (ts : List Token) (scan : Scan) → is_key (codes "END") t.kind ≡ true → Goes (t ∷ ts) true scan ts false scan
end-first t ts scan is index =
    let h = verbs.end-headless t.kind is in
    (index + 1, first-by t ts index scan None (begins_by (is_key (codes "SECTION")) (next ts)) true false h.0 refl is h.1)

pub none-behind : (tokens : List Token) (may_head : Bool) (index : ℕ) (scan : Scan) → tokens ≡ [] → scanned tokens may_head index scan ≡ scan
unfolding scanned
none-behind [] may_head index scan e = refl
none-behind (t ∷ ts) may_head index scan e = absurd cc
