-- A turn of the scan leaves what is found in all the tokens as it is.
use Rattle.std.proofs.Common.{◌≡◌, ℕ, ◌+◌, ◌-◌, ◌≤◌, Bool, true, false, List, [], ◌∷◌, length, get_or, drop, take, sym, ap, subst, ◌∙◌, arith}
use Rattle.std.proofs.lemmas.List.{take_rest}
use Rattle.cobol_lex.specs.declared.token.Token.{Token}
use Rattle.cobol_lex.specs.declared.token.TokenKind.{TokenKind}
use Rattle.parser_combinators.specs.Part.{is_period}
use Rattle.symbol_tables.specs.declared.procedure_names.scan.Scan.{Scan}
use Rattle.symbol_tables.specs.procedure_names.Procedures.{scanned, begun, turned, IsWithin}
use Rattle.symbol_tables.proofs.procedure_names_lemmas.WithinLemmas.{turned_within}

first : (tokens : List Token) (t : Token) → 1 ≤ length tokens → t ≡ get_or tokens 0 t → tokens ≡ t ∷ drop 1 tokens
first [] t some is = absurd (omega arith)
first (x ∷ xs) t some is = ap (λ y. y ∷ xs) (sym is)

-- the first token, and the rest as the code cuts it off
pub first_of : (tokens : List Token) (t : Token) → 1 ≤ length tokens → t ≡ get_or tokens 0 t →
    tokens ≡ t ∷ take (length tokens - 1) (drop 1 tokens)
first_of tokens t some is = first tokens t some is ∙ ap (λ ts. t ∷ ts) (sym (take_rest tokens 1))

pub goes_on : (tokens : List Token) (t : Token) (behind : List Token) (may_head next_may : Bool) (index : ℕ) (scan next all : Scan) →
    tokens ≡ t ∷ behind → next ≡ turned may_head t.kind behind index scan → next_may ≡ is_period t.kind →
    scanned tokens may_head index scan ≡ all → scanned behind next_may (index + 1) next ≡ all
unfolding scanned
goes_on tokens t behind may_head next_may index scan next all is turn may same =
    rw (turn, may) (subst (λ (ts : List Token). scanned ts may_head index scan ≡ all) is same)

-- a token that may be a header turns the scan, another one leaves it
pub turned_on : (may_head : Bool) (kind : TokenKind) (behind : List Token) (index : ℕ) (scan next : Scan) →
    may_head ≡ true → next ≡ begun kind behind index scan → next ≡ turned may_head kind behind index scan
turned_on may_head kind behind index scan next may is = is ∙ ap (λ m. turned m kind behind index scan) (sym may)

pub turned_off : (may_head : Bool) (kind : TokenKind) (behind : List Token) (index : ℕ) (scan next : Scan) →
    may_head ≡ false → next ≡ scan → next ≡ turned may_head kind behind index scan
turned_off may_head kind behind index scan next may is = is ∙ ap (λ m. turned m kind behind index scan) (sym may)

pub turn_within : (from index : ℕ) (t : Token) (behind : List Token) (may_head : Bool) (scan next : Scan) → from ≤ index →
    next ≡ turned may_head t.kind behind index scan → IsWithin (index - from) scan → IsWithin (index + 1 - from) next
turn_within from index t behind may_head scan next past turn h =
    let one : index - from + 1 ≡ index + 1 - from = omega arith in
    let there : IsWithin (index - from + 1) (turned may_head t.kind behind index scan) = turned_within (index - from) may_head t.kind behind index scan h in
    subst (λ n. IsWithin n next) one (subst (λ (s : Scan). IsWithin (index - from + 1) s) (sym turn) there)
