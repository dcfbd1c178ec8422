-- Lists of few tokens, all of them brief, and of units with few tokens.
use Rattle.std.proofs.Common.{◌≡◌, ℕ, zero, suc, ◌+◌, ◌≤◌, true, false, cond, List, [], ◌∷◌, ◌++◌, length, Some, slice_get, sym, subst, arith}
use Rattle.std.specs.List.{list_all}
use Rattle.std.proofs.lemmas.List.{length-append}
use Rattle.cob_tree.specs.declared.program.Paragraph.{Paragraph}
use Rattle.cobol_lex.specs.Byte.{is_digit}
use Rattle.cobol_lex.specs.Written.{written}
use Rattle.cobol_lex.specs.declared.token.TokenKind.{TokenKind}
use Rattle.cobol_lex.specs.declared.token.TokenKind.TheVariants as kind
use Rattle.cobol_print.specs.Unit.{all_tokens}
use Rattle.unparser.specs.File.{label_of, paragraph_label}
use Rattle.unparser.specs.Token.{procedure_token}
use Rattle.cobol_print.specs.declared.units.unit.PrintUnit.{PrintUnit}
use Rattle.cobol_print.specs.units.Unit.{unit_at}
use Rattle.end_to_end_laws.proofs.generated_lemmas.short_generated_lemmas.Bytes.{IsBrief, AreBrief, AreSlight}

-- ---- tokens

-- brief ones, at most so many
pub record AreFew (tokens : List TokenKind) (most : ℕ) : Type 0 where
  pub brief : AreBrief tokens
  pub few : length tokens ≤ most

pub no-tokens : AreFew [] 0
no-tokens = record { brief = tt; few = omega arith }

pub more : {tokens : List TokenKind} {most : ℕ} (token : TokenKind) → IsBrief token → AreFew tokens most → AreFew (token ∷ tokens) (suc most)
more token brief h = let few = h.few in record { brief = (brief, h.brief); few = omega (arith, few) }

both-brief : (front back : List TokenKind) → AreBrief front → AreBrief back → AreBrief (front ++ back)
both-brief [] back f b = b
both-brief (token ∷ front) back f b = (f.0, both-brief front back f.1 b)

pub both : {front back : List TokenKind} {most others : ℕ} → AreFew front most → AreFew back others → AreFew (front ++ back) (most + others)
both {front = front} {back = back} f b =
    let whole = length-append front back in
    let here = f.few in
    let there = b.few in
    record { brief = both-brief front back f.brief b.brief; few = omega (arith, whole, here, there) }

-- ---- labels

pub name-brief : (name : List ℕ) → length name ≤ 15 → IsBrief (procedure_token name)
name-brief name short = elim (list_all is_digit name) as (λ b. length (written (cond b (kind.Digits name) (kind.Word name))) ≤ 15) [ true ↦ short | false ↦ short ]

-- a paragraph has a name, and a brief one
abbrev pub IsNamed : Paragraph → Type 0
IsNamed paragraph = (name : List ℕ) × ((paragraph.name ≡ Some name) × (length name ≤ 15))

abbrev pub AreNamed : List Paragraph → Type 0
AreNamed [] = Unit {0}
AreNamed (paragraph ∷ list) = IsNamed paragraph × AreNamed list

-- the label of what stands at a place is one token at most
pub label-few : (list : List Paragraph) → AreNamed list → (at : ℕ) → AreFew (label_of (slice_get list at)) 1
label-few [] h at = record { brief = tt; few = omega arith }
label-few (paragraph ∷ list) h zero =
    let name = h.0.0 in
    subst (λ named. AreFew (paragraph_label named paragraph.section) 1) (sym h.0.1.0) (more (procedure_token name) (name-brief name h.0.1.1) no-tokens)
label-few (paragraph ∷ list) h (suc at) = label-few list h.1 at

-- ---- units

-- slight ones, of at most so many tokens
pub record HaveFew (units : List PrintUnit) (most : ℕ) : Type 0 where
  pub slight : AreSlight units
  pub few : length (all_tokens units) ≤ most

pub no-units : HaveFew [] 0
no-units = record { slight = tt; few = omega arith }

pub unit-more : {units : List PrintUnit} {tokens : List TokenKind} {most others : ℕ} (column : ℕ) → 8 ≤ column → column ≤ 16 →
    AreFew tokens most → HaveFew units others → HaveFew (unit_at column tokens ∷ units) (most + others)
unit-more {units = units} {tokens = tokens} column low high t u =
    let whole = length-append tokens (all_tokens units) in
    let here = t.few in
    let there = u.few in
    record { slight = (record { low = low; high = high; brief = t.brief }, u.slight); few = omega (arith, whole, here, there) }

both-slight : (front back : List PrintUnit) → AreSlight front → AreSlight back → AreSlight (front ++ back)
both-slight [] back f b = b
both-slight (unit ∷ front) back f b = (f.0, both-slight front back f.1 b)

both-tokens : (front back : List PrintUnit) → length (all_tokens (front ++ back)) ≡ length (all_tokens front) + length (all_tokens back)
both-tokens [] back = omega arith
both-tokens (unit ∷ front) back =
    let here = length-append unit.tokens (all_tokens front) in
    let there = length-append unit.tokens (all_tokens (front ++ back)) in
    let others = both-tokens front back in
    omega (arith, here, there, others)

pub units-both : {front back : List PrintUnit} {most others : ℕ} → HaveFew front most → HaveFew back others → HaveFew (front ++ back) (most + others)
units-both {front = front} {back = back} f b =
    let whole = both-tokens front back in
    let here = f.few in
    let there = b.few in
    record { slight = both-slight front back f.slight b.slight; few = omega (arith, whole, here, there) }
