-- The scan of headers only adds names, and a header that is the first with its name has a new one.
use Rattle.std.proofs.Common.{◌≡◌, ℕ, zero, suc, ◌+◌, ◌<◌, ◌==◌, Bool, true, false, if◌then◌else◌, List, [], ◌∷◌, ◌++◌, length, Option, Some, None, slice_get, refl, ap, sym, ◌∙◌, append_assoc, append-nil, arith}
use Rattle.std.specs.Prelude.{codes, position}
use Rattle.std.specs.List.{list_any}
use Rattle.std.specs.Str.{bytes_eq}
use Rattle.std.proofs.lemmas.Bool.{ne_eqb}
use Rattle.std.proofs.lemmas.List.{length-append}
use Rattle.cobol_lex.specs.declared.token.Token.{Token}
use Rattle.cobol_lex.specs.declared.token.TokenKind.{TokenKind}
use Rattle.parser_combinators.specs.declared.note.NameKind.TheVariants.{Duplicate}
use Rattle.parser_combinators.specs.declared.note.Note.{Note}
use Rattle.parser_combinators.specs.declared.note.Position.{Position}
use Rattle.parser_combinators.specs.Form.{next, begins_by}
use Rattle.parser_combinators.specs.Part.{is_key, is_period}
use Rattle.symbol_tables.specs.declared.procedure_names.scan.Awaited.{Awaited}
use Rattle.symbol_tables.specs.declared.procedure_names.scan.Awaited.TheVariants as awaited
use Rattle.symbol_tables.specs.declared.procedure_names.scan.Scan.{Scan}
use Rattle.symbol_tables.specs.declared.procedure_names.table.Header.{Header}
use Rattle.symbol_tables.specs.declared.procedure_names.table.ProcedureTable.{ProcedureTable}
use Rattle.symbol_tables.specs.procedure_names.Procedures as procedures
use Rattle.symbol_tables.specs.procedure_names.Procedures.{header_name, named_by, with_name, header_at, header_of, begun_by, turned, scanned, duplicate_fault}
use Rattle.round_trip.proofs.procedures_lemmas.Finding.{split-first, found-at}

-- the second table has what the first has, and more
pub record Grows (table more : ProcedureTable) : Type 0 where
  pub new_names : List (List ℕ)
  pub names : more.names ≡ table.names ++ new_names
  pub new_headers : List Header
  pub headers : more.headers ≡ table.headers ++ new_headers

as-before : (table more : ProcedureTable) → more.names ≡ table.names → more.headers ≡ table.headers → Grows table more
as-before table more n h = record { new_names = []; names = n ∙ sym (append-nil table.names); new_headers = []; headers = h ∙ sym (append-nil table.headers) }

grows-then : (a b c : ProcedureTable) → Grows a b → Grows b c → Grows a c
grows-then a b c G H = record {
  new_names = G.new_names ++ H.new_names;
  names = H.names ∙ (ap (λ l. l ++ H.new_names) G.names ∙ append_assoc a.names G.new_names H.new_names);
  new_headers = G.new_headers ++ H.new_headers;
  headers = H.headers ∙ (ap (λ l. l ++ H.new_headers) G.headers ∙ append_assoc a.headers G.new_headers H.new_headers);
}

word-grows : (b : Bool) (names : List (List ℕ)) (name : List ℕ) → (new : List (List ℕ)) × ((if b then names else names ++ name ∷ []) ≡ names ++ new)
word-grows true names name = ([], sym (append-nil names))
word-grows false names name = (name ∷ [], refl)

named-grows : (o : Option ℕ) (name : List ℕ) (header : Header) (table : ProcedureTable) → Grows table (named_by o name header table)
named-grows (Some k) name header table = as-before table table refl refl
named-grows None name header table =
    let w = word-grows (list_any (bytes_eq name) table.names) table.names name in
    record { new_names = w.0; names = w.1; new_headers = header ∷ []; headers = refl }

-- beside another count and other sections
with-grows : (name : List ℕ) (header : Header) (table other : ProcedureTable) → other.names ≡ table.names → other.headers ≡ table.headers → Grows table (with_name name header other)
with-grows name header table other n h =
    grows-then table other (with_name name header other) (as-before table other n h) (named-grows (position (bytes_eq name) other.names) name header other)

headed-grows : (is_section : Bool) (name : List ℕ) (index : ℕ) (scan : Scan) → Grows scan.found (procedures.headed is_section name index scan).found
headed-grows true name index scan = with-grows name _ scan.found (record scan.found { starts = scan.found.starts ++ procedures.whole_count scan ∷ []; count = procedures.whole_count scan }) refl refl
headed-grows false name index scan = with-grows name _ scan.found (record scan.found { count = scan.found.count + 1 }) refl refl

unheaded-grows : (is_end : Bool) (scan : Scan) → Grows scan.found (procedures.unheaded is_end scan).found
unheaded-grows true scan = as-before scan.found scan.found refl refl
unheaded-grows false scan = go scan.awaited
  where
    go : (a : Awaited) → Grows scan.found (procedures.with_sentences a scan.found)
    go awaited.Division = as-before scan.found (record scan.found { count = scan.found.count + 1 }) refl refl
    go awaited.Section = as-before scan.found (record scan.found { count = scan.found.count + 1 }) refl refl
    go awaited.Nothing = as-before scan.found scan.found refl refl

begun-grows : (o : Option (List ℕ)) (is_section is_end : Bool) (index : ℕ) (scan : Scan) → Grows scan.found (begun_by o is_section is_end index scan).found
begun-grows (Some name) is_section is_end index scan = headed-grows is_section name index scan
begun-grows None is_section is_end index scan = unheaded-grows is_end scan

turned-grows : (may : Bool) (kind : TokenKind) (behind : List Token) (index : ℕ) (scan : Scan) → Grows scan.found (turned may kind behind index scan).found
turned-grows true kind behind index scan = begun-grows (header_name kind) (begins_by (is_key (codes "SECTION")) (next behind)) (is_key (codes "END") kind) index scan
turned-grows false kind behind index scan = as-before scan.found scan.found refl refl

pub scan-grows : (tokens : List Token) (may : Bool) (index : ℕ) (scan : Scan) → Grows scan.found (scanned tokens may index scan).found
unfolding scanned
scan-grows [] may index scan = as-before scan.found scan.found refl refl
scan-grows (t ∷ tokens) may index scan =
    let next = turned may t.kind tokens index scan in
    grows-then scan.found next.found (scanned tokens (is_period t.kind) (index + 1) next).found (turned-grows may t.kind tokens index scan) (scan-grows tokens (is_period t.kind) (index + 1) next)

-- ---- a header whose name no earlier one has

there-get : {A : Type 0} (list : List A) (k : ℕ) → k < length list → (x : A) × (slice_get list k ≡ Some x)
there-get [] k less = absurd (omega (arith, less))
there-get (x ∷ list) zero less = (x, refl)
there-get (x ∷ list) (suc k) less = there-get list k (omega (arith, less))

get-front : {A : Type 0} (list more : List A) (k : ℕ) (x : A) → slice_get list k ≡ Some x → slice_get (list ++ more) k ≡ Some x
get-front [] more k x e = absurd cc
get-front (y ∷ list) more zero x e = e
get-front (y ∷ list) more (suc k) x e = get-front list more k x e

-- each header stands before this place
abbrev pub Below : List Header → ℕ → Type 0
Below headers place = (k : ℕ) (header : Header) → slice_get headers k ≡ Some header → header.index < place

other-place : (header : Header) (position : Position) → header.index < position.index → duplicate_fault (Some header) position ≡ None → ⊥
other-place header position less e =
    let apart : (header.index == position.index) ≡ false = ne_eqb header.index position.index (λ same. omega (arith, less, same)) in
    some-none (sym (ap (λ (b : Bool). if b then None else Some (record { kind = Duplicate; position = position })) apart) ∙ e)
  where
    some-none : {note : Note} → Some note ≡ None → ⊥
    some-none e = cc

pub header-new : (table : ProcedureTable) (scan : Scan) (name : List ℕ) (position : Position) → Grows scan.found table → length scan.found.headers ≡ length scan.found.names → Below scan.found.headers position.index →
    duplicate_fault (header_of table name) position ≡ None → list_any (bytes_eq name) scan.found.names ≡ false
header-new table scan name place G paired below e = go (list_any (bytes_eq name) scan.found.names) refl
  where
    again : list_any (bytes_eq name) scan.found.names ≡ true → ⊥
    again there =
        let s = split-first (bytes_eq name) scan.found.names there in
        let names : table.names ≡ s.before ++ s.one ∷ (s.behind ++ G.new_names) = G.names ∙ (ap (λ l. l ++ G.new_names) s.parts ∙ append_assoc s.before (s.one ∷ s.behind) G.new_names) in
        let found : position (bytes_eq name) table.names ≡ Some (length s.before) = ap (position (bytes_eq name)) names ∙ found-at (bytes_eq name) s.before s.one (s.behind ++ G.new_names) s.none s.passes in
        let many : length scan.found.names ≡ length (s.before ++ s.one ∷ s.behind) = ap length s.parts in
        let inside : length s.before < length scan.found.headers = omega (arith, many, paired, length-append s.before (s.one ∷ s.behind)) in
        let h = there-get scan.found.headers (length s.before) inside in
        let is : header_of table name ≡ Some h.0 =
        ap (λ o. header_at o table) found ∙ (ap (λ l. slice_get l (length s.before)) G.headers ∙ get-front scan.found.headers G.new_headers (length s.before) h.0 h.1) in
        other-place h.0 place (below (length s.before) h.0 h.1) (sym (ap (λ o. duplicate_fault o place) is) ∙ e)

    go : (b : Bool) → list_any (bytes_eq name) scan.found.names ≡ b → list_any (bytes_eq name) scan.found.names ≡ false
    go true is = absurd (again is)
    go false is = is
