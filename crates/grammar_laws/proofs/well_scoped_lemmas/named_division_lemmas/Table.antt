-- The paragraphs that headers name are among those that are counted.
use Rattle.std.proofs.Common.{◌≡◌, ℕ, zero, suc, ◌+◌, ◌-◌, ◌≤◌, ◌<◌, Bool, true, false, if◌then◌else◌, List, [], ◌∷◌, ◌++◌, length, Option, Some, None, refl, sym, subst, arith, tests}
use Rattle.std.specs.Prelude.{◌==◌, codes, position, slice_get, unwrap_or}
use Rattle.std.specs.Str.{bytes_eq}
use Rattle.cobol_lex.specs.declared.token.Token.{Token}
use Rattle.cobol_lex.specs.declared.token.TokenKind.{TokenKind}
use Rattle.parser_combinators.specs.Form.{next, begins_by}
use Rattle.parser_combinators.specs.Part.{is_key, is_period}
use Rattle.symbol_tables.specs.declared.procedure_names.table.Header.{Header}
use Rattle.symbol_tables.specs.declared.procedure_names.table.ProcedureTable.{ProcedureTable}
use Rattle.symbol_tables.specs.declared.procedure_names.scan.Awaited.{Awaited}
use Rattle.symbol_tables.specs.declared.procedure_names.scan.Awaited.TheVariants as awaited
use Rattle.symbol_tables.specs.declared.procedure_names.scan.Scan.{Scan}
use Rattle.symbol_tables.specs.procedure_names.Procedures as procedures
use Rattle.symbol_tables.specs.procedure_names.Procedures.{start, named_by, with_empty, whole_count, unheaded, begun_by, turned, scanned, at_least_one, procedures_of, header_at, header_of, last_of, range_of}
use Rattle.grammar_laws.specs.form_results.Giving.{Each}

-- headers begin, and sections too, below so many paragraphs
record Below (headers : List Header) (starts : List ℕ) (count : ℕ) : Type 0 where
  firsts : Each (λ (header : Header). header.first < count) headers
  begins : Each (λ first. first < count) starts

each-more : {A : Type 0} (f : A → ℕ) (n m : ℕ) (list : List A) → n ≤ m → Each (λ x. f x < n) list → Each (λ x. f x < m) list
each-more f n m [] le h = tt
each-more f n m (x ∷ list) le h = let one = h.0 in (omega (arith, le, one), each-more f n m list le h.1)

each-added : {A : Type 0} (P : A → Type 0) (list : List A) (x : A) → Each P list → P x → Each P (list ++ x ∷ [])
each-added P [] x h k = (k, tt)
each-added P (y ∷ list) x h k = (h.0, each-added P list x h.1 k)

each-at : {A : Type 0} (P : A → Type 0) (list : List A) (i : ℕ) (x : A) → Each P list → slice_get list i ≡ Some x → P x
each-at P [] i x h e = absurd cc
each-at P (y ∷ list) zero x h e = subst P (some_is e) h.0
  where
    some_is : Some y ≡ Some x → y ≡ x
    some_is e = cc
each-at P (y ∷ list) (suc i) x h e = each-at P list i x h.1 e

more : (headers : List Header) (starts : List ℕ) (n m : ℕ) → n ≤ m → Below headers starts n → Below headers starts m
more headers starts n m le B = record {
  firsts = each-more (λ (header : Header). header.first) n m headers le B.firsts;
  begins = each-more (λ first. first) n m starts le B.begins;
}

-- ---- the scan keeps it

abbrev ScanBelow : Scan → Type 0
ScanBelow scan = Below scan.found.headers scan.found.starts (whole_count scan)

-- a header goes in or not; the rest of the table stays
named-below : (number : Option ℕ) (name : List ℕ) (header : Header) (table : ProcedureTable) (count : ℕ) → Below table.headers table.starts count → header.first < count →
    Below (named_by number name header table).headers (named_by number name header table).starts count
named-below (Some number) name header table count B h = B
named-below None name header table count B h = record { firsts = each-added _ table.headers header B.firsts h; begins = B.begins }

named-count : (number : Option ℕ) (name : List ℕ) (header : Header) (table : ProcedureTable) → (named_by number name header table).count ≡ table.count
named-count (Some number) name header table = refl
named-count None name header table = refl

section-below : (name : List ℕ) (index : ℕ) (scan : Scan) → ScanBelow scan → ScanBelow (procedures.section_headed name index scan)
section-below name index scan B =
    let first : ℕ = whole_count scan in
    let table : ProcedureTable = record scan.found { starts = scan.found.starts ++ first ∷ []; count = first } in
    let header : Header = record { first = first; section = Some (length scan.found.starts); index = index } in
    let wide = more scan.found.headers scan.found.starts first (first + 1) (omega arith) B in
    let own : Below table.headers table.starts (first + 1) = record { firsts = wide.firsts; begins = each-added (λ n. n < first + 1) scan.found.starts first wide.begins (omega arith) } in
    let number = position (bytes_eq name) scan.found.names in
    subst (λ n. Below (named_by number name header table).headers (named_by number name header table).starts (n + 1)) (sym (named-count number name header table))
    (named-below number name header table (first + 1) own (omega arith))

count-within : (awaited : Awaited) (count : ℕ) → with_empty awaited count ≤ count + 1
count-within awaited.Division count = omega arith
count-within awaited.Section count = omega arith
count-within awaited.Nothing count = omega arith

paragraph-below : (name : List ℕ) (index : ℕ) (scan : Scan) → ScanBelow scan → ScanBelow (procedures.paragraph_headed name index scan)
paragraph-below name index scan B =
    let table : ProcedureTable = record scan.found { count = scan.found.count + 1 } in
    let header : Header = record { first = scan.found.count; section = None; index = index } in
    let wide = more scan.found.headers scan.found.starts (whole_count scan) (scan.found.count + 1) (count-within scan.awaited scan.found.count) B in
    let number = position (bytes_eq name) scan.found.names in
    subst (λ n. Below (named_by number name header table).headers (named_by number name header table).starts n) (sym (named-count number name header table))
    (named-below number name header table (scan.found.count + 1) (record { firsts = wide.firsts; begins = wide.begins }) (omega arith))

unheaded-below : (is_end : Bool) (scan : Scan) → ScanBelow scan → ScanBelow (unheaded is_end scan)
unheaded-below true scan B = B
unheaded-below false scan B = go scan.awaited B
  where
    go : (awaited : Awaited) → Below scan.found.headers scan.found.starts (with_empty awaited scan.found.count) →
        Below (procedures.with_sentences awaited scan.found).headers (procedures.with_sentences awaited scan.found).starts (procedures.with_sentences awaited scan.found).count
    go awaited.Division B = more scan.found.headers scan.found.starts scan.found.count (scan.found.count + 1) (omega arith) B
    go awaited.Section B = B
    go awaited.Nothing B = B

begun-below : (name : Option (List ℕ)) (is_section is_end : Bool) (index : ℕ) (scan : Scan) → ScanBelow scan → ScanBelow (begun_by name is_section is_end index scan)
begun-below (Some name) true is_end index scan B = section-below name index scan B
begun-below (Some name) false is_end index scan B = paragraph-below name index scan B
begun-below None is_section is_end index scan B = unheaded-below is_end scan B

turned-below : (may_head : Bool) (kind : TokenKind) (behind : List Token) (index : ℕ) (scan : Scan) → ScanBelow scan → ScanBelow (turned may_head kind behind index scan)
turned-below true kind behind index scan B =
    begun-below (procedures.header_name kind) (begins_by (is_key (codes "SECTION")) (next behind)) (is_key (codes "END") kind) index scan B
turned-below false kind behind index scan B = B

scanned-below : (tokens : List Token) (may_head : Bool) (index : ℕ) (scan : Scan) → ScanBelow scan → ScanBelow (scanned tokens may_head index scan)
unfolding scanned
scanned-below [] may_head index scan B = B
scanned-below (t ∷ ts) may_head index scan B =
    scanned-below ts (is_period t.kind) (index + 1) (turned may_head t.kind ts index scan) (turned-below may_head t.kind ts index scan B)

-- ---- what a name stands for

-- there is a paragraph at least
one-more : (count : ℕ) → (count ≤ at_least_one count) × (0 < at_least_one count)
one-more count = go (count == 0) (no_more count) (some_more count)
  where
    no_more : (n : ℕ) → (n == 0) ≡ true → n ≡ 0
    no_more n e = grind (arith, tests)

    some_more : (n : ℕ) → (n == 0) ≡ false → 0 < n
    some_more zero e = absurd cc
    some_more (suc n) e = omega arith

    go : (b : Bool) → (b ≡ true → count ≡ 0) → (b ≡ false → 0 < count) → (count ≤ (if b then 1 else count)) × (0 < (if b then 1 else count))
    go true none some = let e = none refl in (omega (arith, e), omega arith)
    go false none some = let h = some refl in (omega arith, h)

abbrev pub SpanBelow : ℕ → ℕ × ℕ → Type 0
SpanBelow count span = (span.0 < count) × (span.1 < count)

last-of : (table : ProcedureTable) → Below table.headers table.starts table.count → 0 < table.count → (first index : ℕ) (section : Option ℕ) → first < table.count →
    last_of table (record { first = first; section = section; index = index }) < table.count
last-of table B some first index None h = h
last-of table B some first index (Some section) h = go (slice_get table.starts (section + 1)) refl
  where
    go : (o : Option ℕ) → slice_get table.starts (section + 1) ≡ o → unwrap_or o table.count - 1 < table.count
    go None e = omega (arith, some)
    go (Some begin) e = let below = each-at (λ n. n < table.count) table.starts (section + 1) begin B.begins e in omega (arith, below, some)

range-below : (table : ProcedureTable) → Below table.headers table.starts table.count → 0 < table.count → (number : Option ℕ) (header : Option Header) → header_at number table ≡ header →
    (span : ℕ × ℕ) → range_of table header ≡ Some span → SpanBelow table.count span
range-below table B some number None e span is = absurd cc
range-below table B some None (Some header) e span is = absurd cc
range-below table B some (Some number) (Some header) e span is =
    let first = each-at (λ (header : Header). header.first < table.count) table.headers number header B.firsts e in
    subst (SpanBelow table.count) (some_is is) (first, last-of table B some header.first header.index header.section first)
  where
    some_is : Some (header.first, last_of table header) ≡ Some span → (header.first, last_of table header) ≡ span
    some_is is = cc

module _ (tokens : List Token) (from : ℕ) where
  abbrev table : ProcedureTable
  table = procedures_of tokens from

  below : Below table.headers table.starts table.count
  below =
      let scan = scanned tokens true from start in
      let B : ScanBelow scan = scanned-below tokens true from start (record { firsts = tt; begins = tt }) in
      more scan.found.headers scan.found.starts (whole_count scan) (at_least_one (whole_count scan)) (one-more (whole_count scan)).0 B

  some : 0 < table.count
  some = (one-more (whole_count (scanned tokens true from start))).1

  pub span-below : (name : List ℕ) (span : ℕ × ℕ) → range_of table (header_of table name) ≡ Some span → SpanBelow table.count span
  span-below name span is = range-below table below some (position (bytes_eq name) table.names) (header_of table name) refl span is
