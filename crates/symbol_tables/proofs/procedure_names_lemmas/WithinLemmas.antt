-- A token adds no more than one name, section and paragraph.
use Rattle.std.proofs.Common.{◌≡◌, ℕ, ◌+◌, ◌^◌, ◌<◌, ◌≤◌, Bool, true, false, List, [], ◌∷◌, ◌++◌, length, Option, Some, None, refl, ap, length-append, arith}
use Rattle.std.specs.Prelude.{codes, position, if◌then◌else◌}
use Rattle.std.specs.List.{list_any}
use Rattle.std.specs.Str.{bytes_eq}
use Rattle.cobol_lex.specs.declared.token.Token.{Token}
use Rattle.cobol_lex.specs.declared.token.TokenKind.{TokenKind}
use Rattle.parser_combinators.specs.Form.{next, begins_by}
use Rattle.parser_combinators.specs.Part.{is_key}
use Rattle.symbol_tables.specs.declared.procedure_names.table.Header.{Header}
use Rattle.symbol_tables.specs.declared.procedure_names.table.ProcedureTable.{ProcedureTable}
use Rattle.symbol_tables.specs.declared.procedure_names.scan.Awaited.{Awaited}
use Rattle.symbol_tables.specs.declared.procedure_names.scan.Awaited.TheVariants as awaited
use Rattle.symbol_tables.specs.declared.procedure_names.scan.Scan.{Scan}
use Rattle.symbol_tables.specs.procedure_names.Procedures as procedures
use Rattle.symbol_tables.specs.procedure_names.Procedures.{IsWithin, header_name, with_name, with_empty, whole_count}

-- a name more, which adds nothing else
record IsNamed (limit : ℕ) (table named : ProcedureTable) : Type 0 where
  names : length named.names ≤ limit + 1
  starts : named.starts ≡ table.starts
  count : named.count ≡ table.count

word_more : (known : Bool) (names : List (List ℕ)) (name : List ℕ) → length (if known then names else names ++ name ∷ []) ≤ length names + 1
word_more true names name = omega arith
word_more false names name = omega (arith, length-append names (name ∷ []))

named_by : (limit : ℕ) (number : Option ℕ) (name : List ℕ) (header : Header) (table : ProcedureTable) → length table.names ≤ limit → IsNamed limit table (procedures.named_by number name header table)
named_by limit (Some number) name header table h = record { names = omega (arith, h); starts = refl; count = refl }
named_by limit None name header table h = record { names = omega (arith, h, word_more (list_any (bytes_eq name) table.names) table.names name); starts = refl; count = refl }

named : (limit : ℕ) (name : List ℕ) (header : Header) (table : ProcedureTable) → length table.names ≤ limit → IsNamed limit table (with_name name header table)
named limit name header table h = named_by limit (position (bytes_eq name) table.names) name header table h

section_within : (limit : ℕ) (name : List ℕ) (index : ℕ) (scan : Scan) → IsWithin limit scan → IsWithin (limit + 1) (procedures.section_headed name index scan)
section_within limit name index scan h =
    let first : ℕ = whole_count scan in
    let table : ProcedureTable = record scan.found { starts = scan.found.starts ++ first ∷ []; count = first } in
    let n = named limit name (record { first = first; section = Some (length scan.found.starts); index = index }) table h.names in
    record {
      names = n.names;
      starts = omega (arith, ap length n.starts, h.starts, length-append scan.found.starts (first ∷ []));
      count = omega (arith, n.count, h.count);
    }

less_whole : (awaited : Awaited) (count : ℕ) → count ≤ with_empty awaited count
less_whole awaited.Division count = omega arith
less_whole awaited.Section count = omega arith
less_whole awaited.Nothing count = omega arith

paragraph_within : (limit : ℕ) (name : List ℕ) (index : ℕ) (scan : Scan) → IsWithin limit scan → IsWithin (limit + 1) (procedures.paragraph_headed name index scan)
paragraph_within limit name index scan h =
    let table : ProcedureTable = record scan.found { count = scan.found.count + 1 } in
    let n = named limit name (record { first = scan.found.count; section = None; index = index }) table h.names in
    record {
      names = n.names;
      starts = omega (arith, ap length n.starts, h.starts);
      count = omega (arith, n.count, h.count, less_whole scan.awaited scan.found.count);
    }

sentences_within : (limit : ℕ) (wanted : Awaited) (table : ProcedureTable) → length table.names ≤ limit → length table.starts ≤ limit → with_empty wanted table.count ≤ limit →
    IsWithin (limit + 1) (record { found = procedures.with_sentences wanted table; awaited = awaited.Nothing })
sentences_within limit awaited.Division table a b c = record { names = omega arith; starts = omega arith; count = omega arith }
sentences_within limit awaited.Section table a b c = record { names = omega arith; starts = omega arith; count = omega arith }
sentences_within limit awaited.Nothing table a b c = record { names = omega arith; starts = omega arith; count = omega arith }

still_within : (limit : ℕ) (scan : Scan) → IsWithin limit scan → IsWithin (limit + 1) scan
still_within limit scan h = record { names = omega (arith, h.names); starts = omega (arith, h.starts); count = omega (arith, h.count) }

begun_within : (limit : ℕ) (name : Option (List ℕ)) (is_section is_end : Bool) (index : ℕ) (scan : Scan) → IsWithin limit scan → IsWithin (limit + 1) (procedures.begun_by name is_section is_end index scan)
begun_within limit (Some name) true is_end index scan h = section_within limit name index scan h
begun_within limit (Some name) false is_end index scan h = paragraph_within limit name index scan h
begun_within limit None is_section true index scan h = still_within limit scan h
begun_within limit None is_section false index scan h = sentences_within limit scan.awaited scan.found h.names h.starts h.count

pub turned_within : (limit : ℕ) (may_head : Bool) (kind : TokenKind) (behind : List Token) (index : ℕ) (scan : Scan) → IsWithin limit scan → IsWithin (limit + 1) (procedures.turned may_head kind behind index scan)
turned_within limit true kind behind index scan h = begun_within limit (header_name kind) (begins_by (is_key (codes "SECTION")) (next behind)) (is_key (codes "END") kind) index scan h
turned_within limit false kind behind index scan h = still_within limit scan h

-- where a token is left there is room for what it adds
pub room : (seen rest : ℕ) (scan : Scan) → seen + rest < 2 ^ 32 → 0 < rest → IsWithin seen scan → procedures.HasRoom scan
room seen rest scan few some h = record { names = omega (arith, h.names); starts = omega (arith, h.starts); count = omega (arith, h.count) }

pub start_within : IsWithin 0 procedures.start
start_within = record { names = omega arith; starts = omega arith; count = omega arith }
