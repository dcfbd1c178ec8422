-- ref = name {(OF | IN) name} [ "(" sub+ ")" ] [ "(" expr : [expr] ")" ]
use Rattle.std.specs.Prelude.{ℕ, codes, List, [], length, Some, None}
use Rattle.std.specs.Option.{is_some}
use Rattle.parser_combinators.specs.declared.note.Position.{Position}
use Rattle.symbol_tables.specs.declared.data_names.name.Referent.{Referent}
use Rattle.cobol_grammar.specs.declared.expr_forms.side.Side.{Side}
use Rattle.cobol_grammar.specs.declared.expr_forms.reference.RefSuffixes.{RefSuffixes}
use Rattle.cobol_grammar.specs.declared.expr_forms.reference.Suffix.{Suffix}
use Rattle.cobol_grammar.specs.declared.expr_forms.reference.Suffix.TheVariants as suffixes
use Rattle.cobol_grammar.specs.expr_forms.Fault.{found_fault}
use Rattle.cobol_grammar.specs.expr_forms.Side.{ref_side}
use Rattle.cobol_grammar.specs.expr_forms.Token.{is_of}
use Rattle.cob_base.specs.Bytes.{left_parenthesis}
use Rattle.parser_combinators.specs.Form.{Form, pure, note, ◌>>=◌, ◌>>◌, where_next, many}
use Rattle.parser_combinators.specs.Part.{key, is_key, is_mark}
use Rattle.symbol_tables.specs.data_names.Names.{Names}
use Rattle.parser_combinators.specs.words.Word.{name}
use Rattle.symbol_tables.specs.data_names.Look.{look}
use Rattle.cobol_grammar.specs.expr_forms.Limit.{Inner}

-- a qualifier: (OF | IN) name
unfoldable pub qualifier : Form (List ℕ)
qualifier = do
  where_next (is_key (codes "OF")) (key (codes "OF")) (key (codes "IN"))
  found ← name
  pure found.0

-- any number of qualifiers: {(OF | IN) name}
abbrev pub qualifiers : Form (List (List ℕ))
qualifiers = many is_of qualifier

-- a window, or subscripts and then a window or none
abbrev pub more_behind : Inner → Suffix → ℕ → Form RefSuffixes
more_behind inner (suffixes.Window window) count =
    pure (record { subs = []; window = Some window; count = count })
more_behind inner (suffixes.Subs subs) count = where_next (is_mark left_parenthesis)
    (inner.window count
    >>= (λ w. pure (record { subs = subs; window = Some w.0; count = w.1 })))
    (pure (record { subs = subs; window = None; count = count }))

-- subscripts and a window, or none
unfoldable pub behind : Inner → ℕ → Form RefSuffixes
behind inner count = where_next (is_mark left_parenthesis)
    (inner.suffix count >>= (λ suffix. more_behind inner suffix.0 suffix.1))
    (pure (record { subs = []; window = None; count = count }))

-- what follows the words of a reference
unfoldable pub ref_behind : Inner → Referent → (of : List (List ℕ)) → Position → ℕ → Form (Side × ℕ)
ref_behind inner found of position count = do
  tail ← behind inner count
  note (found_fault found (length tail.subs) (is_some tail.window) position)
  pure (ref_side found of tail.subs tail.window position, tail.count)

-- a reference after its first word
unfoldable pub reference_behind : Names → Inner → List ℕ → Position → ℕ → Form (Side × ℕ)
reference_behind names inner first position count = do
  of ← qualifiers
  ref_behind inner (look names first of) of position count

-- a reference from its first word on
unfoldable pub reference : Names → Inner → ℕ → Form (Side × ℕ)
reference names inner count = do
  first ← name
  reference_behind names inner first.0 first.1 count
