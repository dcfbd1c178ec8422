-- The next token, where it is a name for a header.
use Rattle.std.proofs.Common.{◌≡◌, ℕ, List, [], ◌∷◌, Some, None, refl, ap}
use Rattle.cobol_lex.specs.declared.token.Token.{Token}
use Rattle.parser_combinators.specs.declared.note.Position.{Position}
use Rattle.parser_combinators.specs.declared.why.Why.TheVariants.{Syntax}
use Rattle.parser_combinators.specs.Form.{Input, Outcome, Got, Stop, next, position_of, taken_as, one_reads}
use Rattle.parser_combinators.specs.Part.{with_position}
use Rattle.parser_combinators.specs.Reading.{fault_line, skip_from}
use Rattle.symbol_tables.specs.procedure_names.Procedures.{header_name}
use Rattle.cobol_grammar.specs.Name.{name_next}

abbrev reads_name : List Token → Input → Outcome (List ℕ × Position)
reads_name rest p = one_reads (λ position kind. with_position position (header_name kind)) rest p

pub name_is_read : (name : List ℕ) (rest : List Token) (p : Input) → name_next (next rest) ≡ Some name →
    reads_name rest p ≡ Got (name, record { index = p.taken; line = fault_line [] rest }) (skip_from rest p)
name_is_read name [] p h = absurd cc
name_is_read name (t ∷ ts) p h = ap (λ o. taken_as (with_position (position_of p t) o) t ts p) h

pub none_is_read : (rest : List Token) (p : Input) → name_next (next rest) ≡ None → reads_name rest p ≡ Stop Syntax rest
none_is_read [] p h = refl
none_is_read (t ∷ ts) p h = ap (λ o. taken_as (with_position (position_of p t) o) t ts p) h

-- a name is read, or none
pub ruleset names_read = (name_is_read, none_is_read)
