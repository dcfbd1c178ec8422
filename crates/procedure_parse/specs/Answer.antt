-- What is answered for the tokens of a division. The other definitions are the forms of
-- `stmt_forms`.
use Rattle.std.specs.Prelude.{◌≡◌, ℕ, List, [], Option, Some, None, Result, Ok, Err}
use Rattle.cob_tree.specs.declared.fault.NameFault.{NameFault}
use Rattle.cob_tree.specs.declared.fault.ParseError.{ParseError}
use Rattle.cob_tree.specs.declared.fault.ParseError.TheVariants as errors
use Rattle.cob_tree.specs.declared.fault.ParseFault.TheVariants as faults
use Rattle.cobol_lex.specs.declared.token.Token.{Token}
use Rattle.parser_combinators.specs.declared.note.Note.{Note}
use Rattle.parser_combinators.specs.declared.why.Why.{Why}
use Rattle.parser_combinators.specs.Form.{Form, Input}
use Rattle.parser_combinators.specs.Reading.{Stops, start_at, fault_line}
use Rattle.parser_combinators.specs.faults.Fault.{stop_error, name_fault}

-- a fault of the divisions before comes first, and else that which was noted
abbrev pub first_fault : (earlier : Option NameFault) → Option Note → Option NameFault
first_fault (Some earlier) noted = Some earlier
first_fault None (Some noted) = Some (name_fault noted.kind noted.position.line)
first_fault None None = None

-- All the tokens from there on together spell the value, and this is the first name fault in them.
abbrev pub Spelled : {A : Type 0} → Form A → List Token → (from : ℕ) → A → Option Note → Type 0
Spelled form tokens from value noted =
    (behind : Input) × form.spells (start_at from tokens) value behind × (behind.rest ≡ [])
    × (behind.fault ≡ noted)

-- what is spelled is answered, or the first name fault, unless memory ran out
abbrev pub Gives : {A : Type 0} → (earlier : Option NameFault) → Result A ParseError →
    (spelled : A) → Option Note → Type 0
Gives earlier (Ok found) spelled noted = (found ≡ spelled) × (first_fault earlier noted ≡ None)
Gives earlier (Err (errors.Fault (faults.Name fault))) spelled noted =
    first_fault earlier noted ≡ Some fault
Gives earlier (Err (errors.Fault (faults.Syntax line))) spelled noted = ⊥
Gives earlier (Err (errors.Limit limit)) spelled noted = ⊥
Gives earlier (Err errors.NoMemory) spelled noted = Unit {0}

-- the tokens from there on stop being the form where and why the fault says
abbrev pub IsStop : {A : Type 0} → Form A → List Token → (from : ℕ) → ParseError → Type 0
IsStop form tokens from fault =
    (why : Why) × (rest : List Token) × Stops form (start_at from tokens) why rest
    × (fault ≡ stop_error why (fault_line tokens rest))

-- A name fault is answered only where all the tokens are the form.
abbrev pub IsFault : {A : Type 0} → Form A → List Token → (from : ℕ) →
    (earlier : Option NameFault) → ParseError → Type 0
IsFault {A = A} form tokens from earlier (errors.Fault (faults.Name fault)) =
    (spelled : A) × (noted : Option Note) × Spelled form tokens from spelled noted
    × (first_fault earlier noted ≡ Some fault)
IsFault form tokens from earlier (errors.Fault (faults.Syntax line)) =
    IsStop form tokens from (errors.Fault (faults.Syntax line))
IsFault form tokens from earlier (errors.Limit limit) = IsStop form tokens from (errors.Limit limit)
IsFault form tokens from earlier errors.NoMemory = Unit {0}
