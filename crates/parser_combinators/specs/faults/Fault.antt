-- How what went wrong in reading a source is reported.
use Rattle.std.specs.Prelude.{ℕ, ◌+◌, false}
use Rattle.cob_base.specs.Limit.{most, past}
use Rattle.cob_base.specs.declared.limit.Limit.{Limit}
use Rattle.cob_base.specs.declared.limit.LimitKind.{LimitKind}
use Rattle.cob_base.specs.declared.limit.LimitKind.TheVariants as limits
use Rattle.cob_tree.specs.declared.fault.NameFault.{NameFault}
use Rattle.cob_tree.specs.declared.fault.NameFault.TheVariants as names
use Rattle.cob_tree.specs.declared.fault.ParseError.{ParseError}
use Rattle.cob_tree.specs.declared.fault.ParseError.TheVariants as errors
use Rattle.cob_tree.specs.declared.fault.ParseFault.TheVariants as faults
use Rattle.parser_combinators.specs.declared.note.NameKind.{NameKind}
use Rattle.parser_combinators.specs.declared.note.NameKind.TheVariants as kinds
use Rattle.parser_combinators.specs.declared.why.Why.{Why}
use Rattle.parser_combinators.specs.declared.why.Why.TheVariants as whys

-- terms, parentheses and nested statements pass their limit by one
abbrev pub passed_by_one : LimitKind → Limit
passed_by_one kind = past kind false (most kind + 1)

-- why a reading stopped, at this line
abbrev pub stop_error : Why → (line : ℕ) → ParseError
stop_error whys.Syntax line = errors.Fault (faults.Syntax line)
stop_error whys.Terms line = errors.Limit (passed_by_one limits.Terms)
stop_error whys.Parens line = errors.Limit (passed_by_one limits.Parens)
stop_error whys.Nesting line = errors.Limit (passed_by_one limits.Nesting)

-- what is wrong with a name on this line
abbrev pub name_fault : NameKind → (line : ℕ) → NameFault
name_fault kinds.Duplicate line = names.Duplicate line
name_fault kinds.Unknown line = names.Unknown line
name_fault kinds.Ambiguous line = names.Ambiguous line
name_fault kinds.Level line = names.Level line
name_fault kinds.Picture line = names.Picture line
name_fault kinds.Redefines line = names.Redefines line
name_fault kinds.Value line = names.Value line
name_fault kinds.Usage line = names.Usage line
