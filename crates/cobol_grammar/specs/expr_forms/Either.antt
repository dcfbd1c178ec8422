-- What may turn out to be subscripts or the sum of a window, as far as it is read.
use Rattle.std.specs.Prelude.{ℕ, ◌+◌, min, Bool, false, codes, List, [], ◌∷◌, ◌++◌, Option, Some, None}
use Rattle.cob_tree.specs.declared.place.Op.{Op}
use Rattle.cob_tree.specs.declared.place.Place.{Place}
use Rattle.cob_tree.specs.declared.place.Sub.{Sub, roll-Sub}
use Rattle.parser_combinators.specs.declared.note.Position.{Position}
use Rattle.symbol_tables.specs.declared.data_names.name.Referent.{Referent}
use Rattle.cobol_grammar.specs.declared.expr_forms.either.MaybeSubscripts.{MaybeSubscripts}
use Rattle.cobol_grammar.specs.expr_forms.Fault.{whole_fault_at, kind_of}
use Rattle.cobol_grammar.specs.expr_forms.Side.{place_of, ref_side, number_of, digits_side}
use Rattle.cobol_grammar.specs.expr_forms.Chain.{chain_of, joined}

-- a subscript that is a number
abbrev pub number_sub : List ℕ → Sub
number_sub digits = roll-Sub (record { base = None; plus = number_of false digits })

-- a subscript that is an item and a number
abbrev pub item_sub : Place → Bool → List ℕ → Sub
item_sub place negative digits =
    roll-Sub (record { base = Some place; plus = number_of negative digits })

-- the subscript that is an item alone
abbrev pub bare_sub : Place → Sub
bare_sub place = item_sub place false (codes "0")

-- a number, as a subscript and as the first operand of a sum
abbrev pub number_either : List ℕ → Position → MaybeSubscripts
number_either digits position = record {
  subs = number_sub digits ∷ [];
  base = None;
  chain = chain_of (digits_side digits position);
  leaves = 1;
  fault = None;
}

-- a reference, as a subscript and as the first operand of a sum
abbrev pub ref_either : Referent → List (List ℕ) → Position → MaybeSubscripts
ref_either found of position = record {
  subs = [];
  base = Some (place_of found of [] None);
  chain = chain_of (ref_side found of [] None position);
  leaves = 1;
  fault = whole_fault_at position (kind_of found);
}

-- the subscript that a number makes after an item, or alone
abbrev pub added_sub : Option Place → Bool → List ℕ → Sub
added_sub None negative digits = number_sub digits
added_sub (Some place) negative digits = item_sub place negative digits

-- one leaf more, up to the largest number of 32 bits
abbrev pub more_leaves : ℕ → ℕ
more_leaves leaves = min (leaves + 1) 4294967295

-- the subscripts with one more number after `+` or `-`
unfoldable pub with_number : Op → Bool → List ℕ → Position → MaybeSubscripts → MaybeSubscripts
with_number op negative digits position e = record e {
  subs = e.subs ++ added_sub e.base negative digits ∷ [];
  base = None;
  chain = joined op e.chain (digits_side digits position);
  leaves = more_leaves e.leaves;
}

-- the subscripts, with an item alone that waits for its number
abbrev pub subs_with : Option Place → List Sub → List Sub
subs_with None subs = subs
subs_with (Some place) subs = subs ++ bare_sub place ∷ []

-- all of it as subscripts
unfoldable pub subs_of : MaybeSubscripts → List Sub
subs_of e = subs_with e.base e.subs
