-- The item of a FILE STATUS clause, which has two bytes of any kind.
use Rattle.std.specs.Prelude.{◌==◌, ◌&&◌, not, Bool, false, List, slice_get, Option, Some, None, if◌then◌else◌}
use Rattle.std.specs.Option.{is_some}
use Rattle.cob_tree.specs.declared.entry.Entry.{Entry}
use Rattle.cob_tree.specs.declared.picture.Picture.{Picture}
use Rattle.cob_tree.specs.declared.picture.Picture.TheVariants as pictures
use Rattle.cob_tree.specs.declared.place.Place.{Place, out-Place}
use Rattle.parser_combinators.specs.declared.note.Note.{Note}
use Rattle.parser_combinators.specs.declared.note.Position.{Position}
use Rattle.parser_combinators.specs.Form.{Form, pure, note, ◌>>=◌, ◌>>◌}
use Rattle.symbol_tables.specs.data_names.Names.{Names}
use Rattle.cobol_grammar.specs.declared.expr_forms.side.Side.{Side}
use Rattle.cobol_grammar.specs.declared.expr_forms.side.ValueKind.{ValueKind}
use Rattle.cobol_grammar.specs.declared.expr_forms.side.ValueKind.TheVariants as kinds
use Rattle.cobol_grammar.specs.expr_forms.Fault.{usage}
use Rattle.cobol_grammar.specs.expr_forms.Levels.{data_reference}
use Rattle.cobol_grammar.specs.Use.{place_of}

-- the picture is of two bytes of any kind
abbrev pub is_two : Option Picture → Bool
is_two (Some (pictures.Any length)) = length == 2
is_two _ = false

-- the entry has such a picture
abbrev pub holds_two : Option Entry → Bool
holds_two None = false
holds_two (Some entry) = is_two entry.picture

-- a window of an item isn't such an item
abbrev pub is_status : List Entry → Place → Bool
is_status entries place =
    holds_two (slice_get entries (out-Place place).item) && not (is_some (out-Place place).window)

-- what an unknown name stands for isn't held against it
abbrev pub kind_fault : ValueKind → (is_status : Bool) → Position → Option Note
kind_fault kinds.Unknown is_status position = None
kind_fault kinds.Text is_status position = if is_status then None else usage position
kind_fault _ is_status position = usage position

-- it is at the reference
abbrev pub status_fault : List Entry → Side → Option Note
status_fault entries side =
    kind_fault side.kind (is_status entries (place_of side.what)) side.position

-- a reference to it, in a program with these names and entries
unfoldable pub status : Names → List Entry → Form Place
status names entries = do
  side ← data_reference names
  note (status_fault entries side)
  pure (place_of side.what)
