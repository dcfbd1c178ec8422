-- A mask as a program holds it: in capitals, and its counts written out.
use Rattle.std.specs.Prelude.{ℕ, ◌≡◌, List, map, Option, Some, None, Result, Ok, Err}
use Rattle.std.specs.Char.{to_ascii_uppercase}
use Rattle.std.proofs.Common.{ap, sym, ◌∙◌}
use Rattle.edit_fields.specs.declared.fault.MaskFault.{MaskFault}
use Rattle.edit_fields.specs.declared.shape.Shape.{Shape}
use Rattle.edit_fields.specs.declared.mask.Mask.TheInside.{Inside}
use Rattle.edit_fields.specs.Reading.{mask_fault_of, written_out}
use Rattle.edit_fields.specs.Field.{IsMask, shape_of}
use Rattle.edit_fields.specs.Edited.{shown_size}

-- a mask whose counts are written out and whose letters are capitals
pub record IsHeldMask (mask : List ℕ) : Type 0 where
  pub is_mask : IsMask mask
  -- its letters are capitals
  pub capitals : map to_ascii_uppercase mask ≡ mask

-- the symbols of a mask
abbrev pub mask_bytes : Inside → List ℕ
mask_bytes m = m.symbols

-- what a mask holds is one, and what is kept of it is its own
pub record IsHeld (m : Inside) : Type 0 where
  pub mask : IsHeldMask m.symbols
  -- the shape is the one of its symbols
  pub shape : m.shape ≡ shape_of m.symbols
  -- it shows as many bytes
  pub size : m.size ≡ shown_size m.symbols

-- a mask of these symbols
abbrev pub mask_of : List ℕ → Inside
mask_of symbols = record {
  symbols = symbols;
  shape = shape_of symbols;
  size = shown_size symbols;
}

-- a mask comes back from its symbols
pub mask_of-mask_bytes : (m : Inside) → IsHeld m → mask_of (mask_bytes m) ≡ m
mask_of-mask_bytes m h =
    ap (λ (s : Shape). record { symbols = m.symbols; shape = s; size = shown_size m.symbols })
    (sym h.shape)
    ∙ ap (λ (n : ℕ). record { symbols = m.symbols; shape = m.shape; size = n }) (sym h.size)

-- what is held of a text, unless it has a fault
abbrev pub held_unless : Option MaskFault → List ℕ → Result (List ℕ) MaskFault
held_unless None text = Ok (written_out text)
held_unless (Some fault) text = Err fault

-- the mask of a text, its letters in capitals and its counts written out, or why it is none
abbrev pub held : List ℕ → Result (List ℕ) MaskFault
held text = held_unless (mask_fault_of text) text
