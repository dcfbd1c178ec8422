use Rattle.std.proofs.Common.{◌≡◌, map, ap, sym, ◌∙◌, subst}
use Rattle.std.specs.Char.{to_ascii_uppercase}
use Rattle.edit_fields.specs.declared.shape.Shape.{Shape}
use Rattle.edit_fields.specs.declared.field.Field.{Field}
use Rattle.edit_fields.specs.Field.{field_of, shape_of}
use Rattle.edit_fields.specs.LightPen.{light_start, light_written}
use Rattle.edit_fields.proofs.HeldMasks.{held_number}
use Rattle.edit_fields.proofs.LightPenLemmas.{light_is_edited, mask_string}
use Rattle.edit_fields.proofs.mask.Mask.edit.Goals as goal

pub field_of-requires : goal.field_of-requires
field_of-requires c = held_number c.self.inside.symbols c.self.inside.shape c.self.invariant.mask c.self.invariant.shape

pub write-requires-clause-string : goal.write-requires-clause-string
write-requires-clause-string c = λ v.
    mask_string c.self.inside.symbols c.self.invariant.mask.is_mask
    (ap (λ (f : Field). f.string) (sym (c.field_of.ensures ∙ ap (λ (s : Shape). field_of c.args.value s) c.self.invariant.shape)) ∙ v)

pub write-requires-clause-capitals : goal.write-requires-clause-capitals
write-requires-clause-capitals c = subst (λ m. map to_ascii_uppercase m ≡ m) (sym c.as_slice.ensures.value) c.as_slice.ensures.mask.capitals

pub returns : goal.returns
returns c =
    let field : c.field_of.result ≡ field_of c.args.value (shape_of c.args.self.now) =
    c.field_of.ensures ∙ ap (λ (s : Shape). field_of c.args.value s) (c.self.invariant.shape ∙ ap shape_of c.self.view_is) in
    c.write.ensures
    ∙ ap (λ m. light_written c.field_of.result (light_start c.field_of.result) m) c.as_slice.ensures.value
    ∙ ap (λ (f : Field). light_written f (light_start f) c.args.self.now) field
    ∙ light_is_edited c.args.self.now c.args.value c.as_slice.ensures.mask.is_mask
