use Rattle.std.proofs.Common.{◌≡◌, map, ap, sym, ◌∙◌, subst}
use Rattle.std.specs.Char.{to_ascii_uppercase}
use Rattle.edit_fields.specs.Reading.{written_out}
use Rattle.edit_fields.specs.Mask.{IsHeldMask}
use Rattle.edit_fields.specs.Edited.{edited, shown_size}
use Rattle.edit_fields.proofs.CapitalLemmas.{edited_upper, plain_written, size_upper}
use Rattle.edit_fields.proofs.HeldMasks.{held_of, held_short}
use Rattle.edit_fields.proofs.mask.edit.Goals as goal

pub written_out-requires : goal.written_out-requires
written_out-requires c = held_short (written_out c.args.mask.now) (held_of c.args.mask.now c.requires.mask.no_fault)

pub of-held-requires : goal.of-held-requires
of-held-requires c = subst IsHeldMask (sym c.written_out.ensures) (held_of c.args.mask.now c.requires.mask.no_fault)

pub edit-requires : goal.edit-requires
edit-requires c =
    let capitals : c.of-held.result ≡ map to_ascii_uppercase c.args.mask.now =
    c.of-held.ensures ∙ c.written_out.ensures ∙ plain_written c.args.mask.now 0 c.requires.mask.written_out in
    c.requires.size ∙ sym (ap shown_size capitals ∙ size_upper c.args.mask.now)

pub returns : goal.returns
returns c =
    let capitals : c.of-held.result ≡ map to_ascii_uppercase c.args.mask.now =
    c.of-held.ensures ∙ c.written_out.ensures ∙ plain_written c.args.mask.now 0 c.requires.mask.written_out in
    c.edit.ensures ∙ ap (λ m. edited m c.args.value) capitals ∙ edited_upper c.args.mask.now c.args.value
