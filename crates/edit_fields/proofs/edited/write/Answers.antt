use Rattle.std.proofs.Common.{ap, sym, ◌∙◌}
use Rattle.edit_fields.specs.declared.field.Field.{Field}
use Rattle.edit_fields.specs.LightPen.{light_start, light_written}
use Rattle.edit_fields.proofs.EditedLemmas.{blank_is}
use Rattle.edit_fields.proofs.edited.write.Goals as goal

pub returns-then-blank : goal.returns-then-blank
returns-then-blank c = c.write_blank.ensures ∙ sym (blank_is c.args.field c.if-blank.true c.args.mask.now (light_start c.args.field))

pub write_hidden-reached-requires-clause-visible : goal.write_hidden-reached-requires-clause-visible
write_hidden-reached-requires-clause-visible c = ap (λ (f : Field). f.blank) c.of-figure.ensures ∙ c.if-blank.false

pub write_hidden-reached-requires-clause-string : goal.write_hidden-reached-requires-clause-string
write_hidden-reached-requires-clause-string c = λ v. c.requires.string (ap (λ (f : Field). f.string) (sym c.of-figure.ensures) ∙ v)

pub write_shown-requires-clause-visible : goal.write_shown-requires-clause-visible
write_shown-requires-clause-visible c = ap (λ (f : Field). f.blank) c.of-figure.ensures ∙ c.if-blank.false

pub returns : goal.returns
returns c = c.write_shown.ensures ∙ ap (λ (f : Field). light_written f (light_start f) c.args.mask.now) c.of-figure.ensures
