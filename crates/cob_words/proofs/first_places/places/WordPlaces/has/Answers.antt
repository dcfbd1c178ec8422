use Rattle.std.proofs.Common.{ap, sym, ◌∙◌}
use Rattle.std.specs.Option.{is_some}
use Rattle.std.specs.Str.{bytes_eq}
use Rattle.cob_words.proofs.first_places_lemmas.PlaceLemmas.{any_found}
use Rattle.cob_words.proofs.first_places.places.WordPlaces.has.Goals as goal

pub returns : goal.returns
returns c =
    c.is_some.ensures ∙ ap is_some c.first.ensures.value
    ∙ sym (any_found (bytes_eq c.args.word.now) c.args.self.now)
