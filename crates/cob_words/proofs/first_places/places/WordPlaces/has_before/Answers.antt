use Rattle.std.proofs.Common.{ap, sym, ◌∙◌}
use Rattle.std.specs.Str.{bytes_eq}
use Rattle.cob_words.proofs.first_places_lemmas.PlaceLemmas.{any_before, before_none, before_some, is_before}
use Rattle.cob_words.proofs.first_places.places.WordPlaces.has_before.Goals as goal

pub returns-in-None : goal.returns-in-None
returns-in-None c =
    sym (before_none c.args.at) ∙ ap (is_before c.args.at) (sym c.in-None.is ∙ c.first.ensures.value)
    ∙ sym (any_before (bytes_eq c.args.word.now) c.args.at c.args.self.now)

pub returns-in-Some : goal.returns-in-Some
returns-in-Some c =
    sym (before_some c.args.at c.in-Some.place)
    ∙ ap (is_before c.args.at) (sym c.in-Some.is ∙ c.first.ensures.value)
    ∙ sym (any_before (bytes_eq c.args.word.now) c.args.at c.args.self.now)
