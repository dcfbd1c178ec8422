-- What is asked of the arms of EVALUATE, as the code holds it.
use Rattle.std.specs.Prelude.{Ok, Err}
use Rattle.cob_store.specs.Answer.{Answer}
use Rattle.meanings.specs.statements.Choice as choices
use Rattle.cob_act.specs.declared.choice.Asked.{Asked}
use Rattle.cob_act.specs.declared.choice.Asked.TheVariants.{Truth, Beside}
use Rattle.cob_act.specs.Side.{seen}

-- the subject, as the meaning has it
abbrev pub seen_asked : Asked → choices.Asked
seen_asked (Truth truth) = choices.Truth truth
seen_asked (Beside side) = choices.Beside (seen side)

-- the subject, or the end of the run, as the meaning has it
abbrev pub seen_subject : Answer Asked → Answer choices.Asked
seen_subject (Ok asked) = Ok (seen_asked asked)
seen_subject (Err abend) = Err abend
