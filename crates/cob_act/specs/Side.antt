-- Sides of a comparison as the code holds them.
use Rattle.std.specs.Prelude.{Ok, Err}
use Rattle.cob_store.specs.Answer.{Answer}
use Rattle.meanings.specs.statements.Side as sides
use Rattle.cob_act.specs.declared.side.ComparedSide.{ComparedSide}
use Rattle.cob_act.specs.declared.side.ComparedSide.TheVariants.{Amount, Literal, Item, Nought, Bytes, Filler}

-- a side, as the meaning has it
abbrev pub seen : ComparedSide → sides.Side
seen (Amount number) = sides.Amount number
seen (Literal number) = sides.Literal number.now
seen (Item signed part storage bytes) = sides.Item signed part storage bytes.now
seen Nought = sides.Nought
seen (Bytes bytes) = sides.Bytes bytes.now
seen (Filler byte) = sides.Filler byte

-- a side, or the end of the run, as the meaning has it
abbrev pub seen_answer : Answer ComparedSide → Answer sides.Side
seen_answer (Ok side) = Ok (seen side)
seen_answer (Err abend) = Err abend
