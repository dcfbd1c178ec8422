-- Programs in which no word on an added item stands: what is still to do, and what is next.
use Rattle.std.proofs.Common.{List, [], ◌∷◌, ℕ}
use Rattle.control_flow_theory.specs.language.Language as language
use Rattle.control_flow_theory.specs.language.Items.{Item}
use Rattle.control_flow_theory.specs.language.Items as items
use Rattle.control_flow_theory.specs.language.Own.{OwnAct, OwnArms, OwnBody, OwnControl, OwnParagraph, OwnParagraphs, OwnPicker, OwnStmt, OwnStmts, OwnTest}
use Rattle.cobol_run.specs.declared.frames.Head.{Head}
use Rattle.cobol_run.specs.declared.frames.Head.TheVariants as head
use Rattle.cobol_run.specs.Frames.{heads, turning_seen}
use Rattle.cobol_run.specs.Own.{HeadOwn, NoFiling, StandsAlone}
use Rattle.cobol_run.specs.Plain.{PlainAct, PlainPicker}
use Rattle.cobol_run.specs.Standing as standing

-- ---- its parts stand in it

control-stands : (control : language.Control) → OwnControl control → standing.ControlHas OwnAct OwnTest OwnPicker control
control-stands (language.Times amount) h = tt
control-stands (language.Until after test) h = h
control-stands (language.Varying after set step test) h = h

abbrev mutual
  stmt-stands : (stmt : language.Stmt) → OwnStmt stmt → standing.StmtHas OwnAct OwnTest OwnPicker stmt
  stmt-stands (language.Do act) h = h
  stmt-stands (language.Choose picker arms) h = (h.0, arms-stand arms h.1)
  stmt-stands (language.Loop control body) h = (control-stands control h.0, body-stands body h.1)
  stmt-stands (language.Perform entry exit) h = tt
  stmt-stands (language.Go to) h = tt
  stmt-stands (language.GoDepending to chooser) h = tt
  stmt-stands language.NextSentence h = tt
  stmt-stands language.ExitParagraph h = tt
  stmt-stands (language.ExitSection last) h = tt
  stmt-stands (language.ExitPerform cycle) h = tt
  stmt-stands language.StopRun h = tt

  stmts-stand : (stmts : language.Stmts) → OwnStmts stmts → standing.StmtsHave OwnAct OwnTest OwnPicker stmts
  stmts-stand language.none h = tt
  stmts-stand (language.also stmt stmts) h = (stmt-stands stmt h.0, stmts-stand stmts h.1)

  arms-stand : (arms : language.Arms) → OwnArms arms → standing.ArmsHave OwnAct OwnTest OwnPicker arms
  arms-stand language.done h = tt
  arms-stand (language.given arm others) h = (stmts-stand arm h.0, arms-stand others h.1)
  arms-stand (language.missing others) h = arms-stand others h

  body-stands : (body : language.Body) → OwnBody body → standing.BodyHas OwnAct OwnTest OwnPicker body
  body-stands (language.Nested stmts) h = stmts-stand stmts h
  body-stands (language.Performed entry exit) h = tt

paragraph-stands : (paragraph : language.Paragraph) → OwnParagraph paragraph → standing.ParagraphHas OwnAct OwnTest OwnPicker paragraph
paragraph-stands [] h = tt
paragraph-stands (sentence ∷ sentences) h = (stmts-stand sentence h.0, paragraph-stands sentences h.1)

pub own_stands : (paragraphs : List language.Paragraph) → OwnParagraphs paragraphs → standing.ParagraphsHave OwnAct OwnTest OwnPicker paragraphs
own_stands [] h = tt
own_stands (paragraph ∷ others) h = (paragraph-stands paragraph h.0, own_stands others h.1)

-- ---- what is next

module _ (ActHas : language.Act → Type 0) (PickerHas : language.Picker → Type 0) (acts : (act : language.Act) → ActHas act → OwnAct act) (picks : (picker : language.Picker) → PickerHas picker → OwnPicker picker) where
  head-own : (stmt : language.Stmt) → standing.StmtHas ActHas OwnTest PickerHas stmt → HeadOwn stmt
  head-own (language.Do act) h = acts act h
  head-own (language.Choose picker arms) h = picks picker h.0
  head-own (language.Loop control body) h = tt
  head-own (language.Perform entry exit) h = tt
  head-own (language.Go to) h = tt
  head-own (language.GoDepending to chooser) h = tt
  head-own language.NextSentence h = tt
  head-own language.ExitParagraph h = tt
  head-own (language.ExitSection last) h = tt
  head-own (language.ExitPerform cycle) h = tt
  head-own language.StopRun h = tt

  turning-own : (turning : items.Turning) → standing.TurningHas ActHas OwnTest PickerHas turning → standing.TurningHas OwnAct OwnTest OwnPicker turning
  turning-own (items.Counted turns) h = tt
  turning-own (items.Tests test) h = h
  turning-own (items.Steps reached step test) h = (acts step h.0, h.1)
  turning-own (items.StepsAfter step test) h = (acts step h.0, h.1)

  next-alone : (last : ℕ) (next : Head) (below : List Item) → NoFiling next → standing.ItemsHave ActHas OwnTest PickerHas (heads last next below) → StandsAlone last next
  next-alone last head.Nothing below free have = tt
  next-alone last (head.Stmt stmt) below free have = (head-own _ have.0, free)
  next-alone last (head.Enter entry exit) below free have = tt
  next-alone last head.SentenceEnd below free have = tt
  next-alone last (head.Turn turning body) below free have = turning-own (turning_seen turning) have.0.0

act-own : (act : language.Act) → PlainAct act → OwnAct act
act-own (language.Own simple) h = tt
act-own (language.Set cell value) h = h
act-own (language.Take cell amount) h = h
act-own (language.Lower cell) h = h

picker-own : (picker : language.Picker) → PlainPicker picker → OwnPicker picker
picker-own (language.If test) h = h.0
picker-own (language.By chooser) h = tt
picker-own (language.ByCell cell) h = h

pub plain_alone : (last : ℕ) (next : Head) (below : List Item) → NoFiling next → standing.ItemsHave PlainAct OwnTest PlainPicker (heads last next below) → StandsAlone last next
plain_alone = next-alone PlainAct PlainPicker act-own picker-own

pub own_alone : (last : ℕ) (next : Head) (below : List Item) → NoFiling next → standing.ItemsHave OwnAct OwnTest OwnPicker (heads last next below) → StandsAlone last next
own_alone = next-alone OwnAct OwnPicker (λ act h. h) (λ picker h. h)
