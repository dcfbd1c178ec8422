-- The divisions are lawful.
use Rattle.std.proofs.Common.{ℕ, true, false, List}
use Rattle.std.specs.Prelude.{codes}
use Rattle.cob_tree.specs.declared.place.Place.{Place}
use Rattle.cobol_grammar.specs.declared.data_forms.draft.StatusDraft.{StatusDraft}
use Rattle.parser_combinators.specs.Form.{Form}
use Rattle.parser_combinators.proofs.MakerLaws as makers
use Rattle.parser_combinators.proofs.MakerLaws.{Law, pure, key, maybe, period, digits, where_next, loop, many, some, loose, ◌>>=◌, ◌>>◌}
use Rattle.parser_combinators.proofs.words_lemmas.WordLaws.{name, user_word}
use Rattle.cobol_grammar.proofs.data_forms_lemmas.EntryLaws.{either, maybe_either, headed, header, entry}
use Rattle.cobol_grammar.specs.data_forms.Environment as environments
use Rattle.cobol_grammar.specs.data_forms.Data as datas
use Rattle.cobol_grammar.specs.data_forms.Divisions as all

-- ---- the ENVIRONMENT DIVISION

pub assign : Law true environments.assign
unfolding environments.assign
assign = where_next makers.literal user_word

pub organization : Law true environments.organization
unfolding environments.organization
organization =
    where_next (key (codes "ORGANIZATION") >> maybe (codes "IS") >> key (codes "SEQUENTIAL"))
    (key (codes "SEQUENTIAL"))

pub access : Law true environments.access
unfolding environments.access
access = do
  key (codes "ACCESS")
  maybe (codes "MODE")
  maybe (codes "IS")
  key (codes "SEQUENTIAL")

pub status_word : Law true environments.status_word
unfolding environments.status_word environments.file_status
status_word = where_next (key (codes "FILE") >>= (λ at. key (codes "STATUS") >> pure)) (key (codes "STATUS"))

pub storage_clause : (before : List StatusDraft) → Law true (environments.storage_clause before)
unfolding environments.storage_clause
storage_clause before = where_next (organization >> pure) (access >> pure)

pub computer : (word : List ℕ) → Law false (environments.computer word)
unfolding environments.computer environments.computer_named
computer word = where_next (loose (key word >> period >> user_word >> period >> pure)) pure

configuration_section : Law true environments.configuration_section
unfolding environments.configuration_section
configuration_section = do
  header (codes "CONFIGURATION") (codes "SECTION")
  computer (codes "SOURCE-COMPUTER")
  computer (codes "OBJECT-COMPUTER")

pub configuration : Law false environments.configuration
unfolding environments.configuration
configuration = where_next (loose configuration_section) pure

module _ {status : Form Place} (S : Law true status) where
  pub status_clause : Law true (environments.status_clause status)
  unfolding environments.status_clause
  status_clause = do
    at ← status_word
    maybe (codes "IS")
    place ← S
    pure

  pub select_clause : (before : List StatusDraft) → Law true (environments.select_clause status before)
  unfolding environments.select_clause
  select_clause before = where_next (status_clause >>= (λ found. pure)) (storage_clause before)

  pub select_clauses : Law false (environments.select_clauses status)
  unfolding environments.select_clauses
  select_clauses = loop select_clause

  pub select : Law true (environments.select status)
  unfolding environments.select
  select = do
    key (codes "SELECT")
    file ← name
    key (codes "ASSIGN")
    maybe (codes "TO")
    device ← assign
    statuses ← select_clauses
    period
    pure

  pub selects : Law false (environments.selects status)
  selects = many select

  input_output_section : Law true (environments.input_output_section status)
  unfolding environments.input_output_section
  input_output_section = do
    header (codes "INPUT-OUTPUT") (codes "SECTION")
    key (codes "FILE-CONTROL")
    period
    selects

  pub input_output : Law false (environments.input_output status)
  unfolding environments.input_output
  input_output = where_next (loose input_output_section) pure

  environment_division : Law true (environments.environment_division status)
  unfolding environments.environment_division
  environment_division = do
    header (codes "ENVIRONMENT") (codes "DIVISION")
    configuration
    input_output

  pub environment : Law false (environments.environment status)
  unfolding environments.environment
  environment = where_next (loose environment_division) pure

-- ---- the DATA DIVISION

pub maybe_to : Law false datas.maybe_to
unfolding datas.maybe_to
maybe_to = where_next (loose (key (codes "TO") >> digits >> pure)) pure

pub extent : Law true datas.extent
unfolding datas.extent
extent = maybe (codes "CONTAINS") >> digits >> maybe_to

pub records_are : Law true datas.records_are
unfolding datas.records_are
records_are = either (codes "RECORD") (codes "RECORDS") >> maybe_either (codes "IS") (codes "ARE")

pub next_name : (before : Unit {0}) → Law true (datas.next_name before)
unfolding datas.next_name
next_name before = name >> pure

pub more_names : (before : Unit {0}) → Law false (datas.more_names before)
unfolding datas.more_names
more_names before = loop next_name

block_clause : Law true datas.block_clause
unfolding datas.block_clause
block_clause = do
  key (codes "BLOCK")
  extent
  maybe_either (codes "RECORDS") (codes "CHARACTERS")

record_clause : Law true datas.record_clause
unfolding datas.record_clause
record_clause = key (codes "RECORD") >> extent >> maybe (codes "CHARACTERS")

label_clause : Law true datas.label_clause
unfolding datas.label_clause
label_clause = do
  key (codes "LABEL")
  records_are
  either (codes "STANDARD") (codes "OMITTED")
  pure

records_clause : Law true datas.records_clause
unfolding datas.records_clause
records_clause = do
  key (codes "DATA")
  records_are
  name
  more_names tt

pub fd_clause : (before : Unit {0}) → Law true (datas.fd_clause before)
unfolding datas.fd_clause datas.labelled_clause
fd_clause before =
    where_next block_clause (where_next record_clause (where_next label_clause records_clause))

pub fd_clauses : (before : Unit {0}) → Law false (datas.fd_clauses before)
unfolding datas.fd_clauses
fd_clauses before = loop fd_clause

pub records : Law true datas.records
unfolding datas.records
records = some entry

pub fd : Law true datas.fd
unfolding datas.fd
fd = do
  key (codes "FD")
  file ← name
  fd_clauses tt
  period
  entries ← records
  pure

pub fds : Law false datas.fds
unfolding datas.fds
fds = many fd

pub files : Law false datas.files
unfolding datas.files datas.file_section
files = where_next (loose (header (codes "FILE") (codes "SECTION") >> fds)) pure

pub entries : Law false datas.entries
unfolding datas.entries
entries = many entry

pub storage : Law false datas.storage
unfolding datas.storage datas.working_storage
storage = where_next (loose (header (codes "WORKING-STORAGE") (codes "SECTION") >> entries)) pure

pub data_part : Law false datas.data_part
unfolding datas.data_part datas.data_division
data_part =
    where_next (loose (header (codes "DATA") (codes "DIVISION") >> (files >>= (λ fds. storage >>= (λ items. pure)))))
    pure

-- ---- all of them

pub identification : Law true all.identification
unfolding all.identification
identification = do
  either (codes "IDENTIFICATION") (codes "ID")
  headed (codes "DIVISION")
  headed (codes "PROGRAM-ID")
  found ← name
  period
  pure

pub divisions : {status : Form Place} → Law true status → Law true (all.divisions status)
unfolding all.divisions
divisions S = do
  name ← identification
  selects ← environment S
  found ← data_part
  pure
