-- What `run` and `chain` answer, and what they leave.
use Rattle.std.specs.Prelude.{◌≡◌, ◌⊎◌, ℕ, List, [], codes, Option, None, Some}
use Rattle.hum_outside.specs.Outside.{told}
use Rattle.hum_syntax.specs.declared.Tree.{Tree}
use Rattle.hum_meaning.specs.Deliver.{Configuration}
use Rattle.hum_meaning.specs.Named.{Named, written}
use Rattle.hum_meaning.specs.Written.{humus}
use Rattle.hum_meaning.specs.After.{opening}
use Rattle.hum_front.specs.Accepted.{Accepted, IsRefusal}
use Rattle.hum_front.specs.declared.error.StartError.{StartError}
use Rattle.hum_sim.specs.File.{StandsForFile}
use Rattle.hum_sim.specs.OneLane.{ComesToRest}
use Rattle.hum_sim.specs.Sim.{file_of, layout_in, spending_of, state_of}
use Rattle.hum_run.specs.declared.run.Run.{Run}
use Rattle.hum_command.specs.Writes.{Faultless}
use Rattle.hum_command.specs.Texts.{IsText, Unreadable}
use Rattle.hum_command.specs.Chain.{chain_text}
use Rattle.hum_command.specs.Grants.{grant_of}
use Rattle.hum_command.specs.Call.{Call, Declines, Reads}
use Rattle.hum_command.specs.TextRuns.{EndsText, AlwaysFits}
use Rattle.hum_command.specs.TextRefusals.{RefusesText}
use Rattle.hum_command.specs.MachineAnswers.{EndsRun}
use Rattle.hum_command.specs.declared.keys.Keys.{Keys}
use Rattle.hum_command.specs.declared.refusal.TextRefusal.{TextRefusal}
use Rattle.hum_command.specs.declared.answer.Answer.{Answer}
use Rattle.hum_command.specs.declared.answer.Answer.TheVariants.{Unread, NoMemory, TextRefused}

-- The file holds a text, whose run with these keys was left in the record; the answer says what it came to and what was written.
pub record RunsFile (file : Option (Option (List ℕ))) (keys : Keys) (answer : Answer) (c : Call) : Type 0 where
  pub text : List ℕ
  pub is_text : IsText file text
  pub run : Run
  pub left : c.last_new ≡ record c.last_old { run = Some run }
  pub ends : EndsText text keys answer run c.out c.err

-- the text of the file is refused
pub record RefusesFileText (file : Option (Option (List ℕ))) (why : TextRefusal) : Type 0 where
  pub text : List ℕ
  pub is_text : IsText file text
  pub refused : RefusesText text why

-- the answers to a file with what is told of it, which has that name on err
abbrev pub FileAnswers : Option (Option (List ℕ)) → List ℕ → Keys → Answer → Call → Type 0
-- The file could not be read.
FileAnswers file name keys Unread c = Unreadable c.faults_old c.faults_new file × Declines Unread c name
-- The text is refused.
FileAnswers file name keys (TextRefused why) c = RefusesFileText file why × Declines (TextRefused why) c name
-- There was no memory.
FileAnswers file name keys NoMemory c = Declines NoMemory c []
-- The text ran, and this is the answer of a run.
FileAnswers file name keys answer c = RunsFile file keys answer c

-- `run FILE KEYS`
abbrev pub RunAnswers : List ℕ → Keys → Answer → Call → Type 0
RunAnswers name keys answer c = FileAnswers (told c.files name) name keys answer c

-- the file that `chain N` runs in place of one of the folder
abbrev pub chain_file : ℕ → Option (Option (List ℕ))
chain_file n = Some (Some (chain_text n))

-- `chain N KEYS`, which asks the folder for nothing: so it never answers that a file could not be read
abbrev pub ChainAnswers : ℕ → Keys → Answer → Call → Type 0
ChainAnswers n keys Unread c = ⊥
ChainAnswers n keys answer c = (c.faults_new ≡ c.faults_old) × FileAnswers (chain_file n) (codes "chain") keys answer c

-- ---- which answers come where nothing fails

-- the record holds a run that stands for the configuration, at rest
pub record RestsIn (d : Configuration (Named written)) (c : Call) : Type 0 where
  pub run : Run
  pub left : c.last_new.run ≡ Some run
  pub pending : run.sim.machine.state.messages ≡ []
  pub stands : StandsForFile (file_of run.sim) run.sim.machine.image (layout_in run.sim) (spending_of run.sim) (state_of run.sim) d

-- Where the text of the file is told and no count rises, and but for want of memory:
pub record FileCompletes (file : Option (Option (List ℕ))) (keys : Keys) (status : ℕ) (c : Call) : Type 0 where
  -- a text that is accepted is run to rest, until the root runs out, or to the bound
  pub runs : (text : List ℕ) (tree : Tree) → file ≡ Some (Some text) → Accepted text tree
      → Reads c → Faultless c.out → Faultless c.err → EndsRun keys.bound status
  -- any other text is refused
  pub refused : (text : List ℕ) (why : StartError) → file ≡ Some (Some text) → IsRefusal text why
      → Reads c → (status ≡ 3) ⊎ (status ≡ 7)
  -- the root does not run out where the bounds of the deliveries fit at each moment of the run
  pub fits : (run : Run) → c.last_new.run ≡ Some run → AlwaysFits run.sim → ¬ (status ≡ 5)
  -- with one lane and no bound, deliveries that come to rest within the grant are all made
  pub rests : (text : List ℕ) (tree : Tree) → file ≡ Some (Some text) → Accepted text tree
      → keys.lanes ≡ 1 → keys.bound ≡ None
      → (d : Configuration (Named written)) → ComesToRest humus (grant_of keys) (opening tree.statements) d
      → Reads c → Faultless c.out → Faultless c.err → (status ≡ 7) ⊎ (((status ≡ 0) ⊎ (status ≡ 9)) × RestsIn d c)

abbrev pub RunCompletes : List ℕ → Keys → ℕ → Call → Type 0
RunCompletes name keys status c = FileCompletes (told c.files name) keys status c

abbrev pub ChainCompletes : ℕ → Keys → ℕ → Call → Type 0
ChainCompletes n keys status c = FileCompletes (chain_file n) keys status c
