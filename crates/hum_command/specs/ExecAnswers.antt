-- What `exec` answers, and what it leaves.
use Rattle.std.specs.Prelude.{◌≡◌, ◌⊎◌, ℕ, List, [], Some}
use Rattle.hum_outside.specs.Outside.{told}
use Rattle.quad_memory.specs.Image.{RomImage}
use Rattle.vm_machine.specs.Machine.{Machine}
use Rattle.hum_command.specs.Writes.{Faultless}
use Rattle.hum_command.specs.Texts.{IsText, Unreadable}
use Rattle.hum_command.specs.Images.{Loads, Unloaded}
use Rattle.hum_command.specs.Call.{Call, Declines, Reads}
use Rattle.hum_run.specs.Drive.{RunsFrom, written_by}
use Rattle.hum_command.specs.Grants.{grant_of}
use Rattle.hum_command.specs.MachineAnswers.{MachineAnswers, EndsRun}
use Rattle.hum_command.specs.declared.keys.Keys.{Keys}
use Rattle.hum_command.specs.declared.refusal.Refusal.{Refusal}
use Rattle.hum_command.specs.declared.answer.Answer.{Answer}
use Rattle.hum_command.specs.declared.answer.Answer.TheVariants.{Unread, NoMemory, Refused}

-- the file holds an image; the machine that it boots to with these keys was left in the record, and the answer says what it came to and what
-- was written
pub record Executes (name : List ℕ) (keys : Keys) (answer : Answer) (c : Call) : Type 0 where
  pub bytes : List ℕ
  pub text : IsText (told c.files name) bytes
  pub image : RomImage
  pub loads : Loads bytes image
  pub machine : Machine
  pub left : c.last_new ≡ record c.last_old { machine = Some machine }
  pub from : RunsFrom image (grant_of keys) keys.lanes keys.seed machine
  pub ends : MachineAnswers answer keys.bound machine (written_by machine) c.out c.err

-- the file holds no image
pub record RefusesFile (name : List ℕ) (why : Refusal) (c : Call) : Type 0 where
  pub bytes : List ℕ
  pub text : IsText (told c.files name) bytes
  pub refused : Unloaded why bytes

abbrev pub ExecAnswers : List ℕ → Keys → Answer → Call → Type 0
-- The file could not be read.
ExecAnswers name keys Unread c = Unreadable c.faults_old c.faults_new (told c.files name) × Declines Unread c name
-- The file holds no image.
ExecAnswers name keys (Refused why) c = RefusesFile name why c × Declines (Refused why) c name
-- There was no memory.
ExecAnswers name keys NoMemory c = Declines NoMemory c []
-- The machine ran, and this is the answer of a run.
ExecAnswers name keys answer c = Executes name keys answer c

-- Where the bytes of the file are told and no count rises: an image is run to rest, until the root runs out, or to the bound, and a file that
-- holds none is refused, or else there is no memory.
pub record ExecCompletes (name : List ℕ) (keys : Keys) (status : ℕ) (c : Call) : Type 0 where
  pub runs : (bytes : List ℕ) (image : RomImage) → told c.files name ≡ Some (Some bytes) → Loads bytes image
      → Reads c → Faultless c.out → Faultless c.err → EndsRun keys.bound status
  pub refused : (bytes : List ℕ) (why : Refusal) → told c.files name ≡ Some (Some bytes) → Unloaded why bytes
      → Reads c → (status ≡ 10) ⊎ (status ≡ 7)
