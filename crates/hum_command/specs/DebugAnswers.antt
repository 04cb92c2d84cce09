-- What `debug` answers, and what it leaves.
use Rattle.std.specs.Prelude.{◌≡◌, ◌⊎◌, true, false, not, ℕ, List, [], ◌∷◌, Option, None, Some}
use Rattle.hum_outside.specs.Outside.{Files, told}
use Rattle.quad_memory.specs.Image.{RomImage}
use Rattle.vm_machine.specs.Machine.{Machine}
use Rattle.quad_debug.specs.Script.{commands_of}
use Rattle.quad_debug.specs.Kept.{Debugged}
use Rattle.quad_debug.specs.Obeys.{HoldsState}
use Rattle.hum_front.specs.Accepted.{IsRefusal}
use Rattle.hum_front.specs.declared.error.StartError.{StartError}
use Rattle.hum_run.specs.Drive.{RunsFrom}
use Rattle.hum_command.specs.Writes.{Silent, Faultless}
use Rattle.hum_command.specs.Texts.{IsText, IsNext, Unreadable}
use Rattle.hum_command.specs.Grants.{grant_of}
use Rattle.hum_command.specs.Images.{Unloaded}
use Rattle.hum_command.specs.TextRefusals.{RefusesText}
use Rattle.hum_command.specs.Code.{HoldsCode}
use Rattle.hum_command.specs.Debugging.{is_text, script_fault, BootsTo, debugs, EndsDebugging}
use Rattle.hum_command.specs.Call.{Call, DeclinesFor, Reads}
use Rattle.hum_command.specs.declared.keys.Keys.{Keys}
use Rattle.hum_command.specs.declared.refusal.Refusal.{Refusal}
use Rattle.hum_command.specs.declared.answer.Answer.{Answer}
use Rattle.hum_command.specs.declared.answer.Answer.TheVariants.{Done, Unread, Fault, NoMemory, TextRefused, Refused, ScriptRefused}

-- the bytes of the file and those of the script, as far as they are told
pub record HaveBoth (files : Option Files) (name script : List ℕ) (bytes lines : List ℕ) : Type 0 where
  pub code : IsText (told files name) bytes
  pub commands : IsText (told files script) lines

-- The file holds code, and the script commands. The machine that the code boots to with these keys obeyed them, and was left in the record; it
-- is in the state of its run. At the start, as behind each command, its memory and its sponsors are those of its state.
pub record Debugs (name script : List ℕ) (keys : Keys) (answer : Answer) (c : Call) : Type 0 where
  pub bytes : List ℕ
  pub lines : List ℕ
  pub have : HaveBoth c.files name script bytes lines
  pub image : RomImage
  pub holds : HoldsCode (not (is_text name)) bytes image
  pub formed : script_fault lines ≡ None
  pub start : Machine
  pub boots : BootsTo image keys start
  pub memory : HoldsState start
  pub end : Debugged
  pub from : RunsFrom image (grant_of keys) keys.lanes keys.seed end.machine
  pub left : c.last_new ≡ record c.last_old { machine = Some end.machine }
  pub ends : EndsDebugging answer (commands_of lines) (debugs start) end c.out
  pub silent : Silent c.err

-- why nothing was debugged, and the file of which it is told
abbrev pub DebugFails : Option Files → ℕ → ℕ → List ℕ → List ℕ → Answer → List ℕ → Type 0
-- A file could not be read, and the one before it is not told to be absent.
DebugFails files before now name script Unread x = IsNext files (name ∷ script ∷ []) x × Unreadable before now (told files x)
-- There was no memory.
DebugFails files before now name script NoMemory x = Unit {0}
-- The file is a text, which is refused.
DebugFails files before now name script (TextRefused why) x =
    (x ≡ name) × (is_text name ≡ true) × (bytes : List ℕ) × (lines : List ℕ) × HaveBoth files name script bytes lines × RefusesText bytes why
-- The file is read as by `exec`, and holds no image.
DebugFails files before now name script (Refused why) x =
    (x ≡ name) × (is_text name ≡ false) × (bytes : List ℕ) × (lines : List ℕ) × HaveBoth files name script bytes lines × Unloaded why bytes
-- The file holds code, and a line of the script is no command, or it is too long.
DebugFails files before now name script (ScriptRefused line) x =
    (x ≡ script) × (bytes : List ℕ) × (lines : List ℕ) × HaveBoth files name script bytes lines
    × (image : RomImage) × HoldsCode (not (is_text name)) bytes image × (script_fault lines ≡ Some line)
-- Nothing else comes.
DebugFails files before now name script answer x = ⊥

abbrev pub DebugCause : List ℕ → List ℕ → Answer → Call → List ℕ → Type 0
DebugCause name script answer c x = DebugFails c.files c.faults_old c.faults_new name script answer x

abbrev pub DebugAnswers : List ℕ → List ℕ → Keys → Answer → Call → Type 0
-- All commands were obeyed.
DebugAnswers name script keys Done c = Debugs name script keys Done c
-- A write failed.
DebugAnswers name script keys Fault c = Debugs name script keys Fault c
-- Nothing was debugged.
DebugAnswers name script keys answer c = DeclinesFor (DebugCause name script answer) answer c

-- the bytes of both files are told, and no fault of the folder was counted
pub record Told (c : Call) (name script : List ℕ) (bytes lines : List ℕ) : Type 0 where
  pub code : told c.files name ≡ Some (Some bytes)
  pub commands : told c.files script ≡ Some (Some lines)
  pub reads : Reads c

-- Where the bytes of the files are told and no count rises: code is debugged, and what holds none is refused, and then what is no script, or
-- else there is no memory.
pub record DebugCompletes (name script : List ℕ) (status : ℕ) (c : Call) : Type 0 where
  pub done : (bytes lines : List ℕ) (image : RomImage) → Told c name script bytes lines → HoldsCode (not (is_text name)) bytes image
      → script_fault lines ≡ None → Faultless c.out → (status ≡ 0) ⊎ (status ≡ 7)
  pub refused_text : (bytes lines : List ℕ) (why : StartError) → Told c name script bytes lines → is_text name ≡ true → IsRefusal bytes why
      → (status ≡ 3) ⊎ (status ≡ 7)
  pub refused : (bytes lines : List ℕ) (why : Refusal) → Told c name script bytes lines → is_text name ≡ false → Unloaded why bytes
      → (status ≡ 10) ⊎ (status ≡ 7)
  pub refused_script : (bytes lines : List ℕ) (image : RomImage) (line : ℕ) → Told c name script bytes lines
      → HoldsCode (not (is_text name)) bytes image → script_fault lines ≡ Some line → (status ≡ 11) ⊎ (status ≡ 7)
