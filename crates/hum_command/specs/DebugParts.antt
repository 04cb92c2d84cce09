-- What the parts of `debug` answer.
use Rattle.std.specs.Prelude.{◌≡◌, ℕ, Bool, true, false, not, if◌then◌else◌, List, Option, None, Some}
use Rattle.hum_outside.specs.Outside.{Files}
use Rattle.vm_machine.specs.Machine.{Machine}
use Rattle.quad_debug.specs.Script.{commands_of}
use Rattle.quad_debug.specs.declared.command.Command.{Command}
use Rattle.hum_command.specs.Images.{Unloaded}
use Rattle.hum_command.specs.TextRefusals.{RefusesText}
use Rattle.hum_command.specs.Debugging.{is_text, script_fault, BootsCode}
use Rattle.hum_command.specs.DebugAnswers.{HaveBoth}
use Rattle.hum_command.specs.declared.keys.Keys.{Keys}
use Rattle.hum_command.specs.declared.answer.Answer.{Answer}
use Rattle.hum_command.specs.declared.answer.Answer.TheVariants.{NoMemory, TextRefused, Refused, ScriptRefused}

-- the most bytes of a text, or of a file that is read as by `exec`
abbrev pub code_limit : Bool → ℕ
code_limit text = if text then 1048576 else 16776972

-- why no machine was booted from the bytes of a file, which are assembled or else a text
abbrev pub NotBooted : Bool → List ℕ → Answer → Type 0
NotBooted assembled bytes NoMemory = Unit {0}
NotBooted true bytes (Refused why) = Unloaded why bytes
NotBooted false bytes (TextRefused why) = RefusesText bytes why
NotBooted assembled bytes answer = ⊥

-- why there are no commands of a script's bytes
abbrev pub NotCommands : List ℕ → Answer → Type 0
NotCommands bytes NoMemory = Unit {0}
NotCommands bytes (ScriptRefused line) = script_fault bytes ≡ Some line
NotCommands bytes answer = ⊥

-- the machine was booted from the code of the file, and the commands are those of the script
pub record IsSession (files : Option Files) (name script : List ℕ) (keys : Keys) (machine : Machine) (commands : List Command) : Type 0 where
  pub bytes : List ℕ
  pub lines : List ℕ
  pub have : HaveBoth files name script bytes lines
  pub boots : BootsCode (not (is_text name)) bytes keys machine
  pub formed : script_fault lines ≡ None
  pub commands_are : commands ≡ commands_of lines
