-- A machine that obeys the commands of a script.
use Rattle.std.specs.Prelude.{◌≡◌, ℕ, nat_le, nat_eq, Bool, if◌then◌else◌, List, [], ◌∷◌, ◌++◌, length, codes, Option, Some}
use Rattle.std.specs.List.{ends_with}
use Rattle.hum_outside.specs.Outside.{Rose}
use Rattle.quad_memory.specs.Image.{RomImage}
use Rattle.vm_machine.specs.Machine.{Machine}
use Rattle.quad_debug.specs.Script.{bad_line}
use Rattle.quad_debug.specs.Kept.{Debugged}
use Rattle.quad_debug.specs.Obeys.{Obeys, BreaksOff}
use Rattle.quad_debug.specs.declared.command.Command.{Command}
use Rattle.hum_run.specs.Drive.{RunsFrom, Fresh}
use Rattle.hum_command.specs.Grants.{grant_of}
use Rattle.hum_command.specs.Writes.{Writes}
use Rattle.hum_command.specs.Code.{HoldsCode}
use Rattle.hum_command.specs.declared.keys.Keys.{Keys}
use Rattle.hum_command.specs.declared.answer.Answer.{Answer}
use Rattle.hum_command.specs.declared.answer.Answer.TheVariants.{Done, Fault}

-- a file of such a name is a text; any other is read as by `exec`
abbrev pub is_text : List ℕ → Bool
is_text name = ends_with nat_eq name (codes ".hum")

-- the most bytes that a script may have
abbrev pub script_limit : ℕ
script_limit = 1048576

-- the line at which a script is refused, if it is; one that is too long is refused at the first
abbrev pub script_fault : List ℕ → Option ℕ
script_fault script = if nat_le (length script) script_limit then bad_line script else Some 1

-- ---- the machine

-- the machine was booted from this image with these keys, and took no turn yet
pub record BootsTo (image : RomImage) (keys : Keys) (m : Machine) : Type 0 where
  pub from : RunsFrom image (grant_of keys) keys.lanes keys.seed m
  pub fresh : Fresh m

-- the machine was booted from the code in these bytes, which are assembled or else a text
abbrev pub BootsCode : Bool → List ℕ → Keys → Machine → Type 0
BootsCode assembled bytes keys m = (image : RomImage) × HoldsCode assembled bytes image × BootsTo image keys m

-- a debugger of a machine that took no turn yet
abbrev pub debugs : Machine → Debugged
debugs m = record { machine = m; began = 0 }

-- ---- the commands

-- these commands were obeyed, one after another
abbrev pub ObeysAll : List Command → (old new : Debugged) → (out_old out_new : Option (List ℕ)) → Type 0
ObeysAll [] old new out_old out_new = (new ≡ old) × (out_new ≡ out_old)
ObeysAll (command ∷ commands) old new out_old out_new =
    (next : Debugged) × (out_next : Option (List ℕ)) × Obeys command old next out_old out_next × ObeysAll commands next new out_next out_new

-- some were, and the write of the next one's text failed
pub record BreaksOffIn (commands : List Command) (old new : Debugged) (out_old out_new : Option (List ℕ)) : Type 0 where
  pub before : List Command
  pub command : Command
  pub after : List Command
  pub split : commands ≡ before ++ command ∷ after
  pub at : Debugged
  pub out_at : Option (List ℕ)
  pub obeyed : ObeysAll before old at out_old out_at
  pub breaks : BreaksOff command at new out_at out_new

-- how obeying ended
abbrev pub EndsDebugging : Answer → List Command → (old new : Debugged) → Writes → Type 0
EndsDebugging Done commands old new out = ObeysAll commands old new out.old out.new
EndsDebugging Fault commands old new out = BreaksOffIn commands old new out.old out.new × Rose out.faults_old out.faults_new
EndsDebugging answer commands old new out = ⊥
