-- The run of a text.
use Rattle.std.specs.Prelude.{◌≡◌, ℕ, Bool, true, false, [], Option, Result, Ok, Err}
use Rattle.vm_sponsor.specs.declared.amounts.Amounts.{Amounts}
use Rattle.vm_machine.specs.Machine.{Machine}
use Rattle.vm_machine.specs.declared.machine.Lanes.{Lanes}
use Rattle.hum_run.specs.Drive.{RunsFrom, Fresh, Stops}
use Rattle.hum_run.specs.declared.run.Run.{Run}
use Rattle.hum_run.specs.declared.stop.Stop.{Stop}
use Rattle.hum_run.specs.declared.stop.Stop.TheVariants.{Rest, Bound, Spent, Broken}
use Rattle.hum_run.specs.declared.stop.WriteFault.{WriteFault}

-- how a run begins: its machine was booted from the program's image, and took no turn yet
pub record IsStart (grant : Amounts) (lanes : Lanes) (r : Run) : Type 0 where
  pub unbroken : r.broken ≡ false
  pub from : RunsFrom r.sim.compiled.image grant lanes.count lanes.seed r.sim.machine
  pub fresh : Fresh r.sim.machine

-- Why a run takes no further turn: after a write that failed for that alone; else as its machine, and at rest no message is pending.
abbrev pub Halts : Bool → Option ℕ → Stop → Machine → Type 0
Halts true bound stop m = stop ≡ Broken
Halts false bound stop m = Stops bound stop m × (stop ≡ Rest → m.state.messages ≡ [])

-- whether a call with that answer leaves the run broken
abbrev pub is_broken : Result Stop WriteFault → Bool
is_broken (Ok Rest) = false
is_broken (Ok Bound) = false
is_broken (Ok (Spent kind held)) = false
is_broken (Ok Broken) = true
is_broken (Err fault) = true
