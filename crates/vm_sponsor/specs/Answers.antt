-- What the calls answer.
use Rattle.std.specs.Prelude.{ℕ, nat_lt, if◌then◌else◌, Bool, Option, Some, None, Result, Ok, Err}
use Rattle.instr_table.specs.declared.charge.Quota.{Quota}
use Rattle.vm_sponsor.specs.declared.answer.Short.{Short}
use Rattle.vm_sponsor.specs.declared.answer.RanOut.{RanOut}
use Rattle.vm_sponsor.specs.declared.answer.Running.{Running}

-- where less is held than is to be given, how much that is
abbrev pub short_answer : ℕ → ℕ → Result (Unit {0}) Short
short_answer held n = if nat_lt held n then Err (record { held = held }) else Ok tt

-- what ran out, if anything did
abbrev pub spend_answer : Option Quota → Result (Unit {0}) RanOut
spend_answer None = Ok tt
spend_answer (Some kind) = Err (record { kind = kind })

-- whether it ran already
abbrev pub start_answer : Bool → Result (Unit {0}) Running
start_answer runs = if runs then Err (record {}) else Ok tt
