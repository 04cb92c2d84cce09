-- What the root has spent.
use Rattle.std.specs.Prelude.{ℕ}
use Rattle.instr_table.specs.declared.charge.Quota.{Quota}
use Rattle.instr_table.specs.Sheet.{account, amount}
use Rattle.vm_turn.specs.State.{State, root}

-- how much of a kind
abbrev pub spent_by_root : Quota → State → ℕ
spent_by_root kind s = (amount kind (account s.sheet root)).spent
