-- What an event was charged since its dispatch.
use Rattle.std.specs.Prelude.{ℕ, suc, ◌+◌}
use Rattle.instr_table.specs.declared.charge.Charge.{Charge}
use Rattle.instr_table.specs.declared.charge.Quota.{Quota}
use Rattle.instr_table.specs.declared.charge.Quota.TheVariants.{Memory, Events, Cycles}

-- how much of each kind
pub record Spent : Type 0 where
  pub cycles : ℕ
  pub quads : ℕ
  pub events : ℕ

-- at its dispatch
abbrev pub unspent : Spent
unspent = record { cycles = 0; quads = 0; events = 0 }

-- with one more instruction of that charge
abbrev pub spent_more : Spent → Charge → Spent
spent_more n c = record { cycles = suc n.cycles; quads = c.quads + n.quads; events = c.events + n.events }

-- how much of one kind
abbrev pub spent_in_kind : Quota → Spent → ℕ
spent_in_kind Memory n = n.quads
spent_in_kind Events n = n.events
spent_in_kind Cycles n = n.cycles
