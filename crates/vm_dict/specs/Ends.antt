-- A deque's two lists, and what is taken from one end, as the calls give them.
use Rattle.std.specs.Prelude.{◌≡◌}
use Rattle.instr_table.specs.Deque.{Ends, Taking}
use Rattle.vm_dict.specs.declared.deque.Lists.{Lists}
use Rattle.vm_dict.specs.declared.deque.Rest.{Rest}

abbrev pub IsEnds : Lists → Ends → Type 0
IsEnds l d = (l.front ≡ d.front) × (l.back ≡ d.back)

abbrev pub IsRest : Rest → Taking → Type 0
IsRest r t = (r.value ≡ t.value) × (r.near ≡ t.near) × (r.far ≡ t.far)
