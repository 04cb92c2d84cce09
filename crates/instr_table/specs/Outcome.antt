-- What a row says: a charge, and how the event goes on or ends.
use Rattle.std.specs.Prelude.{ℕ, ◌+◌, pos, List, [], ◌∷◌, length}
use Rattle.cap_words.specs.Words.{W, Fix}
use Rattle.cap_words.specs.Seen.{Slot}
use Rattle.instr_table.specs.declared.charge.Charge.{Charge}
use Rattle.instr_table.specs.Lists.{Built}
use Rattle.instr_table.specs.Event.{Effect, Nothing, Sends, Creates, Assigns, Becomes, Sponsors, Grants, Reclaims, Starts, Stops}

-- going on: how many items are taken; the result's cells, each after those that it names; the items that are new or moved, the lowest
-- first; the next code word; and what is done beside
pub record Going : Type 0 where
  pub pops : ℕ
  pub made : List Slot
  pub pushed : List W
  pub goes_to : W
  pub effect : Effect

-- an event goes on, faults with a reason, or commits
pub data Outcome : Type 0 where
  Goes : Going → Outcome
  Faults : W → Outcome
  Commits : Outcome

-- what an instruction costs beside its cycle, and what it comes to
pub record Row : Type 0 where
  pub charge : Charge
  pub outcome : Outcome

-- so many quads and events
abbrev pub charge : ℕ → ℕ → Charge
charge quads events = record { quads = quads; events = events }

-- a message that is sent, and a signal that is prepared, cost one event
abbrev pub events_in : Effect → ℕ
events_in Nothing = 0
events_in (Sends m) = 1
events_in (Creates m) = 0
events_in (Assigns m) = 0
events_in (Becomes b) = 0
events_in (Sponsors w) = 0
events_in (Grants w kind n) = 0
events_in (Reclaims w) = 0
events_in (Starts w signal) = 1
events_in (Stops w) = 0

-- ---- going on costs a quad for each cell and each item, and what the effect costs

abbrev pub going : Going → Row
going g = record { charge = charge (length g.made + length g.pushed) (events_in g.effect); outcome = Goes g }

-- with new cells and an effect
abbrev pub does : ℕ → List Slot → List W → W → Effect → Row
does pops made pushed k effect = going (record { pops = pops; made = made; pushed = pushed; goes_to = k; effect = effect })

-- with items alone
abbrev pub goes : ℕ → List W → W → Row
goes pops pushed k = does pops [] pushed k Nothing

-- with one item, and the cells that it is made of
abbrev pub gives : ℕ → Built → W → Row
gives pops b k = does pops b.cells (b.word ∷ []) k Nothing

-- ---- ending states its own charge

abbrev pub ends_with : Charge → Outcome → Row
ends_with c o = record { charge = c; outcome = o }

-- a fault adds no cell, and costs what the operation would have
abbrev pub faults : ℕ → ℕ → W → Row
faults quads events reason = ends_with (charge quads events) (Faults reason)

-- ---- the reasons of faults

abbrev pub not_actor : W
not_actor = Fix (pos 3)

abbrev pub second_become : W
second_become = Fix (pos 6)

abbrev pub bad_instruction : W
bad_instruction = Fix (pos 16)

abbrev pub assertion_failed : W
assertion_failed = Fix (pos 17)

abbrev pub not_fresh : W
not_fresh = Fix (pos 18)

abbrev pub not_sponsor : W
not_sponsor = Fix (pos 19)

abbrev pub short_of : W
short_of = Fix (pos 20)

abbrev pub was_stopped : W
was_stopped = Fix (pos 21)

abbrev pub is_running : W
is_running = Fix (pos 22)
