-- What the parts of a machine keep.
use Rattle.std.specs.Prelude.{◌≡◌, ℕ, ◌+◌, ◌*◌, ◌≤◌, true, IsTrue, List, length, None, vec_len, vec_capacity}
use Rattle.std.specs.List.{sum_by}
use Rattle.cap_words.specs.Store.{used}
use Rattle.instr_table.specs.Sheet.{Account}
use Rattle.instr_table.specs.Lane.{Lane as Flying}
use Rattle.instr_table.specs.Reach.{Every}
use Rattle.vm_sponsor.specs.Grant.{is_grant}
use Rattle.vm_sponsor.specs.Ledger.{names}
use Rattle.vm_step.specs.Books.{Books}
use Rattle.event_queue.specs.Pending.{IsAscending}
use Rattle.vm_step.specs.Step.{sheet_in}
use Rattle.vm_turn.specs.State.{State}
use Rattle.vm_turn.specs.Turn.{first_to_go}
use Rattle.vm_turn.specs.Sound.{Sound}
use Rattle.vm_turn.specs.Authority.{WordsTaken}
use Rattle.vm_machine.specs.declared.parts.Parts.{Parts}
use Rattle.vm_machine.specs.View.{state_of}
use Rattle.vm_machine.specs.Known.{Knows}
use Rattle.vm_machine.specs.Flight.{flight_of, Flies, Separate, Pairwise}

-- how many cycles were spent
abbrev pub cycles_spent : List Account → ℕ
cycles_spent sheet = sum_by (λ (a : Account). a.cycles.spent) sheet

-- how many actors the events in flight created
abbrev pub created_in : List Flying → ℕ
created_in flight = sum_by (λ (l : Flying). length l.effects.created) flight

-- the sheet keeps in step with the quads, and an instruction makes three transfers at most; the lanes keep their facts, and no quad is two
-- lanes' own; all memory is taken: there is room for all lanes, numbers, entries and actors; and the words that it knows are those of boot
pub record Kept (p : Parts) : Type 0 where
  pub books : Books p.quads p.sheet
  pub transfers : p.sheet.transfers ≤ 3 * cycles_spent (sheet_in p.quads p.sheet)
  pub flying : Every (Flies p.quads.store (names p.sheet.rows) p.queue.given p.queue.ready) p.flight.items
  pub apart : Pairwise (Separate p.quads.store) p.flight.items
  pub granted : IsTrue (is_grant p.grant.memory p.grant.events p.grant.cycles)
  pub some_lanes : 1 ≤ p.lanes
  pub lanes_limit : p.lanes ≤ 64
  pub few : vec_len p.flight ≤ p.lanes
  pub flight_room : p.lanes ≤ vec_capacity p.flight
  pub queue_room : p.queue.room ≡ p.grant.events + 1
  pub counts : length p.journal.items + length p.flight.items + length p.queue.ready ≡ length p.queue.given
  pub given_room : length p.queue.given ≤ p.queue.room
  pub ascending : IsAscending 0 (length p.queue.given) p.queue.ready
  pub journal_room : p.queue.room ≤ vec_capacity p.journal
  pub actors : length p.roll.items + created_in (flight_of p.quads.store p.flight.items) ≤ used p.quads.store
  pub used_room : used p.quads.store ≤ p.quads.room
  pub roll_room : p.quads.room ≤ vec_capacity p.roll
  pub known : Knows p.known

-- where a search found no message that can go, none can
abbrev pub Waits : State → Type 0
Waits s = first_to_go s.store s.sheet s.flight s.messages ≡ None

-- between turns also what every turn of the written machine keeps; and each RAM word in a cell, a stack, a next code or a record names a
-- quad that is taken
pub record Whole (p : Parts) : Type 0 where
  pub kept : Kept p
  pub sound : Sound p.grant (state_of p)
  pub taken : WordsTaken (state_of p)
  pub waits : p.stuck ≡ true → Waits (state_of p)
