-- The state that a machine's parts stand for.
use Rattle.std.specs.Prelude.{[], length}
use Rattle.cap_words.specs.Seen.{seen}
use Rattle.vm_step.specs.Step.{sheet_in}
use Rattle.vm_turn.specs.State.{State}
use Rattle.vm_machine.specs.declared.parts.Parts.{Parts}
use Rattle.vm_machine.specs.Messages.{unfinished}
use Rattle.vm_machine.specs.Flight.{flight_of}

-- what was written does not stand in the machine: its state is the one with no output
abbrev pub state_of : Parts → State
state_of p = record {
  store = seen p.quads.store;
  roll = p.roll.items;
  messages = unfinished p.queue.given p.queue.ready (flight_of p.quads.store p.flight.items);
  next_number = length p.queue.given;
  flight = flight_of p.quads.store p.flight.items;
  lanes = p.lanes;
  sheet = sheet_in p.quads p.sheet;
  journal = p.journal.items;
  output = [];
  out_of = p.out_of;
}

-- a state without what was written
abbrev pub unwritten : State → State
unwritten s = record s { output = [] }
