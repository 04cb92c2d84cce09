-- The machine's journal, as a journal of deliveries.
use Rattle.std.specs.Prelude.{◌≡◌, pos, List}
use Rattle.cap_words.specs.Words.{Fix}
use Rattle.instr_table.specs.Reach.{Every}
use Rattle.vm_turn.specs.declared.journal.Entry.{Entry}
use Rattle.vm_turn.specs.declared.journal.Outcome.{Outcome as End}
use Rattle.vm_turn.specs.declared.journal.Outcome.TheVariants.{Committed, Failed, RanOut}
use Rattle.hum_meaning.specs.Codes.{IsCode}
use Rattle.hum_meaning.specs.After as after
use Rattle.hum_meaning.specs.After.{Ending, Commits, FailsWith, RunsOut}

-- an event's outcome is an ending of a delivery: the reason of a failure is the fixnum of its code
abbrev pub EndsAs : End → Ending → Type 0
EndsAs Committed Commits = Unit {0}
EndsAs (Failed w) (FailsWith code) = w ≡ Fix (pos code)
EndsAs (RanOut kind) RunsOut = Unit {0}
EndsAs _ _ = ⊥

-- an entry of the machine's journal is that of a delivery: of the same message, with the same end
pub record EntryAs (e : Entry) (d : after.Entry) : Type 0 where
  pub message : e.message ≡ d.message
  pub ending : EndsAs e.outcome d.ending

-- the event ran out of what it was granted, so that its delivery came to no end of its own
abbrev pub HasRunOut : Ending → Type 0
HasRunOut Commits = ⊥
HasRunOut (FailsWith code) = ⊥
HasRunOut RunsOut = Unit {0}

-- each of these events committed, or failed with a code
abbrev pub AreDecided : List after.Entry → Type 0
AreDecided journal = Every (λ (e : after.Entry). HasRunOut e.ending → ⊥) journal

-- the code of a failure is one of 1 to 8
abbrev pub HasCode : Ending → Type 0
HasCode Commits = Unit {0}
HasCode (FailsWith code) = IsCode code
HasCode RunsOut = Unit {0}

-- so it is of each of these events
abbrev pub HaveCodes : List after.Entry → Type 0
HaveCodes journal = Every (λ (e : after.Entry). HasCode e.ending) journal
