-- A call of the program: what it is given, and what it leaves.
use Rattle.std.specs.Prelude.{◌≡◌, ℕ, List, Option}
use Rattle.hum_outside.specs.Outside.{Files, told, Rose}
use Rattle.hum_command.specs.Writes.{Writes, writes, Wrote, WroteFront, Said, Silent}
use Rattle.hum_command.specs.Texts.{IsNext, Unreadable}
use Rattle.hum_command.specs.Refusals.{answer_line}
use Rattle.hum_command.specs.declared.record.Record.{Record}
use Rattle.hum_command.specs.declared.answer.Answer.{Answer}
use Rattle.hum_command.specs.declared.answer.Answer.TheVariants.{Done, Fault}

pub record Call : Type 0 where
  pub files : Option Files
  pub faults_old : ℕ
  pub faults_new : ℕ
  pub out : Writes
  pub err : Writes
  pub last_old : Record
  pub last_new : Record

-- the call by what a folder tells and counts and what a sink tells and counts, over a folder, out, err and a record, each before and after
abbrev pub call : {D S : Type 0} → (D → Option Files) → (D → ℕ) → (S → Option (List ℕ)) → (S → ℕ)
    → (files files' : D) (out out' err err' : S) (last last' : Record) → Call
call tells faults written sink_faults files files' out out' err err' last last' = record {
  files = tells files;
  faults_old = faults files;
  faults_new = faults files';
  out = writes written sink_faults out out';
  err = writes written sink_faults err err';
  last_old = last;
  last_new = last';
}

-- nothing was done: out and the record are as they were, and err has the line of the answer, with that name
pub record Declines (answer : Answer) (c : Call) (name : List ℕ) : Type 0 where
  pub line : Said c.err (answer_line answer name)
  pub out : Silent c.out
  pub last : c.last_new ≡ c.last_old

-- nothing was done, for a cause that tells the name
abbrev pub DeclinesFor : (Call → List ℕ → Type 0) → Answer → Call → Type 0
DeclinesFor Cause answer c = (name : List ℕ) × Cause c name × Declines answer c name

-- of the files of these names none before this one is told to be absent, and the folder failed, or is told to have no such file
abbrev pub NotRead : List (List ℕ) → Call → List ℕ → Type 0
NotRead names c name = IsNext c.files names name × Unreadable c.faults_old c.faults_new (told c.files name)

-- no fault of the folder was counted
abbrev pub Reads : Call → Type 0
Reads c = ¬ (Rose c.faults_old c.faults_new)

-- these bytes were written, and so the answer tells whether all were, or a front because of a fault
abbrev pub PutsAll : Answer → Writes → List ℕ → Type 0
PutsAll Done w bytes = Wrote w bytes
PutsAll Fault w bytes = WroteFront w bytes
PutsAll answer w bytes = ⊥
