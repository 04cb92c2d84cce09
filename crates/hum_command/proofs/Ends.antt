-- From turns to the answer of a run.
use Rattle.std.proofs.Common.{◌≡◌, ◌∙◌, ◌≤◌, ℕ, List, [], ◌∷◌, ◌++◌, Bool, true, false, Option, refl, sym, ap, subst, inl, inr}
use Rattle.hum_outside.specs.Outside.{Rose, AppendsFront, appended}
use Rattle.hum_outside.proofs.Fronts.{appended-appended}
use Rattle.quad_memory.specs.Image.{RomImage}
use Rattle.vm_turn.specs.declared.journal.Entry.{Entry}
use Rattle.vm_sponsor.specs.declared.amounts.Amounts.{Amounts}
use Rattle.vm_machine.specs.Machine.{Machine}
use Rattle.hum_run.specs.Report.{report_of}
use Rattle.hum_run.specs.Drive.{RunsFrom, Fresh, written_by, next_piece, failed_lines, Advances, Drives, BreaksOut, BreaksErr, Breaks, RoseOn, Stops, Unreached, RanOutSince, is_reached}
use Rattle.hum_run.specs.declared.stop.Stop.{Stop}
use Rattle.hum_run.specs.declared.stop.Stop.TheVariants as stop
use Rattle.hum_command.specs.Writes.{Writes}
use Rattle.hum_command.specs.Ending.{AnswersTo, EndsSo}
use Rattle.hum_command.specs.MachineAnswers.{Ended, FailedOut, FailedErr, FailedEnd, MachineAnswers, last_lines}
use Rattle.hum_command.specs.declared.answer.Answer.{Answer}
use Rattle.hum_command.specs.declared.answer.Answer.TheVariants as answer
use Rattle.hum_command.proofs.Gathers.{rose-later}

abbrev pub sink : Option (List ℕ) → Option (List ℕ) → ℕ → ℕ → Writes
sink old new faults_old faults_new = record { old = old; new = new; faults_old = faults_old; faults_new = faults_new }

-- ---- what turns keep

module _ (image : RomImage) (grant : Amounts) (lanes seed : ℕ) (old new : Machine) where
  pub kept : (bytes : List ℕ) (entries : List Entry) → Advances old new bytes entries → RunsFrom image grant lanes seed old → RunsFrom image grant lanes seed new
  kept bytes entries advances from = record {
    image_is = advances.image ∙ from.image_is;
    grant_is = advances.grant ∙ from.grant_is;
    lanes_are = advances.lanes ∙ from.lanes_are;
    seed_is = advances.seed ∙ from.seed_is;
    run = advances.run;
  }

  pub kept-broken : (on_err : Bool) (oo on eo en : Option (List ℕ)) → Breaks on_err old new oo on eo en
      → RunsFrom image grant lanes seed old → RunsFrom image grant lanes seed new
  kept-broken false oo on eo en broke from = kept broke.bytes broke.entries broke.advances from
  kept-broken true oo on eo en broke from = kept broke.bytes (broke.entries ++ broke.last ∷ []) broke.advances from

-- ---- from a fresh machine on

module _ (old new : Machine) (bytes : List ℕ) (entries : List Entry) (fresh : Fresh old) (advances : Advances old new bytes entries) where
  wrote : bytes ≡ written_by new
  wrote = sym (advances.output ∙ ap (λ (o : List ℕ). o ++ bytes) fresh.wrote)

  listed : entries ≡ new.state.journal
  listed = sym (advances.journal ∙ ap (λ (j : List Entry). j ++ entries) fresh.journal)

-- from its first turn on
from_start : (bound : Option ℕ) (old new : Machine) → Fresh old → Unreached bound old.turns new → Unreached bound 0 new
from_start bound old new fresh unreached = subst (λ (n : ℕ). Unreached bound n new) fresh.turns unreached

-- a write of an event failed
module _ (bound : Option ℕ) (old new : Machine) (oo on eo en : Option (List ℕ)) (a b c d : ℕ) (fresh : Fresh old) (unreached : Unreached bound old.turns new) where
  failed_out : BreaksOut old new oo on eo en → is_reached bound new.state ≡ false → Rose a b → FailedOut bound new (written_by new) (sink oo on a b) (sink eo en c d)
  failed_out broke now rose = record {
    unreached = from_start bound old new fresh unreached;
    unreached_now = now;
    writes = broke.writes;
    output = subst (λ (bs : List ℕ). AppendsFront (appended oo bs) on (next_piece new)) (wrote old new broke.bytes broke.entries fresh broke.advances) broke.out;
    rose = rose;
    lines = broke.err ∙ ap (λ (es : List Entry). appended eo (failed_lines es)) (listed old new broke.bytes broke.entries fresh broke.advances);
  }

  failed_err : BreaksErr old new oo on eo en → Rose c d → FailedErr bound new (written_by new) (sink oo on a b) (sink eo en c d)
  failed_err broke rose = record {
    unreached = from_start bound old new fresh unreached;
    entries = broke.entries;
    last = broke.last;
    journal = sym (listed old new broke.bytes (broke.entries ++ broke.last ∷ []) fresh broke.advances);
    has_line = broke.has_line;
    output = broke.out ∙ ap (appended oo) (wrote old new broke.bytes (broke.entries ++ broke.last ∷ []) fresh broke.advances);
    lines = broke.err;
    rose = rose;
  }

  pub failed : (on_err : Bool) → Breaks on_err old new oo on eo en → (on_err ≡ false → is_reached bound new.state ≡ false) → RoseOn on_err a b c d
      → MachineAnswers answer.Fault bound new (written_by new) (sink oo on a b) (sink eo en c d)
  failed false broke now rose = inl (failed_out broke (now refl) rose)
  failed true broke now rose = inr (inl (failed_err broke rose))

-- the turns came to their end, and then the last lines were written; err counted c at first, d before these and e behind them
module _ (bound : Option ℕ) (old new : Machine) (oo on eo em en : Option (List ℕ)) (a b c d e : ℕ) (fresh : Fresh old) (unreached : Unreached bound old.turns new)
    (drives : Drives old new oo on eo em) (stop : Stop) (stops : Stops bound stop new) where
  all_out : on ≡ appended oo (written_by new)
  all_out = drives.out ∙ ap (appended oo) (wrote old new drives.bytes drives.entries fresh drives.advances)

  all_err : em ≡ appended eo (failed_lines new.state.journal)
  all_err = drives.err ∙ ap (λ (es : List Entry). appended eo (failed_lines es)) (listed old new drives.bytes drives.entries fresh drives.advances)

  ended : en ≡ appended em (last_lines stop new) → Ended bound stop new (written_by new) (sink oo on a b) (sink eo en c e)
  ended last = record {
    stops = stops;
    unreached = from_start bound old new fresh unreached;
    output = all_out;
    lines = last ∙ ap (λ (x : Option (List ℕ)). appended x (last_lines stop new)) all_err
        ∙ appended-appended eo (failed_lines new.state.journal) (last_lines stop new);
  }

  failed_end : c ≤ d → AppendsFront em en (last_lines stop new) → Rose d e → FailedEnd bound new (written_by new) (sink oo on a b) (sink eo en c e)
  failed_end later front rose = record {
    stop = stop;
    stops = stops;
    unreached = from_start bound old new fresh unreached;
    output = all_out;
    lines = subst (λ (x : Option (List ℕ)). AppendsFront x en (last_lines stop new)) all_err front;
    rose = rose-later c d e later rose;
  }

-- the answer
module _ (bound : Option ℕ) (old new : Machine) (oo on eo em en : Option (List ℕ)) (a b c d e : ℕ) (fresh : Fresh old) (unreached : Unreached bound old.turns new)
    (drives : Drives old new oo on eo em) (ran_out : RanOutSince old.state.out_of new) where
  abbrev Comes : Answer → Type 0
  Comes x = MachineAnswers x bound new (written_by new) (sink oo on a b) (sink eo en c e)

  abbrev ends : (stop : Stop) → Stops bound stop new → en ≡ appended em (last_lines stop new) → Ended bound stop new (written_by new) (sink oo on a b) (sink eo en c e)
  ends stop stops last = ended bound old new oo on eo em en a b c d e fresh unreached drives stop stops last

  answered : (stop : Stop) (x : Answer) → Stops bound stop new → AnswersTo stop (report_of new.state) x → en ≡ appended em (last_lines stop new) → Comes x
  answered stop.Rest x stops (inl done) last = subst Comes (sym done.1) (done.0, ends stop.Rest stops last)
  answered stop.Rest x stops (inr failed) last = subst Comes (sym failed.1) (failed.0, ends stop.Rest stops last)
  answered stop.Bound x stops answers last = subst Comes (sym answers) (ends stop.Bound stops last)
  answered (stop.Spent kind held) x stops answers last =
      subst Comes (sym answers) (record { held = held; ended = ends (stop.Spent kind held) stops last; last = ran_out fresh.not_out kind stops.0 })
  answered stop.Broken x stops answers last = absurd stops

  pub finished : (stop : Stop) (x : Answer) → Stops bound stop new → c ≤ d → EndsSo stop (report_of new.state) x (sink em en d e) → Comes x
  finished stop x stops later (inl done) = answered stop x stops done.0 done.1
  finished stop x stops later (inr fault) =
      subst Comes (sym fault.0) (inr (inr (failed_end bound old new oo on eo em en a b c d e fresh unreached drives stop stops later fault.1.0 fault.1.1)))
