-- What one turn comes to, and what several come to.
use Rattle.std.proofs.Common.{◌≡◌, ℕ, suc, ◌+◌, ◌≤◌, ◌<◌, List, [], ◌∷◌, ◌++◌, Option, Some, None, Bool, true, false, Ok, refl, sym, ap, ◌∙◌, subst, arith, append-nil, append_assoc, ⊎_elim, Result, Err}
use Rattle.std.specs.Prelude.{if◌then◌else◌}
use Rattle.std.proofs.Math.Nat.{eq-or-lt_of_le}
use Rattle.std.proofs.lemmas.List.Concat.{flat_map-append}
use Rattle.std.proofs.lemmas.Option.{none-some, same_Some}
use Rattle.hum_outside.specs.Outside.{AppendsFront, appended}
use Rattle.hum_outside.proofs.Fronts.{appended-appended}
use Rattle.quad_memory.specs.Image.{RomImage}
use Rattle.instr_table.specs.declared.charge.Quota.{Quota}
use Rattle.vm_sponsor.specs.declared.amounts.Amounts.{Amounts}
use Rattle.vm_devices.specs.declared.delivery.WriteFault.{WriteFault}
use Rattle.vm_turn.specs.declared.journal.Entry.{Entry}
use Rattle.vm_turn.specs.declared.journal.Outcome.TheVariants.{RanOut}
use Rattle.vm_turn.specs.declared.journal.Turn.{Turn as Answer}
use Rattle.vm_turn.specs.declared.journal.Turn.TheVariants.{Dispatched, Stepped, Finished, Rest, Spent}
use Rattle.instr_table.specs.Sheet.{held}
use Rattle.vm_turn.specs.State.{State, root}
use Rattle.vm_turn.specs.Boot.{booted}
use Rattle.vm_turn.specs.Turn.{dispatchable, entry, turn}
use Rattle.vm_turn.specs.Run.{after, run, picks, pick_of, drawn, drawn_after, not_rest, unless_out}
use Rattle.vm_turn.proofs.Runs.{after-append, picks-next}
use Rattle.vm_machine.specs.View.{unwritten}
use Rattle.vm_machine.specs.Turns.{Takes}
use Rattle.vm_machine.specs.Machine.{Machine, drawn_run, turns_by}
use Rattle.hum_run.specs.declared.stop.Stop.TheVariants as stop
use Rattle.hum_run.specs.Drive.{IsRun, written_by, next_pick, next_piece, entry_line, failed_lines, turn_line, is_turn, Advances, Drives, BreaksOut, BreaksErr, Breaks, FallsShort, RanOutLast, RanOutSince, AtRest, Goes, is_reached, stop_by, stop_before, Unreached}
use Rattle.hum_run.proofs.Turned.{Tells, turn-tells, turn-writes}

pub appended-none : (old : Option (List ℕ)) → old ≡ appended old []
appended-none None = refl
appended-none (Some bytes) = ap Some (sym (append-nil bytes))

pub one-line : (e : Entry) → failed_lines (e ∷ []) ≡ entry_line e
one-line e = append-nil (entry_line e)

-- ---- one turn

-- one turn more is the turn after the run
run-next : (image : RomImage) (grant : Amounts) (lanes seed n : ℕ) → run image grant lanes (picks seed (suc n)) ≡ (turn (run image grant lanes (picks seed n)) (pick_of (drawn (drawn_after seed n)))).0
run-next image grant lanes seed n = ap (after (booted image grant lanes)) (picks-next seed n) ∙ after-append (booted image grant lanes) (picks seed n) (pick_of (drawn (drawn_after seed n)) ∷ [])

module _ (old new : Machine) (runs : IsRun old) (image : new.image ≡ old.image) (grant : new.grant ≡ old.grant) (lanes : new.state.lanes ≡ old.state.lanes) (seed : new.seed ≡ old.seed) where
  -- the run that the machine came from
  abbrev came_from : State
  came_from = run old.image old.grant old.state.lanes (picks old.seed old.turns)

  abbrev behind : State → State
  behind s = record s { output = came_from.output ++ s.output }

  -- a turn was completed
  pub completed : (entries : List Entry) → new.turns ≡ suc old.turns → new.state ≡ unwritten (turn old.state (next_pick old)).0 → new.state.journal ≡ old.state.journal ++ entries → Advances old new (next_piece old) entries
  completed entries turns state journal = record {
    image = image;
    grant = grant;
    lanes = lanes;
    seed = seed;
    turns = omega (arith, turns);
    run = state ∙ sym (ap unwritten whole);
    output = ap (λ (s : State). s.output) whole;
    journal = journal;
  }
    where
      whole : run new.image new.grant new.state.lanes (picks new.seed new.turns) ≡ behind (turn old.state (next_pick old)).0
      whole =
          (λ i. run (image i) (grant i) (lanes i) (picks (seed i) (turns i)))
          ∙ run-next old.image old.grant old.state.lanes old.seed old.turns
          ∙ turn-writes came_from (next_pick old)
          ∙ sym (ap (λ (s : State). behind (turn s (next_pick old)).0) runs)

  -- no turn was completed
  pub stayed : new.turns ≡ old.turns → new.state ≡ old.state → Advances old new [] []
  stayed turns state = record {
    image = image;
    grant = grant;
    lanes = lanes;
    seed = seed;
    turns = omega (arith, turns);
    run = state ∙ runs ∙ sym (λ i. drawn_run (image i) (grant i) (lanes i) (seed i) (turns i));
    output = (λ i. (run (image i) (grant i) (lanes i) (picks (seed i) (turns i))).output) ∙ sym (append-nil (written_by old));
    journal = ap (λ (s : State). s.journal) state ∙ sym (append-nil old.state.journal);
  }

  -- so the next turn is still the same
  pub same_piece : new.turns ≡ old.turns → new.state ≡ old.state → next_piece old ≡ next_piece new
  same_piece turns state = sym (λ i. (turn (state i) (pick_of (drawn (drawn_after (seed i) (turns i))))).0.output)

  -- what an answer tells of the machine
  abbrev pub Comes : Answer → Type 0
  Comes Dispatched = Advances old new (next_piece old) [] × Goes true old new
  Comes Stepped = Advances old new (next_piece old) [] × Goes true old new
  Comes (Finished e) = Advances old new (next_piece old) (e ∷ []) × Goes true old new
  Comes Rest = Advances old new [] [] × Goes false old new × (next_piece old ≡ [])
  Comes (Spent w kind) = (number : ℕ) × Advances old new (next_piece old) (entry number (RanOut kind) ∷ []) × Goes true old new

  -- the root still holds out
  holds : new.state.out_of ≡ None → RanOutSince None new
  holds none = λ _ kind out. absurd (none-some kind (sym none ∙ out))

  -- it came so
  pub comes : (a : Answer) (out_old out_new : Option (List ℕ)) → old.state.out_of ≡ None → new.turns ≡ old.turns + turns_by old.state.out_of (Ok a) → Takes (turn old.state (next_pick old)) (Ok a) old.state new.state out_old out_new → Comes a
  comes a out_old out_new not_out turns takes = by a
      (subst (λ (o : Option Quota). new.turns ≡ old.turns + turns_by o (Ok a)) not_out turns)
      (subst (Tells old.state (next_pick old) (turn old.state (next_pick old)).0) (sym takes.1) (turn-tells old.state (next_pick old) not_out))
    where
      state : new.state ≡ unwritten (turn old.state (next_pick old)).0
      state = takes.0

      journal : new.state.journal ≡ (turn old.state (next_pick old)).0.journal
      journal = ap (λ (s : State). s.journal) state

      out_of : new.state.out_of ≡ (turn old.state (next_pick old)).0.out_of
      out_of = ap (λ (s : State). s.out_of) state

      quiet : (turn old.state (next_pick old)).0.journal ≡ old.state.journal → new.state.journal ≡ old.state.journal ++ []
      quiet same = journal ∙ same ∙ sym (append-nil old.state.journal)

      by : (b : Answer) → new.turns ≡ old.turns + turns_by None (Ok b) → Tells old.state (next_pick old) (turn old.state (next_pick old)).0 b → Comes b
      by Dispatched n t = (completed [] (omega (arith, n)) state (quiet t.0), (n, holds (out_of ∙ t.1 ∙ not_out)))
      by Stepped n t = (completed [] (omega (arith, n)) state (quiet t.0), (n, holds (out_of ∙ t.1 ∙ not_out)))
      by (Finished e) n t = (completed (e ∷ []) (omega (arith, n)) state (journal ∙ t.0), (n, holds (out_of ∙ t.1 ∙ not_out)))
      by Rest n t =
          let empty : old.state.output ≡ [] = ap (λ (s : State). s.output) runs in
          let same : new.state ≡ old.state = state ∙ ap unwritten t.2 ∙ sym (λ i. record old.state { output = empty i }) in (
            stayed (omega (arith, n)) same,
            (
              record {
                no_flight = ap (λ (s : State). s.flight) same ∙ t.0;
                no_dispatch = ap dispatchable same ∙ t.1;
                not_out = ap (λ (s : State). s.out_of) same ∙ not_out;
              },
              same,
            ),
            ap (λ (s : State). s.output) t.2 ∙ empty,
          )
      by (Spent w kind) n t = (
        t.0,
        completed (entry t.0 (RanOut kind) ∷ []) (omega (arith, n)) state (journal ∙ t.1),
        (
          n,
          λ _ other out. subst (RanOutLast new) (same_Some kind other (sym (out_of ∙ t.2) ∙ out)) (record {
            out_of = out_of ∙ t.2;
            before = old.turns;
            last = omega (arith, n);
            short = subst (λ (s : State). FallsShort s (pick_of (drawn (drawn_after new.seed old.turns))) kind)
                (runs ∙ sym (λ i. drawn_run (image i) (grant i) (lanes i) (seed i) old.turns))
                (subst (λ (x : ℕ). FallsShort old.state (pick_of (drawn (drawn_after x old.turns))) kind) (sym seed) t.3);
          }),
        ),
      )

-- what is known of a turn that was not broken off
pub record Turning (old new : Machine) (a : Answer) (out_old out_new : Option (List ℕ)) : Type 0 where
  pub runs : IsRun old
  pub not_out : old.state.out_of ≡ None
  pub image : new.image ≡ old.image
  pub grant : new.grant ≡ old.grant
  pub lanes : new.state.lanes ≡ old.state.lanes
  pub seed : new.seed ≡ old.seed
  pub turns : new.turns ≡ old.turns + turns_by old.state.out_of (Ok a)
  pub takes : Takes (turn old.state (next_pick old)) (Ok a) old.state new.state out_old out_new

module _ (old new : Machine) (out_old out_new err_old err_new : Option (List ℕ)) where
  -- its line was written
  pub turned : (a : Answer) → Turning old new a out_old out_new → err_new ≡ appended err_old (turn_line a) → Drives old new out_old out_new err_old err_new × Goes (is_turn a) old new
  turned a t line = by a (comes old new t.runs t.image t.grant t.lanes t.seed a out_old out_new t.not_out t.turns t.takes) t.takes.2 line
    where
      by : (b : Answer) → Comes old new t.runs t.image t.grant t.lanes t.seed b → out_new ≡ appended out_old (next_piece old) → err_new ≡ appended err_old (turn_line b) → Drives old new out_old out_new err_old err_new × Goes (is_turn b) old new
      by Dispatched x out err = (record { bytes = next_piece old; entries = []; advances = x.0; out = out; err = err }, x.1)
      by Stepped x out err = (record { bytes = next_piece old; entries = []; advances = x.0; out = out; err = err }, x.1)
      by (Finished e) x out err = (record { bytes = next_piece old; entries = e ∷ []; advances = x.0; out = out; err = err ∙ ap (appended err_old) (sym (one-line e)) }, x.1)
      by Rest x out err = (record { bytes = []; entries = []; advances = x.0; out = out ∙ ap (appended out_old) x.2; err = err }, x.1)
      by (Spent w kind) x out err = (record { bytes = next_piece old; entries = entry x.0 (RanOut kind) ∷ []; advances = x.1; out = out; err = err }, x.2)

  -- its line was not written whole
  pub line_broken : (a : Answer) (e : Entry) → a ≡ Finished e → Turning old new a out_old out_new → (entry_line e ≡ [] → ⊥) → AppendsFront err_old err_new (entry_line e) → BreaksErr old new out_old out_new err_old err_new
  line_broken a e is t some front =
      let x : Comes old new t.runs t.image t.grant t.lanes t.seed (Finished e) = subst (Comes old new t.runs t.image t.grant t.lanes t.seed) is (comes old new t.runs t.image t.grant t.lanes t.seed a out_old out_new t.not_out t.turns t.takes) in
      record {
        bytes = next_piece old;
        entries = [];
        last = e;
        advances = x.0;
        has_line = some;
        out = t.takes.2;
        err = subst (λ (o : Option (List ℕ)). AppendsFront o err_new (entry_line e)) (appended-none err_old) front;
      }

  -- what it writes was not written whole
  pub piece_broken : IsRun old → new.image ≡ old.image → new.grant ≡ old.grant → new.state.lanes ≡ old.state.lanes → new.seed ≡ old.seed → new.turns ≡ old.turns + 0 → new.state ≡ old.state → (next_piece old ≡ [] → ⊥) → AppendsFront out_old out_new (next_piece old) → err_new ≡ err_old → BreaksOut old new out_old out_new err_old err_new
  piece_broken runs image grant lanes seed turns state some front kept =
      let same : new.turns ≡ old.turns = omega (arith, turns) in
      record {
        bytes = [];
        entries = [];
        advances = stayed old new runs image grant lanes seed same state;
        writes = λ none. some (same_piece old new runs image grant lanes seed same state ∙ none);
        out = subst (λ (o : Option (List ℕ)). AppendsFront o out_new (next_piece new)) (appended-none out_old)
            (subst (AppendsFront out_old out_new) (same_piece old new runs image grant lanes seed same state) front);
        err = kept ∙ appended-none err_old;
      }

-- ---- several turns

-- no turn
pub drives-none : (m : Machine) (out err : Option (List ℕ)) → IsRun m → Drives m m out out err err
drives-none m out err runs = record {
  bytes = [];
  entries = [];
  advances = stayed m m runs refl refl refl refl refl refl;
  out = appended-none out;
  err = appended-none err;
}

pub advances-more : (a b c : Machine) (bytes more : List ℕ) (entries others : List Entry) → Advances a b bytes entries → Advances b c more others → Advances a c (bytes ++ more) (entries ++ others)
advances-more a b c bytes more entries others x y = record {
  image = y.image ∙ x.image;
  grant = y.grant ∙ x.grant;
  lanes = y.lanes ∙ x.lanes;
  seed = y.seed ∙ x.seed;
  turns = omega (arith, x.turns, y.turns);
  run = y.run;
  output = y.output ∙ ap (λ (l : List ℕ). l ++ more) x.output ∙ append_assoc (written_by a) bytes more;
  journal = y.journal ∙ ap (λ (l : List Entry). l ++ others) x.journal ∙ append_assoc a.state.journal entries others;
}

-- bytes were appended, and then more
twice : (old mid : Option (List ℕ)) (bytes more : List ℕ) → mid ≡ appended old bytes → appended mid more ≡ appended old (bytes ++ more)
twice old mid bytes more first = ap (λ (o : Option (List ℕ)). appended o more) first ∙ appended-appended old bytes more

-- the lines of some entries, and then of others
lines-twice : (old mid : Option (List ℕ)) (entries others : List Entry) → mid ≡ appended old (failed_lines entries) → appended mid (failed_lines others) ≡ appended old (failed_lines (entries ++ others))
lines-twice old mid entries others first = twice old mid (failed_lines entries) (failed_lines others) first ∙ ap (appended old) (sym (flat_map-append entry_line entries others))

module _ (a b c : Machine) (out_a out_b out_c err_a err_b err_c : Option (List ℕ)) (x : Drives a b out_a out_b err_a err_b) where
  -- turns after turns
  pub drives-more : Drives b c out_b out_c err_b err_c → Drives a c out_a out_c err_a err_c
  drives-more y = record {
    bytes = x.bytes ++ y.bytes;
    entries = x.entries ++ y.entries;
    advances = advances-more a b c x.bytes y.bytes x.entries y.entries x.advances y.advances;
    out = y.out ∙ twice out_a out_b x.bytes y.bytes x.out;
    err = y.err ∙ lines-twice err_a err_b x.entries y.entries x.err;
  }

  -- a write fails after turns
  pub breaks-more : (on_err : Bool) → Breaks on_err b c out_b out_c err_b err_c → Breaks on_err a c out_a out_c err_a err_c
  breaks-more false y = record {
    bytes = x.bytes ++ y.bytes;
    entries = x.entries ++ y.entries;
    advances = advances-more a b c x.bytes y.bytes x.entries y.entries x.advances y.advances;
    writes = y.writes;
    out = subst (λ (o : Option (List ℕ)). AppendsFront o out_c (next_piece c)) (twice out_a out_b x.bytes y.bytes x.out) y.out;
    err = y.err ∙ lines-twice err_a err_b x.entries y.entries x.err;
  }
  breaks-more true y = record {
    bytes = x.bytes ++ y.bytes;
    entries = x.entries ++ y.entries;
    last = y.last;
    advances = subst (Advances a c (x.bytes ++ y.bytes)) (sym (append_assoc x.entries y.entries (y.last ∷ [])))
        (advances-more a b c x.bytes y.bytes x.entries (y.entries ++ y.last ∷ []) x.advances y.advances);
    has_line = y.has_line;
    out = y.out ∙ twice out_a out_b x.bytes y.bytes x.out;
    err = subst (λ (o : Option (List ℕ)). AppendsFront o err_c (entry_line y.last)) (lines-twice err_a err_b x.entries y.entries x.err) y.err;
  }

-- ---- turns before the bound

-- a call completes one turn at most
pub one-turn : (out_of : Option Quota) (answer : Result Answer WriteFault) → turns_by out_of answer ≤ 1
one-turn out_of (Err fault) = omega arith
one-turn out_of (Ok answer) = by (unless_out out_of (not_rest answer))
  where
    by : (b : Bool) → (if b then 1 else 0) ≤ 1
    by true = omega arith
    by false = omega arith

-- no turn was taken
pub unreached-none : (bound : Option ℕ) (m : Machine) → Unreached bound m.turns m
unreached-none bound m n low high = absurd (omega (arith, low, high))

module _ (bound : Option ℕ) (from : ℕ) (a b : Machine) (runs : IsRun a) (before : Unreached bound from a) (now : is_reached bound a.state ≡ false) (few : b.turns ≤ a.turns + 1) where
  -- a turn more was taken, where the bound was not reached
  pub unreached-more : (bytes : List ℕ) (entries : List Entry) → Advances a b bytes entries → Unreached bound from b
  unreached-more bytes entries x n low high = ap (is_reached bound) (λ i. drawn_run (x.image i) (x.grant i) (x.lanes i) (x.seed i) n) ∙ ⊎_elim
      (λ (here : n ≡ a.turns). ap (is_reached bound) (ap (drawn_run a.image a.grant a.state.lanes a.seed) here ∙ sym runs) ∙ now)
      (λ (earlier : n < a.turns). before n low earlier)
      (eq-or-lt_of_le (omega (arith, few, high)))

  -- the same where a write failed
  pub unreached-broken : (on_err : Bool) (out_old out_new err_old err_new : Option (List ℕ)) → Breaks on_err a b out_old out_new err_old err_new → Unreached bound from b
  unreached-broken false out_old out_new err_old err_new broke = unreached-more broke.bytes broke.entries broke.advances
  unreached-broken true out_old out_new err_old err_new broke = unreached-more broke.bytes (broke.entries ++ broke.last ∷ []) broke.advances

-- ---- where the root runs out

-- where it had run out before, or has not now, there is nothing to say of the last turn
pub ran_out-none : (m : Machine) → RanOutSince m.state.out_of m
ran_out-none m none kind out = absurd (none-some kind (sym none ∙ out))

pub ran_out-rest : (before : Option Quota) (m : Machine) → AtRest m.state → RanOutSince before m
ran_out-rest before m rest none kind out = absurd (none-some kind (sym rest.not_out ∙ out))

-- what a turn tells of the root holds whatever was before
pub ran_out-turn : (before : Option Quota) (m : Machine) → RanOutSince None m → RanOutSince before m
ran_out-turn before m since none kind out = since refl kind out

-- ---- before a turn

-- where there is no stop the root has not run out, and the bound is not reached
pub goes-on : (bound : Option ℕ) (s : State) → stop_before bound s ≡ None → (s.out_of ≡ None) × (is_reached bound s ≡ false)
goes-on bound s none = by s.out_of (is_reached bound s) none
  where
    by : (o : Option Quota) (b : Bool) → stop_by o b s ≡ None → (o ≡ None) × (b ≡ false)
    by (Some kind) b e = absurd (none-some (stop.Spent kind (held s.sheet root kind)) (sym e))
    by None true e = absurd (none-some stop.Bound (sym e))
    by None false e = (refl, refl)
