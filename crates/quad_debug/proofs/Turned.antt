-- One turn of a debugger's machine.
use Rattle.std.proofs.Common.{◌≡◌, ℕ, suc, ◌+◌, ◌≤◌, List, [], ◌∷◌, ◌++◌, length, take, drop, Option, Ok, Err, Bool, true, false, if◌then◌else◌, nat_lt, refl, sym, ap, ◌∙◌, subst, arith, append-nil, length-append}
use Rattle.std.proofs.lemmas.Bool.Decides.{nat_tests}
use Rattle.std.proofs.lemmas.List.{take-append-le}
use Rattle.hum_outside.specs.Outside.{AppendsFront, appended}
use Rattle.vm_devices.specs.declared.delivery.WriteFault.{WriteFault}
use Rattle.vm_turn.specs.declared.journal.Entry.{Entry}
use Rattle.vm_turn.specs.declared.journal.Turn.{Turn as Answer}
use Rattle.vm_turn.specs.State.{State}
use Rattle.vm_turn.specs.Turn.{turn}
use Rattle.vm_turn.specs.Run.{completes, not_rest, unless_out}
use Rattle.vm_machine.specs.Machine.{Machine, turns_by}
use Rattle.vm_machine.specs.Turns.{Takes, Quiet}
use Rattle.vm_machine.specs.View.{unwritten}
use Rattle.uasm_read.specs.Texts.{Bytes}
use Rattle.quad_debug.specs.Kept.{Debugged}
use Rattle.quad_debug.specs.Obeys.{state_at, pick_at, turn_at, goes_on, piece_at, entries_at, HoldsState, IsAfter}
use Rattle.quad_debug.specs.Parts.{if_more, one_if, TookTurn, BrokeTurn}
use Rattle.quad_debug.proofs.Journals.{turn-extends}
use Rattle.quad_debug.proofs.Rests.{turn-still}
use Rattle.quad_debug.proofs.Runs.{IsRun, state-next}

true-false : true ≡ false → ⊥
true-false e = cc

module _ (old new : Machine) (run_is : IsRun old) where
  abbrev pick : ℕ
  pick = pick_at old old.turns

  -- the turn that the machine takes is that of its run
  same : turn old.state pick ≡ turn_at old old.turns
  same = ap (λ (s : State). turn s pick) run_is

  goes : completes old.state pick ≡ goes_on old old.turns
  goes = ap (λ (s : State). completes s pick) run_is

  -- where there is none nothing is written
  pub quiet : goes_on old old.turns ≡ false → (turn old.state pick).0.output ≡ []
  quiet none = ap (λ (s : State). s.output) (turn-still old.state pick (goes ∙ none) ∙ run_is)

  module _ (a : Answer) (out_old out_new : Option Bytes) (image : new.image ≡ old.image) (grant : new.grant ≡ old.grant) (lanes : new.state.lanes ≡ old.state.lanes) (seed : new.seed ≡ old.seed)
      (turns : new.turns ≡ old.turns + turns_by old.state.out_of (Ok a)) (takes : Takes (turn old.state pick) (Ok a) old.state new.state out_old out_new)
      (unchanged : turns_by old.state.out_of (Ok a) ≡ 0 → new ≡ old) where
    told : unless_out old.state.out_of (not_rest a) ≡ goes_on old old.turns
    told = ap (λ (x : Answer). unless_out old.state.out_of (not_rest x)) takes.1 ∙ goes

    counted : new.turns ≡ old.turns + (if goes_on old old.turns then 1 else 0)
    counted = turns ∙ ap (λ (b : Bool). old.turns + (if b then 1 else 0)) told

    pub after-turn : HoldsState new → (b : Bool) → goes_on old old.turns ≡ b → IsAfter old new (one_if b)
    after-turn holds true h = record {
      image = image;
      grant = grant;
      lanes = lanes;
      seed = seed;
      turns_are = counted ∙ ap (λ (x : Bool). old.turns + (if x then 1 else 0)) h;
      state = takes.0 ∙ ap (λ (x : State × Answer). unwritten x.0) same ∙ sym (state-next old old.turns) ∙ (let e : suc old.turns ≡ old.turns + 1 = omega arith in ap (state_at old) e);
      memory = holds;
      same = λ none. absurd (omega (arith, none));
    }
    after-turn holds false h = record {
      image = image;
      grant = grant;
      lanes = lanes;
      seed = seed;
      turns_are = counted ∙ ap (λ (x : Bool). old.turns + (if x then 1 else 0)) h;
      state = takes.0 ∙ ap unwritten (turn-still old.state pick (goes ∙ h) ∙ run_is) ∙ (let e : old.turns ≡ old.turns + 0 = omega arith in ap (state_at old) e);
      memory = holds;
      same = λ none. unchanged (ap (λ (x : Bool). if x then 1 else 0) (told ∙ h));
    }

    pub journal-turn : (b : Bool) → goes_on old old.turns ≡ b → new.state.journal ≡ old.state.journal ++ if_more b (entries_at old old.turns)
    journal-turn true h =
        ap (λ (s : State). s.journal) takes.0 ∙ ap (λ (x : State × Answer). x.0.journal) same ∙ turn-extends (state_at old old.turns) pick
        ∙ ap (λ (s : State). s.journal ++ entries_at old old.turns) (sym run_is)
    journal-turn false h = ap (λ (s : State). s.journal) takes.0 ∙ ap (λ (s : State). s.journal) (turn-still old.state pick (goes ∙ h)) ∙ sym (append-nil old.state.journal)

    pub out-turn : (b : Bool) → goes_on old old.turns ≡ b → out_new ≡ appended out_old (if_more b (piece_at old old.turns))
    out-turn true h = takes.2 ∙ ap (λ (x : State × Answer). appended out_old x.0.output) same
    out-turn false h = takes.2 ∙ ap (appended out_old) (quiet h)

    -- the count of turns tells whether there was one
    pub told-turn : nat_lt old.turns new.turns ≡ goes_on old old.turns
    told-turn = by (goes_on old old.turns) counted
      where
        by : (b : Bool) → new.turns ≡ old.turns + (if b then 1 else 0) → nat_lt old.turns new.turns ≡ b
        by true e = grind (arith, nat_tests, e)
        by false e = grind (arith, nat_tests, e)

-- a debugger's machine took a turn, or there was none
pub took-turn : (old new : Debugged) (a : Answer) (out_old out_new : Option Bytes) → IsRun old.machine → HoldsState new.machine → new.machine.image ≡ old.machine.image → new.machine.grant ≡ old.machine.grant → new.machine.state.lanes ≡ old.machine.state.lanes → new.machine.seed ≡ old.machine.seed
    → new.machine.turns ≡ old.machine.turns + turns_by old.machine.state.out_of (Ok a) → Takes (turn old.machine.state (pick_at old.machine old.machine.turns)) (Ok a) old.machine.state new.machine.state out_old out_new → (turns_by old.machine.state.out_of (Ok a) ≡ 0 → new.machine ≡ old.machine) → new.began ≡ old.began
    → (more : Bool) → more ≡ nat_lt old.machine.turns new.machine.turns → TookTurn old new out_old out_new more
took-turn old new a out_old out_new run_is holds image grant lanes seed turns takes unchanged began more is =
    let was : goes_on old.machine old.machine.turns ≡ more = sym (is ∙ told-turn old.machine new.machine run_is a out_old out_new image grant lanes seed turns takes unchanged) in
    record {
      was = was;
      machine = after-turn old.machine new.machine run_is a out_old out_new image grant lanes seed turns takes unchanged holds more was;
      began = began;
      journal = journal-turn old.machine new.machine run_is a out_old out_new image grant lanes seed turns takes unchanged more was;
      out = out-turn old.machine new.machine run_is a out_old out_new image grant lanes seed turns takes unchanged more was;
    }

-- its device could not write
pub broke-turn : (old new : Debugged) (fault : WriteFault) (out_old out_new : Option Bytes) (m n : ℕ) → IsRun old.machine → new ≡ old
    → Takes (turn old.machine.state (pick_at old.machine old.machine.turns)) (Err fault) old.machine.state new.machine.state out_old out_new
    → Quiet (turn old.machine.state (pick_at old.machine old.machine.turns)) (Err fault) out_old out_new m n → BrokeTurn old new out_old out_new
broke-turn old new fault out_old out_new m n run_is same_debugger takes calm = record {
  was = by (goes_on old.machine old.machine.turns) refl;
  same = same_debugger;
  out = subst (λ (s : State). AppendsFront out_old out_new (turn s (pick_at old.machine old.machine.turns)).0.output) run_is takes.1;
}
  where
    by : (b : Bool) → goes_on old.machine old.machine.turns ≡ b → goes_on old.machine old.machine.turns ≡ true
    by true h = h
    by false h = absurd (true-false (sym (calm (quiet old.machine new.machine run_is h)).0))

drop-front : (xs ys : List Entry) → drop (length xs) (xs ++ ys) ≡ ys
drop-front [] ys = refl
drop-front (x ∷ xs) ys = drop-front xs ys

-- the journal grew by what stands behind
pub extended : (old new : Debugged) (out_old out_new : Option Bytes) (more : Bool) → TookTurn old new out_old out_new more
    → new.machine.state.journal ≡ old.machine.state.journal ++ drop (length old.machine.state.journal) new.machine.state.journal
extended old new out_old out_new more t =
    let before = old.machine.state.journal in
    let added = if_more more (entries_at old.machine old.machine.turns) in
    t.journal ∙ ap (λ (es : List Entry). before ++ es) (sym (ap (drop (length before)) t.journal ∙ drop-front before added))

pub grows : (old new : Debugged) (out_old out_new : Option Bytes) (more : Bool) → TookTurn old new out_old out_new more → length old.machine.state.journal ≤ length new.machine.state.journal
grows old new out_old out_new more t =
    let n = ap length t.journal in
    let l = length-append old.machine.state.journal (if_more more (entries_at old.machine old.machine.turns)) in
    omega (arith, n, l)

-- what stands behind is what the turn adds
pub added-entries : (old new : Debugged) (out_old out_new : Option Bytes) → TookTurn old new out_old out_new true → drop (length old.machine.state.journal) new.machine.state.journal ≡ entries_at old.machine old.machine.turns
added-entries old new out_old out_new t = ap (drop (length old.machine.state.journal)) t.journal ∙ drop-front old.machine.state.journal (entries_at old.machine old.machine.turns)

take_all : (xs : List Entry) → take (length xs) xs ≡ xs
take_all [] = refl
take_all (x ∷ xs) = ap (λ (ys : List Entry). x ∷ ys) (take_all xs)

-- what stands in front is what was there
pub front-journal : (old new : Debugged) (out_old out_new : Option Bytes) (more : Bool) → TookTurn old new out_old out_new more → take (length old.machine.state.journal) new.machine.state.journal ≡ old.machine.state.journal
front-journal old new out_old out_new more t =
    let before = old.machine.state.journal in
    ap (take (length before)) t.journal ∙ take-append-le (length before) before (if_more more (entries_at old.machine old.machine.turns)) (omega arith) ∙ take_all before
