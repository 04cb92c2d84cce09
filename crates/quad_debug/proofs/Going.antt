-- What turns of a command have written so far, and what is left where a write fails.
use Rattle.std.proofs.Common.{◌≡◌, ℕ, zero, suc, ◌+◌, ◌-◌, ◌*◌, ◌<◌, ◌≤◌, List, [], ◌++◌, length, take, drop, Option, Some, None, Bool, true, false, refl, sym, ap, ◌∙◌, subst, ⊎_elim, arith, append-nil, append_assoc, length-append}
use Rattle.std.specs.Prelude.{not, ◌||◌}
use Rattle.std.proofs.Math.Nat.{eq-or-lt_of_le}
use Rattle.std.proofs.lemmas.List.{take-append-le}
use Rattle.std.proofs.Math.Seq.{take-append-add}
use Rattle.hum_outside.specs.Outside.{AppendsFront, appended}
use Rattle.hum_outside.proofs.Fronts.{all_after}
use Rattle.vm_machine.specs.Machine.{Machine}
use Rattle.uasm_read.specs.Texts.{Bytes}
use Rattle.quad_debug.specs.Kept.{Debugged}
use Rattle.vm_turn.specs.State.{State}
use Rattle.vm_turn.specs.Turn.{turn}
use Rattle.vm_turn.specs.Run.{completes}
use Rattle.vm_turn.specs.declared.journal.Entry.{Entry}
use Rattle.quad_debug.specs.Texts.{event_lines}
use Rattle.quad_debug.specs.declared.wait.Wait.{Wait}
use Rattle.quad_debug.specs.declared.wait.Wait.TheVariants.{Entries, Message as ForMessage}
use Rattle.quad_debug.specs.Obeys.{goes_on, piece_at, entries_at, told_at, written_by, is_met, is_over, is_begun, met_at, IsAfter, whole, Took, Broke}
use Rattle.quad_debug.specs.Parts.{Stands, stands_in, no_text, TookTurn, BrokeTurn}
use Rattle.quad_debug.proofs.Runs.{after-none, after-then, same-turn, before-none, before-more, ends}

-- ---- fronts of what is written

-- what more turns write begins with what these do
pub record Begins (xs ys : Bytes) : Type 0 where
  pub rest : Bytes
  pub is : ys ≡ xs ++ rest

pub begins-same : (xs : Bytes) → Begins xs xs
begins-same xs = record { rest = []; is = sym (append-nil xs) }

pub begins-then : (xs ys zs : Bytes) → Begins xs ys → Begins ys zs → Begins xs zs
begins-then xs ys zs a b = record { rest = a.rest ++ b.rest; is = b.is ∙ ap (λ l. l ++ b.rest) a.is ∙ append_assoc xs a.rest b.rest }

pub begins-with : (xs ys : Bytes) → Begins xs (xs ++ ys)
begins-with xs ys = record { rest = ys; is = refl }

begins-length : (xs ys : Bytes) → Begins xs ys → length xs ≤ length ys
begins-length xs ys b = let e = ap length b.is in let n = length-append xs b.rest in omega (arith, e, n)

module _ (text : ℕ → Bytes) (n : ℕ) where
  written-begins : (j k : ℕ) → j ≤ k → Begins (written_by text n j) (written_by text n k)
  written-begins j zero h =
      let e : j ≡ 0 = omega (arith, h) in
      subst (λ (i : ℕ). Begins (written_by text n i) []) (sym e) (begins-same [])
  written-begins j (suc k) h = ⊎_elim
      (λ (here : j ≡ suc k). subst (λ (i : ℕ). Begins (written_by text n i) (written_by text n (suc k))) (sym here) (begins-same (written_by text n (suc k))))
      (λ (earlier : j < suc k).
      begins-then (written_by text n j) (written_by text n k) (written_by text n (suc k)) (written-begins j k (omega (arith, earlier))) (begins-with (written_by text n k) (text (n + k))))
      (eq-or-lt_of_le h)

pub appended-none : (o : Option Bytes) → o ≡ appended o []
appended-none None = refl
appended-none (Some bytes) = ap Some (sym (append-nil bytes))

-- ---- turns so far

module _ (enough : ℕ → Bool) (text : ℕ → Bytes) (old now : Debugged) (out_old out_now : Option Bytes) where
  -- so many turns were taken, none of which was one too many, and wrote their texts
  pub record Goes : Type 0 where
    pub turns : ℕ
    pub before : (i : ℕ) → i < turns → (enough i ≡ false) × (goes_on old.machine (old.machine.turns + i) ≡ true)
    pub machine : IsAfter old.machine now.machine turns
    pub began : now.began ≡ old.began
    pub out : out_now ≡ appended out_old (written_by text old.machine.turns turns)

  -- they were all
  pub goes-ends : (g : Goes) → (enough g.turns || not (goes_on old.machine (old.machine.turns + g.turns))) ≡ true → Took enough text no_text old now out_old out_now
  goes-ends g e = record {
    turns = g.turns;
    takes = record { before = g.before; at_end = e };
    machine = g.machine;
    began = g.began;
    out = g.out ∙ ap (appended out_old) (sym (append-nil (written_by text old.machine.turns g.turns)));
  }

-- so many were taken
pub record GoesFor (n : ℕ) (enough : ℕ → Bool) (text : ℕ → Bytes) (old now : Debugged) (out_old out_now : Option Bytes) : Type 0 where
  pub goes : Goes enough text old now out_old out_now
  pub counted : goes.turns ≡ n

pub goes-none : (enough : ℕ → Bool) (text : ℕ → Bytes) (d : Debugged) (out : Option Bytes) → Stands d.machine → Goes enough text d d out out
goes-none enough text d out stands = record {
  turns = 0;
  before = before-none d.machine enough;
  machine = after-none d.machine stands;
  began = refl;
  out = appended-none out;
}

-- one turn more
pub goes-more : (enough : ℕ → Bool) (text : ℕ → Bytes) (old now next : Debugged) (out_old out_now out_next : Option Bytes) → (g : Goes enough text old now out_old out_now) → enough g.turns ≡ false
    → goes_on old.machine (old.machine.turns + g.turns) ≡ true → IsAfter now.machine next.machine 1 → next.began ≡ now.began → out_next ≡ appended out_now (text (old.machine.turns + g.turns)) → Goes enough text old next out_old out_next
goes-more enough text old now next out_old out_now out_next g none goes machine began out =
    let one : g.turns + 1 ≡ suc g.turns = omega arith in
    record {
      turns = suc g.turns;
      before = before-more old.machine enough g.turns g.before none goes;
      machine = subst (IsAfter old.machine next.machine) one (after-then old.machine now.machine g.turns g.machine next.machine 1 machine);
      began = began ∙ g.began;
      out = all_after out_old out_now out_next (written_by text old.machine.turns g.turns) (text (old.machine.turns + g.turns)) g.out out;
    }

-- ---- a write that failed

-- each turn writes what its device does, and maybe more
abbrev pub Holds : Machine → (ℕ → Bytes) → Type 0
Holds m text = (n : ℕ) → Begins (piece_at m n) (text n)

module _ (enough : ℕ → Bool) (text last : ℕ → Bytes) (old now : Debugged) (out_old out_now : Option Bytes) (holds : Holds old.machine text) where
  abbrev so_far : ℕ → Bytes
  so_far j = written_by text old.machine.turns j

  -- what the device writes in an earlier turn is there
  earlier : (j i : ℕ) → i < j → length (so_far i ++ piece_at old.machine (old.machine.turns + i)) ≤ length (so_far j)
  earlier j i h =
      let h0 = holds (old.machine.turns + i) in
      let one : Begins (so_far i ++ piece_at old.machine (old.machine.turns + i)) (so_far (suc i)) =
      record { rest = h0.rest; is = ap (λ l. so_far i ++ l) h0.is ∙ sym (append_assoc (so_far i) (piece_at old.machine (old.machine.turns + i)) h0.rest) } in
      begins-length (so_far i ++ piece_at old.machine (old.machine.turns + i)) (so_far j)
      (begins-then (so_far i ++ piece_at old.machine (old.machine.turns + i)) (so_far (suc i)) (so_far j) one (written-begins text old.machine.turns (suc i) j (omega (arith, h))))

  -- a front of what j + 1 turns write is one of the whole
  front-whole : (j k count : ℕ) → suc j ≤ k → count ≤ length (so_far (suc j)) → (take count (whole enough text last old now out_old out_now k) ≡ take count (so_far (suc j))) × (count ≤ length (whole enough text last old now out_old out_now k))
  front-whole j k count more within =
      let b = begins-then (so_far (suc j)) (so_far k) (so_far k ++ last k) (written-begins text old.machine.turns (suc j) k more) (begins-with (so_far k) (last k)) in
      let n = begins-length (so_far (suc j)) (so_far k ++ last k) b in
      (ap (take count) b.is ∙ take-append-le count (so_far (suc j)) b.rest within, omega (arith, n, within))

  -- the device of the turn behind j turns could not write
  pub broke-device : (g : Goes enough text old now out_old out_now) (out_bad : Option Bytes) → enough g.turns ≡ false → goes_on old.machine (old.machine.turns + g.turns) ≡ true
      → AppendsFront out_now out_bad (piece_at old.machine (old.machine.turns + g.turns)) → Broke enough text last old now out_old out_bad
  broke-device g out_bad none goes front =
      let j = g.turns in
      let e = ends old.machine enough (suc j) (before-more old.machine enough j g.before none goes) in
      let h = holds (old.machine.turns + j) in
      let count = length (so_far j) + front.count in
      let piece = piece_at old.machine (old.machine.turns + j) in
      let at : length (so_far j ++ piece) ≡ length (so_far j) + length piece = length-append (so_far j) piece in
      let under : count ≤ length (so_far j ++ piece) = (let w = front.within in omega (arith, at, w)) in
      let top = earlier (suc j) j (omega arith) in
      let fw = front-whole j e.turns count e.more (omega (arith, under, top)) in
      let cut : take count (so_far (suc j)) ≡ so_far j ++ take front.count piece =
      take-append-add (so_far j) (text (old.machine.turns + j)) front.count ∙ ap (λ l. so_far j ++ l) (ap (take front.count) h.is ∙ take-append-le front.count piece h.rest front.within) in
      record {
        turns = e.turns;
        takes = e.takes;
        completed = j;
        within = (let m = e.more in omega (arith, m));
        machine = g.machine;
        began = g.began;
        count = count;
        count_within = fw.1;
        out = all_after out_old out_now out_bad (so_far j) (take front.count piece) g.out front.front ∙ ap (appended out_old) (sym (fw.0 ∙ cut));
        wrote = λ i lt. (let x = earlier j i lt in omega (arith, x));
        no_more = λ lt. under;
      }

  -- the line of an entry of the turn behind j turns could not be written
  pub broke-line : (g : Goes enough text old now out_old out_now) (next : Debugged) (out_next out_bad : Option Bytes) (line : Bytes) → enough g.turns ≡ false → goes_on old.machine (old.machine.turns + g.turns) ≡ true
      → IsAfter now.machine next.machine 1 → next.began ≡ now.began → out_next ≡ appended out_now (piece_at old.machine (old.machine.turns + g.turns)) → text (old.machine.turns + g.turns) ≡ piece_at old.machine (old.machine.turns + g.turns) ++ line
      → AppendsFront out_next out_bad line → Broke enough text last old next out_old out_bad
  broke-line g next out_next out_bad line none goes machine began out text_is front =
      let j = g.turns in
      let piece = piece_at old.machine (old.machine.turns + j) in
      let e = ends old.machine enough (suc j) (before-more old.machine enough j g.before none goes) in
      let count = length (so_far j ++ piece) + front.count in
      let joined : so_far (suc j) ≡ (so_far j ++ piece) ++ line = ap (λ l. so_far j ++ l) text_is ∙ sym (append_assoc (so_far j) piece line) in
      let size : length (so_far (suc j)) ≡ length (so_far j ++ piece) + length line = ap length joined ∙ length-append (so_far j ++ piece) line in
      let under : count ≤ length (so_far (suc j)) = (let w = front.within in omega (arith, size, w)) in
      let fw = front-whole j e.turns count e.more under in
      let cut : take count (so_far (suc j)) ≡ (so_far j ++ piece) ++ take front.count line = ap (take count) joined ∙ take-append-add (so_far j ++ piece) line front.count in
      let device : out_next ≡ appended out_old (so_far j ++ piece) = all_after out_old out_now out_next (so_far j) piece g.out out in
      let one : j + 1 ≡ suc j = omega arith in
      record {
        turns = e.turns;
        takes = e.takes;
        completed = suc j;
        within = e.more;
        machine = subst (IsAfter old.machine next.machine) one (after-then old.machine now.machine j g.machine next.machine 1 machine);
        began = began ∙ g.began;
        count = count;
        count_within = fw.1;
        out = all_after out_old out_next out_bad (so_far j ++ piece) (take front.count line) device front.front ∙ ap (appended out_old) (sym (fw.0 ∙ cut));
        wrote = λ i lt. ⊎_elim
            (λ (here : i ≡ j). subst (λ (x : ℕ). length (so_far x ++ piece_at old.machine (old.machine.turns + x)) ≤ count) (sym here) (let c : length (so_far j ++ piece) ≤ count = omega arith in c))
            (λ (before : i < j). (let x = earlier j i before in let y = length-append (so_far j) piece in omega (arith, x, y)))
            (eq-or-lt_of_le (omega (arith, lt)));
        no_more = λ lt. (let y = length-append (so_far (suc j)) (piece_at old.machine (old.machine.turns + suc j)) in omega (arith, under, y));
      }

  -- all turns were taken, and what comes behind could not be written
  pub broke-last : (t : Took enough text no_text old now out_old out_now) (out_bad : Option Bytes) → AppendsFront out_now out_bad (last t.turns) → Broke enough text last old now out_old out_bad
  broke-last t out_bad front =
      let k = t.turns in
      let count = length (so_far k) + front.count in
      let all : out_now ≡ appended out_old (so_far k) = t.out ∙ ap (appended out_old) (append-nil (so_far k)) in
      record {
        turns = k;
        takes = t.takes;
        completed = k;
        within = omega arith;
        machine = t.machine;
        began = t.began;
        count = count;
        count_within = (let n = length-append (so_far k) (last k) in let w = front.within in omega (arith, n, w));
        out = all_after out_old out_now out_bad (so_far k) (take front.count (last k)) all front.front ∙ ap (appended out_old) (sym (take-append-add (so_far k) (last k) front.count));
        wrote = λ i lt. (let x = earlier k i lt in omega (arith, x));
        no_more = λ lt. absurd (omega (arith, lt));
      }

  -- all turns were taken, and what comes behind was written
  pub took-last : (t : Took enough text no_text old now out_old out_now) (out_new : Option Bytes) → out_new ≡ appended out_now (last t.turns) → Took enough text last old now out_old out_new
  took-last t out_new written =
      let all : out_now ≡ appended out_old (so_far t.turns) = t.out ∙ ap (appended out_old) (append-nil (so_far t.turns)) in
      record {
        turns = t.turns;
        takes = t.takes;
        machine = t.machine;
        began = t.began;
        out = all_after out_old out_now out_new (so_far t.turns) (last t.turns) all written;
      }

  -- what was broken off without what comes behind was broken off with it
  pub broke-more : Broke enough text no_text old now out_old out_now → Broke enough text last old now out_old out_now
  broke-more b =
      let k = b.turns in
      let same : length (so_far k ++ []) ≡ length (so_far k) = ap length (append-nil (so_far k)) in
      let c = b.count_within in
      let under : b.count ≤ length (so_far k) = omega (arith, same, c) in
      let front : take b.count (so_far k ++ []) ≡ take b.count (so_far k ++ last k) = ap (take b.count) (append-nil (so_far k)) ∙ sym (take-append-le b.count (so_far k) (last k) under) in
      record {
        turns = k;
        takes = b.takes;
        completed = b.completed;
        within = b.within;
        machine = b.machine;
        began = b.began;
        count = b.count;
        count_within = (let n = length-append (so_far k) (last k) in omega (arith, n, under));
        out = b.out ∙ ap (appended out_old) front;
        wrote = b.wrote;
        no_more = b.no_more;
      }

-- a command that takes no turn
pub took-none : (enough : ℕ → Bool) (text last : ℕ → Bytes) (d : Debugged) (out_old out_new : Option Bytes) → Stands d.machine → enough 0 ≡ true → out_new ≡ appended out_old (last 0) → Took enough text last d d out_old out_new
took-none enough text last d out_old out_new stands e written =
    record {
      turns = 0;
      takes = record { before = before-none d.machine enough; at_end = ap (λ (b : Bool). b || not (goes_on d.machine (d.machine.turns + 0))) e };
      machine = after-none d.machine stands;
      began = refl;
      out = written;
    }

pub broke-none : (enough : ℕ → Bool) (text last : ℕ → Bytes) (d : Debugged) (out_old out_new : Option Bytes) → Stands d.machine → enough 0 ≡ true → AppendsFront out_old out_new (last 0) → Broke enough text last d d out_old out_new
broke-none enough text last d out_old out_new stands e front =
    record {
      turns = 0;
      takes = record { before = before-none d.machine enough; at_end = ap (λ (b : Bool). b || not (goes_on d.machine (d.machine.turns + 0))) e };
      completed = 0;
      within = omega arith;
      machine = after-none d.machine stands;
      began = refl;
      count = front.count;
      count_within = front.within;
      out = front.front;
      wrote = λ i lt. absurd (omega (arith, lt));
      no_more = λ lt. absurd (omega (arith, lt));
    }

-- ---- turns of a debugger

module _ (enough : ℕ → Bool) (text : ℕ → Bytes) (old now : Debugged) (out_old out_now : Option Bytes) (g : Goes enough text old now out_old out_now) where
  was-on : goes_on now.machine now.machine.turns ≡ goes_on old.machine (old.machine.turns + g.turns)
  was-on = same-turn old.machine now.machine g.turns g.machine completes now.machine.turns ∙ ap (goes_on old.machine) g.machine.turns_are

  was-piece : piece_at now.machine now.machine.turns ≡ piece_at old.machine (old.machine.turns + g.turns)
  was-piece = same-turn old.machine now.machine g.turns g.machine (λ (s : State) (p : ℕ). (turn s p).0.output) now.machine.turns ∙ ap (piece_at old.machine) g.machine.turns_are

  was-entries : entries_at now.machine now.machine.turns ≡ entries_at old.machine (old.machine.turns + g.turns)
  was-entries = same-turn old.machine now.machine g.turns g.machine (λ (s : State) (p : ℕ). drop (length s.journal) (turn s p).0.journal) now.machine.turns ∙ ap (entries_at old.machine) g.machine.turns_are

  -- what holds of the machine's state holds of that of the run
  pub met-now : (wait : Wait) (b : Bool) → is_met wait now.machine.state ≡ b → met_at old.machine wait g.turns ≡ b
  met-now wait b h = ap (is_met wait) (sym g.machine.state) ∙ h

  module _ (next : Debugged) (out_next : Option Bytes) where
    -- a turn was taken, and its device's bytes are all that it writes
    pub goes-silent : text (old.machine.turns + g.turns) ≡ piece_at old.machine (old.machine.turns + g.turns) → enough g.turns ≡ false → TookTurn now next out_now out_next true → Goes enough text old next out_old out_next
    goes-silent is none t =
        goes-more enough text old now next out_old out_now out_next g none (sym was-on ∙ t.was) t.machine t.began
        (t.out ∙ ap (appended out_now) (was-piece ∙ sym is))

    -- there was none
    pub goes-still : TookTurn now next out_now out_next false → Goes enough text old next out_old out_next
    goes-still t =
        let none : g.turns + 0 ≡ g.turns = omega arith in
        record {
          turns = g.turns;
          before = g.before;
          machine = subst (IsAfter old.machine next.machine) none (after-then old.machine now.machine g.turns g.machine next.machine 0 t.machine);
          began = t.began ∙ g.began;
          out = t.out ∙ sym (appended-none out_now) ∙ g.out;
        }

    -- so they were all
    pub took-all : TookTurn now next out_now out_next false → Took enough text no_text old next out_old out_next
    unfolding goes-still
    took-all t =
        goes-ends enough text old next out_old out_next (goes-still t)
        (ap (λ (b : Bool). enough g.turns || not b) (sym was-on ∙ t.was) ∙ or-true (enough g.turns))
      where
        or-true : (b : Bool) → (b || true) ≡ true
        or-true true = refl
        or-true false = refl

    -- a turn was taken, and the lines of its entries were written
    pub goes-told : (out_lines : Option Bytes) (lines : List Entry) → text (old.machine.turns + g.turns) ≡ told_at old.machine (old.machine.turns + g.turns) → enough g.turns ≡ false
        → TookTurn now next out_now out_next true → lines ≡ entries_at now.machine now.machine.turns → out_lines ≡ appended out_next (event_lines lines) → Goes enough text old next out_old out_lines
    goes-told out_lines lines is none t added written =
        let n = old.machine.turns + g.turns in
        let piece : out_next ≡ appended out_now (piece_at old.machine n) = t.out ∙ ap (appended out_now) was-piece in
        let more : out_lines ≡ appended out_next (event_lines (entries_at old.machine n)) = written ∙ ap (λ (es : List Entry). appended out_next (event_lines es)) (added ∙ was-entries) in
        goes-more enough text old now next out_old out_now out_lines g none (sym was-on ∙ t.was) t.machine t.began
        (all_after out_now out_next out_lines (piece_at old.machine n) (event_lines (entries_at old.machine n)) piece more ∙ ap (appended out_now) (sym is))

    -- the device could not write
    pub device-breaks : (last : ℕ → Bytes) → Holds old.machine text → enough g.turns ≡ false → BrokeTurn now next out_now out_next → Broke enough text last old next out_old out_next
    device-breaks last holds none b =
        subst (λ (d : Debugged). Broke enough text last old d out_old out_next) (sym b.same)
        (broke-device enough text last old now out_old out_now holds g out_next none (sym was-on ∙ b.was) (subst (AppendsFront out_now out_next) was-piece b.out))

    -- a line could not be written
    pub line-breaks : (last : ℕ → Bytes) (out_bad : Option Bytes) (lines : List Entry) → Holds old.machine text → text (old.machine.turns + g.turns) ≡ told_at old.machine (old.machine.turns + g.turns) → enough g.turns ≡ false
        → TookTurn now next out_now out_next true → lines ≡ entries_at now.machine now.machine.turns → AppendsFront out_next out_bad (event_lines lines) → Broke enough text last old next out_old out_bad
    line-breaks last out_bad lines holds is none t added front =
        let n = old.machine.turns + g.turns in
        broke-line enough text last old now out_old out_now holds g next out_next out_bad (event_lines (entries_at old.machine n)) none (sym was-on ∙ t.was) t.machine t.began
        (t.out ∙ ap (appended out_now) was-piece) is (subst (λ (es : List Entry). AppendsFront out_next out_bad (event_lines es)) (added ∙ was-entries) front)

-- turns that are counted
pub counted-none : (enough : ℕ → Bool) (text : ℕ → Bytes) (d : Debugged) (out : Option Bytes) → Stands d.machine → GoesFor 0 enough text d d out out
unfolding goes-none
counted-none enough text d out stands = record { goes = goes-none enough text d out stands; counted = refl }

pub counted-more : (k : ℕ) (enough : ℕ → Bool) (old now next : Debugged) (out_old out_now out_next : Option Bytes) → (f : GoesFor k enough (piece_at old.machine) old now out_old out_now) → enough f.goes.turns ≡ false
    → TookTurn now next out_now out_next true → GoesFor (k + 1) enough (piece_at old.machine) old next out_old out_next
unfolding goes-silent goes-more
counted-more k enough old now next out_old out_now out_next f none took =
    let e : suc f.goes.turns ≡ k + 1 = omega (arith, f.counted) in
    record { goes = goes-silent enough (piece_at old.machine) old now out_old out_now f.goes next out_next refl none took; counted = e }

-- ---- what is waited for

pub not-met : (wait : Wait) (s : State) → is_over wait s.journal ≡ false → is_begun wait s.flight ≡ false → is_met wait s ≡ false
not-met wait s o b = ap (λ (x : Bool). x || is_begun wait s.flight) o ∙ b

pub over-met : (wait : Wait) (s : State) → is_over wait s.journal ≡ true → is_met wait s ≡ true
over-met wait s o = ap (λ (x : Bool). x || is_begun wait s.flight) o

pub begun-met : (wait : Wait) (s : State) → is_over wait s.journal ≡ false → is_begun wait s.flight ≡ true → is_met wait s ≡ true
begun-met wait s o b = ap (λ (x : Bool). x || is_begun wait s.flight) o ∙ b

pub stands-none : (wait : Wait) → stands_in wait [] ≡ false
stands-none (Entries count) = refl
stands-none (ForMessage message) = refl

pub over-stands : (wait : Wait) (journal : List Entry) → is_over wait journal ≡ false → stands_in wait journal ≡ false
over-stands (Entries count) journal h = refl
over-stands (ForMessage message) journal h = h

-- each turn's text begins with what its device writes
pub silent-holds : (m : Machine) → Holds m (piece_at m)
silent-holds m n = begins-same (piece_at m n)

pub told-holds : (m : Machine) → Holds m (told_at m)
told-holds m n = begins-with (piece_at m n) (event_lines (entries_at m n))

-- turns come to an end
pub turns-fewer : (a b : Machine) → IsAfter a b 1 → b.turns ≤ b.grant.cycles + 2 * (b.grant.events + 1) → b.grant.cycles + 2 * (b.grant.events + 1) - b.turns < a.grant.cycles + 2 * (a.grant.events + 1) - a.turns
turns-fewer a b x top =
    let c : b.grant.cycles ≡ a.grant.cycles = ap (λ g. g.cycles) x.grant in
    let e : b.grant.events ≡ a.grant.events = ap (λ g. g.events) x.grant in
    let t = x.turns_are in
    omega (arith, top, c, e, t)
