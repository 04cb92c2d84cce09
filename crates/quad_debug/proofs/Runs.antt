-- Turns of a run, one after another.
use Rattle.std.proofs.Common.{◌≡◌, ℕ, zero, suc, ◌+◌, ◌*◌, ◌<◌, ◌≤◌, List, [], ◌∷◌, ◌++◌, Option, Some, None, Bool, true, false, if◌then◌else◌, refl, sym, ap, ◌∙◌, subst, inl, inr, ◌⊎◌, ⊎_elim, arith}
use Rattle.std.specs.Prelude.{not, ◌&&◌, ◌||◌, is_none}
use Rattle.std.proofs.Math.Nat.{eq-or-lt_of_le}
use Rattle.quad_memory.specs.Image.{RomImage}
use Rattle.instr_table.specs.declared.charge.Quota.{Quota}
use Rattle.vm_turn.specs.State.{State}
use Rattle.vm_turn.specs.Boot.{booted}
use Rattle.vm_turn.specs.Turn.{dispatchable, turn, unless_spent}
use Rattle.vm_turn.specs.Run.{after, completed, completes, drawn, drawn_after, not_rest, pick_of, picks, run, unless_out}
use Rattle.vm_turn.proofs.Runs.{after-append, picks-next}
use Rattle.vm_turn.proofs.RunsSound.{turns-end}
use Rattle.vm_machine.specs.Machine.{Machine, drawn_run}
use Rattle.vm_machine.specs.View.{unwritten}
use Rattle.quad_debug.specs.Obeys.{state_at, pick_at, turn_at, goes_on, is_empty, is_enough, TakesTurns, IsAfter}
use Rattle.quad_debug.specs.Parts.{Stands}
use Rattle.quad_debug.specs.Laws.{CommandsEnd}
use Rattle.quad_debug.proofs.Rests.{go-told}
use Rattle.quad_debug.proofs.Unwritten.{turn-unwritten}

-- a machine's state is that of its run
abbrev pub IsRun : Machine → Type 0
IsRun m = m.state ≡ state_at m m.turns

-- ---- one turn more

run-next : (image : RomImage) (grant : _) (lanes seed n : ℕ) → run image grant lanes (picks seed (suc n)) ≡ (turn (run image grant lanes (picks seed n)) (pick_of (drawn (drawn_after seed n)))).0
run-next image grant lanes seed n = ap (after (booted image grant lanes)) (picks-next seed n) ∙ after-append (booted image grant lanes) (picks seed n) (pick_of (drawn (drawn_after seed n)) ∷ [])

-- the state after one turn more is that of the turn behind
pub state-next : (m : Machine) (n : ℕ) → state_at m (suc n) ≡ unwritten (turn_at m n).0
state-next m n = ap unwritten (run-next m.image m.grant m.state.lanes m.seed n) ∙ (turn-unwritten (run m.image m.grant m.state.lanes (picks m.seed n)) (pick_at m n)).0

-- ---- machines of one run

pub after-none : (m : Machine) → Stands m → IsAfter m m 0
after-none m stands =
    let e : m.turns + 0 ≡ m.turns = omega arith in
    record { image = refl; grant = refl; lanes = refl; seed = refl; turns_are = sym e; state = stands.run ∙ ap (state_at m) (sym e); memory = stands.memory; same = λ none. refl }

module _ (a b : Machine) (i : ℕ) (x : IsAfter a b i) where
  pub same-state : (n : ℕ) → state_at b n ≡ state_at a n
  same-state n = λ k. drawn_run (x.image k) (x.grant k) (x.lanes k) (x.seed k) n

  -- what is said of a turn of the one is so of the other
  pub same-turn : {A : Type 0} (f : State → ℕ → A) (n : ℕ) → f (state_at b n) (pick_at b n) ≡ f (state_at a n) (pick_at a n)
  same-turn f n = λ k. f (drawn_run (x.image k) (x.grant k) (x.lanes k) (x.seed k) n) (pick_of (drawn (drawn_after (x.seed k) n)))

  pub after-then : (c : Machine) (j : ℕ) → IsAfter b c j → IsAfter a c (i + j)
  after-then c j y =
      let turns : b.turns + j ≡ a.turns + (i + j) = omega (arith, x.turns_are) in
      record {
        image = y.image ∙ x.image;
        grant = y.grant ∙ x.grant;
        lanes = y.lanes ∙ x.lanes;
        seed = y.seed ∙ x.seed;
        turns_are = y.turns_are ∙ turns;
        state = y.state ∙ same-state (b.turns + j) ∙ ap (state_at a) turns;
        memory = y.memory;
        same = λ none. y.same (omega (arith, none)) ∙ x.same (omega (arith, none));
      }

-- ---- turns end

-- whether there is a turn does not depend on the pick, nor on what was written
has_turn : State → Bool
has_turn s = unless_out s.out_of (not (is_empty s.flight && is_none (dispatchable s)))

completes-has : (s : State) (pick : ℕ) → completes s pick ≡ has_turn s
unfolding has_turn
completes-has s pick = by s.out_of
  where
    by : (o : Option Quota) → unless_out o (not_rest (unless_spent s pick o).1) ≡ unless_out o (not (is_empty s.flight && is_none (dispatchable s)))
    by (Some kind) = refl
    by None = go-told s pick (dispatchable s)

has-unwritten : (s : State) → has_turn (unwritten s) ≡ has_turn s
unfolding has_turn
has-unwritten s = refl

completed-more : (s : State) (ps : List ℕ) (p : ℕ) → completed s (ps ++ p ∷ []) ≡ completed s ps + (if completes (after s ps) p then 1 else 0)
completed-more s [] p = omega arith
completed-more s (q ∷ ps) p = let r = completed-more (turn s q).0 ps p in omega (arith, r)

module _ (m : Machine) where
  abbrev Went : ℕ → Type 0
  Went k = (j : ℕ) → j < k → goes_on m (m.turns + j) ≡ true

  raw : ℕ → State
  raw n = run m.image m.grant m.state.lanes (picks m.seed n)

  raw-goes : (n : ℕ) → goes_on m n ≡ true → completes (raw n) (pick_at m n) ≡ true
  unfolding raw
  raw-goes n h = completes-has (run m.image m.grant m.state.lanes (picks m.seed n)) (pick_at m n) ∙ sym (has-unwritten (run m.image m.grant m.state.lanes (picks m.seed n))) ∙ sym (completes-has (state_at m n) (pick_at m n)) ∙ h

  counted : (k : ℕ) → Went k → k ≤ completed (booted m.image m.grant m.state.lanes) (picks m.seed (m.turns + k))
  unfolding raw
  counted zero went = omega arith
  counted (suc k) went =
      let n = m.turns + k in
      let more : m.turns + suc k ≡ suc n = omega arith in
      let r = counted k (λ j h. went j (omega (arith, h))) in
      let one : ◌≡◌ {A = ℕ} (if completes (raw n) (pick_at m n) then 1 else 0) 1 = ap (λ (b : Bool). if b then 1 else 0) (raw-goes n (went k (omega arith))) in
      let all : completed (booted m.image m.grant m.state.lanes) (picks m.seed (suc n)) ≡ completed (booted m.image m.grant m.state.lanes) (picks m.seed n) + (if completes (raw n) (pick_at m n) then 1 else 0) =
      ap (completed (booted m.image m.grant m.state.lanes)) (picks-next m.seed n) ∙ completed-more (booted m.image m.grant m.state.lanes) (picks m.seed n) (pick_at m n) in
      subst (λ (x : ℕ). suc k ≤ completed (booted m.image m.grant m.state.lanes) (picks m.seed x)) (sym more) (omega (arith, r, one, all))

  -- there are no more turns than this
  abbrev bound : ℕ
  bound = m.grant.cycles + 2 * (m.grant.events + 1)

  few : (k : ℕ) → Went k → k ≤ bound
  few k went = let c = counted k went in let e = turns-end m.image m.grant m.state.lanes (picks m.seed (m.turns + k)) in omega (arith, c, e)

  module _ (enough : ℕ → Bool) where
    -- j turns were taken, and none of them was one too many
    abbrev pub Before : ℕ → Type 0
    Before j = (i : ℕ) → i < j → (enough i ≡ false) × (goes_on m (m.turns + i) ≡ true)

    pub before-none : Before 0
    before-none i h = absurd (omega (arith, h))

    pub before-more : (j : ℕ) → Before j → enough j ≡ false → goes_on m (m.turns + j) ≡ true → Before (suc j)
    before-more j b none goes i h = ⊎_elim
        (λ (here : i ≡ j). subst (λ (n : ℕ). (enough n ≡ false) × (goes_on m (m.turns + n) ≡ true)) (sym here) (none, goes))
        (λ (earlier : i < j). b i earlier)
        (eq-or-lt_of_le (omega (arith, h)))

    -- the turns that the command takes, from these on
    pub record Ends (j : ℕ) : Type 0 where
      pub turns : ℕ
      pub more : j ≤ turns
      pub takes : TakesTurns m enough turns

    search : (fuel j : ℕ) → Before j → Ends j ⊎ Before (fuel + j)
    search zero j b = inr (λ i h. b i (omega (arith, h)))
    search (suc fuel) j b = by (enough j) (goes_on m (m.turns + j)) refl refl (λ n g. search fuel (suc j) (before-more j b n g))
      where
        found : (enough j || not (goes_on m (m.turns + j))) ≡ true → Ends j
        found e = record { turns = j; more = omega arith; takes = record { before = b; at_end = e } }

        later : Ends (suc j) ⊎ Before (fuel + suc j) → Ends j ⊎ Before (suc fuel + j)
        later (inl x) = inl (record { turns = x.turns; more = (let h = x.more in omega (arith, h)); takes = x.takes })
        later (inr f) = inr (λ i h. f i (omega (arith, h)))

        by : (e g : Bool) → enough j ≡ e → goes_on m (m.turns + j) ≡ g → (enough j ≡ false → goes_on m (m.turns + j) ≡ true → Ends (suc j) ⊎ Before (fuel + suc j)) → Ends j ⊎ Before (suc fuel + j)
        by true g p q next = inl (found (ap (λ (x : Bool). x || not (goes_on m (m.turns + j))) p))
        by false true p q next = later (next p q)
        by false false p q next = inl (found (ap (λ (x : Bool). x || not (goes_on m (m.turns + j))) p ∙ ap not q))

    -- they come to an end
    pub ends : (j : ℕ) → Before j → Ends j
    ends j b = by (search (suc bound) j b)
      where
        by : Ends j ⊎ Before (suc bound + j) → Ends j
        by (inl x) = x
        by (inr f) = absurd (let n = few (suc bound + j) (λ i h. (f i h).1) in omega (arith, n))

-- ---- how many turns a command takes

true-false : true ≡ false → ⊥
true-false e = cc

-- neither of two numbers is less than the other
not-less : (m : Machine) (enough : ℕ → Bool) (j k : ℕ) → TakesTurns m enough j → TakesTurns m enough k → j < k → ⊥
not-less m enough j k a b less =
    let before = b.before j less in
    true-false (sym a.at_end ∙ ap (λ (x : Bool). x || not (goes_on m (m.turns + j))) before.0 ∙ ap not before.1)

pub commands-end : CommandsEnd
commands-end = record {
  some = λ m command run_is. let e = ends m (is_enough m command) 0 (before-none m (is_enough m command)) in (e.turns, e.takes);
  one = λ m command j k a b.
      let up = not-less m (is_enough m command) j k a b in
      let down = not-less m (is_enough m command) k j b a in
      omega (arith, up, down);
}
