-- What a commit hands on.
use Rattle.std.proofs.Common.{◌≡◌, inl, inr, ℕ, ◌%◌, Bool, true, false, List, ◌∷◌, ◌++◌, length, Option, Some, None, refl, sym, ap, subst, ◌∙◌}
use Rattle.std.specs.Prelude.{slice_get}
use Rattle.cap_words.specs.Words.{W}
use Rattle.cap_words.specs.Seen.{Slot}
use Rattle.cap_words.specs.Frame.{Among}
use Rattle.instr_table.specs.Lists.{next_quad}
use Rattle.instr_table.specs.Event.{Behaviour}
use Rattle.instr_table.specs.Sheet.{Account, spend}
use Rattle.instr_table.specs.Lane.{Lane, values, lane_row}
use Rattle.instr_table.specs.Authority.{created_words, sent_words, behaviour_words, effects_words, lane_words}
use Rattle.vm_sponsor.specs.declared.amounts.Amounts.{Amounts}
use Rattle.vm_turn.specs.declared.journal.Outcome.{Outcome as End}
use Rattle.vm_turn.specs.declared.journal.Outcome.TheVariants.{Committed, Failed, RanOut}
use Rattle.vm_turn.specs.declared.journal.Turn.{Turn as Answer}
use Rattle.vm_turn.specs.declared.journal.Turn.TheVariants.{Dispatched, Stepped, Finished, Rest, Spent}
use Rattle.vm_turn.specs.State.{State}
use Rattle.vm_turn.specs.Actors.{behaviour_in, behaviour_at, resting}
use Rattle.vm_turn.specs.Turn.{entry, finish, turn}
use Rattle.vm_turn.specs.Run.{run}
use Rattle.vm_turn.specs.Sound.{Sound, FlightSound}
use Rattle.vm_turn.specs.Authority.{LaneTaken, present, handed_on, CommitsKeepAuthority}
use Rattle.vm_turn.proofs.TurnCases.{turn-by}
use Rattle.vm_turn.proofs.Places.{other-at, flight-numbers}
use Rattle.vm_turn.proofs.Sponsors.{among-right}
use Rattle.vm_turn.proofs.RunsSound.{run-sound}
use Rattle.vm_turn.proofs.Bound.{dispatchable-chosen, run-good, turn-sound}
use Rattle.vm_turn.proofs.Taken.{every-get, reached-back}
use Rattle.vm_turn.proofs.WordsKept.{turn-taken, run-taken, after-taken}
use Rattle.vm_turn.proofs.FlightActors.{settled-own, turn-flight, after-flight, run-flight}
use Rattle.vm_turn.proofs.Rights.{reached-more, turn-reads, events-keep_authority}
use Rattle.vm_turn.proofs.Sums.{some_is}

-- the number in an answer's entry
abbrev number_in : Answer → ℕ
number_in Dispatched = 0
number_in Stepped = 0
number_in (Finished e) = e.message
number_in Rest = 0
number_in (Spent sponsor kind) = 0

-- an event that failed or ran out did not commit
abbrev is_commit : End → Bool
is_commit Committed = true
is_commit (Failed w) = false
is_commit (RanOut kind) = false

abbrev commits_in : Answer → Bool
commits_in Dispatched = false
commits_in Stepped = false
commits_in (Finished e) = is_commit e.outcome
commits_in Rest = false
commits_in (Spent sponsor kind) = false

no-commit : (n k : ℕ) (end : End) → is_commit end ≡ false → Finished (entry n end) ≡ Finished (entry k Committed) → ⊥
no-commit n k end d e = let b : is_commit end ≡ true = ap commits_in e in absurd cc

-- the turn that commits an event in flight
pub commit-is : {grant : Amounts} (s : State) → Sound grant s → (pick place : ℕ) (l : Lane) → slice_get s.flight place ≡ Some l → (turn s pick).1 ≡ Finished (entry l.number Committed) → (sheet : List Account) × ((turn s pick).0 ≡ finish s place l sheet l.effects Committed)
commit-is s ok pick place l at = turn-by s pick (λ t a. a ≡ Finished (entry l.number Committed) → (sheet : List Account) × (t ≡ finish s place l sheet l.effects Committed)) (record {
  spent = λ kind out e. absurd (cc);
  rests = λ run waits none e. absurd (cc);
  begins = λ m d e. absurd (cc);
  writes = λ m device bytes d is e. absurd (other-at m.number s.flight place l (dispatchable-chosen s m d.first).other at (sym (ap number_in e)));
  refuses = λ m device d is e. absurd (other-at m.number s.flight place l (dispatchable-chosen s m d.first).other at (sym (ap number_in e)));
  goes = λ k g there paid is e. absurd (cc);
  fails = λ k w there paid is e. absurd (no-commit k.number l.number (Failed w) refl e);
  commits = λ k there paid is e.
      let p : pick % length s.flight ≡ place = flight-numbers s ok (pick % length s.flight) place k l there at (ap number_in e) in
      let same : k ≡ l = some_is (sym there ∙ (ap (λ (i : ℕ). slice_get s.flight i) p ∙ at)) in
      let sheet = spend s.sheet k.own.sponsor (lane_row s.store s.sheet k).charge in
      (sheet, ap (λ (i : ℕ). finish s i k sheet k.effects Committed) p ∙ ap (λ (x : Lane). finish s place x sheet x.effects Committed) same);
  runs_out = λ k kind there lacks other e. absurd (no-commit k.number l.number (RanOut kind) refl e);
  root_runs_out = λ k kind there lacks same run e. absurd (cc);
})

-- ---- its actor's behaviour after that turn

state_after : (next : Option Behaviour) (code state : W) → Among (behaviour_in (Some (resting next code state))).state (code ∷ state ∷ behaviour_words next)
state_after None code state = inr (inl refl)
state_after (Some b) code state = inr (inr (inl refl))

code_after : (next : Option Behaviour) (code state : W) → Among (behaviour_in (Some (resting next code state))).code (code ∷ state ∷ behaviour_words next)
code_after None code state = inl refl
code_after (Some b) code state = inr (inr (inr (inl refl)))

-- these are words of the event
in-lane : (l : Lane) (w : W) → Among w (l.own.code ∷ l.own.state ∷ behaviour_words l.effects.next) → Among w (lane_words l)
in-lane l w (inl e) = inr (inr (inl e))
in-lane l w (inr (inl e)) = inr (inr (inr (inl e)))
in-lane l w (inr (inr a)) =
    let e = l.effects in
    let payer = l.own.sponsor in
    let b = among-right w (created_words e.created) (sent_words payer e.sent ++ behaviour_words e.next) (among-right w (sent_words payer e.sent) (behaviour_words e.next) a) in
    inr (inr (inr (inr (inr (among-right w (values l.stack) (effects_words payer e) b)))))

module _ {grant : Amounts} (s : State) (ok : Sound grant s) (h : FlightSound s) (pick place : ℕ) (l : Lane) (at : slice_get s.flight place ≡ Some l) (commits : (turn s pick).1 ≡ Finished (entry l.number Committed)) where
  -- the actor's new behaviour is the one that was gathered, or the one that it had at the dispatch
  pub committed-behaviour : behaviour_at (turn s pick).0.store l.own.actor ≡ behaviour_in (Some (resting l.effects.next l.own.code l.own.state))
  committed-behaviour =
      let c = commit-is s ok pick place l at commits in
      ap (λ (t : State). behaviour_at t.store l.own.actor) c.1 ∙ ap (λ (o : Option Slot). behaviour_in o) (settled-own s ok h place l at l.effects (λ w a. a))

  handed-in : (w : W) → Among w (handed_on (turn s pick).0.store l) → Among w (lane_words l)
  handed-in w (inl e) =
      let b : (behaviour_at (turn s pick).0.store l.own.actor).state ≡ (behaviour_in (Some (resting l.effects.next l.own.code l.own.state))).state = ap (λ (x : Behaviour). x.state) committed-behaviour in
      in-lane l w (subst (λ (v : W). Among v (l.own.code ∷ l.own.state ∷ behaviour_words l.effects.next)) (sym (e ∙ b)) (state_after l.effects.next l.own.code l.own.state))
  handed-in w (inr (inl e)) =
      let b : (behaviour_at (turn s pick).0.store l.own.actor).code ≡ (behaviour_in (Some (resting l.effects.next l.own.code l.own.state))).code = ap (λ (x : Behaviour). x.code) committed-behaviour in
      in-lane l w (subst (λ (v : W). Among v (l.own.code ∷ l.own.state ∷ behaviour_words l.effects.next)) (sym (e ∙ b)) (code_after l.effects.next l.own.code l.own.state))
  handed-in w (inr (inr a)) = inr (inr (inr (inr (inr (among-right w (values l.stack) (effects_words l.own.sponsor l.effects) a)))))

pub commits-keep_authority : CommitsKeepAuthority
commits-keep_authority image grant lanes valid e last commits w r =
    let s = run image grant lanes e.before in
    let ok = run-sound image grant lanes e.before in
    let t = present e in
    let first = turn-sound grant s ok e.pick in
    let sound = (run-good grant (turn s e.pick).0 e.since first).sound in
    let flight = after-flight (turn s e.pick).0 e.since first (turn-flight s ok (run-flight image grant lanes e.before) e.pick) in
    let taken = after-taken (turn s e.pick).0 e.since (turn-taken s e.pick (run-taken image grant lanes e.before valid)) in
    let words = (every-get (LaneTaken (next_quad t.store)) t.flight e.place e.lane taken.flight e.flies).words.1 in
    let its : (turn t last).1 ≡ Finished (entry e.lane.number Committed) = commits ∙ ap (λ (n : ℕ). Finished (entry n Committed)) (sym e.number_is) in
    let more = reached-more (turn t last).0.store (handed_on (turn t last).0.store e.lane) (lane_words e.lane) (handed-in t sound flight last e.place e.lane e.flies its) w r.1 in
    events-keep_authority image grant lanes valid e w (r.0, reached-back t.store taken.image taken.cells (turn t last).0.store (lane_words e.lane) (turn-reads t last) words w more)
