-- What a change of the store leaves of a lane.
use Rattle.std.proofs.Common.{◌≡◌, ℕ, zero, suc, ◌≤◌, List, [], ◌∷◌, Some, ap, ap₂, refl, sym, ◌∙◌, subst, arith}
use Rattle.cap_words.specs.declared.word.Quad.{Quad}
use Rattle.cap_words.specs.Words.{W}
use Rattle.cap_words.specs.Store.{Store, used}
use Rattle.cap_words.specs.Seen.{Seen, seen, cell_seen, slot_seen}
use Rattle.cap_words.specs.Frame.{Among}
use Rattle.instr_table.specs.Event.{Own, Behaviour}
use Rattle.instr_table.specs.Lists.{pair_quad, head_in, tail_in}
use Rattle.instr_table.specs.Lane.{Item, Lane as Flying}
use Rattle.instr_table.specs.Reach.{Every}
use Rattle.vm_effects.specs.Gathered.{effects_of, own_words, IsLinked}
use Rattle.vm_turn.specs.Actors.{sent_in, sent_at, behaviour_in, behaviour_at}
use Rattle.vm_turn.specs.Turn.{own_of}
use Rattle.vm_step.specs.declared.lane.Lane.{Lane}
use Rattle.vm_step.specs.Stack.{items_from, IsStack}
use Rattle.vm_step.specs.Flight.{own_at, lane_of, lane_words}
use Rattle.vm_machine.specs.Flight.{flight_of, Flies, Separate}

-- what one lane needs of a change of the store
pub record Still (s t : Store) (l : Lane) : Type 0 where
  pub cells : (w : W) (q : Quad) → cell_seen (seen s) w ≡ Some q → cell_seen (seen t) w ≡ Some q
  pub event : slot_seen (seen t) l.event ≡ slot_seen (seen s) l.event
  pub actor : slot_seen (seen t) (own_at (seen s) l.event).actor ≡ slot_seen (seen s) (own_at (seen s) l.event).actor
  pub effects : effects_of t l.effects ≡ effects_of s l.effects
  pub linked : IsLinked t l.effects
  pub grows : used s ≤ used t

items-still : (s t : Seen) (d : ℕ) (w : W) → ((v : W) (q : Quad) → cell_seen s v ≡ Some q → cell_seen t v ≡ Some q) → IsStack s d w → (items_from t d w ≡ items_from s d w) × IsStack t d w
items-still s t zero w k h = (refl, h)
items-still s t (suc d) w k h =
    let new = k w (pair_quad h.0 h.1) h.2 in
    let r = items-still s t d h.1 k h.3 in (
      ap₂ (λ (v : W) (l : List Item). record { value = v; at = w } ∷ l) (ap head_in (new ∙ sym h.2)) (ap (items_from t d) (ap tail_in new) ∙ r.0 ∙ ap (items_from s d) (sym (ap tail_in h.2))),
      (h.0, h.1, new, r.1),
    )

-- what an event has of its own hangs on what is seen of it and of its actor
own-still : (s t : Seen) (event : W) → slot_seen t event ≡ slot_seen s event → slot_seen t (own_at s event).actor ≡ slot_seen s (own_at s event).actor → own_at t event ≡ own_at s event
own-still s t event e a =
    let m : sent_at t event ≡ sent_at s event = ap (sent_in event) e in
    let b : behaviour_at t (sent_at s event).target ≡ behaviour_at s (sent_at s event).target = ap behaviour_in a in
    ap (own_of t) m ∙ ap (λ (x : Behaviour). record { sponsor = (sent_at s event).sponsor; actor = (sent_at s event).target; code = x.code; state = x.state; message = (sent_at s event).content }) b

-- the lane stands for the same, and flies on
pub record Flown (s t : Store) (sponsors given : List W) (ready : List ℕ) (l : Lane) : Type 0 where
  pub flying : lane_of t l ≡ lane_of s l
  pub flies : Flies t sponsors given ready l
  pub words : lane_words t l ≡ lane_words s l

pub still : (s t : Store) (sponsors given : List W) (ready : List ℕ) (l : Lane) → Still s t l → Flies s sponsors given ready l → Flown s t sponsors given ready l
still s t sponsors given ready l k h =
    let i = items-still (seen s) (seen t) l.depth l.stack k.cells h.held.stacked in
    let o = own-still (seen s) (seen t) l.event k.event k.actor in
    let x = k.effects in
    let st = i.0 in
    let at : slot_seen (seen t) (own_at (seen t) l.event).actor ≡ slot_seen (seen s) (own_at (seen s) l.event).actor = ap (λ (y : Own). slot_seen (seen t) y.actor) o ∙ k.actor in
    record {
      flying = λ j. record { number = l.number; own = o j; code = l.code; stack = st j; effects = x j };
      flies = record {
        held = record {
          stacked = i.1;
          shallow = omega (arith, h.held.shallow, k.grows);
          linked = k.linked;
          event = (h.held.event.0, h.held.event.1, h.held.event.2, k.event ∙ h.held.event.3);
          sponsor = subst (λ (y : Own). Among y.sponsor sponsors) (sym o) h.held.sponsor;
          actor = (h.held.actor.0, h.held.actor.1, h.held.actor.2, at ∙ h.held.actor.3);
        };
        busy = (h.busy.0, h.busy.1, at ∙ h.busy.2);
        numbered = h.numbered;
        taken = h.taken;
      };
      words = ap own_words x;
    }

-- all lanes of a list stand for the same
pub flight-still : (s t : Store) (sponsors given : List W) (ready : List ℕ) (ls : List Lane) → Every (Flown s t sponsors given ready) ls → flight_of t ls ≡ flight_of s ls
flight-still s t sponsors given ready [] h = refl
flight-still s t sponsors given ready (l ∷ ls) h = ap₂ (λ (x : Flying) (xs : List Flying). x ∷ xs) h.0.flying (flight-still s t sponsors given ready ls h.1)

pub separate-turned : (s : Store) (k l : Lane) → Separate s k l → Separate s l k
separate-turned s k l h = record { numbers = λ e. h.numbers (sym e); words = λ v a b. h.words v b a }

pub separate-still : (s t : Store) (sponsors given : List W) (ready : List ℕ) (k l : Lane) → Flown s t sponsors given ready k → Flown s t sponsors given ready l → Separate s k l → Separate t k l
separate-still s t sponsors given ready k l f g h = record {
  numbers = h.numbers;
  words = λ v a b. h.words v (subst (λ (ws : List W). Among v ws) f.words a) (subst (λ (ws : List W). Among v ws) g.words b);
}
