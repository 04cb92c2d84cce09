-- An instruction that goes on keeps what stands.
use Rattle.instr_table.specs.Spent.{Spent, spent_more}
use Rattle.vm_turn.specs.Spending.{Spending, with_spent}
use Rattle.std.proofs.Common.{◌≡◌, refl, ap, sym, subst, ◌∙◌, ℕ, zero, suc, List, [], ◌∷◌, Some, slice_get, slice_set, eq-eqb, ne_eqb, arith}
use Rattle.std.specs.Prelude.{remove}
use Rattle.std.proofs.lemmas.Option.{same_Some}
use Rattle.cap_words.specs.Words.{W}
use Rattle.cap_words.specs.Seen.{Seen}
use Rattle.quad_memory.specs.Image.{RomImage}
use Rattle.instr_table.specs.declared.charge.Charge.{Charge}
use Rattle.instr_table.specs.Types.{Grows}
use Rattle.instr_table.specs.Sheet.{Account, spend}
use Rattle.instr_table.specs.Outcome.{Going, Goes}
use Rattle.instr_table.specs.Lane.{Lane, begun, after_going, lane_row, gone}
use Rattle.instr_table.proofs.ShownWords.{shown-stays}
use Rattle.instr_table.proofs.Makings.{keeps-code_out}
use Rattle.vm_sponsor.specs.declared.amounts.Amounts.{Amounts}
use Rattle.vm_turn.specs.State.{Message, State}
use Rattle.vm_turn.specs.Turn.{go_on}
use Rattle.vm_turn.specs.Sound.{Sound, FlightSound}
use Rattle.vm_turn.proofs.Sums.{length-set}
use Rattle.vm_turn.proofs.Taken.{every-get, every-removed}
use Rattle.hum_meaning.specs.Value.{Behaviour}
use Rattle.hum_meaning.specs.Deliver.{Configuration}
use Rattle.hum_core.specs.TestLists.{Tests}
use Rattle.hum_code.specs.Layout.{Layout}
use Rattle.hum_code.specs.Reaches.{Reaches, stepped}
use Rattle.hum_code.proofs.Standing.{longer_same}
use Rattle.hum_code.specs.Program.{HoldsProgram}
use Rattle.hum_sim.specs.Standing.{ActorStands, MessageStands, LaneStands, IsFirst, StateStands}
use Rattle.vm_turn.specs.Alone.{RootAlone}
use Rattle.vm_turn.specs.Roll.{NoEventOf}
use Rattle.hum_sim.proofs.Lists.{every_both, every_set, each_by}
use Rattle.hum_sim.proofs.Pending.{Pending}
use Rattle.vm_turn.proofs.Actors.{going-seen, going-rom}
use Rattle.instr_table.specs.Plain.{PlainCells, PlainEffect, PlainOutcome}
use Rattle.instr_table.proofs.Plain.{lane-plain, plain-sheet}
use Rattle.hum_code.proofs.Programs.{plain_cells}
use Rattle.vm_turn.proofs.Root.{root-spends}
use Rattle.hum_sim.proofs.Growth.{actor_later, message_later, lane_later}
use Rattle.hum_sim.proofs.Lanes.{lane_stands, others_numbers}
use Rattle.hum_sim.proofs.Dispatches.{Targets}

-- an event goes on, and stays one of its actor
rests_set : (u : W) (ls : List Lane) (i : ℕ) (l new : Lane) → slice_get ls i ≡ Some l → new.own.actor ≡ l.own.actor → NoEventOf u (slice_set ls i new) → NoEventOf u ls
rests_set u [] i l new at e r = tt
rests_set u (k ∷ ls) zero l new at e r = ((λ d. r.0 (e ∙ (ap (λ (x : Lane). x.own.actor) (sym (same_Some k l at)) ∙ d))), r.1)
rests_set u (k ∷ ls) (suc i) l new at e r = (r.0, rests_set u ls i l new at e r.1)

module _ (lay : Layout) (rom_of : RomImage) (program : HoldsProgram rom_of.boot rom_of.cells lay) {grant : Amounts} (spent : Spending) (s : State) (c : Configuration Tests)
    (ok : Sound grant s) (h : StateStands lay rom_of.cells spent s c) (i : ℕ) (l : Lane) (at : slice_get s.flight i ≡ Some l) (g : Going)
    (goes : (lane_row s.store s.sheet l).outcome ≡ Goes g) (due : Charge) where
  abbrev store' : Seen
  store' = (after_going s.store l.stack g).0

  abbrev new : Lane
  new = gone s.store l g

  abbrev flight' : List Lane
  flight' = slice_set s.flight i new

  abbrev spent' : Spending
  spent' = with_spent spent l.number (spent_more (spent l.number) (lane_row s.store s.sheet l).charge)

  abbrev f : LaneStands lay s.store s.roll c spent l
  f = lane_stands lay rom_of program spent s c ok h i l at

  grows : Grows s.store store'
  grows = shown-stays s.store l.stack g

  rom_same : store'.rom ≡ s.store.rom
  rom_same = going-rom s.store l.stack g

  pub plain : PlainEffect l.own.sponsor s.store g.effect
  plain = subst (PlainOutcome l.own.sponsor s.store) goes (lane-plain s.store (subst PlainCells (sym h.rom_is) (plain_cells program)) h.code_out s.sheet l)

  an_actor : (j : ℕ) (u : W) (b : Behaviour Tests) → slice_get s.roll j ≡ Some u → ActorStands lay s.store s.roll s.flight u b → ActorStands lay store' s.roll flight' u b
  an_actor j u b a x =
      actor_later lay s.store store' s.roll s.roll grows (longer_same s.roll) s.flight flight' u b
      (going-seen s.store l.stack g u _ x.there ∙ sym x.there) (λ r. rests_set u s.flight i l new at refl r) x

  a_message : (j : ℕ) (y : Message) (q : Pending) → slice_get s.messages j ≡ Some y → MessageStands lay s.store s.roll y q → MessageStands lay store' s.roll y q
  a_message j y q a v = message_later lay s.store store' s.roll s.roll grows (longer_same s.roll) y q (going-seen s.store l.stack g y.event _ v.there ∙ sym v.there) v

  other : (k : Lane) → (k.number ≡ l.number → ⊥) → LaneStands lay s.store s.roll c spent k → LaneStands lay store' s.roll c spent' k
  other k d x = lane_later lay s.store store' s.roll s.roll grows (longer_same s.roll) c c spent spent' k rom_same x x.pending x.first x.behaves (rw (ne_eqb k.number l.number d) refl)

  itself : LaneStands lay store' s.roll c spent' new
  itself = record {
    message = f.message;
    pending = f.pending;
    first = f.first;
    actor_is = f.actor_is;
    behaviour = f.behaviour;
    behaves = f.behaves;
    base = f.base;
    begins = record { rom_is = f.begins.rom_is ∙ sym rom_same; shown = f.begins.shown; answers = f.begins.answers; message = f.begins.message };
    reached =
        let e : spent' l.number ≡ spent_more (spent l.number) (lane_row s.store s.sheet l).charge = rw (eq-eqb l.number l.number refl) refl in
        subst (λ (n : Spent). Reaches f.base (begun l.number l.own) store' new n) (sym e) (stepped s.sheet g f.reached goes);
    sponsor = f.sponsor;
  }

  abbrev pub gone_state : State
  gone_state = go_on s i l (spend s.sheet l.own.sponsor due) g

  pub goes_on_stands : FlightSound gone_state → Targets gone_state → StateStands lay rom_of.cells spent' gone_state c
  goes_on_stands events targets = record {
    rom_is = rom_same ∙ h.rom_is;
    behaviours = record {
      actors = each_by (ActorStands lay s.store s.roll s.flight) (ActorStands lay store' s.roll flight') s.roll c.behaviours an_actor h.behaviours.actors;
      once = h.behaviours.once;
      front = h.behaviours.front;
    };
    messages = each_by (MessageStands lay s.store s.roll) (MessageStands lay store' s.roll) s.messages c.pending a_message h.messages;
    next_number = h.next_number;
    output = h.output;
    flight = record {
      events = every_set (LaneStands lay store' s.roll c spent') s.flight i new
          (every_both (λ (k : Lane). k.number ≡ l.number → ⊥) (LaneStands lay s.store s.roll c spent) (LaneStands lay store' s.roll c spent') other (remove s.flight i)
          (others_numbers lay rom_of program spent s c ok h i l at) (every-removed (LaneStands lay s.store s.roll c spent) s.flight i h.flight.events))
          itself;
      sound = events;
      targets = targets;
      room = let k = length-set s.flight i new in omega (arith, k, h.flight.room);
      in_turn = λ one. every_set (IsFirst lay c) s.flight i new (every-removed (IsFirst lay c) s.flight i (h.flight.in_turn one)) (every-get (IsFirst lay c) s.flight i l (h.flight.in_turn one) at);
    };
    root =
        subst (λ (rows : List Account). RootAlone rows s.out_of) (sym (plain-sheet (spend s.sheet l.own.sponsor due) l.own.sponsor s.store g.effect plain))
        (root-spends s.sheet s.out_of h.root l.own.sponsor due f.sponsor);
    code_out = keeps-code_out s.store s.sheet l g goes h.code_out;
  }
