-- What the operations on actors make, and do to the record.
use Rattle.std.proofs.Common.{◌≡◌, ℕ, [], ◌∷◌, Option, Some, None, true, refl, ap, sym, ◌∙◌, subst}
use Rattle.std.specs.Prelude.{is_none}
use Rattle.cap_words.specs.Words.{W, Cap}
use Rattle.cap_words.specs.Store.{used}
use Rattle.cap_words.specs.Seen.{EventSlot, UnbornSlot, seen, grown}
use Rattle.cap_words.specs.Frame.{Framed}
use Rattle.cap_words.proofs.Frames.{framed-refl}
use Rattle.quad_memory.specs.Memory.{Memory}
use Rattle.instr_table.specs.Lists.{next_quad, item}
use Rattle.instr_table.specs.Event.{Made, Behaviour, Sends, Creates, Assigns, Becomes, with_effect}
use Rattle.instr_table.specs.Outcome.{goes, does}
use Rattle.instr_table.specs.ActorRows.{create_row, become_row}
use Rattle.vm_dict.proofs.Taking.{next-used}
use Rattle.vm_effects.specs.declared.effects.Effects.{Effects as Gathered}
use Rattle.vm_effects.specs.Gathered.{effects_of, next_of, IsLinked, own_words}
use Rattle.vm_step.specs.declared.lane.Lane.{Lane}
use Rattle.vm_step.specs.declared.lane.StepEnd.{StepEnd}
use Rattle.vm_step.specs.Moves.{Ready, Turns, values_of}
use Rattle.vm_step.proofs.Moving.{Makes, makes-turns, grown-nil}

module _ (a b : Memory) (l : Lane) (e : Gathered) (linked : IsLinked b.store e) (frame : Framed a.store b.store (own_words (effects_of a.store l.effects))) (room : b.room ≡ a.room) where
  pub makes-sends : (sponsor target content : W) → effects_of b.store e ≡ with_effect (effects_of a.store l.effects) (Sends (record { event = Cap (used a.store); sponsor = sponsor; target = target; content = content }))
      → seen b.store ≡ grown (seen a.store) (EventSlot sponsor target content ∷ [])
      → Makes a b l (record l { effects = e }) (EventSlot sponsor target content ∷ []) (Sends (record { event = Cap (next_quad (seen a.store)); sponsor = sponsor; target = target; content = content }))
  makes-sends sponsor target content effects sees = record {
    seen_is = sees;
    stack_is = refl;
    depth_is = refl;
    number_is = refl;
    event_is = refl;
    effects_are = effects ∙ ap (λ (n : ℕ). with_effect (effects_of a.store l.effects) (Sends (record { event = Cap n; sponsor = sponsor; target = target; content = content }))) (sym (next-used a.store));
    alone = tt;
    linked = linked;
    frame = frame;
    room_is = room;
  }

  pub makes-creates : (state code : W) → effects_of b.store e ≡ with_effect (effects_of a.store l.effects) (Creates (record { actor = Cap (used a.store); state = state; code = code }))
      → seen b.store ≡ grown (seen a.store) (UnbornSlot ∷ []) → Makes a b l (record l { effects = e }) (UnbornSlot ∷ []) (Creates (record { actor = Cap (next_quad (seen a.store)); state = state; code = code }))
  makes-creates state code effects sees = record {
    seen_is = sees;
    stack_is = refl;
    depth_is = refl;
    number_is = refl;
    event_is = refl;
    effects_are = effects ∙ ap (λ (n : ℕ). with_effect (effects_of a.store l.effects) (Creates (record { actor = Cap n; state = state; code = code }))) (sym (next-used a.store));
    alone = tt;
    linked = linked;
    frame = frame;
    room_is = room;
  }

  pub makes-assigns : (m : Made) → effects_of b.store e ≡ with_effect (effects_of a.store l.effects) (Assigns m) → seen b.store ≡ seen a.store → Makes a b l (record l { effects = e }) [] (Assigns m)
  makes-assigns m effects sees = record {
    seen_is = sees ∙ sym (grown-nil (seen a.store));
    stack_is = refl;
    depth_is = refl;
    number_is = refl;
    event_is = refl;
    effects_are = effects;
    alone = tt;
    linked = linked;
    frame = frame;
    room_is = room;
  }

  pub makes-becomes : (x : Behaviour) → effects_of b.store e ≡ with_effect (effects_of a.store l.effects) (Becomes x) → seen b.store ≡ seen a.store → Makes a b l (record l { effects = e }) [] (Becomes x)
  makes-becomes x effects sees = record {
    seen_is = sees ∙ sym (grown-nil (seen a.store));
    stack_is = refl;
    depth_is = refl;
    number_is = refl;
    event_is = refl;
    effects_are = effects;
    alone = tt;
    linked = linked;
    frame = frame;
    room_is = room;
  }

-- ---- the rows

none_is : (o : Option Behaviour) → is_none o ≡ true → o ≡ None
none_is None h = refl
none_is (Some b) h = cc

pub became : (a c : Memory) (l o : Lane) (e : Gathered) (code state next : W) (end : StepEnd) → Ready a l 0 → true ≡ is_none (next_of l.effects) → effects_of a.store e ≡ with_effect (effects_of a.store l.effects) (Becomes (record { state = state; code = code }))
    → IsLinked a.store e → code ≡ item (values_of a l) 1 → state ≡ item (values_of a l) 2 → Turns a c (record l { effects = e }) o (goes 2 [] next).outcome end
    → Turns a c l o (become_row (next_of l.effects) (values_of a l) next).outcome end
became a c l o e code state next end r none effects linked code_is state_is t =
    let p = makes-becomes a a l e linked (framed-refl a.store (own_words (effects_of a.store l.effects))) refl (record { state = state; code = code }) effects refl in
    let k = makes-turns a a l (record l { effects = e }) 0 [] (Becomes (record { state = state; code = code })) r p c o 2 [] next end t in
    subst (λ (x : Option Behaviour). Turns a c l o (become_row x (values_of a l) next).outcome end) (sym (none_is (next_of l.effects) (sym none)))
    (subst (λ (x : Behaviour). Turns a c l o (does 2 [] [] next (Becomes x)).outcome end) (λ i. record { state = state_is i; code = code_is i }) k)

pub created : (a b c : Memory) (l o : Lane) (e : Gathered) (code state actor next : W) (end : StepEnd) → Ready a l 2 → Makes a b l (record l { effects = e }) (UnbornSlot ∷ []) (Creates (record { actor = Cap (next_quad (seen a.store)); state = state; code = code }))
    → actor ≡ Cap (used a.store) → code ≡ item (values_of a l) 1 → state ≡ item (values_of a l) 2 → Turns b c (record l { effects = e }) o (goes 2 (actor ∷ []) next).outcome end
    → Turns a c l o (create_row (seen a.store) (values_of a l) next).outcome end
created a b c l o e code state actor next end r p named code_is state_is t =
    let actor_is : actor ≡ Cap (next_quad (seen a.store)) = named ∙ ap Cap (sym (next-used a.store)) in
    let k = makes-turns a b l (record l { effects = e }) 2 (UnbornSlot ∷ []) (Creates (record { actor = Cap (next_quad (seen a.store)); state = state; code = code })) r p c o 2 (Cap (next_quad (seen a.store)) ∷ []) next end
    (subst (λ (w : W). Turns b c (record l { effects = e }) o (goes 2 (w ∷ []) next).outcome end) actor_is t) in
    subst (λ (x : Made). Turns a c l o (does 2 (UnbornSlot ∷ []) (Cap (next_quad (seen a.store)) ∷ []) next (Creates x)).outcome end)
    (λ i. record { actor = Cap (next_quad (seen a.store)); state = state_is i; code = code_is i }) k
