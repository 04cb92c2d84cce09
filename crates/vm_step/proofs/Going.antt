-- What moves come to for the whole machine, and what a payment leaves.
use Rattle.std.proofs.Common.{◌≡◌, ℕ, ◌+◌, ◌≤◌, List, [], Some, None, true, refl, ap, ap₂, sym, ◌∙◌, subst, arith, drop, length}
use Rattle.cap_words.specs.declared.word.Tag.TheVariants.{Actor, Event}
use Rattle.cap_words.specs.Words.{W}
use Rattle.cap_words.specs.Store.{Store, used}
use Rattle.cap_words.specs.Seen.{Seen, Slot, EventSlot, ActorSlot, seen, grown, slot_seen}
use Rattle.cap_words.specs.Frame.{Among, Framed}
use Rattle.cap_words.proofs.Frames.{opaque-framed, framed-more}
use Rattle.quad_memory.specs.Memory.{Memory}
use Rattle.instr_table.specs.declared.charge.Charge.{Charge}
use Rattle.instr_table.specs.Types.{is_sponsor}
use Rattle.instr_table.specs.Lists.{next_quad}
use Rattle.instr_table.specs.Event.{Own, Effects, Effect, Nothing, Sends, Creates, Assigns, Becomes, Sponsors, Grants, Reclaims, Starts, Stops}
use Rattle.instr_table.specs.Sheet.{Account, account, short, spend, paid, sheet_after}
use Rattle.instr_table.specs.Outcome.{Going, Outcome, Goes, Faults, Commits}
use Rattle.instr_table.specs.Lane.{Item, after_going, gone}
use Rattle.instr_table.specs.Laws.{Covers}
use Rattle.instr_table.specs.Making.{MakesNamed, MadeWith}
use Rattle.instr_table.proofs.Authorities.{pushed-store}
use Rattle.vm_sponsor.specs.Ledger.{Ledger, names}
use Rattle.vm_sponsor.specs.Sheets.{IsThere, quads_of}
use Rattle.vm_sponsor.specs.Keeps.{Keeps}
use Rattle.vm_sponsor.proofs.Plain.{sum-less, covered}
use Rattle.vm_sponsor.proofs.Framed.{sheet-framed, belongs-framed, Aside as IsAside}
use Rattle.vm_dict.proofs.Taking.{next-used}
use Rattle.vm_effects.specs.Gathered.{effects_of, own_words}
use Rattle.vm_step.specs.declared.lane.Lane.{Lane}
use Rattle.vm_step.specs.declared.lane.StepEnd.{StepEnd}
use Rattle.vm_step.specs.Stack.{items_from, IsStack}
use Rattle.vm_step.specs.Flight.{own_at, stack_of, lane_words, Held, Aside}
use Rattle.vm_step.specs.Books.{Books, held_quads}
use Rattle.vm_step.specs.Step.{sheet_in, payer, GoesOn, PaysOnly, ActsBy, Stays}
use Rattle.vm_step.specs.Reads.{IsInFlight}
use Rattle.vm_step.specs.Moves.{Ready, Moves, Turns, touched, IsAlone}
use Rattle.vm_step.specs.Paid.{Paid, GoesBy, Acts}
use Rattle.vm_step.proofs.Moving.{used-moves}
use Rattle.vm_step.proofs.Flying.{slot-grown, own-kept, flight-kept, sponsor-grown, sponsor-pushed, made-none, own-aside, paid-aside, paid-effects}

pub in-flight : (s : Store) (ws : List W) (l : Lane) → Held s ws l → IsInFlight (seen s) l.event
in-flight s ws l h = record { sent = h.event; actor = h.actor }

pub ready-paid : (m : Memory) (sheet : Ledger) (l : Lane) (n : ℕ) → Paid m sheet l n → Ready m l n
ready-paid m sheet l n p = record { stacked = p.held.stacked; shallow = p.held.shallow; linked = p.held.linked; room = omega (arith, p.free) }

-- ---- moves

sheet-alone : (rows : List Account) (w : W) (e : Effect) → IsAlone e → sheet_after rows w e ≡ rows
sheet-alone rows w Nothing a = refl
sheet-alone rows w (Sends m) a = refl
sheet-alone rows w (Creates m) a = refl
sheet-alone rows w (Assigns m) a = refl
sheet-alone rows w (Becomes b) a = refl
sheet-alone rows w (Sponsors v) a = absurd a
sheet-alone rows w (Grants v kind n) a = absurd a
sheet-alone rows w (Reclaims v) a = absurd a
sheet-alone rows w (Starts v signal) a = absurd a
sheet-alone rows w (Stops v) a = absurd a

touched-among : (e : Effect) (ws : List W) (w : W) → Among w (touched e ws) → Among w ws
touched-among Nothing ws w a = absurd a
touched-among (Sends m) ws w a = a
touched-among (Creates m) ws w a = a
touched-among (Assigns m) ws w a = a
touched-among (Becomes b) ws w a = a
touched-among (Sponsors v) ws w a = a
touched-among (Grants v kind n) ws w a = a
touched-among (Reclaims v) ws w a = a
touched-among (Starts v signal) ws w a = a
touched-among (Stops v) ws w a = a

-- what is seen under a word stays through an instruction
pub slot-going : (s : Seen) (is : List Item) (g : Going) (w : W) (slot : Slot) → slot_seen s w ≡ Some slot → slot_seen (after_going s is g).0 w ≡ Some slot
slot-going s is g w slot h =
    let p = pushed-store (grown s g.made, drop g.pops is) g.pushed in
    subst (λ (t : Seen). slot_seen t w ≡ Some slot) (sym p.1) (slot-grown (grown s g.made) p.0 w slot (slot-grown s g.made w slot h))

module _ (a b : Memory) (sheet : Ledger) (l m : Lane) (g : Going) (n : ℕ) (who controller : W)
    (h : Paid a sheet l n) (p : Moves a b l m g) (most : length g.made + length g.pushed ≤ n) (made : MadeWith who controller (seen a.store) g.made g.effect) where
  grew : seen b.store ≡ (after_going (seen a.store) (stack_of a.store l) g).0
  grew = ap (λ (x : Seen × List Item). x.0) p.seen_is

  slot_stays : (w : W) (slot : Slot) → slot_seen (seen a.store) w ≡ Some slot → slot_seen (seen b.store) w ≡ Some slot
  slot_stays w slot k = subst (λ (t : Seen). slot_seen t w ≡ Some slot) (sym grew) (slot-going (seen a.store) (stack_of a.store l) g w slot k)

  flies : IsInFlight (seen a.store) l.event
  flies = in-flight a.store (names sheet.rows) l h.held

  own_is : own_at (seen b.store) l.event ≡ own_at (seen a.store) l.event
  own_is = own-kept (seen a.store) (seen b.store) l.event flies slot_stays

  still_flies : IsInFlight (seen b.store) m.event
  still_flies = subst (IsInFlight (seen b.store)) (sym p.event_is) (flight-kept (seen a.store) (seen b.store) l.event flies slot_stays)

  own_after : own_at (seen b.store) m.event ≡ own_at (seen a.store) l.event
  own_after = ap (own_at (seen b.store)) p.event_is ∙ own_is

  frame : Framed a.store b.store (lane_words a.store l)
  frame = framed-more a.store b.store (touched g.effect (lane_words a.store l)) (lane_words a.store l) p.frame (touched-among g.effect (lane_words a.store l))

  words_aside : (w : W) → Among w (lane_words a.store l) → IsAside a.store w
  words_aside w i = own-aside a.store l.effects h.held.linked w i

  sheet_same : sheet_in b sheet ≡ sheet_in a sheet
  sheet_same = sheet-framed a.store b.store (lane_words a.store l) sheet h.books.belongs frame words_aside

  goes_by : GoesBy a b sheet sheet l m g
  goes_by = record {
    seen_is = grew;
    lane_is = λ i. record { number = p.number_is i; own = own_after i; code = p.code_is i; stack = (p.seen_is i).1; effects = p.effects_are i };
    sheet_is = sheet_same ∙ sym (sheet-alone (sheet_in a sheet) (payer a l) g.effect p.alone);
    event_is = p.event_is;
    held = record {
      stacked = p.stacked;
      shallow = p.shallow;
      linked = p.linked;
      event = still_flies.sent;
      sponsor = subst (λ (o : Own). Among o.sponsor (names sheet.rows)) (sym own_after) h.held.sponsor;
      actor = still_flies.actor;
    };
    aside = record {
      events = λ v q o k. opaque-framed a.store b.store (lane_words a.store l) Event v q frame o k;
      actors = λ v q o k. opaque-framed a.store b.store (lane_words a.store l) Actor v q frame o k;
    };
  }

  stays : Stays a b sheet sheet
  stays = record {
    books = record {
      belongs = belongs-framed a.store b.store (lane_words a.store l) sheet h.books.belongs frame words_aside;
      listed = λ w k. h.books.listed w (sponsor-grown (seen a.store) g.made w (made-none who controller (seen a.store) g.made g.effect p.alone made)
          (sponsor-pushed (grown (seen a.store) g.made, drop g.pops (stack_of a.store l)) g.pushed w (subst (λ (t : Seen). is_sponsor t w ≡ true) grew k)));
      rows_room = h.books.rows_room;
      covered = let u = used-moves a b l m g p in let e = ap held_quads sheet_same in omega (arith, h.free, u, e, p.room_is, most);
    };
    room_is = p.room_is;
    sponsors = λ w i. i;
    transfers = omega arith;
  }

-- nothing changes
pub stays-refl : (m : Memory) (sheet : Ledger) → Books m sheet → Stays m m sheet sheet
stays-refl m sheet h = record { books = h; room_is = refl; sponsors = λ w i. i; transfers = omega arith }

-- an operation on no sponsor, as the machine sees it
pub turns-act : (a b : Memory) (sheet : Ledger) (l m : Lane) (c : Charge) (who controller : W) (o : Outcome) (end : StepEnd) → Paid a sheet l c.quads → Covers c o → MakesNamed who controller (seen a.store) o → Turns a b l m o end
    → Acts a b sheet sheet l m o end × Stays a b sheet sheet
turns-act a b sheet l m c who controller (Goes g) end h covers made t = ((t.0, goes_by a b sheet l m g c.quads who controller h t.1 covers.0 made), stays a b sheet l m g c.quads who controller h t.1 covers.0 made)
turns-act a b sheet l m c who controller (Faults w) end h covers made t = ((t.0, t.1, refl, t.2), subst (λ (x : Memory). Stays a x sheet sheet) (sym t.1) (stays-refl a sheet h.books))
turns-act a b sheet l m c who controller Commits end h covers made t = ((t.0, t.1, refl, t.2), subst (λ (x : Memory). Stays a x sheet sheet) (sym t.1) (stays-refl a sheet h.books))

-- ---- payments

-- what a payment leaves
pub record Pays (a b : Memory) (old new : Ledger) (l : Lane) (c : Charge) : Type 0 where
  pub seen_is : seen b.store ≡ seen a.store
  pub effects_are : effects_of b.store l.effects ≡ effects_of a.store l.effects
  pub sheet_is : sheet_in b new ≡ spend (sheet_in a old) (payer a l) c
  pub aside : Aside a.store b.store []
  pub paid : Paid b new l c.quads
  pub same_names : names new.rows ≡ names old.rows
  pub transfers_are : new.transfers ≡ old.transfers
  pub room_is : b.room ≡ a.room

held_after : (rows : List Account) (who : W) (c : Charge) → short (account rows who) c ≡ None → held_quads (spend rows who c) + c.quads ≡ held_quads rows
held_after rows who c h =
    let k = covered (account rows who) c h in
    let m = k.memory in
    sum-less (λ (a : Account). a.memory.held) who (paid c) rows c.quads refl (omega (arith, m))

pub pays : (a b : Memory) (old new : Ledger) (l : Lane) (c : Charge) → Books a old → Held a.store (names old.rows) l → short (account (sheet_in a old) (payer a l)) c ≡ None
    → sheet_in b new ≡ spend (sheet_in a old) (payer a l) c → new ≡ old → Keeps a b old new (quads_of (payer a l)) → Pays a b old new l c
pays a b old new l c books held enough sheet same keeps =
    let who = payer a l in
    let there : IsThere a.store who = books.belongs.there who held.sponsor in
    let effects = paid-effects a.store b.store who l.effects there keeps.frame held.linked in
    let back = sym keeps.unseen in
    let used_is : used b.store ≡ used a.store = sym (next-used b.store) ∙ ap next_quad keeps.unseen ∙ next-used a.store in
    let less = held_after (sheet_in a old) who c enough in
    let total : held_quads (sheet_in b new) ≡ held_quads (spend (sheet_in a old) who c) = ap held_quads sheet in
    let room_is = keeps.same_room in
    let cover = books.covered in
    record {
      seen_is = keeps.unseen;
      effects_are = effects.0;
      sheet_is = sheet;
      aside = paid-aside a.store b.store who there keeps.frame;
      paid = record {
        books = record {
          belongs = keeps.belongs;
          listed = λ w k. subst (λ (ws : List W). Among w ws) (sym keeps.same_names) (books.listed w (subst (λ (s : Seen). is_sponsor s w ≡ true) keeps.unseen k));
          rows_room = keeps.same_rows_room ∙ books.rows_room;
          covered = omega (arith, used_is, less, total, room_is, cover);
        };
        held = record {
          stacked = subst (λ (s : Seen). IsStack s l.depth l.stack) back held.stacked;
          shallow = omega (arith, used_is, held.shallow);
          linked = effects.1;
          event = subst (λ (s : Seen). (sponsor target content : W) × (slot_seen s l.event ≡ Some (EventSlot sponsor target content))) back held.event;
          sponsor = subst (λ (ws : List W). Among (own_at (seen b.store) l.event).sponsor ws) (sym keeps.same_names) (subst (λ (s : Seen). Among (own_at s l.event).sponsor (names old.rows)) back held.sponsor);
          actor = subst (λ (s : Seen). (code state mark : W) × (slot_seen s (own_at s l.event).actor ≡ Some (ActorSlot code state mark))) back held.actor;
        };
        free = omega (arith, used_is, less, total, room_is, cover);
      };
      same_names = keeps.same_names;
      transfers_are = ap (λ (x : Ledger). x.transfers) same;
      room_is = keeps.same_room;
    }

module _ (a b c : Memory) (old mid new : Ledger) (l m : Lane) (cost : Charge) (p : Pays a b old mid l cost) where
  goes_on : (g : Going) → GoesBy b c mid new l m g → GoesOn a c old new l m cost g
  goes_on g k = record {
    seen_is = k.seen_is ∙ ap (λ (s : Seen). (after_going s (items_from s l.depth l.stack) g).0) p.seen_is;
    lane_is = k.lane_is ∙ (λ i. gone (p.seen_is i) (record { number = l.number; own = own_at (p.seen_is i) l.event; code = l.code; stack = items_from (p.seen_is i) l.depth l.stack; effects = p.effects_are i }) g);
    sheet_is = k.sheet_is ∙ ap (λ (rows : List Account). sheet_after rows (payer b l) g.effect) p.sheet_is ∙ ap (λ (s : Seen). sheet_after (spend (sheet_in a old) (payer a l) cost) (own_at s l.event).sponsor g.effect) p.seen_is;
    event_is = k.event_is;
    held = k.held;
    aside = record {
      events = λ v q n h. k.aside.events v q (λ i. n (subst (λ (e : Effects). Among v (own_words e)) p.effects_are i)) (p.aside.events v q (λ x. x) h);
      actors = λ v q n h. k.aside.actors v q (λ i. n (subst (λ (e : Effects). Among v (own_words e)) p.effects_are i)) (p.aside.actors v q (λ x. x) h);
    };
  }

  pays_only : c ≡ b → new ≡ mid → m ≡ l → PaysOnly a c old new l m cost
  pays_only e f g = record {
    seen_is = ap (λ (x : Memory). seen x.store) e ∙ p.seen_is;
    lane_is = g;
    sheet_is = ap₂ sheet_in e f ∙ p.sheet_is;
    aside = subst (λ (x : Memory). Aside a.store x.store []) (sym e) p.aside;
  }

  -- an operation that was paid, as the caller sees it
  pub acts-after : (o : Outcome) (end : StepEnd) → Acts b c mid new l m o end → ActsBy a c old new l m cost o end
  acts-after (Goes g) end k = (k.0, goes_on g k.1)
  acts-after (Faults w) end k = (k.0, pays_only k.1 k.2 k.3)
  acts-after Commits end k = (k.0, pays_only k.1 k.2 k.3)

  pub stays-after : Stays b c mid new → Stays a c old new
  stays-after k = record {
    books = k.books;
    room_is = k.room_is ∙ p.room_is;
    sponsors = λ w i. k.sponsors w (subst (λ (ws : List W). Among w ws) (sym p.same_names) i);
    transfers = let e = p.transfers_are in let h = k.transfers in omega (arith, e, h);
  }
