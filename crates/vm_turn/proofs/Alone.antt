-- Where no cell of the image spells an operation on sponsors the root stays the only one.
use Rattle.std.proofs.Common.{◌≡◌, ◌⊎◌, inl, inr, ℕ, suc, ◌%◌, Bool, true, false, List, [], ◌∷◌, ◌++◌, length, Option, Some, None, refl, ap, sym, subst, ◌∙◌, nat_eq, if◌then◌else◌}
use Rattle.std.specs.Prelude.{slice_get}
use Rattle.cap_words.specs.Words.{W, same_word}
use Rattle.cap_words.specs.Seen.{Seen, Slot, OpenSlot, ActorSlot, UnbornSlot, EventSlot, SponsorSlot, SpentSlot, slot_seen}
use Rattle.cap_words.specs.Frame.{Among}
use Rattle.cap_words.proofs.Same.{word_is}
use Rattle.quad_memory.specs.Image.{RomImage}
use Rattle.instr_table.specs.declared.charge.Quota.{Quota}
use Rattle.instr_table.specs.Types.{is_sponsor}
use Rattle.instr_table.specs.Event.{Sent, Effects, no_effects, Effect, Nothing, Sends, Creates, Assigns, Becomes, Sponsors, Grants, Reclaims, Starts, Stops, with_effect}
use Rattle.instr_table.specs.Sheet.{Account, stop}
use Rattle.instr_table.specs.Outcome.{Going, Goes}
use Rattle.instr_table.specs.Lane.{Lane, begun, gone, after_going}
use Rattle.instr_table.specs.Reach.{Every}
use Rattle.instr_table.specs.Making.{NoCodeInRam}
use Rattle.instr_table.specs.Plain.{PlainCells, PlainEffect, PlainOutcome}
use Rattle.instr_table.proofs.GotWords.{every-append, every-map}
use Rattle.instr_table.proofs.Plain.{lane-plain, plain-sheet}
use Rattle.vm_sponsor.specs.declared.amounts.Amounts.{Amounts}
use Rattle.vm_sponsor.specs.Sheets.{root_account}
use Rattle.vm_effects.specs.Gathered.{made_words}
use Rattle.vm_turn.specs.declared.journal.Outcome.{Outcome as End}
use Rattle.vm_turn.specs.declared.journal.Outcome.TheVariants.{Committed, Failed, RanOut}
use Rattle.vm_turn.specs.State.{Message, State, root}
use Rattle.vm_turn.specs.Actors.{sent_at, sent_in, at_actor, remade, busy}
use Rattle.vm_turn.specs.Boot.{first_actor, booted}
use Rattle.vm_turn.specs.Turn.{without, numbered_from, own_of, begin, delivered, finish, go_on, released, run_out, turn}
use Rattle.vm_turn.specs.Run.{after}
use Rattle.vm_turn.specs.Sound.{Sound, IsSentIn, StandsIn, FlightSound, created_by}
use Rattle.vm_turn.specs.Alone.{RootAlone, IsUnderRoot, UnderRoot, RootStaysAlone}
use Rattle.vm_turn.proofs.Slots.{sponsor-among}
use Rattle.vm_turn.proofs.TurnCases.{IsPicked, row_of, paid_for, turn-by}
use Rattle.vm_turn.proofs.Taken.{every-get, every-set, every-removed}
use Rattle.vm_turn.proofs.Bound.{turn-sound}
use Rattle.vm_turn.proofs.RunsSound.{boot-sound}
use Rattle.vm_turn.proofs.Actors.{actor-other, going-seen}
use Rattle.vm_turn.proofs.FlightActors.{settled-other, turn-flight, boot-flight}
use Rattle.vm_turn.proofs.Order.{is-next}
use Rattle.vm_turn.proofs.Images.{turn-rom, turn-code_out, boot-code_out}
use Rattle.vm_turn.proofs.Root.{root-spends, root-stops, root-prepared, only-root}

-- ---- messages

abbrev AreUnderRoot : Seen → List Message → Type 0
AreUnderRoot s ms = Every (λ (m : Message). IsUnderRoot s m.event) ms

-- where their events are as they were
under-still : (s t : Seen) (ms : List Message) → ((w : W) → IsUnderRoot s w → slot_seen t w ≡ slot_seen s w) → AreUnderRoot s ms → AreUnderRoot t ms
under-still s t ms f h = every-map (λ (m : Message). IsUnderRoot s m.event) (λ (m : Message). IsUnderRoot t m.event) ms (λ m u. (u.0, u.1, f m.event u ∙ u.2)) h

under-without : (s : Seen) (n : ℕ) (ms : List Message) → AreUnderRoot s ms → AreUnderRoot s (without n ms)
under-without s n [] h = tt
under-without s n (m ∷ ms) h = by (nat_eq m.number n) (under-without s n ms h.1)
  where
    by : (b : Bool) → AreUnderRoot s (without n ms) → AreUnderRoot s (if b then without n ms else m ∷ without n ms)
    by true g = g
    by false g = (h.0, g)

under-sent : (s : Seen) (n : ℕ) (xs : List Sent) → Every (IsSentIn s) xs → Every (λ (m : Sent). m.sponsor ≡ root) xs → AreUnderRoot s (numbered_from n xs)
under-sent s n [] a b = tt
under-sent s n (m ∷ xs) a b = ((m.target, m.content, subst (λ (w : W). slot_seen s m.event ≡ Some (EventSlot w m.target m.content)) b.0 a.0), under-sent s (suc n) xs a.1 b.1)

-- no actor's change is one of an event
event-other : (s : Seen) (a : W) (change : W → W → Slot) (w : W) → IsUnderRoot s w → slot_seen (at_actor s a change) w ≡ slot_seen s w
event-other s a change w u = by (slot_seen s a) refl
  where
    by : (o : Option Slot) → slot_seen s a ≡ o → slot_seen (at_actor s a change) w ≡ slot_seen s w
    by None e = ap (λ (o : Option Slot). slot_seen (remade o change a s) w) e
    by (Some (OpenSlot q)) e = ap (λ (o : Option Slot). slot_seen (remade o change a s) w) e
    by (Some (ActorSlot code state mark)) e = actor-other s a change w (λ d. let x : slot_seen s w ≡ slot_seen s a = ap (λ (v : W). slot_seen s v) d in let y = u.2 in absurd cc)
    by (Some UnbornSlot) e = ap (λ (o : Option Slot). slot_seen (remade o change a s) w) e
    by (Some (EventSlot x y m)) e = ap (λ (o : Option Slot). slot_seen (remade o change a s) w) e
    by (Some SponsorSlot) e = ap (λ (o : Option Slot). slot_seen (remade o change a s) w) e
    by (Some SpentSlot) e = ap (λ (o : Option Slot). slot_seen (remade o change a s) w) e

-- ---- a turn

-- what an event has sent after one more instruction
sent-under : (payer : W) (s : Seen) (f : Effects) (x : Effect) → payer ≡ root → ((w : W) → is_sponsor s w ≡ true → w ≡ root) → PlainEffect payer s x
    → Every (λ (m : Sent). m.sponsor ≡ root) f.sent → Every (λ (m : Sent). m.sponsor ≡ root) (with_effect f x).sent
sent-under payer s f Nothing e r p h = h
sent-under payer s f (Sends m) e r p h = every-append (λ (m : Sent). m.sponsor ≡ root) f.sent (m ∷ []) h (by p, tt)
  where
    by : (m.sponsor ≡ payer) ⊎ (is_sponsor s m.sponsor ≡ true) → m.sponsor ≡ root
    by (inl a) = a ∙ e
    by (inr a) = r m.sponsor a
sent-under payer s f (Creates m) e r p h = h
sent-under payer s f (Assigns m) e r p h = h
sent-under payer s f (Becomes b) e r p h = h
sent-under payer s f (Sponsors w) e r p h = h
sent-under payer s f (Grants w kind n) e r p h = h
sent-under payer s f (Reclaims w) e r p h = h
sent-under payer s f (Starts w signal) e r p h = h
sent-under payer s f (Stops w) e r p h = h

abbrev IsPaidByRoot : Lane → Type 0
IsPaidByRoot l = l.own.sponsor ≡ root

abbrev SendsUnderRoot : Lane → Type 0
SendsUnderRoot l = Every (λ (m : Sent). m.sponsor ≡ root) l.effects.sent

module _ {grant : Amounts} (s : State) (ok : Sound grant s) (flies : FlightSound s) (u : UnderRoot s) where
  pays : (i : ℕ) (l : Lane) → slice_get s.flight i ≡ Some l → l.own.sponsor ≡ root
  pays i l at = every-get IsPaidByRoot s.flight i l u.flight at

  sends : (i : ℕ) (l : Lane) → slice_get s.flight i ≡ Some l → SendsUnderRoot l
  sends i l at = every-get SendsUnderRoot s.flight i l u.sent at

  -- an event begins
  begin-under : (m : Message) → IsUnderRoot s.store m.event → UnderRoot (begin s m.number (sent_at s.store m.event))
  begin-under m h =
      let x = sent_at s.store m.event in
      let payer : x.sponsor ≡ root = ap (λ (o : Option Slot). (sent_in m.event o).sponsor) h.2 in
      record {
        alone = u.alone;
        messages = under-still s.store (at_actor s.store x.target (busy m.number)) s.messages (event-other s.store x.target (busy m.number)) u.messages;
        flight = every-append IsPaidByRoot s.flight (begun m.number (own_of s.store x) ∷ []) u.flight (payer, tt);
        sent = every-append SendsUnderRoot s.flight (begun m.number (own_of s.store x) ∷ []) u.sent (tt, tt);
      }

  delivered-under : (n : ℕ) (end : End) (bytes : List ℕ) → UnderRoot (delivered s n end bytes)
  delivered-under n end bytes = record { alone = u.alone; messages = under-without s.store n s.messages u.messages; flight = u.flight; sent = u.sent }

  -- an event ends, over a sheet in which the root is the only sponsor
  module _ (i : ℕ) (l : Lane) (at : slice_get s.flight i ≡ Some l) (x : Effects) (part : (w : W) → Among w (made_words x.created) → Among w (created_by l))
      (there : Every (IsSentIn s.store) x.sent) (under : Every (λ (m : Sent). m.sponsor ≡ root) x.sent) (sheet : List Account) (end : End) (out : Option Quota) (alone : RootAlone sheet out) where
    abbrev t : State
    t = finish s i l sheet x end

    lane : StandsIn s.store l
    lane = every-get (StandsIn s.store) s.flight i l flies.stands at

    still : (w : W) → IsUnderRoot s.store w → slot_seen t.store w ≡ slot_seen s.store w
    still w h =
        settled-other s ok flies i l at x part w
        (λ d. let a : slot_seen s.store w ≡ slot_seen s.store l.own.actor = ap (λ (v : W). slot_seen s.store v) d in let b = lane.busy in let c = h.2 in absurd cc)
        (λ a. let b = lane.unborn w (part w a) in let c = h.2 in absurd cc)

    finish-under : UnderRoot (record t { out_of = out })
    finish-under = record {
      alone = alone;
      messages =
          under-still s.store t.store (without l.number s.messages ++ numbered_from s.next_number x.sent) still
          (every-append (λ (m : Message). IsUnderRoot s.store m.event) (without l.number s.messages) (numbered_from s.next_number x.sent)
          (under-without s.store l.number s.messages u.messages) (under-sent s.store s.next_number x.sent there under));
      flight = every-removed IsPaidByRoot s.flight i u.flight;
      sent = every-removed SendsUnderRoot s.flight i u.sent;
    }

  module _ (rom : PlainCells s.store.rom) (out : NoCodeInRam s.store) (pick : ℕ) where
    abbrev i : ℕ
    i = pick % length s.flight

    -- an event goes on
    goes-under : (l : Lane) (g : Going) → IsPicked s pick l → (row_of s l).outcome ≡ Goes g → UnderRoot (go_on s i l (paid_for s l) g)
    goes-under l g at is =
        let payer = pays i l at in
        let plain : PlainEffect l.own.sponsor s.store g.effect = subst (PlainOutcome l.own.sponsor s.store) is (lane-plain s.store rom out s.sheet l) in
        let sheet = plain-sheet (paid_for s l) l.own.sponsor s.store g.effect plain in
        let new = gone s.store l g in
        record {
          alone = subst (λ (rows : List Account). RootAlone rows s.out_of) (sym sheet) (root-spends s.sheet s.out_of u.alone l.own.sponsor (row_of s l).charge payer);
          messages = under-still s.store (after_going s.store l.stack g).0 s.messages (λ w h. going-seen s.store l.stack g w _ h.2 ∙ sym h.2) u.messages;
          flight = every-set IsPaidByRoot s.flight i new u.flight payer;
          sent = every-set SendsUnderRoot s.flight i new u.sent
              (sent-under l.own.sponsor s.store l.effects g.effect payer (λ w h. only-root s.sheet s.out_of u.alone w (sponsor-among s.store _ w ok.listed h)) plain (sends i l at));
        }

    ends-under : (l : Lane) → IsPicked s pick l → (x : Effects) (end : End) → ((w : W) → Among w (made_words x.created) → Among w (created_by l))
        → Every (IsSentIn s.store) x.sent → Every (λ (m : Sent). m.sponsor ≡ root) x.sent → UnderRoot (finish s i l (paid_for s l) x end)
    ends-under l at x end part there under =
        finish-under i l at x part there under (paid_for s l) end s.out_of (root-spends s.sheet s.out_of u.alone l.own.sponsor (row_of s l).charge (pays i l at))

    root-out : (l : Lane) (kind : Quota) → IsPicked s pick l → UnderRoot (record (run_out s i l kind) { out_of = Some kind })
    root-out l kind at =
        let payer = pays i l at in
        let none = root-prepared s.sheet s.out_of u.alone l.own.sponsor payer in
        let t = finish s i l (stop s.sheet l.own.sponsor) no_effects (RanOut kind) in
        subst (λ (o : Option W). UnderRoot (record (released o kind t) { out_of = Some kind })) (sym none)
        (finish-under i l at no_effects (λ w a. absurd a) tt tt (stop s.sheet l.own.sponsor) (RanOut kind) (Some kind) (root-stops s.sheet s.out_of u.alone l.own.sponsor kind payer))

    pub turn-under : UnderRoot (turn s pick).0
    turn-under = turn-by s pick (λ t a. UnderRoot t) (record {
      spent = λ kind over. u;
      rests = λ run waits none. u;
      begins = λ m d. let n = is-next s m ok d.first in begin-under m (every-get (λ (k : Message). IsUnderRoot s.store k.event) s.messages n.place m u.messages n.waits);
      writes = λ m device bytes d e. delivered-under m.number Committed bytes;
      refuses = λ m device d e. delivered-under m.number _ [];
      goes = λ l g at paid is. goes-under l g at is;
      fails = λ l w at paid is. ends-under l at no_effects (Failed w) (λ v a. absurd a) tt tt;
      commits = λ l at paid is. ends-under l at l.effects Committed (λ w a. a) (every-get (StandsIn s.store) s.flight i l flies.stands at).sent (sends i l at);
      runs_out = λ l kind at lacks other. let e : same_word l.own.sponsor root ≡ true = ap (λ (w : W). same_word w root) (pays i l at) ∙ word_is root in let d : false ≡ true = sym other ∙ e in absurd cc;
      root_runs_out = λ l kind at lacks same run. root-out l kind at;
    })

-- ---- runs

boot-under : (image : RomImage) (grant : Amounts) (lanes : ℕ) → UnderRoot (booted image grant lanes)
boot-under image grant lanes = record {
  alone = record { account = root_account root grant; only = refl; is_root = refl; no_signal = refl; runs = λ e. refl };
  messages = ((first_actor, _, refl), tt);
  flight = tt;
  sent = tt;
}

after-under : {grant : Amounts} (s : State) (ps : List ℕ) → Sound grant s → FlightSound s → PlainCells s.store.rom → NoCodeInRam s.store → UnderRoot s → UnderRoot (after s ps)
after-under s [] ok flies rom out u = u
after-under {grant = grant} s (p ∷ ps) ok flies rom out u =
    after-under (turn s p).0 ps (turn-sound grant s ok p) (turn-flight s ok flies p) (subst PlainCells (sym (turn-rom s p)) rom) (turn-code_out s p out) (turn-under s ok flies u rom out p)

pub run-under : RootStaysAlone
run-under image grant lanes picks plain =
    after-under (booted image grant lanes) picks (boot-sound image grant lanes) (boot-flight image grant lanes) plain (boot-code_out image grant lanes) (boot-under image grant lanes)
