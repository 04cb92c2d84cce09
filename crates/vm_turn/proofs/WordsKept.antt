-- Every turn keeps that each word names a quad that is taken.
use Rattle.std.proofs.Common.{◌≡◌, ℕ, ◌<◌, ◌≤◌, Bool, true, false, ◌&&◌, List, [], ◌∷◌, length, Option, Some, None, refl, sym, subst, arith, IsTrue}
use Rattle.std.specs.Prelude.{slice_get, pos}
use Rattle.std.specs.List.{list_all}
use Rattle.cap_words.specs.declared.word.Quad.{Quad}
use Rattle.cap_words.specs.Words.{W, Fix, Rom, Ram, Cap}
use Rattle.quad_memory.specs.Image.{RomImage, is_cell_count, is_boot_word, is_rom_word, is_rom_quad, is_image}
use Rattle.instr_table.specs.declared.charge.Quota.{Quota}
use Rattle.instr_table.specs.Lists.{next_quad}
use Rattle.instr_table.specs.Event.{Effects, no_effects}
use Rattle.instr_table.specs.Sheet.{Account, prepared, stop}
use Rattle.instr_table.specs.Outcome.{Going, Goes}
use Rattle.instr_table.specs.Lane.{Lane, values, begun, lane_row, gone, after_going}
use Rattle.instr_table.specs.Reach.{Every}
use Rattle.instr_table.specs.Authority.{effects_words, IsTaken, SlotTaken, ImageCell, AllTaken}
use Rattle.instr_table.proofs.GotWords.{every-append, every-map}
use Rattle.instr_table.proofs.Authorities.{keeps-authority}
use Rattle.vm_sponsor.specs.declared.amounts.Amounts.{Amounts}
use Rattle.vm_turn.specs.declared.journal.Outcome.{Outcome as End}
use Rattle.vm_turn.specs.declared.journal.Outcome.TheVariants.{RanOut}
use Rattle.vm_turn.specs.State.{Message, State}
use Rattle.vm_turn.specs.Boot.{booted}
use Rattle.vm_turn.specs.Actors.{sent_at}
use Rattle.vm_turn.specs.Turn.{signal_number, own_of, begin, finish, go_on, released, turn}
use Rattle.vm_turn.specs.Run.{after, run}
use Rattle.vm_turn.specs.Authority.{LaneTaken, WordsTaken}
use Rattle.vm_turn.proofs.Slots.{Alike, alike-busy, alike-content, alike-settled, length-going}
use Rattle.vm_turn.proofs.TurnCases.{EachKind, turn-by}
use Rattle.vm_turn.proofs.Taken.{every-get, every-set, every-removed, every-right, lane-more, busy-taken, settled-taken, content-taken, sent-taken, behaviour-taken}

-- ---- a turn

module _ (s : State) (h : WordsTaken s) where
  abbrev room : ℕ
  room = next_quad s.store

  -- the store changes at some quads, and these events are in flight
  still-taken : (t : State) → Alike s.store t.store → Every (SlotTaken room) t.store.slots → Every (LaneTaken room) t.flight → WordsTaken t
  still-taken t a c f = record {
    image = subst (λ (rom : List Quad). Every ImageCell rom) (sym a.rom_is) h.image;
    cells = subst (λ (k : ℕ). Every (SlotTaken k) t.store.slots) (sym a.as_many) c;
    flight = subst (λ (k : ℕ). Every (LaneTaken k) t.flight) (sym a.as_many) f;
  }

  pub begun-taken : (m : Message) → LaneTaken room (begun m.number (own_of s.store (sent_at s.store m.event)))
  begun-taken m =
      let w = sent-taken room s.store m.event h.cells in
      let b = behaviour-taken room s.store (sent_at s.store m.event).target h.cells in
      record { stack = tt; words = (w.0, (b.0, (w.1, (b.0, (b.1, (w.2, tt)))))) }

  pub begin-taken : (m : Message) → WordsTaken (begin s m.number (sent_at s.store m.event))
  begin-taken m =
      let x = sent_at s.store m.event in
      let l = begun m.number (own_of s.store x) in
      still-taken (begin s m.number x) (alike-busy s.store x.target m.number) (busy-taken room s.store x.target m.number h.cells) (every-append (LaneTaken room) s.flight (l ∷ []) h.flight (begun-taken m, tt))

  -- the words of an event's record
  record-taken : (l : Lane) → LaneTaken room l → Every (IsTaken room) (effects_words l.own.sponsor l.effects)
  record-taken l t = every-right (IsTaken room) (values l.stack) (effects_words l.own.sponsor l.effects) t.words.1.1.1.1.1.1

  pub finish-taken : (i : ℕ) (l : Lane) (sheet : List Account) (x : Effects) (end : End) → Every (IsTaken room) (effects_words l.own.sponsor x) → WordsTaken (finish s i l sheet x end)
  finish-taken i l sheet x end k =
      still-taken (finish s i l sheet x end) (alike-settled s.store l.own.actor x) (settled-taken room s.store l.own.actor l.own.sponsor x h.cells k) (every-removed (LaneTaken room) s.flight i h.flight)

  released-taken : (o : Option W) (kind : Quota) → WordsTaken (released o kind s)
  released-taken None kind = h
  released-taken (Some w) kind =
      still-taken (released (Some w) kind s) (alike-content s.store w (Fix (pos (signal_number kind)))) (content-taken room s.store w (Fix (pos (signal_number kind))) h.cells tt) h.flight

  pub go_on-taken : (i : ℕ) (l : Lane) (sheet : List Account) (g : Going) → slice_get s.flight i ≡ Some l → (lane_row s.store s.sheet l).outcome ≡ Goes g → WordsTaken (go_on s i l sheet g)
  go_on-taken i l sheet g at is =
      let t = every-get (LaneTaken room) s.flight i l h.flight at in
      let old : AllTaken s.store l = record { image = h.image; cells = h.cells; stack = t.stack; words = t.words } in
      let k = (keeps-authority s.store s.sheet l g is old).0 in
      let e = length-going s.store l.stack g in
      let up = next_quad (after_going s.store l.stack g).0 in
      let more : room ≤ up = omega (arith, e) in
      let new : LaneTaken up (gone s.store l g) = record { stack = k.stack; words = k.words } in
      record {
        image = k.image;
        cells = k.cells;
        flight = every-set (LaneTaken up) s.flight i (gone s.store l g) (every-map (LaneTaken room) (LaneTaken up) s.flight (λ x y. lane-more room up x more y) h.flight) new;
      }

  run_out-taken : (i : ℕ) (l : Lane) (kind : Quota) → WordsTaken (finish s i l (stop s.sheet l.own.sponsor) no_effects (RanOut kind))
  run_out-taken i l kind = finish-taken i l (stop s.sheet l.own.sponsor) no_effects (RanOut kind) tt

out-taken : (u : State) (kind : Quota) → WordsTaken u → WordsTaken (record u { out_of = Some kind })
out-taken u kind h = record { image = h.image; cells = h.cells; flight = h.flight }

turn-each : (s : State) (pick : ℕ) → WordsTaken s → EachKind s pick (λ t a. WordsTaken t)
turn-each s pick h = record {
  spent = λ kind out. h;
  rests = λ run waits none. h;
  begins = λ m d. begin-taken s h m;
  writes = λ m device bytes d e. record { image = h.image; cells = h.cells; flight = h.flight };
  refuses = λ m device d e. record { image = h.image; cells = h.cells; flight = h.flight };
  goes = λ l g at paid is. go_on-taken s h _ l _ g at is;
  fails = λ l w at paid is. finish-taken s h _ l _ no_effects _ tt;
  commits = λ l at paid is. finish-taken s h _ l _ l.effects _ (record-taken s h l (every-get (LaneTaken (next_quad s.store)) s.flight _ l h.flight at));
  runs_out = λ l kind at lacks other. released-taken _ (run_out-taken s h _ l kind) (prepared s.sheet l.own.sponsor) kind;
  root_runs_out = λ l kind at lacks same run. out-taken _ kind (released-taken _ (run_out-taken s h _ l kind) (prepared s.sheet l.own.sponsor) kind);
}

pub turn-taken : (s : State) (pick : ℕ) → WordsTaken s → WordsTaken (turn s pick).0
turn-taken s pick h = turn-by s pick (λ t a. WordsTaken t) (turn-each s pick h)

pub after-taken : (s : State) (ps : List ℕ) → WordsTaken s → WordsTaken (after s ps)
after-taken s [] h = h
after-taken s (p ∷ ps) h = after-taken (turn s p).0 ps (turn-taken s p h)

-- ---- boot

rom-word : (count : ℕ) (w : W) → is_rom_word count w ≡ true → IsTaken 0 w
rom-word count (Fix n) h = tt
rom-word count (Rom n) h = tt
rom-word count (Ram n) h = cc
rom-word count (Cap n) h = cc

four : (a b c d : Bool) → (a && b && c && d) ≡ true → (a ≡ true) × (b ≡ true) × (c ≡ true) × (d ≡ true)
four true true true true h = (refl, refl, refl, refl)
four true true true false h = cc
four true true false d h = cc
four true false c d h = cc
four false b c d h = cc

three : (a b c : Bool) → (a && b && c) ≡ true → (b ≡ true) × (c ≡ true)
three true true true h = (refl, refl)
three true true false h = cc
three true false c h = cc
three false b c h = cc

rom-quad : (count : ℕ) (q : Quad) → is_rom_quad count q ≡ true → ImageCell q
rom-quad count q h = let f = four _ _ _ _ h in (rom-word count q.t f.0, (rom-word count q.x f.1, (rom-word count q.y f.2, (rom-word count q.z f.3, tt))))

rom-cells : (count : ℕ) (qs : List Quad) → list_all (is_rom_quad count) qs ≡ true → Every ImageCell qs
rom-cells count [] h = tt
rom-cells count (q ∷ qs) h = let b = both (is_rom_quad count q) (list_all (is_rom_quad count) qs) h in (rom-quad count q b.0, rom-cells count qs b.1)
  where
    both : (a b : Bool) → (a && b) ≡ true → (a ≡ true) × (b ≡ true)
    both true true h = (refl, refl)
    both true false h = cc
    both false b h = cc

boot-word : (count : ℕ) (w : W) → is_boot_word count w ≡ true → IsTaken 8 w
boot-word count (Fix n) h = cc
boot-word count (Rom n) h = tt
boot-word count (Ram n) h = cc
boot-word count (Cap n) h = cc

pub boot-taken : (image : RomImage) (grant : Amounts) (lanes : ℕ) → IsTrue (is_image image.boot image.cells) → WordsTaken (booted image grant lanes)
boot-taken image grant lanes h =
    let t = three (is_cell_count (length image.cells)) (is_boot_word (length image.cells) image.boot) (list_all (is_rom_quad (length image.cells)) image.cells) h in
    let zero : 0 < 8 = omega arith in
    let two : 2 < 8 = omega arith in
    let three : 3 < 8 = omega arith in
    let four : 4 < 8 = omega arith in
    let five : 5 < 8 = omega arith in
    let six : 6 < 8 = omega arith in
    record {
      image = rom-cells (length image.cells) image.cells t.1;
      cells = (tt, (tt, ((tt, tt), ((tt, tt), ((tt, (three, (tt, (tt, tt)))), ((tt, (two, (four, (tt, tt)))), ((boot-word _ _ t.0, five), ((zero, six, tt), tt))))))));
      flight = tt;
    }

pub run-taken : (image : RomImage) (grant : Amounts) (lanes : ℕ) (picks : List ℕ) → IsTrue (is_image image.boot image.cells) → WordsTaken (run image grant lanes picks)
run-taken image grant lanes picks h = after-taken (booted image grant lanes) picks (boot-taken image grant lanes h)
