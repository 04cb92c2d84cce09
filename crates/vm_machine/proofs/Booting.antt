-- The machine at boot.
use Rattle.std.proofs.Common.{◌≡◌, ℕ, ◌+◌, ◌≤◌, List, [], ◌∷◌, ◌++◌, length, None, false, ap, sym, ◌∙◌, subst, arith, append_assoc, pos, vec_len}
use Rattle.std.specs.Prelude.{drop, IsTrue, vec_capacity}
use Rattle.std.specs.Global.{Vec}
use Rattle.std.proofs.lemmas.Bool.Decides.{nat_tests}
use Rattle.std.proofs.lemmas.List.{length-append, length-map}
use Rattle.cap_words.specs.Words.{W, Fix, Ram, Cap, undef, nil}
use Rattle.cap_words.specs.Store.{Cell, used, taken, cell_as}
use Rattle.cap_words.specs.declared.word.Tag.TheVariants.{Ordinary}
use Rattle.cap_words.specs.Seen.{Seen, SponsorSlot, SpentSlot, seen, erase, grown}
use Rattle.cap_words.specs.Frame.{Among, Framed}
use Rattle.cap_words.proofs.Erased.{seen-taken}
use Rattle.cap_words.proofs.Frames.{framed-taken}
use Rattle.quad_memory.specs.Memory.{Memory, with_store}
use Rattle.quad_memory.specs.Cells.{actor_cells, event_cells}
use Rattle.quad_memory.specs.Image.{RomImage, is_image}
use Rattle.instr_table.specs.Lists.{pair_quad}
use Rattle.instr_table.specs.declared.charge.Quota.TheVariants.{Cycles}
use Rattle.instr_table.specs.Types.{is_sponsor}
use Rattle.instr_table.specs.Lane.{Lane as Flying}
use Rattle.instr_table.specs.Reach.{Every}
use Rattle.vm_sponsor.specs.declared.amounts.Amounts.{Amounts}
use Rattle.vm_sponsor.specs.Grant.{is_grant}
use Rattle.vm_sponsor.specs.Ledger.{Ledger, names}
use Rattle.vm_sponsor.specs.Totals.{sponsors, total}
use Rattle.vm_sponsor.specs.Sheets.{sheet_of, root_account, Belongs}
use Rattle.vm_sponsor.proofs.Rows.{sponsors-sheet_of}
use Rattle.vm_sponsor.proofs.Framed.{sheet-framed, belongs-framed}
use Rattle.vm_turn.specs.declared.journal.Entry.{Entry}
use Rattle.vm_turn.specs.State.{State, root, println_device, say_device}
use Rattle.vm_turn.specs.Boot.{first_actor, boot_slots, booted}
use Rattle.vm_turn.specs.Sound.{Sound}
use Rattle.vm_turn.specs.Authority.{WordsTaken}
use Rattle.vm_turn.proofs.RunsSound.{boot-sound}
use Rattle.vm_turn.proofs.WordsKept.{boot-taken}
use Rattle.vm_turn.proofs.Slots.{sponsor-among}
use Rattle.event_queue.specs.Pending.{Pending, IsAscending}
use Rattle.vm_step.specs.declared.lane.Lane.{Lane}
use Rattle.vm_step.specs.Books.{Books, held_quads}
use Rattle.vm_machine.specs.declared.parts.Parts.{Parts}
use Rattle.vm_machine.specs.declared.boot.BootWords.{BootWords}
use Rattle.vm_machine.specs.Messages.{unfinished}
use Rattle.vm_machine.specs.Flight.{flight_of, Flies, Separate, Pairwise}
use Rattle.vm_machine.specs.View.{state_of}
use Rattle.vm_machine.specs.Whole.{Kept, Whole, created_in}

-- ---- the quads

-- a memory, and it after these quads were taken
abbrev Took : Memory → Memory → List Cell → Type 0
Took m n cells = n ≡ with_store m (taken m.store cells)

took-then : (m n o : Memory) (a b : List Cell) → Took m n a → Took n o b → Took m o (a ++ b)
took-then m n o a b x y =
    y ∙ ap (λ (k : Memory). with_store k (taken k.store b)) x ∙ (let e = append_assoc m.store.ram a b in λ i. record { store = record { rom = m.store.rom; ram = e i }; room = m.room })

took-used : (m n : Memory) (cells : List Cell) → Took m n cells → used n.store ≡ used m.store + length cells
took-used m n cells x = ap (λ (k : Memory). used k.store) x ∙ length-append m.store.ram cells

-- the quad of an idle actor
abbrev idle_cells : W → W → List Cell
idle_cells code state = actor_cells (record { code = code; state = state; mark = undef })

-- the quad of a pair
abbrev pair_cells : W → W → List Cell
pair_cells head tail = cell_as Ordinary (pair_quad head tail) ∷ []

-- what boot takes after the root sponsor, where these are its words
abbrev boot_cells : W → W → W → W → W → W → List Cell
boot_cells code println say end devices first =
    idle_cells (Fix (pos 0)) undef ++ idle_cells (Fix (pos 1)) undef ++ pair_cells say nil ++ pair_cells println end ++ idle_cells code devices ++ event_cells (record { sponsor = root; target = first; message = nil; next = nil })

module _ (code sponsor zero_word one_word println say end devices first : W) (m0 m1 m2 m3 m4 m5 m6 : Memory) (used_is : used m0.store ≡ 2)
    (sponsor_is : sponsor ≡ root) (zero_is : zero_word ≡ Fix (pos 0)) (one_is : one_word ≡ Fix (pos 1))
    (println_is : println ≡ Cap (used m0.store)) (t1 : Took m0 m1 (idle_cells zero_word undef))
    (say_is : say ≡ Cap (used m1.store)) (t2 : Took m1 m2 (idle_cells one_word undef))
    (end_is : end ≡ Ram (used m2.store)) (t3 : Took m2 m3 (pair_cells say nil))
    (devices_is : devices ≡ Ram (used m3.store)) (t4 : Took m3 m4 (pair_cells println end))
    (first_is : first ≡ Cap (used m4.store)) (t5 : Took m4 m5 (idle_cells code devices))
    (t6 : Took m5 m6 (event_cells (record { sponsor = sponsor; target = first; message = nil; next = nil }))) where
  boot-took : Took m0 m6 (boot_cells code println_device say_device (Ram 4) (Ram 5) first_actor)
  boot-took =
      let u1 : used m1.store ≡ 3 = (let e = took-used m0 m1 (idle_cells zero_word undef) t1 in omega (arith, e, used_is)) in
      let u2 : used m2.store ≡ 4 = (let e = took-used m1 m2 (idle_cells one_word undef) t2 in omega (arith, e, u1)) in
      let u3 : used m3.store ≡ 5 = (let e = took-used m2 m3 (pair_cells say nil) t3 in omega (arith, e, u2)) in
      let u4 : used m4.store ≡ 6 = (let e = took-used m3 m4 (pair_cells println end) t4 in omega (arith, e, u3)) in
      let p : println ≡ println_device = println_is ∙ ap Cap used_is in
      let s : say ≡ say_device = say_is ∙ ap Cap u1 in
      let e : end ≡ Ram 4 = end_is ∙ ap Ram u2 in
      let d : devices ≡ Ram 5 = devices_is ∙ ap Ram u3 in
      let f : first ≡ first_actor = first_is ∙ ap Cap u4 in
      let t1' : Took m0 m1 (idle_cells (Fix (pos 0)) undef) = subst (λ (w : W). Took m0 m1 (idle_cells w undef)) zero_is t1 in
      let t2' : Took m1 m2 (idle_cells (Fix (pos 1)) undef) = subst (λ (w : W). Took m1 m2 (idle_cells w undef)) one_is t2 in
      let t3' : Took m2 m3 (pair_cells say_device nil) = subst (λ (w : W). Took m2 m3 (pair_cells w nil)) s t3 in
      let t4' : Took m3 m4 (pair_cells println_device (Ram 4)) = subst (λ (w : W). Took m3 m4 (pair_cells println_device w)) e (subst (λ (w : W). Took m3 m4 (pair_cells w end)) p t4) in
      let t5' : Took m4 m5 (idle_cells code (Ram 5)) = subst (λ (w : W). Took m4 m5 (idle_cells code w)) d t5 in
      let t6' : Took m5 m6 (event_cells (record { sponsor = root; target = first_actor; message = nil; next = nil })) = subst (λ (w : W). Took m5 m6 (event_cells (record { sponsor = root; target = w; message = nil; next = nil }))) f
      (subst (λ (w : W). Took m5 m6 (event_cells (record { sponsor = w; target = first; message = nil; next = nil }))) sponsor_is t6) in
      took-then m0 m1 m6 _ _ t1' (took-then m1 m2 m6 _ _ t2' (took-then m2 m3 m6 _ _ t3' (took-then m3 m4 m6 _ _ t4' (took-then m4 m5 m6 _ _ t5' t6'))))

  pub actors-seen : seen m6.store ≡ grown (seen m0.store) (drop 2 (boot_slots code))
  actors-seen = ap (λ (k : Memory). seen k.store) boot-took ∙ seen-taken m0.store (boot_cells code println_device say_device (Ram 4) (Ram 5) first_actor)

  pub actors-frame : Framed m0.store m6.store []
  actors-frame = subst (λ (k : Memory). Framed m0.store k.store []) (sym boot-took) (framed-taken m0.store (boot_cells code println_device say_device (Ram 4) (Ram 5) first_actor) [])

-- ---- the parts

module _ (image : RomImage) (grant : Amounts) (lanes memory events : ℕ) (code sponsor : W) (words : BootWords) (m0 m1 m2 : Memory) (sheet : Ledger) (queue : Pending) (roll : Vec W) (flight : Vec Lane) (journal : Vec Entry)
    (memory_is : memory ≡ grant.memory) (memory_limit : memory ≤ 16777216) (events_is : events ≡ grant.events) (events_limit : events ≤ 4194304) (code_is : code ≡ image.boot) (sponsor_is : sponsor ≡ root)
    (words_are : words ≡ record { println = println_device; say = say_device; first = first_actor; event = Cap 7 }) (some_lanes : 1 ≤ lanes) (lanes_limit : lanes ≤ 64)
    (empty : m0 ≡ record { store = record { rom = image.cells; ram = [] }; room = memory + 16 })
    (rooted : sheet_of m1.store sheet.rows ≡ root_account (Cap (used m0.store)) grant ∷ []) (belongs : Belongs m1.store sheet) (rows_room : sheet.room ≡ 65536) (transfers : sheet.transfers ≡ 0)
    (seen1 : seen m1.store ≡ grown (seen m0.store) (SponsorSlot ∷ SpentSlot ∷ [])) (room1 : m1.room ≡ m0.room)
    (seen2 : seen m2.store ≡ grown (seen m1.store) (drop 2 (boot_slots code))) (frame2 : Framed m1.store m2.store []) (room2 : m2.room ≡ m1.room)
    (queue_is : queue ≡ record { given = words.event ∷ []; ready = 0 ∷ []; room = events + 1 })
    (roll_is : roll.items ≡ words.first ∷ words.println ∷ words.say ∷ []) (roll_room : memory + 16 ≤ vec_capacity roll)
    (flight_is : flight.items ≡ []) (flight_len : vec_len flight ≡ 0) (flight_room : lanes ≤ vec_capacity flight)
    (journal_is : journal.items ≡ []) (journal_room : events + 1 ≤ vec_capacity journal) where
  abbrev parts : Parts
  parts = record { quads = m2; sheet = sheet; queue = queue; roll = roll; flight = flight; lanes = lanes; journal = journal; out_of = None; grant = grant; known = record { root = sponsor; println = words.println; say = words.say }; stuck = false }

  abbrev begun : State
  begun = booted image grant lanes

  seen_is : seen m2.store ≡ begun.store
  seen_is =
      seen2 ∙ ap (λ (w : W). grown (seen m1.store) (drop 2 (boot_slots w))) code_is
      ∙ ap (λ (s : Seen). grown s (drop 2 (boot_slots image.boot))) (seen1 ∙ ap (λ (m : Memory). grown (seen m.store) (SponsorSlot ∷ SpentSlot ∷ [])) empty)

  used_is : used m2.store ≡ 8
  used_is = sym (length-map m2.store.ram erase) ∙ ap (λ (s : Seen). length s.slots) seen_is

  room_is : m2.room ≡ grant.memory + 16
  room_is = room2 ∙ room1 ∙ ap (λ (m : Memory). m.room) empty ∙ ap (λ (n : ℕ). n + 16) memory_is

  sheet_is : sheet_of m2.store sheet.rows ≡ root_account root grant ∷ []
  sheet_is = sheet-framed m1.store m2.store [] sheet belongs frame2 (λ v a. absurd a) ∙ rooted ∙ ap (λ (m : Memory). root_account (Cap (used m.store)) grant ∷ []) empty

  names_are : names sheet.rows ≡ root ∷ []
  names_are = sym (sponsors-sheet_of m2.store sheet.rows) ∙ ap sponsors sheet_is

  flying_is : flight_of m2.store flight.items ≡ []
  flying_is = ap (flight_of m2.store) flight_is

  pending_is : queue ≡ record { given = Cap 7 ∷ []; ready = 0 ∷ []; room = grant.events + 1 }
  pending_is = queue_is ∙ (let w = words_are in let n = events_is in λ i. record { given = (w i).event ∷ []; ready = 0 ∷ []; room = n i + 1 })

  -- what the root holds fits a fixnum, and so do the cycles that were granted
  granted : IsTrue (is_grant grant.memory grant.events grant.cycles)
  granted =
      let fits = belongs.sound.fits Cycles in
      let t : total Cycles (sheet_of m1.store sheet.rows) ≡ grant.cycles = ap (total Cycles) rooted ∙ omega arith in
      let cycles_limit : grant.cycles ≤ 1073741823 = omega (arith, fits, t) in
      grind (arith, nat_tests, memory_is, memory_limit, events_is, events_limit, cycles_limit)

  books : Books m2 sheet
  books = record {
    belongs = belongs-framed m1.store m2.store [] sheet belongs frame2 (λ v a. absurd a);
    listed = λ w h. subst (λ (ws : List W). Among w ws) (sym names_are) (sponsor-among begun.store (root ∷ []) w (boot-sound image grant lanes).listed (ap (λ (s : Seen). is_sponsor s w) (sym seen_is) ∙ h));
    rows_room = rows_room;
    covered = (let h = ap held_quads sheet_is in omega (arith, h, used_is, room_is));
  }

  kept : Kept parts
  kept =
      let g : length queue.given ≡ 1 = ap (λ (q : Pending). length q.given) pending_is in
      let r : length queue.ready ≡ 1 = ap (λ (q : Pending). length q.ready) pending_is in
      let q : queue.room ≡ grant.events + 1 = ap (λ (x : Pending). x.room) pending_is in
      let f : length flight.items ≡ 0 = ap (λ (ls : List Lane). length ls) flight_is in
      let j : length journal.items ≡ 0 = ap (λ (es : List Entry). length es) journal_is in
      let n : length roll.items ≡ 3 = ap (λ (ws : List W). length ws) roll_is in
      let c : created_in (flight_of m2.store flight.items) ≡ 0 = ap created_in flying_is in
      record {
        books = books;
        transfers = omega (arith, transfers);
        flying = subst (λ (ls : List Lane). Every (Flies m2.store (names sheet.rows) queue.given queue.ready) ls) (sym flight_is) tt;
        apart = subst (λ (ls : List Lane). Pairwise (Separate m2.store) ls) (sym flight_is) tt;
        granted = granted;
        some_lanes = some_lanes;
        lanes_limit = lanes_limit;
        few = omega (arith, flight_len);
        flight_room = flight_room;
        queue_room = q;
        counts = omega (arith, g, r, f, j);
        given_room = omega (arith, g, q);
        ascending = subst (λ (x : Pending). IsAscending 0 (length x.given) x.ready) (sym pending_is) (omega arith, omega arith, tt);
        journal_room = omega (arith, q, events_is, journal_room);
        actors = omega (arith, n, c, used_is);
        used_room = omega (arith, used_is, room_is);
        roll_room = omega (arith, room_is, memory_is, roll_room);
        known = record {
          root_is = sponsor_is;
          println_is = ap (λ (w : BootWords). w.println) words_are;
          say_is = ap (λ (w : BootWords). w.say) words_are;
        };
      }

  pub state-booted : state_of parts ≡ booted image grant lanes
  state-booted =
      let m : unfinished queue.given queue.ready (flight_of m2.store flight.items) ≡ begun.messages =
      ap (λ (q : Pending). unfinished q.given q.ready (flight_of m2.store flight.items)) pending_is ∙ ap (λ (ls : List Flying). unfinished (Cap 7 ∷ []) (0 ∷ []) ls) flying_is in
      let n : length queue.given ≡ 1 = ap (λ (q : Pending). length q.given) pending_is in
      let s = seen_is in
      let r : roll.items ≡ begun.roll = roll_is ∙ ap (λ (w : BootWords). w.first ∷ w.println ∷ w.say ∷ []) words_are in
      let f = flying_is in let sh = sheet_is in let j = journal_is in
      λ i. record (state_of parts) { store = s i; roll = r i; messages = m i; next_number = n i; flight = f i; sheet = sh i; journal = j i }

  pub whole-booted : IsTrue (is_image image.boot image.cells) → Whole parts
  whole-booted is = record {
    kept = kept;
    sound = subst (λ (s : State). Sound grant s) (sym state-booted) (boot-sound image grant lanes);
    taken = subst WordsTaken (sym state-booted) (boot-taken image grant lanes is);
    waits = λ e. cc;
  }
