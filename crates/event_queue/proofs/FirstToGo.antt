-- The messages that ready numbers stand for, and the first of them that the written turn dispatches.
use Rattle.std.proofs.Common.{◌≡◌, ℕ, List, [], ◌∷◌, Option, Some, None, Bool, true, false, if◌then◌else◌, refl, ap, sym, ◌∙◌, inl, inr}
use Rattle.std.specs.Prelude.{option_map, ◌&&◌}
use Rattle.cap_words.specs.Words.{W, same_word}
use Rattle.cap_words.specs.Store.{Store}
use Rattle.cap_words.specs.Seen.{Seen, seen}
use Rattle.cap_words.specs.Frame.{Among}
use Rattle.cap_words.proofs.Same.{word_same}
use Rattle.quad_memory.specs.declared.cells.SponsorCell.{SponsorCell}
use Rattle.quad_memory.specs.Cells.{sponsor_at}
use Rattle.instr_table.specs.Sheet.{Account, runs}
use Rattle.instr_table.specs.Lane.{Lane}
use Rattle.vm_sponsor.specs.declared.amounts.Row.{Row}
use Rattle.vm_sponsor.specs.Ledger.{Ledger, names}
use Rattle.vm_sponsor.specs.Sheets.{Belongs, sheet_of}
use Rattle.vm_sponsor.proofs.Steps.{read-runs}
use Rattle.vm_turn.specs.State.{Message}
use Rattle.vm_turn.specs.Actors.{sent_at, is_idle}
use Rattle.vm_turn.specs.Turn.{is_in_flight, first_to_go}
use Rattle.event_queue.specs.Pending.{event_of}
use Rattle.event_queue.specs.Starts.{runs_by, can_start, first_ready}
use Rattle.event_queue.specs.Waiting.{message_of, messages_of, waiting, IsListed, FirstReadyGoesFirst}

-- a sponsor of the sheet runs where its cell says so
pub runs-cell : (s : Store) (sheet : Ledger) (w : W) → Belongs s sheet → Among w (names sheet.rows) → runs (sheet_of s sheet.rows) w ≡ runs_by (sponsor_at s w)
runs-cell s sheet w b a =
    let c = b.there w a in
    read-runs s sheet.rows w c.0 (record { named = a; cell = c.1; amounts = c.2 }) ∙ sym (ap runs_by c.1)

-- where no row is a sponsor's it does not run
unknown : (s : Store) (rows : List Row) (w : W) → (Among w (names rows) → ⊥) → runs (sheet_of s rows) w ≡ false
unknown s [] w h = refl
unknown s (r ∷ rows) w h = by (same_word r.sponsor w) refl (unknown s rows w (λ a. h (inr a)))
  where
    by : (b : Bool) → same_word r.sponsor w ≡ b → runs (sheet_of s rows) w ≡ false → runs (sheet_of s (r ∷ rows)) w ≡ false
    by true e k = absurd (h (inl (sym (word_same r.sponsor w e))))
    by false e k = rw e k

-- a word runs by the sheet where it does by its cell
pub runs-listed : (s : Store) (sheet : Ledger) → Belongs s sheet → IsListed s sheet → (w : W) → runs (sheet_of s sheet.rows) w ≡ runs_by (sponsor_at s w)
runs-listed s sheet b l w = by (sponsor_at s w) refl
  where
    by : (o : Option SponsorCell) → sponsor_at s w ≡ o → runs (sheet_of s sheet.rows) w ≡ runs_by (sponsor_at s w)
    by None h = unknown s sheet.rows w (λ a. let c = b.there w a in none c.0 (sym h ∙ c.1)) ∙ sym (ap runs_by h)
      where
        none : (c : SponsorCell) → None ≡ Some c → ⊥
        none c e = cc
    by (Some c) h = runs-cell s sheet w b (l w c h)

-- whether a message that is not in flight can go
abbrev can_begin : Seen → List Account → Message → Bool
can_begin s sheet m = is_idle s (sent_at s m.event).target && runs sheet (sent_at s m.event).sponsor

-- the first of these messages that can go, wherever they are
abbrev first_begun : Seen → List Account → List Message → Option Message
first_begun s sheet [] = None
first_begun s sheet (m ∷ ms) = if can_begin s sheet m then Some m else first_begun s sheet ms

-- the first that can go is the first of those that are not in flight
waiting-first : (s : Seen) (sheet : List Account) (flight : List Lane) (ms : List Message) → first_to_go s sheet flight ms ≡ first_begun s sheet (waiting flight ms)
waiting-first s sheet flight [] = refl
waiting-first s sheet flight (m ∷ ms) = by (is_in_flight m.number flight) refl (waiting-first s sheet flight ms)
  where
    by : (b : Bool) → is_in_flight m.number flight ≡ b → first_to_go s sheet flight ms ≡ first_begun s sheet (waiting flight ms)
        → first_to_go s sheet flight (m ∷ ms) ≡ first_begun s sheet (waiting flight (m ∷ ms))
    by true e r = rw e r
    by false e r = rw e (ap (λ (o : Option Message). if can_begin s sheet m then Some m else o) r)

-- of the messages of ready numbers it is that of the first ready one
ready-first : (s : Store) (sheet : Ledger) (given : List W) (ns : List ℕ) → Belongs s sheet → IsListed s sheet
    → first_begun (seen s) (sheet_of s sheet.rows) (messages_of given ns) ≡ option_map (message_of given) (first_ready s given ns)
ready-first s sheet given [] b h = refl
ready-first s sheet given (n ∷ ns) b h =
    let m = sent_at (seen s) (event_of given n) in
    let e : can_begin (seen s) (sheet_of s sheet.rows) (message_of given n) ≡ can_start s (event_of given n) = ap (λ (r : Bool). is_idle (seen s) m.target && r) (runs-listed s sheet b h m.sponsor) in
    by (can_start s (event_of given n)) (first_ready s given ns) e (ready-first s sheet given ns b h)
  where
    by : (t : Bool) (rest : Option ℕ) {o : Option Message} {u : Bool} → u ≡ t → o ≡ option_map (message_of given) rest
        → (if u then Some (message_of given n) else o) ≡ option_map (message_of given) (if t then Some n else rest)
    by true rest e r = rw e refl
    by false rest e r = rw e r

pub first-ready_goes_first : FirstReadyGoesFirst
first-ready_goes_first s sheet flight messages q b l e =
    waiting-first (seen s) (sheet_of s sheet.rows) flight messages
    ∙ ap (first_begun (seen s) (sheet_of s sheet.rows)) e
    ∙ ready-first s sheet q.given q.ready b l
