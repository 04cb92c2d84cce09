-- Which message starts next.
use Rattle.std.specs.Prelude.{◌≡◌, ℕ, ◌<◌, Bool, true, false, not, ◌&&◌, if◌then◌else◌, List, [], ◌∷◌, length, Option, Some, None}
use Rattle.std.specs.List.{Contains}
use Rattle.cap_words.specs.Words.{W, same_word, undef}
use Rattle.cap_words.specs.Store.{Store}
use Rattle.cap_words.specs.Seen.{seen}
use Rattle.quad_memory.specs.declared.cells.SponsorCell.{SponsorCell}
use Rattle.quad_memory.specs.Cells.{sponsor_at}
use Rattle.vm_turn.specs.Actors.{sent_at, is_idle}
use Rattle.event_queue.specs.Pending.{Pending, event_of}

-- a sponsor runs where its signal is not `#?`; where none is there, none runs
abbrev pub runs_by : Option SponsorCell → Bool
runs_by None = false
runs_by (Some c) = not (same_word c.signal undef)

-- whether an event's target is idle and its sponsor runs
abbrev pub can_start : Store → W → Bool
can_start s w = is_idle (seen s) (sent_at (seen s) w).target && runs_by (sponsor_at s (sent_at (seen s) w).sponsor)

-- the first of these messages that can start
abbrev pub first_ready : Store → List W → List ℕ → Option ℕ
first_ready s given [] = None
first_ready s given (n ∷ ns) = if can_start s (event_of given n) then Some n else first_ready s given ns

-- the message has an event, is ready and can start, and no ready one with a lower number can
pub record StartsFirst (s : Store) (q : Pending) (n : ℕ) : Type 0 where
  pub given : n < length q.given
  pub ready : Contains q.ready n
  pub starts : can_start s (event_of q.given n) ≡ true
  pub before : (m : ℕ) → Contains q.ready m → m < n → can_start s (event_of q.given m) ≡ false

-- no ready message can start
abbrev pub NoneStarts : Store → Pending → Type 0
NoneStarts s q = (m : ℕ) → Contains q.ready m → can_start s (event_of q.given m) ≡ false
