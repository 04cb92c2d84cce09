-- What is so of every run.
use Rattle.std.specs.Prelude.{◌≡◌, ℕ, ◌+◌, ◌*◌, ◌<◌, ◌≤◌, true, false, List, length, slice_get, Some, None}
use Rattle.cap_words.specs.Words.{W}
use Rattle.quad_memory.specs.Image.{RomImage}
use Rattle.instr_table.specs.declared.charge.Quota.{Quota}
use Rattle.instr_table.specs.declared.charge.Quota.TheVariants.{Memory}
use Rattle.vm_sponsor.specs.declared.amounts.Amounts.{Amounts}
use Rattle.vm_sponsor.specs.Ledger.{of_kind}
use Rattle.vm_sponsor.specs.Totals.{total, IsBalanced, Each}
use Rattle.vm_turn.specs.State.{Message, State}
use Rattle.vm_turn.specs.Boot.{booted}
use Rattle.vm_turn.specs.Sound.{held_by_all, places}
use Rattle.vm_turn.specs.Turn.{can_go, dispatchable}
use Rattle.vm_turn.specs.Run.{run, completed}

-- over every image, grant, number of lanes and list of picks, no more turns are completed than the cycles and twice the messages that were
-- granted, the first message included: each completed turn spends a cycle, dispatches a message or ends one
abbrev pub TurnsEnd : Type 0
TurnsEnd = (image : RomImage) (grant : Amounts) (lanes : ℕ) (picks : List ℕ) → completed (booted image grant lanes) picks ≤ grant.cycles + 2 * (grant.events + 1)

-- of each kind an account has received what it passed on, spent and holds, after every run
abbrev pub AccountsAddUp : Type 0
AccountsAddUp = (image : RomImage) (grant : Amounts) (lanes : ℕ) (picks : List ℕ) → Each IsBalanced (run image grant lanes picks).sheet

-- of each kind all sponsors together have spent and hold what was granted; and the quads that are taken leave room for the memory that is
-- held, where there is room for the grant and the eight quads of boot
pub record KeepsGrant (grant : Amounts) (s : State) : Type 0 where
  pub amounts : (kind : Quota) → total kind s.sheet ≡ of_kind kind grant
  pub room : length s.store.slots + held_by_all Memory s.sheet ≤ 8 + grant.memory

-- so every run does
abbrev pub GrantsAreConserved : Type 0
GrantsAreConserved = (image : RomImage) (grant : Amounts) (lanes : ℕ) (picks : List ℕ) → KeepsGrant grant (run image grant lanes picks)

-- after every run the event of each word stands in one place at most: as an unfinished message, sent by an event in flight, or prepared as
-- a signal
abbrev pub EventsStandOnce : Type 0
EventsStandOnce = (image : RomImage) (grant : Amounts) (lanes : ℕ) (picks : List ℕ) (w : W) → places w (run image grant lanes picks) ≤ 1

-- a lane is free, and of the unfinished messages that can go this is the one with the least number
pub record IsNext (s : State) (m : Message) : Type 0 where
  pub free : length s.flight < s.lanes
  pub place : ℕ
  pub waits : slice_get s.messages place ≡ Some m
  pub goes : can_go s.store s.sheet s.flight m ≡ true
  pub least : (p : ℕ) (k : Message) → slice_get s.messages p ≡ Some k → can_go s.store s.sheet s.flight k ≡ true → m.number ≤ k.number

-- after every run the message that is dispatched next is that one
abbrev pub LeastGoesFirst : Type 0
LeastGoesFirst = (image : RomImage) (grant : Amounts) (lanes : ℕ) (picks : List ℕ) (m : Message) → dispatchable (run image grant lanes picks) ≡ Some m → IsNext (run image grant lanes picks) m

-- and where no message is dispatched next though a lane is free, none can go
abbrev pub OthersWait : Type 0
OthersWait =
    (image : RomImage) (grant : Amounts) (lanes : ℕ) (picks : List ℕ) (p : ℕ) (k : Message) → dispatchable (run image grant lanes picks) ≡ None
    → length (run image grant lanes picks).flight < (run image grant lanes picks).lanes → slice_get (run image grant lanes picks).messages p ≡ Some k
    → can_go (run image grant lanes picks).store (run image grant lanes picks).sheet (run image grant lanes picks).flight k ≡ false
