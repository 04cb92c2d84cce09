-- Operations that are none of those on sponsors: code that has no other leaves sponsors alone.
use Rattle.std.specs.Prelude.{◌≡◌, ◌⊎◌, true, List, Some}
use Rattle.cap_words.specs.declared.word.Quad.{Quad}
use Rattle.cap_words.specs.Words.{W}
use Rattle.cap_words.specs.Seen.{Seen}
use Rattle.instr_table.specs.declared.op.Op.{Op}
use Rattle.instr_table.specs.declared.op.Op.TheVariants.{SponsorNew, SponsorGrant, SponsorReclaim, SponsorStart, SponsorStop}
use Rattle.instr_table.specs.Code.{operation}
use Rattle.instr_table.specs.Types.{is_sponsor}
use Rattle.instr_table.specs.Event.{Own, Effects, Effect, Nothing, Sends, Creates, Assigns, Becomes, Sponsors, Grants, Reclaims, Starts, Stops}
use Rattle.instr_table.specs.Sheet.{Account}
use Rattle.instr_table.specs.Outcome.{Outcome, Goes, Faults, Commits}
use Rattle.instr_table.specs.Row.{row}
use Rattle.instr_table.specs.Reach.{Every}

-- an operation that is none of the five on sponsors
abbrev pub IsPlain : Op → Type 0
IsPlain SponsorNew = ⊥
IsPlain (SponsorGrant n) = ⊥
IsPlain SponsorReclaim = ⊥
IsPlain SponsorStart = ⊥
IsPlain SponsorStop = ⊥
IsPlain _ = Unit {0}

-- a cell that spells none of the five
abbrev pub IsPlainCell : Quad → Type 0
IsPlainCell q = (op : Op) → operation q ≡ Some op → IsPlain op

-- none of these cells spells one
abbrev pub PlainCells : List Quad → Type 0
PlainCells cells = Every IsPlainCell cells

-- an effect that is none on sponsors; a message that is sent is under the payer, or under a word that names a sponsor
abbrev pub PlainEffect : (payer : W) → Seen → Effect → Type 0
PlainEffect payer s Nothing = Unit {0}
PlainEffect payer s (Sends m) = (m.sponsor ≡ payer) ⊎ (is_sponsor s m.sponsor ≡ true)
PlainEffect payer s (Creates m) = Unit {0}
PlainEffect payer s (Assigns m) = Unit {0}
PlainEffect payer s (Becomes b) = Unit {0}
PlainEffect payer s (Sponsors w) = ⊥
PlainEffect payer s (Grants w kind n) = ⊥
PlainEffect payer s (Reclaims w) = ⊥
PlainEffect payer s (Starts w signal) = ⊥
PlainEffect payer s (Stops w) = ⊥

-- so it is where the event goes on
abbrev pub PlainOutcome : (payer : W) → Seen → Outcome → Type 0
PlainOutcome payer s (Goes g) = PlainEffect payer s g.effect
PlainOutcome payer s (Faults w) = Unit {0}
PlainOutcome payer s Commits = Unit {0}

-- for the row of every such operation
abbrev pub PlainRowsLeaveSponsors : Type 0
PlainRowsLeaveSponsors =
    (own : Own) (op : Op) (s : Seen) (sheet : List Account) (e : Effects) (vs : List W) (k : W)
    → IsPlain op → PlainOutcome own.sponsor s (row own op s sheet e vs k).outcome
