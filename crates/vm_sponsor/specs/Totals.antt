-- What all sponsors of a plain sheet spent and hold together.
use Rattle.std.specs.Prelude.{ℕ, ◌+◌, ◌*◌, ◌≤◌, List, [], ◌∷◌}
use Rattle.std.specs.List.{sum_by}
use Rattle.cap_words.specs.Words.{W}
use Rattle.instr_table.specs.declared.charge.Quota.{Quota}
use Rattle.instr_table.specs.declared.charge.Quota.TheVariants.{Memory, Events, Cycles}
use Rattle.instr_table.specs.Sheet.{Account, Balances, amount}

-- what fits a fixnum
abbrev pub most_held : ℕ
most_held = 1073741823

-- what a sponsor spent and holds of one kind
abbrev pub kept : Quota → Account → ℕ
kept kind a = (amount kind a).spent + (amount kind a).held

-- what all of them spent and hold of it
abbrev pub total : Quota → List Account → ℕ
total kind sheet = sum_by (kept kind) sheet

-- what was received is what was passed on, spent and is held, of each kind
abbrev pub IsBalanced : Account → Type 0
IsBalanced a = (kind : Quota) → Balances (amount kind a)

-- no more than this was received of any kind
abbrev pub ReceivedAtMost : ℕ → Account → Type 0
ReceivedAtMost most a = (kind : Quota) → (amount kind a).received ≤ most

-- a fact of each account
abbrev pub Each : (Account → Type 0) → List Account → Type 0
Each P [] = Unit {0}
Each P (a ∷ sheet) = P a × Each P sheet

-- the sponsors of a plain sheet
abbrev pub sponsors : List Account → List W
sponsors [] = []
sponsors (a ∷ sheet) = a.sponsor ∷ sponsors sheet

-- a plain sheet after that many transfers: each account is balanced, none received more than so many transfers can bring, and what all
-- spent and hold of one kind fits a fixnum
pub record IsSound (transfers : ℕ) (sheet : List Account) : Type 0 where
  pub balanced : Each IsBalanced sheet
  pub bounded : Each (ReceivedAtMost ((transfers + 1) * most_held)) sheet
  pub fits : (kind : Quota) → total kind sheet ≤ most_held

-- what of one kind moves where n of another kind does
abbrev pub moved : Quota → Quota → ℕ → ℕ
moved Memory Memory n = n
moved Events Events n = n
moved Cycles Cycles n = n
moved kind other n = 0
