-- The sheet: what each sponsor received, passed on, spent and holds of each kind, and whether it runs.
use Rattle.std.specs.Prelude.{◌≡◌, ℕ, ◌+◌, ◌-◌, nat_lt, if◌then◌else◌, Bool, true, false, List, [], ◌∷◌, ◌++◌, Option, Some, None}
use Rattle.cap_words.specs.Words.{W, same_word}
use Rattle.instr_table.specs.declared.charge.Charge.{Charge}
use Rattle.instr_table.specs.declared.charge.Quota.{Quota}
use Rattle.instr_table.specs.declared.charge.Quota.TheVariants.{Memory, Events, Cycles}
use Rattle.instr_table.specs.Event.{Effect, Nothing, Sends, Creates, Assigns, Becomes, Sponsors, Grants, Reclaims, Starts, Stops}

-- how much of one kind
pub record Amount : Type 0 where
  pub received : ℕ
  pub passed : ℕ
  pub spent : ℕ
  pub held : ℕ

-- a sponsor is stopped, or runs, with the event of the signal that it has prepared, if it has one
pub data Standing : Type 0 where
  Stopped : Standing
  Running : Option W → Standing

-- a sponsor, what it has of each kind, and whether it runs
pub record Account : Type 0 where
  pub sponsor : W
  pub memory : Amount
  pub events : Amount
  pub cycles : Amount
  pub standing : Standing

-- what was received is what was passed on, spent and is held
abbrev pub Balances : Amount → Type 0
Balances a = a.received ≡ a.passed + a.spent + a.held

-- what has been received and not used
abbrev pub holding : ℕ → Amount
holding n = record { received = n; passed = 0; spent = 0; held = n }

-- the account of a sponsor that has received nothing
abbrev pub no_account : W → Account
no_account w = record { sponsor = w; memory = holding 0; events = holding 0; cycles = holding 0; standing = Stopped }

-- the account of a sponsor
abbrev pub account : List Account → W → Account
account [] w = no_account w
account (a ∷ rows) w = if same_word a.sponsor w then a else account rows w

-- the sheet with one sponsor's account changed
abbrev pub at_account : W → (Account → Account) → List Account → List Account
at_account w change [] = []
at_account w change (a ∷ rows) = if same_word a.sponsor w then change a ∷ rows else a ∷ at_account w change rows

-- an account's amount of one kind
abbrev pub amount : Quota → Account → Amount
amount Memory a = a.memory
amount Events a = a.events
amount Cycles a = a.cycles

-- the account with its amount of one kind changed
abbrev pub at_amount : Quota → (Amount → Amount) → Account → Account
at_amount Memory change a = record a { memory = change a.memory }
at_amount Events change a = record a { events = change a.events }
at_amount Cycles change a = record a { cycles = change a.cycles }

-- what a sponsor holds of one kind
abbrev pub held : List Account → W → Quota → ℕ
held rows w kind = (amount kind (account rows w)).held

-- ---- paying

-- n is spent
abbrev pub pays : ℕ → Amount → Amount
pays n a = record a { spent = a.spent + n; held = a.held - n }

-- the account after an instruction of that charge
abbrev pub paid : Charge → Account → Account
paid c a = record a { memory = pays c.quads a.memory; events = pays c.events a.events; cycles = pays 1 a.cycles }

-- a sponsor pays for an instruction of that charge
abbrev pub spend : List Account → W → Charge → List Account
spend rows w c = at_account w (paid c) rows

-- the first kind of which less is held than is due: cycles, memory, events
abbrev pub short : Account → Charge → Option Quota
short a c =
    if nat_lt a.cycles.held 1 then Some Cycles else
    if nat_lt a.memory.held c.quads then Some Memory else
    if nat_lt a.events.held c.events then Some Events else None

-- ---- passing on

-- n goes to another sponsor
abbrev pub passes : ℕ → Amount → Amount
passes n a = record a { passed = a.passed + n; held = a.held - n }

-- n comes from another sponsor
abbrev pub receives : ℕ → Amount → Amount
receives n a = record a { received = a.received + n; held = a.held + n }

-- n of one kind goes from one sponsor to another; from one to itself nothing changes
abbrev pub transfer : List Account → W → W → Quota → ℕ → List Account
transfer rows from to kind n =
    if same_word from to then rows else
    at_account to (at_amount kind (receives n)) (at_account from (at_amount kind (passes n)) rows)

-- all that one sponsor holds goes to another
abbrev pub reclaim : List Account → W → W → List Account
reclaim rows from to =
    transfer (transfer (transfer rows from to Memory (held rows from Memory)) from to Events (held rows from Events)) from to Cycles (held rows from Cycles)

-- ---- running

-- whether a sponsor that stands so runs
abbrev pub runs_in : Standing → Bool
runs_in Stopped = false
runs_in (Running signal) = true

-- whether a sponsor runs
abbrev pub runs : List Account → W → Bool
runs rows w = runs_in (account rows w).standing

-- the account of a sponsor that stands so from now on
abbrev pub stands_as : Standing → Account → Account
stands_as standing a = record a { standing = standing }

-- a new sponsor holds nothing and is stopped
abbrev pub with_sponsor : List Account → W → List Account
with_sponsor rows w = rows ++ no_account w ∷ []

-- it runs, and has prepared that signal
abbrev pub start : List Account → W → W → List Account
start rows w signal = at_account w (stands_as (Running (Some signal))) rows

-- its signal is dropped
abbrev pub stop : List Account → W → List Account
stop rows w = at_account w (stands_as Stopped) rows

-- the signal of a sponsor that stands so
abbrev pub signal_in : Standing → Option W
signal_in Stopped = None
signal_in (Running signal) = signal

-- the signal that a sponsor has prepared
abbrev pub prepared : List Account → W → Option W
prepared rows w = signal_in (account rows w).standing

-- ---- instructions

-- what an effect does to the sheet, where the event's sponsor is this one
abbrev pub sheet_after : List Account → W → Effect → List Account
sheet_after rows who Nothing = rows
sheet_after rows who (Sends m) = rows
sheet_after rows who (Creates m) = rows
sheet_after rows who (Assigns m) = rows
sheet_after rows who (Becomes b) = rows
sheet_after rows who (Sponsors w) = with_sponsor rows w
sheet_after rows who (Grants w kind n) = transfer rows who w kind n
sheet_after rows who (Reclaims w) = reclaim rows w who
sheet_after rows who (Starts w signal) = start rows w signal
sheet_after rows who (Stops w) = stop rows w
