-- What a row grants is held, after the instruction was paid, and goes to a sponsor that is there.
use Rattle.std.proofs.Common.{◌≡◌, ℕ, ◌≤◌, ℤ, pos, negsuc, arith, Bool, true, false, List, [], length, Option, Some, None, refl, if◌then◌else◌, nat_lt}
use Rattle.std.specs.Ordering.{int_eq}
use Rattle.std.proofs.lemmas.Bool.Decides.{nat_tests}
use Rattle.cap_words.specs.Words.{W, same_word, number_of}
use Rattle.cap_words.specs.Seen.{Seen}
use Rattle.instr_table.specs.declared.charge.Quota.{Quota}
use Rattle.instr_table.specs.declared.op.Op.{Op}
use Rattle.instr_table.specs.declared.op.Op.TheVariants.{Push, Dup, Drop, Pick, Roll, Depth, Pair, Part, Nth, QuadMake, QuadTake, Get, Typeq, Eq, Cmp, AluNot, Alu, If, Jump, Msg, State, My, ActorSend, ActorPost, ActorCreate, ActorAssign, ActorBecome, End, DictTest, DictPut, DictDel, DequeNew, DequeTest, DequePut, DequeTake, SponsorNew, SponsorGrant, SponsorReclaim, SponsorStart, SponsorStop, Assert, Debug}
use Rattle.instr_table.specs.Types.{is_actor, is_sponsor, is_makeable}
use Rattle.instr_table.specs.Lists.{item}
use Rattle.instr_table.specs.Event.{Own, Effects, Behaviour, has_created, Effect, Nothing, Sends, Creates, Assigns, Becomes, Sponsors, Grants, Reclaims, Starts, Stops}
use Rattle.instr_table.specs.Sheet.{Account, runs, held, spend}
use Rattle.instr_table.specs.Outcome.{Outcome, Goes, Faults, Commits, Row, charge, does, faults, not_sponsor}
use Rattle.instr_table.specs.ActorRows.{become_row}
use Rattle.instr_table.specs.SponsorRows.{grant_of, grantable, kind_of_grant, most_sponsors}
use Rattle.instr_table.specs.Row.{row, row_at}

-- what is granted is held, and goes to a sponsor
abbrev pub IsHeld : Seen → List Account → W → Effect → Type 0
IsHeld s rows who Nothing = Unit {0}
IsHeld s rows who (Sends m) = Unit {0}
IsHeld s rows who (Creates m) = Unit {0}
IsHeld s rows who (Assigns m) = Unit {0}
IsHeld s rows who (Becomes b) = Unit {0}
IsHeld s rows who (Sponsors w) = Unit {0}
IsHeld s rows who (Grants w kind n) = (n ≤ held rows who kind) × (is_sponsor s w ≡ true)
IsHeld s rows who (Reclaims w) = Unit {0}
IsHeld s rows who (Starts w signal) = Unit {0}
IsHeld s rows who (Stops w) = Unit {0}

abbrev pub HeldBy : Seen → List Account → W → Outcome → Type 0
HeldBy s rows who (Goes g) = IsHeld s rows who g.effect
HeldBy s rows who (Faults w) = Unit {0}
HeldBy s rows who Commits = Unit {0}

module _ (own : Own) (s : Seen) (sheet : List Account) (e : Effects) (vs : List W) (k : W) where
  abbrev Holds : Row → Type 0
  Holds r = HeldBy s (spend sheet own.sponsor r.charge) own.sponsor r.outcome

  either_holds : (b : Bool) (r q : Row) → Holds r → Holds q → Holds (if b then r else q)
  either_holds true r q h g = h
  either_holds false r q h g = g

  become_holds : (b : Option Behaviour) → Holds (become_row b vs k)
  become_holds None = tt
  become_holds (Some b) = tt

  -- the amount is at most what is held
  amount_held : (n : Option ℤ) (most k : ℕ) → grantable n most ≡ Some k → k ≤ most
  amount_held None most k h = cc
  amount_held (Some (negsuc z)) most k h = cc
  amount_held (Some (pos z)) most k h = grind (arith, nat_tests)

  grant_holds : (o : Option ℕ) (kind : Quota) (w : W) → ((n : ℕ) → o ≡ Some n → n ≤ held (spend sheet own.sponsor (charge 0 0)) own.sponsor kind) → Holds (grant_of o kind s w k)
  grant_holds None kind w h = tt
  grant_holds (Some n) kind w h = by (is_sponsor s w) refl
    where
      by : (b : Bool) → is_sponsor s w ≡ b → Holds (if b then does 1 [] [] k (Grants w kind n) else faults 0 0 not_sponsor)
      by true e = (h n refl, e)
      by false e = tt

  row-holds : (op : Op) → Holds (row own op s sheet e vs k)
  row-holds (Push v) = tt
  row-holds (Dup n) = tt
  row-holds (Drop n) = tt
  row-holds (Pick n) = tt
  row-holds (Roll n) = tt
  row-holds Depth = tt
  row-holds (Pair n) = tt
  row-holds (Part n) = tt
  row-holds (Nth n) = tt
  row-holds (QuadMake n) = either_holds (is_makeable s (item vs 1)) _ _ tt tt
  row-holds (QuadTake n) = tt
  row-holds (Get n) = tt
  row-holds (Typeq t) = tt
  row-holds (Eq v) = tt
  row-holds (Cmp n) = tt
  row-holds AluNot = tt
  row-holds (Alu n) = tt
  row-holds (If label) = tt
  row-holds Jump = tt
  row-holds (Msg n) = tt
  row-holds (State n) = tt
  row-holds (My n) = tt
  row-holds ActorSend = either_holds (is_actor s (item vs 1)) _ _ tt tt
  row-holds ActorPost = either_holds (is_sponsor s (item vs 1)) _ _ (either_holds (is_actor s (item vs 2)) _ _ tt tt) tt
  row-holds ActorCreate = tt
  row-holds ActorAssign = either_holds (has_created (item vs 1) e.created) _ _ tt tt
  row-holds ActorBecome = become_holds e.next
  row-holds (End n) = either_holds (int_eq n (pos 1)) _ _ tt (either_holds (int_eq n (pos 0)) _ _ tt tt)
  row-holds (DictTest n) = tt
  row-holds (DictPut n) = tt
  row-holds DictDel = tt
  row-holds DequeNew = tt
  row-holds (DequeTest n) = tt
  row-holds (DequePut n) = tt
  row-holds (DequeTake n) = either_holds (int_eq n (pos 3)) _ _ tt tt
  row-holds SponsorNew = either_holds (nat_lt (length sheet) most_sponsors) _ _ tt tt
  row-holds (SponsorGrant n) = grant_holds _ (kind_of_grant n) (item vs 2) (λ z h. amount_held (number_of (item vs 1)) _ z h)
  row-holds SponsorReclaim = either_holds (is_sponsor s (item vs 1)) _ _ tt tt
  row-holds SponsorStart = either_holds (is_actor s (item vs 1)) _ _ (either_holds (is_sponsor s (item vs 2)) _ _ (either_holds (runs sheet (item vs 2)) _ _ tt tt) tt) tt
  row-holds SponsorStop = either_holds (is_sponsor s (item vs 1)) _ _ tt tt
  row-holds (Assert v) = either_holds (same_word (item vs 1) v) _ _ tt tt
  row-holds Debug = tt

pub row_at-holds : (own : Own) (o : Option (Op × W)) (s : Seen) (sheet : List Account) (e : Effects) (vs : List W) → HeldBy s (spend sheet own.sponsor (row_at own o s sheet e vs).charge) own.sponsor (row_at own o s sheet e vs).outcome
row_at-holds own None s sheet e vs = tt
row_at-holds own (Some o) s sheet e vs = row-holds own s sheet e vs o.1 o.0
