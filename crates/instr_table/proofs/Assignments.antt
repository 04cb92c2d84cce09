-- `actor assign` changes only an actor that its own event created.
use Rattle.std.proofs.Common.{◌≡◌, ℕ, pos, Bool, true, false, List, [], length, Option, Some, None, refl, if◌then◌else◌, nat_lt}
use Rattle.std.specs.Ordering.{int_eq}
use Rattle.cap_words.specs.Words.{W, same_word}
use Rattle.cap_words.specs.Seen.{Seen}
use Rattle.instr_table.specs.declared.charge.Quota.{Quota}
use Rattle.instr_table.specs.declared.op.Op.{Op}
use Rattle.instr_table.specs.declared.op.Op.TheVariants.{Push, Dup, Drop, Pick, Roll, Depth, Pair, Part, Nth, QuadMake, QuadTake, Get, Typeq, Eq, Cmp, AluNot, Alu, If, Jump, Msg, State, My, ActorSend, ActorPost, ActorCreate, ActorAssign, ActorBecome, End, DictTest, DictPut, DictDel, DequeNew, DequeTest, DequePut, DequeTake, SponsorNew, SponsorGrant, SponsorReclaim, SponsorStart, SponsorStop, Assert, Debug}
use Rattle.instr_table.specs.Types.{is_actor, is_sponsor, is_makeable}
use Rattle.instr_table.specs.Lists.{item}
use Rattle.instr_table.specs.Event.{Own, Effects, Behaviour, Assigns, has_created}
use Rattle.instr_table.specs.Sheet.{Account, runs}
use Rattle.instr_table.specs.Outcome.{Row, does, faults, not_fresh}
use Rattle.instr_table.specs.ActorRows.{become_row}
use Rattle.instr_table.specs.SponsorRows.{grant_of, most_sponsors}
use Rattle.instr_table.specs.Row.{row, row_at}
use Rattle.instr_table.specs.Laws.{AssignsOwn}

module _ (own : Own) (s : Seen) (sheet : List Account) (e : Effects) (vs : List W) (k : W) where
  abbrev Owns : Row → Type 0
  Owns r = AssignsOwn e r.outcome

  either_own : (b : Bool) (r q : Row) → Owns r → Owns q → Owns (if b then r else q)
  either_own true r q h g = h
  either_own false r q h g = g

  assign_own : (b : Bool) → has_created (item vs 1) e.created ≡ b → Owns (if b then does 3 [] [] k (Assigns (record { actor = item vs 1; state = item vs 3; code = item vs 2 })) else faults 0 0 not_fresh)
  assign_own true h = h
  assign_own false h = tt

  become_own : (b : Option Behaviour) → Owns (become_row b vs k)
  become_own None = tt
  become_own (Some b) = tt

  grant_own : (o : Option ℕ) (kind : Quota) (w : W) → Owns (grant_of o kind s w k)
  grant_own None kind w = tt
  grant_own (Some n) kind w = either_own (is_sponsor s w) _ _ tt tt

  row-own : (op : Op) → Owns (row own op s sheet e vs k)
  row-own (Push v) = tt
  row-own (Dup n) = tt
  row-own (Drop n) = tt
  row-own (Pick n) = tt
  row-own (Roll n) = tt
  row-own Depth = tt
  row-own (Pair n) = tt
  row-own (Part n) = tt
  row-own (Nth n) = tt
  row-own (QuadMake n) = either_own (is_makeable s (item vs 1)) _ _ tt tt
  row-own (QuadTake n) = tt
  row-own (Get n) = tt
  row-own (Typeq t) = tt
  row-own (Eq v) = tt
  row-own (Cmp n) = tt
  row-own AluNot = tt
  row-own (Alu n) = tt
  row-own (If label) = tt
  row-own Jump = tt
  row-own (Msg n) = tt
  row-own (State n) = tt
  row-own (My n) = tt
  row-own ActorSend = either_own (is_actor s (item vs 1)) _ _ tt tt
  row-own ActorPost = either_own (is_sponsor s (item vs 1)) _ _ (either_own (is_actor s (item vs 2)) _ _ tt tt) tt
  row-own ActorCreate = tt
  row-own ActorAssign = assign_own (has_created (item vs 1) e.created) refl
  row-own ActorBecome = become_own e.next
  row-own (End n) = either_own (int_eq n (pos 1)) _ _ tt (either_own (int_eq n (pos 0)) _ _ tt tt)
  row-own (DictTest n) = tt
  row-own (DictPut n) = tt
  row-own DictDel = tt
  row-own DequeNew = tt
  row-own (DequeTest n) = tt
  row-own (DequePut n) = tt
  row-own (DequeTake n) = either_own (int_eq n (pos 3)) _ _ tt tt
  row-own SponsorNew = either_own (nat_lt (length sheet) most_sponsors) _ _ tt tt
  row-own (SponsorGrant n) = grant_own _ _ (item vs 2)
  row-own SponsorReclaim = either_own (is_sponsor s (item vs 1)) _ _ tt tt
  row-own SponsorStart = either_own (is_actor s (item vs 1)) _ _ (either_own (is_sponsor s (item vs 2)) _ _ (either_own (runs sheet (item vs 2)) _ _ tt tt) tt) tt
  row-own SponsorStop = either_own (is_sponsor s (item vs 1)) _ _ tt tt
  row-own (Assert v) = either_own (same_word (item vs 1) v) _ _ tt tt
  row-own Debug = tt

pub row_at-own : (own : Own) (o : Option (Op × W)) (s : Seen) (sheet : List Account) (e : Effects) (vs : List W) → AssignsOwn e (row_at own o s sheet e vs).outcome
row_at-own own None s sheet e vs = tt
row_at-own own (Some o) s sheet e vs = row-own own s sheet e vs o.1 o.0
