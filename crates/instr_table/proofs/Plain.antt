-- What an instruction does that is no operation on sponsors: a message is under the payer or a sponsor that is there, and the sheet stays.
use Rattle.std.proofs.Common.{◌≡◌, inl, inr, refl, ap, subst, ℕ, ◌-◌, nat_lt, pos, Bool, true, false, List, Option, Some, None, if◌then◌else◌}
use Rattle.std.specs.Prelude.{slice_get}
use Rattle.std.proofs.lemmas.Option.{none-some, same_Some}
use Rattle.std.specs.Ordering.{int_eq}
use Rattle.cap_words.specs.declared.word.Quad.{Quad}
use Rattle.cap_words.specs.Words.{W, Fix, Rom, Ram, Cap, same_word}
use Rattle.cap_words.specs.Store.{rom_cell}
use Rattle.cap_words.specs.Seen.{Seen}
use Rattle.instr_table.specs.declared.op.Op.{Op}
use Rattle.instr_table.specs.declared.op.Op.TheVariants.{Push, Dup, Drop, Pick, Roll, Depth, Pair, Part, Nth, QuadMake, QuadTake, Get, Typeq, Eq, Cmp, AluNot, Alu, If, Jump, Msg, State, My, ActorSend, ActorPost, ActorCreate, ActorAssign, ActorBecome, End, DictTest, DictPut, DictDel, DequeNew, DequeTest, DequePut, DequeTake, SponsorNew, SponsorGrant, SponsorReclaim, SponsorStart, SponsorStop, Assert, Debug}
use Rattle.instr_table.specs.Code.{operation, with_next, fetched_in, fetched}
use Rattle.instr_table.specs.Types.{is_actor, is_sponsor, is_makeable}
use Rattle.instr_table.specs.Lists.{item}
use Rattle.instr_table.specs.Event.{Own, Effects, Effect, Nothing, Sends, Creates, Assigns, Becomes, Sponsors, Grants, Reclaims, Starts, Stops, Behaviour, has_created}
use Rattle.instr_table.specs.Sheet.{Account, sheet_after}
use Rattle.instr_table.specs.Outcome.{Row}
use Rattle.instr_table.specs.Row.{row, row_at}
use Rattle.instr_table.specs.ActorRows.{become_row}
use Rattle.instr_table.specs.Lane.{Lane, values, lane_row}
use Rattle.instr_table.specs.Making.{NoCodeInRam}
use Rattle.instr_table.specs.Reach.{Every}
use Rattle.instr_table.specs.Plain.{IsPlain, PlainCells, PlainEffect, PlainOutcome, PlainRowsLeaveSponsors}
use Rattle.instr_table.proofs.Authorities.{every-get}

module _ (own : Own) (s : Seen) where
  -- what is to be said of a row
  abbrev P : Row → Type 0
  P r = PlainOutcome own.sponsor s r.outcome

  either : (b : Bool) (x y : Row) → P x → P y → P (if b then x else y)
  either true x y p q = p
  either false x y p q = q

  -- where the first holds only if the test does
  tested : (b : Bool) (x y : Row) → (b ≡ true → P x) → P y → P (if b then x else y)
  tested true x y p q = p refl
  tested false x y p q = q

  become-plain : (o : Option Behaviour) (vs : List W) (k : W) → P (become_row o vs k)
  become-plain None vs k = tt
  become-plain (Some b) vs k = tt

  module _ (sheet : List Account) (e : Effects) (vs : List W) (k : W) where
    row-plain : (op : Op) → IsPlain op → P (row own op s sheet e vs k)
    row-plain (Push v) h = tt
    row-plain (Dup n) h = tt
    row-plain (Drop n) h = tt
    row-plain (Pick n) h = tt
    row-plain (Roll n) h = tt
    row-plain Depth h = tt
    row-plain (Pair n) h = tt
    row-plain (Part n) h = tt
    row-plain (Nth n) h = tt
    row-plain (QuadMake n) h = either (is_makeable s (item vs 1)) _ _ tt tt
    row-plain (QuadTake n) h = tt
    row-plain (Get n) h = tt
    row-plain (Typeq t) h = tt
    row-plain (Eq v) h = tt
    row-plain (Cmp n) h = tt
    row-plain AluNot h = tt
    row-plain (Alu n) h = tt
    row-plain (If label) h = tt
    row-plain Jump h = tt
    row-plain (Msg n) h = tt
    row-plain (State n) h = tt
    row-plain (My n) h = tt
    row-plain ActorSend h = either (is_actor s (item vs 1)) _ _ (inl refl) tt
    row-plain ActorPost h = tested (is_sponsor s (item vs 1)) _ _ (λ t. either (is_actor s (item vs 2)) _ _ (inr t) tt) tt
    row-plain ActorCreate h = tt
    row-plain ActorAssign h = either (has_created (item vs 1) e.created) _ _ tt tt
    row-plain ActorBecome h = become-plain e.next vs k
    row-plain (End n) h = either (int_eq n (pos 1)) _ _ tt (either (int_eq n (pos 0)) _ _ tt tt)
    row-plain (DictTest n) h = tt
    row-plain (DictPut n) h = tt
    row-plain DictDel h = tt
    row-plain DequeNew h = tt
    row-plain (DequeTest n) h = tt
    row-plain (DequePut n) h = tt
    row-plain (DequeTake n) h = either (int_eq n (pos 3)) _ _ tt tt
    row-plain SponsorNew h = absurd h
    row-plain (SponsorGrant n) h = absurd h
    row-plain SponsorReclaim h = absurd h
    row-plain SponsorStart h = absurd h
    row-plain SponsorStop h = absurd h
    row-plain (Assert v) h = either (same_word (item vs 1) v) _ _ tt tt
    row-plain Debug h = tt

pub plain-rows : PlainRowsLeaveSponsors
plain-rows own op s sheet e vs k h = row-plain own s sheet e vs k op h

-- ---- wherever the code of an event stands

module _ (P : Op → Type 0) where
  -- a cell that spells no operation but such ones
  abbrev pub SpellsOnly : Quad → Type 0
  SpellsOnly q = (op : Op) → operation q ≡ Some op → P op

  spelled : (q : Quad) → SpellsOnly q → (o : Option Op) → operation q ≡ o → (op : Op) (k : W) → with_next o q.z ≡ Some (op, k) → P op
  spelled q p None e op k h = absurd (none-some (op, k) h)
  spelled q p (Some x) e op k h = subst P (ap (λ (y : Op × W). y.0) (same_Some (x, q.z) (op, k) h)) (p x e)

  in-cell : (o : Option Quad) → ((q : Quad) → o ≡ Some q → SpellsOnly q) → (op : Op) (k : W) → fetched_in o ≡ Some (op, k) → P op
  in-cell None f op k h = absurd (none-some (op, k) h)
  in-cell (Some q) f op k h = spelled q (f q refl) (operation q) refl op k h

  in-rom : (rom : List Quad) → Every SpellsOnly rom → (n : ℕ) (q : Quad) → rom_cell rom n ≡ Some q → SpellsOnly q
  in-rom rom all n q h = by (nat_lt n 16) h
    where
      by : (b : Bool) → (if b then None else slice_get rom (n - 16)) ≡ Some q → SpellsOnly q
      by true e = absurd (none-some q e)
      by false e = every-get SpellsOnly rom (n - 16) q all e

  -- what is fetched is such an operation
  pub fetched-only : (s : Seen) → Every SpellsOnly s.rom → NoCodeInRam s → (w : W) (op : Op) (k : W) → fetched s w ≡ Some (op, k) → P op
  fetched-only s p out (Fix n) op k h = cc
  fetched-only s p out (Rom n) op k h = in-cell (rom_cell s.rom n) (λ q e. in-rom s.rom p n q e) op k h
  fetched-only s p out (Ram n) op k h = let o = out n in absurd cc
  fetched-only s p out (Cap n) op k h = cc

pub fetched-plain : (s : Seen) → PlainCells s.rom → NoCodeInRam s → (w : W) (op : Op) (k : W) → fetched s w ≡ Some (op, k) → IsPlain op
fetched-plain = fetched-only IsPlain

row_at-plain : (own : Own) (s : Seen) (sheet : List Account) (e : Effects) (vs : List W) (o : Option (Op × W)) → ((op : Op) (k : W) → o ≡ Some (op, k) → IsPlain op)
    → PlainOutcome own.sponsor s (row_at own o s sheet e vs).outcome
row_at-plain own s sheet e vs None f = tt
row_at-plain own s sheet e vs (Some o) f = row-plain own s sheet e vs o.1 o.0 (f o.0 o.1 refl)

-- where the image spells no operation on sponsors, and no code is in RAM
pub lane-plain : (s : Seen) → PlainCells s.rom → NoCodeInRam s → (sheet : List Account) (l : Lane) → PlainOutcome l.own.sponsor s (lane_row s sheet l).outcome
lane-plain s p out sheet l = row_at-plain l.own s sheet l.effects (values l.stack) (fetched s l.code) (λ op k e. fetched-plain s p out l.code op k e)

-- the sheet stays
pub plain-sheet : (rows : List Account) (who : W) (s : Seen) (x : Effect) → PlainEffect who s x → sheet_after rows who x ≡ rows
plain-sheet rows who s Nothing p = refl
plain-sheet rows who s (Sends m) p = refl
plain-sheet rows who s (Creates m) p = refl
plain-sheet rows who s (Assigns m) p = refl
plain-sheet rows who s (Becomes b) p = refl
plain-sheet rows who s (Sponsors w) p = absurd p
plain-sheet rows who s (Grants w kind n) p = absurd p
plain-sheet rows who s (Reclaims w) p = absurd p
plain-sheet rows who s (Starts w signal) p = absurd p
plain-sheet rows who s (Stops w) p = absurd p
