-- A message that an operation of programs sends is under the payer.
use Rattle.std.proofs.Common.{◌≡◌, refl, sym, subst, ℕ, pos, Bool, true, false, List, [], ◌∷◌, Option, Some, None}
use Rattle.std.specs.Prelude.{if◌then◌else◌}
use Rattle.std.specs.Ordering.{int_eq}
use Rattle.cap_words.specs.declared.word.Quad.{Quad}
use Rattle.cap_words.specs.Words.{W, same_word}
use Rattle.cap_words.specs.Seen.{Seen}
use Rattle.instr_table.specs.declared.op.Op.{Op}
use Rattle.instr_table.specs.declared.op.Op.TheVariants.{Push, Dup, Drop, Pick, Roll, Depth, Pair, Part, Nth, QuadMake, QuadTake, Get, Typeq, Eq, Cmp, AluNot, Alu, If, Jump, Msg, State, My, ActorSend, ActorPost, ActorCreate, ActorAssign, ActorBecome, End, DictTest, DictPut, DictDel, DequeNew, DequeTest, DequePut, DequeTake, SponsorNew, SponsorGrant, SponsorReclaim, SponsorStart, SponsorStop, Assert, Debug}
use Rattle.instr_table.specs.Code.{fetched}
use Rattle.instr_table.specs.Types.{is_actor, is_makeable, Grows}
use Rattle.instr_table.specs.Lists.{item}
use Rattle.instr_table.specs.Event.{Own, Sent, Behaviour, Effects, Effect, Nothing, Sends, Creates, Assigns, Becomes, Sponsors, Grants, Reclaims, Starts, Stops, with_effect}
use Rattle.instr_table.specs.Sheet.{Account}
use Rattle.instr_table.specs.Outcome.{Going, Outcome, Goes, Row}
use Rattle.instr_table.specs.Making.{NoCodeInRam}
use Rattle.instr_table.specs.Row.{row, row_at}
use Rattle.instr_table.specs.ActorRows.{become_row}
use Rattle.instr_table.specs.Lane.{Lane, begun, values, lane_row}
use Rattle.instr_table.specs.Reach.{Every}
use Rattle.instr_table.specs.Spent.{Spent}
use Rattle.instr_table.proofs.GotWords.{every-append}
use Rattle.instr_table.proofs.Plain.{fetched-only}
use Rattle.instr_table.proofs.ShownWords.{shown-stays}
use Rattle.hum_code.specs.Reaches.{Reaches, dispatched, others, stepped}
use Rattle.hum_code.specs.Program.{IsProgramOp, IsProgramCell}
use Rattle.hum_code.proofs.World.{same, later, fetched_later}

-- a message that is sent is under that sponsor
abbrev pub EffectUnder : (payer : W) → Effect → Type 0
EffectUnder payer (Sends m) = m.sponsor ≡ payer
EffectUnder payer _ = Unit {0}

abbrev pub SendsUnder : (payer : W) → Outcome → Type 0
SendsUnder payer (Goes g) = EffectUnder payer g.effect
SendsUnder payer _ = Unit {0}

-- ---- rows

pub fetched_program : (cells : List Quad) (s : Seen) → Every IsProgramCell cells → s.rom ≡ cells → NoCodeInRam s → (w : W) (op : Op) (k : W)
    → fetched s w ≡ Some (op, k) → IsProgramOp op
fetched_program cells s all rom out = fetched-only IsProgramOp s (subst (Every IsProgramCell) (sym rom) all) out

module _ (own : Own) where
  abbrev P : Row → Type 0
  P r = SendsUnder own.sponsor r.outcome

  either : (b : Bool) (x y : Row) → P x → P y → P (if b then x else y)
  either true x y p q = p
  either false x y p q = q

  become_under : (o : Option Behaviour) (vs : List W) (k : W) → P (become_row o vs k)
  become_under None vs k = tt
  become_under (Some b) vs k = tt

  module _ (s : Seen) (sheet : List Account) (e : Effects) (vs : List W) where
    row_under : (k : W) (op : Op) → IsProgramOp op → P (row own op s sheet e vs k)
    row_under k (Push v) h = tt
    row_under k (Dup n) h = tt
    row_under k (Drop n) h = tt
    row_under k (Pick n) h = tt
    row_under k (Roll n) h = tt
    row_under k Depth h = tt
    row_under k (Pair n) h = tt
    row_under k (Part n) h = tt
    row_under k (Nth n) h = tt
    row_under k (QuadMake n) h = either (is_makeable s (item vs 1)) _ _ tt tt
    row_under k (QuadTake n) h = tt
    row_under k (Get n) h = tt
    row_under k (Typeq t) h = tt
    row_under k (Eq v) h = tt
    row_under k (Cmp n) h = tt
    row_under k AluNot h = tt
    row_under k (Alu n) h = tt
    row_under k (If label) h = tt
    row_under k Jump h = tt
    row_under k (Msg n) h = tt
    row_under k (State n) h = tt
    row_under k (My n) h = tt
    row_under k ActorSend h = either (is_actor s (item vs 1)) _ _ refl tt
    row_under k ActorPost h = absurd h
    row_under k ActorCreate h = tt
    row_under k ActorAssign h = absurd h
    row_under k ActorBecome h = become_under e.next vs k
    row_under k (End n) h = either (int_eq n (pos 1)) _ _ tt (either (int_eq n (pos 0)) _ _ tt tt)
    row_under k (DictTest n) h = absurd h
    row_under k (DictPut n) h = absurd h
    row_under k DictDel h = absurd h
    row_under k DequeNew h = absurd h
    row_under k (DequeTest n) h = absurd h
    row_under k (DequePut n) h = absurd h
    row_under k (DequeTake n) h = absurd h
    row_under k SponsorNew h = absurd h
    row_under k (SponsorGrant n) h = absurd h
    row_under k SponsorReclaim h = absurd h
    row_under k SponsorStart h = absurd h
    row_under k SponsorStop h = absurd h
    row_under k (Assert v) h = either (same_word (item vs 1) v) _ _ tt tt
    row_under k Debug h = tt

    pub row_at_under : (o : Option (Op × W)) → ((op : Op) (k : W) → o ≡ Some (op, k) → IsProgramOp op) → P (row_at own o s sheet e vs)
    row_at_under None f = tt
    row_at_under (Some o) f = row_under o.1 o.0 (f o.0 o.1 refl)

-- the row of an event's next instruction, where code stands in the image alone
pub step_under : (cells : List Quad) (s : Seen) → Every IsProgramCell cells → s.rom ≡ cells → NoCodeInRam s → (sheet : List Account) (l : Lane)
    → SendsUnder l.own.sponsor (lane_row s sheet l).outcome
step_under cells s all rom out sheet l =
    row_at_under l.own s sheet l.effects (values l.stack) (fetched s l.code)
    (λ op k h. fetched_program cells s all rom out l.code op k h)

-- ---- the messages of a record

-- each message is under that sponsor
abbrev pub Under : W → Effects → Type 0
Under sponsor e = Every (λ (m : Sent). m.sponsor ≡ sponsor) e.sent

under_more : (sponsor : W) (e : Effects) (x : Effect) → EffectUnder sponsor x → Under sponsor e → Under sponsor (with_effect e x)
under_more sponsor e Nothing p h = h
under_more sponsor e (Sends m) p h = every-append (λ (m : Sent). m.sponsor ≡ sponsor) e.sent (m ∷ []) h (p, tt)
under_more sponsor e (Creates m) p h = h
under_more sponsor e (Assigns m) p h = h
under_more sponsor e (Becomes b) p h = h
under_more sponsor e (Sponsors w) p h = h
under_more sponsor e (Grants w kind n) p h = h
under_more sponsor e (Reclaims w) p h = h
under_more sponsor e (Starts w signal) p h = h
under_more sponsor e (Stops w) p h = h

-- The last store shows what each store before it did: an operation that stood there before is one of programs, as those are that stand there
-- in the end.
module _ (cells : List Quad) (end : Seen) (all : Every IsProgramCell cells) (rom : end.rom ≡ cells) (out : NoCodeInRam end) (s0 : Seen)
    (number : ℕ) (own : Own) where
  effect_under : (s : Seen) (sheet : List Account) (l : Lane) (g : Going) → Grows s end → l.own ≡ own → (lane_row s sheet l).outcome ≡ Goes g
      → EffectUnder own.sponsor g.effect
  effect_under s sheet l g more is goes =
      subst (λ (o : Own). EffectUnder o.sponsor g.effect) is
      (subst (SendsUnder l.own.sponsor) goes
      (row_at_under l.own s sheet l.effects (values l.stack) (fetched s l.code)
      (λ op k h. fetched_program cells end all rom out l.code op k (fetched_later s end l.code (op, k) more h))))

  -- the event keeps its own, and its messages are under its sponsor
  reached_under : (s : Seen) (l : Lane) (n : Spent) → Reaches s0 (begun number own) s l n → Grows s end → (l.own ≡ own) × Under own.sponsor l.effects
  reached_under s l n dispatched more = (refl, tt)
  reached_under t l n (others r g) more = reached_under _ l n r (later g more)
  reached_under t l' n' (stepped {s} {l} {n} sheet g r goes) more =
      let before = later (shown-stays s l.stack g) more in
      let h = reached_under s l n r before in
      (h.0, under_more own.sponsor l.effects g.effect (effect_under s sheet l g before h.0 goes) h.1)

pub sent_under : (cells : List Quad) (s0 s : Seen) (number : ℕ) (own : Own) (l : Lane) (n : Spent) → Every IsProgramCell cells → Reaches s0 (begun number own) s l n
    → s.rom ≡ cells → NoCodeInRam s → Under own.sponsor l.effects
sent_under cells s0 s number own l n all r rom out = (reached_under cells s all rom out s0 number own s l n r (same s)).1
