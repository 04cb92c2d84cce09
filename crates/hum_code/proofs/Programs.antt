-- Each event of an image that holds a program does what the program means.
use Rattle.std.proofs.Common.{◌≡◌, refl, ◌∙◌, ℕ, true, List, [], ◌∷◌, Some}
use Rattle.cap_words.specs.declared.word.Quad.{Quad}
use Rattle.cap_words.specs.Words.{W, undef}
use Rattle.cap_words.specs.Text.{is_run}
use Rattle.instr_table.specs.declared.op.Op.{Op}
use Rattle.instr_table.specs.declared.op.Op.TheVariants.{Push, Dup, Drop, Pick, Roll, Depth, Pair, Part, Nth, QuadMake, QuadTake, Get, Typeq, Eq, Cmp, AluNot, Alu, If, Jump, Msg, State, My, ActorSend, ActorPost, ActorCreate, ActorAssign, ActorBecome, End, DictTest, DictPut, DictDel, DequeNew, DequeTest, DequePut, DequeTake, SponsorNew, SponsorGrant, SponsorReclaim, SponsorStart, SponsorStop, Assert, Debug}
use Rattle.instr_table.specs.Plain.{IsPlain, PlainCells}
use Rattle.instr_table.specs.Reach.{Every}
use Rattle.hum_code.specs.Comes.{Setting}
use Rattle.hum_code.specs.Layout.{Layout}
use Rattle.hum_code.specs.Program.{IsProgramOp, IsProgramCell, HoldsProgram}
use Rattle.hum_code.specs.Laws.{event_in, ProgramsFollow, SentUnderOwn}
use Rattle.hum_code.proofs.Law.{events_follow, openings_follow}
use Rattle.hum_code.proofs.SentUnder.{sent_under}

pub programs_follow : ProgramsFollow
programs_follow boot cells lay program m rom self self_is actor_is =
    let em = event_in program m rom self self_is actor_is in
    record {
      events = λ behaviour v code state message. events_follow em behaviour v code state message;
      opening = λ v code devices. openings_follow em v (code ∙ program.boot_is) (record { devices = devices; file = program.file; shape = program.shape });
    }

pub messages_under_own : SentUnderOwn
messages_under_own boot cells lay program s0 s number own l n r rom out = sent_under cells s0 s number own l n program.operations r rom out

-- some setting with these cells
some_setting : List Quad → Setting
some_setting cells = record {
  base = record { rom = cells; slots = [] };
  own = record { sponsor = undef; actor = undef; code = undef; state = undef; message = undef };
  roll = [];
}

-- none of the operations of programs is one on sponsors
leaves_sponsors : (op : Op) → IsProgramOp op → IsPlain op
leaves_sponsors SponsorNew h = absurd h
leaves_sponsors (SponsorGrant n) h = absurd h
leaves_sponsors SponsorReclaim h = absurd h
leaves_sponsors SponsorStart h = absurd h
leaves_sponsors SponsorStop h = absurd h
leaves_sponsors (Push v) h = tt
leaves_sponsors (Dup n) h = tt
leaves_sponsors (Drop n) h = tt
leaves_sponsors (Pick n) h = tt
leaves_sponsors (Roll n) h = tt
leaves_sponsors Depth h = tt
leaves_sponsors (Pair n) h = tt
leaves_sponsors (Part n) h = tt
leaves_sponsors (Nth n) h = tt
leaves_sponsors (QuadMake n) h = tt
leaves_sponsors (QuadTake n) h = tt
leaves_sponsors (Get n) h = tt
leaves_sponsors (Typeq t) h = tt
leaves_sponsors (Eq v) h = tt
leaves_sponsors (Cmp n) h = tt
leaves_sponsors AluNot h = tt
leaves_sponsors (Alu n) h = tt
leaves_sponsors (If label) h = tt
leaves_sponsors Jump h = tt
leaves_sponsors (Msg n) h = tt
leaves_sponsors (State n) h = tt
leaves_sponsors (My n) h = tt
leaves_sponsors ActorSend h = tt
leaves_sponsors ActorPost h = tt
leaves_sponsors ActorCreate h = tt
leaves_sponsors ActorAssign h = tt
leaves_sponsors ActorBecome h = tt
leaves_sponsors (End n) h = tt
leaves_sponsors (DictTest n) h = tt
leaves_sponsors (DictPut n) h = tt
leaves_sponsors DictDel h = tt
leaves_sponsors DequeNew h = tt
leaves_sponsors (DequeTest n) h = tt
leaves_sponsors (DequePut n) h = tt
leaves_sponsors (DequeTake n) h = tt
leaves_sponsors (Assert v) h = tt
leaves_sponsors Debug h = tt

-- none of its cells spells an operation on sponsors
cells_plain : (cells : List Quad) → Every IsProgramCell cells → PlainCells cells
cells_plain [] h = tt
cells_plain (q ∷ cells) h = (λ op e. leaves_sponsors op (h.0 op e), cells_plain cells h.1)

pub plain_cells : {boot : W} {cells : List Quad} {lay : Layout} → HoldsProgram boot cells lay → PlainCells cells
plain_cells {boot} {cells} {lay} program = cells_plain cells program.operations

-- the names of its symbols are runs
pub names_run : {boot : W} {cells : List Quad} {lay : Layout} → HoldsProgram boot cells lay → (name : List ℕ) (w : W) → lay.symbol name ≡ Some w
    → is_run name ≡ true
unfolding some_setting
names_run {boot} {cells} {lay} program = (program.code (some_setting cells) refl).cells.runs
