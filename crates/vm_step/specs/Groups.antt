-- Operations by what they act on.
use Rattle.instr_table.specs.declared.op.Op.{Op}
use Rattle.instr_table.specs.declared.op.Op.TheVariants.{Push, Dup, Drop, Pick, Roll, Depth, Pair, Part, Nth, QuadMake, QuadTake, Get, Typeq, Eq, Cmp, AluNot, Alu, If, Jump, Msg, State, My, ActorSend, ActorPost, ActorCreate, ActorAssign, ActorBecome, End, DictTest, DictPut, DictDel, DequeNew, DequeTest, DequePut, DequeTake, SponsorNew, SponsorGrant, SponsorReclaim, SponsorStart, SponsorStop, Assert, Debug}
use Rattle.vm_step.specs.declared.group.Group.{Group}
use Rattle.vm_step.specs.declared.group.Group.TheVariants.{Stack, Cells, Words, Flow, Lists, Actors, Sponsors}

-- the group of an operation
abbrev pub group_of : Op → Group
group_of (Push v) = Stack
group_of (Dup n) = Stack
group_of (Drop n) = Stack
group_of (Pick n) = Stack
group_of (Roll n) = Stack
group_of Depth = Stack
group_of (Pair n) = Cells
group_of (Part n) = Cells
group_of (Nth n) = Cells
group_of (QuadMake n) = Cells
group_of (QuadTake n) = Cells
group_of (Get n) = Cells
group_of (Typeq v) = Words
group_of (Eq v) = Words
group_of (Cmp n) = Words
group_of AluNot = Words
group_of (Alu n) = Words
group_of (If v) = Flow
group_of Jump = Flow
group_of (Msg n) = Words
group_of (State n) = Words
group_of (My n) = Words
group_of ActorSend = Actors
group_of ActorPost = Actors
group_of ActorCreate = Actors
group_of ActorAssign = Actors
group_of ActorBecome = Actors
group_of (End n) = Flow
group_of (DictTest n) = Lists
group_of (DictPut n) = Lists
group_of DictDel = Lists
group_of DequeNew = Lists
group_of (DequeTest n) = Lists
group_of (DequePut n) = Lists
group_of (DequeTake n) = Lists
group_of SponsorNew = Sponsors
group_of (SponsorGrant n) = Sponsors
group_of SponsorReclaim = Sponsors
group_of SponsorStart = Sponsors
group_of SponsorStop = Sponsors
group_of (Assert v) = Flow
group_of Debug = Flow
