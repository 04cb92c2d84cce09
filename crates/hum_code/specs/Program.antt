-- An image that holds a program.
use Rattle.std.specs.Prelude.{◌≡◌, List, Some}
use Rattle.cap_words.specs.declared.word.Quad.{Quad}
use Rattle.cap_words.specs.Words.{W}
use Rattle.instr_table.specs.declared.op.Op.{Op}
use Rattle.instr_table.specs.declared.op.Op.TheVariants.{ActorPost, ActorAssign, DictTest, DictPut, DictDel, DequeNew, DequeTest, DequePut, DequeTake, SponsorNew, SponsorGrant, SponsorReclaim, SponsorStart, SponsorStop}
use Rattle.instr_table.specs.Code.{operation}
use Rattle.instr_table.specs.Reach.{Every}
use Rattle.hum_core.specs.Openings.{outermost}
use Rattle.hum_code.specs.Comes.{Setting}
use Rattle.hum_code.specs.Layout.{Layout, shape_of, IsBlock}
use Rattle.hum_code.specs.Emission.{CodeStands}

-- an operation of programs: none on dictionaries, deques or sponsors, and of those on actors only to send, to create and to become
abbrev pub IsProgramOp : Op → Type 0
IsProgramOp ActorPost = ⊥
IsProgramOp ActorAssign = ⊥
IsProgramOp (DictTest n) = ⊥
IsProgramOp (DictPut n) = ⊥
IsProgramOp DictDel = ⊥
IsProgramOp DequeNew = ⊥
IsProgramOp (DequeTest n) = ⊥
IsProgramOp (DequePut n) = ⊥
IsProgramOp (DequeTake n) = ⊥
IsProgramOp SponsorNew = ⊥
IsProgramOp (SponsorGrant n) = ⊥
IsProgramOp SponsorReclaim = ⊥
IsProgramOp SponsorStart = ⊥
IsProgramOp SponsorStop = ⊥
IsProgramOp _ = Unit {0}

-- a cell that spells no other
abbrev pub IsProgramCell : Quad → Type 0
IsProgramCell q = (op : Op) → operation q ≡ Some op → IsProgramOp op

-- An image with that boot word and these cells holds the program that is laid out so: in every store with these cells, whatever RAM holds,
-- its code stands for the program; it begins with the first actor's code, which runs the file, unit 0, in the outermost environment; and
-- each cell that spells an operation spells one of programs.
pub record HoldsProgram (boot : W) (cells : List Quad) (lay : Layout) : Type 0 where
  pub code : (m : Setting) → m.base.rom ≡ cells → CodeStands m lay
  pub boot_is : boot ≡ lay.boot
  pub file : IsBlock lay 0
  pub shape : lay.shape 0 ≡ shape_of outermost
  pub operations : Every IsProgramCell cells
