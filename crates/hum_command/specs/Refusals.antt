-- The lines of refusals.
use Rattle.std.specs.Prelude.{ℕ, List, [], ◌∷◌, codes, decimal}
use Rattle.std.specs.List.{concat}
use Rattle.uasm_read.specs.declared.error.UasmCause.{UasmCause}
use Rattle.uasm_read.specs.declared.error.UasmCause.TheVariants as cause
use Rattle.uasm_image.specs.declared.error.ImageCause.{ImageCause}
use Rattle.uasm_image.specs.declared.error.ImageCause.TheVariants as image
use Rattle.hum_lex.specs.declared.error.LexCause.{LexCause}
use Rattle.hum_lex.specs.declared.error.LexCause.TheVariants as lex
use Rattle.hum_meaning.specs.declared.cause.ScopeCause.{ScopeCause}
use Rattle.hum_meaning.specs.declared.cause.ScopeCause.TheVariants as scope
use Rattle.hum_command.specs.declared.answer.Answer.{Answer}
use Rattle.hum_command.specs.declared.answer.Answer.TheVariants as answer
use Rattle.hum_command.specs.declared.refusal.Refusal.{Refusal}
use Rattle.hum_command.specs.declared.refusal.Refusal.TheVariants.{FileTooLong, Image, Module, Twice, NoSuch, NoBoot, TooLarge}
use Rattle.hum_command.specs.declared.refusal.TextCause.{TextCause}
use Rattle.hum_command.specs.declared.refusal.TextCause.TheVariants as text
use Rattle.hum_command.specs.declared.refusal.TextRefusal.{TextRefusal}
use Rattle.hum_command.specs.declared.refusal.TextRefusal.TheVariants as refused

abbrev pub cause_text : UasmCause → List ℕ
cause_text cause.TooLong = codes "text too long"
cause_text cause.BadLine = codes "bad line"
cause_text cause.NoOperation = codes "no such operation"
cause_text cause.BadOperand = codes "bad operand"
cause_text cause.Twice = codes "label twice"
cause_text cause.Unknown = codes "unknown name"
cause_text cause.FallsOff = codes "falls off the end"

abbrev pub image_cause_text : ImageCause → List ℕ
image_cause_text image.Magic = codes "magic"
image_cause_text image.Count = codes "count"
image_cause_text image.Word = codes "word"
image_cause_text image.Truncated = codes "truncated"
image_cause_text image.Extra = codes "extra bytes"

-- what stands on err for refused contents of the file of that name; that modules are not linked is told of no file
abbrev pub refusal_line : Refusal → List ℕ → List ℕ
refusal_line FileTooLong name = concat (name ∷ codes ": file too long\n" ∷ [])
refusal_line (Image why) name =
    concat (name ∷ codes ": image refused at " ∷ decimal why.at ∷ codes ": " ∷ image_cause_text why.cause ∷ codes "\n" ∷ [])
refusal_line (Module why) name = concat (name ∷ codes ":" ∷ decimal why.line ∷ codes ": " ∷ cause_text why.cause ∷ codes "\n" ∷ [])
refusal_line (Twice x) name = concat (codes "link: name twice " ∷ x ∷ codes "\n" ∷ [])
refusal_line (NoSuch x) name = concat (codes "link: no such name " ∷ x ∷ codes "\n" ∷ [])
refusal_line NoBoot name = codes "link: no boot\n"
refusal_line TooLarge name = codes "link: too large\n"

-- ---- texts

abbrev pub lex_cause_text : LexCause → List ℕ
lex_cause_text lex.BadByte = codes "bad byte"
lex_cause_text lex.BadText = codes "bad text"
lex_cause_text lex.RunTooLong = codes "name too long"
lex_cause_text lex.NumberRange = codes "number out of range"
lex_cause_text lex.NotInProfile = codes "not in this profile"
lex_cause_text lex.TooLarge = codes "program too large"

abbrev pub scope_cause_text : ScopeCause → List ℕ
scope_cause_text scope.Unbound = codes "unbound name "
scope_cause_text scope.Twice = codes "name bound twice "
scope_cause_text scope.TooManyNames = codes "too many names"

abbrev pub text_cause_text : TextCause → List ℕ
text_cause_text (text.Tokens cause) = lex_cause_text cause
text_cause_text text.Tree = codes "not a program"
text_cause_text (text.Name cause name) = scope_cause_text cause

-- the name that is told of, if one is
abbrev pub told_name : TextCause → List ℕ
told_name (text.Tokens cause) = []
told_name text.Tree = []
told_name (text.Name scope.Unbound name) = name.items
told_name (text.Name scope.Twice name) = name.items
told_name (text.Name scope.TooManyNames name) = []

-- what stands on err for a refused text in the file of that name
abbrev pub text_refusal_line : TextRefusal → List ℕ → List ℕ
text_refusal_line refused.TooLong name = concat (name ∷ codes ": text too long\n" ∷ [])
text_refusal_line (refused.At place cause) name = concat (
    name ∷ codes ":" ∷ decimal place.line ∷ codes ":" ∷ decimal place.column ∷ codes ": "
    ∷ text_cause_text cause ∷ told_name cause ∷ codes "\n" ∷ [])

-- ---- all answers

-- what stands on err for an answer with which nothing is done; for the others their cause says it
abbrev pub answer_line : Answer → List ℕ → List ℕ
answer_line answer.Done name = []
answer_line answer.Usage name = codes "usage: humus COMMAND FILE.. [KEY=N..]\n"
answer_line answer.Unread name = concat (codes "cannot read " ∷ name ∷ codes "\n" ∷ [])
answer_line answer.Fault name = []
answer_line (answer.Spent kind) name = []
answer_line answer.Bound name = []
answer_line answer.NoMemory name = codes "no memory\n"
answer_line answer.EventFailed name = []
answer_line (answer.TextRefused why) name = text_refusal_line why name
answer_line (answer.Refused why) name = refusal_line why name
answer_line (answer.ScriptRefused line) name = concat (name ∷ codes ":" ∷ decimal line ∷ codes ": not a command\n" ∷ [])
