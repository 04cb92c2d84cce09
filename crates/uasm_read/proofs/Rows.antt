-- Worked rows of the definitions.
use Rattle.std.proofs.Common.{◌≡◌, [], ◌∷◌, Ok, Err, Some, refl, pos, negsuc}
use Rattle.std.specs.Prelude.{codes, Result}
use Rattle.uasm_read.specs.declared.error.UasmCause.{UasmCause}
use Rattle.uasm_read.specs.declared.error.UasmCause.TheVariants as cause
use Rattle.uasm_read.specs.declared.error.UasmRefused.{UasmRefused}
use Rattle.uasm_read.specs.declared.operand.Operand.TheVariants.{Fix, Const, Label}
use Rattle.uasm_read.specs.Texts.{Bytes}
use Rattle.uasm_read.specs.Modules.{ModuleParts}
use Rattle.uasm_read.proofs.Computing.{assembling}
use Rattle.uasm_read.specs.Assembles.{assembled, item}

abbrev refused : Bytes → Result ModuleParts UasmRefused → Type 0
refused text r = assembled (Some 1048576) text ≡ r

abbrev at : UasmCause → Result ModuleParts UasmRefused
at why = Err (record { line = 2; cause = why })

row_bad : refused (codes "end stop\n9x 1\n") (at cause.BadLine)
unfolding assembling
row_bad = refl

row_none : refused (codes "end stop\n pusch 1") (at cause.NoOperation)
unfolding assembling
row_none = refl

row_operand : refused (codes "debug\n push 1 2\n") (at cause.BadOperand)
unfolding assembling
row_operand = refl

row_twice : refused (codes ".import a\na:\ndebug\nref a") (at cause.Twice)
unfolding assembling
row_twice = refl

row_unknown : refused (codes "a:\npush b\nend commit\r\n") (at cause.Unknown)
unfolding assembling
row_unknown = refl

row_falls : refused (codes "a:\ndebug\npair_t 1 a") (at cause.FallsOff)
unfolding assembling
row_falls = refl

row_label_at_end : refused (codes "debug\na: ; nothing follows\n\n.export a") (at cause.BadLine)
unfolding assembling
row_label_at_end = refl

row_label_before_bad : refused (codes "end stop\na:\nb:\npush") (Err (record { line = 4; cause = cause.BadOperand }))
unfolding assembling
row_label_before_bad = refl

row_after_label : refused (codes "end commit\nx:\nref x\ndebug\nref x") (Err (record { line = 3; cause = cause.BadLine }))
unfolding assembling
row_after_label = refl

row_word : refused (codes "end stop\ncell #instr_t 0 1073741824 #?") (at cause.BadOperand)
unfolding assembling
row_word = refl

row_spin : refused (codes ".export boot\nboot: ; begin\n\tpush -7\r\n\n ref done\ndone:\n end commit\n")
    (Ok (record { imports = []; exports = codes "boot" ∷ []; items = item (codes "boot" ∷ []) (Const 9) (Fix (pos 0)) (Fix (negsuc 6)) (Label (codes "done")) ∷ item (codes "done" ∷ []) (Const 9) (Fix (pos 21)) (Fix (pos 1)) (Const 0) ∷ [] }))
unfolding assembling
row_spin = refl
