use Rattle.std.proofs.Common.{◌≡◌, ℕ, List, sym, ap, ◌∙◌, length, map, Ok, Some, None, false, inl, rules}
use Rattle.std.specs.Prelude.{nat_lt}
use Rattle.std.proofs.lemmas.Bool.{cond-false}
use borrow.Author.Tests.{tests}
use Rattle.uasm_read.specs.Texts.{lines_of}
use Rattle.uasm_read.specs.declared.line.Line.{Line}
use Rattle.uasm_read.specs.Lines.{line_of}
use Rattle.uasm_read.specs.Faults.{refusal}
use Rattle.uasm_read.specs.Modules.{ModuleParts}
use Rattle.uasm_read.specs.Assembles.{assembled, module_of, outcome, text_limit}
use Rattle.uasm_read.proofs.Sound.{module_sound}
use Rattle.uasm_read.proofs.read.read_module.Goals as goal

pub module_of-requires : goal.module_of-requires
module_of-requires c =
    let read = c.as_slice-lines.ensures.value ∙ c.in_ok-lines.ensures.lines in
    let sound : refusal (map line_of (lines_of c.args.bytes.now)) ≡ None = ap refusal (sym read) ∙ sym c.in_ok-refused.ensures ∙ c.in_default.is in
    rw read (module_sound (lines_of c.args.bytes.now) sound)

-- lines that are not refused assemble to their module
assembles : (limit : ℕ) (text : List ℕ) (read : List Line) (m : ModuleParts) → nat_lt limit (length text) ≡ false → read ≡ map line_of (lines_of text) → refusal read ≡ None → m ≡ module_of read → assembled (Some limit) text ≡ Ok m
assembles limit text read m short same sound made =
    cond-false (nat_lt limit (length text)) _ _ short
    ∙ ap (λ o. outcome o (module_of (map line_of (lines_of text)))) (ap refusal (sym same) ∙ sound)
    ∙ ap Ok (ap module_of (sym same) ∙ sym made)

pub returns-clause-module : goal.returns-clause-module
returns-clause-module c =
    let short : nat_lt text_limit (length c.args.bytes.now) ≡ false = search (rules, tests) in
    assembles text_limit c.args.bytes.now c.as_slice-lines.result.now c.in_ok-module_of.field-0 short (c.as_slice-lines.ensures.value ∙ c.in_ok-lines.ensures.lines) (sym c.in_ok-refused.ensures ∙ c.in_default.is) c.in_ok-module_of.ensures

-- a text assembles to one module
one_module : (limit : ℕ) (text : List ℕ) (m n : ModuleParts) → assembled (Some limit) text ≡ Ok m → assembled (Some limit) text ≡ Ok n → m ≡ n
one_module limit text m n h k = cc

pub returns-clause-only : goal.returns-clause-only
returns-clause-only c = λ m found.
    let short : nat_lt text_limit (length c.args.bytes.now) ≡ false = search (rules, tests) in
    inl (ap Ok (one_module text_limit c.args.bytes.now _ m (assembles text_limit c.args.bytes.now c.as_slice-lines.result.now c.in_ok-module_of.field-0 short (c.as_slice-lines.ensures.value ∙ c.in_ok-lines.ensures.lines) (sym c.in_ok-refused.ensures ∙ c.in_default.is) c.in_ok-module_of.ensures) found))
