use Rattle.std.proofs.Common.{sym, ◌∙◌}
use Rattle.cap_words.specs.Seen.{seen}
use Rattle.vm_devices.proofs.Plain.{undef_text, nil_text, false_text, true_text, other_text}
use Rattle.vm_devices.proofs.text.fixed_text.Goals as goal

pub returns-then-is_same : goal.returns-then-is_same
returns-then-is_same c = undef_text (seen c.args.quads.now.store) c.args.word (sym c.is_same.ensures ∙ c.if-is_same.true)

pub returns-then-is_same-2 : goal.returns-then-is_same-2
returns-then-is_same-2 c = nil_text (seen c.args.quads.now.store) c.args.word (sym c.is_same-else-is_same.ensures ∙ c.if-is_same-2.true)

pub returns-then-is_same-3 : goal.returns-then-is_same-3
returns-then-is_same-3 c = false_text (seen c.args.quads.now.store) c.args.word (sym c.is_same-else-is_same-2.ensures ∙ c.if-is_same-3.true)

pub returns-then-is_same-4 : goal.returns-then-is_same-4
returns-then-is_same-4 c = true_text (seen c.args.quads.now.store) c.args.word (sym c.is_same-else-is_same-3.ensures ∙ c.if-is_same-4.true)

pub returns-else-is_same-4 : goal.returns-else-is_same-4
returns-else-is_same-4 c =
    c.opaque_text.ensures ∙ sym (other_text c.args.quads.now.store c.args.word c.requires.number c.requires.cell (sym c.is_same.ensures ∙ c.if-is_same.false) (sym c.is_same-else-is_same.ensures ∙ c.if-is_same-2.false) (sym c.is_same-else-is_same-2.ensures ∙ c.if-is_same-3.false) (sym c.is_same-else-is_same-3.ensures ∙ c.if-is_same-4.false))
