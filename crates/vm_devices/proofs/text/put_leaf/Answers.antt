use Rattle.std.proofs.Common.{sym, ◌∙◌}
use Rattle.cap_words.specs.Seen.{seen}
use Rattle.cap_words.proofs.Ranges.{in_range-cast}
use Rattle.vm_devices.proofs.Plain.{number_text, readable_text}
use Rattle.vm_devices.proofs.text.put_leaf.Goals as goal

pub returns-in-Some-clause-all : goal.returns-in-Some-clause-all
returns-in-Some-clause-all g c = rw (number_text (seen c.args.quads.now.store) c.args.word c.in-Some.number (sym c.number.ensures.value ∙ c.in-Some.is), ← in_range-cast c.in-Some.number c.in-Some.ensures.in_range) c.put_number.ensures.all

pub returns-in-Some-clause-front : goal.returns-in-Some-clause-front
returns-in-Some-clause-front g c = rw (number_text (seen c.args.quads.now.store) c.args.word c.in-Some.number (sym c.number.ensures.value ∙ c.in-Some.is), ← in_range-cast c.in-Some.number c.in-Some.ensures.in_range) c.put_number.ensures.front

pub returns-in-Some-cell-clause-all : goal.returns-in-Some-cell-clause-all
returns-in-Some-cell-clause-all g c = rw (readable_text (seen c.args.quads.now.store) c.args.word c.in-Some-cell.q (sym c.cell.ensures ∙ c.in-Some-cell.is)) c.put_cell.ensures.all

pub returns-in-Some-cell-clause-front : goal.returns-in-Some-cell-clause-front
returns-in-Some-cell-clause-front g c = rw (readable_text (seen c.args.quads.now.store) c.args.word c.in-Some-cell.q (sym c.cell.ensures ∙ c.in-Some-cell.is)) c.put_cell.ensures.front
