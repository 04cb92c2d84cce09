use Rattle.std.proofs.Common.{◌≤◌, ◌++◌, length, map, ap, sym, subst, ◌∙◌}
use Rattle.std.specs.Prelude.{None, Some}
use Rattle.std.specs.List.{flat_map}
use Rattle.uasm_read.specs.declared.line.Line.TheVariants as form
use Rattle.uasm_read.specs.Assembles.{Assembles, text_limit}
use Rattle.uasm_read.specs.Writes.{item_lines, ended}
use Rattle.uasm_read.proofs.Written.{text_made, module_again, module_within}
use Rattle.uasm_read.proofs.write.write_module.Goals as goal

pub returns-clause-text : goal.returns-clause-text
returns-clause-text c =
    text_made c.args.«module».now c.put_directives.new.text.items c.put_directives-2.new.text.items c.put_items.new.text.items
    (c.in_ok-put_directives.ensures ∙ ap (λ bs. bs ++ flat_map ended (map form.Import c.imports.result.now)) c.new-text.ensures.items
    ∙ ap (λ names. flat_map ended (map form.Import names)) c.imports.ensures.value)
    (c.in_ok-put_directives-2.ensures ∙ ap (λ names. c.put_directives.new.text.items ++ flat_map ended (map form.Export names)) c.exports.ensures.value)
    (c.in_ok-put_items.ensures ∙ ap (λ items. c.put_directives-2.new.text.items ++ flat_map ended (flat_map item_lines items)) c.items.ensures.value)

pub returns-clause-module : goal.returns-clause-module
returns-clause-module c = subst (λ text. Assembles None text c.args.«module».now) (sym (returns-clause-text c)) (module_again c.args.«module».now c.imports.ensures.is_module)

pub returns-clause-again : goal.returns-clause-again
returns-clause-again c =
    subst (λ text. length text ≤ text_limit → Assembles (Some text_limit) text c.args.«module».now) (sym (returns-clause-text c))
    (module_within c.args.«module».now text_limit c.imports.ensures.is_module)
