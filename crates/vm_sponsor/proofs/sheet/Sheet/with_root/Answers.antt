use Rattle.std.proofs.Common.{◌≡◌, ◌≤◌, refl, ◌∙◌, ap, ap₂, List, ◌∷◌, ◌++◌, [], arith}
use Rattle.cap_words.specs.Words.{nil}
use Rattle.cap_words.specs.Store.{taken}
use Rattle.quad_memory.specs.declared.cells.SponsorCell.{SponsorCell}
use Rattle.quad_memory.specs.Memory.{Memory}
use Rattle.quad_memory.specs.Cells.{sponsor_cells}
use Rattle.vm_sponsor.specs.declared.amounts.Amounts.{Amounts}
use Rattle.vm_sponsor.specs.declared.amounts.Row.{Row}
use Rattle.vm_sponsor.specs.Totals.{most_held}
use Rattle.vm_sponsor.specs.Sheets.{fresh_cell}
use Rattle.vm_sponsor.proofs.Made.{Rooted, rooted, fresh_row}
use Rattle.vm_sponsor.proofs.sheet.Sheet.with_root.Goals as goal

pub returns : goal.returns
returns c =
    let s = c.args.quads.now.store in
    let t = c.take_sponsor-sponsor.new.self.store in
    let w = c.take_sponsor-sponsor.result in
    let g = c.args.grant in
    let memory = c.memory-memory.ensures.value in
    let events = c.events-events.ensures.value in
    let cycles = c.cycles-cycles.ensures.value in
    let m : g.memory ≤ most_held = omega (arith, memory, c.memory-memory.ensures.limit) in
    let e : g.events ≤ most_held = omega (arith, events, c.events-events.ensures.limit) in
    let y : g.cycles ≤ most_held = omega (arith, cycles, c.cycles-cycles.ensures.limit) in
    let held : (record { memory = c.memory-memory.result; events = c.events-events.result; cycles = c.cycles-cycles.result }) ≡ g = λ i. record { memory = memory i; events = events i; cycles = cycles i } in
    let received : (record { memory = c.from.result; events = c.from-2.result; cycles = c.from-3.result }) ≡ g = λ i. record { memory = (c.from.ensures ∙ memory) i; events = (c.from-2.ensures ∙ events) i; cycles = (c.from-3.ensures ∙ cycles) i } in
    let after = ap (λ (x : Memory). x.store) c.take_sponsor-sponsor.ensures.after ∙ ap (λ (cell : SponsorCell). taken s (sponsor_cells cell)) (c.fresh_cell.ensures ∙ ap (λ (a : Amounts). fresh_cell nil a) held) in
    let pushed = c.push_row.ensures.rows ∙ ap₂ (λ (l : List Row) (a : Amounts). l ++ fresh_row w a ∷ []) c.in_ok-sponsors.ensures.items received in
    let k : Rooted s t c.args.rows c.push_row.new.rows.items g = rooted s t c.args.rows c.push_row.new.rows.items w g m e y c.take_sponsor-sponsor.ensures.word after pushed in
    record { sheet = k.sheet; belongs = k.belongs; room = refl; transfers = refl; seen = k.seen_is; err = tt; frame = k.frame; quads_room = ap (λ (x : Memory). x.room) c.take_sponsor-sponsor.ensures.after }
