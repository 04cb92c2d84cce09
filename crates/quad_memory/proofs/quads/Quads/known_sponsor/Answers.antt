use Rattle.std.proofs.Common.{◌≡◌, ℕ, ◌+◌, Some, sym, ◌∙◌, subst}
use Rattle.quad_memory.specs.Cells.{ram_cell}
use Rattle.quad_memory.proofs.Known.{sponsor-words}
use Rattle.quad_memory.proofs.quads.Quads.known_sponsor.Goals as goal

pub returns : goal.returns
returns c =
    let s = c.args.self.now.store in
    let held = c.quad_at-held.result in
    let spent = c.quad_at-spent.result in
    let place = c.known_place-place.ensures.value in
    let held_is = subst (λ (n : ℕ). ram_cell s.ram n ≡ Some held) place c.quad_at-held.ensures in
    let spent_is = subst (λ (n : ℕ). ram_cell s.ram (n + 1) ≡ Some spent) place c.quad_at-spent.ensures in
    sponsor-words s c.args.w held spent c.requires held_is spent_is ∙ sym c.sponsor_in.ensures
