use Rattle.std.proofs.Common.{◌≡◌, ◌+◌, ap, [], ◌∷◌, length, refl, arith}
use Rattle.cap_words.specs.Words.{undef}
use Rattle.instr_table.specs.declared.charge.Charge.{Charge}
use Rattle.instr_table.specs.Event.{no_effects}
use Rattle.vm_dict.specs.Calls.{popped_in}
use Rattle.parts_tests.proofs.Owning.{any_own}
use Rattle.parts_tests.proofs.dictionaries.pop.Goals as goal

pub deque_pop-requires : goal.deque_pop-requires
deque_pop-requires g c =
    let k : c.charged.result ≡ length (popped_in c.args.quads.now c.args.deque).cells + 2 = ap (λ (c : Charge). c.quads) (c.charged.ensures.cost any_own [] no_effects (c.args.deque ∷ []) undef refl) in
    omega (arith, c.charged.ensures.room)
