use Rattle.std.proofs.Common.{◌≡◌, ◌+◌, ap, [], ◌∷◌, length, refl, arith}
use Rattle.cap_words.specs.Words.{undef}
use Rattle.instr_table.specs.declared.charge.Charge.{Charge}
use Rattle.instr_table.specs.Event.{no_effects}
use Rattle.vm_dict.specs.Calls.{deleted_in}
use Rattle.parts_tests.proofs.Owning.{any_own}
use Rattle.parts_tests.proofs.dictionaries.del.Goals as goal

pub dict_del-requires : goal.dict_del-requires
dict_del-requires g c =
    let k : c.charged.result ≡ length (deleted_in c.args.quads.now c.args.dict c.args.key).cells + 1 = ap (λ (c : Charge). c.quads) (c.charged.ensures.cost any_own [] no_effects (c.args.key ∷ c.args.dict ∷ []) undef (refl, refl)) in
    omega (arith, c.charged.ensures.room)
