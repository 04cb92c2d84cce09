use Rattle.std.proofs.Common.{◌≡◌, Bool, true, false, refl, ap, ◌∙◌}
use Rattle.uasm_read.specs.Texts.{has_name}
use Rattle.uasm_read.specs.Reading.{holds}
use Rattle.uasm_read.proofs.faults.note.Goals as goal
use Rattle.std.specs.Prelude.{◌||◌, cond}
use Rattle.std.specs.Str.{bytes_eq}
use Rattle.std.proofs.lemmas.Cmp.{nat_list_eq_equiv}

noted : (asked found b : Bool) → asked ≡ found → cond asked true b ≡ ((found || false) || b)
noted true found b e = rw (← e) refl
noted false found b e = rw (← e) refl

pub returns-in_ok-insert : goal.returns-in_ok-insert
returns-in_ok-insert c = λ name.
    let key = c.in-Some.name.now in
    let put : holds c.insert.new.self name ≡ cond (bytes_eq key name) true (holds c.args.names.now name) = c.in_ok-insert.ensures.updates.0 (record { ref_ptr = (0, 0); now = name }) in
    put ∙ noted (bytes_eq key name) (bytes_eq name key) (holds c.args.names.now name) (nat_list_eq_equiv.symm key name) ∙ ap (λ names. (has_name names name || holds c.args.names.now name)) c.in-Some.ensures
