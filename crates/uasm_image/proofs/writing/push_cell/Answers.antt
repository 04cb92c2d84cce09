use Rattle.uasm_image.specs.Spelled.{word}
use Rattle.uasm_image.proofs.Joined.{four_joined}
use Rattle.uasm_image.proofs.writing.push_cell.Goals as goal

pub returns-clause-pushed : goal.returns-clause-pushed
returns-clause-pushed c =
    let q = c.args.q.now in
    four_joined c.push_word-4.result c.args.bytes.now.items _ _ _ _ (word q.t) (word q.x) (word q.y)
    (word q.z) c.in_ok-push_word.ensures c.in_ok-push_word-2.ensures c.in_ok-push_word-3.ensures c.push_word-4.ensures
