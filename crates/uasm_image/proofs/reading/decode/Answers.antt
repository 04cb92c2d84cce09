use Rattle.std.proofs.Common.{arith}
use Rattle.uasm_image.proofs.Told.{is_image, is_only, is_refused, is_faulty}
use Rattle.uasm_image.proofs.reading.decode.Goals as goal

pub returns-clause-image : goal.returns-clause-image
returns-clause-image c = is_image c.args.bytes.now c.image_of.result (λ i. omega (arith, c.type_inv.bytes i)) c.image_of.ensures

pub returns-clause-only : goal.returns-clause-only
returns-clause-only c i good same = is_only c.args.bytes.now c.image_of.result i good same c.image_of.ensures

pub returns-clause-refused : goal.returns-clause-refused
returns-clause-refused c at cause is = is_refused c.args.bytes.now c.image_of.result at cause
    (λ i. omega (arith, c.type_inv.bytes i)) is c.image_of.ensures

pub returns-clause-faulty : goal.returns-clause-faulty
returns-clause-faulty c at cause fault = is_faulty c.args.bytes.now c.image_of.result at cause
    (λ i. omega (arith, c.type_inv.bytes i)) fault c.image_of.ensures
