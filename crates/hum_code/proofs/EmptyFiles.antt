-- What the empty file means.
use Rattle.std.proofs.Common.{◌≡◌, refl, ◌∙◌, [], slice_get}
use Rattle.hum_meaning.specs.Action.{Gives, no_effects}
use Rattle.hum_meaning.specs.Meaning.{level}
use Rattle.hum_core.specs.TestLists.{test_body}
use Rattle.hum_code.specs.Emission.{Emission}
use Rattle.hum_code.proofs.Standing.{CoreValue}
use Rattle.hum_code.proofs.Boots.{opening, two_spent}

-- the empty file is decided by two steps, and gathers nothing
pub empty_file : (em : Emission) → test_body (slice_get em.layout.units 0) ≡ [] → (v : CoreValue) → opening em 2 v ≡ Gives tt no_effects 0
unfolding level
empty_file em h v = two_spent em 0 v ∙ rw h refl
