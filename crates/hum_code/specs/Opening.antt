-- An event of the first actor, whose behaviour is the whole file.
use Rattle.std.specs.Prelude.{◌≡◌, List}
use Rattle.cap_words.specs.Words.{W}
use Rattle.cap_words.specs.Seen.{Seen}
use Rattle.hum_meaning.specs.Value.{Actor, Plain}
use Rattle.hum_core.specs.Openings.{outermost}
use Rattle.hum_code.specs.Layout.{Layout, shape_of, IsBlock}
use Rattle.hum_code.specs.Stands.{ShowsPair, Stands}
use Rattle.hum_code.specs.Emission.{Emission}

-- the word is a list that begins with actor 1 and actor 2
pub record Devices (lay : Layout) (s : Seen) (roll : List W) (w : W) : Type 0 where
  pub first : W
  pub second : W
  pub behind_first : W
  pub behind_second : W
  pub begins : ShowsPair s w first behind_first
  pub goes_on : ShowsPair s behind_first second behind_second
  pub first_stands : Stands lay s roll first (Plain (Actor 1))
  pub second_stands : Stands lay s roll second (Plain (Actor 2))

-- the event's actor has the devices in its state, and unit 0 is a block that stands where the outermost environment is
pub record Opens (em : Emission) : Type 0 where
  pub devices : Devices em.layout em.setting.base em.setting.roll em.setting.own.state
  pub file : IsBlock em.layout 0
  pub shape : em.layout.shape 0 ≡ shape_of outermost
