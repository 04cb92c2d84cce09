-- When configurations and deliveries of two languages are alike.
use Rattle.std.specs.Prelude.{◌≡◌, ℕ}
use Rattle.hum_meaning.specs.Value.{Parts, Behaviour, Device, Answers}
use Rattle.hum_meaning.specs.Language.{Language}
use Rattle.hum_meaning.specs.Deliver.{Message, Configuration, Delivery, Committed, Failed, Open, deliver}
use Rattle.hum_core.specs.Alike.{Each, Reading, Alike}

module _ {L K : Parts} (r : Reading L K) where
  -- the same device, or values that are alike
  abbrev pub BehaviourAs : Behaviour L → Behaviour K → Type 0
  BehaviourAs (Device n) (Device m) = n ≡ m
  BehaviourAs (Answers v) (Answers w) = Alike r v w
  BehaviourAs _ _ = ⊥

  pub record MessageAs (m : Message L) (m' : Message K) : Type 0 where
    pub number : m.number ≡ m'.number
    pub target : m.target ≡ m'.target
    pub value : Alike r m.value m'.value

  pub record ConfigurationAs (c : Configuration L) (d : Configuration K) : Type 0 where
    pub behaviours : Each BehaviourAs c.behaviours d.behaviours
    pub pending : Each MessageAs c.pending d.pending
    pub next_number : c.next_number ≡ d.next_number
    pub output : c.output ≡ d.output

  -- the same end, and configurations that are alike after it
  abbrev pub DeliveryAs : Delivery L → Delivery K → Type 0
  DeliveryAs (Committed c) (Committed d) = ConfigurationAs c d
  DeliveryAs (Failed code sends c) (Failed code' sends' d) = (code ≡ code') × (sends ≡ sends') × ConfigurationAs c d
  DeliveryAs Open Open = Unit {0}
  DeliveryAs _ _ = ⊥

-- messages that are alike are delivered alike in configurations that are alike, by every number of steps
abbrev pub DeliverAlike : {L K : Parts} → Reading L K → Language L → Language K → Type 0
DeliverAlike {L} {K} r l k =
    (c : Configuration L) (d : Configuration K) (m : Message L) (m' : Message K) (s : ℕ) → ConfigurationAs r c d → MessageAs r m m' →
    DeliveryAs r (deliver l c m s) (deliver k d m' s)
