-- The configuration that a program begins with, and the one after a journal.
use Rattle.std.specs.Prelude.{◌≡◌, ℕ, nat_eq, if◌then◌else◌, List, [], ◌∷◌, Option, Some, None}
use Rattle.hum_syntax.specs.declared.tree.Expr.TheVariants as expr
use Rattle.hum_syntax.specs.declared.tree.Pat.TheVariants as pat
use Rattle.hum_syntax.specs.declared.tree.Stmt.{Stmt}
use Rattle.hum_meaning.specs.Value.{Parts, Nil, Plain, Function, Device, Answers}
use Rattle.hum_meaning.specs.Language.{Language}
use Rattle.hum_meaning.specs.Named.{Trees, Lambda, Named, written}
use Rattle.hum_meaning.specs.Look.{outermost}
use Rattle.hum_meaning.specs.Written.{humus}
use Rattle.hum_meaning.specs.Deliver.{Message, Configuration, Committed, Failed, drop, deliver}

-- ---- the beginning

-- actor 0 has this function in the outermost environment, and message 0 is NIL to it; the devices are actors 1 and 2
abbrev pub opening_of : (t : Trees) → Lambda t → Configuration (Named t)
opening_of t file = record {
  behaviours = Answers (Function file (outermost t)) ∷ Device 0 ∷ Device 1 ∷ [];
  pending = record { number = 0; target = 0; value = Plain Nil } ∷ [];
  next_number = 1;
  output = [];
}

-- for the statements of a file: the function is `\_.[ file ]`
abbrev pub opening : List Stmt → Configuration (Named written)
opening file = opening_of written (pat.Any, expr.Block file)

-- ---- journals

-- how an event ended: it committed, it failed with a code, or it ran out of what it was granted
pub data Ending : Type 0 where
  Commits : Ending
  FailsWith : (code : ℕ) → Ending
  RunsOut : Ending

-- an event that is finished, by the number of its message
pub record Entry : Type 0 where
  pub message : ℕ
  pub ending : Ending

module _ {L : Parts} where
  -- the message of a number
  abbrev pub message_of : ℕ → List (Message L) → Option (Message L)
  message_of n [] = None
  message_of n (m ∷ ms) = if nat_eq m.number n then Some m else message_of n ms

module _ {L : Parts} (language : Language L) where
  -- the message's end makes the second configuration of the first: some number of steps decides its delivery so; where the event ran out,
  -- its message is gone and nothing else changes
  abbrev pub Leads : Configuration L → Message L → Ending → Configuration L → Type 0
  Leads c m Commits d = (s : ℕ) × (deliver language c m s ≡ Committed d)
  Leads c m (FailsWith code) d = (s : ℕ) × (sends : ℕ) × (deliver language c m s ≡ Failed code sends d)
  Leads c m RunsOut d = d ≡ drop c m

  -- an entry ends a pending message
  pub record Enters (c : Configuration L) (e : Entry) (d : Configuration L) : Type 0 where
    pub message : Message L
    pub pending : message_of e.message c.pending ≡ Some message
    pub leads : Leads c message e.ending d

  -- the entries in order lead from the first configuration to the second
  abbrev pub Follows : Configuration L → List Entry → Configuration L → Type 0
  Follows c [] d = c ≡ d
  Follows c (e ∷ more) d = (between : Configuration L) × Enters c e between × Follows between more d

-- the configuration of a file after a journal
abbrev pub After : List Stmt → List Entry → Configuration (Named written) → Type 0
After file journal c = Follows humus (opening file) journal c
