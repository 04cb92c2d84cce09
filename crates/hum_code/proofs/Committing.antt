-- The next instruction commits the event.
use Rattle.std.proofs.Common.{◌≡◌, refl, ℕ, suc, ◌≤◌, pos, List, [], length}
use Rattle.cap_words.specs.Words.{W}
use Rattle.cap_words.specs.Seen.{Seen}
use Rattle.instr_table.specs.declared.op.Op.TheVariants.{End}
use Rattle.instr_table.specs.Event.{Effects}
use Rattle.instr_table.specs.Sheet.{Account}
use Rattle.instr_table.specs.Outcome.{Commits, charge, ends_with}
use Rattle.hum_code.specs.Bounds.{Limits}
use Rattle.hum_code.specs.Comes.{Point, point, row_of, Comes, here, At}
use Rattle.hum_code.specs.Emission.{Emission}
use Rattle.hum_code.proofs.Composing.{row_there}
use Rattle.hum_code.proofs.Standing.{Gathered, effects_later}
use Rattle.hum_code.proofs.Results.{Recorded}

-- the next instruction commits, the record stands for what was gathered, and an event was paid for each message
pub record Committed (em : Emission) (lim : Limits) (u : Unit {0}) (f : Gathered) (left : ℕ) (t : Seen) (l : Point) : Type 0 where
  pub row : (sheet : List Account) → row_of em.setting t sheet l ≡ ends_with (charge 0 0) Commits
  pub effects : Recorded em t f l.effects
  pub cycles : suc l.cycles ≤ lim.most
  pub quads : l.quads ≤ lim.most
  pub events : l.events ≡ length l.effects.sent

pub committing_at : (em : Emission) (lim : Limits) (a k : W) → At em.setting a (End (pos 1)) k
    → (f : Gathered) (left : ℕ) (t : Seen) (d : Effects) (c q : ℕ)
    → Recorded em t f d → suc c ≤ lim.most → q ≤ lim.most → Comes em.setting lim.most (Committed em lim tt f left) t (point a [] d c q)
committing_at em lim a k h f left t d c q e p o = here (λ u g b. record {
  row = λ sheet. row_there em.setting lim.most (End (pos 1)) a k u sheet (point a [] d c q) refl h b;
  effects = effects_later em.layout em.setting.roll t u f d g e;
  cycles = p;
  quads = o;
  events = refl;
})
