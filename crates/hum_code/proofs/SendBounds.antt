-- An event is charged no more events than its decided delivery has messages.
use Rattle.std.proofs.Common.{◌≡◌, ap, ◌∙◌, ℕ, ◌+◌, ◌≤◌, List, [], arith}
use Rattle.cap_words.specs.Seen.{Seen, grown}
use Rattle.instr_table.specs.Types.{Grows}
use Rattle.instr_table.specs.Sheet.{Account}
use Rattle.instr_table.specs.Outcome.{Row, events_in}
use Rattle.hum_meaning.specs.Action.{Gives, Fails, Undecided}
use Rattle.hum_meaning.specs.Laws.{IsDecided}
use Rattle.hum_code.specs.Bounds.{limits}
use Rattle.hum_code.specs.Comes.{Point, moved, more_events, roll_with, row_of, here, onward, never}
use Rattle.hum_code.specs.Emission.{Emission}
use Rattle.hum_code.specs.Ending.{DeliveryOutcome, sends_of, AreActors}
use Rattle.hum_code.proofs.World.{same, later, takes}
use Rattle.hum_code.proofs.Gathering.{sends_stand}
use Rattle.hum_code.proofs.Traces.{events_more}
use Rattle.hum_code.proofs.Results.{Result, Gets}
use Rattle.hum_code.proofs.Committing.{Committed}
use Rattle.hum_code.proofs.Alone.{Ending, step_named, comes_to_end}

module _ (em : Emission) (s : ℕ) where
  -- at its end it was charged an event for each
  at_end : (o : DeliveryOutcome) → IsDecided o → (t : Seen) (l : Point) → Result em.setting (limits s) (Committed em (limits s)) o t l
      → l.events ≡ sends_of o
  at_end (Gives u f left) d t l h = h.events ∙ sends_stand em.layout em.setting.roll t f l.effects h.effects
  at_end (Fails code sends) d t l h = h.events ∙ h.counted
  at_end Undecided d t l h = absurd d

  -- ending costs none
  end_row : (o : DeliveryOutcome) → IsDecided o → (t : Seen) (l : Point) (sheet : List Account)
      → Result em.setting (limits s) (Committed em (limits s)) o t l
      → (row_of em.setting t sheet l).charge.events ≡ 0
  end_row (Gives u f left) d t l sheet h = ap (λ (r : Row). r.charge.events) (h.row sheet)
  end_row (Fails code sends) d t l sheet h = ap (λ (r : Row). r.charge.events) (h.row sheet)
  end_row Undecided d t l sheet h = absurd d

  -- the next instruction included
  pub events_within : (o : DeliveryOutcome) → IsDecided o → (t : Seen) (l : Point) (sheet : List Account) → Grows em.setting.base t
      → AreActors t (roll_with em.setting.roll l.effects)
      → Gets em (limits s) (Committed em (limits s)) o t l → (row_of em.setting t sheet l).charge.events + l.events ≤ sends_of o
  events_within o d t l sheet b h (here p) =
      let e = at_end o d t l (p t (same t) b) in
      let r = end_row o d t l sheet (p t (same t) b) in
      omega (arith, e, r)
  events_within o d t l sheet b h (onward g e c) =
      let n : Ending em.setting (limits s).most (Result em.setting (limits s) (Committed em (limits s)) o) (grown t (g t).made) (moved l (g t))
      = comes_to_end em.setting (limits s).most _ (grown t (g t).made) (moved l (g t)) (later b (takes t (g t).made))
      (step_named em.setting (limits s).most (Result em.setting (limits s) (Committed em (limits s)) o) t [] l (g t) (e t [] (same t) b) h)
      (c t (same t) b) in
      let r : (row_of em.setting t sheet l).charge.events ≡ events_in (g t).effect = ap (λ (r : Row). r.charge.events) (e t sheet (same t) b) in
      let k = events_more (g t).effect l.events in
      let i = at_end o d n.store n.point n.holds in
      let j : more_events (g t).effect l.events ≤ n.point.events = n.events in
      omega (arith, r, k, i, j)
  events_within o d t l sheet b h (never n p q) = absurd (n h.once)
