-- An event whose code comes to what its delivery decides follows its delivery.
use Rattle.std.proofs.Common.{◌≡◌, ap, subst, ℕ, suc, ◌+◌, ◌*◌, ◌≤◌, ◌⊎◌, inl, inr, List, [], arith}
use Rattle.cap_words.specs.Seen.{Seen, grown}
use Rattle.instr_table.specs.Types.{Grows}
use Rattle.instr_table.specs.Event.{no_effects}
use Rattle.instr_table.specs.Sheet.{Account}
use Rattle.instr_table.specs.Outcome.{Going, Goes, Row, going}
use Rattle.instr_table.specs.Lane.{Lane, begun, lane_row}
use Rattle.hum_meaning.specs.Action.{Gives, Fails, Undecided}
use Rattle.hum_meaning.specs.Laws.{IsDecided}
use Rattle.hum_code.specs.Bounds.{limits}
use Rattle.hum_code.specs.Comes.{Point, point, moved, roll_with, row_of, NamesOnce, here, onward, never}
use Rattle.instr_table.specs.Spent.{Spent, spent_more}
use Rattle.hum_code.specs.Reaches.{seen_at, Reaches}
use Rattle.hum_code.specs.Emission.{Emission}
use Rattle.hum_code.specs.Ending.{DeliveryOutcome, sends_of, IsWithin, AreActors, EndsSo, FollowsDelivery}
use Rattle.hum_code.proofs.World.{same, later, takes}
use Rattle.hum_code.proofs.Results.{Result, Gets}
use Rattle.hum_code.proofs.Committing.{Committed}
use Rattle.hum_code.proofs.Traces.{spent_now}
use Rattle.hum_code.proofs.Ends.{in_limits, now, above, along, row_is, commits_only, fails_only}
use Rattle.hum_code.proofs.SendBounds.{events_within}

module _ (em : Emission) (s : ℕ) (t : Seen) (sheet : List Account) (l : Point) (b : Grows em.setting.base t) where
  abbrev EndsAt : DeliveryOutcome → Seen → Point → Type 0
  EndsAt o = Result em.setting (limits s) (Committed em (limits s)) o

  abbrev IsWithinNext : Type 0
  IsWithinNext = (suc l.cycles ≤ 64 * suc s) × ((row_of em.setting t sheet l).charge.quads + l.quads ≤ 64 * suc s)

  -- ending costs no quads
  end_within : (o : DeliveryOutcome) → IsDecided o → EndsAt o t l → IsWithinNext
  end_within (Gives u f left) d h =
      let e : (row_of em.setting t sheet l).charge.quads ≡ 0 = ap (λ (r : Row). r.charge.quads) (h.row sheet) in
      (h.cycles, omega (arith, e, h.quads))
  end_within (Fails code sends) d h =
      let e : (row_of em.setting t sheet l).charge.quads ≡ 0 = ap (λ (r : Row). r.charge.quads) (h.row sheet) in
      (h.cycles, omega (arith, e, h.quads))
  end_within Undecided d h = absurd d

  -- the next instruction is within the bound
  next_within : (o : DeliveryOutcome) → IsDecided o → NamesOnce em.setting l.effects → Gets em (limits s) (Committed em (limits s)) o t l
      → IsWithinNext
  next_within o d y (here p) = end_within o d (p t (same t) b)
  next_within o d y (onward g e c) =
      let h = spent_now em.setting (EndsAt o) (64 * suc s) (in_limits em (limits s) o d) (grown t (g t).made) (moved l (g t))
      (later b (takes t (g t).made)) (c t (same t) b) in
      let r = ap (λ (r : Row). r.charge.quads) (e t sheet (same t) b) in
      (h.0, omega (arith, h.1, r))
  next_within o d y (never n p q) = absurd (n y)

  ends_so : (o : DeliveryOutcome) → IsDecided o → EndsAt o t l → EndsSo em o t l.effects (row_of em.setting t sheet l).outcome
  ends_so (Gives u f left) d h = (ap (λ (r : Row). r.outcome) (h.row sheet), h.effects)
  ends_so (Fails code sends) d h = ap (λ (r : Row). r.outcome) (h.row sheet)
  ends_so Undecided d h = absurd d

  abbrev EndsOrGoes : DeliveryOutcome → Row → Type 0
  EndsOrGoes o r = EndsSo em o t l.effects r.outcome ⊎ ((g : Going) × (r.outcome ≡ Goes g))

  ends_or_goes : (o : DeliveryOutcome) → IsDecided o → EndsAt o t l ⊎ ((g : Going) × (row_of em.setting t sheet l ≡ going g))
      → EndsOrGoes o (row_of em.setting t sheet l)
  ends_or_goes o d (inl h) = inl (ends_so o d h)
  ends_or_goes o d (inr h) = inr (h.0, ap (λ (r : Row). r.outcome) h.1)

module _ (em : Emission) (out : ℕ → DeliveryOutcome)
    (comes : (s : ℕ) → Gets em (limits s) (Committed em (limits s)) (out s) em.setting.base (point em.setting.own.code [] no_effects 0 0))
    (number : ℕ) (t : Seen) (l : Lane) (n : Spent) (sheet : List Account) (s : ℕ)
    (r : Reaches em.setting.base (begun number em.setting.own) t l n) (d : IsDecided (out s)) where
  decided_so : NamesOnce em.setting l.effects
      → IsWithin s (spent_more n (lane_row t sheet l).charge)
      × (EndsSo em (out s) t l.effects (lane_row t sheet l).outcome ⊎ ((g : Going) × ((lane_row t sheet l).outcome ≡ Goes g)))
  decided_so y =
      let b = above em out comes number t l n r y in
      let c = along em out comes number t l n r y s in
      let e = row_is em out comes number t l n r y sheet in
      let w = next_within em s t sheet (seen_at l n) b (out s) d y c in
      let q = ap (λ (r : Row). r.charge.quads) e in (
        record { cycles = w.0; quads = omega (arith, w.1, q) },
        subst (λ (r : Row). EndsOrGoes em s t sheet (seen_at l n) b (out s) r) e
            (ends_or_goes em s t sheet (seen_at l n) b (out s) d (now em (64 * suc s) _ t sheet (seen_at l n) b y c)),
      )

  sends_so : AreActors t (roll_with em.setting.roll l.effects) → (spent_more n (lane_row t sheet l).charge).events ≤ sends_of (out s)
  sends_so h =
      let b = above em out comes number t l n r h.once in
      let c = along em out comes number t l n r h.once s in
      let e = ap (λ (r : Row). r.charge.events) (row_is em out comes number t l n r h.once sheet) in
      let w = events_within em s (out s) d t (seen_at l n) sheet b h c in
      omega (arith, w, e)

pub follows_delivery : (em : Emission) (out : ℕ → DeliveryOutcome)
    → ((s : ℕ) → Gets em (limits s) (Committed em (limits s)) (out s) em.setting.base (point em.setting.own.code [] no_effects 0 0))
    → FollowsDelivery em out
follows_delivery em out comes = record {
  commits = λ number t l n sheet r y e. let h = commits_only em out comes number t l n r y sheet e in (h.0, h.1, h.2, h.3, h.4);
  fails = λ number t l n sheet w r y e. let h = fails_only em out comes number t l n r y sheet w e in (h.0, h.1, h.2, h.3, h.4);
  decided = λ number t l n sheet s r y d. decided_so em out comes number t l n sheet s r d y;
  sends = λ number t l n sheet s r h d. sends_so em out comes number t l n sheet s r d h;
}
