-- Where an event ends, by what its deliveries decide.
use Rattle.std.proofs.Common.{◌≡◌, refl, ap, sym, subst, ◌∙◌, ℕ, suc, ◌*◌, ◌<◌, ◌≤◌, ◌⊎◌, inl, inr, pos, List, [], length, arith}
use Rattle.cap_words.specs.Words.{W, Fix}
use Rattle.cap_words.specs.Seen.{Seen}
use Rattle.instr_table.specs.Types.{Grows}
use Rattle.instr_table.specs.Event.{no_effects}
use Rattle.instr_table.specs.Sheet.{Account}
use Rattle.instr_table.specs.Outcome.{Going, Outcome, Goes, Faults, Commits, going}
use Rattle.instr_table.specs.Lane.{Lane, begun, lane_row}
use Rattle.hum_meaning.specs.Action.{Gives, Fails, Undecided}
use Rattle.hum_meaning.specs.Laws.{IsDecided}
use Rattle.hum_code.specs.Bounds.{Limits, limits}
use Rattle.hum_code.specs.Comes.{Point, point, row_of, NamesOnce, Comes, here, onward, never}
use Rattle.instr_table.specs.Spent.{Spent}
use Rattle.hum_code.specs.Reaches.{seen_at, Reaches}
use Rattle.hum_code.specs.Emission.{Emission}
use Rattle.hum_code.proofs.World.{same}
use Rattle.hum_code.proofs.Standing.{Gathered}
use Rattle.hum_code.proofs.Results.{Ends, Result, Recorded, Gets}
use Rattle.hum_code.proofs.Committing.{Committed}
use Rattle.hum_code.proofs.Traces.{Closed, reaches_grow, own_stays, lane_row_is, trace_keeps}

-- the three kinds of outcomes differ
abbrev goes_on : Outcome → Type 0
goes_on (Goes g) = Unit {0}
goes_on _ = ⊥

abbrev faults_so : Outcome → Type 0
faults_so (Faults w) = Unit {0}
faults_so _ = ⊥

abbrev commits_so : Outcome → Type 0
commits_so Commits = Unit {0}
commits_so _ = ⊥

abbrev fault_word : W → Outcome → W
fault_word w (Faults v) = v
fault_word w _ = w

module _ (em : Emission) (lim : Limits) where
  result_closed : (o : Ends (Unit {0})) → Closed em.setting (Result em.setting lim (Committed em lim) o)
  unfolding Closed
  result_closed (Gives u f left) = λ s t sheet l l' g p e c. absurd (subst commits_so (sym (ap (λ r. r.outcome) (p.row sheet)) ∙ e) tt)
  result_closed (Fails code sends) = λ s t sheet l l' g p e c. absurd (subst faults_so (sym (ap (λ r. r.outcome) (p.row sheet)) ∙ e) tt)
  result_closed Undecided = λ s t sheet l l' g p e c. omega (arith, p, c)

  module _ (t : Seen) (sheet : List Account) (l : Point) (b : Grows em.setting.base t) (y : NamesOnce em.setting l.effects)
      (lt : l.cycles < lim.least) where
    committed_so : (o : Ends (Unit {0})) → (row_of em.setting t sheet l).outcome ≡ Commits → Gets em lim (Committed em lim) o t l
        → (f : Gathered) × (left : ℕ) × (o ≡ Gives tt f left) × Recorded em t f l.effects × (l.events ≡ length l.effects.sent)
    committed_so (Gives u f left) e (here p) = let h = p t (same t) b in (f, left, refl, h.effects, h.events)
    committed_so (Fails code sends) e (here p) = let h = p t (same t) b in absurd (subst faults_so (sym (ap (λ r. r.outcome) (h.row sheet)) ∙ e) tt)
    committed_so Undecided e (here p) = let h : lim.least ≤ l.cycles = p t (same t) b in absurd (omega (arith, lt, h))
    committed_so o e (never n p q) = absurd (n y)
    committed_so o e (onward g r n) = absurd (subst goes_on (sym (ap (λ r. r.outcome) (r t sheet (same t) b)) ∙ e) tt)

    failed_so : (o : Ends (Unit {0})) (w : W) → (row_of em.setting t sheet l).outcome ≡ Faults w → Gets em lim (Committed em lim) o t l
        → (code : ℕ) × (sends : ℕ) × (o ≡ Fails code sends) × (w ≡ Fix (pos code)) × (length l.effects.sent ≡ sends) × (l.events ≡ sends)
    failed_so (Gives u f left) w e (here p) = let h = p t (same t) b in absurd (subst commits_so (sym (ap (λ r. r.outcome) (h.row sheet)) ∙ e) tt)
    failed_so (Fails code sends) w e (here p) =
        let h = p t (same t) b in
        (code, sends, refl, ap (fault_word w) (sym e ∙ ap (λ r. r.outcome) (h.row sheet)), h.counted, h.events ∙ h.counted)
    failed_so Undecided w e (here p) = let h : lim.least ≤ l.cycles = p t (same t) b in absurd (omega (arith, lt, h))
    failed_so o w e (never n p q) = absurd (n y)
    failed_so o w e (onward g r n) = absurd (subst goes_on (sym (ap (λ r. r.outcome) (r t sheet (same t) b)) ∙ e) tt)

  pub in_limits : (o : Ends (Unit {0})) → IsDecided o → (t : Seen) (l : Point)
      → Result em.setting lim (Committed em lim) o t l → (l.cycles ≤ lim.most) × (l.quads ≤ lim.most)
  in_limits (Gives u f left) d t l p = (omega (arith, p.cycles), p.quads)
  in_limits (Fails code sends) d t l p = (omega (arith, p.cycles), p.quads)
  in_limits Undecided d t l p = absurd d

-- at the end of the trace, or one more instruction
pub now : (em : Emission) (most : ℕ) (P : Seen → Point → Type 0) (t : Seen) (sheet : List Account) (l : Point)
    → Grows em.setting.base t → NamesOnce em.setting l.effects → Comes em.setting most P t l
    → P t l ⊎ ((g : Going) × (row_of em.setting t sheet l ≡ going g))
now em most P t sheet l b y (here p) = inl (p t (same t) b)
now em most P t sheet l b y (onward g r n) = inr (g t, r t sheet (same t) b)
now em most P t sheet l b y (never n p q) = absurd (n y)

-- An event of which, for every number of steps, the code comes to what is decided, on every trace from its dispatch on that names no actor twice
module _ (em : Emission) (out : ℕ → Ends (Unit {0}))
    (comes : (s : ℕ) → Gets em (limits s) (Committed em (limits s)) (out s) em.setting.base (point em.setting.own.code [] no_effects 0 0))
    (number : ℕ) (t : Seen) (l : Lane) (n : Spent) (r : Reaches em.setting.base (begun number em.setting.own) t l n)
    (y : NamesOnce em.setting l.effects) where
  pub above : Grows em.setting.base t
  above = reaches_grow em.setting.base (begun number em.setting.own) t l n r

  pub along : (s : ℕ) → Gets em (limits s) (Committed em (limits s)) (out s) t (seen_at l n)
  along s =
      trace_keeps em.setting (64 * suc s) _ (result_closed em (limits s) (out s)) em.setting.base (begun number em.setting.own)
      refl (same em.setting.base) (comes s) t l n r y

  pub row_is : (sheet : List Account) → row_of em.setting t sheet (seen_at l n) ≡ lane_row t sheet l
  row_is sheet = lane_row_is em.setting t sheet l n (own_stays em.setting.base (begun number em.setting.own) t l n r)

  -- where it commits, some number of steps decides that it does, the record stands for what was gathered, and an event was paid for each message
  pub commits_only : (sheet : List Account) → (lane_row t sheet l).outcome ≡ Commits
      → (s : ℕ) × (f : Gathered) × (left : ℕ) × (out s ≡ Gives tt f left) × Recorded em t f l.effects × (n.events ≡ length l.effects.sent)
  commits_only sheet e =
      let s = suc n.cycles in
      let h = committed_so em (limits s) t sheet (seen_at l n) above y (omega arith) (out s) (ap (λ r. r.outcome) (row_is sheet) ∙ e) (along s) in
      (s, h.0, h.1, h.2, h.3, h.4)

  -- where it faults, some number of steps decides that it fails, with that code and as many messages
  pub fails_only : (sheet : List Account) (w : W) → (lane_row t sheet l).outcome ≡ Faults w
      → (s : ℕ) × (code : ℕ) × (sends : ℕ) × (out s ≡ Fails code sends) × (w ≡ Fix (pos code)) × (length l.effects.sent ≡ sends) × (n.events ≡ sends)
  fails_only sheet w e =
      let s = suc n.cycles in
      let h = failed_so em (limits s) t sheet (seen_at l n) above y (omega arith) (out s) w (ap (λ r. r.outcome) (row_is sheet) ∙ e) (along s) in
      (s, h.0, h.1, h.2, h.3, h.4, h.5)
