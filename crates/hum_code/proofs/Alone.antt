-- An event that runs alone names no actor twice, so that it comes to its end.
use Rattle.std.proofs.Common.{◌≡◌, refl, ap, sym, subst, ◌∙◌, ℕ, zero, suc, ◌≤◌, ◌⊎◌, inl, inr, List, [], ◌∷◌, ◌++◌, length, Some, None, arith}
use Rattle.std.specs.Prelude.{slice_get}
use Rattle.std.proofs.lemmas.Option.{slice_get_past}
use Rattle.cap_words.specs.Words.{W, Cap}
use Rattle.cap_words.specs.Seen.{Seen, Slot, UnbornSlot, grown}
use Rattle.instr_table.specs.Code.{fetched}
use Rattle.instr_table.specs.Types.{AnActor, opaque_in, Grows, look_up}
use Rattle.instr_table.specs.Lists.{next_quad, item}
use Rattle.instr_table.specs.Event.{Effects, Effect, Nothing, Sends, Creates, Assigns, Becomes, Sponsors, Grants, Reclaims, Starts, Stops, with_effect}
use Rattle.instr_table.specs.Sheet.{Account}
use Rattle.instr_table.specs.Outcome.{Going, going}
use Rattle.instr_table.specs.Making.{MadeWith, MakesNamed}
use Rattle.instr_table.proofs.Makings.{row_at-makes}
use Rattle.hum_code.specs.Comes.{Setting, Point, more_events, moved, roll_with, row_of, Comes, here, onward, never}
use Rattle.hum_code.specs.Ending.{AreActors}
use Rattle.hum_code.proofs.Traces.{reassigned_actors}
use Rattle.hum_code.proofs.World.{same, later, takes, actor_shown}
use Rattle.hum_code.proofs.Gathering.{roll_end}

named_later : (t u : Seen) (ws : List W) → Grows t u → AreActors t ws → AreActors u ws
named_later t u ws g h = record { once = h.once; shown = λ i w e. g.keeps w AnActor (h.shown i w e) }

-- ---- one more actor

-- a word of a list with one more at its end
last_or : (ws : List W) (x : W) (i : ℕ) (w : W) → slice_get (ws ++ x ∷ []) i ≡ Some w → (slice_get ws i ≡ Some w) ⊎ ((i ≡ length ws) × (w ≡ x))
last_or [] x zero w h = inr (refl, cc)
last_or [] x (suc i) w h = absurd cc
last_or (v ∷ ws) x zero w h = inl h
last_or (v ∷ ws) x (suc i) w h = elim (last_or ws x i w h) [
  | inl a ↦ inl a
  | inr a ↦ inr (ap suc a.0, a.1)
]

-- the quad that is taken next shows nothing yet
unshown : (t : Seen) → look_up t (Cap (next_quad t)) ≡ None
unfolding look_up
unshown t = ap opaque_in (slice_get_past t.slots (next_quad t) (omega arith))

named_more : (t u : Seen) (ws : List W) (x : W) → Grows t u → look_up t x ≡ None → look_up u x ≡ Some AnActor → AreActors t ws
    → AreActors u (ws ++ x ∷ [])
named_more t u ws x g none is h = record {
  once = record { once = λ i j w a b. once i j w (last_or ws x i w a) (last_or ws x j w b) };
  shown = λ i w a. shown i w (last_or ws x i w a);
}
  where
    -- the new one was not there
    other : (i : ℕ) (w : W) → slice_get ws i ≡ Some w → w ≡ x → ⊥
    other i w a e = let b : None ≡ Some AnActor = sym none ∙ (ap (look_up t) (sym e) ∙ h.shown i w a) in absurd cc

    once : (i j : ℕ) (w : W) → (slice_get ws i ≡ Some w) ⊎ ((i ≡ length ws) × (w ≡ x)) → (slice_get ws j ≡ Some w) ⊎ ((j ≡ length ws) × (w ≡ x))
        → i ≡ j
    once i j w (inl a) (inl b) = h.once.once i j w a b
    once i j w (inl a) (inr b) = absurd (other i w a b.1)
    once i j w (inr a) (inl b) = absurd (other j w b a.1)
    once i j w (inr a) (inr b) = a.0 ∙ sym b.0

    shown : (i : ℕ) (w : W) → (slice_get ws i ≡ Some w) ⊎ ((i ≡ length ws) × (w ≡ x)) → look_up u w ≡ Some AnActor
    shown i w (inl a) = g.keeps w AnActor (h.shown i w a)
    shown i w (inr a) = ap (look_up u) a.1 ∙ is

-- ---- one instruction

module _ (roll : List W) (payer controller : W) (t : Seen) (e : Effects) (h : AreActors t (roll_with roll e)) where
  named_grown : (made : List Slot) → AreActors (grown t made) (roll_with roll e)
  named_grown made = named_later t (grown t made) (roll_with roll e) (takes t made) h

  -- the actors after an effect
  named_after : (made : List Slot) (effect : Effect) → MadeWith payer controller t made effect
      → AreActors (grown t made) (roll_with roll (with_effect e effect))
  named_after made Nothing m = named_grown made
  named_after made (Sends x) m = named_grown made
  named_after made (Creates x) m =
      rw (m.1, roll_end roll e x) (named_more t (grown t (UnbornSlot ∷ [])) (roll_with roll e) x.actor (takes t (UnbornSlot ∷ []))
      (ap (look_up t) m.0 ∙ unshown t) (ap (look_up (grown t (UnbornSlot ∷ []))) m.0 ∙ actor_shown t []) h)
  named_after made (Assigns x) m =
      subst (λ ws. AreActors (grown t made) (roll ++ ws)) (sym (reassigned_actors x e.created)) (named_grown made)
  named_after made (Becomes x) m = named_grown made
  named_after made (Sponsors x) m = named_grown made
  named_after made (Grants x kind n) m = named_grown made
  named_after made (Reclaims x) m = named_grown made
  named_after made (Starts x signal) m = named_grown made
  named_after made (Stops x) m = named_grown made

more_events_more : (effect : Effect) (n : ℕ) → n ≤ more_events effect n
more_events_more Nothing n = omega arith
more_events_more (Sends x) n = omega arith
more_events_more (Creates x) n = omega arith
more_events_more (Assigns x) n = omega arith
more_events_more (Becomes x) n = omega arith
more_events_more (Sponsors x) n = omega arith
more_events_more (Grants x kind k) n = omega arith
more_events_more (Reclaims x) n = omega arith
more_events_more (Starts x signal) n = omega arith
more_events_more (Stops x) n = omega arith

module _ (m : Setting) (most : ℕ) (P : Seen → Point → Type 0) where
  pub step_named : (t : Seen) (sheet : List Account) (l : Point) (g : Going) → row_of m t sheet l ≡ going g → AreActors t (roll_with m.roll l.effects)
      → AreActors (grown t g.made) (roll_with m.roll (moved l g).effects)
  step_named t sheet l g e h =
      named_after m.roll m.own.sponsor (item l.values 1) t l.effects h g.made g.effect
      (subst (λ r. MakesNamed m.own.sponsor (item l.values 1) t r.outcome) e (row_at-makes m.own (fetched t l.code) t sheet l.effects l.values))

  -- a later store and a later point of which P holds, with no less charged
  pub record Ending (t : Seen) (l : Point) : Type 0 where
    pub store : Seen
    pub point : Point
    pub holds : P store point
    pub grows : Grows t store
    pub cycles : l.cycles ≤ point.cycles
    pub quads : l.quads ≤ point.quads
    pub events : l.events ≤ point.events

  -- where nobody else does anything
  pub comes_to_end : (t : Seen) (l : Point) → Grows m.base t → AreActors t (roll_with m.roll l.effects) → Comes m most P t l → Ending t l
  comes_to_end t l b h (here p) = record {
    store = t;
    point = l;
    holds = p t (same t) b;
    grows = same t;
    cycles = omega arith;
    quads = omega arith;
    events = omega arith;
  }
  comes_to_end t l b h (onward g e c) =
      let n : Ending (grown t (g t).made) (moved l (g t)) = comes_to_end (grown t (g t).made) (moved l (g t)) (later b (takes t (g t).made))
      (step_named t [] l (g t) (e t [] (same t) b) h) (c t (same t) b) in
      let ev : l.events ≤ more_events (g t).effect l.events = more_events_more (g t).effect l.events in
      record {
        store = n.store;
        point = n.point;
        holds = n.holds;
        grows = later (takes t (g t).made) n.grows;
        cycles = omega (arith, n.cycles);
        quads = omega (arith, n.quads);
        events = omega (arith, ev, n.events);
      }
  comes_to_end t l b h (never n p q) = absurd (n h.once)
