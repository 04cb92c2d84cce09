-- What an event comes to it keeps coming to, on every trace.
use Rattle.std.proofs.Common.{◌≡◌, refl, ap, sym, subst, ◌∙◌, ℕ, zero, suc, ◌+◌, ◌≤◌, Bool, true, false, List, [], ◌∷◌, ◌++◌, length, drop, map, arith}
use Rattle.cap_words.specs.Words.{W, same_word}
use Rattle.cap_words.specs.Seen.{Seen, grown}
use Rattle.cap_words.proofs.Same.{word_same}
use Rattle.instr_table.specs.Code.{fetched}
use Rattle.instr_table.specs.Types.{Grows}
use Rattle.instr_table.specs.Event.{Made, Effects, Effect, Nothing, Sends, Creates, Assigns, Becomes, Sponsors, Grants, Reclaims, Starts, Stops, reassigned, with_effect}
use Rattle.instr_table.specs.Sheet.{Account}
use Rattle.instr_table.specs.Outcome.{Going, Outcome, Goes, Faults, Commits, Row, going, events_in}
use Rattle.instr_table.specs.Row.{row_at}
use Rattle.instr_table.specs.Lane.{Item, Lane, values, push_all, after_going, lane_row, gone}
use Rattle.instr_table.proofs.Authorities.{pushed-store}
use Rattle.instr_table.proofs.ShownWords.{shown-stays}
use Rattle.hum_code.specs.WordLists.{Distinct, pushed_on}
use Rattle.hum_code.specs.Comes.{Setting, Point, moved, more_events, roll_with, row_of, NamesOnce, Comes, here, onward, never}
use Rattle.instr_table.specs.Spent.{Spent, unspent, spent_more}
use Rattle.hum_code.specs.Reaches.{seen_at, Reaches, dispatched, others, stepped}
use Rattle.hum_code.proofs.World.{same, later, takes}
use Rattle.hum_code.proofs.Composing.{comes_later}
use Rattle.hum_code.proofs.Standing.{Longer, longer_same, longer_eq}
use Rattle.hum_code.proofs.Gathering.{longer_made}

-- ---- stacks as plain values

pushed_values : (p : Seen × List Item) (vs : List W) → values (push_all p vs).1 ≡ pushed_on (values p.1) vs
pushed_values p [] = refl
pushed_values p (v ∷ vs) = pushed_values _ vs

drop_values : (n : ℕ) (is : List Item) → values (drop n is) ≡ drop n (values is)
drop_values zero is = refl
drop_values (suc n) [] = refl
drop_values (suc n) (i ∷ is) = drop_values n is

values_gone : (s : Seen) (is : List Item) (g : Going) → values (after_going s is g).1 ≡ pushed_on (drop g.pops (values is)) g.pushed
values_gone s is g = pushed_values (grown s g.made, drop g.pops is) g.pushed ∙ ap (λ vs. pushed_on vs g.pushed) (drop_values g.pops is)

-- the cells of the items are more of what others add
pushed_grow : (s : Seen) (is : List Item) (g : Going) → Grows (grown s g.made) (after_going s is g).0
pushed_grow s is g =
    let p = pushed-store (grown s g.made, drop g.pops is) g.pushed in
    subst (λ t. Grows (grown s g.made) t) (sym p.1) (takes (grown s g.made) p.0)

-- ---- points after any row that goes on

abbrev after_row : Point → Row → Going → Point
after_row l r g = record {
  code = g.goes_to;
  values = pushed_on (drop g.pops l.values) g.pushed;
  effects = with_effect l.effects g.effect;
  cycles = suc l.cycles;
  quads = r.charge.quads + l.quads;
  events = r.charge.events + l.events;
}

pub events_more : (e : Effect) (n : ℕ) → more_events e n ≡ events_in e + n
events_more Nothing n = omega arith
events_more (Sends m) n = omega arith
events_more (Creates m) n = omega arith
events_more (Assigns m) n = omega arith
events_more (Becomes b) n = omega arith
events_more (Sponsors w) n = omega arith
events_more (Grants w kind a) n = omega arith
events_more (Reclaims w) n = omega arith
events_more (Starts w signal) n = omega arith
events_more (Stops w) n = omega arith

moved_is : (l : Point) (g : Going) → moved l g ≡ after_row l (going g) g
moved_is l g = ap (λ n. record {
  code = g.goes_to;
  values = pushed_on (drop g.pops l.values) g.pushed;
  effects = with_effect l.effects g.effect;
  cycles = suc l.cycles;
  quads = length g.made + length g.pushed + l.quads;
  events = n;
}) (events_more g.effect l.events)

seen_gone : (s : Seen) (sheet : List Account) (l : Lane) (n : Spent) (g : Going)
    → after_row (seen_at l n) (lane_row s sheet l) g ≡ seen_at (gone s l g) (spent_more n (lane_row s sheet l).charge)
seen_gone s sheet l n g = ap (λ vs. record {
  code = g.goes_to;
  values = vs;
  effects = with_effect l.effects g.effect;
  cycles = suc n.cycles;
  quads = (lane_row s sheet l).charge.quads + n.quads;
  events = (lane_row s sheet l).charge.events + n.events;
}) (sym (values_gone s l.stack g))

-- ---- the roll only grows, and what is fine in the end is fine before

pub reassigned_actors : (new : Made) (ms : List Made) → map (λ m. m.actor) (reassigned new ms) ≡ map (λ m. m.actor) ms
reassigned_actors new [] = refl
reassigned_actors new (m ∷ ms) = by (same_word m.actor new.actor) refl (reassigned_actors new ms)
  where
    by : (b : Bool) → same_word m.actor new.actor ≡ b → map (λ m. m.actor) (reassigned new ms) ≡ map (λ m. m.actor) ms
        → map (λ m. m.actor) (reassigned new (m ∷ ms)) ≡ map (λ m. m.actor) (m ∷ ms)
    by true e h = rw e (ap (λ w. w ∷ map (λ m. m.actor) ms) (sym (word_same m.actor new.actor e)))
    by false e h = rw e (ap (λ ws. m.actor ∷ ws) h)

effect_longer : (roll : List W) (e : Effects) (x : Effect) → Longer (roll_with roll e) (roll_with roll (with_effect e x))
effect_longer roll e Nothing = longer_same _
effect_longer roll e (Sends m) = longer_same _
effect_longer roll e (Creates m) = longer_made roll e m
effect_longer roll e (Assigns m) = longer_eq (ap (λ ws. roll ++ ws) (sym (reassigned_actors m e.created)))
effect_longer roll e (Becomes b) = longer_same _
effect_longer roll e (Sponsors w) = longer_same _
effect_longer roll e (Grants w kind a) = longer_same _
effect_longer roll e (Reclaims w) = longer_same _
effect_longer roll e (Starts w signal) = longer_same _
effect_longer roll e (Stops w) = longer_same _

distinct_before : (r r' : List W) → Longer r r' → Distinct r' → Distinct r
distinct_before r r' g d = record { once = λ i j w h k. d.once i j w (g.keeps i w h) (g.keeps j w k) }

-- ---- traces

module _ (s0 : Seen) (l0 : Lane) where
  pub reaches_grow : (s : Seen) (l : Lane) (n : Spent) → Reaches s0 l0 s l n → Grows s0 s
  reaches_grow s l n dispatched = same s0
  reaches_grow s l n (others {s = s1} r g) = later (reaches_grow s1 l n r) g
  reaches_grow s l n (stepped {s = s1} {l = l1} {n = n1} sheet g r e) = later (reaches_grow s1 l1 n1 r) (shown-stays s1 l1.stack g)

  pub own_stays : (s : Seen) (l : Lane) (n : Spent) → Reaches s0 l0 s l n → l.own ≡ l0.own
  own_stays s l n dispatched = refl
  own_stays s l n (others {s = s1} r g) = own_stays s1 l n r
  own_stays s l n (stepped {s = s1} {l = l1} {n = n1} sheet g r e) = own_stays s1 l1 n1 r

-- the lane's row is that of its point
pub lane_row_is : (m : Setting) (s : Seen) (sheet : List Account) (l : Lane) (n : Spent) → l.own ≡ m.own
    → row_of m s sheet (seen_at l n) ≡ lane_row s sheet l
lane_row_is m s sheet l n e = ap (λ own. row_at own (fetched s l.code) s sheet l.effects (values l.stack)) (sym e)

-- ---- one instruction

goes_is : (f g : Going) → Goes f ≡ Goes g → f ≡ g
goes_is f g h = ap going_of h
  where
    going_of : Outcome → Going
    going_of (Goes g) = g
    going_of (Faults w) = f
    going_of Commits = f

-- it stays so where the event goes on
unfoldable pub Closed : Setting → (Seen → Point → Type 0) → Type 0
Closed m P = (s t : Seen) (sheet : List Account) (l l' : Point) (g : Going) → P s l
    → (row_of m s sheet l).outcome ≡ Goes g → l'.cycles ≡ suc l.cycles → P t l'

module _ (m : Setting) (most : ℕ) (P : Seen → Point → Type 0) (closed : Closed m P) where
  step_keeps : (s : Seen) (sheet : List Account) (l : Point) (g : Going) → Grows m.base s → NamesOnce m l.effects → Comes m most P s l
      → (row_of m s sheet l).outcome ≡ Goes g → Comes m most P (grown s g.made) (after_row l (row_of m s sheet l) g)
  unfolding Closed
  step_keeps s sheet l g b y (here p) e = here (λ t i c. closed s t sheet l _ g (p s (same s) b) e refl)
  step_keeps s sheet l g b y (onward f h n) e =
      let row = h s sheet (same s) b in
      let is : f s ≡ g = goes_is (f s) g (sym (ap (λ r. r.outcome) row) ∙ e) in
      let to = subst (λ g. Comes m most P (grown s g.made) (moved l g)) is (n s (same s) b) in
      let there : after_row l (row_of m s sheet l) g ≡ moved l g = ap (λ r. after_row l r g) (row ∙ ap going is) ∙ sym (moved_is l g) in
      subst (λ l. Comes m most P (grown s g.made) l) (sym there) to
  step_keeps s sheet l g b y (never n p q) e = absurd (n y)

  -- along a trace
  module _ (s0 : Seen) (l0 : Lane) where
    pub trace_keeps : l0.own ≡ m.own → Grows m.base s0 → Comes m most P s0 (seen_at l0 unspent) → (s : Seen) (l : Lane) (n : Spent)
        → Reaches s0 l0 s l n → NamesOnce m l.effects → Comes m most P s (seen_at l n)
    trace_keeps own b c s l n dispatched y = c
    trace_keeps own b c s l n (others {s = s1} r g) y = comes_later m most P s1 s (seen_at l n) g (trace_keeps own b c s1 l n r y)
    trace_keeps own b c s l n (stepped {s = s1} {l = l1} {n = n1} sheet g r e) y =
        let fine : NamesOnce m l1.effects = distinct_before _ _ (effect_longer m.roll l1.effects g.effect) y in
        let row = lane_row_is m s1 sheet l1 n1 (own_stays s0 l0 s1 l1 n1 r ∙ own) in
        let to = step_keeps s1 sheet (seen_at l1 n1) g (later b (reaches_grow s0 l0 s1 l1 n1 r)) fine
        (trace_keeps own b c s1 l1 n1 r fine) (ap (λ r. r.outcome) row ∙ e) in
        let there = ap (λ r. after_row (seen_at l1 n1) r g) row ∙ seen_gone s1 sheet l1 n1 g in
        subst (λ l. Comes m most P (after_going s1 l1.stack g).0 l) there
        (comes_later m most P (grown s1 g.made) (after_going s1 l1.stack g).0 _ (pushed_grow s1 l1.stack g) to)

-- what holds of the cycles and quads in the end holds now
pub spent_now : (m : Setting) (P : Seen → Point → Type 0) (most : ℕ) → ((t : Seen) (l : Point) → P t l → (l.cycles ≤ most) × (l.quads ≤ most))
    → (s : Seen) (l : Point) → Grows m.base s → Comes m most P s l → (l.cycles ≤ most) × (l.quads ≤ most)
spent_now m P most h s l b (here p) = h s l (p s (same s) b)
spent_now m P most h s l b (onward g e n) =
    let r = spent_now m P most h (grown s (g s).made) (moved l (g s)) (later b (takes s (g s).made)) (n s (same s) b) in
    (omega (arith, r.0), omega (arith, r.1))
spent_now m P most h s l b (never n p q) = (p, q)
