-- One instruction that makes cells, or adds to the record.
use Rattle.std.proofs.Common.{◌≡◌, refl, ap, subst, ◌∙◌, ℕ, suc, ◌+◌, pos, List, [], ◌∷◌, ◌++◌, length, Some, None}
use Rattle.std.specs.Prelude.{if◌then◌else◌, false}
use Rattle.cap_words.specs.Words.{W, Ram, Cap, func_t, block_t}
use Rattle.cap_words.specs.Seen.{Seen, OpenSlot, UnbornSlot, EventSlot, cell_seen}
use Rattle.instr_table.specs.declared.op.Op.TheVariants.{Pair, Part, QuadMake, ActorSend, ActorCreate, ActorBecome}
use Rattle.instr_table.specs.Types.{AnActor, Grows, look_up, shows_actor}
use Rattle.instr_table.specs.Lists.{next_quad, pair_quad, head_in, tail_in}
use Rattle.instr_table.specs.Arithmetic.{falsy}
use Rattle.instr_table.specs.Event.{Made, Sent, Effects, Nothing, Sends, Creates, Becomes}
use Rattle.instr_table.specs.Outcome.{Going, goes, faults, not_actor}
use Rattle.instr_table.specs.ActorRows.{message_to, become_row}
use Rattle.hum_code.specs.Comes.{Setting, Point, point, Comes, At}
use Rattle.hum_code.specs.Stands.{Shows, ShowsPair, three_quad}
use Rattle.hum_code.proofs.World.{later, takes, read_in, first_shown, second_shown, actor_shown}
use Rattle.hum_code.proofs.Composing.{by_row, silent}
use Rattle.hum_code.proofs.Steps.{plain}

-- what makes one cell, and pushes its word
abbrev making : ℕ → W → W → W → W → Seen → Going
making n u x y k t = record { pops = n; made = OpenSlot (three_quad u x y) ∷ []; pushed = Ram (next_quad t) ∷ []; goes_to = k; effect = Nothing }

-- two pairs in front of a list
abbrev pairing : W → W → W → W → Seen → Going
pairing x y z k t = record {
  pops = 3;
  made = OpenSlot (pair_quad y z) ∷ OpenSlot (pair_quad x (Ram (next_quad t))) ∷ [];
  pushed = Ram (suc (next_quad t)) ∷ [];
  goes_to = k;
  effect = Nothing;
}

abbrev pub made_at : W → W → W → Made
made_at actor state code = record { actor = actor; state = state; code = code }

abbrev creating : W → W → W → Seen → Going
creating state code k t = record {
  pops = 2;
  made = UnbornSlot ∷ [];
  pushed = Cap (next_quad t) ∷ [];
  goes_to = k;
  effect = Creates (made_at (Cap (next_quad t)) state code);
}

abbrev pub sent_at : W → W → W → W → Sent
sent_at event sponsor target content = record { event = event; sponsor = sponsor; target = target; content = content }

abbrev sending : W → W → W → W → Seen → Going
sending sponsor target content k t = record {
  pops = 2;
  made = EventSlot sponsor target content ∷ [];
  pushed = [];
  goes_to = k;
  effect = Sends (sent_at (Cap (next_quad t)) sponsor target content);
}

abbrev pub with_made : Effects → Made → Effects
with_made e a = record e { created = e.created ++ a ∷ [] }

abbrev pub with_sent : Effects → Sent → Effects
with_sent e x = record e { sent = e.sent ++ x ∷ [] }

abbrev pub with_next : Effects → W → W → Effects
with_next e state code = record e { next = Some (record { state = state; code = code }) }

pub length_end : {A : Type 0} (xs : List A) (x : A) → length (xs ++ x ∷ []) ≡ suc (length xs)
length_end [] x = refl
length_end (y ∷ xs) x = ap suc (length_end xs x)

module _ {m : Setting} {most : ℕ} {P : Seen → Point → Type 0} where
  -- the new word is no falsy one
  pub pair1 : {a k x y : W} {s : Seen} {vs : List W} {e : Effects} {c q : ℕ} → At m a (Pair (pos 1)) k
      → ((t : Seen) (w : W) → Grows s t → Grows m.base t → ShowsPair t w x y → Comes m most P t (point k (w ∷ vs) e (suc c) (2 + q)))
      → Comes m most P s (point a (x ∷ y ∷ vs) e c q)
  pair1 {a} {k} {x} {y} {s} {vs} {e} {c} {q} h n =
      by_row m most P (Pair (pos 1)) a k s (x ∷ y ∷ vs) e c q
      (λ t. record { pops = 2; made = OpenSlot (pair_quad x y) ∷ []; pushed = Ram (next_quad t) ∷ []; goes_to = k; effect = Nothing })
      h (λ t sheet i. refl) (λ t i b. n _ _ (later i (takes t _)) (later b (takes t _)) (first_shown t (pair_quad x y) []))

  pub pair2 : {a k x y z : W} {s : Seen} {vs : List W} {e : Effects} {c q : ℕ} → At m a (Pair (pos 2)) k
      → ((t : Seen) (w w' : W) → Grows s t → Grows m.base t → ShowsPair t w x w' → ShowsPair t w' y z → falsy w ≡ false
      → Comes m most P t (point k (w ∷ vs) e (suc c) (3 + q)))
      → Comes m most P s (point a (x ∷ y ∷ z ∷ vs) e c q)
  pair2 {a} {k} {x} {y} {z} {s} {vs} {e} {c} {q} h n =
      by_row m most P (Pair (pos 2)) a k s (x ∷ y ∷ z ∷ vs) e c q (pairing x y z k) h (λ t sheet i. refl)
      (λ t i b. n _ _ _ (later i (takes t _)) (later b (takes t _)) (second_shown t (pair_quad y z) (pair_quad x (Ram (next_quad t))))
      (first_shown t (pair_quad y z) (OpenSlot (pair_quad x (Ram (next_quad t))) ∷ [])) refl)

  pub part2 : {a k x y z w w' : W} {s : Seen} {vs : List W} {e : Effects} {c q : ℕ} → At m a (Part (pos 2)) k → ShowsPair s w x w'
      → ShowsPair s w' y z
      → Comes m most P s (point k (x ∷ y ∷ z ∷ vs) e (suc c) (3 + q)) → Comes m most P s (point a (w ∷ vs) e c q)
  part2 {a} {k} {x} {y} {z} {w} {w'} {s} {vs} {e} {c} {q} h f f' n =
      silent m most P (Part (pos 2)) a k s (w ∷ vs) e c q (plain 1 (z ∷ y ∷ x ∷ []) k) h
      (λ t sheet i. ap (λ o. goes 1 (tail_in (cell_seen t (tail_in o)) ∷ head_in (cell_seen t (tail_in o)) ∷ head_in o ∷ []) k) (read_in w i f)
      ∙ ap (λ o. goes 1 (tail_in o ∷ head_in o ∷ x ∷ []) k) (read_in w' i f')) n

  pub function3 : {a k x y : W} {s : Seen} {vs : List W} {e : Effects} {c q : ℕ} → At m a (QuadMake (pos 3)) k
      → ((t : Seen) (w : W) → Grows s t → Grows m.base t → Shows t w (three_quad func_t x y) → Comes m most P t (point k (w ∷ vs) e (suc c) (2 + q)))
      → Comes m most P s (point a (func_t ∷ x ∷ y ∷ vs) e c q)
  function3 {a} {k} {x} {y} {s} {vs} {e} {c} {q} h n =
      by_row m most P (QuadMake (pos 3)) a k s (func_t ∷ x ∷ y ∷ vs) e c q (making 3 func_t x y k) h (λ t sheet i. refl)
      (λ t i b. n _ _ (later i (takes t _)) (later b (takes t _)) (first_shown t (three_quad func_t x y) []))

  pub block3 : {a k x y : W} {s : Seen} {vs : List W} {e : Effects} {c q : ℕ} → At m a (QuadMake (pos 3)) k
      → ((t : Seen) (w : W) → Grows s t → Grows m.base t → Shows t w (three_quad block_t x y) → Comes m most P t (point k (w ∷ vs) e (suc c) (2 + q)))
      → Comes m most P s (point a (block_t ∷ x ∷ y ∷ vs) e c q)
  block3 {a} {k} {x} {y} {s} {vs} {e} {c} {q} h n =
      by_row m most P (QuadMake (pos 3)) a k s (block_t ∷ x ∷ y ∷ vs) e c q (making 3 block_t x y k) h (λ t sheet i. refl)
      (λ t i b. n _ _ (later i (takes t _)) (later b (takes t _)) (first_shown t (three_quad block_t x y) []))

  pub create : {a k code state : W} {s : Seen} {vs : List W} {e : Effects} {c q : ℕ} → At m a ActorCreate k
      → ((t : Seen) (w : W) → Grows s t → Grows m.base t → look_up t w ≡ Some AnActor
      → Comes m most P t (point k (w ∷ vs) (with_made e (made_at w state code)) (suc c) (2 + q)))
      → Comes m most P s (point a (code ∷ state ∷ vs) e c q)
  create {a} {k} {code} {state} {s} {vs} {e} {c} {q} h n =
      by_row m most P ActorCreate a k s (code ∷ state ∷ vs) e c q (creating state code k) h (λ t sheet i. refl)
      (λ t i b. n _ _ (later i (takes t _)) (later b (takes t _)) (actor_shown t []))

  pub send : {a k target content : W} {s : Seen} {vs : List W} {e : Effects} {c q : ℕ} → At m a ActorSend k → look_up s target ≡ Some AnActor
      → ((t : Seen) (w : W) → Grows s t → Grows m.base t
      → Comes m most P t (point k vs (with_sent e (sent_at w m.own.sponsor target content)) (suc c) (1 + q)))
      → Comes m most P s (point a (target ∷ content ∷ vs) e c q)
  send {a} {k} {target} {content} {s} {vs} {e} {c} {q} h f n =
      let g : Seen → Going = sending m.own.sponsor target content k in
      by_row m most P ActorSend a k s (target ∷ content ∷ vs) e c q g h
      (λ t sheet i. ap (λ o. if shows_actor o then message_to 2 m.own.sponsor t target content k else faults 1 1 not_actor)
      (i.keeps target AnActor f))
      (λ t i b. counted t (length_end e.sent (sent_at (Cap (next_quad t)) m.own.sponsor target content))
      (n _ _ (later i (takes t _)) (later b (takes t _))))
    where
      counted : (t : Seen) {u : Seen} {values : List W} {d : Effects} {c' q' events : ℕ} → length d.sent ≡ events
          → Comes m most P u (point k values d c' q')
          → Comes m most P u (record { code = k; values = values; effects = d; cycles = c'; quads = q'; events = events })
      counted t {u} {values} {d} {c'} {q'} e =
          subst (λ x. Comes m most P u (record { code = k; values = values; effects = d; cycles = c'; quads = q'; events = x })) e

  pub become : {a k code state : W} {s : Seen} {vs : List W} {e : Effects} {c q : ℕ} → At m a ActorBecome k → e.next ≡ None
      → Comes m most P s (point k vs (with_next e state code) (suc c) (0 + q)) → Comes m most P s (point a (code ∷ state ∷ vs) e c q)
  become {a} {k} {code} {state} {s} {vs} {e} {c} {q} h f n =
      let g : Going = record { pops = 2; made = []; pushed = []; goes_to = k; effect = Becomes (record { state = state; code = code }) } in
      silent m most P ActorBecome a k s (code ∷ state ∷ vs) e c q g h (λ t sheet i. ap (λ o. become_row o (code ∷ state ∷ vs) k) f) n
