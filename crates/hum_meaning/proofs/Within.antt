-- What an event speaks of: actors that are there, or that it created itself.
use Rattle.std.proofs.Common.{ℕ, zero, suc, ◌+◌, ◌<◌, ◌≤◌, List, [], ◌∷◌, ◌++◌, length, length-append, Option, Some, None, arith}
use Rattle.std.specs.List.{AllByRecursion}
use Rattle.hum_meaning.specs.Value.{Parts, Atom, Actor, Value, Plain, Pair, Function, Block, Primitive, Env, Outside, Bind, Group, Entry}
use Rattle.hum_meaning.specs.Action.{Effects, Outcome, Gives, Fails, Undecided, Action, and_then, ◌>>=◌, ◌>>◌, pure, fail, spend, step, undecided, create, send, becoming, become}
use Rattle.hum_meaning.specs.Sound.{AtomWithin, ValueWithin, EnvWithin}

-- ---- lists

pub each_more : {A : Type 0} (P Q : A → Type 0) → ((a : A) → P a → Q a) → (xs : List A) → AllByRecursion P xs → AllByRecursion Q xs
each_more P Q f [] h = tt
each_more P Q f (x ∷ xs) h = (f x h.0, each_more P Q f xs h.1)

pub each_append : {A : Type 0} (P : A → Type 0) (xs ys : List A) → AllByRecursion P xs → AllByRecursion P ys → AllByRecursion P (xs ++ ys)
each_append P [] ys h k = k
each_append P (x ∷ xs) ys h k = (h.0, each_append P xs ys h.1 k)

-- ---- more actors

module _ (n m : ℕ) (le : n ≤ m) where
  atom_more : (a : Atom) → AtomWithin n a → AtomWithin m a
  atom_more (Actor k) h = omega (arith, le, h)
  atom_more _ h = tt

  module _ {L : Parts} where
    mutual
      pub value_more : (v : Value L) → ValueWithin n v → ValueWithin m v
      value_more (Plain a) h = atom_more a h
      value_more (Pair a b) h = (value_more a h.0, value_more b h.1)
      value_more (Function f env) h = env_more env h
      value_more (Block b env) h = env_more env h
      value_more (Primitive b) h = tt

      pub env_more : (env : Env L) → EnvWithin n env → EnvWithin m env
      env_more Outside h = tt
      env_more (Bind k v env) h = (value_more v h.0, env_more env h.1)
      env_more (Group fs env) h = env_more env h

-- ---- what is given

-- anything
abbrev pub Anything : {A : Type 0} → ℕ → A → Type 0
Anything n a = Unit {0}

-- an actor that is there
abbrev pub Below : ℕ → ℕ → Type 0
Below n k = k < n

-- ---- what is gathered

module _ {L : Parts} (n : ℕ) where
  abbrev pub SentWithin : ℕ × Value L → Type 0
  SentWithin p = (p.0 < n) × ValueWithin n p.1

  abbrev pub EntriesWithin : List (Entry L) → Type 0
  EntriesWithin es = AllByRecursion (λ e. ValueWithin n e.1) es

  abbrev pub OptionWithin : Option (Value L) → Type 0
  OptionWithin None = Unit {0}
  OptionWithin (Some v) = ValueWithin n v

  abbrev pub MatchedWithin : Option (List (Entry L)) → Type 0
  MatchedWithin None = Unit {0}
  MatchedWithin (Some es) = EntriesWithin es

module _ {L : Parts} (n m : ℕ) (le : n ≤ m) where
  pub sent_more : (p : ℕ × Value L) → SentWithin n p → SentWithin m p
  sent_more p h = (omega (arith, le, h.0), value_more n m le p.1 h.1)

  pub entries_more : (es : List (Entry L)) → EntriesWithin n es → EntriesWithin m es
  entries_more es h = each_more _ _ (λ e k. value_more n m le e.1 k) es h

  pub option_more : (o : Option (Value L)) → OptionWithin n o → OptionWithin m o
  option_more None h = tt
  option_more (Some v) h = value_more n m le v h

module _ {L : Parts} (base : ℕ) where
  -- how many actors there are, with those that an event created
  abbrev pub count : Effects L → ℕ
  count e = base + length e.created

  pub record EffectsWithin (e : Effects L) : Type 0 where
    pub created : AllByRecursion (ValueWithin (count e)) e.created
    pub sent : AllByRecursion (SentWithin (count e)) e.sent
    pub next : OptionWithin (count e) e.next

  -- an outcome after so many actors: none of them is lost, and what is given is so of those that there are then
  abbrev pub Ends : {A : Type 0} → (from : ℕ) → (P : ℕ → A → Type 0) → Outcome L A → Type 0
  Ends from P (Gives a e left) = (from ≤ count e) × EffectsWithin e × P (count e) a
  Ends from P (Fails code sends) = Unit {0}
  Ends from P Undecided = Unit {0}

  -- a course of action that begins with so many actors or more
  pub record Keeps {A : Type 0} (from : ℕ) (P : ℕ → A → Type 0) (p : Action L A) : Type 0 where
    pub at : (e : Effects L) (s : ℕ) → from ≤ count e → EffectsWithin e → Ends (count e) P (p e s)

-- ---- one after the other

module _ {L : Parts} (base : ℕ) {A : Type 0} where
  ends_later : (n m : ℕ) (P : ℕ → A → Type 0) (o : Outcome L A) → n ≤ m → Ends base m P o → Ends base n P o
  ends_later n m P (Gives a e t) le h = (omega (arith, le, h.0), h.1, h.2)
  ends_later n m P (Fails code sends) le h = tt
  ends_later n m P Undecided le h = tt

  pub keeps_later : (n m : ℕ) (P : ℕ → A → Type 0) (p : Action L A) → n ≤ m → Keeps base n P p → Keeps base m P p
  keeps_later n m P p le h = record { at = λ e s up w. h.at e s (omega (arith, le, up)) w }

  pub pure_keeps : (n : ℕ) (P : ℕ → A → Type 0) (a : A) → ((m : ℕ) → n ≤ m → base ≤ m → P m a) → Keeps {L = L} base n P (pure a)
  pure_keeps n P a h = record { at = λ e s up w. (omega arith, w, h (count base e) up (omega arith)) }

  pub fail_keeps : (n : ℕ) (P : ℕ → A → Type 0) (code : ℕ) → Keeps {L = L} base n P (fail code)
  fail_keeps n P code = record { at = λ e s up w. tt }

  pub undecided_keeps : (n : ℕ) (P : ℕ → A → Type 0) → Keeps {L = L} base n P undecided
  undecided_keeps n P = record { at = λ e s up w. tt }

module _ {L : Parts} (base : ℕ) {A B : Type 0} where
  then_ends : (n : ℕ) (P : ℕ → A → Type 0) (Q : ℕ → B → Type 0) (o : Outcome L A) (f : A → Action L B) → Ends base n P o
      → ((m : ℕ) → n ≤ m → (a : A) → P m a → Keeps base m Q (f a)) → Ends base n Q (and_then o f)
  then_ends n P Q (Gives a e t) f h k = ends_later base n (count base e) Q (f a e t) h.0 ((k (count base e) h.0 a h.2).at e t (omega arith) h.1)
  then_ends n P Q (Fails code sends) f h k = tt
  then_ends n P Q Undecided f h k = tt

  pub bind_keeps : {n : ℕ} {P : ℕ → A → Type 0} {Q : ℕ → B → Type 0} {p : Action L A} {f : A → Action L B} → Keeps base n P p
      → ((m : ℕ) → n ≤ m → (a : A) → P m a → Keeps base m Q (f a)) → Keeps base n Q (p >>= f)
  bind_keeps {n} {P} {Q} {p} {f} h k = record {
    at = λ e s up w. then_ends (count base e) P Q (p e s) f (h.at e s up w) (λ m le a i. k m (omega (arith, up, le)) a i);
  }

-- ---- steps

module _ {L : Parts} (base : ℕ) {A : Type 0} where
  spent : (n : ℕ) (P : ℕ → A → Type 0) (p : Action L A) → Keeps base n P p → (e : Effects L) (s : ℕ) → n ≤ count base e → EffectsWithin base e
      → Ends base (count base e) P (and_then (spend e s) (λ _. p))
  spent n P p h e zero up w = tt
  spent n P p h e (suc s) up w = h.at e s up w

  pub step_keeps : {n : ℕ} {P : ℕ → A → Type 0} {p : Action L A} → Keeps base n P p → Keeps base n P (step >> p)
  step_keeps {n} {P} {p} h = record { at = λ e s up w. spent n P p h e s up w }

-- ---- effects

module _ {L : Parts} (base : ℕ) where
  created_within : (e : Effects L) (v : Value L) → EffectsWithin base e → ValueWithin (count base e) v
      → EffectsWithin base (record e { created = e.created ++ v ∷ [] })
  created_within e v w h =
      let n = count base e in
      let m = base + length (e.created ++ v ∷ []) in
      let le : n ≤ m = omega (arith, length-append e.created (v ∷ [])) in
      record {
        created = each_append (ValueWithin m) e.created (v ∷ []) (each_more _ _ (value_more n m le) e.created w.created) (value_more n m le v h, tt);
        sent = each_more _ _ (sent_more n m le) e.sent w.sent;
        next = option_more n m le e.next w.next;
      }

  pub create_keeps : (n : ℕ) (v : Value L) → ValueWithin n v → Keeps base n Below (create base v)
  create_keeps n v h = record {
    at = λ e s up w. (
      omega (arith, length-append e.created (v ∷ [])),
      created_within e v w (value_more n (count base e) up v h),
      omega (arith, length-append e.created (v ∷ [])),
    );
  }

  pub send_keeps : (n target : ℕ) (v : Value L) → target < n → ValueWithin n v → Keeps base n Anything (send target v)
  send_keeps n target v lt h = record {
    at = λ e s up w.
        let there : SentWithin (count base e) (target, v) = (omega (arith, lt, up), value_more n (count base e) up v h) in
        (omega arith, record { created = w.created; sent = each_append (SentWithin (count base e)) e.sent ((target, v) ∷ []) w.sent (there, tt); next = w.next }, tt);
  }

  becoming_ends : (n : ℕ) (o : Option (Value L)) (v : Value L) → ValueWithin n v → (e : Effects L) (s : ℕ) → n ≤ count base e
      → EffectsWithin base e → Ends base (count base e) Anything (becoming o v e s)
  becoming_ends n None v h e s up w = (omega arith, record { created = w.created; sent = w.sent; next = value_more n (count base e) up v h }, tt)
  becoming_ends n (Some u) v h e s up w = tt

  pub become_keeps : (n : ℕ) (v : Value L) → ValueWithin n v → Keeps base n Anything (become v)
  become_keeps n v h = record { at = λ e s up w. becoming_ends n e.next v h e s up w }
