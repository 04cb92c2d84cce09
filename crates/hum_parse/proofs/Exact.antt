-- What a parser's outcome says of a language, and how outcomes of a sequence follow from those of its parts.
use Rattle.std.proofs.Common.{◌≡◌, ℕ, suc, ◌<◌, Bool, true, false, [], ◌∷◌, ◌++◌, length, Ok, Err, refl, sym, ap, ◌∙◌, subst, append_assoc, length-append, arith}
use Rattle.std.specs.List.{list_all}
use Rattle.std.proofs.lemmas.Bool.{and_from}
use Rattle.std.proofs.lemmas.List.Folds.{list_all-append}
use Rattle.hum_syntax.specs.declared.TokenKind.{TokenKind}
use Rattle.hum_syntax.specs.Kinds.{is_carried}
use Rattle.hum_syntax.specs.Spells.{Kinds}
use Rattle.hum_parse.specs.Input.{Outcome, Parser, and_then}

abbrev pub Language : Type 0 → Type 1
Language A = Kinds → A → Type 0

-- both lists are empty, or both begin with one token
abbrev pub SameHead : Kinds → Kinds → Type 0
SameHead [] [] = Unit {0}
SameHead [] (j ∷ js) = ⊥
SameHead (k ∷ ks) [] = ⊥
SameHead (k ∷ ks) (j ∷ js) = k ≡ j

-- the list doesn't begin with a token of this class
abbrev pub Avoids : (TokenKind → Bool) → Kinds → Type 0
Avoids g [] = Unit {0}
Avoids g (k ∷ ks) = g k ≡ false

-- each token carries what it may
abbrev pub Carried : Kinds → Type 0
Carried ks = list_all is_carried ks ≡ true

pub same_behind : (xs rest more : Kinds) → SameHead rest more → SameHead (xs ++ rest) (xs ++ more)
same_behind [] rest more s = s
same_behind (k ∷ xs) rest more s = refl

pub cancel : (xs ys zs : Kinds) → xs ++ ys ≡ xs ++ zs → ys ≡ zs
cancel [] ys zs e = e
cancel (x ∷ xs) ys zs e = cancel xs ys zs (let tails : xs ++ ys ≡ xs ++ zs = cc in tails)

-- One tree and what is left: with any other tokens behind it but the first, nothing else stands at the front.
pub record Found {A : Type 0} (T : Language A) (g : TokenKind → Bool) (ts : Kinds) (a : A) (rest : Kinds) : Type 0 where
  pub front : Kinds
  pub split : ts ≡ front ++ rest
  pub spelled : T front a
  pub unique : (more u v : Kinds) (b : A) → SameHead rest more → front ++ more ≡ u ++ v → T u b → Avoids g v → (u ≡ front) × (a ≡ b)

-- What was read begins a spelling, and with the next token nothing does.
pub record Stopped {A : Type 0} (T : Language A) (g : TokenKind → Bool) (ts rest : Kinds) : Type 0 where
  pub front : Kinds
  pub split : ts ≡ front ++ rest
  pub tail : Kinds
  pub carried : Carried tail
  pub tree : A
  pub begins : T (front ++ tail) tree
  pub dead : (more u v : Kinds) (b : A) → SameHead rest more → front ++ more ≡ u ++ v → T u b → Avoids g v → ⊥

abbrev pub Answers : {A : Type 0} → Language A → (TokenKind → Bool) → Kinds → Outcome A → Type 0
Answers T g ts (Ok p) = Found T g ts p.0 p.1
Answers T g ts (Err rest) = Stopped T g ts rest

-- on lists shorter than m
abbrev pub Exact : {A : Type 0} → ℕ → Language A → (TokenKind → Bool) → Parser A → Type 0
Exact m T g p = (ts : Kinds) → length ts < m → Answers T g ts (p ts)

-- one after the other
pub record Then {A B : Type 0} (R : Language A) (S : A → Language B) (ts : Kinds) (b : B) : Type 0 where
  pub left : Kinds
  pub right : Kinds
  pub split : ts ≡ left ++ right
  pub first : A
  pub is_left : R left first
  pub is_right : S first right b

-- what can still come
pub record Ends {A : Type 0} (T : Language A) : Type 0 where
  pub tail : Kinds
  pub carried : Carried tail
  pub tree : A
  pub ends : T tail tree

pub front_empty : (xs ys : Kinds) → [] ≡ xs ++ ys → xs ≡ []
front_empty [] ys e = refl
front_empty (x ∷ xs) ys e = cc

carried_front : (front rest : Kinds) → [] ≡ front ++ rest → Carried front
carried_front front rest e = subst Carried (sym (front_empty front rest e)) refl

carried_append : (us vs : Kinds) → Carried us → Carried vs → Carried (us ++ vs)
carried_append us vs c d = list_all-append is_carried us vs ∙ and_from (list_all is_carried us) (list_all is_carried vs) c d

ends_at : {A : Type 0} (T : Language A) (g : TokenKind → Bool) (o : Outcome A) → Answers T g [] o → Ends T
ends_at T g (Ok p) w = record { tail = w.front; carried = carried_front w.front p.1 w.split; tree = p.0; ends = w.spelled }
ends_at T g (Err rest) w = record {
  tail = w.front ++ w.tail;
  carried = carried_append w.front w.tail (carried_front w.front rest w.split) w.carried;
  tree = w.tree;
  ends = w.begins;
}

-- What a parser that is exact makes of no tokens shows how its language can be completed.
pub completed : {A : Type 0} (m : ℕ) (T : Language A) (g : TokenKind → Bool) (p : Parser A) → Exact (suc m) T g p → Ends T
completed m T g p x = ends_at T g (p []) (x [] (omega arith))

module _ {A B : Type 0} (R : Language A) (r : TokenKind → Bool) (S : A → Language B) (g : TokenKind → Bool)
    (follows : (a : A) (y v : Kinds) (b : B) → S a y b → Avoids g v → Avoids r (y ++ v)) where
  after_found : (ts rest : Kinds) (a : A) → Found R r ts a rest → (o : Outcome B) → Answers (S a) g rest o → Answers (Then R S) g ts o
  after_found ts rest a w (Ok p) s = record {
    front = w.front ++ s.front;
    split = w.split ∙ ap (λ z. w.front ++ z) s.split ∙ sym (append_assoc w.front s.front p.1);
    spelled = record { left = w.front; right = s.front; split = refl; first = a; is_left = w.spelled; is_right = s.spelled };
    unique = λ more u v b same e t f.
        let parts : (t.left ≡ w.front) × (a ≡ t.first) = w.unique (s.front ++ more) t.left (t.right ++ v) t.first
        (subst (λ z. SameHead z (s.front ++ more)) (sym s.split) (same_behind s.front p.1 more same))
        (sym (append_assoc w.front s.front more) ∙ e ∙ ap (λ z. z ++ v) t.split ∙ append_assoc t.left t.right v)
        t.is_left (follows t.first t.right v b t.is_right f) in
        let here : s.front ++ more ≡ t.right ++ v = cancel w.front (s.front ++ more) (t.right ++ v)
        (sym (append_assoc w.front s.front more) ∙ e ∙ ap (λ z. z ++ v) t.split ∙ append_assoc t.left t.right v
        ∙ ap (λ z. z ++ (t.right ++ v)) parts.0) in
        let rests : (t.right ≡ s.front) × (p.0 ≡ b) = s.unique more t.right v b same here (subst (λ z. S z t.right b) (sym parts.1) t.is_right) f in
        (t.split ∙ ap (λ z. z ++ t.right) parts.0 ∙ ap (λ z. w.front ++ z) rests.0, rests.1);
  }
  after_found ts rest a w (Err left) s = record {
    front = w.front ++ s.front;
    split = w.split ∙ ap (λ z. w.front ++ z) s.split ∙ sym (append_assoc w.front s.front left);
    tail = s.tail;
    carried = s.carried;
    tree = s.tree;
    begins = record {
      left = w.front;
      right = s.front ++ s.tail;
      split = append_assoc w.front s.front s.tail;
      first = a;
      is_left =
          w.spelled;
      is_right = s.begins;
    };
    dead = λ more u v b same e t f.
        let parts : (t.left ≡ w.front) × (a ≡ t.first) = w.unique (s.front ++ more) t.left (t.right ++ v) t.first
        (subst (λ z. SameHead z (s.front ++ more)) (sym s.split) (same_behind s.front left more same))
        (sym (append_assoc w.front s.front more) ∙ e ∙ ap (λ z. z ++ v) t.split ∙ append_assoc t.left t.right v)
        t.is_left (follows t.first t.right v b t.is_right f) in
        let here : s.front ++ more ≡ t.right ++ v = cancel w.front (s.front ++ more) (t.right ++ v)
        (sym (append_assoc w.front s.front more) ∙ e ∙ ap (λ z. z ++ v) t.split ∙ append_assoc t.left t.right v
        ∙ ap (λ z. z ++ (t.right ++ v)) parts.0) in
        s.dead more t.right v b same here (subst (λ z. S z t.right b) (sym parts.1) t.is_right) f;
  }

  after_stopped : (ts rest : Kinds) → Stopped R r ts rest → ((a : A) → Ends (S a)) → Stopped (Then R S) g ts rest
  after_stopped ts rest w ends = record {
    front = w.front;
    split = w.split;
    tail = w.tail ++ (ends w.tree).tail;
    carried = carried_append w.tail (ends w.tree).tail w.carried (ends w.tree).carried;
    tree = (ends w.tree).tree;
    begins = record {
      left = w.front ++ w.tail;
      right = (ends w.tree).tail;
      split = sym (append_assoc w.front w.tail (ends w.tree).tail);
      first = w.tree;
      is_left = w.begins;
      is_right = (ends w.tree).ends;
    };
    dead = λ more u v b same e t f.
        w.dead more t.left (t.right ++ v) t.first same (e ∙ ap (λ z. z ++ v) t.split ∙ append_assoc t.left t.right v)
        t.is_left (follows t.first t.right v b t.is_right f);
  }

  shorter : (ts front rest : Kinds) (m : ℕ) → ts ≡ front ++ rest → length ts < m → length rest < m
  shorter ts front rest m e h = let same : length ts ≡ length (front ++ rest) = ap length e in omega (arith, length-append front rest)

  then_at : (m : ℕ) (q : A → Parser B) → ((a : A) → Exact (suc m) (S a) g (q a))
      → (ts : Kinds) → length ts < suc m → (o : Outcome A) → Answers R r ts o → Answers (Then R S) g ts (and_then o q)
  then_at m q xs ts h (Ok p) w = after_found ts p.1 p.0 w (q p.0 p.1) (xs p.0 p.1 (shorter ts w.front p.1 (suc m) w.split h))
  then_at m q xs ts h (Err rest) w = after_stopped ts rest w (λ a. completed m (S a) g (q a) (xs a))

  pub exact_then : (m : ℕ) (p : Parser A) (q : A → Parser B) → Exact (suc m) R r p → ((a : A) → Exact (suc m) (S a) g (q a))
      → Exact (suc m) (Then R S) g (λ ts. and_then (p ts) q)
  exact_then m p q x xs ts h = then_at m q xs ts h (p ts) (x ts h)

  -- the same, where the first takes at least one token
  module _ (some : (a : A) → R [] a → ⊥) where
    sized : (front : Kinds) (a : A) → R front a → 0 < length front
    sized [] a x = absurd (some a x)
    sized (t ∷ front) a x = omega arith

    fewer : (ts front rest : Kinds) (m : ℕ) → 0 < length front → ts ≡ front ++ rest → length ts < suc m → length rest < m
    fewer ts front rest m p e h = let same : length ts ≡ length (front ++ rest) = ap length e in omega (arith, length-append front rest)

    some_at : (m : ℕ) (q : A → Parser B) → ((a : A) → Exact (suc m) (S a) g (q a))
        → (ts : Kinds) → length ts < suc (suc m) → (o : Outcome A) → Answers R r ts o → Answers (Then R S) g ts (and_then o q)
    some_at m q xs ts h (Ok p) w =
        after_found ts p.1 p.0 w (q p.0 p.1) (xs p.0 p.1 (fewer ts w.front p.1 (suc m) (sized w.front p.0 w.spelled) w.split h))
    some_at m q xs ts h (Err rest) w = after_stopped ts rest w (λ a. completed m (S a) g (q a) (xs a))

    pub exact_some : (m : ℕ) (p : Parser A) (q : A → Parser B) → Exact (suc (suc m)) R r p → ((a : A) → Exact (suc m) (S a) g (q a))
        → Exact (suc (suc m)) (Then R S) g (λ ts. and_then (p ts) q)
    exact_some m p q x xs ts h = some_at m q xs ts h (p ts) (x ts h)
