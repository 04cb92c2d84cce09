-- The outcomes of single steps.
use Rattle.std.proofs.Common.{◌≡◌, ℕ, suc, ◌<◌, Bool, true, false, cond, [], ◌∷◌, ◌++◌, length, Ok, Err, refl, sym, ap, ◌∙◌, subst, arith, ◌⊎◌, inl, inr, append-nil}
use Rattle.hum_syntax.specs.declared.TokenKind.{TokenKind}
use Rattle.hum_syntax.specs.declared.TokenKind.TheVariants as k
use Rattle.hum_syntax.specs.declared.Keyword.TheVariants as w
use Rattle.std.proofs.lemmas.Bool.{and_from}
use Rattle.hum_syntax.specs.Kinds.{is_carried}
use Rattle.hum_syntax.specs.Spells.{Kinds}
use Rattle.hum_parse.specs.declared.tokens.Mark.{Mark}
use Rattle.hum_parse.specs.declared.tokens.Mark.TheVariants as mark
use Rattle.hum_parse.specs.Input.{Outcome, Parser, pure, expect, either, is, stands, sees, next, and_then}
use Rattle.hum_parse.proofs.Exact.{Carried, front_empty, Language, SameHead, Avoids, Found, Stopped, Answers, Exact, Ends, Then, same_behind, exact_then}

pub is_stands : (x : Mark) (t : TokenKind) → is x t ≡ true → t ≡ stands x
is_stands mark.To (k.Keyword w.KwTo) e = refl
is_stands mark.With (k.Keyword w.KwWith) e = refl
is_stands mark.Of (k.Keyword w.KwOf) e = refl
is_stands mark.End (k.Keyword w.KwEnd) e = refl
is_stands mark.Elif (k.Keyword w.KwElif) e = refl
is_stands mark.Else (k.Keyword w.KwElse) e = refl
is_stands mark.CallParen k.CallParen e = refl
is_stands mark.ParenRight k.ParenRight e = refl
is_stands mark.SquareLeft k.SquareLeft e = refl
is_stands mark.SquareRight k.SquareRight e = refl
is_stands mark.Comma k.Comma e = refl
is_stands mark.Dot k.Dot e = refl
is_stands mark.Equals k.Equals e = refl
is_stands mark.Colon k.Colon e = refl
is_stands mark.Backslash k.Backslash e = refl
is_stands _ _ e = cc

pub stands_is : (x : Mark) → is x (stands x) ≡ true
stands_is mark.To = refl
stands_is _ = refl

-- nothing more, and this value
pub record Pure {A : Type 0} (a : A) (ts : Kinds) (b : A) : Type 0 where
  pub none : ts ≡ []
  pub same : a ≡ b

-- this token
abbrev pub Word : Mark → Language (Unit {0})
Word x ts _ = ts ≡ stands x ∷ []

-- ---- languages that say the same

pub record Same {A : Type 0} (T U : Language A) : Type 0 where
  pub to : (u : Kinds) (b : A) → T u b → U u b
  pub from : (u : Kinds) (b : A) → U u b → T u b

pub along : {A : Type 0} (T U : Language A) (g : TokenKind → Bool) (ts : Kinds) (o : Outcome A) → Same T U → Answers T g ts o → Answers U g ts o
along T U g ts (Ok p) s w = record {
  front = w.front;
  split = w.split;
  spelled = s.to w.front p.0 w.spelled;
  unique = λ more u v b same e t f. w.unique more u v b same e (s.from u b t) f;
}
along T U g ts (Err rest) s w = record {
  front = w.front;
  split = w.split;
  tail = w.tail;
  carried = w.carried;
  tree = w.tree;
  begins = s.to (w.front ++ w.tail) w.tree w.begins;
  dead = λ more u v b same e t f. w.dead more u v b same e (s.from u b t) f;
}

-- ---- by the first token

-- The token was taken. No spelling is empty, unless what may follow rules this token out.
pub took : {A : Type 0} (T : Language A) (g : TokenKind → Bool) (t : TokenKind) (ts : Kinds) (o : Outcome A) → ((b : A) → T [] b → g t ≡ false → ⊥)
    → Answers (λ us. T (t ∷ us)) g ts o → Answers T g (t ∷ ts) o
took T g t ts (Ok p) none w = record {
  front = t ∷ w.front;
  split = ap (λ z. t ∷ z) w.split;
  spelled = w.spelled;
  unique = λ more u v b same e. first u v more b same e;
}
  where
    first : (u v more : Kinds) (b : _) → SameHead p.1 more → (t ∷ w.front) ++ more ≡ u ++ v → T u b → Avoids g v → (u ≡ t ∷ w.front) × (p.0 ≡ b)
    first [] v more b same e x f = absurd (none b x (subst (Avoids g) (sym e) f))
    first (k ∷ u) v more b same e x f =
        let heads : t ≡ k = cc in
        let tails : w.front ++ more ≡ u ++ v = cc in
        let rests : (u ≡ w.front) × (p.0 ≡ b) = w.unique more u v b same tails (subst (λ z. T (z ∷ u) b) (sym heads) x) f in
        (let both : k ∷ u ≡ t ∷ w.front = cc in both, rests.1)
took T g t ts (Err rest) none w = record {
  front = t ∷ w.front;
  split = ap (λ z. t ∷ z) w.split;
  tail = w.tail;
  carried = w.carried;
  tree = w.tree;
  begins = w.begins;
  dead = λ more u v b same e. first u v more b same e;
}
  where
    first : (u v more : Kinds) (b : _) → SameHead rest more → (t ∷ w.front) ++ more ≡ u ++ v → T u b → Avoids g v → ⊥
    first [] v more b same e x f = none b x (subst (Avoids g) (sym e) f)
    first (k ∷ u) v more b same e x f =
        let heads : t ≡ k = cc in
        let tails : w.front ++ more ≡ u ++ v = cc in
        w.dead more u v b same tails (subst (λ z. T (z ∷ u) b) (sym heads) x) f

-- Nothing is left, and no spelling is empty.
pub at_end : {A : Type 0} (T : Language A) (g : TokenKind → Bool) → Ends T → ((b : A) → T [] b → ⊥) → Stopped T g [] []
at_end T g x none = record {
  front = [];
  split = refl;
  tail = x.tail;
  carried = x.carried;
  tree = x.tree;
  begins = x.ends;
  dead = λ more u v b same e t f. nothing more u v b same e t;
}
  where
    nothing : (more u v : Kinds) (b : _) → SameHead [] more → more ≡ u ++ v → T u b → ⊥
    nothing [] u v b same e t = none b (subst (λ z. T z b) (front_empty u v e) t)
    nothing (k ∷ ks) u v b same e t = same

-- No spelling begins with this token, and none is empty.
pub no_way : {A : Type 0} (T : Language A) (g : TokenKind → Bool) (t : TokenKind) (ts : Kinds) → Ends T → ((b : A) → T [] b → ⊥)
    → ((u : Kinds) (b : A) → T (t ∷ u) b → ⊥) → Stopped T g (t ∷ ts) (t ∷ ts)
no_way T g t ts x none other = record {
  front = [];
  split = refl;
  tail = x.tail;
  carried = x.carried;
  tree = x.tree;
  begins = x.ends;
  dead = λ more u v b same e y f. nothing more u v b same e y;
}
  where
    nothing : (more u v : Kinds) (b : _) → SameHead (t ∷ ts) more → more ≡ u ++ v → T u b → ⊥
    nothing [] u v b same e y = same
    nothing (k ∷ ks) [] v b same e y = none b y
    nothing (k ∷ ks) (j ∷ u) v b same e y =
        let heads : t ≡ j = cc in
        other u b (subst (λ z. T (z ∷ u) b) (sym heads) y)

-- ---- single steps

pub exact_pure : {A : Type 0} (a : A) (g : TokenKind → Bool) (ts : Kinds) → Found (Pure a) g ts a ts
exact_pure a g ts = record {
  front = [];
  split = refl;
  spelled = record { none = refl; same = refl };
  unique = λ more u v b same e t f. (t.none, t.same);
}

carried_word : (x : Mark) → is_carried (stands x) ≡ true
carried_word mark.To = refl
carried_word _ = refl

pub carried_alone : (x : Mark) → Carried (stands x ∷ [])
carried_alone x = and_from (is_carried (stands x)) true (carried_word x) refl

word_ends : (x : Mark) → Ends (Word x)
word_ends x = record { tail = stands x ∷ []; carried = carried_alone x; tree = tt; ends = refl }

expect_at : (x : Mark) (g : TokenKind → Bool) (t : TokenKind) (ts : Kinds) (seen : Bool) → is x t ≡ seen
    → Answers (Word x) g (t ∷ ts) (cond seen (Ok (tt, ts)) (Err (t ∷ ts)))
expect_at x g t ts true e = record {
  front = t ∷ [];
  split = refl;
  spelled = ap (λ z. z ∷ []) (is_stands x t e);
  unique = λ more u v b same d y f. (y ∙ ap (λ z. z ∷ []) (sym (is_stands x t e)), refl);
}
expect_at x g t ts false e =
    no_way (Word x) g t ts (word_ends x) (λ b y. cc)
    (λ u b y. let same : t ≡ stands x = cc in let no : true ≡ false = sym (stands_is x) ∙ ap (is x) (sym same) ∙ e in cc)

pub exact_expect : (x : Mark) (g : TokenKind → Bool) (ts : Kinds) → Answers (Word x) g ts (expect x ts)
exact_expect x g [] = at_end (Word x) g (word_ends x) (λ b y. cc)
exact_expect x g (t ∷ ts) = expect_at x g t ts (is x t) refl

-- ---- a choice by the first token

abbrev pub Begins : (TokenKind → Bool) → Kinds → Type 0
Begins h [] = ⊥
Begins h (k ∷ ks) = h k ≡ true

-- no token is of a class and is one that is not of it
pub apart : (h : TokenKind → Bool) (x : Mark) → h (stands x) ≡ false → (u : Kinds) → Begins h u → Begins (is x) u → ⊥
apart h x off [] b c = b
apart h x off (t ∷ u) b c =
    let at : t ≡ stands x = is_stands x t c in
    let no : false ≡ true = sym off ∙ sym (ap h at) ∙ b in
    cc

clash : (h : TokenKind → Bool) (ts more u v : Kinds) → Avoids h ts → SameHead ts more → more ≡ u ++ v → Begins h u → ⊥
clash h ts more [] v a s e b = b
clash h [] [] (k ∷ u) v a s e b = cc
clash h [] (j ∷ more) (k ∷ u) v a s e b = s
clash h (t ∷ ts) [] (k ∷ u) v a s e b = s
clash h (t ∷ ts) (j ∷ more) (k ∷ u) v a s e b =
    let heads : j ≡ k = cc in
    let wrong : false ≡ true = sym a ∙ ap h (s ∙ heads) ∙ b in
    cc

-- The other spellings begin with tokens that don't come.
pub narrowed : {A : Type 0} (h : TokenKind → Bool) (Q T : Language A) (g : TokenKind → Bool) (ts : Kinds) (o : Outcome A)
    → ((u : Kinds) (b : A) → Q u b → T u b) → ((u : Kinds) (b : A) → T u b → Q u b ⊎ Begins h u) → Avoids h ts
    → Answers Q g ts o → Answers T g ts o
narrowed h Q T g ts (Ok p) to from a w = record {
  front = w.front;
  split = w.split;
  spelled = to w.front p.0 w.spelled;
  unique = λ more u v b same e t f. either_way more u v b same e (from u b t) f;
}
  where
    either_way : (more u v : Kinds) (b : _) → SameHead p.1 more → w.front ++ more ≡ u ++ v → Q u b ⊎ Begins h u → Avoids g v
        → (u ≡ w.front) × (p.0 ≡ b)
    either_way more u v b same e (inl q) f = w.unique more u v b same e q f
    either_way more u v b same e (inr x) f =
        absurd (clash h ts (w.front ++ more) u v a (subst (λ z. SameHead z (w.front ++ more)) (sym w.split) (same_behind w.front p.1 more same)) e x)
narrowed h Q T g ts (Err rest) to from a w = record {
  front = w.front;
  split = w.split;
  tail = w.tail;
  carried = w.carried;
  tree = w.tree;
  begins = to (w.front ++ w.tail) w.tree w.begins;
  dead = λ more u v b same e t f. either_way more u v b same e (from u b t) f;
}
  where
    either_way : (more u v : Kinds) (b : _) → SameHead rest more → w.front ++ more ≡ u ++ v → Q u b ⊎ Begins h u → Avoids g v → ⊥
    either_way more u v b same e (inl q) f = w.dead more u v b same e q f
    either_way more u v b same e (inr x) f =
        clash h ts (w.front ++ more) u v a (subst (λ z. SameHead z (w.front ++ more)) (sym w.split) (same_behind w.front rest more same)) e x

-- this value and nothing more, or the token and what may stand behind it
abbrev pub Or : {A : Type 0} → Mark → A → Language A → Language A
Or x a S us b = Pure a us b ⊎ Then (Word x) (λ _. S) us b

module _ {A : Type 0} (x : Mark) (a : A) (S : Language A) (g : TokenKind → Bool) (goes : g (stands x) ≡ true) where
  or_from : (u : Kinds) (b : A) → Or x a S u b → Pure a u b ⊎ Begins (is x) u
  or_from u b (inl y) = inl y
  or_from u b (inr y) = inr (subst (Begins (is x)) (sym (y.split ∙ ap (λ z. z ++ y.right) y.is_left)) (stands_is x))

  or_to : (t : TokenKind) → t ≡ stands x → (u : Kinds) (b : A) → S u b → Or x a S (t ∷ u) b
  or_to t e u b s = inr (record { left = stands x ∷ []; right = u; split = ap (λ z. z ∷ u) e; first = tt; is_left = refl; is_right = s })

  or_behind : (t : TokenKind) (u : Kinds) (b : A) → Or x a S (t ∷ u) b → S u b
  or_behind t u b (inl y) = let no : t ∷ u ≡ [] = y.none in cc
  or_behind t u b (inr y) =
      let all : t ∷ u ≡ stands x ∷ y.right = y.split ∙ ap (λ z. z ++ y.right) y.is_left in
      let tails : y.right ≡ u = cc in
      subst (λ z. S z b) tails y.is_right

  or_at : (m : ℕ) (ps : Parser A) → Exact m S g ps → (t : TokenKind) (ts : Kinds) → length ts < m → (seen : Bool) → is x t ≡ seen
      → Answers (Or x a S) g (t ∷ ts) (cond seen (ps ts) (Ok (a, t ∷ ts)))
  or_at m ps xs t ts h true e =
      let at : t ≡ stands x = is_stands x t e in
      took (Or x a S) g t ts (ps ts) (λ b y off. let no : true ≡ false = sym goes ∙ ap g (sym at) ∙ off in cc)
      (along S (λ us. Or x a S (t ∷ us)) g ts (ps ts) (record { to = or_to t at; from = or_behind t }) (xs ts h))
  or_at m ps xs t ts h false e =
      narrowed (is x) (Pure a) (Or x a S) g (t ∷ ts) (Ok (a, t ∷ ts)) (λ u b y. inl y) or_from e (exact_pure a g (t ∷ ts))

  pub exact_or : (m : ℕ) (ps : Parser A) → Exact m S g ps → Exact (suc m) (Or x a S) g (either x ps (pure a))
  exact_or m ps xs [] h = narrowed (is x) (Pure a) (Or x a S) g [] (Ok (a, [])) (λ u b y. inl y) or_from tt (exact_pure a g [])
  exact_or m ps xs (t ∷ ts) h = let less : length ts < m = omega arith in or_at m ps xs t ts less (is x t) refl

pub begins_more : (h : TokenKind → Bool) (u v : Kinds) → Begins h u → Begins h (u ++ v)
begins_more h [] v b = absurd b
begins_more h (k ∷ u) v b = b

-- ---- one token that ends it, or something else

pub no_follow : (v : Kinds) → Avoids (λ _. false) v
no_follow [] = tt
no_follow (t ∷ ts) = refl

pub word_follows : {A : Type 0} (g : TokenKind → Bool) (x : Mark) → g (stands x) ≡ false → (T : Language A) (y v : Kinds) (b : A) → Then (Word x)
    (λ _. T) y b → Avoids g (y ++ v)
word_follows g x off T y v b t = subst (λ z. Avoids g (z ++ v)) (sym (t.split ∙ ap (λ z. z ++ t.right) t.is_left)) off

abbrev pub Close : {A : Type 0} → Mark → A → Language A
Close x a = Then (Word x) (λ _. Pure a)

pub closes : {A : Type 0} (x : Mark) (a : A) → Close x a (stands x ∷ []) a
closes x a = record { left = stands x ∷ []; right = []; split = refl; first = tt; is_left = refl; is_right = record { none = refl; same = refl } }

pub close_is : {A : Type 0} (x : Mark) (a : A) (u : Kinds) (b : A) → Close x a u b → (u ≡ stands x ∷ []) × (a ≡ b)
close_is x a u b y = (y.split ∙ ap (λ z. z ++ y.right) y.is_left ∙ ap (λ z. stands x ∷ z) y.is_right.none, y.is_right.same)

pub exact_close : {A : Type 0} (x : Mark) (a : A) (g : TokenKind → Bool) (m : ℕ) → Exact (suc m) (Close x a) g
    (λ ts. and_then (expect x ts) (λ _. pure a))
exact_close x a g m =
    exact_then (Word x) (λ _. false) (λ _. Pure a) g (λ _ y v b t f. no_follow (y ++ v)) m (expect x) (λ _. pure a)
    (λ ts h. exact_expect x (λ _. false) ts) (λ _ ts h. exact_pure a g ts)

module _ {A : Type 0} (x : Mark) (a : A) (Q T : Language A) (g : TokenKind → Bool)
    (to : (u : Kinds) (b : A) → Q u b → T u b) (closed : T (stands x ∷ []) a) (from : (u : Kinds) (b : A) → T u b → Q u b ⊎ Close x a u b)
    (some : (b : A) → Q [] b → ⊥) (apart : (u : Kinds) (b : A) → Q u b → Begins (is x) u → ⊥) where
  else_from : (u : Kinds) (b : A) → T u b → Q u b ⊎ Begins (is x) u
  else_from u b t = elim (from u b t) [ inl q ↦ inl q | inr y ↦ inr (subst (Begins (is x)) (sym (close_is x a u b y).0) (stands_is x)) ]

  else_some : (b : A) → Q [] b ⊎ Close x a [] b → ⊥
  else_some b (inl q) = some b q
  else_some b (inr y) = let no : [] ≡ stands x ∷ [] = (close_is x a [] b y).0 in cc

  else_behind : (t : TokenKind) → is x t ≡ true → (u : Kinds) (b : A) → Q (t ∷ u) b ⊎ Close x a (t ∷ u) b → Pure a u b
  else_behind t e u b (inl q) = absurd (apart (t ∷ u) b q e)
  else_behind t e u b (inr y) = let all : t ∷ u ≡ stands x ∷ [] = (close_is x a (t ∷ u) b y).0 in
      record { none = (let tails : u ≡ [] = cc in tails); same = (close_is x a (t ∷ u) b y).1 }

  else_to : (t : TokenKind) → t ≡ stands x → (u : Kinds) (b : A) → Pure a u b → T (t ∷ u) b
  else_to t e u b y = subst (λ z. T (t ∷ u) z) y.same (subst (λ z. T (t ∷ z) a) (sym y.none) (subst (λ z. T (z ∷ []) a) (sym e) closed))

  else_at : (m : ℕ) (q : Parser A) → Exact (suc m) Q g q → (t : TokenKind) (ts : Kinds) → length (t ∷ ts) < suc m → (seen : Bool) → is x t ≡ seen
      → Answers T g (t ∷ ts) (cond seen (Ok (a, ts)) (q (t ∷ ts)))
  else_at m q xs t ts h true e =
      took T g t ts (Ok (a, ts)) (λ b y off. else_some b (from [] b y))
      (along (Pure a) (λ us. T (t ∷ us)) g ts (Ok (a, ts))
      (record { to = else_to t (is_stands x t e); from = λ u b y. else_behind t e u b (from (t ∷ u) b y) }) (exact_pure a g ts))
  else_at m q xs t ts h false e = narrowed (is x) Q T g (t ∷ ts) (q (t ∷ ts)) to else_from e (xs (t ∷ ts) h)

  pub exact_else : (m : ℕ) (q : Parser A) → Exact (suc m) Q g q → Exact (suc m) T g (either x (pure a) q)
  exact_else m q xs [] h = narrowed (is x) Q T g [] (q []) to else_from tt (xs [] h)
  exact_else m q xs (t ∷ ts) h = else_at m q xs t ts h (is x t) refl

abbrev taken : {A : Type 0} → A → Bool → Kinds → Kinds → Outcome A
taken a seen ts us = cond seen (Ok (a, us)) (Err ts)

shut_at : {A : Type 0} (a : A) (seen : Bool) (ts us : Kinds) → taken a seen ts us ≡ and_then (taken {A = Unit {0}} tt seen ts us) (λ _. pure a)
shut_at a true ts us = refl
shut_at a false ts us = refl

-- where nothing else can stand
pub exact_shut : {A : Type 0} (x : Mark) (a : A) (g : TokenKind → Bool) (m : ℕ) → Exact (suc m) (Close x a) g (either x (pure a) (λ ts. Err ts))
exact_shut x a g m ts h = subst (Answers (Close x a) g ts) (sym (shut_at a (sees x ts) ts (next ts))) (exact_close x a g m ts h)

-- ---- one way behind this token, another behind any other

module _ {A : Type 0} (x : Mark) (P Q T : Language A) (g : TokenKind → Bool)
    (to : (u : Kinds) (b : A) → Q u b → T u b) (to_word : (u : Kinds) (b : A) → P u b → T (stands x ∷ u) b)
    (from : (u : Kinds) (b : A) → T u b → Q u b ⊎ Then (Word x) (λ _. P) u b)
    (some : (b : A) → Q [] b → g (stands x) ≡ false → ⊥) (apart : (u : Kinds) (b : A) → Q u b → Begins (is x) u → ⊥) where
  branch_all : (u : Kinds) (b : A) (y : Then (Word x) (λ _. P) u b) → u ≡ stands x ∷ y.right
  branch_all u b y = y.split ∙ ap (λ z. z ++ y.right) y.is_left

  branch_from : (u : Kinds) (b : A) → T u b → Q u b ⊎ Begins (is x) u
  branch_from u b t = elim (from u b t) [ inl q ↦ inl q | inr y ↦ inr (subst (Begins (is x)) (sym (branch_all u b y)) (stands_is x)) ]

  branch_some : (t : TokenKind) → t ≡ stands x → (b : A) → Q [] b ⊎ Then (Word x) (λ _. P) [] b → g t ≡ false → ⊥
  branch_some t e b (inl q) off = some b q (ap g (sym e) ∙ off)
  branch_some t e b (inr y) off = let no : [] ≡ stands x ∷ y.right = branch_all [] b y in cc

  branch_behind : (t : TokenKind) → is x t ≡ true → (u : Kinds) (b : A) → Q (t ∷ u) b ⊎ Then (Word x) (λ _. P) (t ∷ u) b → P u b
  branch_behind t e u b (inl q) = absurd (apart (t ∷ u) b q e)
  branch_behind t e u b (inr y) = let all : t ∷ u ≡ stands x ∷ y.right = branch_all (t ∷ u) b y in let tails : y.right ≡ u =
      cc in subst (λ z. P z b) tails y.is_right

  branch_at : (m : ℕ) (ps q : Parser A) → Exact m P g ps → Exact (suc m) Q g q → (t : TokenKind) (ts : Kinds) → length (t ∷ ts) < suc m
      → (seen : Bool) → is x t ≡ seen
      → Answers T g (t ∷ ts) (cond seen (ps ts) (q (t ∷ ts)))
  branch_at m ps q xp xq t ts h true e =
      took T g t ts (ps ts) (λ b y off. branch_some t (is_stands x t e) b (from [] b y) off)
      (along P (λ us. T (t ∷ us)) g ts (ps ts)
      (record {
        to = λ u b y. subst (λ z. T (z ∷ u) b) (sym (is_stands x t e)) (to_word u b y);
        from =
            λ u b y. branch_behind t e u b (from (t ∷ u) b y);
      })
      (xp ts (let less : length ts < m = omega arith in less)))
  branch_at m ps q xp xq t ts h false e = narrowed (is x) Q T g (t ∷ ts) (q (t ∷ ts)) to branch_from e (xq (t ∷ ts) h)

  pub exact_branch : (m : ℕ) (ps q : Parser A) → Exact m P g ps → Exact (suc m) Q g q → Exact (suc m) T g (either x ps q)
  exact_branch m ps q xp xq [] h = narrowed (is x) Q T g [] (q []) to branch_from tt (xq [] h)
  exact_branch m ps q xp xq (t ∷ ts) h = branch_at m ps q xp xq t ts h (is x t) refl

only_at : {A : Type 0} (ps : Parser A) (seen : Bool) (ts us : Kinds) → cond seen (ps us) (Err ts) ≡ and_then
    (taken {A = Unit {0}} tt seen ts us) (λ _. ps)
only_at ps true ts us = refl
only_at ps false ts us = refl

-- this token, or nothing can stand here
pub exact_only : {A : Type 0} (x : Mark) (P : Language A) (g : TokenKind → Bool) (m : ℕ) (ps : Parser A) → Exact (suc m) P g ps
    → Exact (suc m) (Then (Word x) (λ _. P)) g (either x ps (λ ts. Err ts))
exact_only x P g m ps xs ts h = subst (Answers (Then (Word x) (λ _. P)) g ts) (sym (only_at ps (sees x ts) ts (next ts)))
    (exact_then (Word x) (λ _. false) (λ _. P) g (λ _ y v b t f. no_follow (y ++ v)) m (expect x) (λ _. ps)
    (λ us l. exact_expect x (λ _. false) us) (λ _. xs) ts h)

-- the token, and then the rest
pub exact_word : {A : Type 0} (x : Mark) (P : Language A) (g : TokenKind → Bool) (m : ℕ) (ps : Parser A) → Exact (suc m) P g ps
    → Exact (suc m) (Then (Word x) (λ _. P)) g (λ ts. and_then (expect x ts) (λ _. ps))
exact_word x P g m ps xs = exact_then (Word x) (λ _. false) (λ _. P) g (λ _ y v b t f. no_follow (y ++ v)) m (expect x) (λ _. ps)
    (λ us l. exact_expect x (λ _. false) us) (λ _. xs)

-- ---- building and taking apart

pub word_is : {A : Type 0} (x : Mark) (P : Language A) (u : Kinds) (b : A) (y : Then (Word x) (λ _. P) u b) → u ≡ stands x ∷ y.right
word_is x P u b y = y.split ∙ ap (λ z. z ++ y.right) y.is_left

pub worded : {A : Type 0} (x : Mark) (P : Language A) (u : Kinds) (b : A) → P u b → Then (Word x) (λ _. P) (stands x ∷ u) b
worded x P u b y = record { left = stands x ∷ []; right = u; split = refl; first = tt; is_left = refl; is_right = y }

pub pure_split : {A : Type 0} (a : A) (left u right : Kinds) (b : A) → u ≡ left ++ right → Pure a right b → u ≡ left
pure_split a left u right b e x = e ∙ ap (λ z. left ++ z) x.none ∙ append-nil left

-- a part that a value is made of
pub pured : {A B : Type 0} (R : Language A) (f : A → B) (u : Kinds) (a : A) → R u a → Then R (λ x. Pure (f x)) u (f a)
pured R f u a r = record { left = u; right = []; split = sym (append-nil u); first = a; is_left = r; is_right = record { none = refl; same = refl } }

pub unpured : {A B : Type 0} (R : Language A) (f : A → B) (T : Language B) → ((u : Kinds) (a : A) → R u a → T u (f a)) → (u : Kinds) (b : B)
    → Then R (λ x. Pure (f x)) u b → T u b
unpured R f T made u b y = subst (λ z. T z b) (sym (pure_split (f y.first) y.left u y.right b y.split y.is_right))
    (subst (λ z. T y.left z) y.is_right.same (made y.left y.first y.is_left))

pub pure_follows : {A B : Type 0} (g : TokenKind → Bool) (f : A → B) (a : A) (y v : Kinds) (b : B) → Pure (f a) y b → Avoids g v → Avoids g (y ++ v)
pure_follows g f a y v b x h = subst (λ z. Avoids g (z ++ v)) (sym x.none) h

-- a parser whose value is made into another
pub exact_made : {A B : Type 0} (R : Language A) (g : TokenKind → Bool) (f : A → B) (m : ℕ) (p : Parser A) → Exact (suc m) R g p
    → Exact (suc m) (Then R (λ x. Pure (f x))) g (λ ts. and_then (p ts) (λ x. pure (f x)))
exact_made R g f m p x = exact_then R g (λ a. Pure (f a)) g (pure_follows g f) m p (λ a. pure (f a)) x (λ a ts h. exact_pure (f a) g ts)
