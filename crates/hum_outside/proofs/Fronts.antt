-- What a sink holds after one append and another, and after a front of what a writer of several pieces writes.
use Rattle.std.proofs.Common.{◌≡◌, ◌<◌, ◌+◌, ℕ, List, [], ◌∷◌, ◌++◌, length, take, drop, get_or, Option, None, Some, refl, sym, ◌∙◌, ap, subst, arith, append_assoc, length-append, take-append-drop, take-add}
use Rattle.std.proofs.lemmas.List.{append-nil, take-append-le, take_more, drop_more}
use Rattle.std.proofs.Math.Seq.{take-append-add}
use Rattle.std.proofs.lemmas.List.Concat.{flat_map-append}
use Rattle.std.specs.Prelude.{Result, Ok, Err, OnErr}
use Rattle.std.specs.List.{flat_map}
use Rattle.hum_outside.specs.Outside.{appended, AppendsFront}

-- one append after another
pub appended-appended : (old : Option (List ℕ)) (xs ys : List ℕ) → appended (appended old xs) ys ≡ appended old (xs ++ ys)
appended-appended None xs ys = refl
appended-appended (Some bytes) xs ys = ap Some (append_assoc bytes xs ys)

-- what a writer answers where an earlier call failed holds whatever it answers
pub on_err : {T E P : Type 0} (result : Result T E) → P → OnErr result P
on_err (Ok _) p = tt
on_err (Err _) p = p

module _ (old mid new : Option (List ℕ)) (xs ys : List ℕ) where
  -- some bytes were appended, and then more
  pub all_after : mid ≡ appended old xs → new ≡ appended mid ys → new ≡ appended old (xs ++ ys)
  all_after first rest = rest ∙ ap (λ w. appended w ys) first ∙ appended-appended old xs ys

  -- some bytes were appended, and then a front of more
  pub front_after : mid ≡ appended old xs → AppendsFront mid new ys → AppendsFront old new (xs ++ ys)
  front_after first front = record {
    count = length xs + front.count;
    within = omega (arith, front.within, length-append xs ys);
    front = front.front ∙ ap (λ w. appended w (take front.count ys)) first ∙ appended-appended old xs (take front.count ys) ∙ ap (appended old) (sym (take-append-add xs ys front.count));
  }

-- the first i bytes were appended, and then the n that follow
pub front_more : (old mid new : Option (List ℕ)) (bytes : List ℕ) (i n : ℕ) → mid ≡ appended old (take i bytes) → new ≡ appended mid (take n (drop i bytes)) → new ≡ appended old (take (i + n) bytes)
front_more old mid new bytes i n first rest = all_after old mid new (take i bytes) (take n (drop i bytes)) first rest ∙ ap (appended old) (sym (take-add i n bytes))

-- a front of some bytes is one of more bytes
pub front_left : (old new : Option (List ℕ)) (xs ys : List ℕ) → AppendsFront old new xs → AppendsFront old new (xs ++ ys)
front_left old new xs ys front = record {
  count = front.count;
  within = omega (arith, front.within, length-append xs ys);
  front = front.front ∙ ap (appended old) (sym (take-append-le front.count xs ys front.within));
}

-- a loop that writes one piece for each element, `f` of it, has written those of the first i
module _ {X : Type 0} (f : X → List ℕ) (xs : List X) (i : ℕ) (d : X) (lt : i < length xs) (old mid new : Option (List ℕ)) (so_far : mid ≡ appended old (flat_map f (take i xs))) where
  -- the next piece is written
  pub pieces_more : new ≡ appended mid (f (get_or xs i d)) → new ≡ appended old (flat_map f (take (i + 1) xs))
  pieces_more next =
      let front : flat_map f (take (i + 1) xs) ≡ flat_map f (take i xs) ++ f (get_or xs i d) = ap (flat_map f) (take_more xs i d lt) ∙ flat_map-append f (take i xs) (get_or xs i d ∷ []) ∙ ap (λ l. flat_map f (take i xs) ++ l) (append-nil (f (get_or xs i d))) in
      all_after old mid new (flat_map f (take i xs)) (f (get_or xs i d)) so_far next ∙ ap (appended old) (sym front)

  -- a front of the next piece is written
  pub pieces_front : AppendsFront mid new (f (get_or xs i d)) → AppendsFront old new (flat_map f xs)
  pieces_front front =
      let whole : flat_map f xs ≡ flat_map f (take i xs) ++ (f (get_or xs i d) ++ flat_map f (drop (i + 1) xs)) = ap (flat_map f) (sym (take-append-drop i xs)) ∙ flat_map-append f (take i xs) (drop i xs) ∙ ap (λ l. flat_map f (take i xs) ++ flat_map f l) (drop_more xs i d lt) in
      subst (AppendsFront old new) (sym whole) (front_after old mid new (flat_map f (take i xs)) (f (get_or xs i d) ++ flat_map f (drop (i + 1) xs)) so_far (front_left mid new (f (get_or xs i d)) (flat_map f (drop (i + 1) xs)) front))
