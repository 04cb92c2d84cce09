-- A text that is written piece by piece.
use Rattle.std.proofs.Common.{◌≡◌, ℕ, List, [], ◌++◌, Option, Some, None, refl, sym, ap, ◌∙◌, subst, append_assoc}
use Rattle.std.proofs.lemmas.List.{append-nil}
use Rattle.std.specs.Prelude.{Result, Ok, Err, OnErr}
use Rattle.hum_outside.specs.Outside.{appended, AppendsFront}
use Rattle.hum_outside.proofs.Fronts.{all_after, front_after, front_left}

-- a front of the whole was appended, and the rest is left
pub record Writing (old now : Option (List ℕ)) (whole rest : List ℕ) : Type 0 where
  pub so_far : List ℕ
  pub written : now ≡ appended old so_far
  pub parts : so_far ++ rest ≡ whole

-- nothing was appended
pub appended_none : (old : Option (List ℕ)) → old ≡ appended old []
appended_none None = refl
appended_none (Some bytes) = ap Some (sym (append-nil bytes))

-- nothing is written yet
pub writing_first : (old : Option (List ℕ)) (whole : List ℕ) → Writing old old whole whole
writing_first old whole = record { so_far = []; written = appended_none old; parts = refl }

module _ (old mid new : Option (List ℕ)) (whole left piece rest : List ℕ) (writing : Writing old mid whole left) (is : left ≡ piece ++ rest) where
  -- the next piece is written
  pub writing_more : new ≡ appended mid piece → Writing old new whole rest
  writing_more next = record {
    so_far = writing.so_far ++ piece;
    written = all_after old mid new writing.so_far piece writing.written next;
    parts = append_assoc writing.so_far piece rest ∙ ap (λ l. writing.so_far ++ l) (sym is) ∙ writing.parts;
  }

  -- a front of the next piece is written
  pub writing_front : AppendsFront mid new piece → AppendsFront old new whole
  writing_front front =
      let parts : writing.so_far ++ (piece ++ rest) ≡ whole = ap (λ l. writing.so_far ++ l) (sym is) ∙ writing.parts in
      subst (AppendsFront old new) parts (front_after old mid new writing.so_far (piece ++ rest) writing.written (front_left mid new piece rest front))

-- nothing is left
pub writing_all : (old new : Option (List ℕ)) (whole rest : List ℕ) → Writing old new whole rest → rest ≡ [] → new ≡ appended old whole
writing_all old new whole rest writing none =
    let parts : writing.so_far ≡ whole = sym (append-nil writing.so_far) ∙ ap (λ l. writing.so_far ++ l) (sym none) ∙ writing.parts in
    writing.written ∙ ap (appended old) parts

-- a call that goes on after some bytes were appended
pub front_then : {T E : Type 0} (result : Result T E) (old mid new : Option (List ℕ)) (xs ys : List ℕ) → mid ≡ appended old xs → OnErr result (AppendsFront mid new ys) → OnErr result (AppendsFront old new (xs ++ ys))
front_then (Ok _) old mid new xs ys first front = tt
front_then (Err _) old mid new xs ys first front = front_after old mid new xs ys first front
