-- Texts stand for themselves, and devices write the same for values that are alike.
use Rattle.std.proofs.Common.{◌≡◌, refl, ap, ◌∙◌, ℕ, zero, suc, ◌+◌, Bool, true, false, List, [], ◌∷◌, ◌++◌, Option, Some, None}
use Rattle.std.specs.Prelude.{option_map, nat_le, codes, if◌then◌else◌}
use Rattle.hum_meaning.specs.Value.{Parts, Atom, Undefined, Nil, Truth, Number, Symbol, Actor, Value, Plain, text_value}
use Rattle.hum_meaning.specs.Piece.{text_of, leaves, most_leaves, spoken, speech, line, device_text, piece}
use Rattle.hum_core.specs.Alike.{Reading, ConstantAs, Alike, plain_as, pair_as, function_as, block_as, primitive_as}

-- a text stands for itself
pub text_same : (L K : Parts) (points : List ℕ) → ConstantAs {L = L} {K = K} (text_value points) (text_value points)
text_same L K [] = refl
text_same L K (c ∷ points) = (refl, text_same L K points)

module _ {L K : Parts} (r : Reading L K) where
  text_as : (inside : Bool) {v : Value L} {w : Value K} → Alike r v w → text_of inside v ≡ text_of inside w
  text_as inside (plain_as a) = refl
  text_as false (pair_as {a = a} {b = b} {c = c} {d = d} h k) =
      ap (λ x. codes "(" ++ x ++ codes ", " ++ text_of true b ++ codes ")") (text_as false h) ∙ ap (λ y. codes "(" ++ text_of false c ++ codes ", " ++ y ++ codes ")") (text_as true k)
  text_as true (pair_as {a = a} {b = b} {c = c} {d = d} h k) =
      ap (λ x. x ++ codes ", " ++ text_of true b) (text_as false h) ∙ ap (λ y. text_of false c ++ codes ", " ++ y) (text_as true k)
  text_as inside (function_as c a) = refl
  text_as inside (block_as c a) = refl
  text_as inside (primitive_as b) = refl

  leaves_as : {v : Value L} {w : Value K} → Alike r v w → leaves v ≡ leaves w
  leaves_as (pair_as {a = a} {b = b} {c = c} {d = d} h k) = ap (λ x. x + leaves b) (leaves_as h) ∙ ap (λ y. leaves c + y) (leaves_as k)
  leaves_as (plain_as a) = refl
  leaves_as (function_as c a) = refl
  leaves_as (block_as c a) = refl
  leaves_as (primitive_as b) = refl

  spoken_as : {v : Value L} {w : Value K} (rest : Option (List ℕ)) → Alike r v w → spoken v rest ≡ spoken w rest
  spoken_as rest (plain_as a) = spoken_atom a
    where
      spoken_atom : (a : Atom) → spoken {L = L} (Plain a) rest ≡ spoken {L = K} (Plain a) rest
      spoken_atom Undefined = refl
      spoken_atom Nil = refl
      spoken_atom (Truth b) = refl
      spoken_atom (Number n) = refl
      spoken_atom (Symbol name) = refl
      spoken_atom (Actor n) = refl
  spoken_as rest (pair_as h k) = refl
  spoken_as rest (function_as c a) = refl
  spoken_as rest (block_as c a) = refl
  spoken_as rest (primitive_as b) = refl

  speech_as : {v : Value L} {w : Value K} → Alike r v w → speech v ≡ speech w
  speech_as (pair_as {a = a} {b = b} {c = c} {d = d} h k) = spoken_as (speech b) h ∙ ap (λ y. spoken c y) (speech_as k)
  speech_as (plain_as a) = speech_atom a
    where
      speech_atom : (a : Atom) → speech {L = L} (Plain a) ≡ speech {L = K} (Plain a)
      speech_atom Undefined = refl
      speech_atom Nil = refl
      speech_atom (Truth b) = refl
      speech_atom (Number n) = refl
      speech_atom (Symbol name) = refl
      speech_atom (Actor n) = refl
  speech_as (function_as c a) = refl
  speech_as (block_as c a) = refl
  speech_as (primitive_as b) = refl

  device_as : (n : ℕ) {v : Value L} {w : Value K} → Alike r v w → device_text n v ≡ device_text n w
  device_as zero h = ap (λ x. Some x) (text_as false h)
  device_as (suc zero) h = speech_as h
  device_as (suc (suc n)) h = refl

  pub piece_as : (n : ℕ) {v : Value L} {w : Value K} → Alike r v w → piece n v ≡ piece n w
  unfolding piece
  piece_as n {v} {w} h =
      ap (λ k. if nat_le k most_leaves then option_map line (device_text n v) else None) (leaves_as h)
      ∙ ap (λ t. if nat_le (leaves w) most_leaves then option_map line t else None) (device_as n h)
