-- What is told of a text.
use Rattle.std.proofs.Common.{◌≡◌, ℕ, ◌+◌, ◌<◌, ◌≤◌, List, [], ◌∷◌, ◌++◌, length, Option, Some, None, MatchOption, IfSome, refl, sym, subst, ⊎_elim, arith}
use Rattle.std.proofs.lemmas.List.{length-replicate}
use lib.ListN.{replicate}
use Rattle.std.specs.Prelude.{Err, IsErrOf, ◌⊎◌}
use Rattle.hum_outside.specs.Outside.{Files, told}
use Rattle.hum_outside.specs.declared.calls.ReadError.{ReadError}
use Rattle.hum_outside.specs.declared.calls.ReadError.TheVariants as read
use Rattle.hum_command.specs.Texts.{IsText, HaveTexts, AreTold}

longer : (n : ℕ) → (text : List ℕ) × (n < length text)
longer n = (replicate (n + 1) 0, omega (arith, length-replicate {A = ℕ} (n + 1) 0))

-- a file that is read to be too long has such a text, as far as it is told
pub told_longer : (limit : ℕ) (file : Option (Option (List ℕ))) → ((bytes : List ℕ) → file ≡ Some (Some bytes) → limit < length bytes)
    → (file ≡ Some None → ⊥) → (text : List ℕ) × IsText file text × (limit < length text)
told_longer limit None is absent = let witness = longer limit in (witness.0, tt, witness.1)
told_longer limit (Some None) is absent = absurd (absent refl)
told_longer limit (Some (Some bytes)) is absent = (bytes, refl, is bytes refl)

pub text_of : (file : Option (Option (List ℕ))) (bytes text : List ℕ) → file ≡ Some (Some bytes) → IsText file text → text ≡ bytes
text_of None bytes text is p = absurd (cc)
text_of (Some None) bytes text is p = absurd (cc)
text_of (Some (Some other)) bytes text is p = let same : other ≡ bytes = cc in cc

pub told_there : (files : Option Files) (before after texts : List (List ℕ)) (name : List ℕ) → AreTold files (before ++ name ∷ after) texts
    → told files name ≡ Some None → ⊥
told_there files [] after [] name are none = absurd are
told_there files [] after (text ∷ texts) name are none = let is : told files name ≡ Some (Some text) = are.0 in cc
told_there files (other ∷ before) after [] name are none = absurd are
told_there files (other ∷ before) after (text ∷ texts) name are none = told_there files before after texts name are.1 none

pub same_texts : (files : Option Files) (names texts others : List (List ℕ)) → AreTold files names texts → HaveTexts files names others → others ≡ texts
same_texts files [] [] [] are have = refl
same_texts files [] (text ∷ texts) others are have = absurd are
same_texts files (name ∷ names) [] others are have = absurd are
same_texts files [] [] (other ∷ others) are have = absurd have
same_texts files (name ∷ names) (text ∷ texts) [] are have = absurd have
same_texts files (name ∷ names) (text ∷ texts) (other ∷ others) are have =
    let first : other ≡ text = text_of (told files name) text other are.0 have.0 in
    let more : others ≡ texts = same_texts files names texts others are.1 have.1 in cc

-- a file that is read to be too long was read
pub not_absent : (why : ReadError) → why ≡ read.TooLong → {T : Type 0} → IsErrOf {T = T} (Err why) read.Failed ⊎ IsErrOf {T = T} (Err why) read.NoMemory → ⊥
not_absent why is other = ⊎_elim (λ f. cc) (λ f. cc) other

-- what was read within a limit has no more bytes
pub read_within : {V : Type 0} (items : V → List ℕ) (limit : ℕ) (text : List ℕ) (read : Option V)
    → MatchOption read (limit < length text) (λ v. (items v ≡ text) × (length text ≤ limit)) → IfSome read (λ v. length (items v) ≤ limit)
read_within items limit text None m = tt
read_within items limit text (Some v) m = subst (λ (t : List ℕ). length t ≤ limit) (sym m.0) m.1
