-- The texts of files.
use Rattle.std.specs.Prelude.{◌≡◌, ◌⊎◌, ℕ, List, [], ◌∷◌, ◌++◌, Option, None, Some}
use Rattle.hum_outside.specs.Outside.{Files, told, Rose}
use Rattle.hum_command.specs.declared.answer.Answer.{Answer}
use Rattle.hum_command.specs.declared.answer.Answer.TheVariants as answer

-- a file is not told to be absent, and if its text is told, it is this one
abbrev pub IsText : Option (Option (List ℕ)) → List ℕ → Type 0
IsText None text = Unit {0}
IsText (Some None) text = ⊥
IsText (Some (Some told)) text = told ≡ text

-- the texts of files, as far as they are told
abbrev pub HaveTexts : Option Files → List (List ℕ) → List (List ℕ) → Type 0
HaveTexts files [] [] = Unit {0}
HaveTexts files (name ∷ names) (text ∷ texts) = IsText (told files name) text × HaveTexts files names texts
HaveTexts files names texts = ⊥

-- the folder tells of each file its text
abbrev pub AreTold : Option Files → List (List ℕ) → List (List ℕ) → Type 0
AreTold files [] [] = Unit {0}
AreTold files (name ∷ names) (text ∷ texts) = (told files name ≡ Some (Some text)) × AreTold files names texts
AreTold files names texts = ⊥

-- files are read in order, and the next is the one of that name: none of those before it is told to be absent
pub record IsNext (files : Option Files) (names : List (List ℕ)) (name : List ℕ) : Type 0 where
  pub before : List (List ℕ)
  pub after : List (List ℕ)
  pub split : names ≡ before ++ name ∷ after
  pub texts : List (List ℕ)
  pub have : HaveTexts files before texts

-- the folder failed, or is told to have no such file
abbrev pub Unreadable : ℕ → ℕ → Option (Option (List ℕ)) → Type 0
Unreadable before now file = Rose before now ⊎ (file ≡ Some None)

-- why a file was not read
abbrev pub FileFails : ℕ → ℕ → Option (Option (List ℕ)) → Answer → Type 0
FileFails before now file answer.Unread = Unreadable before now file
FileFails before now file answer.NoMemory = Unit {0}
FileFails before now file answer = ⊥
