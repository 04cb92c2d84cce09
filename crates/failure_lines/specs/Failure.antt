-- The line of an event that failed.
use Rattle.std.specs.Prelude.{ℕ, pos, ℤ, if◌then◌else◌, List, [], ◌∷◌, ◌++◌, codes, decimal, Option, None, Some}
use Rattle.std.specs.Fmt.{signed_decimal}
use Rattle.std.specs.Ordering.{int_eq}
use Rattle.std.specs.List.{concat}
use Rattle.cap_words.specs.Words.{W, number_of}

-- what the reasons are called that have a name: those of programs, and those of the machine
abbrev pub name_of : ℤ → Option (List ℕ)
name_of n =
    if int_eq n (pos 1) then Some (codes "no match") else
    if int_eq n (pos 2) then Some (codes "not a function") else
    if int_eq n (pos 3) then Some (codes "not an actor") else
    if int_eq n (pos 4) then Some (codes "not a number") else
    if int_eq n (pos 5) then Some (codes "not a truth value") else
    if int_eq n (pos 6) then Some (codes "second become") else
    if int_eq n (pos 7) then Some (codes "thrown") else
    if int_eq n (pos 8) then Some (codes "device refused") else
    if int_eq n (pos 16) then Some (codes "bad instruction") else
    if int_eq n (pos 17) then Some (codes "assertion failed") else
    if int_eq n (pos 18) then Some (codes "not fresh") else
    if int_eq n (pos 19) then Some (codes "not a sponsor") else
    if int_eq n (pos 20) then Some (codes "short") else
    if int_eq n (pos 21) then Some (codes "stopped") else
    if int_eq n (pos 22) then Some (codes "running") else
    None

-- a number without a name is told as a code
abbrev pub code_text : ℤ → List ℕ
code_text n = codes "code " ++ signed_decimal n

abbrev pub name_or_code : ℤ → Option (List ℕ) → List ℕ
name_or_code n (Some name) = name
name_or_code n None = code_text n

-- a word that is no number tells nothing
abbrev pub number_text : Option ℤ → List ℕ
number_text (Some n) = name_or_code n (name_of n)
number_text None = codes "aborted"

-- the text of a reason
abbrev pub failure_text : W → List ℕ
failure_text w = number_text (number_of w)

-- the line of an event that failed, with that text
abbrev pub line_with : ℕ → List ℕ → List ℕ
line_with message text = concat (codes "event " ∷ decimal message ∷ codes " failed: " ∷ text ∷ codes "\n" ∷ [])

-- the line of an event that failed for that reason
abbrev pub failure_line : ℕ → W → List ℕ
failure_line message reason = line_with message (failure_text reason)
