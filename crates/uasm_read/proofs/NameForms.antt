-- Names of assembly are names of the machine's words.
use Rattle.std.proofs.Common.{◌≡◌, ℕ, true, false, List, [], ◌∷◌, length, refl}
use Rattle.std.specs.Prelude.{◌&&◌, nat_le}
use Rattle.std.specs.List.{list_all}
use Rattle.std.proofs.lemmas.Bool.{and_parts, and_from, or_left}
use Rattle.cap_words.specs.Text as words
use Rattle.uasm_read.specs.Texts.{is_name, is_letter, is_name_byte}
use borrow.Author.Tests.{tests}
use Rattle.std.proofs.Common.{rules}

name_byte_visible : (b : ℕ) → is_name_byte b ≡ true → words.is_visible b ≡ true
name_byte_visible b h = search (rules, tests)

all_visible : (bs : List ℕ) → list_all is_name_byte bs ≡ true → list_all words.is_visible bs ≡ true
all_visible [] h = refl
all_visible (b ∷ bs) h =
    let parts = and_parts (is_name_byte b) (list_all is_name_byte bs) h in
    and_from (words.is_visible b) _ (name_byte_visible b parts.0) (all_visible bs parts.1)

-- a name of assembly is one
pub name_visible : (bs : List ℕ) → is_name bs ≡ true → words.is_name bs ≡ true
unfolding is_name
name_visible [] h = absurd (let e : false ≡ true = h in cc)
name_visible (b ∷ bs) h =
    let parts = and_parts (is_letter b && list_all is_name_byte bs) _ h in
    let more = and_parts (is_letter b) _ parts.0 in
    let each : list_all is_name_byte (b ∷ bs) ≡ true = and_from (is_name_byte b) _ (or_left (is_letter b) _ more.0) more.1 in
    and_from (nat_le 1 (length (b ∷ bs)) && nat_le (length (b ∷ bs)) 128) _ (and_from (nat_le 1 (length (b ∷ bs))) _ (let e : nat_le 1 (length (b ∷ bs)) ≡ true = search (rules, tests) in e) parts.1) (all_visible (b ∷ bs) each)
