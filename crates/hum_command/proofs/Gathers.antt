-- Reading files one after another.
use Rattle.std.proofs.Common.{◌≡◌, ◌∙◌, ℕ, ◌<◌, ◌≤◌, List, [], ◌∷◌, ◌++◌, length, Option, Some, Result, Ok, Err, refl, sym, ap, subst, inl, inr, ⊎_elim, append_assoc, append-nil, arith}
use Rattle.std.proofs.lemmas.Bool.{cond-true, lt-ltb}
use Rattle.hum_outside.specs.Outside.{Files, told, Rose}
use Rattle.uasm_read.specs.declared.error.UasmRefused.{UasmRefused}
use Rattle.uasm_read.specs.declared.error.UasmCause.TheVariants as cause
use Rattle.uasm_read.specs.Modules.{ModuleParts}
use Rattle.uasm_read.specs.Assembles.{assembled, text_limit}
use Rattle.hum_command.specs.Texts.{IsText, HaveTexts, IsNext, FileFails}
use Rattle.hum_command.specs.Link.{BadText, both, of_file, modules_of}
use Rattle.hum_command.specs.LinkParts.{ReadsAs, ReadTo, LinkFails}
use Rattle.hum_command.specs.declared.answer.Answer.{Answer}
use Rattle.hum_command.specs.declared.answer.Answer.TheVariants.{Unread, NoMemory}

-- ---- lists read in two parts

pub both-assoc : {A E : Type 0} (a b c : Result (List A) E) → both (both a b) c ≡ both a (both b c)
both-assoc (Err e) b c = refl
both-assoc (Ok xs) (Err e) c = refl
both-assoc (Ok xs) (Ok ys) (Err e) = refl
both-assoc (Ok xs) (Ok ys) (Ok zs) = ap Ok (append_assoc xs ys zs)

both-start : {A E : Type 0} (a : Result (List A) E) → both (Ok []) a ≡ a
both-start (Err e) = refl
both-start (Ok xs) = refl

both-end : {A E : Type 0} (a : Result (List A) E) → both a (Ok []) ≡ a
both-end (Err e) = refl
both-end (Ok xs) = ap Ok (append-nil xs)

-- ---- a text that is too long

long : (text : List ℕ) → text_limit < length text → Err (record { line = 1; cause = cause.TooLong }) ≡ assembled (Some text_limit) text
long text more = sym (cond-true _ _ _ (lt-ltb text_limit (length text) more))

pub read_long : (file : Option (Option (List ℕ))) (text : List ℕ) → IsText file text → text_limit < length text
    → ReadsAs file (Err (record { line = 1; cause = cause.TooLong }))
read_long file text is more = (text, is, long text more)

-- ---- the files in order

-- of these files, whose names end with the rest, those before the rest were read as this
pub record Gathers (files : Option Files) (names rest : List (List ℕ)) (so_far : Result (List ModuleParts) BadText) : Type 0 where
  pub more : (texts : List (List ℕ)) → HaveTexts files rest texts
      → (all : List (List ℕ)) × HaveTexts files names all × (modules_of names all ≡ both so_far (modules_of rest texts))
  pub before : List (List ℕ)
  pub split : names ≡ before ++ rest
  pub texts : List (List ℕ)
  pub have : HaveTexts files before texts

pub gathers-start : (files : Option Files) (names : List (List ℕ)) → Gathers files names names (Ok [])
gathers-start files names = record {
  more = λ texts have. (texts, have, sym (both-start (modules_of names texts)));
  before = [];
  split = refl;
  texts = [];
  have = tt;
}

have-more : (files : Option Files) (names texts : List (List ℕ)) (name text : List ℕ) → HaveTexts files names texts → IsText (told files name) text
    → HaveTexts files (names ++ name ∷ []) (texts ++ text ∷ [])
have-more files [] [] name text have is = (is, tt)
have-more files [] (other ∷ texts) name text have is = absurd have
have-more files (other ∷ names) [] name text have is = absurd have
have-more files (other ∷ names) (first ∷ texts) name text have is = (have.0, have-more files names texts name text have.1 is)

pub gathers-next : {files : Option Files} {names rest : List (List ℕ)} {so_far : Result (List ModuleParts) BadText}
    (name : List ℕ) (read : Result ModuleParts UasmRefused) → Gathers files names (name ∷ rest) so_far → ReadsAs (told files name) read
    → Gathers files names rest (both so_far (of_file name read))
gathers-next {files} {names} {rest} {so_far} name read gathers is = record {
  more = λ texts have.
      let all = gathers.more (is.0 ∷ texts) (is.1, have) in (
        all.0,
        all.1,
        all.2 ∙ sym (both-assoc so_far (of_file name (assembled (Some text_limit) is.0)) (modules_of rest texts))
            ∙ ap (λ (r : Result ModuleParts UasmRefused). both (both so_far (of_file name r)) (modules_of rest texts)) (sym is.2),
      );
  before = gathers.before ++ name ∷ [];
  split = gathers.split ∙ sym (append_assoc gathers.before (name ∷ []) rest);
  texts = gathers.texts ++ is.0 ∷ [];
  have = have-more files gathers.before gathers.texts name is.0 gathers.have is.1;
}

pub gathers-end : {files : Option Files} {names : List (List ℕ)} {so_far : Result (List ModuleParts) BadText}
    → Gathers files names [] so_far → ReadTo files names so_far
gathers-end {so_far = so_far} gathers = let all = gathers.more [] tt in (all.0, all.1, sym (all.2 ∙ both-end so_far))

-- no file was read
pub gathers-none : (files : Option Files) (names : List (List ℕ)) (modules : List ModuleParts) → modules ≡ [] → Gathers files names names (Ok modules)
gathers-none files names modules none = subst (λ (ms : List ModuleParts). Gathers files names names (Ok ms)) (sym none) (gathers-start files names)

-- ---- a file that was not read

pub rose-later : (before mid now : ℕ) → before ≤ mid → Rose mid now → Rose before now
rose-later before mid now later rose = omega (arith, later, rose)

-- the file that the rest begins with is the next
pub gathers-next_file : {files : Option Files} {names rest : List (List ℕ)} {so_far : Result (List ModuleParts) BadText}
    (name : List ℕ) (more : List (List ℕ)) → rest ≡ name ∷ more → Gathers files names rest so_far → IsNext files names name
gathers-next_file name more split gathers = record {
  before = gathers.before;
  after = more;
  split = gathers.split ∙ ap (λ (ns : List (List ℕ)). gathers.before ++ ns) split;
  texts = gathers.texts;
  have = gathers.have;
}

pub not_read : (files : Option Files) (before mid now : ℕ) (names : List (List ℕ)) (answer : Answer) (name : List ℕ) → before ≤ mid → IsNext files names name
    → FileFails mid now (told files name) answer → LinkFails files before now names answer name
not_read files before mid now names Unread name later next fails =
    (next, ⊎_elim (λ rose. inl (rose-later before mid now later rose)) (λ none. inr none) fails)
not_read files before mid now names NoMemory name later next fails = tt
not_read files before mid now names answer name later next fails = absurd fails

-- the file that the rest begins with was not read
pub next-not_read : (files : Option Files) (before mid now : ℕ) (names rest more : List (List ℕ)) (so_far : Result (List ModuleParts) BadText) (answer : Answer)
    (name given : List ℕ) (file : Option (Option (List ℕ))) → before ≤ mid → rest ≡ name ∷ more → Gathers files names rest so_far
    → file ≡ told files name → given ≡ name → FileFails mid now file answer → LinkFails files before now names answer given
next-not_read files before mid now names rest more so_far answer name given file later split gathers same called fails =
    subst (λ (n : List ℕ). LinkFails files before now names answer n) (sym called)
    (not_read files before mid now names answer name later (gathers-next_file name more split gathers) (subst (λ (f : Option (Option (List ℕ))). FileFails mid now f answer) same fails))

-- ---- one step of the walk

pub gathers-step : (files : Option Files) (names rest more : List (List ℕ)) (so_far next : Result (List ModuleParts) BadText) (name given : List ℕ)
    (file : Option (Option (List ℕ))) (read : Result ModuleParts UasmRefused) → rest ≡ name ∷ more → Gathers files names rest so_far
    → ReadsAs file read → file ≡ told files name → given ≡ name → next ≡ both so_far (of_file given read) → Gathers files names more next
gathers-step files names rest more so_far next name given file read split gathers is same called gathered =
    subst (λ (r : Result (List ModuleParts) BadText). Gathers files names more r) (sym (gathered ∙ ap (λ (n : List ℕ). both so_far (of_file n read)) called))
    (gathers-next name read (subst (λ (ns : List (List ℕ)). Gathers files names ns so_far) split gathers) (subst (λ (f : Option (Option (List ℕ))). ReadsAs f read) same is))

pub gathers-last : (files : Option Files) (names rest : List (List ℕ)) (so_far : Result (List ModuleParts) BadText) → rest ≡ []
    → Gathers files names rest so_far → ReadTo files names so_far
gathers-last files names rest so_far none gathers = gathers-end (subst (λ (ns : List (List ℕ)). Gathers files names ns so_far) none gathers)
