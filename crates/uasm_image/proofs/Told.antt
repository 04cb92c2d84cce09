-- What reading exactly gives, in the words of the contract.
use Rattle.std.proofs.Common.{◌≡◌, ℕ, zero, suc, ◌<◌, List, [], ◌∷◌, Result, Ok, Err, arith, ◌⊎◌, inl, inr, refl, sym, ap, subst, ◌∙◌}
use Rattle.std.specs.Prelude.{IfOk, MatchResult}
use Rattle.std.specs.List.{AllByRecursion}
use Rattle.quad_memory.specs.Image.{RomImage}
use Rattle.uasm_image.specs.declared.error.ImageRefused.{ImageRefused}
use Rattle.uasm_image.specs.declared.error.ImageCause.{ImageCause}
use Rattle.uasm_image.specs.declared.error.DecodeError.{DecodeError}
use Rattle.uasm_image.specs.declared.error.DecodeError.TheVariants.{NoMemory, Refused}
use Rattle.uasm_image.specs.Spelled.{spelled, IsImage}
use Rattle.uasm_image.specs.Reading.{Gives, read}
use Rattle.uasm_image.specs.Refused.{IsRefusedAt}
use Rattle.uasm_image.proofs.Steps.{IsBytes, ok_is, err_no_ok}
use Rattle.uasm_image.proofs.Whole.{read_ok}
use Rattle.uasm_image.proofs.Again.{read_again}
use Rattle.uasm_image.proofs.Faults.{read_err}
use Rattle.uasm_image.proofs.Once.{faultless, one_fault}

pub is_image : (bytes : List ℕ) (r : Result RomImage DecodeError) → IsBytes bytes → Gives (λ i. i) r (read bytes)
    → IfOk r (λ i. IsImage i × (bytes ≡ spelled i))
is_image bytes (Ok i) fits given = let w = read_ok bytes i fits given in (w.image, w.same)
is_image bytes (Err e) fits given = tt

pub is_only : (bytes : List ℕ) (r : Result RomImage DecodeError) (i : RomImage) → IsImage i → bytes ≡ spelled i → Gives (λ j. j) r (read bytes)
    → MatchResult r (λ found. found ≡ i) (λ e. e ≡ NoMemory)
is_only bytes (Ok j) i good same given = ok_is j i (sym given ∙ ap read same ∙ read_again i good)
is_only bytes (Err NoMemory) i good same given = refl
is_only bytes (Err (Refused why)) i good same given = err_no_ok i why (sym given ∙ ap read same ∙ read_again i good)

pub is_refused : (bytes : List ℕ) (r : Result RomImage DecodeError) (at : ℕ) (cause : ImageCause) → IsBytes bytes
    → r ≡ Err (Refused (record { at = at; cause = cause })) → Gives (λ i. i) r (read bytes) → IsRefusedAt bytes at cause
is_refused bytes r at cause fits is given =
    let told : read bytes ≡ Err (record { at = at; cause = cause }) =
    subst (λ (x : Result RomImage DecodeError). Gives (λ i. i) x (read bytes)) is given in
    read_err bytes (record { at = at; cause = cause }) fits told

pub is_faulty : (bytes : List ℕ) (r : Result RomImage DecodeError) (at : ℕ) (cause : ImageCause) → IsBytes bytes → IsRefusedAt bytes at cause
    → Gives (λ i. i) r (read bytes)
    → MatchResult r (λ _. ⊥) (λ e. (e ≡ NoMemory) ⊎ (e ≡ Refused (record { at = at; cause = cause })))
is_faulty bytes (Ok i) at cause fits fault given =
    let w = read_ok bytes i fits given in
    faultless i at cause w.image (subst (λ (b : List ℕ). IsRefusedAt b at cause) w.same fault)
is_faulty bytes (Err NoMemory) at cause fits fault given = inl refl
is_faulty bytes (Err (Refused why)) at cause fits fault given =
    let one = one_fault bytes why.at at why.cause cause (read_err bytes why fits given) fault in
    inr (λ k. Refused (record { at = one.0 k; cause = one.1 k }))

all_bytes : (bytes : List ℕ) → AllByRecursion (λ b. b < 256) bytes → IsBytes bytes
all_bytes [] fits i = omega arith
all_bytes (b ∷ bytes) fits zero = fits.0
all_bytes (b ∷ bytes) fits (suc i) = all_bytes bytes fits.1 i

image_or_fault : (bytes : List ℕ) (r : Result RomImage ImageRefused) → IsBytes bytes → read bytes ≡ r
    → ((i : RomImage) × IsImage i × (bytes ≡ spelled i)) ⊎ ((at : ℕ) × (cause : ImageCause) × IsRefusedAt bytes at cause)
image_or_fault bytes (Ok i) fits e = let w = read_ok bytes i fits e in inl (i, w.image, w.same)
image_or_fault bytes (Err why) fits e = inr (why.at, why.cause, read_err bytes why fits e)

pub some_fault : (bytes : List ℕ) → AllByRecursion (λ b. b < 256) bytes
    → ((i : RomImage) × IsImage i × (bytes ≡ spelled i)) ⊎ ((at : ℕ) × (cause : ImageCause) × IsRefusedAt bytes at cause)
some_fault bytes fits = image_or_fault bytes (read bytes) (all_bytes bytes fits) refl
