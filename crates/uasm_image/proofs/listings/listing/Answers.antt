use Rattle.std.proofs.Common.{◌≡◌, true, false, List, [], ◌∷◌, ◌++◌, get_or, sym, ap, ◌∙◌, subst}
use Rattle.std.specs.List.{list_all}
use Rattle.cap_words.specs.declared.word.Quad.{Quad}
use Rattle.quad_memory.specs.Image.{is_image}
use Rattle.uasm_read.specs.Texts.{Name}
use Rattle.uasm_read.specs.Modules.{is_module}
use Rattle.uasm_read.specs.Links.{Linked}
use Rattle.uasm_image.specs.Spelled.{is_exact_quad, IsImage}
use Rattle.uasm_image.specs.Listed.{listing_of}
use Rattle.uasm_image.proofs.ListedModules.{made_items, made_module, links_back}
use Rattle.uasm_image.proofs.listings.listing.Goals as goal
use Rattle.uasm_image.proofs.listings.listing.Goals.{After-from_vec-3}

-- the image is one whose numbers are in range
image_is : (c : After-from_vec-3) → IsImage c.args.image.now
image_is c =
    let i = c.args.image.now in
    record {
      rules = subst (λ (qs : List Quad). is_image i.boot qs ≡ true) c.cells-cells.ensures.value c.cells-cells.ensures.is_image;
      exact = subst (λ (qs : List Quad). list_all is_exact_quad qs ≡ true) c.cells-cells.ensures.value c.in_ok-named.ensures.exact;
    }

module_is : (c : After-from_vec-3) → record { imports = c.from_vec.result; exports = c.from_vec-2.result; items = c.from_vec-3.result }
    ≡ listing_of c.args.image.now
module_is c =
    let i = c.args.image.now in
    made_module i c.from_vec.result c.from_vec-2.result c.from_vec-3.result
    (c.from_vec.ensures ∙ c.new.ensures.items)
    (c.from_vec-2.ensures ∙ c.in_ok-push.ensures.items ∙ ap (λ (names : List Name). names
    ++ c.in_ok-boot_label.field-0 ∷ []) c.new-exports.ensures.items
    ∙ ap (λ (name : Name). name ∷ []) c.in_ok-boot_label.ensures)
    (c.from_vec-3.ensures ∙ c.in_ok-items.ensures
    ∙ made_items i c.boot.result c.cells-cells.result.now c.deref.result.now c.boot.ensures.value c.cells-cells.ensures.value
    (λ k below. ap (λ bs. get_or bs k false) c.deref.ensures.value ∙ c.in_ok-named.ensures.named k below))

pub from_parts-requires : goal.from_parts-requires
from_parts-requires c = subst (λ m. is_module m ≡ true) (sym (module_is c)) (c.listings_are_modules.ensures c.args.image.now (image_is c))

pub returns-clause-value : goal.returns-clause-value
returns-clause-value c = c.from_parts.ensures ∙ module_is (goal.at.returns-clause-value c).After-from_vec-3

pub returns-clause-links : goal.returns-clause-links
returns-clause-links c =
    let made = (goal.at.returns-clause-links c).After-from_vec-3 in
    subst (λ m. Linked (m ∷ []) c.args.image.now.boot c.args.image.now.cells) (sym (c.from_parts.ensures ∙ module_is made))
    (links_back c.args.image.now (image_is made))
