-- What a call that changes actors and events, or takes quads, leaves of the sheet: all of it.
use Rattle.std.proofs.Common.{◌≡◌, ◌+◌, List, Some, sym, ◌∙◌, subst}
use Rattle.std.specs.Prelude.{slice_get}
use Rattle.cap_words.specs.declared.word.Quad.{Quad}
use Rattle.cap_words.specs.declared.word.Tag.{Tag}
use Rattle.cap_words.specs.declared.word.Tag.TheVariants.{SponsorHeld, SponsorSpent}
use Rattle.cap_words.specs.Words.{W, Cap}
use Rattle.cap_words.specs.Store.{Store, opaque_cell, cap_place}
use Rattle.cap_words.specs.Frame.{Among, Framed}
use Rattle.cap_words.proofs.Stores.{opaque_twice}
use Rattle.cap_words.proofs.Tags.{tagged_twice}
use Rattle.quad_memory.proofs.Typed.{Sponsor, sponsor, sponsor-quads, sponsor-framed}
use Rattle.instr_table.specs.Sheet.{Account}
use Rattle.vm_sponsor.specs.Ledger.{Ledger}
use Rattle.vm_sponsor.specs.Totals.{IsSound}
use Rattle.vm_sponsor.specs.Sheets.{sheet_of, IsThere, Belongs}
use Rattle.vm_sponsor.proofs.Rows.{sheet-same}

-- the word names a quad that was taken for something else than a sponsor
pub record Aside (s : Store) (w : W) : Type 0 where
  pub tag : Tag
  pub words : Quad
  pub there : opaque_cell s tag w ≡ Some words
  pub not_held : tag ≡ SponsorHeld → ⊥
  pub not_spent : tag ≡ SponsorSpent → ⊥

-- a frame of such words has neither quad of a sponsor
first_aside : (s : Store) (ws : List W) (w : W) → ((v : W) → Among v ws → Aside s v) → IsThere s w → Among w ws → ⊥
first_aside s ws w o j i =
    let a = o w i in
    let q = sponsor-quads s w j.0 j.1 in
    a.not_held (opaque_twice s a.tag SponsorHeld w a.words q.0 a.there q.2)

second_aside : (s : Store) (ws : List W) (w : W) → ((v : W) → Among v ws → Aside s v) → IsThere s w → Among (Cap (cap_place w + 1)) ws → ⊥
second_aside s ws w o j i =
    let a = o (Cap (cap_place w + 1)) i in
    let k : Sponsor s w = sponsor s w j.0 j.1 in
    a.not_spent (tagged_twice a.tag SponsorSpent (slice_get s.ram (cap_place w + 1)) a.words k.spent a.there k.spent_is)

-- so the plain sheet is the same, and the sheet still belongs
pub sheet-framed : (s t : Store) (ws : List W) (sheet : Ledger) → Belongs s sheet → Framed s t ws → ((v : W) → Among v ws → Aside s v) → sheet_of t sheet.rows ≡ sheet_of s sheet.rows
sheet-framed s t ws sheet b f o = sheet-same s t sheet.rows (λ w i.
    let j = b.there w i in
    sponsor-framed s t ws w j.0 f (first_aside s ws w o j) (second_aside s ws w o j) j.1 ∙ sym j.1)

pub belongs-framed : (s t : Store) (ws : List W) (sheet : Ledger) → Belongs s sheet → Framed s t ws → ((v : W) → Among v ws → Aside s v) → Belongs t sheet
belongs-framed s t ws sheet b f o = record {
  apart = b.apart;
  there = λ w i. let j = b.there w i in (j.0, sponsor-framed s t ws w j.0 f (first_aside s ws w o j) (second_aside s ws w o j) j.1, j.2);
  sound = subst (λ (l : List Account). IsSound sheet.transfers l) (sym (sheet-framed s t ws sheet b f o)) b.sound;
}
