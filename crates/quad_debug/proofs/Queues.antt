-- A walk over the ready numbers, and the lines that it writes.
use Rattle.std.proofs.Common.{◌≡◌, ℕ, zero, suc, ◌+◌, ◌-◌, ◌<◌, List, [], ◌∷◌, ◌++◌, length, take, get_or, Option, Some, None, refl, sym, ap, ◌∙◌, subst, arith}
use Rattle.std.specs.Prelude.{slice_get}
use Rattle.std.specs.List.{flat_map}
use Rattle.std.proofs.lemmas.Option.{get_or_from_slice_get, slice_get_within}
use Rattle.hum_outside.specs.Outside.{AppendsFront, appended}
use Rattle.hum_outside.proofs.Fronts.{pieces_more, pieces_front}
use Rattle.event_queue.specs.Pending.{IsAscending}
use Rattle.event_queue.proofs.Ascending.{ascending-at, ascending-rises}
use Rattle.uasm_read.specs.Texts.{Bytes}
use Rattle.quad_debug.specs.Texts.{ready_line}

-- the next number is that at a place, and the lines of those before were written
pub record Walks (ready : List ℕ) (next : Option ℕ) (old now : Option Bytes) : Type 0 where
  pub place : ℕ
  pub at : next ≡ slice_get ready place
  pub so_far : now ≡ appended old (flat_map ready_line (take place ready))

-- how many numbers may be left
abbrev pub left : Option ℕ → ℕ → ℕ
left None high = 0
left (Some n) high = suc (high - n)

appended-none : (o : Option Bytes) → o ≡ appended o []
appended-none None = refl
appended-none (Some bytes) = ap Some (nil bytes)
  where
    nil : (l : Bytes) → l ≡ l ++ []
    nil [] = refl
    nil (x ∷ l) = ap (λ (m : Bytes). x ∷ m) (nil l)

pub walks-none : (ready : List ℕ) (next : Option ℕ) (out : Option Bytes) → next ≡ slice_get ready 0 → Walks ready next out out
walks-none ready next out at = record { place = 0; at = at; so_far = appended-none out }

module _ (ready : List ℕ) (message : ℕ) (next : Option ℕ) (old now new : Option Bytes) (w : Walks ready (Some message) old now) where
  within : w.place < length ready
  within = slice_get_within ready w.place message (sym w.at)

  is_at : get_or ready w.place 0 ≡ message
  is_at = get_or_from_slice_get ready w.place message 0 (sym w.at)

  pub walks-more : new ≡ appended now (ready_line message) → next ≡ slice_get ready (w.place + 1) → Walks ready next old new
  walks-more line at = record {
    place = w.place + 1;
    at = at;
    so_far = pieces_more ready_line ready w.place 0 within old now new w.so_far (line ∙ ap (λ (n : ℕ). appended now (ready_line n)) (sym is_at));
  }

  pub walks-front : AppendsFront now new (ready_line message) → AppendsFront old new (flat_map ready_line ready)
  walks-front front = pieces_front ready_line ready w.place 0 within old now new w.so_far (subst (λ (n : ℕ). AppendsFront now new (ready_line n)) (sym is_at) front)

  -- the walk ends
  pub walks-less : (high : ℕ) → IsAscending 0 high ready → next ≡ slice_get ready (w.place + 1) → left next high < left (Some message) high
  walks-less high ascends at = by next at
    where
      by : (o : Option ℕ) → o ≡ slice_get ready (w.place + 1) → left o high < left (Some message) high
      by None h = omega arith
      by (Some n) h =
          let far : w.place + 1 < length ready = slice_get_within ready (w.place + 1) n (sym h) in
          let there : get_or ready (w.place + 1) 0 ≡ n = get_or_from_slice_get ready (w.place + 1) n 0 (sym h) in
          let rises = ascending-rises 0 high ready w.place (w.place + 1) 0 ascends (omega arith) far in
          let top = (ascending-at 0 high ready (w.place + 1) 0 ascends far).1 in
          omega (arith, is_at, there, rises, top)

take-whole : (n : ℕ) (ready : List ℕ) → None ≡ slice_get ready n → take n ready ≡ ready
take-whole zero [] h = refl
take-whole (suc n) [] h = refl
take-whole zero (x ∷ ready) h = absurd (some h)
  where
    some : None ≡ Some x → ⊥
    some e = cc
take-whole (suc n) (x ∷ ready) h = ap (λ (l : List ℕ). x ∷ l) (take-whole n ready h)

-- all were written
pub walks-all : (ready : List ℕ) (old now : Option Bytes) → Walks ready None old now → now ≡ appended old (flat_map ready_line ready)
walks-all ready old now w = w.so_far ∙ ap (λ (l : List ℕ). appended old (flat_map ready_line l)) (take-whole w.place ready w.at)
