-- What the quads under a word say of its type.
use Rattle.std.proofs.Common.{◌≡◌, Option, Some, None, Bool, true, false, if◌then◌else◌, nat_eq, refl, ap, ◌∙◌}
use Rattle.std.specs.Prelude.{is_some, slice_get, option_map, IsSome}
use Rattle.std.proofs.lemmas.Option.{slice_get-map}
use Rattle.cap_words.specs.declared.word.Quad.{Quad}
use Rattle.cap_words.specs.declared.word.Tag.{Tag}
use Rattle.cap_words.specs.declared.word.Tag.TheVariants.{Ordinary, Actor, Event, SponsorHeld, SponsorSpent}
use Rattle.cap_words.specs.Words.{W, Fix, Rom, Ram, Cap, actor_t, sponsor_t, undef}
use Rattle.cap_words.specs.Store.{Store, Cell, tagged, opaque_cell, spent_cell}
use Rattle.cap_words.specs.Seen.{Seen, Slot, ActorSlot, UnbornSlot, seen, erase, erase_as, erase_actor, cell_seen}
use Rattle.quad_memory.specs.declared.cells.SponsorCell.{SponsorCell}
use Rattle.quad_memory.proofs.Typed.{some}
use Rattle.quad_memory.specs.Cells.{actor_at, actor_in, sponsor_at, sponsor_in}
use Rattle.instr_table.specs.Types.{Shown, Readable, AnActor, ASponsor, look_up, opaque_in, shows_actor, shows_sponsor, is_actor, is_sponsor, type_of, type_in, plain_type}
use Rattle.instr_table.proofs.ShownWords.{shown-read, read-shown}
use Rattle.quad_memory.specs.Memory.{Memory}
use Rattle.vm_sponsor.specs.Ledger.{Ledger}
use Rattle.vm_step.specs.Books.{Books}
use Rattle.vm_step.specs.Whole.{AreWhole}

mapped_none : (o : Option Quad) → shows_actor (option_map Readable o) ≡ false
mapped_none None = refl
mapped_none (Some q) = refl

mapped_none-sponsor : (o : Option Quad) → shows_sponsor (option_map Readable o) ≡ false
mapped_none-sponsor None = refl
mapped_none-sponsor (Some q) = refl

actor_shown : (code state mark : W) → shows_actor (opaque_in (Some (erase_actor code state mark))) ≡ true
actor_shown code state (Fix n) = refl
actor_shown code state (Rom n) = by (nat_eq n 0)
  where
    by : (b : Bool) → shows_actor (opaque_in (Some (if b then ActorSlot code state undef else UnbornSlot))) ≡ true
    by true = refl
    by false = refl
actor_shown code state (Ram n) = refl
actor_shown code state (Cap n) = refl

actor_not_sponsor : (code state mark : W) → shows_sponsor (opaque_in (Some (erase_actor code state mark))) ≡ false
actor_not_sponsor code state (Fix n) = refl
actor_not_sponsor code state (Rom n) = by (nat_eq n 0)
  where
    by : (b : Bool) → shows_sponsor (opaque_in (Some (if b then ActorSlot code state undef else UnbornSlot))) ≡ false
    by true = refl
    by false = refl
actor_not_sponsor code state (Ram n) = refl
actor_not_sponsor code state (Cap n) = refl

actor_tagged : (t : Tag) (q : Quad) → shows_actor (opaque_in (Some (erase_as t q))) ≡ is_some (option_map actor_in (tagged Actor (Some (record { tag = t; words = q }))))
actor_tagged Ordinary q = refl
actor_tagged Actor q = actor_shown q.x q.y q.z
actor_tagged Event q = refl
actor_tagged SponsorHeld q = refl
actor_tagged SponsorSpent q = refl

actor_cell : (o : Option Cell) → shows_actor (opaque_in (option_map erase o)) ≡ is_some (option_map actor_in (tagged Actor o))
actor_cell None = refl
actor_cell (Some c) = actor_tagged c.tag c.words

-- an actor is there
pub actor-there : (s : Store) (w : W) → is_actor (seen s) w ≡ is_some (actor_at s w)
unfolding look_up
actor-there s (Fix n) = refl
actor-there s (Rom n) = mapped_none (cell_seen (seen s) (Rom n))
actor-there s (Ram n) = mapped_none (cell_seen (seen s) (Ram n))
actor-there s (Cap n) = ap (λ (o : Option Slot). shows_actor (opaque_in o)) (slice_get-map erase s.ram n) ∙ actor_cell (slice_get s.ram n)

sponsor_tagged : (t : Tag) (q : Quad) → shows_sponsor (opaque_in (Some (erase_as t q))) ≡ is_some (tagged SponsorHeld (Some (record { tag = t; words = q })))
sponsor_tagged Ordinary q = refl
sponsor_tagged Actor q = actor_not_sponsor q.x q.y q.z
sponsor_tagged Event q = refl
sponsor_tagged SponsorHeld q = refl
sponsor_tagged SponsorSpent q = refl

sponsor_cell : (o : Option Cell) → shows_sponsor (opaque_in (option_map erase o)) ≡ is_some (tagged SponsorHeld o)
sponsor_cell None = refl
sponsor_cell (Some c) = sponsor_tagged c.tag c.words

held_there : (s : Store) (w : W) → is_sponsor (seen s) w ≡ is_some (opaque_cell s SponsorHeld w)
unfolding look_up
held_there s (Fix n) = refl
held_there s (Rom n) = mapped_none-sponsor (cell_seen (seen s) (Rom n))
held_there s (Ram n) = mapped_none-sponsor (cell_seen (seen s) (Ram n))
held_there s (Cap n) = ap (λ (o : Option Slot). shows_sponsor (opaque_in o)) (slice_get-map erase s.ram n) ∙ sponsor_cell (slice_get s.ram n)

none-not : (c : SponsorCell) → sponsor_in (Some (record { t = undef; x = undef; y = undef; z = undef })) None ≡ Some c → ⊥
none-not c h = cc

whole_held : (held spent : Option Quad) → (is_some held ≡ true → IsSome (sponsor_in held spent)) → is_some held ≡ is_some (sponsor_in held spent)
whole_held None spent h = refl
whole_held (Some q) None h = let k = some (sponsor_in (Some q) None) (h refl) in absurd (none-not k.0 k.1)
whole_held (Some q) (Some r) h = refl

-- a sponsor is there, with both its quads
pub sponsor-there : (s : Store) (w : W) → AreWhole s → is_sponsor (seen s) w ≡ is_some (sponsor_at s w)
sponsor-there s w h = held_there s w ∙ whole_held (opaque_cell s SponsorHeld w) (spent_cell s w) (λ e. h w (held_there s w ∙ e))

pub ruleset typing = (actor-there)

-- ---- types

pub type-read : (s : Seen) (w : W) (q : Quad) → cell_seen s w ≡ Some q → type_of s w ≡ Some q.t
type-read s w q h = ap (λ (o : Option Shown). type_in o w) (read-shown s w q h)

type_actor : (o : Option Shown) (w : W) → shows_actor o ≡ true → type_in o w ≡ Some actor_t
type_actor None w h = cc
type_actor (Some (Readable q)) w h = cc
type_actor (Some AnActor) w h = refl
type_actor (Some ASponsor) w h = cc

pub type-actor : (s : Seen) (w : W) → is_actor s w ≡ true → type_of s w ≡ Some actor_t
type-actor s w h = type_actor (look_up s w) w h

type_sponsor : (o : Option Shown) (w : W) → shows_sponsor o ≡ true → type_in o w ≡ Some sponsor_t
type_sponsor None w h = cc
type_sponsor (Some (Readable q)) w h = cc
type_sponsor (Some AnActor) w h = cc
type_sponsor (Some ASponsor) w h = refl

pub type-sponsor : (s : Seen) (w : W) → is_sponsor s w ≡ true → type_of s w ≡ Some sponsor_t
type-sponsor s w h = type_sponsor (look_up s w) w h

type_plain : (o : Option Shown) (w : W) → ((q : Quad) → o ≡ Some (Readable q) → ⊥) → shows_actor o ≡ false → shows_sponsor o ≡ false → type_in o w ≡ plain_type w
type_plain None w r a b = refl
type_plain (Some (Readable q)) w r a b = absurd (r q refl)
type_plain (Some AnActor) w r a b = cc
type_plain (Some ASponsor) w r a b = cc

no_cell : (o : Option Quad) (q : Quad) → o ≡ None → o ≡ Some q → ⊥
no_cell o q x y = cc

pub type-plain : (s : Seen) (w : W) → cell_seen s w ≡ None → is_actor s w ≡ false → is_sponsor s w ≡ false → type_of s w ≡ plain_type w
type-plain s w n a b = type_plain (look_up s w) w (λ q e. no_cell (cell_seen s w) q n (shown-read s w q e)) a b

-- ---- where the books are kept, each sponsor is whole

is_some_of : (o : Option SponsorCell) (c : SponsorCell) → o ≡ Some c → IsSome o
is_some_of None c h = cc
is_some_of (Some x) c h = refl

pub books-whole : (m : Memory) (sheet : Ledger) → Books m sheet → AreWhole m.store
books-whole m sheet b = λ w h. let j = b.belongs.there w (b.listed w h) in is_some_of (sponsor_at m.store w) j.0 j.1
