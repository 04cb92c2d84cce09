-- What a list of characters says, pair by pair.
use Rattle.std.proofs.Common.{◌≡◌, ℕ, ◌<◌, Bool, true, false, if◌then◌else◌, pos, negsuc, List, [], ◌++◌, Option, Some, None, is_some, option_map, encode_utf8, refl, sym, ap, ◌∙◌, arith}
use Rattle.std.specs.Option.{unwrap_or}
use Rattle.hum_outside.specs.Outside.{appended, AppendsFront}
use Rattle.cap_words.specs.declared.word.Quad.{Quad}
use Rattle.cap_words.specs.Words.{W, Fix, Rom, Ram, Cap, same_word, nil}
use Rattle.cap_words.specs.Seen.{Seen, cell_seen}
use Rattle.instr_table.specs.Lists.{pair_in}
use Rattle.vm_turn.specs.Piece.{Tree, Fork, is_scalar, spoken, speech}
use Rattle.vm_devices.specs.Texts.{IsSmall, tree_of, leaves_of, scalar_of, speech_of, speech_text}
use Rattle.vm_devices.proofs.Trees.{leaf_tree, leaves_of-some, IsForked, forked_of}
use Rattle.vm_devices.proofs.Writings.{Writing, writing_first, writing_more, writing_front, writing_all}

-- ---- one pair

-- a word that names a pair is no character
no_speech : (s : Seen) (w : W) (q : Quad) (o : Option (List ℕ)) → pair_in (cell_seen s w) ≡ Some q → spoken w o ≡ None
no_speech s (Fix n) q o h = cc
no_speech s (Rom n) q o h = refl
no_speech s (Ram n) q o h = refl
no_speech s (Cap n) q o h = refl

head_speech : (s : Seen) (v : W) (rest : Tree) (o : Option Quad) → pair_in (cell_seen s v) ≡ o → IsSmall s v → speech (Fork (tree_of s v) rest) ≡ spoken v (speech rest)
head_speech s v rest None h is = ap (λ t. speech (Fork t rest)) (leaf_tree s v h)
head_speech s v rest (Some p) h is = ap (λ t. speech (Fork t rest)) (forked_of s v p h is).tree_is ∙ sym (no_speech s v p (speech rest) h)

speech_pair : (s : Seen) (w : W) (q : Quad) → IsForked s w q → speech_of s w ≡ spoken q.x (speech_of s q.y)
unfolding speech_of
speech_pair s w q f = ap speech f.tree_is ∙ head_speech s q.x (tree_of s q.y) (pair_in (cell_seen s q.x)) refl f.head

speech_end : (s : Seen) (w : W) → pair_in (cell_seen s w) ≡ None → speech_of s w ≡ (if same_word w nil then Some [] else None)
unfolding speech_of
speech_end s w h = ap speech (leaf_tree s w h)

-- ---- characters

spoken_none : (w : W) (o : Option (List ℕ)) → scalar_of w ≡ None → spoken w o ≡ None
spoken_none (Fix (pos n)) o h = chosen (is_scalar n) h
  where
    chosen : (b : Bool) → (if b then Some n else None) ≡ None → ◌≡◌ {A = Option (List ℕ)} (if b then option_map (λ bytes. encode_utf8 n ++ bytes) o else None) None
    chosen true e = cc
    chosen false e = refl
spoken_none (Fix (negsuc n)) o h = refl
spoken_none (Rom n) o h = refl
spoken_none (Ram n) o h = refl
spoken_none (Cap n) o h = refl

spoken_some : (w : W) (c : ℕ) (o : Option (List ℕ)) → scalar_of w ≡ Some c → spoken w o ≡ option_map (λ bytes. encode_utf8 c ++ bytes) o
spoken_some (Fix (pos n)) c o h = chosen (is_scalar n) h
  where
    chosen : (b : Bool) → (if b then Some n else None) ≡ Some c → ◌≡◌ {A = Option (List ℕ)} (if b then option_map (λ bytes. encode_utf8 n ++ bytes) o else None) (option_map (λ bytes. encode_utf8 c ++ bytes) o)
    chosen true e = let same : n ≡ c = cc in ap (λ k. option_map (λ bytes. encode_utf8 k ++ bytes) o) same
    chosen false e = cc
spoken_some (Fix (negsuc n)) c o h = cc
spoken_some (Rom n) c o h = cc
spoken_some (Ram n) c o h = cc
spoken_some (Cap n) c o h = cc

is_some_map : (c : ℕ) (o : Option (List ℕ)) → is_some (option_map (λ bytes. encode_utf8 c ++ bytes) o) ≡ is_some o
is_some_map c None = refl
is_some_map c (Some bytes) = refl

-- ---- a walk along a list

-- whether the rest is a list of characters is whether the whole is
pub record Hearing (s : Seen) (from rest : W) : Type 0 where
  pub small : IsSmall s rest
  pub same : is_some (speech_of s from) ≡ is_some (speech_of s rest)

module _ (s : Seen) (from rest : W) (so_far : Hearing s from rest) where
  module _ (q : Quad) (pair : pair_in (cell_seen s rest) ≡ Some q) where
    pub hearing_more : (c : ℕ) → scalar_of q.x ≡ Some c → Hearing s from q.y
    hearing_more c some =
        let f = forked_of s rest q pair so_far.small in
        record {
          small = f.tail;
          same = so_far.same ∙ ap (λ (o : Option (List ℕ)). is_some o) (speech_pair s rest q f ∙ spoken_some q.x c (speech_of s q.y) some) ∙ is_some_map c (speech_of s q.y);
        }

    pub hearing_stop : scalar_of q.x ≡ None → is_some (speech_of s from) ≡ false
    hearing_stop none =
        let f = forked_of s rest q pair so_far.small in
        so_far.same ∙ ap (λ (o : Option (List ℕ)). is_some o) (speech_pair s rest q f ∙ spoken_none q.x (speech_of s q.y) none)

    pub hearing_left : leaves_of s q.y < leaves_of s rest
    hearing_left = omega (arith, (forked_of s rest q pair so_far.small).leaves_are, leaves_of-some s q.x)

  pub hearing_last : pair_in (cell_seen s rest) ≡ None → same_word rest nil ≡ is_some (speech_of s from)
  hearing_last leaf = sym (so_far.same ∙ ap (λ (o : Option (List ℕ)). is_some o) (speech_end s rest leaf) ∙ chosen (same_word rest nil))
    where
      chosen : (b : Bool) → is_some {T = List ℕ} (if b then Some [] else None) ≡ b
      chosen true = refl
      chosen false = refl

-- ---- a walk that writes

some_text : (c : ℕ) (o : Option (List ℕ)) → is_some o ≡ true → unwrap_or (option_map (λ bytes. encode_utf8 c ++ bytes) o) [] ≡ encode_utf8 c ++ unwrap_or o []
some_text c None h = cc
some_text c (Some bytes) h = refl

-- what was written, and what is left
pub record Saying (s : Seen) (old now : Option (List ℕ)) (from rest : W) : Type 0 where
  pub small : IsSmall s rest
  pub speech : is_some (speech_of s rest) ≡ true
  pub writing : Writing old now (speech_text s from) (speech_text s rest)

pub saying_first : (s : Seen) (old : Option (List ℕ)) (w : W) → IsSmall s w → is_some (speech_of s w) ≡ true → Saying s old old w w
saying_first s old w small speech = record { small = small; speech = speech; writing = writing_first old (speech_text s w) }

module _ (s : Seen) (old mid : Option (List ℕ)) (from rest : W) (so_far : Saying s old mid from rest) where
  module _ (q : Quad) (pair : pair_in (cell_seen s rest) ≡ Some q) where
    -- its head is a character
    pub saying_some : scalar_of q.x ≡ None → ⊥
    saying_some none =
        let e : is_some (speech_of s rest) ≡ false = ap (λ (o : Option (List ℕ)). is_some o) (speech_pair s rest q (forked_of s rest q pair so_far.small) ∙ spoken_none q.x (speech_of s q.y) none) in
        let h = so_far.speech in
        cc

    module _ (c : ℕ) (some : scalar_of q.x ≡ Some c) where
      said_pair : speech_of s rest ≡ option_map (λ bytes. encode_utf8 c ++ bytes) (speech_of s q.y)
      said_pair = speech_pair s rest q (forked_of s rest q pair so_far.small) ∙ spoken_some q.x c (speech_of s q.y) some

      said_tail : is_some (speech_of s q.y) ≡ true
      said_tail = sym (is_some_map c (speech_of s q.y)) ∙ ap (λ (o : Option (List ℕ)). is_some o) (sym said_pair) ∙ so_far.speech

      said_text : speech_text s rest ≡ encode_utf8 c ++ speech_text s q.y
      unfolding speech_text
      said_text = ap (λ (o : Option (List ℕ)). unwrap_or o []) said_pair ∙ some_text c (speech_of s q.y) said_tail

      pub saying_more : (new : Option (List ℕ)) → new ≡ appended mid (encode_utf8 c) → Saying s old new from q.y
      saying_more new next = record {
        small = (forked_of s rest q pair so_far.small).tail;
        speech = said_tail;
        writing = writing_more old mid new (speech_text s from) (speech_text s rest) (encode_utf8 c) (speech_text s q.y) so_far.writing said_text next;
      }

      pub front_said : (new : Option (List ℕ)) → AppendsFront mid new (encode_utf8 c) → AppendsFront old new (speech_text s from)
      front_said new front = writing_front old mid new (speech_text s from) (speech_text s rest) (encode_utf8 c) (speech_text s q.y) so_far.writing said_text front

    pub saying_left : leaves_of s q.y < leaves_of s rest
    saying_left = omega (arith, (forked_of s rest q pair so_far.small).leaves_are, leaves_of-some s q.x)

  pub saying_all : pair_in (cell_seen s rest) ≡ None → mid ≡ appended old (speech_text s from)
  unfolding speech_text
  saying_all leaf = writing_all old mid (speech_text s from) (speech_text s rest) so_far.writing (end_text (same_word rest nil) refl)
    where
      end_text : (b : Bool) → same_word rest nil ≡ b → speech_text s rest ≡ []
      end_text true e = ap (λ (o : Option (List ℕ)). unwrap_or o []) (speech_end s rest leaf ∙ ap (λ (t : Bool). if t then Some [] else None) e)
      end_text false e = ap (λ (o : Option (List ℕ)). unwrap_or o []) (speech_end s rest leaf ∙ ap (λ (t : Bool). if t then Some [] else None) e)
