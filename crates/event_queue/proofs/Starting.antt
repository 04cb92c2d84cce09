-- What the first message that can start is.
use Rattle.std.proofs.Common.{◌≡◌, ℕ, suc, ◌+◌, ◌<◌, ◌≤◌, List, [], ◌∷◌, length, get_or, drop, Option, Some, None, Bool, true, false, if◌then◌else◌, refl, ap, sym, ◌∙◌, arith, inl, inr, subst}
use Rattle.std.specs.Prelude.{IfSome, IfNone}
use Rattle.std.specs.List.{Contains}
use Rattle.std.proofs.Math.ListN.{drop_of_length-le}
use Rattle.std.proofs.lemmas.List.{drop_more, get_or_default}
use Rattle.cap_words.specs.Words.{W, undef}
use Rattle.cap_words.specs.Store.{Store}
use Rattle.event_queue.specs.Pending.{Pending, event_of, IsAscending}
use Rattle.event_queue.specs.Starts.{can_start, first_ready, StartsFirst, NoneStarts}
use Rattle.event_queue.proofs.Ascending.{contains-first, contains-more, contains-either, contains-low, contains-high}

module _ (s : Store) (given : List W) where
  -- a number can start, and no lower one of the list can
  abbrev IsLeast : List ℕ → ℕ → Type 0
  IsLeast ns n = Contains ns n × (can_start s (event_of given n) ≡ true) × ((m : ℕ) → Contains ns m → m < n → can_start s (event_of given m) ≡ false)

  first-starts : (low high : ℕ) (ns : List ℕ) (n : ℕ) → IsAscending low high ns → first_ready s given ns ≡ Some n → IsLeast ns n
  first-starts low high [] n a h = cc
  first-starts low high (k ∷ ns) n a h = by (can_start s (event_of given k)) refl h (λ e. first-starts (suc k) high ns n a.2 e)
    where
      by : (b : Bool) → can_start s (event_of given k) ≡ b → (if b then Some k else first_ready s given ns) ≡ Some n
          → (first_ready s given ns ≡ Some n → IsLeast ns n) → IsLeast (k ∷ ns) n
      by true t e more =
          let same : k ≡ n = cc in (
            subst (λ (i : ℕ). Contains (k ∷ ns) i) same (contains-first k ns),
            subst (λ (i : ℕ). can_start s (event_of given i) ≡ true) same t,
            λ m c l. elim (contains-either k m ns c) [ inl x ↦ absurd (omega (arith, x)) | inr x ↦ absurd (let o = contains-low (suc k) high ns m a.2 x in omega (arith, o)) ],
          )
      by false t e more =
          let r = more e in (
            contains-more k n ns r.0,
            r.1,
            λ m c l. elim (contains-either k m ns c) [ inl x ↦ subst (λ (i : ℕ). can_start s (event_of given i) ≡ false) (sym x) t | inr x ↦ r.2 m x l ],
          )

  none-starts : (ns : List ℕ) → first_ready s given ns ≡ None → (m : ℕ) → Contains ns m → can_start s (event_of given m) ≡ false
  none-starts [] h m c = absurd (omega (arith, c.1))
  none-starts (k ∷ ns) h m c = by (can_start s (event_of given k)) refl h (λ e x. none-starts ns e m x)
    where
      by : (b : Bool) → can_start s (event_of given k) ≡ b → (if b then Some k else first_ready s given ns) ≡ None
          → (first_ready s given ns ≡ None → Contains ns m → can_start s (event_of given m) ≡ false) → can_start s (event_of given m) ≡ false
      by true t e more = cc
      by false t e more = elim (contains-either k m ns c) [ inl x ↦ subst (λ (i : ℕ). can_start s (event_of given i) ≡ false) (sym x) t | inr x ↦ more e x ]

  is_event : (n : ℕ) (w : W) → n < length given → w ≡ get_or given n w → event_of given n ≡ w
  is_event n w l v = get_or_default given n undef w l ∙ sym v

  -- a search goes on behind a message that cannot start, and ends at one that can
  pub search-ends : (ns : List ℕ) (i n : ℕ) (w : W) → i < length ns → n ≡ get_or ns i 0 → n < length given → w ≡ get_or given n w → can_start s w ≡ true → first_ready s given (drop i ns) ≡ Some n
  search-ends ns i n w h e l v t =
      let d = drop_more ns i 0 h in
      let k : can_start s (event_of given (get_or ns i 0)) ≡ true = ap (can_start s) (ap (event_of given) (sym e) ∙ is_event n w l v) ∙ t in
      rw (d, k) (ap Some (sym e))

  pub search-more : (ns : List ℕ) (i n : ℕ) (w : W) → i < length ns → n ≡ get_or ns i 0 → n < length given → w ≡ get_or given n w → can_start s w ≡ false → first_ready s given (drop i ns) ≡ first_ready s given (drop (i + 1) ns)
  search-more ns i n w h e l v t =
      let d = drop_more ns i 0 h in
      let k : can_start s (event_of given (get_or ns i 0)) ≡ false = ap (can_start s) (ap (event_of given) (sym e) ∙ is_event n w l v) ∙ t in
      rw (d, k) refl

  pub search-none : (ns : List ℕ) (i : ℕ) → length ns ≤ i → first_ready s given (drop i ns) ≡ None
  search-none ns i h = ap (first_ready s given) (drop_of_length-le ns h)

-- what a search tells by its answer
pub record Answers (s : Store) (q : Pending) (r : Option ℕ) : Type 0 where
  pub value : r ≡ first_ready s q.given q.ready
  pub first : IfSome r (λ n. StartsFirst s q n)
  pub none : IfNone r (NoneStarts s q)

pub answers : (s : Store) (q : Pending) (high : ℕ) (r : Option ℕ) → high ≡ length q.given → IsAscending 0 high q.ready → r ≡ first_ready s q.given q.ready → Answers s q r
answers s q high None l a e = record { value = e; first = tt; none = none-starts s q.given q.ready (sym e) }
answers s q high (Some n) l a e =
    let k = first-starts s q.given 0 high q.ready n a (sym e) in
    record { value = e; first = record { given = omega (arith, contains-high 0 high q.ready n a k.0, l); ready = k.0; starts = k.1; before = k.2 }; none = tt }
