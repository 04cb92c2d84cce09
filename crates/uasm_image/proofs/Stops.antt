-- The word at which the reading of cells stops.
use Rattle.std.proofs.Common.{◌≡◌, ℕ, zero, suc, ◌+◌, ◌*◌, ◌<◌, ◌≤◌, List, [], ◌∷◌, ◌++◌, length, take, Ok, Err, inl, inr, refl, sym, ap, ◌∙◌, append_assoc, arith}
use Rattle.std.specs.List.{flat_map, AllByRecursion}
use Rattle.std.proofs.lemmas.List.{append-nil}
use Rattle.cap_words.specs.declared.word.Quad.{Quad}
use Rattle.cap_words.specs.Words.{W}
use Rattle.quad_memory.specs.Image.{is_rom_word}
use Rattle.uasm_image.specs.declared.error.ImageRefused.{ImageRefused}
use Rattle.uasm_image.specs.Spelled.{word}
use Rattle.uasm_image.specs.Reading.{◌>>=◌, word_at, cell_at, cells_at}
use Rattle.uasm_image.proofs.Steps.{IsBytes, bind_err, ok_no_err, IsGood, Fits, word_ok}
use Rattle.uasm_image.proofs.Whole.{CellFits, cell_ok}

-- behind these words, fewer than n from a place on, the next is refused
pub record Stops (count : ℕ) (bytes : List ℕ) (at n : ℕ) (e : ImageRefused) : Type 0 where
  pub ws : List W
  pub good : AllByRecursion (IsGood count) ws
  pub within : length ws < n
  pub same : take (at + 4 * length ws) bytes ≡ take at bytes ++ flat_map word ws
  pub reach : at + 4 * length ws ≤ length bytes
  pub stop : word_at (is_rom_word count) bytes (at + 4 * length ws) ≡ Err e

stops_here : (count : ℕ) (bytes : List ℕ) (at n : ℕ) (e : ImageRefused) → at ≤ length bytes → 0 < n
    → word_at (is_rom_word count) bytes at ≡ Err e → Stops count bytes at n e
stops_here count bytes at n e le lt h =
    let z : at + 4 * 0 ≡ at = omega arith in
    record {
      ws = [];
      good = tt;
      within = lt;
      same = rw z (sym (append-nil (take at bytes)));
      reach = rw z le;
      stop = rw z h;
    }

stops_later : (count : ℕ) (bytes : List ℕ) (at to n : ℕ) (e : ImageRefused) (w : W) → to ≡ at + 4 → Fits (is_rom_word count) count bytes at w
    → Stops count bytes to n e → Stops count bytes at (suc n) e
stops_later count bytes at to n e w next f s =
    let place : to + 4 * length s.ws ≡ at + 4 * suc (length s.ws) = omega arith in
    let first : take to bytes ≡ take at bytes ++ word w = rw next f.same in
    let within = s.within in
    record {
      ws = w ∷ s.ws;
      good = (f.good, s.good);
      within = omega arith;
      same = ap (λ k. take k bytes) (sym place) ∙ s.same ∙ ap (λ r. r ++ flat_map word s.ws) first
          ∙ append_assoc (take at bytes) (word w) (flat_map word s.ws);
      reach = rw (← place) s.reach;
      stop = rw (← place) s.stop;
    }

wider : (count : ℕ) (bytes : List ℕ) (at n m : ℕ) (e : ImageRefused) → n ≤ m → Stops count bytes at n e → Stops count bytes at m e
wider count bytes at n m e le s =
    let w = s.within in
    record { ws = s.ws; good = s.good; within = omega arith; same = s.same; reach = s.reach; stop = s.stop }

cell_err : (count : ℕ) (bytes : List ℕ) (at : ℕ) (e : ImageRefused) → IsBytes bytes → at ≤ length bytes → cell_at count bytes at ≡ Err e
    → Stops count bytes at 4 e
unfolding cell_at
cell_err count bytes at e fits le h =
    let rule = is_rom_word count in
    let one = λ (from : ℕ) (w : W) (k : word_at rule bytes from ≡ Ok w). word_ok rule count bytes from w (λ v k. k) fits k in
    elim (bind_err (word_at rule bytes at) (λ t. word_at rule bytes (at + 4) >>= λ x. word_at rule bytes (at + 8) >>= λ y. word_at rule bytes
    (at + 12) >>= λ z. Ok (record { t = t; x = x; y = y; z = z })) e h) [
      | inl bad ↦ stops_here count bytes at 4 e le (omega arith) bad
      | inr t ↦
          let ft = one at t.0 t.1 in let wt = ft.whole in
          elim (bind_err (word_at rule bytes (at + 4)) (λ x. word_at rule bytes (at + 8) >>= λ y. word_at rule bytes (at + 12) >>= λ z. Ok
          (record { t = t.0; x = x; y = y; z = z })) e t.2) [
            | inl bad ↦ stops_later count bytes at (at + 4) 3 e t.0 refl ft (stops_here count bytes (at + 4) 3 e wt (omega arith) bad)
            | inr x ↦
                let fx = one (at + 4) x.0 x.1 in let wx = fx.whole in
                elim (bind_err (word_at rule bytes (at + 8)) (λ y. word_at rule bytes (at + 12) >>= λ z. Ok
                (record { t = t.0; x = x.0; y = y; z = z })) e x.2) [
                  | inl bad ↦ stops_later count bytes at (at + 4) 3 e t.0 refl ft
                      (stops_later count bytes (at + 4) (at + 8) 2 e x.0 (omega arith) fx
                      (stops_here count bytes (at + 8) 2 e (omega arith) (omega arith) bad))
                  | inr y ↦
                      let fy = one (at + 8) y.0 y.1 in let wy = fy.whole in
                      elim (bind_err (word_at rule bytes (at + 12)) (λ z. Ok (record { t = t.0; x = x.0; y = y.0; z = z })) e y.2) [
                        | inl bad ↦ stops_later count bytes at (at + 4) 3 e t.0 refl ft
                            (stops_later count bytes (at + 4) (at + 8) 2 e x.0 (omega arith) fx
                            (stops_later count bytes (at + 8) (at + 12) 1 e y.0 (omega arith) fy
                            (stops_here count bytes (at + 12) 1 e (omega arith) (omega arith) bad)))
                        | inr z ↦ ok_no_err _ _ z.2
                      ]
                ]
          ]
    ]

cell_later : (count : ℕ) (bytes : List ℕ) (at n : ℕ) (e : ImageRefused) (q : Quad) → CellFits count bytes at q → Stops count bytes (at + 16) n e
    → Stops count bytes at (suc (suc (suc (suc n)))) e
cell_later count bytes at n e q f s =
    stops_later count bytes at (at + 4) (suc (suc (suc n))) e q.t refl f.t
    (stops_later count bytes (at + 4) (at + 8) (suc (suc n)) e q.x (omega arith) f.x
    (stops_later count bytes (at + 8) (at + 12) (suc n) e q.y (omega arith) f.y
    (stops_later count bytes (at + 12) (at + 16) n e q.z (omega arith) f.z s)))

pub cells_err : (count : ℕ) (bytes : List ℕ) (at n : ℕ) (e : ImageRefused) → IsBytes bytes → at ≤ length bytes
    → cells_at count bytes at n ≡ Err e → Stops count bytes at (4 * n) e
unfolding cells_at
cells_err count bytes at zero e fits le h = ok_no_err _ _ h
cells_err count bytes at (suc n) e fits le h =
    elim (bind_err (cell_at count bytes at) (λ q. cells_at count bytes (at + 16) n >>= λ qs. Ok (q ∷ qs)) e h) [
      | inl bad ↦ wider count bytes at 4 (4 * suc n) e (omega arith) (cell_err count bytes at e fits le bad)
      | inr q ↦
          let f = cell_ok count bytes at q.0 fits q.1 in
          let reach : at + 16 ≤ length bytes = let w = f.z.whole in omega arith in
          elim (bind_err (cells_at count bytes (at + 16) n) (λ qs. Ok (q.0 ∷ qs)) e q.2) [
            | inl bad ↦ wider count bytes at (suc (suc (suc (suc (4 * n))))) (4 * suc n) e (omega arith)
                (cell_later count bytes at (4 * n) e q.0 f (cells_err count bytes (at + 16) n e fits reach bad))
            | inr qs ↦ ok_no_err _ _ qs.2
          ]
    ]
