-- Entries of any kind, written again, are the bytes that they were read from. Assumes nothing.
use mathlib.Core.Path.{◌≡◌, refl, sym, ap}
use mathlib.Core.Logic.{◌⊎◌, inl, inr}
use mathlib.Core.List.{List, [], ◌∷◌, ◌++◌, append_assoc}
use Prim.Native.Nat.{ℕ, zero, suc, ◌+◌, ◌*◌, ◌/◌, ◌%◌, ◌≤◌, ◌<◌}
use native.Mathlib.Omega.{arith}
use native.Mathlib.Nat.{suc-mul, zero-mul}
use native.Mathlib.Numerals.{add-one}
use lib.ListN.{length, take, drop}
use lib.Seq.{drop-cons}
use Rattle.base.specs.Bytes.{byte, word}
use Rattle.codes.specs.Rows.{fields, field_bytes, width}
use Rattle.entries.specs.Fields.{number, place_of, code, field}
use Rattle.entries.specs.Words.{Bytes}
use Rattle.entries.specs.Tiling.{listed, joined, stretch, number_bytes, entry_of, entry_bytes}

-- two lists of things, written one after the other
pub joined_append : {A : Type 0} (g : A → List ℕ) (k l : List A) → joined g (k ++ l) ≡ joined g k ++ joined g l
unfolding joined
joined_append g [] l = refl
joined_append g (x ∷ k) l = rw (joined_append g k l) (sym (append_assoc (g x) (joined g k) (joined g l)))

module _ {ℓ} {A : Type ℓ} (f : ℕ → A) where
  pub listed_length : (i n : ℕ) → length (listed f i n) ≡ n
  unfolding listed
  listed_length i zero = refl
  listed_length i (suc n) = ap suc (listed_length (suc i) n)

  -- a range in two parts
  pub listed_add : (i n m : ℕ) → listed f i (n + m) ≡ listed f i n ++ listed f (i + n) m
  unfolding listed
  listed_add i zero m = let p : 0 + m ≡ m = omega arith in let q : i + 0 ≡ i = omega arith in rw (p, q)
  listed_add i (suc n) m =
      let p : suc n + m ≡ suc (n + m) = omega arith in
      let q : i + suc n ≡ suc i + n = omega arith in
      rw (p, q, ← listed_add (suc i) n m)

-- the whole file is a stretch of it
stretch_from : (s t : List ℕ) (p : ℕ) → ((i : ℕ) → byte s (p + i) ≡ byte t i) → stretch s p (length t) ≡ t
unfolding listed byte
stretch_from s [] p e = refl
stretch_from s (x ∷ t) p e =
    let h : byte s p ≡ x = at_zero (e 0) in
    rw (h, stretch_from s t (suc p) λ i. at_suc i (e (suc i)))
  where
    at_zero : byte s (p + 0) ≡ x → byte s p ≡ x
    at_zero q = let z : p + 0 ≡ p = omega arith in rw z at q

    at_suc : (i : ℕ) → byte s (p + suc i) ≡ byte t i → byte s (suc p + i) ≡ byte t i
    at_suc i q = let z : p + suc i ≡ suc p + i = omega arith in rw z at q

pub stretch_whole : (s : List ℕ) → stretch s 0 (length s) ≡ s
stretch_whole s = stretch_from s s 0 λ i. let z : 0 + i ≡ i = omega arith in ap (byte s) z

-- a stretch inside a file is a part of it
pub stretch_part : (s : List ℕ) (p n : ℕ) → p + n ≤ length s → stretch s p n ≡ take n (drop p s)
unfolding listed byte
stretch_part s p zero h = refl
stretch_part s p (suc n) h = rw (drop-cons s p 0 (omega arith), stretch_part s (suc p) n (omega arith))

-- stretches that follow each other
pub stretches : (s : List ℕ) (p n q m : ℕ) → q ≡ p + n → stretch s p n ++ stretch s q m ≡ stretch s p (n + m)
stretches s p n q m e = rw e (sym (listed_add (byte s) p n m))

-- things of one width, written one after the other
joined_listed : {A : Type 0} (g : A → List ℕ) (f : ℕ → A) (s : List ℕ) (base w i n : ℕ)
    → ((k : ℕ) → i ≤ k → k < i + n → g (f k) ≡ stretch s (base + k * w) w) → joined g (listed f i n) ≡ stretch s (base + i * w) (n * w)
unfolding joined listed
joined_listed g f s base w i zero e = let z : 0 * w ≡ 0 = omega arith in rw z
joined_listed g f s base w i (suc n) e =
    let p : suc n * w ≡ w + n * w = omega (arith, suc-mul n w) in
    let q : base + i * w + w ≡ base + suc i * w = omega (arith, suc-mul i w) in
    rw (e i (omega arith) (omega arith), joined_listed g f s base w (suc i) n (λ k h l. e k (omega arith) (omega arith)), p, listed_add (byte s) (base + i * w) w (n * w), q)

-- the same from the first on
pub joined_all : {A : Type 0} (g : A → List ℕ) (f : ℕ → A) (s : List ℕ) (base w n : ℕ)
    → ((k : ℕ) → k < n → g (f k) ≡ stretch s (base + k * w) w) → joined g (listed f 0 n) ≡ stretch s base (n * w)
joined_all g f s base w n e =
    let z : base + 0 * w ≡ base = omega (arith, zero-mul w) in
    rw z at (joined_listed g f s base w 0 n (λ k h l. e k (omega arith)))

-- a 16-bit number is its two bytes
pub word_bytes : (s : List ℕ) → Bytes s → (p : ℕ) → number_bytes 2 (word s p) ≡ stretch s p 2
unfolding number_bytes word listed
word_bytes s h p =
    let l : byte s (p + 1) < 256 = h (p + 1) in
    let a : (byte s p * 256 + byte s (p + 1)) / 256 ≡ byte s p = omega arith in
    let b : (byte s p * 256 + byte s (p + 1)) % 256 ≡ byte s (p + 1) = omega arith in
    rw (a, b, add-one)

-- a number of either size is its bytes
pub number_bytes_lem : (s : List ℕ) → Bytes s → (p size : ℕ) → (size ≡ 1) ⊎ (size ≡ 2) → number_bytes size (number s p size) ≡ stretch s p size
unfolding number
number_bytes_lem s h p size (inl e) = rw e (unfold number_bytes listed in refl)
number_bytes_lem s h p size (inr e) = rw e (word_bytes s h p)

-- a field has one byte or two, and an entry its code and its fields
field_sizes : (kind : ℕ) → kind < 4 → (field_bytes kind ≡ 1) ⊎ (field_bytes kind ≡ 2)
unfolding field_bytes byte
field_sizes zero h = inl refl
field_sizes (suc zero) h = inl refl
field_sizes (suc (suc zero)) h = inl refl
field_sizes (suc (suc (suc zero))) h = inr refl
field_sizes (suc (suc (suc (suc k)))) h = absurd (omega arith)

width_parts : (kind : ℕ) → kind < 4 → width kind ≡ suc (fields kind * field_bytes kind)
unfolding width fields field_bytes byte
width_parts zero h = refl
width_parts (suc zero) h = refl
width_parts (suc (suc zero)) h = refl
width_parts (suc (suc (suc zero))) h = refl
width_parts (suc (suc (suc (suc k)))) h = absurd (omega arith)

-- an entry, written again, is its bytes
pub entry_bytes_lem : (s : List ℕ) → Bytes s → (kind base : ℕ) → kind < 4 → (i : ℕ) → entry_bytes kind (entry_of s kind base i) ≡ stretch s (place_of kind base i) (width kind)
unfolding code
entry_bytes_lem s h kind base k i =
    rw (width_parts kind k, joined_all (number_bytes (field_bytes kind)) (field s kind base i) s (place_of kind base i + 1) (field_bytes kind) (fields kind) (λ j h. one j), add-one)
    (unfold listed in refl)
  where
    one : (j : ℕ) → number_bytes (field_bytes kind) (field s kind base i j) ≡ stretch s (place_of kind base i + 1 + j * field_bytes kind) (field_bytes kind)
    one j = unfold field in number_bytes_lem s h (place_of kind base i + 1 + j * field_bytes kind) (field_bytes kind) (field_sizes kind k)

-- the n entries from a base offset on, written again, are the bytes there
pub entries_bytes : (s : List ℕ) → Bytes s → (kind base n : ℕ) → kind < 4 → joined (entry_bytes kind) (listed (entry_of s kind base) 0 n) ≡ stretch s base (n * width kind)
entries_bytes s h kind base n k = joined_all (entry_bytes kind) (entry_of s kind base) s base (width kind) n (λ i l. placed i (entry_bytes_lem s h kind base k i))
  where
    placed : (i : ℕ) → entry_bytes kind (entry_of s kind base i) ≡ stretch s (place_of kind base i) (width kind) → entry_bytes kind (entry_of s kind base i) ≡ stretch s (base + i * width kind) (width kind)
    placed i e = unfold place_of in e
