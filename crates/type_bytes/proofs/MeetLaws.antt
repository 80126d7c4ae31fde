-- Steps of `meet`: one law for each way out. Assumes nothing.
use mathlib.Core.Path.{◌≡◌, sym, ap, ◌∙◌}
use Rattle.std.proofs.Common.{Some, None}
use mathlib.Core.List.{List, ◌∷◌, ◌++◌}
use mathlib.Core.Option.{some_inj, none-ne-some}
use Prim.Native.Nat.{ℕ, ◌+◌, ◌-◌, ◌≤◌, ◌<◌}
use native.Mathlib.Omega.{arith}
use lib.ListN.{length, take, drop, get_or, length-append}
use borrow.Rule.Slice.PartMut.{put_mid}
use Rattle.types.specs.Types.{Cipher, Pair, meet}
use Rattle.types.specs.Prefix.{encoded}
use Rattle.types.specs.Version1.{T, types1, bytes, shared, code1}
use Rattle.buffers.specs.Over.{over}
use Rattle.type_bytes.specs.Ends.{Past}
use Rattle.type_bytes.specs.Meets.{Wrote, Copied, Meets, how_of}
use Rattle.type_bytes.specs.Lower.{Lower}
use Rattle.type_bytes.specs.declared.How.{How}
use Rattle.type_bytes.specs.declared.How.TheVariants.{Second, First, Apart, Pairs, Ciphertexts}
use Rattle.buffers.proofs.Parts.{part_length}
use Rattle.buffers.proofs.OverLaws.{over_lent, lent_rest, with_rest, rest_length, rest_over}
use Rattle.type_bytes.proofs.EndLaws.{tag, bytes_some, no_type, head_is, in_pair, in_cipher}
use Rattle.type_bytes.proofs.HowLaws.{HowIs, how_is, in_second, in_first, in_apart, in_pairs, in_ciphers, pairs_some, some_pairs, ciphers_some, some_ciphers}

-- where no type starts, or nothing fits
pub meets_past : (a b z o : List ℕ) (p q : ℕ) → length a ≤ p → Meets a p b q z o None
meets_past a b z o p q h = record { fits = tt; wrote = λ t u x y i j. absurd (no_type a p t x h i) }

pub meets_past_2 : (a b z o : List ℕ) (p q : ℕ) → length b ≤ q → Meets a p b q z o None
meets_past_2 a b z o p q h = record { fits = tt; wrote = λ t u x y i j. absurd (no_type b q u y h j) }

pub meets_full : (a b z o : List ℕ) (p q : ℕ) → length z ≡ 0 → Meets a p b q z o None
meets_full a b z o p q h = record { fits = tt; wrote = λ t u x y i j c e. omega (arith, bytes_some c) }

-- a type may start at p of a, with that code, and at q of b; there is room; h says how they meet
pub record Begun (a : List ℕ) (p : ℕ) (b : List ℕ) (q : ℕ) (z : List ℕ) (code : ℕ) (h : How) : Type 0 where
  pub in_a : p < length a
  pub in_b : q < length b
  pub room : 0 < length z
  pub first : code ≡ get_or a p 0
  pub says : h ≡ how_of (get_or a p 0) (get_or b q 0)

module _ {a : List ℕ} {p : ℕ} {b : List ℕ} {q : ℕ} {z : List ℕ} {code : ℕ} {h : How} (s : Begun a p b q z code h) where
  told : (t u : T) (x y : List ℕ) → drop p a ≡ bytes t ++ x → drop q b ≡ bytes u ++ y → HowIs t u h
  told t u x y i j = rw (s.says, head_is a p s.in_a t x i, head_is b q s.in_b u y j) (how_is t u)

  pub meets_second : (o : List ℕ) (r : Lower) → h ≡ Second → Copied b q z o r → Meets a p b q z o r
  meets_second o r g k = record {
    fits = k.fits;
    wrote = λ t u x y i j. rw (in_second (told t u x y i j) g) (k.wrote u y j);
  }

  pub meets_first : (o : List ℕ) (r : Lower) → h ≡ First → Copied a p z o r → Meets a p b q z o r
  meets_first o r g k = record {
    fits = k.fits;
    wrote = λ t u x y i j. rw (in_first (told t u x y i j) g) (k.wrote t x i);
  }

  pub meets_apart : (o : List ℕ) → h ≡ Apart → Meets a p b q z o None
  meets_apart o g = record {
    fits = tt;
    wrote = λ t u x y i j c w. absurd (none-ne-some c (sym (in_apart (told t u x y i j) g) ∙ w));
  }

  -- the code of the first type is written, and the rest of the buffer was lent for the first parts
  module _ (y₁ : List ℕ) where
    abbrev z₁ : List ℕ
    z₁ = lent_rest z code

    abbrev x₁ : List ℕ
    x₁ = with_rest z code y₁

    z₁_length : length z₁ ≡ length z - 1
    z₁_length = rest_length z code

    -- the bound starts with that code
    starts : (n : ℕ) → code ≡ n → (l : List ℕ) → y₁ ≡ over l z₁ → x₁ ≡ over (n ∷ l) z
    starts n e l w = rest_over z code y₁ s.room l w ∙ ap (λ (k : ℕ). over (k ∷ l) z) e

    -- what the types t and u at p and q ask of the answer
    abbrev Asked : (x y o : List ℕ) (r : Lower) → T → T → Type 0
    Asked x y o r t u = drop p a ≡ bytes t ++ x → drop q b ≡ bytes u ++ y → Wrote (meet types1 t u) z o r

    -- ── Ciphertexts ──

    module _ (g : h ≡ Ciphertexts) where
      pub meets_inside_apart : (o : List ℕ) → Meets a (p + 1) b (q + 1) z₁ y₁ None → Meets a p b q z o None
      unfolding encoded code1
      meets_inside_apart o k = record { fits = tt; wrote = λ t u x y i j. in_ciphers (told t u x y i j) g (Asked x y o None) (go x y) i j }
        where
          go : (x y : List ℕ) (c₁ d₁ : T) → Asked x y o None (Cipher shared c₁) (Cipher shared d₁)
          go x y c₁ d₁ i j c m =
              let (l, v, n) = ciphers_some c₁ d₁ c m in
              let short : length z₁ < length (bytes l) = k.wrote c₁ d₁ x y (in_cipher a p s.in_a c₁ x i) (in_cipher b q s.in_b d₁ y j) l v in
              rw (← n) (omega (arith, z₁_length))

      pub meets_cipher : (n : ℕ) → Meets a (p + 1) b (q + 1) z₁ y₁ (Some n) → Meets a p b q z x₁ (Some (n + 1))
      unfolding encoded code1 tag
      meets_cipher n k = record { fits = omega (arith, z₁_length, k.fits, s.room); wrote = λ t u x y i j. in_ciphers (told t u x y i j) g (Asked x y x₁ (Some (n + 1))) (go x y) i j }
        where
          go : (x y : List ℕ) (c₁ d₁ : T) → Asked x y x₁ (Some (n + 1)) (Cipher shared c₁) (Cipher shared d₁)
          go x y c₁ d₁ i j =
              let (l, v, m, w) = k.wrote c₁ d₁ x y (in_cipher a p s.in_a c₁ x i) (in_cipher b q s.in_b d₁ y j) in
              (Cipher shared l, some_ciphers c₁ d₁ v, omega arith, starts 5 (s.first ∙ head_is a p s.in_a (Cipher shared c₁) x i) (bytes l) w)

    -- ── Pairs ──

    module _ (g : h ≡ Pairs) where
      pub meets_left_apart : (o : List ℕ) → Meets a (p + 1) b (q + 1) z₁ y₁ None → Meets a p b q z o None
      unfolding encoded code1
      meets_left_apart o k = record { fits = tt; wrote = λ t u x y i j. in_pairs (told t u x y i j) g (Asked x y o None) (go x y) i j }
        where
          go : (x y : List ℕ) (c₁ c₂ d₁ d₂ : T) → Asked x y o None (Pair c₁ c₂) (Pair d₁ d₂)
          go x y c₁ c₂ d₁ d₂ i j c m =
              let (l, r, v, w, n) = pairs_some c₁ c₂ d₁ d₂ c m in
              let short : length z₁ < length (bytes l) = k.wrote c₁ d₁ (bytes c₂ ++ x) (bytes d₂ ++ y) (in_pair a p s.in_a c₁ c₂ x i) (in_pair b q s.in_b d₁ d₂ y j) l v in
              rw (← n) (omega (arith, z₁_length, length-append (bytes l) (bytes r)))

      -- the rest of the buffer was lent for the second parts, at i and at j
      module _ (n : ℕ) (k : Meets a (p + 1) b (q + 1) z₁ y₁ (Some n)) (i j : ℕ) (pa : Past a (p + 1) i) (pb : Past b (q + 1) j) (hx : length x₁ ≡ length z) (y₂ : List ℕ) where
        abbrev z₂ : List ℕ
        z₂ = take (length x₁ - (n + 1)) (drop (n + 1) x₁)

        abbrev x₂ : List ℕ
        x₂ = put_mid (n + 1) (length x₁ - (n + 1)) x₁ y₂

        z₂_length : length z₂ ≡ length z - (n + 1)
        z₂_length = rw (part_length (n + 1) x₁, hx)

        pub meets_right_apart : (o : List ℕ) → Meets a i b j z₂ y₂ None → Meets a p b q z o None
        unfolding encoded code1
        meets_right_apart o k₂ = record { fits = tt; wrote = λ t u x y f f'. in_pairs (told t u x y f f') g (Asked x y o None) (go x y) f f' }
          where
            go : (x y : List ℕ) (c₁ c₂ d₁ d₂ : T) → Asked x y o None (Pair c₁ c₂) (Pair d₁ d₂)
            go x y c₁ c₂ d₁ d₂ f f' c m =
                let f₁ = in_pair a p s.in_a c₁ c₂ x f in
                let f₂ = in_pair b q s.in_b d₁ d₂ y f' in
                let (l₁, v₁, n₁, w₁) = k.wrote c₁ d₁ (bytes c₂ ++ x) (bytes d₂ ++ y) f₁ f₂ in
                let (l, r, v, w, d) = pairs_some c₁ c₂ d₁ d₂ c m in
                let short : length z₂ < length (bytes r) = k₂.wrote c₂ d₂ x y (pa.rest c₁ (bytes c₂ ++ x) f₁) (pb.rest d₁ (bytes d₂ ++ y) f₂) r w in
                let same : l₁ ≡ l = some_inj.0 (sym v₁ ∙ v) in
                let n₂ : n ≡ length (bytes l) = rw same at n₁ in
                rw (← d) (omega (arith, z₂_length, length-append (bytes l) (bytes r)))

        pub meets_pair : (n₂ : ℕ) → Meets a i b j z₂ y₂ (Some n₂) → Meets a p b q z x₂ (Some (n + 1 + n₂))
        unfolding encoded code1 tag
        meets_pair n₂ k₂ = record { fits = omega (arith, z₁_length, k.fits, s.room, z₂_length, k₂.fits); wrote = λ t u x y f f'. in_pairs (told t u x y f f') g (Asked x y x₂ (Some (n + 1 + n₂))) (go x y) f f' }
          where
            go : (x y : List ℕ) (c₁ c₂ d₁ d₂ : T) → Asked x y x₂ (Some (n + 1 + n₂)) (Pair c₁ c₂) (Pair d₁ d₂)
            go x y c₁ c₂ d₁ d₂ f f' =
                let f₁ = in_pair a p s.in_a c₁ c₂ x f in
                let f₂ = in_pair b q s.in_b d₁ d₂ y f' in
                let (l₁, v₁, m₁, w₁) = k.wrote c₁ d₁ (bytes c₂ ++ x) (bytes d₂ ++ y) f₁ f₂ in
                let (l₂, v₂, m₂, w₂) = k₂.wrote c₂ d₂ x y (pa.rest c₁ (bytes c₂ ++ x) f₁) (pb.rest d₁ (bytes d₂ ++ y) f₂) in
                let begins : x₁ ≡ over (4 ∷ bytes l₁) z = starts 4 (s.first ∙ head_is a p s.in_a (Pair c₁ c₂) x f) (bytes l₁) w₁ in
                (Pair l₁ l₂, some_pairs c₁ c₂ d₁ d₂ v₁ v₂, omega (arith, length-append (bytes l₁) (bytes l₂)), over_lent (4 ∷ bytes l₁) (bytes l₂) z x₁ y₂ (n + 1) (omega arith) begins w₂)
