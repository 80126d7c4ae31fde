-- Proofs of the statements of specs/Prefix.antt, and the laws that a reader of bytes cites, one for each class of byte.
-- Assumes the laws of a table of codes.
use mathlib.Core.Path.{◌≡◌, refl, sym, ◌∙◌, ap, ap₂}
use mathlib.Core.Option.{Option, none, some, map, some_inj, none-ne-some}
use mathlib.Core.Logic.{◌↔◌}
use mathlib.Core.List.{List, [], ◌∷◌, ◌++◌, append_assoc}
use Prim.Native.Nat.{ℕ, zero, suc, ◌+◌, ◌-◌, ◌≤◌, ◌<◌}
use native.Mathlib.Omega.{arith}
use native.Mathlib.Numerals.{add-one}
use lib.ListN.{length, take, drop, get_or, length-append, length-drop, drop_of_length-le}
use lib.Seq.{drop-cons, take-append_seam}
use Rattle.types.specs.Types.{TypeTable, Ty, Message, Basic, Cipher, Pair}
use Rattle.types.specs.Prefix.{Node, n_message, n_basic, n_cipher, n_pair, Codes, CodeLaws, parts, nodes, encoded, follows, Starts, EndIs, LengthIsNodes, StartsOnce, ReadingIsExact}

module _ {𝓣 : TypeTable} (𝓒 : Codes 𝓣) where
  open 𝓒 use {code, node_of}

  abbrev T : Type 0
  T = Ty 𝓣

  -- the bytes of a type
  abbrev enc : T → List ℕ
  enc = encoded 𝓒

  pub length_is_nodes : LengthIsNodes 𝓒
  unfolding encoded nodes
  length_is_nodes Message = refl
  length_is_nodes (Basic l) = refl
  length_is_nodes (Cipher u a) = ap suc (length_is_nodes a)
  length_is_nodes (Pair a b) = let h = length_is_nodes a in let k = length_is_nodes b in let m = length-append (enc a) (enc b) in omega arith

  -- the node that a type starts with
  unfoldable pub first : T → Node 𝓣
  first Message = n_message
  first (Basic l) = n_basic l
  first (Cipher u a) = n_cipher u
  first (Pair a b) = n_pair

  -- a type has a byte at least
  pub not_empty : (a : T) (r : List ℕ) → [] ≡ enc a ++ r → ⊥
  unfolding encoded
  not_empty Message r e = let z : ◌≡◌ {A = ℕ} 0 1 = cc in omega arith
  not_empty (Basic l) r e = let z : ◌≡◌ {A = ℕ} 0 1 = cc in omega arith
  not_empty (Cipher u a) r e = let z : ◌≡◌ {A = ℕ} 0 1 = cc in omega arith
  not_empty (Pair a b) r e = let z : ◌≡◌ {A = ℕ} 0 1 = cc in omega arith

  pub some_bytes : (a : T) → 0 < length (enc a)
  unfolding encoded
  some_bytes Message = omega arith
  some_bytes (Basic l) = omega arith
  some_bytes (Cipher u a) = omega arith
  some_bytes (Pair a b) = omega arith

  cipher_cons : (u : 𝓣.Former) (a : T) (b : ℕ) (l r : List ℕ) → b ≡ code (n_cipher u) → (b ∷ l ≡ enc (Cipher u a) ++ r) ↔ (l ≡ enc a ++ r)
  unfolding encoded
  cipher_cons u a b l r h = (λ e. cc, λ e. cc)

  pair_cons : (a c : T) (b : ℕ) (l r : List ℕ) → b ≡ code n_pair → (b ∷ l ≡ enc (Pair a c) ++ r) ↔ (l ≡ enc a ++ (enc c ++ r))
  unfolding encoded
  pair_cons a c b l r h = (λ e. cc (append_assoc (enc a) (enc c) r), λ e. cc (append_assoc (enc a) (enc c) r))

  message_cons : (b : ℕ) (l : List ℕ) → b ≡ code n_message → b ∷ l ≡ enc Message ++ l
  unfolding encoded
  message_cons b l e = cc

  basic_cons : (x : 𝓣.forest.Base) (b : ℕ) (l : List ℕ) → b ≡ code (n_basic x) → b ∷ l ≡ enc (Basic x) ++ l
  unfolding encoded
  basic_cons x b l e = cc

  module _ (laws : CodeLaws 𝓒) where
    open laws use {known, only}

    code_one : (g h : Node 𝓣) → code g ≡ code h → g ≡ h
    code_one g h e = some_inj.0 (sym (known g) ∙ ap node_of e ∙ known h)

    heads : (g h : Node 𝓣) (l m : List ℕ) → code g ∷ l ≡ code h ∷ m → (g ≡ h) × (l ≡ m)
    heads g h l m e = (code_one g h cc, cc)

    parts_once : (a b c d : T) (r s : List ℕ) → (a ≡ c) × (enc b ++ r ≡ enc d ++ s) → ((enc b ++ r ≡ enc d ++ s) → (b ≡ d) × (r ≡ s)) → (◌≡◌ {A = T} (Pair a b) (Pair c d)) × (r ≡ s)
    parts_once a b c d r s (p, q) f = let (x, y) = f q in (ap₂ Pair p x, y)

    pub starts_once : StartsOnce 𝓒
    unfolding encoded
    starts_once Message Message r s e = (refl, cc)
    starts_once Message (Basic l) r s e = let (h, t) = heads n_message (n_basic l) r s e in (cc, t)
    starts_once Message (Cipher v b) r s e = let (h, t) = heads n_message (n_cipher v) r (enc b ++ s) e in (cc, cc)
    starts_once Message (Pair c d) r s e = let (h, t) = heads n_message n_pair r ((enc c ++ enc d) ++ s) e in (cc, cc)
    starts_once (Basic l) Message r s e = let (h, t) = heads (n_basic l) n_message r s e in (cc, t)
    starts_once (Basic l) (Basic m) r s e = let (h, t) = heads (n_basic l) (n_basic m) r s e in (cc, t)
    starts_once (Basic l) (Cipher v b) r s e = let (h, t) = heads (n_basic l) (n_cipher v) r (enc b ++ s) e in (cc, cc)
    starts_once (Basic l) (Pair c d) r s e = let (h, t) = heads (n_basic l) n_pair r ((enc c ++ enc d) ++ s) e in (cc, cc)
    starts_once (Cipher u a) Message r s e = let (h, t) = heads (n_cipher u) n_message (enc a ++ r) s e in (cc, cc)
    starts_once (Cipher u a) (Basic m) r s e = let (h, t) = heads (n_cipher u) (n_basic m) (enc a ++ r) s e in (cc, cc)
    starts_once (Cipher u a) (Cipher v b) r s e = let (h, t) = heads (n_cipher u) (n_cipher v) (enc a ++ r) (enc b ++ s) e in let (p, q) = starts_once a b r s t in (cc, q)
    starts_once (Cipher u a) (Pair c d) r s e = let (h, t) = heads (n_cipher u) n_pair (enc a ++ r) ((enc c ++ enc d) ++ s) e in (cc, cc)
    starts_once (Pair a b) Message r s e = let (h, t) = heads n_pair n_message ((enc a ++ enc b) ++ r) s e in (cc, cc)
    starts_once (Pair a b) (Basic m) r s e = let (h, t) = heads n_pair (n_basic m) ((enc a ++ enc b) ++ r) s e in (cc, cc)
    starts_once (Pair a b) (Cipher v d) r s e = let (h, t) = heads n_pair (n_cipher v) ((enc a ++ enc b) ++ r) (enc d ++ s) e in (cc, cc)
    starts_once (Pair a b) (Pair c d) r s e = let (h, t) = heads n_pair n_pair ((enc a ++ enc b) ++ r) ((enc c ++ enc d) ++ s) e in
        parts_once a b c d r s (starts_once a c (enc b ++ r) (enc d ++ s) (simp append_assoc at t)) (λ q. starts_once b d r s q)

    -- the first byte says which node a type starts with
    pub first_byte : (b : ℕ) (l : List ℕ) (a : T) (r : List ℕ) → b ∷ l ≡ enc a ++ r → node_of b ≡ some (first a)
    unfolding encoded first
    first_byte b l Message r e = let h : b ≡ code n_message = cc in rw h (known n_message)
    first_byte b l (Basic x) r e = let h : b ≡ code (n_basic x) = cc in rw h (known (n_basic x))
    first_byte b l (Cipher u a) r e = let h : b ≡ code (n_cipher u) = cc in rw h (known (n_cipher u))
    first_byte b l (Pair c d) r e = let h : b ≡ code n_pair = cc in rw h (known n_pair)

    cipher_shape_lem : (a : T) (u : 𝓣.Former) → first a ≡ n_cipher u → (b : T) × (a ≡ Cipher u b)
    unfolding first
    cipher_shape_lem Message u e = absurd (let z : ◌≡◌ {A = ℕ} 0 1 = cc in omega arith)
    cipher_shape_lem (Basic l) u e = absurd (let z : ◌≡◌ {A = ℕ} 0 1 = cc in omega arith)
    cipher_shape_lem (Cipher v b) u e = (b, cc)
    cipher_shape_lem (Pair b c) u e = absurd (let z : ◌≡◌ {A = ℕ} 0 1 = cc in omega arith)

    pair_shape_lem : (a : T) → first a ≡ n_pair → (b : T) × (c : T) × (a ≡ Pair b c)
    unfolding first
    pair_shape_lem Message e = absurd (let z : ◌≡◌ {A = ℕ} 0 1 = cc in omega arith)
    pair_shape_lem (Basic l) e = absurd (let z : ◌≡◌ {A = ℕ} 0 1 = cc in omega arith)
    pair_shape_lem (Cipher v b) e = absurd (let z : ◌≡◌ {A = ℕ} 0 1 = cc in omega arith)
    pair_shape_lem (Pair b c) e = (b, c, refl)

    -- ── What a list that starts with a known byte starts with ──

    -- a ciphertext's byte, then its inside
    pub cipher_inside : (u : 𝓣.Former) (b : ℕ) (l r : List ℕ) (a : T) → node_of b ≡ some (n_cipher u) → b ∷ l ≡ enc a ++ r → (c : T) × (a ≡ Cipher u c) × (l ≡ enc c ++ r)
    cipher_inside u b l r a t e =
        let (c, h) = cipher_shape_lem a u (some_inj.0 (sym (first_byte b l a r e) ∙ t)) in
        (c, h, (cipher_cons u c b l r (only b (n_cipher u) t)).0 (rw h at e))

    -- a pair's byte, then its parts
    pub pair_inside : (b : ℕ) (l r : List ℕ) (a : T) → node_of b ≡ some n_pair → b ∷ l ≡ enc a ++ r → (c : T) × (d : T) × (a ≡ Pair c d) × (l ≡ enc c ++ (enc d ++ r))
    pair_inside b l r a t e =
        let (c, d, h) = pair_shape_lem a (some_inj.0 (sym (first_byte b l a r e) ∙ t)) in
        (c, d, h, (pair_cons c d b l r (only b n_pair t)).0 (rw h at e))

    -- ── Reading is exact ──
    abbrev Begins : List ℕ → Type 0
    Begins l = (a : T) × (r : List ℕ) × (l ≡ enc a ++ r)

    then_cipher : (b : ℕ) (l : List ℕ) (u : 𝓣.Former) → node_of b ≡ some (n_cipher u) → Dec (Begins l) → Dec (Begins (b ∷ l))
    then_cipher b l u t (yes (a, r, e)) = yes (Cipher u a, r, (cipher_cons u a b l r (only b (n_cipher u) t)).1 e)
    then_cipher b l u t (no n) = no λ (x : Begins (b ∷ l)). let (c, h, q) = cipher_inside u b l x.1 x.0 t x.2 in n (c, x.1, q)

    then_right : (b : ℕ) (l m : List ℕ) (a : T) → node_of b ≡ some n_pair → l ≡ enc a ++ m → Dec (Begins m) → Dec (Begins (b ∷ l))
    then_right b l m a t k (yes (c, r, e)) = yes (Pair a c, r, (pair_cons a c b l r (only b n_pair t)).1 cc)
    then_right b l m a t k (no n) = no λ (x : Begins (b ∷ l)).
        let (c, d, h, q) = pair_inside b l x.1 x.0 t x.2 in
        n (d, x.1, (starts_once a c m (enc d ++ x.1) (sym k ∙ q)).1)

    then_left : (b : ℕ) (l : List ℕ) → node_of b ≡ some n_pair → Dec (Begins l) → ((m : List ℕ) → length m ≤ length l → Dec (Begins m)) → Dec (Begins (b ∷ l))
    then_left b l t (yes (a, r, e)) h = then_right b l r a t e (h r (omega (arith, ap length e, length-append (enc a) r)))
    then_left b l t (no n) h = no λ (x : Begins (b ∷ l)). let (c, d, k, q) = pair_inside b l x.1 x.0 t x.2 in n (c, enc d ++ x.1, q)

    by_node : (b : ℕ) (l : List ℕ) (o : Option (Node 𝓣)) → node_of b ≡ o → ((m : List ℕ) → length m ≤ length l → Dec (Begins m)) → Dec (Begins (b ∷ l))
    by_node b l none t h = no λ (x : Begins (b ∷ l)). none-ne-some (first x.0) (sym t ∙ first_byte b l x.0 x.1 x.2)
    by_node b l (some n_message) t h = yes (Message, l, message_cons b l (only b n_message t))
    by_node b l (some n_pair) t h = then_left b l t (h l (omega arith)) h
    by_node b l (some (n_basic x)) t h = yes (Basic x, l, basic_cons x b l (only b (n_basic x) t))
    by_node b l (some (n_cipher u)) t h = then_cipher b l u t (h l (omega arith))

    -- n bounds the length
    read : (n : ℕ) (l : List ℕ) → length l ≤ n → Dec (Begins l)
    read zero [] h = no λ (x : Begins []). not_empty x.0 x.1 x.2
    read zero (b ∷ l) h = absurd (omega arith)
    read (suc n) [] h = no λ (x : Begins []). not_empty x.0 x.1 x.2
    read (suc n) (b ∷ l) h = by_node b l (node_of b) refl (λ m k. read n m (omega arith))

    pub reading_is_exact : ReadingIsExact 𝓒
    reading_is_exact l = read (length l) l (omega arith)

    -- ── The classes of bytes ──
    -- a byte followed by no part is a whole type
    pub whole : (b : ℕ) → follows 𝓒 b ≡ some 0 → (a : T) × (enc a ≡ b ∷ [])
    unfolding follows parts encoded
    whole b e = go (node_of b) refl e
      where
        go : (o : Option (Node 𝓣)) → node_of b ≡ o → map (parts 𝓣) o ≡ some 0 → (a : T) × (enc a ≡ b ∷ [])
        go none q e = absurd (let z : ◌≡◌ {A = ℕ} 0 1 = cc in omega arith)
        go (some n_message) q e = (Message, cc (only b n_message q))
        go (some (n_basic x)) q e = (Basic x, cc (only b (n_basic x) q))
        go (some (n_cipher u)) q e = absurd (let z : ◌≡◌ {A = ℕ} 1 0 = cc in omega arith)
        go (some n_pair) q e = absurd (let z : ◌≡◌ {A = ℕ} 2 0 = cc in omega arith)

    one_part : (b : ℕ) → follows 𝓒 b ≡ some 1 → (u : 𝓣.Former) × (node_of b ≡ some (n_cipher u))
    unfolding follows parts
    one_part b e = go (node_of b) refl e
      where
        go : (o : Option (Node 𝓣)) → node_of b ≡ o → map (parts 𝓣) o ≡ some 1 → (u : 𝓣.Former) × (node_of b ≡ some (n_cipher u))
        go none q e = absurd (let z : ◌≡◌ {A = ℕ} 0 1 = cc in omega arith)
        go (some n_message) q e = absurd (let z : ◌≡◌ {A = ℕ} 0 1 = cc in omega arith)
        go (some (n_basic x)) q e = absurd (let z : ◌≡◌ {A = ℕ} 0 1 = cc in omega arith)
        go (some (n_cipher u)) q e = (u, q)
        go (some n_pair) q e = absurd (let z : ◌≡◌ {A = ℕ} 2 1 = cc in omega arith)

    two_parts : (b : ℕ) → follows 𝓒 b ≡ some 2 → node_of b ≡ some n_pair
    unfolding follows parts
    two_parts b e = go (node_of b) refl e
      where
        go : (o : Option (Node 𝓣)) → node_of b ≡ o → map (parts 𝓣) o ≡ some 2 → node_of b ≡ some n_pair
        go none q e = absurd (let z : ◌≡◌ {A = ℕ} 0 1 = cc in omega arith)
        go (some n_message) q e = absurd (let z : ◌≡◌ {A = ℕ} 0 2 = cc in omega arith)
        go (some (n_basic x)) q e = absurd (let z : ◌≡◌ {A = ℕ} 0 2 = cc in omega arith)
        go (some (n_cipher u)) q e = absurd (let z : ◌≡◌ {A = ℕ} 1 2 = cc in omega arith)
        go (some n_pair) q e = q

    unknown : (b : ℕ) → follows 𝓒 b ≡ none → node_of b ≡ none
    unfolding follows parts
    unknown b e = go (node_of b) refl e
      where
        go : (o : Option (Node 𝓣)) → node_of b ≡ o → map (parts 𝓣) o ≡ none → node_of b ≡ none
        go none q e = q
        go (some n_message) q e = absurd (let z : ◌≡◌ {A = ℕ} 0 1 = cc in omega arith)
        go (some (n_basic x)) q e = absurd (let z : ◌≡◌ {A = ℕ} 0 1 = cc in omega arith)
        go (some (n_cipher u)) q e = absurd (let z : ◌≡◌ {A = ℕ} 0 1 = cc in omega arith)
        go (some n_pair) q e = absurd (let z : ◌≡◌ {A = ℕ} 0 1 = cc in omega arith)

    -- ── A reader over places: one law for each class of byte ──
    -- no type starts past the end
    pub ends_past : (s : List ℕ) (p : ℕ) → length s ≤ p → EndIs 𝓒 s p none
    ends_past s p h a r e = not_empty a r (sym (drop_of_length-le s h) ∙ e)

    module _ (s : List ℕ) (p : ℕ) (h : p < length s) where
      from : drop p s ≡ get_or s p 0 ∷ drop (p + 1) s
      from = rw add-one (drop-cons s p 0 h)

      pub ends_unknown : follows 𝓒 (get_or s p 0) ≡ none → EndIs 𝓒 s p none
      ends_unknown g a r e = none-ne-some (first a) (sym (unknown (get_or s p 0) g) ∙ first_byte (get_or s p 0) (drop (p + 1) s) a r (sym from ∙ e))

      pub ends_whole : follows 𝓒 (get_or s p 0) ≡ some 0 → EndIs 𝓒 s p (some (p + 1))
      ends_whole g = let (a, q) = whole (get_or s p 0) g in (a, rw q (omega arith), rw q from)

      -- a type of one part ends where the part ends
      pub ends_one : follows 𝓒 (get_or s p 0) ≡ some 1 → (o : Option ℕ) → EndIs 𝓒 s (p + 1) o → EndIs 𝓒 s p o
      unfolding encoded
      ends_one g (some e) w =
          let (u, t) = one_part (get_or s p 0) g in
          (Cipher u w.0, omega (arith, w.1), from ∙ (cipher_cons u w.0 (get_or s p 0) (drop (p + 1) s) (drop e s) (only (get_or s p 0) (n_cipher u) t)).1 w.2)
      ends_one g none w = λ a r e.
          let (u, t) = one_part (get_or s p 0) g in
          let (c, i, q) = cipher_inside u (get_or s p 0) (drop (p + 1) s) r a t (sym from ∙ e) in
          w c r q

      -- a pair fails where its left part fails
      pub ends_two_none : follows 𝓒 (get_or s p 0) ≡ some 2 → EndIs 𝓒 s (p + 1) none → EndIs 𝓒 s p none
      ends_two_none g w a r e =
          let (c, d, i, q) = pair_inside (get_or s p 0) (drop (p + 1) s) r a (two_parts (get_or s p 0) g) (sym from ∙ e) in
          w c (enc d ++ r) q

      -- else it ends where its right part ends
      pub ends_two : follows 𝓒 (get_or s p 0) ≡ some 2 → (m : ℕ) → EndIs 𝓒 s (p + 1) (some m) → (o : Option ℕ) → EndIs 𝓒 s m o → EndIs 𝓒 s p o
      unfolding encoded
      ends_two g m v (some e) w =
          let t = two_parts (get_or s p 0) g in
          let k = length-append (enc v.0) (enc w.0) in
          (Pair v.0 w.0, omega (arith, v.1, w.1), from ∙ (pair_cons v.0 w.0 (get_or s p 0) (drop (p + 1) s) (drop e s) (only (get_or s p 0) n_pair t)).1 (v.2 ∙ ap (λ (l : List ℕ). enc v.0 ++ l) w.2))
      ends_two g m v none w = λ a r e.
          let (c, d, i, q) = pair_inside (get_or s p 0) (drop (p + 1) s) r a (two_parts (get_or s p 0) g) (sym from ∙ e) in
          w d r (starts_once v.0 c (drop m s) (enc d ++ r) (sym v.2 ∙ q)).1

    module _ (s : List ℕ) (p e : ℕ) (w : EndIs 𝓒 s p (some e)) where
      -- a type lies inside the list
      pub ends_inside : e ≤ length s
      ends_inside =
          let q : length s - p ≡ length (enc w.0) + (length s - e) = sym (length-drop p s) ∙ ap (λ (l : List ℕ). length l) w.2 ∙ length-append (enc w.0) (drop e s) ∙ ap (λ (n : ℕ). length (enc w.0) + n) (length-drop e s) in
          omega (arith, w.1, some_bytes w.0)

      -- its bytes are the part from p up to e
      pub ends_part : take (e - p) (drop p s) ≡ enc w.0
      ends_part =
          let q : e - p ≡ length (enc w.0) = omega (arith, w.1) in
          rw (q, w.2) (take-append_seam (enc w.0) (drop e s))

      -- and no other type starts there
      pub ends_type : (a : T) (r : List ℕ) → Starts 𝓒 (drop p s) a r → (w.0 ≡ a) × (drop e s ≡ r)
      ends_type a r i = starts_once w.0 a (drop e s) r (sym w.2 ∙ i)
