-- The walk of `push` along a type's bytes: one law for each turn and each way out. Assumes nothing.
use mathlib.Core.Path.{◌≡◌, refl, sym, ap, ◌∙◌}
use mathlib.Core.Bool.{decide}
use mathlib.Core.List.{List, [], ◌∷◌, ◌++◌, reverse}
use mathlib.Core.Option.{Option, none, some, map, bind}
use Prim.Native.Nat.{ℕ, ◌+◌, ◌≤◌, ◌<◌}
use native.Mathlib.Omega.{arith}
use lib.ListN.{length, drop, get_or, length-append, length-drop}
use Rattle.types.specs.Types.{Message, Basic, Cipher, Pair}
use Rattle.types.specs.Prefix.{encoded}
use Rattle.types.specs.Version1.{T, bytes, shared, code1}
use Rattle.type_bytes.specs.Ends.{Past}
use Rattle.type_bytes.proofs.EndLaws.{tag, bytes_some, no_type, head_is, in_pair, in_cipher, as_message, as_pair, as_cipher}
use Rattle.calculus.specs.Signature.{pairing, seal}
use Rattle.calculus.specs.Terms.{build2}
use Rattle.calculus.specs.Tables.{Entry, leaf_entry, kind_entry}
use Rattle.calculus.specs.Figure2.{Env, extend}
use Rattle.calculus.specs.Inference.{by_entry, push}
use Rattle.calculus.specs.Version1.{signature1, encryption}
use Rattle.std.proofs.Common.{Some, None}
use Rattle.std.proofs.lemmas.List.{reverse-append, length-reverse}
use Rattle.slots.specs.Fit.{Fit}
use Rattle.slots.specs.Terms.{code_at, part_at, entry, InRange}
use Rattle.slots.specs.Slots.{Holds, Left, meet_in, Met}
use Rattle.slots.specs.Push.{Pushed}
use Rattle.slots.proofs.TermLaws.{entry_symbol, entry_pair, entry_seal}

-- the meaning's `push` at an entry of each kind
module _ (m : T → T → Option T) (f : ℕ → Entry signature1 ℕ) (t : ℕ) (Γ : Env signature1) where
  abbrev to : T → ℕ → Env signature1 → Option (Env signature1)
  to = push signature1 m f

  at_message : (a : T) → a ≡ Message → to a t Γ ≡ some Γ
  unfolding push
  at_message a e = rw e

  at_symbol : (a : T) (x : ℕ) → f t ≡ leaf_entry x → ¬ (a ≡ Message) → to a t Γ ≡ map (extend signature1 Γ x) (m (Γ x) a)
  unfolding push by_entry
  at_symbol Message x e n = absurd (n refl)
  at_symbol (Basic l) x e n = rw e
  at_symbol (Cipher u a) x e n = rw e
  at_symbol (Pair a b) x e n = rw e

  at_pair : (a b : T) (i j : ℕ) → f t ≡ kind_entry (build2 pairing i j) → to (Pair a b) t Γ ≡ bind (to a i Γ) (λ Θ. to b j Θ)
  unfolding push by_entry
  at_pair a b i j e = rw e

  at_seal : (a : T) (i j : ℕ) → f t ≡ kind_entry (build2 (seal encryption) i j) → to (Cipher shared a) t Γ ≡ to a i Γ
  unfolding push by_entry decide
  at_seal a i j e = rw e

  not_pair : (a : T) (i j : ℕ) → f t ≡ kind_entry (build2 pairing i j) → ¬ (tag a ≡ 0) → ¬ (tag a ≡ 4) → to a t Γ ≡ none
  unfolding push by_entry tag
  not_pair Message i j e n q = absurd (n refl)
  not_pair (Basic l) i j e n q = rw e
  not_pair (Cipher u a) i j e n q = rw e
  not_pair (Pair a b) i j e n q = absurd (q refl)

  not_seal : (a : T) (i j : ℕ) → f t ≡ kind_entry (build2 (seal encryption) i j) → ¬ (tag a ≡ 0) → ¬ (tag a ≡ 5) → to a t Γ ≡ none
  unfolding push by_entry tag
  not_seal Message i j e n q = absurd (n refl)
  not_seal (Basic l) i j e n q = rw e
  not_seal (Cipher shared a) i j e n q = absurd (q refl)
  not_seal (Pair a b) i j e n q = rw e

-- ── What the walk keeps ──

abbrev Result : Type 0
Result = Option (Env signature1)

abbrev pushed : List ℕ → T → ℕ → Env signature1 → Result
pushed s a t Γ = push signature1 meet_in (entry s) a t Γ

-- the list m has a type for each term, point by point, then l; o is what comes of giving them their types one after the other, from Θ on
unfoldable pub Goes : List ℕ → List ℕ → List ℕ → List ℕ → Env signature1 → Result → Type 0
Goes s [] m l Θ o = (m ≡ l) × (o ≡ some Θ)
Goes s (u ∷ us) m l Θ o = (b : T) × (k : List ℕ) × (G : (Env signature1 → Result)) × (m ≡ bytes b ++ k) × (o ≡ bind (pushed s b u Θ) G) × ((Ξ : Env signature1) → Goes s us k l Ξ (G Ξ))

-- the slots w hold an environment from which the pending terms and the types from byte `at` on give the result; pending terms and bytes to come are
-- at most 260 in all
pub record Rest (s y : List ℕ) (at : ℕ) (l us w : List ℕ) (o : Result) : Type 0 where
  pub here : Env signature1
  pub holds : Holds w here
  pub few : length us + length (drop at y) ≤ 260 + length l
  pub goes : Goes s us (drop at y) l here o

-- the walk for term t and the type at p has come to byte `at`
pub record Walked (w₀ s : List ℕ) (t : ℕ) (y : List ℕ) (p : ℕ) (w : List ℕ) (at : ℕ) (us : List ℕ) : Type 0 where
  pub rest : (Γ : Env signature1) (a : T) (l : List ℕ) → InRange s → Holds w₀ Γ → drop p y ≡ bytes a ++ l → length (bytes a) ≤ 259
      → Rest s y at l us w (pushed s a t Γ)

bind_some : (o : Result) → o ≡ bind o some
unfolding bind
bind_some none = refl
bind_some (some Θ) = refl

bind_none : {o p : Result} (G : Env signature1 → Result) → p ≡ bind o G → o ≡ none → p ≡ none
unfolding bind
bind_none G e n = e ∙ rw n

bind_to : {o p : Result} {Θ : Env signature1} (G : Env signature1 → Result) → p ≡ bind o G → o ≡ some Θ → p ≡ G Θ
unfolding bind
bind_to G e n = e ∙ rw n

bind_bind : (o : Result) (F G : Env signature1 → Result) → bind (bind o F) G ≡ bind o (λ Θ. bind (F Θ) G)
unfolding bind
bind_bind none F G = refl
bind_bind (some Θ) F G = refl

goes_length : (s us m l : List ℕ) (Θ : Env signature1) (o : Result) → Goes s us m l Θ o → length us + length l ≤ length m
unfolding Goes
goes_length s [] m l Θ o g = omega (arith, ap length g.0)
goes_length s (u ∷ us) m l Θ o (b, k, G, i, j, z) =
    omega (arith, goes_length s us k l Θ (G Θ) (z Θ), bytes_some b, ap length i ∙ length-append (bytes b) k)

goes_same : (s us l : List ℕ) (Θ : Env signature1) {m k : List ℕ} {o x : Result} → m ≡ k → o ≡ x → Goes s us k l Θ x → Goes s us m l Θ o
goes_same s us l Θ e f g = rw (e, f) g

pair_bytes : (a b : T) → 3 ≤ length (bytes (Pair a b))
unfolding encoded code1
pair_bytes a b = omega (arith, bytes_some a, bytes_some b, length-append (bytes a) (bytes b))

pair_long : (a : T) → 4 ≡ tag a → 3 ≤ length (bytes a)
pair_long a e = let (b, c, q) = as_pair a e in rw q (pair_bytes b c)

-- the parts of a type follow its code
pair_starts : (y : List ℕ) (at : ℕ) → at < length y → (a b c : T) (k : List ℕ) → a ≡ Pair b c → drop at y ≡ bytes a ++ k → drop (at + 1) y ≡ bytes b ++ (bytes c ++ k)
pair_starts y at h a b c k q e = in_pair y at h b c k (rw q at e)

seal_starts : (y : List ℕ) (at : ℕ) → at < length y → (a b : T) (k : List ℕ) → a ≡ Cipher shared b → drop at y ≡ bytes a ++ k → drop (at + 1) y ≡ bytes b ++ k
seal_starts y at h a b k q e = in_cipher y at h b k (rw q at e)

-- and go to the parts of the term
module _ (s : List ℕ) (u i j : ℕ) (a b : T) where
  pair_comes : (c : T) (Θ : Env signature1) (G : Env signature1 → Result) {o : Result} → a ≡ Pair b c → entry s u ≡ kind_entry (build2 pairing i j)
      → o ≡ bind (pushed s a u Θ) G → o ≡ bind (pushed s b i Θ) (λ Ξ. bind (pushed s c j Ξ) G)
  pair_comes c Θ G q e p = p ∙ rw (q, at_pair meet_in (entry s) u Θ b c i j e) (bind_bind (pushed s b i Θ) (λ Ξ. pushed s c j Ξ) G)

  seal_comes : (Θ : Env signature1) (G : Env signature1 → Result) {o : Result} → a ≡ Cipher shared b → entry s u ≡ kind_entry (build2 (seal encryption) i j)
      → o ≡ bind (pushed s a u Θ) G → o ≡ bind (pushed s b i Θ) G
  seal_comes Θ G q e p = p ∙ rw (q, at_seal meet_in (entry s) u Θ b i j e)

-- ── The start, and the end ──

module _ (w₀ s : List ℕ) (t : ℕ) (y : List ℕ) (p : ℕ) where
  pub walk_start : Walked w₀ s t y p w₀ p (t ∷ [])
  unfolding Goes
  walk_start = record {
    rest = λ Γ a l r h e k. record {
      here = Γ;
      holds = h;
      few = omega (arith, ap length e ∙ length-append (bytes a) l);
      goes = (a, l, some, e, bind_some (pushed s a t Γ), λ Ξ. (refl, refl));
    };
  }

  pub walk_done : (w : List ℕ) (at : ℕ) (xs : List ℕ) → length xs ≤ 0 → Walked w₀ s t y p w at (reverse xs) → Pushed w₀ s t y p w (Some tt)
  unfolding Goes
  walk_done w at [] z g = record { left = λ Γ b l r h e n. let x = g.rest Γ b l r h e n in (x.here, x.goes.1, x.holds) }
  walk_done w at (u ∷ xs) z g = absurd (omega arith)

-- ── A term is given its type ──

last_first : (xs ys : List ℕ) (u : ℕ) → xs ≡ ys ++ (u ∷ []) → reverse xs ≡ u ∷ reverse ys
last_first xs ys u e = rw e (reverse-append ys (u ∷ []))

-- of the pending terms xs the last one is u, and is popped; ys are left
module _ {w₀ s : List ℕ} {t : ℕ} {y : List ℕ} {p : ℕ} {w : List ℕ} {at : ℕ} {xs : List ℕ} (u : ℕ) (ys : List ℕ) (popped : xs ≡ ys ++ (u ∷ [])) (all : Walked w₀ s t y p w at (reverse xs)) where
  abbrev us : List ℕ
  us = reverse ys

  g : Walked w₀ s t y p w at (u ∷ us)
  g = rw (← last_first xs ys u popped) all

  -- what is known of the next term's type: the slots' environment, and that giving it to the term comes first
  record Next (l : List ℕ) (o : Result) : Type 0 where
    pub here : Env signature1
    pub holds : Holds w here
    pub few : 1 + length us + length (drop at y) ≤ 260 + length l
    pub type : T
    pub others : List ℕ
    pub then : Env signature1 → Result
    pub starts : drop at y ≡ bytes type ++ others
    pub comes : o ≡ bind (pushed s type u here) then
    pub on : (Ξ : Env signature1) → Goes s us others l Ξ (then Ξ)

  next : (Γ : Env signature1) (b : T) (l : List ℕ) → InRange s → Holds w₀ Γ → drop p y ≡ bytes b ++ l → length (bytes b) ≤ 259 → Next l (pushed s b t Γ)
  unfolding Goes
  next Γ b l r h e k =
      let x = g.rest Γ b l r h e k in
      let (c, m, G, i, j, z) = x.goes in
      record { here = x.here; holds = x.holds; few = omega (arith, x.few); type = c; others = m; then = G; starts = i; comes = j; on = z }

  -- there is no type, or its bytes are too many: any answer will do
  stops : (o : List ℕ) (r : Fit) → ((l : List ℕ) (x : Result) → Next l x → ⊥) → Pushed w₀ s t y p o r
  stops o r f = record { left = λ Γ b l i h e k. absurd (f l (pushed s b t Γ) (next Γ b l i h e k)) }

  -- the term can't have its type
  fails : (o : List ℕ) → ((l : List ℕ) (x : Result) → InRange s → (n : Next l x) → pushed s n.type u n.here ≡ none) → Pushed w₀ s t y p o None
  fails o f = record {
    left = λ Γ b l i h e k.
        let n = next Γ b l i h e k in
        bind_none n.then n.comes (f l (pushed s b t Γ) i n);
  }

  -- it has it: the walk goes on behind the type
  goes_on : (o : List ℕ) (m : ℕ) → Past y at m → ((l : List ℕ) (x : Result) → InRange s → (n : Next l x) → (Θ : Env signature1) × (pushed s n.type u n.here ≡ some Θ) × Holds o Θ) → Walked w₀ s t y p o m (reverse ys)
  goes_on o m past f = record {
    rest = λ Γ b l i h e k.
        let n = next Γ b l i h e k in
        let (Θ, q, v) = f l (pushed s b t Γ) i n in
        let c : drop m y ≡ n.others = past.rest n.type n.others n.starts in
        record {
          here = Θ;
          holds = v;
          few = omega (arith, n.few, ap length c, ap length n.starts ∙ length-append (bytes n.type) n.others);
          goes = goes_same s us l Θ c (bind_to n.then n.comes q) (n.on Θ);
        };
  }

  pub walk_past : (o : List ℕ) (r : Fit) → length y ≤ at → Pushed w₀ s t y p o r
  walk_past o r h = stops o r (λ l x n. no_type y at n.type n.others h n.starts)

  -- byte b of the types is read
  module _ {b : ℕ} (read : (at < length y) × (b ≡ get_or y at 0)) where
    tag_is : {l : List ℕ} {x : Result} (n : Next l x) → b ≡ tag n.type
    tag_is n = read.1 ∙ head_is y at read.0 n.type n.others n.starts

    pub walk_message : (m : ℕ) → b ≡ 0 → Past y at m → Walked w₀ s t y p w m (reverse ys)
    walk_message m z past = goes_on w m past (λ l x i n. (n.here, at_message meet_in (entry s) u n.here n.type (as_message n.type (sym z ∙ tag_is n)), n.holds))

    module _ (nz : ¬ (b ≡ 0)) {k i : ℕ} (hk : k ≡ code_at s u) (hi : i ≡ part_at s u 0) where
      module _ (z : k ≡ 0) (o : List ℕ) where
        met : (r : Fit) → Met w i y at o r → (l : List ℕ) (x : Result) → InRange s → (n : Next l x) → Left (pushed s n.type u n.here) o r
        unfolding tag
        met r v l x ir n =
            let e : entry s u ≡ leaf_entry i = rw hi (entry_symbol s u (sym hk ∙ z)) in
            let c : ¬ (n.type ≡ Message) = λ q. nz (tag_is n ∙ ap tag q) in
            rw (at_symbol meet_in (entry s) u n.here n.type i e c) (v.left n.here n.type n.others (rw hi (ir.slotted u (sym hk ∙ z))) n.holds n.starts)

        pub walk_apart : Met w i y at o None → Pushed w₀ s t y p o None
        walk_apart v = fails o (met None v)

        pub walk_met : (m : ℕ) → Met w i y at o (Some tt) → Past y at m → Walked w₀ s t y p o m (reverse ys)
        walk_met m v past = goes_on o m past (met (Some tt) v)

      pair_is : k ≡ 1 → (j : ℕ) → j ≡ part_at s u 1 → entry s u ≡ kind_entry (build2 pairing i j)
      pair_is z j hj = rw (hi, hj) (entry_pair s u (sym hk ∙ z))

      seal_is : ¬ (k ≡ 0) → ¬ (k ≡ 1) → InRange s → entry s u ≡ kind_entry (build2 (seal encryption) i (part_at s u 1))
      seal_is c f r = rw hi (entry_seal s u (omega (arith, hk, c, f, r.known u)))

      module _ (z : k ≡ 1) where
        pub walk_not_pair : (o : List ℕ) → ¬ (b ≡ 4) → Pushed w₀ s t y p o None
        walk_not_pair o f = fails o (λ l x r n. not_pair meet_in (entry s) u n.here n.type i _ (pair_is z (part_at s u 1) refl) (λ q. nz (tag_is n ∙ q)) (λ q. f (tag_is n ∙ q)))

        module _ (four : b ≡ 4) where
          -- more than 130 terms are never pending
          pub walk_full : (o : List ℕ) (r : Fit) (j : ℕ) (zs : List ℕ) → zs ≡ ys ++ (j ∷ []) → 130 ≤ length zs → Pushed w₀ s t y p o r
          walk_full o r j zs q c = stops o r (λ l x n.
              omega (arith, n.few, pair_long n.type (sym four ∙ tag_is n), ap length n.starts ∙ length-append (bytes n.type) n.others, goes_length s us n.others l n.here (n.then n.here) (n.on n.here), length-reverse ys, ap length q ∙ length-append ys (j ∷ [])))

          pair_on : (j : ℕ) → j ≡ part_at s u 1 → Walked w₀ s t y p w (at + 1) (i ∷ j ∷ us)
          unfolding Goes
          pair_on j hj = record {
            rest = λ Γ b l r v e c.
                let n = next Γ b l r v e c in
                let (C, D, q) = as_pair n.type (sym four ∙ tag_is n) in
                record {
                  here = n.here;
                  holds = n.holds;
                  few = omega (arith, n.few, length-drop at y, length-drop (at + 1) y);
                  goes = (C, bytes D ++ n.others, λ Ξ. bind (pushed s D j Ξ) n.then, pair_starts y at read.0 n.type C D n.others q n.starts, pair_comes s u i j n.type C D n.here n.then q (pair_is z j hj) n.comes, λ Ξ. (D, n.others, n.then, refl, refl, n.on));
                };
          }

          -- its parts are pushed, the left one last
          pub walk_pair : (j : ℕ) (zs vs : List ℕ) → j ≡ part_at s u 1 → zs ≡ ys ++ (j ∷ []) → vs ≡ zs ++ (i ∷ []) → Walked w₀ s t y p w (at + 1) (reverse vs)
          walk_pair j zs vs hj q r = rw (last_first vs zs i r, last_first zs ys j q) (pair_on j hj)

      module _ (z : ¬ (k ≡ 0)) (z' : ¬ (k ≡ 1)) where
        pub walk_not_seal : (o : List ℕ) → ¬ (b ≡ 5) → Pushed w₀ s t y p o None
        walk_not_seal o f = fails o (λ l x r n. not_seal meet_in (entry s) u n.here n.type i _ (seal_is z z' r) (λ q. nz (tag_is n ∙ q)) (λ q. f (tag_is n ∙ q)))

        seal_on : b ≡ 5 → Walked w₀ s t y p w (at + 1) (i ∷ us)
        unfolding Goes
        seal_on five = record {
          rest = λ Γ b l r v e c.
              let n = next Γ b l r v e c in
              let (C, q) = as_cipher n.type (sym five ∙ tag_is n) in
              record {
                here = n.here;
                holds = n.holds;
                few = omega (arith, n.few, length-drop at y, length-drop (at + 1) y);
                goes = (C, n.others, n.then, seal_starts y at read.0 n.type C n.others q n.starts, seal_comes s u i (part_at s u 1) n.type C n.here n.then q (seal_is z z' r) n.comes, n.on);
              };
        }

        -- its inside is pushed
        pub walk_seal : (vs : List ℕ) → b ≡ 5 → vs ≡ ys ++ (i ∷ []) → Walked w₀ s t y p w (at + 1) (reverse vs)
        walk_seal vs five q = rw (last_first vs ys i q) (seal_on five)
