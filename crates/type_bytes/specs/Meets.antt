-- A type, and the greatest lower bound of two, written to a buffer. Assumes nothing: these are definitions.
use Rattle.std.specs.Prelude.{Some, None, ◌≡◌, List, [], ◌∷◌, ◌++◌, ℕ, ◌≤◌, ◌<◌, length, drop, get_or}
use Rattle.std.proofs.Math.Option.{Option, some}
use Rattle.types.specs.Types.{meet}
use Rattle.types.specs.Version1.{types1, T, bytes}
use Rattle.buffers.specs.Over.{over}
use Rattle.type_bytes.specs.Lower.{Lower}
use Rattle.type_bytes.specs.declared.How.{How}
use Rattle.type_bytes.specs.declared.How.TheVariants.{Second, First, Apart, Pairs, Ciphertexts}

-- the buffer z, now o, holds the type u; or there is none that fits
abbrev pub Wrote : Option T → List ℕ → List ℕ → Lower → Type 0
Wrote u z o (Some n) = (c : T) × (u ≡ some c) × (n ≡ length (bytes c)) × (o ≡ over (bytes c) z)
Wrote u z o None = (c : T) → u ≡ some c → length z < length (bytes c)

-- what was written fits
abbrev pub Within : List ℕ → Lower → Type 0
Within z (Some n) = n ≤ length z
Within z None = Unit

-- the type at p of s, if there is one, written to z
pub record Copied (s : List ℕ) (p : ℕ) (z o : List ℕ) (r : Lower) : Type 0 where
  pub fits : Within z r
  pub wrote : (t : T) (x : List ℕ) → drop p s ≡ bytes t ++ x → Wrote (some t) z o r

-- the greatest lower bound of the types at p of a and q of b, if there are such, written to z
pub record Meets (a : List ℕ) (p : ℕ) (b : List ℕ) (q : ℕ) (z o : List ℕ) (r : Lower) : Type 0 where
  pub fits : Within z r
  pub wrote : (t u : T) (x y : List ℕ) → drop p a ≡ bytes t ++ x → drop q b ≡ bytes u ++ y → Wrote (meet types1 t u) z o r

-- how two types meet, a row for each code of the first type
abbrev pub hows : List (List How)
hows =
    (Second ∷ Second ∷ Second ∷ Second ∷ Second ∷ Second ∷ []) ∷
    (First ∷ Second ∷ Second ∷ Second ∷ Apart ∷ Apart ∷ []) ∷
    (First ∷ First ∷ Second ∷ Apart ∷ Apart ∷ Apart ∷ []) ∷
    (First ∷ First ∷ Apart ∷ Second ∷ Apart ∷ Apart ∷ []) ∷
    (First ∷ Apart ∷ Apart ∷ Apart ∷ Pairs ∷ Apart ∷ []) ∷
    (First ∷ Apart ∷ Apart ∷ Apart ∷ Apart ∷ Ciphertexts ∷ []) ∷ []

-- by the codes of two types; unknown codes do not meet
unfoldable pub how_of : ℕ → ℕ → How
how_of x y = get_or (get_or hows x []) y Apart
