-- The place of number 16: where a text leaves the rules, which names count, and the first of them that is not listed or bound exactly once. Assumes
-- nothing: these are definitions.
use Rattle.std.specs.Prelude.{◌≡◌, ◌⊎◌, Bool, true, false, cond, ◌&&◌, List, [], ◌∷◌, ◌++◌, ℕ, suc, ◌+◌, ◌<◌, eqb, ltb, length, take}
use Rattle.std.proofs.Math.Option.{Option, none, some}
use Rattle.calculus.specs.Scope.{All}
use Rattle.text.specs.Source.{Name, Source}
use Rattle.text.specs.Grammar.{Piece, fixed, given, used, pieces, text_of, WellFormed, TextOf, Allowed}

-- ── Where a text leaves the rules ──

-- some text by the rules begins so, namely that of d
abbrev pub BeginsTextOf : List ℕ → Source → Type 0
BeginsTextOf p d = WellFormed d × (r : List ℕ) × (p ++ r ≡ text_of d)

abbrev pub GoesOn : List ℕ → Type 0
GoesOn p = (d : Source) × BeginsTextOf p d

-- g is the offset of the first byte with which no text by the rules goes on; the text's length where it ends too early
pub record Stops (s : List ℕ) (g : ℕ) : Type 0 where
  pub so_far : GoesOn (take g s)
  pub no_further : ((g < length s) × ¬ GoesOn (take (suc g) s)) ⊎ ((g ≡ length s) × ¬ Allowed s)

-- ── Names in a text ──

-- a name where it stands: its offset, its bytes, and whether it is listed or bound there
pub record Occurrence : Type 0 where
  pub at : ℕ
  pub name : Name
  pub gives : Bool

-- the offset of the byte behind it
abbrev pub behind : Occurrence → ℕ
behind o = o.at + length o.name

-- the names in pieces that start at an offset, in reading order
unfoldable pub occurrences_from : ℕ → List Piece → List Occurrence
occurrences_from at [] = []
occurrences_from at (fixed w ∷ ps) = occurrences_from (at + length w) ps
occurrences_from at (given x ∷ ps) = record { at = at; name = x; gives = true } ∷ occurrences_from (at + length x) ps
occurrences_from at (used x ∷ ps) = record { at = at; name = x; gives = false } ∷ occurrences_from (at + length x) ps

-- the names in the text of a source
unfoldable pub occurrences : Source → List Occurrence
occurrences d = occurrences_from 0 (pieces d)

-- those that count where a text stops at g: the byte behind stands before g
unfoldable pub counted : ℕ → List Occurrence → List Occurrence
counted g [] = []
counted g (o ∷ os) = cond (ltb (behind o) g) (o ∷ counted g os) (counted g os)

-- ── Names listed or bound exactly once ──

-- are two names the same?
unfoldable pub same_name : Name → Name → Bool
same_name [] [] = true
same_name [] (c ∷ y) = false
same_name (b ∷ x) [] = false
same_name (b ∷ x) (c ∷ y) = eqb b c && same_name x y

-- how many of some occurrences list or bind a name
unfoldable pub givings : Name → List Occurrence → ℕ
givings x [] = 0
givings x (o ∷ os) = cond (o.gives && same_name x o.name) (suc (givings x os)) (givings x os)

-- among all of some occurrences, the first of several that is not listed or bound exactly once
unfoldable pub first_wrong : List Occurrence → List Occurrence → Option ℕ
first_wrong all [] = none
first_wrong all (o ∷ os) = cond (eqb (givings o.name all) 1) (first_wrong all os) (some o.at)

unfoldable pub wrong_name : List Occurrence → Option ℕ
wrong_name os = first_wrong os os

-- the same in other words: p is where the first of them stands that is not listed or bound exactly once
abbrev pub GivenOnce : List Occurrence → Occurrence → Type 0
GivenOnce os o = givings o.name os ≡ 1

pub record FirstWrong (os : List Occurrence) (p : ℕ) : Type 0 where
  pub before : List Occurrence
  pub wrong : Occurrence
  pub after : List Occurrence
  pub in_order : os ≡ before ++ (wrong ∷ after)
  pub right_before : All (GivenOnce os) before
  pub not_once : ¬ GivenOnce os wrong
  pub stands_at : wrong.at ≡ p

-- a place, or another where there is none
unfoldable pub or_else : Option ℕ → ℕ → ℕ
or_else none g = g
or_else (some p) g = p

-- ── Number 16 ──

-- the text is that of d, and every name in it is listed or bound exactly once
pub record Reads (s : List ℕ) (d : Source) : Type 0 where
  pub by_rules : TextOf s d
  pub names_right : wrong_name (occurrences d) ≡ none

-- number 16 at p: the text is by the rules and a name in it is wrong; or it stops at g, and the place is that of the first name wrong among those that
-- count, or else g. Which text by the rules begins as this one does up to g makes no difference.
pub data Refused (s : List ℕ) (p : ℕ) : Type 0 where
  name_wrong : {d : Source} → TextOf s d → wrong_name (occurrences d) ≡ some p → Refused s p
  text_stops : {g : ℕ} {d : Source} → Stops s g → BeginsTextOf (take g s) d → or_else (wrong_name (counted g (occurrences d))) g ≡ p → Refused s p
