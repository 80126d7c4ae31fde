-- A refusal as a line of text. Assumes nothing: these are definitions.
use Rattle.std.specs.Prelude.{◌≡◌, List, [], ◌∷◌, ◌++◌, ℕ, ◌≤◌, length, take, Ok, Err}
use Rattle.io.specs.Digits.{last_digits, IsDigitCount}
use Rattle.answers.specs.declared.Refusal.{Refusal}
use Rattle.buffers.specs.Over.{over, Appended}
use Rattle.answers.specs.Ladder.{Check}

-- the text t is n in decimal, with as few digits as it takes
pub record Decimal (n : ℕ) (t : List ℕ) : Type 0 where
  pub places : ℕ
  pub fewest : IsDigitCount 10 1 n places
  pub is : t ≡ last_digits 10 places n

-- a space and a number were written at a place of a buffer
pub record NumberPut (n at : ℕ) (z o : List ℕ) (r : ℕ) : Type 0 where
  pub text : List ℕ
  pub decimal : Decimal n text
  pub appended : Appended (32 ∷ text) at z o r
  pub short : length text ≤ 20

-- `refused` and a space, in ASCII
abbrev pub refused : List ℕ
refused = 114 ∷ 101 ∷ 102 ∷ 117 ∷ 115 ∷ 101 ∷ 100 ∷ 32 ∷ []

-- the line, of the texts of number, file and place: single spaces, a final line feed
abbrev pub line_of : List ℕ → List ℕ → List ℕ → List ℕ
line_of n f p = refused ++ (n ++ (32 ∷ (f ++ (32 ∷ (p ++ (10 ∷ []))))))

-- the line of a refusal
pub record LineOf (x : Refusal) (line : List ℕ) : Type 0 where
  pub number : List ℕ
  pub file : List ℕ
  pub place : List ℕ
  pub of_number : Decimal x.number number
  pub of_file : Decimal x.file file
  pub of_place : Decimal x.place place
  pub is : line ≡ line_of number file place

-- it was written at the start of z, if z is long enough, and r is its length
pub record LinePut (x : Refusal) (z o : List ℕ) (r : ℕ) : Type 0 where
  pub inside : r ≤ length o
  pub counted : r ≡ length (take r o)
  pub put : 71 ≤ length z → (line : List ℕ) × LineOf x line × (r ≡ length line) × (o ≡ over line z)

-- `accepted` and a line feed, in ASCII
abbrev pub accepted_line : List ℕ
accepted_line = 97 ∷ 99 ∷ 99 ∷ 101 ∷ 112 ∷ 116 ∷ 101 ∷ 100 ∷ 10 ∷ []

-- the line of a check
abbrev pub CheckLine : Check → List ℕ → Type 0
CheckLine (Ok tt) line = line ≡ accepted_line
CheckLine (Err x) line = LineOf x line

-- it was written at the start of z, if z is long enough, and r is its length
pub record CheckPut (a : Check) (z o : List ℕ) (r : ℕ) : Type 0 where
  pub inside : r ≤ length o
  pub counted : r ≡ length (take r o)
  pub put : 71 ≤ length z → (line : List ℕ) × CheckLine a line × (r ≡ length line) × (o ≡ over line z)
