-- What is proved of reading and writing: reading is exact, a text that is not by the rules stops at one place, which names count there depends on nothing else,
-- and no second answer fits; what a text's table is, how long a written text is, and the round trips. Assumes nothing: these are statements.
use Rattle.std.specs.Prelude.{◌≡◌, true, ◌↔◌, List, [], ℕ, ◌+◌, ◌-◌, length, take}
use Rattle.std.proofs.Math.Option.{none, some}
use Rattle.calculus.specs.Tables.{Table, process}
use Rattle.calculus.specs.Scope.{All, Scoped}
use Rattle.calculus.specs.Figure2.{Env}
use Rattle.calculus.specs.Typing.{TypingFrom}
use Rattle.calculus.specs.Version1.{signature1}
use Rattle.text.specs.Source.{Source}
use Rattle.text.specs.Grammar.{WellFormed, text_of, TextOf, Allowed}
use Rattle.text.specs.Places.{BeginsTextOf, Stops, Occurrence, occurrences, counted, wrong_name, GivenOnce, FirstWrong, Reads, Refused}
use Rattle.text.specs.Numbering.{stands_for, InLimits, within_limits}
use Rattle.text.specs.Meaning.{process_of}
use Rattle.text.specs.Right.{Right}
use Rattle.text.specs.Writing.{source_of, text_length, saturated}
use Rattle.text.specs.Renaming.{Renamed}
use Rattle.text.specs.Reader.{done, stuck, read_text, reads, refused16, answer_of}

-- a text is read whole, as the source whose text it is, and as nothing else
abbrev pub ReadingIsExact : Type 0
ReadingIsExact = (s : List ℕ) (d : Source) → (read_text s ≡ done d []) ↔ TextOf s d

-- two sources by the rules never have the same text
abbrev pub PrintingIsInjective : Type 0
PrintingIsInjective = (d e : Source) → WellFormed d → WellFormed e → text_of d ≡ text_of e → d ≡ e

-- where the reader is stuck, the text stops there, and up to there it is the beginning of the text that the reader gives
abbrev pub StuckStops : Type 0
StuckStops = (s : List ℕ) (d : Source) (r : List ℕ) → read_text s ≡ stuck d r → Stops s (length s - length r) × BeginsTextOf (take (length s - length r) s) d

-- a text stops at one place at most, and at none if it is by the rules
abbrev pub StopsOnce : Type 0
StopsOnce = (s : List ℕ) (g h : ℕ) → Stops s g → Stops s h → g ≡ h

abbrev pub StopsOrAllowed : Type 0
StopsOrAllowed = (s : List ℕ) (g : ℕ) → Stops s g → ¬ Allowed s

-- which names count depends only on the text up to where it stops
abbrev pub CountedOnce : Type 0
CountedOnce = (p : List ℕ) (d e : Source) → BeginsTextOf p d → BeginsTextOf p e → counted (length p) (occurrences d) ≡ counted (length p) (occurrences e)

-- what is computed of names is what is meant: the first wrong one, or all are right
abbrev pub WrongNameIsFirst : Type 0
WrongNameIsFirst = (os : List Occurrence) (p : ℕ) → (wrong_name os ≡ some p) ↔ FirstWrong os p

abbrev pub NoNameIsWrong : Type 0
NoNameIsWrong = (os : List Occurrence) → (wrong_name os ≡ none) ↔ All (GivenOnce os) os

-- the answers are those of Places.antt, so each text has exactly one
abbrev pub AnswersReads : Type 0
AnswersReads = (s : List ℕ) (d : Source) → (answer_of s ≡ reads d) ↔ Reads s d

abbrev pub AnswersRefused : Type 0
AnswersRefused = (s : List ℕ) (p : ℕ) → (answer_of s ≡ refused16 p) ↔ Refused s p

-- a refusal has one place, and a text that reads is not refused
abbrev pub OnePlace : Type 0
OnePlace = (s : List ℕ) (p q : ℕ) → Refused s p → Refused s q → p ≡ q

abbrev pub NotBoth : Type 0
NotBoth = (s : List ℕ) (d : Source) (p : ℕ) → Reads s d → ¬ Refused s p

-- ── The table ──

-- a source's table has the source's process
abbrev pub ProcessIsMeant : Type 0
ProcessIsMeant = (d : Source) → process signature1 (stands_for d) ≡ process_of d

-- numbers 5 to 8 never arise from a text whose names are each listed or bound exactly once
abbrev pub TextsAreRight : Type 0
TextsAreRight = (s : List ℕ) (d : Source) → Reads s d → Right (stands_for d)

-- the limits are tested exactly
abbrev pub LimitsAreTested : Type 0
LimitsAreTested = (t : Table signature1) → (within_limits t ≡ true) ↔ InLimits t

-- ── Writing ──

-- the length that is computed without unfolding is the text's, for every table
abbrev pub LengthIsExact : Type 0
LengthIsExact = (t : Table signature1) → length (text_of (source_of t)) ≡ text_length t

-- what is computed of saturated lengths and then saturated is what is computed of the lengths
abbrev pub SaturatesOnce : Type 0
SaturatesOnce = (c a b : ℕ) → saturated (c + saturated a + saturated b) ≡ saturated (c + a + b)

-- the writer's text is by the rules, and reads as the source that it was written from
abbrev pub WrittenReads : Type 0
WrittenReads = (t : Table signature1) → Right t → InLimits t → Reads (text_of (source_of t)) (source_of t)

-- a table that was read, written and read again, is that very table
abbrev pub ReadAgain : Type 0
ReadAgain = (s : List ℕ) (d : Source) → Reads s d → InLimits (stands_for d) → stands_for (source_of (stands_for d)) ≡ stands_for d

-- so a text that is read and written twice is the same the second time
abbrev pub WrittenTwice : Type 0
WrittenTwice = (s : List ℕ) (d e : Source) → Reads s d → InLimits (stands_for d) → Reads (text_of (source_of (stands_for d))) e
    → text_of (source_of (stands_for e)) ≡ text_of (source_of (stands_for d))

-- the text written from a table in form reads back as that table under a renaming of its symbols, within a table's limits
abbrev pub ReadsBack : Type 0
ReadsBack = (t : Table signature1) → Right t → InLimits t → Renamed t (stands_for (source_of t)) × InLimits (stands_for (source_of t))

-- numbers 9 and 10 do not arise from the renamed table if they do not from the first one
abbrev pub KeepsScope : Type 0
KeepsScope = (t u : Table signature1) → Right t → Renamed t u → Scoped signature1 (process signature1 t) → Scoped signature1 (process signature1 u)

abbrev pub KeepsTyping : Type 0
KeepsTyping = (t u : Table signature1) → Right t → Renamed t u → (Γ : Env signature1) → TypingFrom signature1 t 0 Γ → (Δ : Env signature1) × TypingFrom signature1 u 0 Δ
