-- The process that a source stands for, with its symbols numbered: what the table of Numbering.antt means, whatever the order of its terms. Several
-- plaintexts nest as pairs to the right. Assumes nothing: these are definitions.
use Rattle.std.specs.Prelude.{List, map, ℕ}
use Rattle.calculus.specs.Signature.{pairing, seal}
use Rattle.calculus.specs.Terms.{Tree, leaf, two, Act, send, receive, fresh, compare, split, decrypt, Process}
use Rattle.calculus.specs.Version1.{encryption, signature1}
use Rattle.text.specs.Source.{Name, Term, named, paired, sealed, Further, no_more, also, Step, output, input, restriction, matching, splitting, decryption, Source}
use Rattle.text.specs.Numbering.{symbols_of, number_of}

module _ (xs : List Name) where
  unfoldable mutual
    -- a term, of symbols
    pub term_tree : Term → Tree signature1 ℕ
    term_tree (named x) = leaf (number_of x xs)
    term_tree (paired M N) = two pairing (term_tree M) (term_tree N)
    term_tree (sealed M Ms K) = two (seal encryption) (plain_tree Ms (term_tree M)) (term_tree K)

    -- a plaintext and further ones, as pairs to the right
    pub plain_tree : Further → Tree signature1 ℕ → Tree signature1 ℕ
    plain_tree no_more M = M
    plain_tree (also N Ns) M = two pairing M (plain_tree Ns (term_tree N))

  -- a step
  unfoldable pub step_act : Step → Act signature1 (Tree signature1 ℕ)
  step_act (output M N) = send (term_tree M) (term_tree N)
  step_act (input M x) = receive (term_tree M) (number_of x xs)
  step_act (restriction x) = fresh (number_of x xs)
  step_act (matching M N) = compare (term_tree M) (term_tree N)
  step_act (splitting M x y) = split (term_tree M) (number_of x xs) (number_of y xs)
  step_act (decryption M K x) = decrypt encryption (term_tree M) (term_tree K) (number_of x xs)

-- the process of a source
abbrev pub process_of : Source → Process signature1
process_of d = map (step_act (symbols_of d)) d.steps
