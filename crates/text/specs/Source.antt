-- What a text says, before its names are numbered: free names, free variables, and steps over terms. Assumes nothing: these are definitions.
use Rattle.std.specs.Prelude.{List, ℕ}

-- a name is its bytes
abbrev pub Name : Type 0
Name = List ℕ

mutual
  -- a term: a name, `(M, N)`, or `{M, ...}K` with its first plaintext, its further ones and its key
  pub data Term : Type 0 where
    named : Name → Term
    paired : Term → Term → Term
    sealed : Term → Further → Term → Term

  -- the plaintexts of a brace behind its first one
  pub data Further : Type 0 where
    no_more : Further
    also : Term → Further → Further

-- a step, one line of the text
pub data Step : Type 0 where
  output : Term → Term → Step
  input : Term → Name → Step
  restriction : Name → Step
  matching : Term → Term → Step
  splitting : Term → Name → Name → Step
  decryption : Term → Term → Name → Step

-- a text's two opening lines and its steps
pub record Source : Type 0 where
  pub names : List Name
  pub variables : List Name
  pub steps : List Step
