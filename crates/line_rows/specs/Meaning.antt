-- What a filled row says of the values that were read.
use Rattle.std.specs.Prelude.{ℕ, suc, ◌≡◌, List, ◌++◌, length, Result, Ok, Err}
use Rattle.law.specs.Values.{Value}
use Rattle.form.specs.Values.{Reply, good, refused}
use Rattle.law.specs.Rows.{Holds}
use Rattle.law.specs.declared.FieldType.{FieldType}
use Rattle.law.specs.declared.refusals.Refusal.{Refusal}
use Rattle.line_rows.specs.declared.Filling.{Filling}

-- a row that was filled to its end
pub record Full (file : List ℕ) (k : ℕ) (ts : List FieldType) (f : Filling) (vs : List Value) : Type 0 where
  pub holds : Holds file k ts f.row vs
  pub column : f.column ≡ suc (length holds.columns)

-- a filling says what the values' reply says: a row that holds the values, or the same refusal
abbrev pub Agrees : List ℕ → ℕ → List FieldType → Result Filling Refusal → Reply (List Value) → Type 0
Agrees file k ts x (good vs) = (f : Filling) × (x ≡ Ok f) × Full file k ts f vs
Agrees file k ts x (refused e) = x ≡ Err e

-- s stands in the file from k on
pub record Part (file : List ℕ) (k : ℕ) (s : List ℕ) : Type 0 where
  pub front : List ℕ
  pub rest : List ℕ
  pub is : file ≡ front ++ (s ++ rest)
  pub at : length front ≡ k
