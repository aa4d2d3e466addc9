-- "A file is accepted exactly when it is a permitted spelling of some permitted list of records": which files are permitted, what they say,
-- and which lines begin one.
use Rattle.std.specs.Prelude.{ℕ, List, [], ◌∷◌, ◌++◌}
use Rattle.law.specs.Lines.{File}
use Rattle.law.specs.Values.{Rec}
use Rattle.law.specs.Fits.{under}
use Rattle.law.specs.Records.{type_in}
use Rattle.law.specs.LineSpelling.{SpellsLines, outside}
use Rattle.law.specs.Lists.{Permitted, Distinct}
use Rattle.law.specs.declared.Rules.{Rules}
use Rattle.law.specs.declared.FileType.{FileType}
use Rattle.law.specs.declared.FileType.TheVariants.{Library}

-- the file's type stands in the title line, the second of a list
abbrev pub titled : List Rec → FileType
titled [] = Library
titled (o ∷ []) = Library
titled (o ∷ a ∷ rs) = type_in a

-- lines that spell a permitted list, with no two components of one name, under the type that its title line says
pub record LinesSay (v : Rules) (rs : List Rec) (ls : List (List ℕ)) : Type 0 where
  pub spelled : SpellsLines (under v (titled rs)) outside rs ls
  pub permitted : Permitted v rs
  pub distinct : Distinct v rs

-- a file, size aside, says what its lines say
pub record FileSays (v : Rules) (rs : List Rec) (file : List ℕ) : Type 0 where
  pub lines : List (List ℕ)
  pub made : File lines file
  pub say : LinesSay v rs lines

-- some file says a permitted list and begins with these lines
pub record Mendable (v : Rules) (ls : List (List ℕ)) : Type 0 where
  pub more : List (List ℕ)
  pub records : List Rec
  pub file : List ℕ
  pub made : File (ls ++ more) file
  pub say : LinesSay v records (ls ++ more)

-- some further bytes make a file of these that says a permitted list
pub record Continues (v : Rules) (s : List ℕ) : Type 0 where
  pub more : List ℕ
  pub records : List Rec
  pub say : FileSays v records (s ++ more)
