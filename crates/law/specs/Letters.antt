-- W-203: "All bare words are read without regard to letter case, PROP and the file type included. So are NOREFDES and BOARD as references, and
-- NOREFDES, BOARD and PANEL as a hole's part": what differs from a file in the letter case of these alone, and of keywords.
use Rattle.std.specs.Prelude.{ℕ, ◌≡◌, List, [], ◌∷◌, Bool, true, false}
use Rattle.std.proofs.Math.Option.{some}
use Rattle.law.specs.Lines.{File, Free}
use Rattle.law.specs.Fields.{Field, field, Spelled}
use Rattle.law.specs.Values.{Rec}
use Rattle.law.specs.Words.{folded}
use Rattle.law.specs.Kinds.{role_of}
use Rattle.law.specs.Layouts.{Layout, layout_of}
use Rattle.law.specs.Fits.{under, is_name}
use Rattle.law.specs.RecordSpelling.{SpellsLine}
use Rattle.law.specs.LineSpelling.{Where, outside, leads_to}
use Rattle.law.specs.Lists.{Permitted, Distinct}
use Rattle.law.specs.Files.{titled}
use Rattle.law.specs.LineFaults.{Fronted}
use Rattle.law.specs.declared.Rules.{Rules}
use Rattle.law.specs.declared.Context.{Context}
use Rattle.law.specs.declared.Words.{Words}
use Rattle.law.specs.declared.Texts.{Texts}
use Rattle.law.specs.declared.FieldType.{FieldType}
use Rattle.law.specs.declared.FieldType.TheVariants.{Text as T, Word as W}

-- a field in other letters: a word, or what a text may name; any other field as it stands
pub data OtherField : FieldType → Field → Field → Type 0 where
  as_it_is : {t : FieldType} {f : Field} → OtherField t f f
  a_word : {l : Words} {s u : List ℕ} → folded s ≡ folded u → OtherField (W l) (field false s) (field false u)
  a_name : {k : Texts} {q : Bool} {s u : List ℕ} → is_name (T k) s ≡ true → folded s ≡ folded u → OtherField (T k) (field q s) (field q u)

pub data OtherFields : List FieldType → List Field → List Field → Type 0 where
  none : OtherFields [] [] []
  more : {t : FieldType} {ts : List FieldType} {f g : Field} {fs gs : List Field} → OtherField t f g → OtherFields ts fs gs → OtherFields (t ∷ ts) (f ∷ fs) (g ∷ gs)

-- a line in other letters: its bytes are the same but for letter case, and so is what stands before its fields, a keyword or PROP
pub record OtherLine (y : Layout) (l m : List ℕ) : Type 0 where
  pub letters : folded l ≡ folded m
  pub fields : List Field
  pub others : List Field
  pub spelled : Spelled fields l
  pub respelled : Spelled others m
  pub own : List Field
  pub its : List Field
  pub fronted : Fronted y.front fields own
  pub refronted : Fronted y.front others its
  pub each : OtherFields y.types own its

-- lines that spell records, and lines in other letters; comments and blank lines, which stand for nothing, may be any
pub data OtherLines (c : Context) : Where → List Rec → List (List ℕ) → List (List ℕ) → Type 0 where
  end : {w : Where} → OtherLines c w [] [] []
  free : {rs : List Rec} {l m : List ℕ} {ls ms : List (List ℕ)} → Free l → Free m → OtherLines c outside rs ls ms → OtherLines c outside rs (l ∷ ls) (m ∷ ms)
  line : {w : Where} {r : Rec} {rs : List Rec} {y : Layout} {l m : List ℕ} {ls ms : List (List ℕ)}
      → layout_of c.rules r.kind ≡ some y → SpellsLine c y.front y.types r.values l → OtherLine y l m
      → OtherLines c (leads_to (role_of c.rules r.kind) w) rs ls ms → OtherLines c w (r ∷ rs) (l ∷ ls) (m ∷ ms)

-- a file that says a list, and one in other letters
pub record OtherFile (v : Rules) (rs : List Rec) (file other : List ℕ) : Type 0 where
  pub lines : List (List ℕ)
  pub others : List (List ℕ)
  pub made : File lines file
  pub remade : File others other
  pub letters : OtherLines (under v (titled rs)) outside rs lines others
  pub permitted : Permitted v rs
  pub distinct : Distinct v rs
