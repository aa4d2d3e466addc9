-- "No. | given exactly when" and "on it 3, 4, 5, 6, the fields left to right each by 7, 8, 9, 10, then 11, 12": which number a line is refused
-- by that cannot follow the lines before it, from what the rules let lines spell and lists say.
use Rattle.std.specs.Prelude.{ℕ, ◌≡◌, ◌≢◌, List, [], ◌∷◌, ◌++◌, Bool, true, false, cond, length}
use Rattle.std.proofs.Math.Option.{some}
use Rattle.law.specs.Bytes.{permitted, All}
use Rattle.law.specs.Fields.{Field, field, Spelled}
use Rattle.law.specs.Lines.{Free}
use Rattle.law.specs.Values.{Rec}
use Rattle.law.specs.Words.{prop_word}
use Rattle.law.specs.Kinds.{role_of}
use Rattle.law.specs.declared.Role.{Role}
use Rattle.law.specs.declared.Role.TheVariants.{Opening as opening, Closing as closing, Title as title, Name as name, Lead as lead, Point as point, Prop as prop, Entry as entry, Part as part, Position as position, Unknown as unknown}
use Rattle.law.specs.Layouts as front
use Rattle.law.specs.Layouts.{Front, Layout, layout_of, types_of}
use Rattle.law.specs.Fits.{under}
use Rattle.law.specs.declared.Rules.{Rules}
use Rattle.law.specs.WordSpelling.{AnyCase}
use Rattle.law.specs.RecordSpelling.{SpellsFields, is_data}
use Rattle.law.specs.LineSpelling.{Where, outside, inside, leads_to, SpellsLines}
use Rattle.law.specs.Lists.{Permitted, Distinct}
use Rattle.law.specs.Files.{titled}
use Rattle.law.specs.FieldFaults.{FaultyFields}

-- a line begins as its kind does, and then has these fields of its own: a keyword or PROP, in any letter case, or nothing
pub data Fronted : Front → List Field → List Field → Type 0 where
  with_keyword : {k w : List ℕ} {gs : List Field} → AnyCase k w → Fronted (front.keyword k) (field false (46 ∷ w) ∷ gs) gs
  with_prop : {p : List ℕ} {gs : List Field} → AnyCase prop_word p → Fronted front.prop (field false p ∷ gs) gs
  as_data : {gs : List Field} → is_data gs ≡ true → Fronted front.plain gs gs

-- a line that is no comment and not blank, with no forbidden byte, has these fields
pub record HasFields (l : List ℕ) (fs : List Field) : Type 0 where
  pub not_free : Free l → ⊥
  pub clean : All permitted l
  pub spelled : Spelled fs l

-- the role of a point line
abbrev pub is_point : Role → Bool
is_point opening = false
is_point closing = false
is_point title = false
is_point name = false
is_point lead = false
is_point point = true
is_point prop = false
is_point entry = false
is_point part = false
is_point position = false
is_point unknown = false

module _ (v : Rules) where
  -- a list without its points
  abbrev pub without_points : List Rec → List Rec
  without_points [] = []
  without_points (r ∷ rs) = cond (is_point (role_of v r.kind)) (without_points rs) (r ∷ without_points rs)

  -- a line of kind k can stand after these records, the loop rule aside: in some permitted list one stands after the same records but for points
  pub record Stands (rs : List Rec) (k : ℕ) : Type 0 where
    pub before : List Rec
    pub this : Rec
    pub more : List Rec
    pub permitted : Permitted v (before ++ (this ∷ more))
    pub same : without_points before ≡ without_points rs
    pub kind : this.kind ≡ k

  -- after these records a line with fields fs can be one of kind k, with fields gs behind its front
  pub record Suits (rs : List Rec) (fs : List Field) (k : ℕ) (gs : List Field) : Type 0 where
    pub layout : Layout
    pub laid : layout_of v k ≡ some layout
    pub fronted : Fronted layout.front fs gs
    pub stands : Stands rs k

  -- it is: where a PROP line can stand, a line that begins with PROP is one
  pub record IsOf (rs : List Rec) (fs : List Field) (k : ℕ) (gs : List Field) : Type 0 where
    pub suits : Suits rs fs k gs
    pub prop_first : (j : ℕ) (hs : List Field) → Suits rs fs j hs → role_of v j ≡ prop → j ≡ k

  -- so the line l is one of kind k, with fields gs of its own
  pub record LineOf (rs : List Rec) (l : List ℕ) (k : ℕ) (gs : List Field) : Type 0 where
    pub fields : List Field
    pub has : HasFields l fields
    pub is : IsOf rs fields k gs

  -- and each of these has a value: they are the values of the record r
  pub record HasRecord (rs : List Rec) (l : List ℕ) (r : Rec) : Type 0 where
    pub own : List Field
    pub line : LineOf rs l r.kind own
    pub good : SpellsFields (under v (titled rs)) (types_of v r.kind) r.values own

  -- where a list of records leads to: outside of all sections, or inside one
  abbrev pub where_after : Where → List Rec → Where
  where_after w [] = w
  where_after w (r ∷ rs) = where_after (leads_to (role_of v r.kind) w) rs

  -- the number of a line l that cannot follow the records rs
  pub data Faulty (rs : List Rec) (l : List ℕ) : ℕ → Type 0 where
    -- forbidden byte
    by_3 : (Free l → ⊥) → (All permitted l → ⊥) → Faulty rs l 3
    -- broken quoting
    by_4 : (Free l → ⊥) → All permitted l → ((fs : List Field) → Spelled fs l → ⊥) → Faulty rs l 4
    -- this kind of line cannot stand here; also an unknown keyword; or a comment or blank line inside a section
    by_5 : {fs : List Field} → HasFields l fs → ((k : ℕ) (gs : List Field) → Suits rs fs k gs → ⊥) → Faulty rs l 5
    free_5 : Free l → where_after outside rs ≡ inside → Faulty rs l 5
    -- wrong number of fields
    by_6 : {k : ℕ} {gs : List Field} → LineOf rs l k gs → length gs ≢ length (types_of v k) → Faulty rs l 6
    -- the fields left to right, each by 7, 8, 9, 10
    by_field : {k n : ℕ} {gs : List Field} → LineOf rs l k gs → length gs ≡ length (types_of v k) → FaultyFields (under v (titled rs)) (types_of v k) gs n → Faulty rs l n
    -- the loop rule: the line has a record, and no permitted list goes on with it
    by_11 : {r : Rec} → HasRecord rs l r → ((more : List Rec) → Permitted v (rs ++ (r ∷ more)) → ⊥) → Faulty rs l 11
    -- geometry and part both used before: names aside, some permitted list goes on with its record
    by_12 : {r : Rec} (more : List Rec) → HasRecord rs l r → Permitted v (rs ++ (r ∷ more)) → (Distinct v (rs ++ (r ∷ [])) → ⊥) → Faulty rs l 12

-- these lines spell these records, with which a permitted list begins
pub record Before (v : Rules) (rs : List Rec) (ls : List (List ℕ)) : Type 0 where
  pub more : List Rec
  pub permitted : Permitted v (rs ++ more)
  pub distinct : Distinct v (rs ++ more)
  pub spelled : SpellsLines (under v (titled (rs ++ more))) outside rs ls

-- after these lines the line l is faulty by n
abbrev pub FaultyAfter : Rules → List (List ℕ) → List ℕ → ℕ → Type 0
FaultyAfter v ls l n = (rs : List Rec) × Before v rs ls × Faulty v rs l n
