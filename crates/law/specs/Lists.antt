-- "A board is header, BOARD_OUTLINE, any of 4 to 12 in any order, PLACEMENT, and no more. A panel has PANEL_OUTLINE instead. A library is a
-- header and any number of 14 and 15; no two share both geometry and part", and the loops: the lists of records that a file may say.
use Rattle.std.specs.Prelude.{ℕ, ◌+◌, ◌≤◌, ◌≡◌, ◌≢◌, ◌⊎◌, List, [], ◌∷◌, ◌++◌, Bool, true, false, cond, eqb, ℤ, pos}
use Rattle.std.proofs.Math.IntN.{suc_ℤ}
use Rattle.law.specs.Bytes.{All}
use Rattle.law.specs.Values.{Rec}
use Rattle.law.specs.Sections.{Shape, header, outline, component, keepout, listing, placements}
use Rattle.law.specs.Kinds.{section_of, role_of}
use Rattle.law.specs.declared.Role.{Role}
use Rattle.law.specs.declared.Role.TheVariants.{Opening as opening, Closing as closing, Title as title, Name as name, Lead as lead, Point as point, Prop as prop, Entry as entry, Part as part, Position as position}
use Rattle.law.specs.Fits.{under, WellFormed}
use Rattle.law.specs.Records.{shape_of, many_loops, is_middle, is_component, is_library, Place, label_of, place_of, angle_of, type_in, Named, names_a_component, name_in}
use Rattle.law.specs.Limits.{whole_turn}
use Rattle.law.specs.declared.Rules.{Rules}
use Rattle.law.specs.declared.FileType.{FileType}
use Rattle.law.specs.declared.FileType.TheVariants.{Board as board, Panel as panel, Library as library}

-- outlines and components begin with a leading line
abbrev pub leads : Shape → Bool
leads header = false
leads outline = true
leads component = true
leads keepout = false
leads listing = false
leads placements = false

-- 1 for yes, 0 for no
abbrev pub bit : Bool → ℕ
bit true = 1
bit false = 0

-- how often k stands in a list
abbrev pub count : ℕ → List ℕ → ℕ
count k [] = 0
count k (s ∷ ss) = bit (eqb s k) + count k ss

module _ (v : Rules) where
  -- r is a line of section s with this role, well formed in a file of type t
  pub record Line (t : FileType) (s : ℕ) (role : Role) (r : Rec) : Type 0 where
    pub in_section : section_of v r.kind ≡ s
    pub has_role : role_of v r.kind ≡ role
    pub is_good : WellFormed (under v t) r

  -- a point line with this label
  pub record PointLine (t : FileType) (s : ℕ) (label : ℤ) (r : Rec) : Type 0 where
    pub line : Line t s point r
    pub labelled : label_of r ≡ label

  -- a point of a path, after one at q: another place, and not 360
  pub record Step (t : FileType) (s : ℕ) (label : ℤ) (q : Place) (r : Rec) : Type 0 where
    pub has_point_role : PointLine t s label r
    pub elsewhere : place_of r ≢ q
    pub not_360 : angle_of r ≢ whole_turn

  -- one or more further points of a path, the first of them after one at q and the last of them at f
  pub data Return (t : FileType) (s : ℕ) (label : ℤ) (f : Place) : Place → List Rec → Type 0 where
    last : {q : Place} {r : Rec} → Step t s label q r → place_of r ≡ f → Return t s label f q (r ∷ [])
    further : {q : Place} {r : Rec} {rs : List Rec} → Step t s label q r → Return t s label f (place_of r) rs → Return t s label f q (r ∷ rs)

  -- a circle is two lines, the second with 360 at another place; a path is at least three, and ends where it began
  pub data Loop (t : FileType) (s : ℕ) (label : ℤ) : List Rec → Type 0 where
    circle : {a b : Rec} → PointLine t s label a → angle_of a ≡ pos 0 → PointLine t s label b → place_of b ≢ place_of a → angle_of b ≡ whole_turn
        → Loop t s label (a ∷ b ∷ [])
    path : {a b : Rec} {rs : List Rec} → PointLine t s label a → angle_of a ≡ pos 0 → Step t s label (place_of a) b
        → Return t s label (place_of a) (place_of b) rs
        → Loop t s label (a ∷ b ∷ rs)

  -- one or more loops, each labelled one more than the loop before it
  pub data Loops (t : FileType) (s : ℕ) : ℤ → List Rec → Type 0 where
    final : {label : ℤ} {rs : List Rec} → Loop t s label rs → Loops t s label rs
    another : {label : ℤ} {rs ms : List Rec} → Loop t s label rs → Loops t s (suc_ℤ label) ms → Loops t s label (rs ++ ms)

  -- the points of a section: loops numbered from 0; or one loop labelled 0 or 1
  pub data Points (t : FileType) (s : ℕ) : List Rec → Type 0 where
    numbered : {rs : List Rec} → many_loops s ≡ true → Loops t s (pos 0) rs → Points t s rs
    single : {label : ℤ} {rs : List Rec} → many_loops s ≡ false → (label ≡ pos 0) ⊎ (label ≡ pos 1) → Loop t s label rs → Points t s rs

  -- any number of lines with one role
  pub data Lines (t : FileType) (s : ℕ) (role : Role) : List Rec → Type 0 where
    no_line : Lines t s role []
    line : {r : Rec} {rs : List Rec} → Line t s role r → Lines t s role rs → Lines t s role (r ∷ rs)

  -- any number of pairs: a part and its position
  pub data Pairs (t : FileType) (s : ℕ) : List Rec → Type 0 where
    no_pair : Pairs t s []
    pair : {a b : Rec} {rs : List Rec} → Line t s part a → Line t s position b → Pairs t s rs → Pairs t s (a ∷ b ∷ rs)

  -- what stands between the opening and the closing line. (Only ELECTRICAL has lines with the role prop.)
  pub data Body (t : FileType) (s : ℕ) : List Rec → Type 0 where
    led : {a : Rec} {ps qs : List Rec} → leads (shape_of v s) ≡ true → Line t s lead a → Points t s ps → Lines t s prop qs → Body t s (a ∷ (ps ++ qs))
    points : {ps : List Rec} → shape_of v s ≡ keepout → Points t s ps → Body t s ps
    listed : {es : List Rec} → shape_of v s ≡ listing → Lines t s entry es → Body t s es
    placed : {es : List Rec} → shape_of v s ≡ placements → Pairs t s es → Body t s es

  -- a section: its opening line, its data lines, its closing line
  pub data Section (t : FileType) (s : ℕ) : List Rec → Type 0 where
    section : {o c : Rec} {bs : List Rec} → Line t s opening o → Body t s bs → Line t s closing c → Section t s (o ∷ (bs ++ (c ∷ [])))

  -- sections one after the other, with their numbers
  pub data Sections (t : FileType) : List ℕ → List Rec → Type 0 where
    no_section : Sections t [] []
    and_section : {s : ℕ} {ss : List ℕ} {rs ms : List Rec} → Section t s rs → Sections t ss ms → Sections t (s ∷ ss) (rs ++ ms)

  -- the header says the file's type, and not in a library also name and unit
  pub data Header : FileType → List Rec → Type 0 where
    header_of : {t : FileType} {o a b c : Rec} → is_library t ≡ false → Line t 1 opening o → Line t 1 title a → type_in a ≡ t → Line t 1 name b
        → Line t 1 closing c
        → Header t (o ∷ a ∷ b ∷ c ∷ [])
    header_of_library : {o a c : Rec} → Line library 1 opening o → Line library 1 title a → type_in a ≡ library → Line library 1 closing c
        → Header library (o ∷ a ∷ c ∷ [])

  -- in any order, holes and notes at most once
  pub record Middle (ss : List ℕ) : Type 0 where
    pub among : All (is_middle v) ss
    pub holes_once : count 11 ss ≤ 1
    pub notes_once : count 12 ss ≤ 1

  -- a board is header, BOARD_OUTLINE, the middle, PLACEMENT; a panel has PANEL_OUTLINE instead; a library is a header and components
  pub data Permitted : List Rec → Type 0 where
    a_board : {hs os ms ps : List Rec} {ss : List ℕ} → Header board hs → Section board 2 os → Sections board ss ms → Middle ss → Section board 13 ps
        → Permitted (hs ++ (os ++ (ms ++ ps)))
    a_panel : {hs os ms ps : List Rec} {ss : List ℕ} → Header panel hs → Section panel 3 os → Sections panel ss ms → Middle ss → Section panel 13 ps
        → Permitted (hs ++ (os ++ (ms ++ ps)))
    a_library : {hs ms : List Rec} {ss : List ℕ} → Header library hs → Sections library ss ms → All is_component ss → Permitted (hs ++ ms)

-- the names of the components, in order
abbrev pub names_of : Rules → List Rec → List Named
names_of v [] = []
names_of v (r ∷ rs) = cond (names_a_component v r.kind) (name_in r ∷ names_of v rs) (names_of v rs)

-- another name than each of these
pub data NotAmong (a : Named) : List Named → Type 0 where
  in_none : NotAmong a []
  nor : {b : Named} {bs : List Named} → a ≢ b → NotAmong a bs → NotAmong a (b ∷ bs)

-- no two are the same
pub data AllDiffer : List Named → Type 0 where
  nothing_named : AllDiffer []
  and_new : {a : Named} {bs : List Named} → NotAmong a bs → AllDiffer bs → AllDiffer (a ∷ bs)

-- no two components share both geometry and part
abbrev pub Distinct : Rules → List Rec → Type 0
Distinct v rs = AllDiffer (names_of v rs)
