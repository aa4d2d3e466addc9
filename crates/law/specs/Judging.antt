-- "Judging: NOREFDES needs a MECHANICAL entry with equal package and part, BOARD needs none, all others an ELECTRICAL one. UNPLACED parts are
-- judged too": which verdict a board or panel gets against a library, by the lists of records that the two files say.
use Rattle.std.specs.Prelude.{ℕ, ◌+◌, ◌≡◌, ◌≢◌, List, [], ◌∷◌, ◌++◌, cond, eqb, length}
use Rattle.law.specs.Values.{Rec}
use Rattle.law.specs.Words.{board_word, no_reference}
use Rattle.law.specs.Kinds.{part_kind, electrical_kind, mechanical_kind}
use Rattle.law.specs.Records.{bytes_of, value_at, Named, name_in}
use Rattle.law.specs.Files.{titled}
use Rattle.law.specs.Answers.{verdict}
use Rattle.law.specs.declared.FileType.TheVariants.{Library}
use Rattle.law.specs.declared.Verdict.{Verdict}

-- a placement: package and part number, as a component's name, and the reference
pub record Placement : Type 0 where
  pub name : Named
  pub reference : List ℕ

-- the three texts of the first line of its pair
abbrev pub placement_in : Rec → Placement
placement_in r = record { name = name_in r; reference = bytes_of (value_at r 2) }

-- the placements of a list, in order, UNPLACED ones too
abbrev pub placements_of : List Rec → List Placement
placements_of [] = []
placements_of (r ∷ rs) = cond (eqb r.kind part_kind) (placement_in r ∷ placements_of rs) (placements_of rs)

-- some record of a library is of kind k, which leads ELECTRICAL or MECHANICAL, with this geometry and part
pub data Entry (k : ℕ) (a : Named) : List Rec → Type 0 where
  this : {q : Rec} {qs : List Rec} → q.kind ≡ k → name_in q ≡ a → Entry k a (q ∷ qs)
  later : {q : Rec} {qs : List Rec} → Entry k a qs → Entry k a (q ∷ qs)

-- a placement has what it needs: BOARD nothing, NOREFDES a mechanical entry, all others an electrical one
pub data Served (qs : List Rec) (p : Placement) : Type 0 where
  board : p.reference ≡ board_word → Served qs p
  mechanical : p.reference ≡ no_reference → Entry mechanical_kind p.name qs → Served qs p
  electrical : p.reference ≢ board_word → p.reference ≢ no_reference → Entry electrical_kind p.name qs → Served qs p

pub data AllServed (qs : List Rec) : List Placement → Type 0 where
  none : AllServed qs []
  one : {p : Placement} {ps : List Placement} → Served qs p → AllServed qs ps → AllServed qs (p ∷ ps)

-- 17 unless the first is a board or panel; 17 unless the second is a library; 16 at the first placement that lacks its entry, with its number from 1;
-- 0 with the number of placements. The last number names the refused file.
pub data Judged (rs qs : List Rec) : Verdict → Type 0 where
  first_wrong : titled rs ≡ Library → Judged rs qs (verdict 17 0 0 1)
  second_wrong : titled rs ≢ Library → titled qs ≢ Library → Judged rs qs (verdict 17 0 0 2)
  lacking : (ps ss : List Placement) (p : Placement) → titled rs ≢ Library → titled qs ≡ Library → placements_of rs ≡ ps ++ (p ∷ ss) → AllServed qs ps → (Served qs p → ⊥)
      → Judged rs qs (verdict 16 0 (length ps + 1) 1)
  served : titled rs ≢ Library → titled qs ≡ Library → AllServed qs (placements_of rs) → Judged rs qs (verdict 0 0 (length (placements_of rs)) 0)
