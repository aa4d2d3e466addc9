-- Lines that are read through begin a file that says a permitted list: the canonical lines of the records that are still needed end it.
use Prim.Native.Nat.{ℕ, zero, suc}
use mathlib.Core.Path.{◌≡◌, refl, sym, ap, ◌∙◌}
use mathlib.Core.List.{List, [], ◌∷◌, ◌++◌, append_assoc}
use mathlib.Core.Bool.{Bool, true, false, not, false≢true}
use borrow.Author.Tests.{eqb-true}
use lib.Dec.{eqb}
use lib.ListN.{length, take}
use Rattle.law.specs.Bytes.{permitted, in_line, ends_in, All}
use Rattle.law.specs.Lines.{End, by_10, by_13_10, File, none, last, next}
use Rattle.text.proofs.LineSpelling.{last_not}
use Rattle.law.specs.Values.{Rec}
use Rattle.law.specs.Fits.{under, WellFormed}
use Rattle.law.specs.declared.Rules.{Rules}
use Rattle.law.specs.declared.Context.{Context}
use Rattle.law.specs.declared.FileType.{FileType}
use Rattle.order.specs.Automaton.{start}
use Rattle.order.specs.declared.State.{State}
use Rattle.shown_lists.proofs.FirstLine.{through_viable}
use Rattle.law.specs.RecordSpelling.{SpellsRecord, as_line}
use Rattle.law.specs.Canonical.{canonical_record, canonical_text}
use Rattle.law.specs.LineSpelling.{Where, SpellsLines, end, line}
use Rattle.shown_spelling.proofs.BareBytes.{all_map}
use Rattle.shown_spelling.proofs.LineSpelling.{line_first}
use Rattle.shown_spelling.proofs.CanonicalLines.{canonical_spells}
use Rattle.law.specs.Files.{titled, Mendable}
use Rattle.shown_told.proofs.WellFormedLists as every
use Rattle.shown_told.proofs.WellFormedLists.{Every, every_rest, permitted_fit}
use Rattle.shown_told.proofs.Readings.{Through}
use Rattle.shown_told.proofs.ToldSound.{through_runs, through_spells}

-- lines of which none holds byte 10: those of a file, and a file can be made of them
pub data Lines : List (List ℕ) → Type 0 where
  no_line : Lines []
  and_line : {l : List ℕ} {ls : List (List ℕ)} → All in_line l → Lines ls → Lines (l ∷ ls)

pub file_lines : {ls : List (List ℕ)} {file : List ℕ} → File ls file → Lines ls
file_lines none = no_line
file_lines (last a) = and_line a no_line
file_lines (next a k f) = and_line a (file_lines f)

pub lines_file : {ls : List (List ℕ)} → Lines ls → (file : List ℕ) × File ls file
lines_file no_line = ([], none)
lines_file (and_line {l} a m) = let w = lines_file m in (l ++ (13 ∷ 10 ∷ w.0), next a by_13_10 w.1)

lines_append : {ls ms : List (List ℕ)} → Lines ls → Lines ms → Lines (ls ++ ms)
lines_append no_line b = b
lines_append (and_line a m) b = and_line a (lines_append m b)

pub lines_take : {ls : List (List ℕ)} (i : ℕ) → Lines ls → Lines (take i ls)
lines_take zero m = no_line
lines_take (suc i) no_line = no_line
lines_take (suc i) (and_line a m) = and_line a (lines_take i m)

-- permitted bytes end no line
permitted_is : (b n : ℕ) → permitted n ≡ false → permitted b ≡ true → eqb b n ≡ false
permitted_is b n f h = go (eqb b n) refl
  where
    go : (t : Bool) → eqb b n ≡ t → t ≡ false
    go true e = absurd (false≢true (sym f ∙ ap permitted (sym (eqb-true b n e)) ∙ h))
    go false e = refl

permitted_in : (b : ℕ) → permitted b ≡ true → in_line b ≡ true
unfolding permitted
permitted_in b h = ap not (permitted_is b 10 refl h)

permitted_last : {l : List ℕ} → All permitted l → ends_in 13 l ≡ false
unfolding permitted
permitted_last a = last_not 13 (λ b h. permitted_is b 13 refl h) a

module _ {c : Context} {r : Rec} {l : List ℕ} where
  spelled_in : SpellsRecord c r l → All in_line l
  spelled_in (as_line e p) = all_map permitted_in (line_first p).clean

  -- so byte 10 alone may end a line that spells a record
  spelled_ends : SpellsRecord c r l → End l (10 ∷ [])
  spelled_ends (as_line e p) = by_10 (permitted_last (line_first p).clean)

module _ (v : Rules) where
  abbrev pub canonical_lines : List Rec → List (List ℕ)
  canonical_lines [] = []
  canonical_lines (r ∷ rs) = canonical_record v r ∷ canonical_lines rs

  -- one for each record
  pub canonical_long : (rs : List Rec) → length (canonical_lines rs) ≡ length rs
  canonical_long [] = refl
  canonical_long (r ∷ rs) = ap suc (canonical_long rs)

  module _ (u : FileType) where
    canonical_lines_lem : {rs : List Rec} → Every (λ r. WellFormed (under v u) r) rs → Lines (canonical_lines rs)
    canonical_lines_lem every.none = no_line
    canonical_lines_lem (every.one {r} h f) = and_line (spelled_in (canonical_spells (under v u) r h)) (canonical_lines_lem f)

    -- they make the canonical text
    pub canonical_file : {rs : List Rec} → Every (λ r. WellFormed (under v u) r) rs → File (canonical_lines rs) (canonical_text v rs)
    unfolding canonical_text
    canonical_file every.none = none
    canonical_file (every.one {r} h f) = let s = canonical_spells (under v u) r h in rw append_assoc (next (spelled_in s) (spelled_ends s) (canonical_file f))

    pub canonical_spell : {rs : List Rec} {w : Where} → Every (λ r. WellFormed (under v u) r) rs → SpellsLines (under v u) w rs (canonical_lines rs)
    canonical_spell every.none = end
    canonical_spell (every.one {r} h f) = line (canonical_spells (under v u) r h) (canonical_spell f)

  pub through_mendable : {ls : List (List ℕ)} {rs : List Rec} {en : State} → Lines ls → Through v [] start ls rs en → Mendable v ls
  through_mendable {ls} {rs} {en} h k =
      let w = through_viable v rs en (through_runs v k) in
      let qs = w.0 in
      let u = titled (rs ++ qs) in
      let f = permitted_fit w.1 in
      let g = every_rest rs f in
      let made = lines_file (lines_append h (canonical_lines_lem u g)) in
      record {
        more = canonical_lines qs;
        records = rs ++ qs;
        file = made.0;
        made = made.1;
        say = record { spelled = through_spells v u k f (canonical_spell u g); permitted = w.1; distinct = w.2 };
      }
