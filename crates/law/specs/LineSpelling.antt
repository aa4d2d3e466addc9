-- "Blank and comment lines stand between sections, before the first or after the last": how the lines of a file spell a list of records.
use Rattle.std.specs.Prelude.{ℕ, List, [], ◌∷◌}
use Rattle.law.specs.Lines.{Free}
use Rattle.law.specs.Values.{Rec}
use Rattle.law.specs.Kinds.{role_of}
use Rattle.law.specs.declared.Role.{Role}
use Rattle.law.specs.declared.Role.TheVariants.{Opening as opening, Closing as closing, Title as title, Name as name, Lead as lead, Point as point, Prop as prop, Entry as entry, Part as part, Position as position, Unknown as unknown}
use Rattle.law.specs.RecordSpelling.{SpellsRecord}
use Rattle.law.specs.declared.Context.{Context}

-- outside of all sections, or inside one
pub data Where : Type 0 where
  outside inside : Where

-- after a line: an opening line leads inside, a closing line outside
abbrev pub leads_to : Role → Where → Where
leads_to opening w = inside
leads_to closing w = outside
leads_to title w = w
leads_to name w = w
leads_to lead w = w
leads_to point w = w
leads_to prop w = w
leads_to entry w = w
leads_to part w = w
leads_to position w = w
leads_to unknown w = w

-- each record has its line, in their order; comments and blank lines stand outside of sections only
pub data SpellsLines (c : Context) : Where → List Rec → List (List ℕ) → Type 0 where
  end : {w : Where} → SpellsLines c w [] []
  free : {rs : List Rec} {l : List ℕ} {ls : List (List ℕ)} → Free l → SpellsLines c outside rs ls → SpellsLines c outside rs (l ∷ ls)
  line : {w : Where} {r : Rec} {rs : List Rec} {l : List ℕ} {ls : List (List ℕ)}
      → SpellsRecord c r l → SpellsLines c (leads_to (role_of c.rules r.kind) w) rs ls → SpellsLines c w (r ∷ rs) (l ∷ ls)
