-- A line without regard to quoting, by which the fields of one without quotes are counted.
use Rattle.std.specs.Prelude.{ℕ, ◌+◌, List, [], ◌∷◌, Bool, true, false, cond, not, ◌&&◌, ◌||◌, eqb}
use Rattle.text_fields.specs.declared.Rough.{Rough}

abbrev pub one_if : Bool → ℕ
one_if b = cond b 1 0

-- how many bytes begin a field, where the byte before the first is a space or not
unfoldable pub starts_in : Bool → List ℕ → ℕ
starts_in p [] = 0
starts_in p (b ∷ s) = one_if (p && not (eqb b 32)) + starts_in (eqb b 32) s

unfoldable pub holds_quote : List ℕ → Bool
holds_quote [] = false
holds_quote (b ∷ s) = eqb b 34 || holds_quote s

unfoldable pub rough_of : List ℕ → Rough
rough_of s = record { starts = starts_in true s; quoted = holds_quote s }
