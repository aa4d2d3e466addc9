-- A text as it is written.
use Rattle.std.specs.Prelude.{ℕ, List}
use Rattle.law.specs.Fields.{field}
use Rattle.law.specs.Fits.{meaning}
use Rattle.law.specs.Canonical.{needs_quotes, written}
use Rattle.law.specs.declared.Texts.{Texts}
use Rattle.law.specs.declared.FieldType.TheVariants.{Text}

-- what it means at its field, with the quotes that this needs
abbrev pub meant_text : Texts → List ℕ → List ℕ
meant_text k s = written (field (needs_quotes (meaning (Text k) s)) (meaning (Text k) s))
