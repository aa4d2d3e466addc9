-- A point line as the loop rule takes it.
use Rattle.rows.specs.declared.Point.{Point}
use Rattle.law.specs.Values.{Rec}
use Rattle.law.specs.Records.{label_of, place_of, angle_of}

abbrev pub point_of : Rec → Point
point_of r = record { label = label_of r; x = record { 0 = (place_of r).x }; y = record { 0 = (place_of r).y }; angle = record { 0 = angle_of r } }
