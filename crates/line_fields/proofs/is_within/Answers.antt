-- `line_fields::is_within` meets its contract. Assumes nothing.
use borrow.Author.Rules.{rules}
use Rattle.line_fields.proofs.FieldLaws.{within_length, within_rotation, within_zero, within_above, within_turn, within_version}
use Rattle.line_fields.proofs.is_within.Goals as goal

ruleset laws = (within_length, within_rotation, within_zero, within_above, within_turn, within_version, rules)

pub enum_told-1 : goal.enum_told-1
enum_told-1 c = search laws

pub is_length-requires : goal.is_length-requires
is_length-requires c = search laws

pub enum_told-in-NotBelow : goal.enum_told-in-NotBelow
enum_told-in-NotBelow c = search laws

pub is_length-requires-in-NotBelow : goal.is_length-requires-in-NotBelow
is_length-requires-in-NotBelow c = search laws

pub is_below-requires : goal.is_below-requires
is_below-requires c = search laws

pub enum_told-in-Above : goal.enum_told-in-Above
enum_told-in-Above c = search laws

pub is_length-requires-in-Above : goal.is_length-requires-in-Above
is_length-requires-in-Above c = search laws

pub is_above-requires : goal.is_above-requires
is_above-requires c = search laws

pub enum_told-in-Included : goal.enum_told-in-Included
enum_told-in-Included c = search laws

pub in_turn-requires : goal.in_turn-requires
in_turn-requires c = search laws

pub enum_told-in-Rotation : goal.enum_told-in-Rotation
enum_told-in-Rotation c = search laws

pub is_angle-requires : goal.is_angle-requires
is_angle-requires c = search laws

pub enum_told-in-Version : goal.enum_told-in-Version
enum_told-in-Version c = search laws

pub is_version-requires : goal.is_version-requires
is_version-requires c = search laws

pub returns-in-Length : goal.returns-in-Length
returns-in-Length c = search laws

pub returns-in-NotBelow : goal.returns-in-NotBelow
returns-in-NotBelow c = search laws

pub returns-in-Above : goal.returns-in-Above
returns-in-Above c = search laws

pub returns-in-Included : goal.returns-in-Included
returns-in-Included c = search laws

pub returns-in-Rotation : goal.returns-in-Rotation
returns-in-Rotation c = search laws

pub returns-in-Version : goal.returns-in-Version
returns-in-Version c = search laws
