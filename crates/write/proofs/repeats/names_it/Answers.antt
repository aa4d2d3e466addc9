-- `write::repeats::names_it` meets its contract. Assumes nothing.
use borrow.Author.Rules.{rules}
use Rattle.write.proofs.NameLaws.{names_not, names_by}
use Rattle.write.proofs.repeats.names_it.Goals as goal

ruleset laws = (names_not, names_by, rules)

pub leads_component-requires : goal.leads_component-requires
leads_component-requires c = search laws

pub same_names-requires : goal.same_names-requires
same_names-requires c = search laws

pub returns-then-leads_component : goal.returns-then-leads_component
returns-then-leads_component c = search laws

pub returns : goal.returns
returns c = search laws
