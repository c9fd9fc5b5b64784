use Rattle.std.proofs.Common.{◌∙◌, sym}
use Rattle.dip_map_chart.proofs.MapLaws.{map_law}
use Rattle.dip_map_chart.proofs.parts.Parts.first_fault.Goals as goal

pub returns-clause-lawful : goal.returns-clause-lawful
returns-clause-lawful c _ =
    map_law _
    (sym c.is_within_limits.ensures ∙ c.if-not-is_within_limits.false)
    (sym c.is_well_formed.ensures ∙ c.if-not-is_well_formed.false)
    (sym c.is_allowed.ensures ∙ c.if-not-is_allowed.false)
    (sym c.is_distinct.ensures ∙ c.if-not-is_distinct.false)
    (sym c.is_single.ensures ∙ c.if-not-is_single.false)
    (sym c.is_mutual.ensures ∙ c.if-not-is_mutual.false)
