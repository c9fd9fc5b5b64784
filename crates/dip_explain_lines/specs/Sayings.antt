-- What the code says of each unit of a list.
use Rattle.std.specs.Prelude.{ℕ, List}
use Rattle.dip_explain_lines.specs.declared.lines.Saying.{Saying}
use Rattle.dip_explain_lines.specs.declared.lines.Saying.TheVariants.{Prevents, Cuts, Spares, Serves, Strands}
use Rattle.dip_explain_strengths.specs.Matters.{Matter, unit_in}
use Rattle.dip_explain_lines.specs.Lines.{carrier_text, cut_text, spared_text}
use Rattle.dip_explain_strengths.specs.StrengthTexts.{prevent_text}

abbrev pub saying_text : Matter → Saying → ℕ → List ℕ
saying_text c (Prevents q) p = prevent_text c q p
saying_text c (Cuts h) p = cut_text c h p
saying_text c (Spares h) p = spared_text c h p
saying_text c Serves p = unit_in c p
saying_text c Strands p = carrier_text c p
