use Rattle.std.proofs.Common.{◌≡◌}
use Rattle.std.specs.Str.{IsUtf8}
use Rattle.dip_letters.specs.Reading.{lines_fit, is_some, text_at}
use Rattle.dip_letters.proofs.press.texts_fit.Given as goal

abbrev pub invariant-loop-line : goal.invariant-loop-line
invariant-loop-line l = (lines_fit (λ l. is_some (text_at l)) l.left l.at ≡ lines_fit (λ l. is_some (text_at l)) 80 l.body) × IsUtf8 l.at

abbrev pub decreases-loop-line : goal.decreases-loop-line
decreases-loop-line l = l.left
