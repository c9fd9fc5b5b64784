use Rattle.std.proofs.Common.{◌≡◌, ◌++◌, drop, string_bytes}
use Rattle.std.specs.List.{flat_map}
use Rattle.dip_desk_state.specs.Texts.{reply_text}
use Rattle.dip_desk_state.specs.Rows as rows
use Rattle.dip_desk_state.proofs.replies.reply_text.Given as goal

abbrev pub invariant-loop-piece : goal.invariant-loop-piece
invariant-loop-piece l = string_bytes l.out ++ flat_map (λ t. t.now) (drop l.piece-index l.piece-items) ≡ reply_text (rows.reply l.reply)
